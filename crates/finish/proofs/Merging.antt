-- A law for each way through the two merges.
-- Assumes nothing.
use mathlib.Core.Path.{◌≡◌, refl, ◌∙◌}
use mathlib.Core.Bool.{Bool, true, false, ◌&&◌}
use mathlib.Core.List.{List}
use Prim.Native.Nat.{ℕ, ◌+◌, ◌-◌, ◌≤◌, ◌<◌}
use native.Mathlib.Omega.{arith}
use lib.ListN.{length, get_or, set}
use lib.Seq.{take_all, take-length}
use lib.Dec.{leb}
use borrow.Author.Tests.{le-leb, lt-leb}
use borrow.Author.Rules.{rules}
use Rattle.refusal.specs.Answer.{COLLAPSED}
use Rattle.refusal.specs.Laws.Answers.{fails, holds}
use Rattle.steps.specs.Finish.{merge_end, merge_end_if, meet_at_end, merge_front, merge_front_if, meet_at_front, same_flag}
use Rattle.std.specs.Prelude.{Ok, Err}
use Rattle.refusal.specs.declared.Refusal.TheVariants.{Collapsed}
use Rattle.finish.specs.Ends.{EndMerged, left_from, Short, FrontMerged}

both_true : (a b : Bool) → a ≡ true → b ≡ true → (a && b) ≡ true
both_true a b p q = rw (p, q)

second_false : (a b : Bool) → b ≡ false → (a && b) ≡ false
second_false true b e = e
second_false false b e = refl

first_false : (a b : Bool) → a ≡ false → (a && b) ≡ false
first_false a b e = rw e

-- ---- the merge at the end
module _ (ds fs : List ℕ) (even : length ds ≡ length fs + 1) where
  apart : meet_at_end ds ≡ false → EndMerged ds fs (length ds) ds fs
  unfolding merge_end merge_end_if
  apart e =
      record {
        some = omega arith;
        few = omega arith;
        dates = take-length ds ∙ rw e;
        flags = take_all (length ds - 1) fs (omega arith) ∙ rw e;
      }

  pub end_one : length ds < 2 → EndMerged ds fs (length ds) ds fs
  unfolding meet_at_end
  end_one h = apart (first_false _ _ (lt-leb 2 (length ds) h))

  pub end_apart : get_or ds (length ds - 2) 0 < get_or ds (length ds - 1) 0 → EndMerged ds fs (length ds) ds fs
  unfolding meet_at_end
  end_apart h = apart (second_false (leb 2 (length ds)) _ (lt-leb (get_or ds (length ds - 1) 0) (get_or ds (length ds - 2) 0) h))

  module _ (two : 2 ≤ length ds) (h : get_or ds (length ds - 1) 0 ≤ get_or ds (length ds - 2) 0) where
    meet : meet_at_end ds ≡ true
    unfolding meet_at_end
    meet = both_true _ _ (le-leb 2 (length ds) two) (le-leb _ _ h)

    pub end_two : length ds < 3 → EndMerged ds fs (length ds - 1) (set ds (length ds - 2) (get_or ds (length ds - 1) 0)) fs
    unfolding merge_end merge_end_if
    end_two few =
        let one : length fs ≡ 1 = omega arith in
        let a : length ds - 1 - 1 ≡ 0 = omega arith in
        let b : length fs - 1 ≡ 0 = omega arith in
        record {
          some = omega arith;
          few = omega arith;
          dates = rw meet refl;
          flags = rw (meet, a, b) refl;
        }

    pub end_more : (f : ℕ) → 3 ≤ length ds → f ≡ same_flag (get_or ds (length ds - 2) 0) (get_or ds (length ds - 1) 0) → EndMerged ds fs (length ds - 1) (set ds (length ds - 2) (get_or ds (length ds - 1) 0)) (set fs (length ds - 3) f)
    unfolding merge_end merge_end_if
    end_more f many e =
        let a : length ds - 1 - 1 ≡ length fs - 1 = omega arith in
        let b : length ds - 3 ≡ length fs - 2 = omega arith in
        record {
          some = omega arith;
          few = omega arith;
          dates = rw meet refl;
          flags = rw (meet, a, b, e) refl;
        }

pub ruleset ends = (end_one, end_apart, end_two, end_more, rules)

-- ---- the merge at the front
module _ (ds fs : List ℕ) where
  stays : meet_at_front ds ≡ false → FrontMerged ds fs (Ok 0) ds fs
  unfolding merge_front merge_front_if left_from Short
  stays e = record { says = rw e refl; short = omega arith }

  pub front_one : length ds < 2 → FrontMerged ds fs (Ok 0) ds fs
  unfolding meet_at_front
  front_one h = stays (first_false _ _ (lt-leb 2 (length ds) h))

  pub front_apart : get_or ds 0 0 < get_or ds 1 0 → FrontMerged ds fs (Ok 0) ds fs
  unfolding meet_at_front
  front_apart h = stays (second_false (leb 2 (length ds)) _ (lt-leb (get_or ds 1 0) (get_or ds 0 0) h))

  module _ (two : 2 ≤ length ds) (h : get_or ds 1 0 ≤ get_or ds 0 0) where
    join : meet_at_front ds ≡ true
    unfolding meet_at_front
    join = both_true _ _ (le-leb 2 (length ds) two) (le-leb _ _ h)

    pub front_two : length ds < 3 → FrontMerged ds fs (Err Collapsed) ds fs
    unfolding merge_front merge_front_if left_from Short
    front_two few = record { says = rw join (fails COLLAPSED _ _ (lt-leb 3 (length ds) few)); short = tt }

    pub front_more : (f : ℕ) → 3 ≤ length ds → f ≡ same_flag (get_or ds 1 0) (get_or ds 0 0) → FrontMerged ds fs (Ok 1) (set ds 1 (get_or ds 0 0)) (set fs 1 f)
    unfolding merge_front merge_front_if left_from Short
    front_more f many e = record { says = rw (join, e) (holds COLLAPSED _ _ _ (le-leb 3 (length ds) many) refl); short = omega arith }

pub ruleset fronts = (front_one, front_apart, front_two, front_more, rules)
