-- One step of the check of a list, in the code's terms.
-- Assumes nothing.
use Prim.Native.Nat.{ℕ, ◌+◌, ◌-◌, ◌≤◌, ◌<◌}
use mathlib.Core.Path.{◌≡◌, refl, sym, ap, ◌∙◌}
use mathlib.Core.Bool.{Bool, true, false, ◌&&◌}
use mathlib.Core.List.{List, [], ◌∷◌}
use native.Mathlib.Numerals.{add-one}
use native.Mathlib.Nat.{add-sub_cancel}
use native.Mathlib.Omega.{arith}
use lib.ListN.{length, get_or, drop, drop_of_length-le}
use lib.Seq.{drop-cons}
use borrow.Author.Rules.{rules}
use lib.Dec.{leb, ltb}
use borrow.Author.Tests.{le-leb, lt-leb, leb-true, ltb-true}
use Rattle.date.specs.Date.{SPAN_FIRST, SPAN_LAST}
use Rattle.calendar.specs.Open.{ascending, closed_ok}

-- the rule of date x and of those that follow it, but for x's lower bound
unfoldable pub on_from : ℕ → List ℕ → Bool
on_from x xs = leb x SPAN_LAST && ascending (x + 1) SPAN_LAST xs

-- what holds of the list is what `keeps` says of the dates before place i and the rule of the last of them and of those that follow
pub record Kept (closed : List ℕ) (keeps : Bool) (i : ℕ) : Type 0 where
  pub few : length closed ≤ 4096
  pub begun : 1 ≤ i
  pub within : i ≤ length closed
  pub same : (keeps && on_from (get_or closed (i - 1) 0) (drop i closed)) ≡ closed_ok closed

pub kept_long : (closed : List ℕ) → 4096 < length closed → false ≡ closed_ok closed
unfolding closed_ok
kept_long closed h = sym (rw (lt-leb (length closed) 4096 h))

pub kept_none : (closed : List ℕ) → length closed ≡ 0 → true ≡ closed_ok closed
unfolding closed_ok ascending
kept_none [] h = refl
kept_none (x ∷ xs) h = let bad : ⊥ = omega arith in absurd bad

pub kept_start : (closed : List ℕ) → length closed ≤ 4096 → (length closed ≡ 0 → ⊥) → Kept closed (leb SPAN_FIRST (get_or closed 0 0)) 1
unfolding closed_ok ascending on_from
kept_start [] h some = absurd (some refl)
kept_start (x ∷ xs) h some =
    record {
      few = h;
      begun = omega arith;
      within = omega arith;
      same = sym (rw (le-leb (length (x ∷ xs)) 4096 h));
    }

-- a date below one that is in time is in time
in_time : (k a b t r : Bool) → (a ≡ true → b ≡ true → t ≡ true) → ((k && a) && (b && r)) ≡ (k && (t && (a && (b && r))))
in_time false a b t r h = refl
in_time true false b true r h = refl
in_time true false b false r h = refl
in_time true true false true r h = refl
in_time true true false false r h = refl
in_time true true true t r h = rw (h refl refl)

and_true : (k : Bool) → (k && true) ≡ k
and_true true = refl
and_true false = refl

module _ {closed : List ℕ} {keeps : Bool} {i : ℕ} (g : Kept closed keeps i) where
  pub kept_next : i < length closed → Kept closed (keeps && ltb (get_or closed (i - 1) 0) (get_or closed i 0)) (i + 1)
  unfolding ascending on_from
  kept_next h =
      let low = get_or closed (i - 1) 0 in
      let x = get_or closed i 0 in
      let rest = ascending (x + 1) SPAN_LAST (drop (i + 1) closed) in
      let e : (keeps && (leb low SPAN_LAST && ascending (low + 1) SPAN_LAST (drop i closed))) ≡ (keeps && (leb low SPAN_LAST && (ltb low x && (leb x SPAN_LAST && rest)))) = simp (drop-cons closed i 0 h, add-one i, add-one low) in
      record {
        few = g.few;
        begun = omega arith;
        within = omega arith;
        same =
            ap (λ (k : ℕ). (keeps && ltb low x) && on_from (get_or closed k 0) (drop (i + 1) closed)) (add-sub_cancel i 1)
            ∙ in_time keeps (ltb low x) (leb x SPAN_LAST) (leb low SPAN_LAST) rest (λ a b. le-leb low SPAN_LAST (omega (arith, ltb-true low x a, leb-true x SPAN_LAST b)))
            ∙ sym e
            ∙ g.same;
      }

  pub kept_end : length closed ≤ i → (keeps && leb (get_or closed (i - 1) 0) SPAN_LAST) ≡ closed_ok closed
  unfolding ascending on_from
  kept_end h =
      let low = get_or closed (i - 1) 0 in
      let e : (keeps && (leb low SPAN_LAST && ascending (low + 1) SPAN_LAST (drop i closed))) ≡ (keeps && leb low SPAN_LAST) = rw (drop_of_length-le closed h) (ap (λ (b : Bool). keeps && b) (and_true (leb low SPAN_LAST))) in
      sym e ∙ g.same

pub ruleset checks = (kept_long, kept_none, kept_start, kept_next, kept_end, rules)
