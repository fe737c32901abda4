-- The count of candidates that the definition looks at suffices: for a request that passes the input checks, looking at more of them gives the same.
-- Assumes nothing.
use Prim.Native.Nat.{ℕ, zero, suc, ◌+◌}
use Rattle.std.specs.Prelude.{◌≡◌, Bool, true, false, List}
use Rattle.std.proofs.Math.Path.{refl}
use native.Mathlib.Omega.{arith}
use Rattle.refusal.specs.Answer.{Answer, given, refused, then, BOOK}
use Rattle.steps.specs.declared.Request.{Request}
use Rattle.steps.specs.Rules.{rule_in_force, is_zero, is_backward, pace_of}
use Rattle.steps.specs.Table.{first_row, input_rows}
use Rattle.steps.specs.Candidates.{Turn, past, skip, keep, seed_of, turn_of}
use Rattle.steps.specs.Generate.{Lists, Walk, Opened, newest, put, on_turn, last_try, walk, candidates, anchor_or, begun, back_seed, opened}
use Rattle.outcomes.specs.Late.{Late, by_search, by_room, by_merge, Fine}
use Rattle.outcomes.specs.Searches.{Searches}
use Rattle.outcomes.proofs.Laws.Generating.{passed, GoodWalk, begun_fine, back_loop_fine, opened_fine, forth_loop_fine, pace_fine}

-- ---- any walk that does not end in 2 is the same with more candidates
abbrev More : (Lists → Answer Walk) → (Lists → Answer Walk) → Type 0
More f g = (m : Lists) → (f m ≡ refused BOOK → ⊥) → g m ≡ f m

after : (x : Answer Lists) (f g : Lists → Answer Walk) → More f g → (then x f ≡ refused BOOK → ⊥) → then x g ≡ then x f
unfolding then
after (given l) f g s h = s l h
after (refused n) f g s h = refl

module _ (room : ℕ) where
  on : (t : Turn) (k : ℕ) (l : Lists) (f g : Lists → Answer Walk) → More f g → (on_turn room t k l f ≡ refused BOOK → ⊥) → on_turn room t k l g ≡ on_turn room t k l f
  unfolding on_turn
  on past k l f g s h = refl
  on skip k l f g s h = s l h
  on (keep day) k l f g s h = after (put room day 1 l) f g s h

  turned : (a : Answer Turn) (k : ℕ) (l : Lists) (f g : Lists → Answer Walk) → More f g → (then a (λ t. on_turn room t k l f) ≡ refused BOOK → ⊥) → then a (λ t. on_turn room t k l g) ≡ then a (λ t. on_turn room t k l f)
  unfolding then
  turned (given t) k l f g s h = on t k l f g s h
  turned (refused n) k l f g s h = refl

  walk_more : (turn : ℕ → ℕ → Answer Turn) (more left k : ℕ) (l : Lists) → (walk turn room left k l ≡ refused BOOK → ⊥) → walk turn room (left + more) k l ≡ walk turn room left k l
  unfolding walk
  walk_more turn more zero k l h = absurd (h refl)
  walk_more turn more (suc left) k l h =
      let e : suc left + more ≡ suc (left + more) = omega arith in
      rw e (turned (turn (newest l) k) k l (walk turn room left (suc k)) (walk turn room (left + more) (suc k)) (λ m i. walk_more turn more left (suc k) m i) h)

-- ---- where a build enters its loop: the direction, the seed, the exit date, and the dates put so far
pub data Enters (q : Request) (closed : List ℕ) (room : ℕ) : Bool → ℕ → ℕ → Lists → Type 0 where
  backwards : (l : Lists) → is_zero (rule_in_force q) ≡ false → is_backward (rule_in_force q) ≡ true → begun q room ≡ given l → Enters q closed room true (back_seed q) (anchor_or q.first.day q.effective.day) l
  forwards : (o : Opened) → is_zero (rule_in_force q) ≡ false → is_backward (rule_in_force q) ≡ false → opened q closed room ≡ given o → Enters q closed room false o.seed (anchor_or q.penultimate.day q.termination.day) o.lists

-- as `candidates`, which looks at 876,216 of them, with as many as that
unfoldable pub candidates_in : ℕ → Request → List ℕ → ℕ → Bool → ℕ → ℕ → Lists → Answer Walk
candidates_in left q closed room back seed exit l =
    walk (turn_of q.mask closed q.convention back (pace_of q.tenor) (seed_of q.monthend seed) exit) room left 1 l

never_late : {c : Type 0} → Late c BOOK → ⊥
never_late (by_search s e) = omega arith
never_late (by_room e) = omega arith
never_late (by_merge e) = omega arith

module _ (q : Request) (closed : List ℕ) (dates flags room : ℕ) (h : first_row (input_rows q closed dates flags) ≡ 0) where
  pub looped : {back : Bool} {seed exit : ℕ} {l : Lists} → Enters q closed room back seed exit l → Fine (Searches q) GoodWalk (candidates q closed room back seed exit l)
  looped (backwards l z b e) =
      let k = passed q closed dates flags h in
      let p = pace_fine q closed room k z in
      back_loop_fine q closed room k p l ((begun_fine q closed room k p).holds l e)
  looped (forwards o z b e) =
      let k = passed q closed dates flags h in
      let p = pace_fine q closed room k z in
      forth_loop_fine q closed room k p b o ((opened_fine q closed room k p b).holds o e)

  pub bound_suffices : {back : Bool} {seed exit : ℕ} {l : Lists} → Enters q closed room back seed exit l → (more : ℕ) → candidates_in (last_try + more) q closed room back seed exit l ≡ candidates q closed room back seed exit l
  unfolding candidates candidates_in
  bound_suffices {back} {seed} {exit} {l} i more = walk_more room (turn_of q.mask closed q.convention back (pace_of q.tenor) (seed_of q.monthend seed) exit) more last_try 1 l (λ e. never_late ((looped i).late BOOK e))
