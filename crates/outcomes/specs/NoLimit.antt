-- The steps of document 01 with no room limit: one answer, which every room that suffices gives, and every build that is not refused for room.
-- Assumes nothing.
use Prim.Native.Nat.{ℕ, zero, suc, ◌+◌, ◌≤◌, ◌<◌, min}
use Rattle.std.specs.Prelude.{◌≡◌, List}
use Rattle.std.proofs.Math.Path.{refl}
use Rattle.std.proofs.Common.{sym, ◌∙◌, arith}
use borrow.Author.Tests.{eq-eqb}
use Rattle.refusal.specs.Answer.{Answer, given, refused, then, ROOM}
use Rattle.refusal.specs.Laws.Answers.{never_both}
use Rattle.steps.specs.declared.Request.{Request}
use Rattle.steps.specs.Table.{first_row, input_rows}
use Rattle.steps.specs.Generate.{generate}
use Rattle.steps.specs.Finish.{finish}
use Rattle.steps.specs.Build.{Schedule, steps_of, admitted, build_of}
use Rattle.outcomes.specs.Laws.Roomless.{finish_free}
use Rattle.outcomes.specs.Laws.Room.{Under, full, same, gives, onward, after, generates}

-- ---- the steps with as much room as that, over 4,096 too; a build has the room lent, and 4,096 at most
unfoldable pub steps_in : Request → List ℕ → ℕ → Answer Schedule
steps_in q closed room =
    then (generate q closed room) (λ made.
    then (finish q closed made.seed made.dates made.flags) (λ done.
    given (record { dates = done.dates; flags = done.flags; tries = made.tries })))

-- the steps with no room limit answer so: every room from some room on gives it
pub record NoLimit (q : Request) (closed : List ℕ) (o : Answer Schedule) : Type 0 where
  pub enough : ℕ
  pub from_there : (room : ℕ) → enough ≤ room → steps_in q closed room ≡ o

module _ (q : Request) (closed : List ℕ) where
  pub steps_cut : (room : ℕ) → steps_of q closed room ≡ steps_in q closed (min room 4096)
  unfolding steps_of steps_in
  steps_cut room = refl

  abbrev any : Schedule → ℕ
  any s = 0

  steps : (r r' : ℕ) → r ≤ r' → Under r any 876222 (steps_in q closed r) (steps_in q closed r')
  unfolding steps_in
  steps r r' h = after _ _ (omega arith) (generates r r' h q closed) (λ made i. onward _ (finish_free q closed _ _ _) (λ done. gives 876222 _ (omega arith)))

  settle : (r r' : ℕ) → Under r any 876222 (steps_in q closed r) (steps_in q closed r') → (steps_in q closed r ≡ refused ROOM → ⊥) → steps_in q closed r' ≡ steps_in q closed r
  settle r r' (full h e) n = absurd (n e)
  settle r r' (same e u h) n = sym e

  ample : (r r' : ℕ) → 876222 ≤ r → Under r any 876222 (steps_in q closed r) (steps_in q closed r') → steps_in q closed r' ≡ steps_in q closed r
  ample r r' l (full h e) = let bad : ⊥ = omega arith in absurd bad
  ample r r' l (same e u h) = sym e

  within : (r : ℕ) → Under r any 876222 (steps_in q closed r) (steps_in q closed r) → steps_in q closed r ≡ refused ROOM → r < 876222
  within r (full h e) x = h
  within r (same e u h) x = absurd (u.never x)

  -- 876,222 places are enough for any request
  pub room_enough : (room : ℕ) → steps_in q closed room ≡ refused ROOM → room < 876222
  room_enough room x = within room (steps room room (omega arith)) x

  -- ---- more room changes nothing
  pub more_room : (r r' : ℕ) → r ≤ r' → (steps_in q closed r ≡ refused ROOM → ⊥) → steps_in q closed r' ≡ steps_in q closed r
  more_room r r' h n = settle r r' (steps r r' h) n

  pub more_room_cut : (r r' : ℕ) → r ≤ r' → (steps_of q closed r ≡ refused ROOM → ⊥) → steps_of q closed r' ≡ steps_of q closed r
  more_room_cut r r' h n = steps_cut r' ∙ more_room (min r 4096) (min r' 4096) (omega arith) (λ e. n (steps_cut r ∙ e)) ∙ sym (steps_cut r)

  same_rows : (r r' : ℕ) → input_rows q closed r r ≡ input_rows q closed r' r'
  unfolding input_rows
  same_rows r r' = rw (eq-eqb r r refl, eq-eqb r' r' refl) refl

  admitted_more : (n r r' : ℕ) → r ≤ r' → (admitted n (steps_of q closed) r ≡ refused ROOM → ⊥) → admitted n (steps_of q closed) r' ≡ admitted n (steps_of q closed) r
  unfolding admitted
  admitted_more zero r r' h n = more_room_cut r r' h n
  admitted_more (suc k) r r' h n = refl

  -- so of builds: as many places lent for dates as for flags
  pub more_lent : (r r' : ℕ) → r ≤ r' → (build_of q closed r r ≡ refused ROOM → ⊥) → build_of q closed r' r' ≡ build_of q closed r r
  unfolding build_of
  more_lent r r' h n = rw (same_rows r' r) (admitted_more (first_row (input_rows q closed r r)) r r' h n)

  -- ---- no room limit: there is an answer, and no other
  pub no_limit_is : NoLimit q closed (steps_in q closed 876222)
  no_limit_is = record { enough = 876222; from_there = λ room h. ample 876222 room (omega arith) (steps 876222 room h) }

  pub no_limit_once : (o o' : Answer Schedule) → NoLimit q closed o → NoLimit q closed o' → o ≡ o'
  no_limit_once o o' a b = sym (a.from_there (a.enough + b.enough) (omega arith)) ∙ b.from_there (a.enough + b.enough) (omega arith)

  -- it is no refusal for room
  pub no_limit_free : NoLimit q closed (refused ROOM) → ⊥
  no_limit_free a = omega (arith, room_enough (a.enough + 876222) (a.from_there (a.enough + 876222) (omega arith)))

  -- it is what the steps answer with any room that they are not refused for
  pub no_limit_in : (room : ℕ) (o : Answer Schedule) → steps_in q closed room ≡ o → (o ≡ refused ROOM → ⊥) → NoLimit q closed o
  no_limit_in room o e n = record { enough = room; from_there = λ r h. more_room room r h (λ f. n (sym e ∙ f)) ∙ e }

  -- and what a build gives
  pub no_limit_built : (dates flags : ℕ) (s : Schedule) → build_of q closed dates flags ≡ given s → NoLimit q closed (given s)
  unfolding build_of admitted
  no_limit_built dates flags s h = by (first_row (input_rows q closed dates flags)) h
    where
      by : (n : ℕ) → admitted n (steps_of q closed) dates ≡ given s → NoLimit q closed (given s)
      by zero e = no_limit_in (min dates 4096) (given s) (sym (steps_cut dates) ∙ e) (λ f. never_both (given s) s ROOM refl f)
      by (suc n) e = absurd (never_both _ s (suc n) e refl)
