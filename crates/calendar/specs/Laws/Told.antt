-- What an answer tells a caller, by the case that it was.
-- Assumes nothing.
use Rattle.std.specs.Prelude.{ℕ, ◌%◌, ◌≡◌, Bool, not, List, eqb}
use Rattle.std.proofs.Math.Path.{refl, sym}
use Rattle.std.proofs.Common.{◌∙◌}
use Rattle.std.proofs.Math.Bool.{true, false}
use Rattle.refusal.specs.Answer.{Answer, given, refused, answered, need, CALENDAR}
use Rattle.refusal.specs.Laws.Answers.{need_given, never_both, both, was_given, was_refused}
use Rattle.std.specs.Prelude.{Result, Ok, Err}
use Rattle.refusal.specs.declared.Refusal.{Refusal}
use Rattle.refusal.specs.Refusals.{number_of}
use Rattle.calendar.specs.Open.{closed_ok, calendar_ok}
use Rattle.calendar.specs.Calendar.{check_of}

-- a sound calendar's list keeps its rule
pub ok_closed : (mask : ℕ) (closed : List ℕ) → calendar_ok mask closed ≡ true → closed_ok closed ≡ true
unfolding calendar_ok
ok_closed mask closed e = (both (not (eqb (mask % 128) 127)) _ e).1

barred_by : {A : Type 0} (a : A) (b : Bool) (n : ℕ) → need CALENDAR b (given a) ≡ refused n → b ≡ false
unfolding need
barred_by a true n q = absurd (never_both _ a n refl q)
barred_by a false n q = refl

module _ (r : Result (Unit {0}) Refusal) (mask : ℕ) (closed : List ℕ) (h : answered r ≡ check_of mask closed) where
  pub sound_calendar : r ≡ Ok tt → calendar_ok mask closed ≡ true
  unfolding check_of
  sound_calendar e = (need_given CALENDAR (calendar_ok mask closed) _ tt (sym h ∙ rw e)).0

  pub sound_list : r ≡ Ok tt → closed_ok closed ≡ true
  sound_list e = ok_closed mask closed (sound_calendar e)

  pub refused_calendar : (n : Refusal) → r ≡ Err n → calendar_ok mask closed ≡ false
  unfolding check_of
  refused_calendar n e = barred_by tt (calendar_ok mask closed) (number_of n) (sym h ∙ rw e)

-- what a call decided, by the case that it was
module _ (r : Result Bool Refusal) (a : Answer Bool) (h : answered r ≡ a) where
  pub told_yes : r ≡ Ok true → a ≡ given true
  told_yes e = was_given r true a h e

  pub told_no : r ≡ Ok false → a ≡ given false
  told_no e = was_given r false a h e

  pub told_refused : (n : Refusal) → r ≡ Err n → a ≡ refused (number_of n)
  told_refused n e = was_refused r n a h e
