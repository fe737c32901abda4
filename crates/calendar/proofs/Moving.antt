-- A law for each way to an answer with a move, in the code's terms.
-- Assumes nothing.
use Prim.Native.Nat.{ℕ, ◌≤◌}
use mathlib.Core.Path.{◌≡◌, ap, sym, ◌∙◌}
use mathlib.Core.Bool.{Bool, true, false, not}
use mathlib.Core.List.{List}
use lib.IntN.{ℤ, pos, nat_abs, sub_ℕ}
use mir.Syntax.{w32}
use mir.Val.{to_z, of_z}
use Rattle.refusal.specs.Answer.{Answer, given, refused, need, then, TENOR}
use Rattle.period.specs.Period.{is_negative}
use Rattle.period.specs.declared.Unit.{Unit}
use Rattle.std.specs.Prelude.{Result, Ok, Err}
use Rattle.refusal.specs.declared.Refusal.{Refusal}
use Rattle.refusal.specs.Refusals.{number_of}
use Rattle.period.specs.declared.Unit.TheVariants.{Days}
use Rattle.date.specs.declared.Date.{Date}
use Rattle.date.specs.Date.{dated, SPAN_LAST, within_span, shifted}
use Rattle.date.specs.Laws.Moves.{diff_back}
use Rattle.date.specs.Laws.Made.{given_day, refused_day}
use Rattle.calendar.specs.declared.Convention.{Convention}
use Rattle.calendar.specs.AnyCalendar.{in_span, open_steps}
use Rattle.calendar.specs.Adjust.{advanced}
use Rattle.calendar.specs.Calendar.{tenor_ok}
use Rattle.calendar.specs.Moves.{moved_from, advance_base}
use Rattle.calendar.specs.Inner.Reach.{UpTo}
use Rattle.calendar.specs.Laws.Conventions.{within_given}
use Rattle.calendar.specs.Laws.HowFar.{sub_same}
use Rattle.calendar.specs.Laws.AdvanceMoves.{steps_up_to}
use Rattle.calendar.specs.Laws.Moved.{unmoved_then, moved_barred, moved_cleared}

-- ---- a day that stays
pub stays : (day new : ℕ) → within_span day ≡ given new → given (new, pos 0) ≡ moved_from (given day) (within_span day)
unfolding moved_from then
stays day new h = rw h (ap (λ (z : ℤ). given (new, z)) (none (within_given day new h)))
  where
    none : new ≡ day → pos 0 ≡ sub_ℕ new day
    none e = sym (ap (λ (k : ℕ). sub_ℕ k day) e ∙ sub_same day)

-- ---- a date that was found, and the days that were worked out from its base
pub went : (base new : ℕ) (found : Answer ℕ) (days : ℤ) → found ≡ given new → UpTo base found → (base ≤ SPAN_LAST → new ≤ SPAN_LAST → days ≡ sub_ℕ new base) → given (new, to_z w32 (of_z w32 days)) ≡ moved_from (given base) found
unfolding moved_from then
went base new found days e up h =
    let u = up new e in
    rw e (ap (λ (z : ℤ). given (new, z)) (rw (h u.0 u.1) (diff_back new base u.1 u.0)))

-- what a call handed on is what it answered
pub moved_same : {A : Type 0} (x y : Answer A) (f g : A → Answer ℕ) (r : Answer (ℕ × ℤ)) → r ≡ moved_from (then x f) (then x g) → x ≡ y → r ≡ moved_from (then y f) (then y g)
moved_same {A} x y f g r h e = h ∙ ap (λ (a : Answer A). moved_from (then a f) (then a g)) e

-- ---- a date from the day that a call gave, or nothing where it refused
module _ (start : Result Date Refusal) (a : Answer ℕ) (look : ℕ → Answer ℕ) (h : dated start ≡ a) where
  pub from_there : (x : Date) (r : Answer (ℕ × ℤ)) → start ≡ Ok x → r ≡ moved_from (given x.day) (look x.day) → r ≡ moved_from a (then a look)
  unfolding then
  from_there x r e q = let g = given_day start x a h e in rw g q

  pub from_nowhere : (n : Refusal) (base : Answer ℕ) → start ≡ Err n → refused (number_of n) ≡ moved_from base (then a look)
  from_nowhere n base e = unmoved_then a (number_of n) base look (refused_day start n a h e)

-- ---- open days: the day that the steps led to, from the sum with as many natural days
module _ (opens : ℕ → Bool) (back : Bool) (size day : ℕ) (s : in_span day ≡ true) (sum : Result Date Refusal) (h : dated sum ≡ shifted day back size Days) (new : ℕ) (f : open_steps opens back size day ≡ given new) where
  pub led : (x : Date) (r : Answer (ℕ × ℤ)) → sum ≡ Ok x → (UpTo x.day (given new) → r ≡ moved_from (given x.day) (given new)) → r ≡ moved_from (shifted day back size Days) (open_steps opens back size day)
  led x r e k =
      let g = given_day sum x _ h e in
      rw (g, f) (k (steps_up_to opens back size day x.day (given new) s (sym f) g))

  pub led_nowhere : (n : Refusal) → sum ≡ Err n → refused (number_of n) ≡ moved_from (shifted day back size Days) (open_steps opens back size day)
  unfolding moved_from then
  led_nowhere n e = let g = refused_day sum n _ h e in rw (f, g)

-- ---- advance: the sign and the size of the length, as the calls gave them
module _ (length sent : ℤ) (unit : Unit) (size : ℕ) (short : Bool) (same : sent ≡ length) (s : size ≡ nat_abs sent) (q : short ≡ tenor_ok size unit) where
  test : short ≡ tenor_ok (nat_abs length) unit
  test = q ∙ ap (λ (k : ℕ). tenor_ok k unit) (s ∙ ap nat_abs same)

  pub tenor_long : (base x : Answer ℕ) → not short ≡ true → refused TENOR ≡ moved_from base (need TENOR (tenor_ok (nat_abs length) unit) x)
  tenor_long base x e = moved_barred base _ _ _ _ test e

  pub tenor_fits : (mask : ℕ) (closed : List ℕ) (convention : Convention) (monthend : Bool) (day : ℕ) (back : Bool) (r : Answer (ℕ × ℤ)) → back ≡ is_negative sent → not short ≡ false → r ≡ moved_from (advance_base mask closed back size unit monthend day) (advanced mask closed back size unit convention monthend day) → r ≡ moved_from (advance_base mask closed (is_negative length) (nat_abs length) unit monthend day) (need TENOR (tenor_ok (nat_abs length) unit) (advanced mask closed (is_negative length) (nat_abs length) unit convention monthend day))
  tenor_fits mask closed convention monthend day back r n e h =
      moved_cleared _ _ _ _ _ _ test e
      (h
      ∙ ap (λ (b : Bool). moved_from (advance_base mask closed b size unit monthend day) (advanced mask closed b size unit convention monthend day)) (n ∙ ap is_negative same)
      ∙ ap (λ (k : ℕ). moved_from (advance_base mask closed (is_negative length) k unit monthend day) (advanced mask closed (is_negative length) k unit convention monthend day)) (s ∙ ap nat_abs same))
