-- One tenor on the given calendar, from a date of 1900 to 2200, is refused with 13 if at all: in days, which step from open day to open day,
-- under a convention that adjusts, or with end of month on.
-- Assumes nothing.
use Prim.Native.Nat.{ℕ, zero, suc, ◌+◌, ◌*◌, ◌≤◌}
use Rattle.std.specs.Prelude.{◌≡◌, refl, Bool, List}
use Rattle.std.proofs.Math.Bool.{true, false}
use Rattle.std.proofs.Common.{arith}
use borrow.Author.Tests.{leb-true}
use Rattle.refusal.specs.Answer.{Answer, then}
use Rattle.period.specs.declared.Unit.{Unit as TimeUnit}
use Rattle.period.specs.declared.Unit.TheVariants.{Days, Weeks, Months, Years}
use Rattle.date.specs.Civil.{fields_of}
use Rattle.date.specs.Date.{month_index, step, shift_days, shift_months, shifted}
use Rattle.date.specs.Laws.Round.{fields_valid}
use Rattle.calendar.specs.declared.Convention.{Convention}
use Rattle.calendar.specs.declared.Convention.TheVariants.{Following, Preceding}
use Rattle.calendar.specs.AnyCalendar as any
use Rattle.calendar.specs.Adjust.{in_span, towards, open_steps, end_asked, landed, add_weeks, by_unit, advanced}
use Rattle.calendar.specs.Calendar.{longest, tenor_ok}
use Rattle.outcomes.specs.Late.{Fine, Any, gives, steps, weaker, tested}
use Rattle.outcomes.specs.Laws.Searched.{Wide, Asks, wide_span, within_fine, adjusted_fine}
use Rattle.outcomes.specs.Laws.Days.{month_fine, last_as, At, at_wide, at_close, at_more, end_fine, Between, Mid, mid_at, wide_by, in_between}

module _ {c : Type 0} (mask : ℕ) (closed : List ℕ) where
  open_fine : c → (size m day : ℕ) → At m day → m + 32 * size ≤ 36000 → Fine c Any (open_steps mask closed false size day)
  unfolding any.open_steps towards step
  open_fine s zero m day a h = gives day tt
  open_fine s (suc size) m day a h =
      let b : At (m + 1) (day + 1) = record { low = omega (arith, a.low); high = omega (arith, a.high) } in
      steps _ (adjusted_fine mask closed Following (day + 1) (λ _. s) (at_wide (m + 1) (day + 1) (omega arith) b)) (λ r i. open_fine s size (m + 32) r (at_more (m + 1 + 31) (m + 32) r (omega arith) (at_close (m + 1) 31 (day + 1) r b i)) (omega arith))

  module _ (convention : Convention) (asks : Asks c convention) (monthend : Bool) (ends : monthend ≡ true → c) (day : ℕ) (m : Mid day) where
    weeks_fine : (size : ℕ) → size ≤ 520 → Fine c Any (add_weeks mask closed false size convention day)
    unfolding any.add_weeks shifted shift_days step
    weeks_fine size h =
        let a = mid_at day m in
        steps _ (within_fine {P = Wide} (day + 7 * size) (omega (arith, a.low)) (omega (arith, a.high)) (record { low = omega (arith, a.low); high = omega (arith, a.high) })) (λ r w. weaker (adjusted_fine mask closed convention r asks w) (λ x i. tt))

    -- the date is at month end only where end of month is on
    asked_fine : (b : Bool) → (b ≡ true → c) → Fine c (λ (end : Bool). end ≡ true → c) (end_asked mask closed b day)
    unfolding any.end_asked
    asked_fine true h = weaker (end_fine 0 day (omega arith) (mid_at day m) mask closed (h refl)) (λ end i e. h refl)
    asked_fine false h = gives false h

    landed_fine : (b : Bool) → (b ≡ true → c) → (r : ℕ) → Between 21602 28797 r → Fine c Any (landed mask closed convention r b)
    unfolding any.landed any.last_open
    landed_fine true h r w =
        rw (last_as r)
        (steps _ (month_fine (month_index r) 31 (omega arith) (omega (arith, w.from)) (omega (arith, w.to))) (λ x i.
        weaker (adjusted_fine mask closed Preceding x (λ _. h refl) (wide_by x (in_between (month_index r) 21602 28797 x w.from w.to i))) (λ z j. tt)))
    landed_fine false h r w = weaker (adjusted_fine mask closed convention r asks (wide_by r w)) (λ x i. tt)

    months_fine : (k : ℕ) → k ≤ 1200 → Fine c (Between 21602 28797) (shift_months day false k)
    unfolding shift_months step
    months_fine k h =
        weaker (month_fine (month_index day + k) (fields_of day).day (fields_valid day).first (omega (arith, m.from)) (omega (arith, m.to))) (λ r i.
        in_between (month_index day + k) 21602 28797 r (omega (arith, m.from)) (omega (arith, m.to)) i)

    on_fine : {x : Answer ℕ} → Fine c (Between 21602 28797) x → Fine c Any (then x (λ r. then (end_asked mask closed monthend day) (landed mask closed convention r)))
    on_fine u = steps _ u (λ r w. steps _ (asked_fine monthend ends) (λ end e. landed_fine end e r w))

    unit_fine : (u : TimeUnit) (n : ℕ) → (u ≡ Days → c) → tenor_ok n u ≡ true → Fine c Any (by_unit mask closed false n u convention monthend day)
    unfolding any.by_unit tenor_ok longest any.add_months shifted
    unit_fine Days n s t = open_fine (s refl) n 0 day (mid_at day m) (omega (arith, leb-true n 366 t))
    unit_fine Weeks n s t = weeks_fine n (leb-true n 520 t)
    unit_fine Months n s t = on_fine (months_fine n (leb-true n 1200 t))
    unit_fine Years n s t = on_fine (months_fine (12 * n) (omega (arith, leb-true n 100 t)))

    pub advanced_fine : (u : TimeUnit) (n : ℕ) → (u ≡ Days → c) → tenor_ok n u ≡ true → Fine c Any (advanced mask closed false n u convention monthend day)
    unfolding any.advanced
    advanced_fine u n s t = tested (in_span day) (wide_span day (at_wide 0 day (omega arith) (mid_at day m))) (unit_fine u n s t)
