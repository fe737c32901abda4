-- How far an advance moved (change request L8): dates and refusals are the former ones on every input, and the days are those from its base.
-- Assumes nothing.
use Prim.Native.Nat.{ℕ, zero, suc, ◌+◌, ◌-◌, ◌≤◌}
use Rattle.std.specs.Prelude.{◌≡◌, Bool, List, ℤ, nat_abs}
use Rattle.std.proofs.Math.Path.{refl, sym, ap}
use Rattle.std.proofs.Common.{◌∙◌}
use Rattle.std.proofs.Math.Bool.{true, false}
use native.Mathlib.Omega.{arith}
use Rattle.std.proofs.Math.IntN.{sub_ℕ}
use Rattle.refusal.specs.Answer.{Answer, given, BOOK, CALENDAR, TENOR}
use Rattle.refusal.specs.Laws.Answers.{need_given, then_stepped, then_given, one_given}
use Rattle.period.specs.Period.{is_negative}
use Rattle.period.specs.declared.Unit.{Unit}
use Rattle.period.specs.declared.Unit.TheVariants.{Days, Weeks, Months, Years}
use Rattle.date.specs.Date.{in_book, step, last_of_month, shift_days, shifted}
use Rattle.calendar.specs.declared.Convention.{Convention}
use Rattle.calendar.specs.AnyCalendar.{in_span, towards, adjusted, last_open, open_steps, end_asked, landed, add_months, add_weeks, by_unit, advanced}
use Rattle.calendar.specs.Open.{is_open_day, calendar_ok}
use Rattle.calendar.specs.Calendar.{advanced_of, tenor_ok}
use Rattle.calendar.specs.Moves.{moved_from, date_of, land_base, months_base, advance_base, advance_move_of}
use Rattle.calendar.specs.Inner.Reach.{UpTo}
use Rattle.calendar.specs.Laws.Search.{span_given}
use Rattle.calendar.specs.Laws.Conventions.{within_given}
use Rattle.calendar.specs.Laws.HowFar.{span_low, span_high, span_between, adjusted_in, following_on, preceding_back, Measured, measured}
use Rattle.calendar.specs.Laws.Moved.{Gives, same_date}

-- ---- so many open days lead at least as many natural days on, or back, and stay in the span
unfoldable Past : (back : Bool) (size day new : ℕ) → Type 0
Past false size day new = day + size ≤ new
Past true size day new = new + size ≤ day

record Walked (back : Bool) (size day new : ℕ) : Type 0 where
  inside : in_span new ≡ true
  past : Past back size day new

module _ (opens : ℕ → Bool) where
  one_past : (back : Bool) (size day one new : ℕ) → in_span day ≡ true → adjusted opens (towards back) (step back day 1) ≡ given one → Past back size one new → Past back (suc size) day new
  unfolding Past towards step
  one_past false size day one new s h p = let o = following_on opens (day + 1) one h in omega (arith, o.0)
  one_past true size day one new s h p = let o = preceding_back opens (day - 1) one h in omega (arith, o.0, span_low day s)

  none_past : (back : Bool) (day : ℕ) → Past back 0 day day
  unfolding Past
  none_past false day = omega arith
  none_past true day = omega arith

  walked : (back : Bool) (size day new : ℕ) → in_span day ≡ true → open_steps opens back size day ≡ given new → Walked back size day new
  unfolding open_steps
  walked back zero day new s h =
      let e : day ≡ new = one_given _ day new refl h in
      rw (sym e) (record { inside = s; past = none_past back day })
  walked back (suc size) day new s h =
      let t = then_stepped (adjusted opens (towards back) (step back day 1)) _ new h in
      let w = walked back size t.value new (adjusted_in opens (towards back) (step back day 1) t.value t.from) t.to in
      record { inside = w.inside; past = one_past back size day t.value new s t.from w.past }

  sum_inside : (back : Bool) (size day new : ℕ) → in_span day ≡ true → Walked back size day new → in_span (step back day size) ≡ true
  unfolding Past step
  sum_inside false size day new s w =
      span_between _ (omega (arith, span_low day s)) (omega (arith, w.past, span_high new w.inside))
  sum_inside true size day new s w =
      span_between _ (omega (arith, w.past, span_low new w.inside)) (omega (arith, span_high day s))

  -- the sum of a start and so many natural days is a day of the span, and so is the day that the steps led to
  pub steps_sum : (back : Bool) (size day new : ℕ) → in_span day ≡ true → open_steps opens back size day ≡ given new → shifted day back size Days ≡ given (step back day size)
  unfolding shifted shift_days
  steps_sum back size day new s h =
      span_given (step back day size) (sum_inside back size day new s (walked back size day new s h))

  pub steps_up_to : (back : Bool) (size day base : ℕ) (a : Answer ℕ) → in_span day ≡ true → a ≡ open_steps opens back size day → shifted day back size Days ≡ given base → UpTo base a
  unfolding shifted shift_days
  steps_up_to back size day base a s h b d e =
      let w = walked back size day d s (sym h ∙ e) in
      let same : base ≡ step back day size = within_given (step back day size) base b in
      let high = span_high (step back day size) (sum_inside back size day d s w) in
      (omega arith, span_high d w.inside)

module _ (mask : ℕ) (closed : List ℕ) where
  land_gives : (convention : Convention) (sum new : ℕ) (at_end : Bool) → landed (is_open_day mask closed) convention sum at_end ≡ given new → Gives (land_base sum at_end)
  unfolding landed land_base last_open
  land_gives convention sum new true h =
      let s = then_stepped (last_of_month sum) _ new h in
      record { value = s.value; is = s.from }
  land_gives convention sum new false h = record { value = sum; is = refl }

  months_gives : (back : Bool) (size : ℕ) (unit : Unit) (convention : Convention) (endOfMonth : Bool) (day new : ℕ) → add_months (is_open_day mask closed) back size unit convention endOfMonth day ≡ given new → Gives (months_base mask closed back size unit endOfMonth day)
  unfolding add_months months_base
  months_gives back size unit convention endOfMonth day new h =
      let s = then_stepped (shifted day back size unit) _ new h in
      let t = then_stepped (end_asked (is_open_day mask closed) endOfMonth day) (landed (is_open_day mask closed) convention s.value) new s.to in
      let g = land_gives convention s.value new t.value t.to in
      record {
        value = g.value;
        is = sym (then_given _ s.value _ (given g.value) s.from (then_given _ t.value _ (given g.value) t.from (sym g.is)));
      }

  unit_gives : (back : Bool) (size : ℕ) (unit : Unit) (convention : Convention) (endOfMonth : Bool) (day new : ℕ) → in_span day ≡ true → by_unit (is_open_day mask closed) back size unit convention endOfMonth day ≡ given new → Gives (advance_base mask closed back size unit endOfMonth day)
  unfolding by_unit advance_base add_weeks
  unit_gives back size Days convention endOfMonth day new s h =
      record { value = step back day size; is = steps_sum (is_open_day mask closed) back size day new s h }
  unit_gives back size Weeks convention endOfMonth day new s h =
      let t = then_stepped (shifted day back size Weeks) _ new h in
      record { value = t.value; is = t.from }
  unit_gives back size Months convention endOfMonth day new s h = months_gives back size Months convention endOfMonth day new h
  unit_gives back size Years convention endOfMonth day new s h = months_gives back size Years convention endOfMonth day new h

  advanced_gives : (back : Bool) (size : ℕ) (unit : Unit) (convention : Convention) (endOfMonth : Bool) (day new : ℕ) → advanced (is_open_day mask closed) back size unit convention endOfMonth day ≡ given new → Gives (advance_base mask closed back size unit endOfMonth day)
  unfolding advanced
  advanced_gives back size unit convention endOfMonth day new h =
      let n = need_given BOOK (in_span day) _ new h in
      unit_gives back size unit convention endOfMonth day new n.0 n.1

  -- the date that was taken out of what an advance answered
  pub took_advanced : (back : Bool) (size : ℕ) (unit : Unit) (convention : Convention) (endOfMonth : Bool) (day : ℕ) (a : Answer ℕ) (m : Answer (ℕ × ℤ)) → a ≡ date_of m → m ≡ moved_from (advance_base mask closed back size unit endOfMonth day) (advanced (is_open_day mask closed) back size unit convention endOfMonth day) → a ≡ advanced (is_open_day mask closed) back size unit convention endOfMonth day
  took_advanced back size unit convention endOfMonth day a m e h =
      e ∙ ap date_of h ∙ same_date _ _ (advanced_gives back size unit convention endOfMonth day)

  module _ (length : ℤ) (unit : Unit) (convention : Convention) (endOfMonth : Bool) (day : ℕ) where
    advance_gives : (new : ℕ) → advanced_of mask closed length unit convention endOfMonth day ≡ given new → Gives (advance_base mask closed (is_negative length) (nat_abs length) unit endOfMonth day)
    unfolding advanced_of
    advance_gives new h =
        let book = (need_given BOOK (in_book day) _ new h).1 in
        let sound = (need_given CALENDAR (calendar_ok mask closed) _ new book).1 in
        advanced_gives (is_negative length) (nat_abs length) unit convention endOfMonth day new
        (need_given TENOR (tenor_ok (nat_abs length) unit) _ new sound).1

    -- ---- the former date and refusals, and the days from the base
    pub advance_date : date_of (advance_move_of mask closed length unit convention endOfMonth day) ≡ advanced_of mask closed length unit convention endOfMonth day
    unfolding advance_move_of
    advance_date = same_date _ (advanced_of mask closed length unit convention endOfMonth day) advance_gives

    pub advance_move : (new : ℕ) (days : ℤ) → advance_move_of mask closed length unit convention endOfMonth day ≡ given (new, days) → Measured (advance_base mask closed (is_negative length) (nat_abs length) unit endOfMonth day) (advanced_of mask closed length unit convention endOfMonth day) new days
    unfolding advance_move_of
    advance_move new days h = measured _ _ new days h

  -- for open days the base is the start and so many natural days
  pub days_move : (length : ℤ) (convention : Convention) (endOfMonth : Bool) (day new : ℕ) (days : ℤ) → advance_move_of mask closed length Days convention endOfMonth day ≡ given (new, days) → days ≡ sub_ℕ new (step (is_negative length) day (nat_abs length))
  unfolding advance_base shifted shift_days
  days_move length convention endOfMonth day new days h =
      let m = advance_move length Days convention endOfMonth day new days h in
      m.difference ∙ ap (λ (k : ℕ). sub_ℕ new k) (within_given (step (is_negative length) day (nat_abs length)) m.from m.is_base)
