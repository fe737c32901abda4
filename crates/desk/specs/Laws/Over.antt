-- What the adjustment over two lists comes to: the one over the combined list, over the house's where the desk has none, over the desk's where
-- it has an entry in each year that is tried.
-- Assumes nothing.
use Rattle.std.specs.Prelude.{ℕ, ◌%◌, ◌<◌, ◌≡◌, Bool, not, ◌&&◌, ◌||◌, ltb}
use Rattle.std.proofs.Math.Path.{refl, ap}
use Rattle.std.proofs.Common.{sym, ◌∙◌, eqb-true}
use Rattle.std.proofs.Math.Bool.{true, false}
use Rattle.std.proofs.lemmas.Bool.{false≢true}
use mathlib.Core.List.{List, [], ◌∷◌}
use Rattle.std.proofs.Math.Dec.{eqb}
use Rattle.refusal.specs.Answer.{Answer, given, need, then, BOOK, CALENDAR}
use Rattle.refusal.specs.Laws.Answers.{holds}
use Rattle.date.specs.Date.{in_book, step, within_span}
use Rattle.calendar.specs.declared.Convention.{Convention}
use Rattle.calendar.specs.declared.Convention.TheVariants.{Unadjusted, Following, ModifiedFollowing, Preceding, ModifiedPreceding}
use Rattle.calendar.specs.Open.{weekly_closed, member, is_open_day, ascending, closed_ok, calendar_ok}
use Rattle.calendar.specs.Calendar.{adjust_of}
use Rattle.calendar.specs.AnyCalendar.{in_span, same_month, unless_left, found, modified, by_convention, adjusted}
use Rattle.desk.specs.Desk.{year_of, entries_in, or_else, run_of, opens_over, calendars_ok, adjust_over_of, left_to, before, put, put_if, combined, has_none}
use Rattle.desk.specs.Laws.Entries.{run_member, own_year}
use Rattle.desk.specs.Laws.Cut.{alike}

-- ---- who is in the combined list
module _ (day : ℕ) where
  put_by_lem : (b : Bool) (x y : ℕ) (ys rest : List ℕ) → member day rest ≡ (eqb x day || member day ys) → member day (before b x y ys rest) ≡ (eqb x day || (eqb y day || member day ys))
  unfolding before member
  put_by_lem true x y ys rest h = refl
  put_by_lem false x y ys rest h = ap (λ (m : Bool). eqb y day || m) h ∙ turn (eqb y day) (eqb x day) (member day ys)
    where
      turn : (a b c : Bool) → (a || (b || c)) ≡ (b || (a || c))
      turn true true c = refl
      turn true false c = refl
      turn false true c = refl
      turn false false c = refl

  put_member : (x : ℕ) (list : List ℕ) → member day (put x list) ≡ (eqb x day || member day list)
  unfolding put member
  put_member x [] = refl
  put_member x (y ∷ ys) = put_by_lem (ltb x y) x y ys (put x ys) (put_member x ys)

  module _ (desk : List ℕ) where
    if_member : (b d : Bool) (x : ℕ) (xs rest : List ℕ) → left_to desk x ≡ b → eqb x day ≡ d → member day rest ≡ (member day desk || (member day xs && left_to desk day)) → member day (put_if b x rest) ≡ (member day desk || ((d || member day xs) && left_to desk day))
    unfolding put_if
    if_member true true x xs rest e f h =
        put_member x rest ∙ rw (f, ap (left_to desk) (sym (eqb-true x day f)) ∙ e) (by (member day desk))
      where
        by : (m : Bool) → true ≡ (m || true)
        by true = refl
        by false = refl
    if_member true false x xs rest e f h = put_member x rest ∙ rw f h
    if_member false true x xs rest e f h = h ∙ rw (ap (left_to desk) (sym (eqb-true x day f)) ∙ e) (by (member day desk) (member day xs))
      where
        by : (m n : Bool) → (m || (n && false)) ≡ (m || false)
        by true n = refl
        by false true = refl
        by false false = refl
    if_member false false x xs rest e f h = h

    pub combined_member : (house : List ℕ) → member day (combined desk house) ≡ (member day desk || (member day house && left_to desk day))
    unfolding combined member
    combined_member [] = by (member day desk)
      where
        by : (m : Bool) → m ≡ (m || false)
        by true = refl
        by false = refl
    combined_member (x ∷ xs) =
        if_member (left_to desk x) (eqb x day) x xs (combined desk xs) refl refl (combined_member xs)

open_by : (mask day : ℕ) (list other : List ℕ) → member day list ≡ member day other → is_open_day mask list day ≡ is_open_day mask other day
unfolding is_open_day
open_by mask day list other e = ap (λ (m : Bool). not (weekly_closed mask day) && not m) e

-- ---- (a) days are open alike over both lists and over the combined one, and so are adjusted alike
pub open_alike : (mask : ℕ) (desk house : List ℕ) (day : ℕ) → opens_over mask desk house day ≡ is_open_day mask (combined desk house) day
unfolding opens_over
open_alike mask desk house day =
    open_by mask day (run_of desk house (year_of day)) (combined desk house) (run_member desk house day ∙ sym (combined_member day desk house))

pub adjusted_combined : (mask : ℕ) (desk house : List ℕ) (convention : Convention) (day : ℕ) → adjusted (opens_over mask desk house) convention day ≡ adjusted (is_open_day mask (combined desk house)) convention day
adjusted_combined mask desk house convention day =
    ap (λ (opens : ℕ → Bool). adjusted opens convention day) (λ i d. open_alike mask desk house d i)

-- ---- (b) an empty desk: the former answers, on every input
house_open : (mask : ℕ) (house : List ℕ) (day : ℕ) → opens_over mask [] house day ≡ is_open_day mask house day
unfolding opens_over run_of or_else entries_in
house_open mask house day = open_by mask day (entries_in (year_of day) house) house (own_year day house)

house_ok : (mask : ℕ) (house : List ℕ) → calendars_ok mask [] house ≡ calendar_ok mask house
unfolding calendars_ok calendar_ok closed_ok ascending
house_ok mask house = by (not (eqb (mask % 128) 127)) (closed_ok house)
  where
    by : (a b : Bool) → ((a && true) && b) ≡ (a && b)
    by true b = refl
    by false b = refl

pub empty_desk : (mask : ℕ) (house : List ℕ) (convention : Convention) (day : ℕ) → adjust_over_of mask [] house convention day ≡ adjust_of mask house convention day
unfolding adjust_over_of adjust_of
empty_desk mask house convention day =
    ap (λ (b : Bool). need BOOK (in_book day) (need CALENDAR b (adjusted (opens_over mask [] house) convention day))) (house_ok mask house)
    ∙ ap (λ (opens : ℕ → Bool). need BOOK (in_book day) (need CALENDAR (calendar_ok mask house) (adjusted opens convention day))) (λ i d. house_open mask house d i)

-- ---- (c) calendars that agree on the days tried adjust alike
module _ (f g : ℕ → Bool) (day : ℕ) (same : (back : Bool) (k : ℕ) → k < 31 → f (step back day k) ≡ g (step back day k)) where
  found_alike : (back : Bool) → found f back day ≡ found g back day
  unfolding found
  found_alike back = ap (λ (x : Answer ℕ). then x within_span) (alike f g back 31 day (same back))

  left_alike : (b back : Bool) (new : ℕ) → unless_left b day new (found f back) ≡ unless_left b day new (found g back)
  unfolding unless_left
  left_alike true back new = refl
  left_alike false back new = found_alike back

  modified_alike : (back : Bool) → modified f back day ≡ modified g back day
  unfolding modified
  modified_alike back =
      ap (λ (x : Answer ℕ). then x (λ new. unless_left (same_month day new) day new (found f (not back)))) (found_alike back)
      ∙ ap (then (found g back day)) (λ i new. left_alike (same_month day new) (not back) new i)

  by_alike : (convention : Convention) → by_convention f convention day ≡ by_convention g convention day
  unfolding by_convention
  by_alike Unadjusted = refl
  by_alike Following = found_alike false
  by_alike ModifiedFollowing = modified_alike false
  by_alike Preceding = found_alike true
  by_alike ModifiedPreceding = modified_alike true

  adjusted_alike : (convention : Convention) → adjusted f convention day ≡ adjusted g convention day
  unfolding adjusted
  adjusted_alike convention = ap (need BOOK (in_span day)) (by_alike convention)

own_run : (own other : List ℕ) → has_none own ≡ false → or_else own other ≡ own
unfolding has_none or_else
own_run [] other e = absurd (false≢true (sym e))
own_run (x ∷ xs) other e = refl

desk_open : (mask : ℕ) (desk house : List ℕ) (day : ℕ) → left_to desk day ≡ false → opens_over mask desk house day ≡ is_open_day mask desk day
unfolding opens_over run_of left_to
desk_open mask desk house day e =
    open_by mask day (or_else (entries_in (year_of day) desk) (entries_in (year_of day) house)) desk
    (ap (member day) (own_run (entries_in (year_of day) desk) (entries_in (year_of day) house) e) ∙ own_year day desk)

desk_ok : (mask : ℕ) (desk house : List ℕ) → closed_ok house ≡ true → calendars_ok mask desk house ≡ calendar_ok mask desk
unfolding calendars_ok
desk_ok mask desk house e = rw e (by (calendar_ok mask desk))
  where
    by : (a : Bool) → (a && true) ≡ a
    by true = refl
    by false = refl

pub full_desk : (mask : ℕ) (desk house : List ℕ) (convention : Convention) (day : ℕ) → closed_ok house ≡ true → ((back : Bool) (k : ℕ) → k < 31 → left_to desk (step back day k) ≡ false) → adjust_over_of mask desk house convention day ≡ adjust_of mask desk convention day
unfolding adjust_over_of adjust_of
full_desk mask desk house convention day ok full =
    ap (λ (b : Bool). need BOOK (in_book day) (need CALENDAR b (adjusted (opens_over mask desk house) convention day))) (desk_ok mask desk house ok)
    ∙ ap (λ (x : Answer ℕ). need BOOK (in_book day) (need CALENDAR (calendar_ok mask desk) x)) (adjusted_alike (opens_over mask desk house) (is_open_day mask desk) day (λ back k h. desk_open mask desk house (step back day k) (full back k h)) convention)

-- ---- (d) Unadjusted gives the day
pub unadjusted_stays : (mask : ℕ) (desk house : List ℕ) (day : ℕ) → in_book day ≡ true → in_span day ≡ true → calendars_ok mask desk house ≡ true → adjust_over_of mask desk house Unadjusted day ≡ given day
unfolding adjust_over_of adjusted by_convention
unadjusted_stays mask desk house day b s ok =
    sym (holds BOOK (in_book day) _ (given day) b (holds CALENDAR (calendars_ok mask desk house) _ (given day) ok (holds BOOK (in_span day) (given day) (given day) s refl)))

-- ---- (e) the run of an empty desk is the house's
pub empty_run : (house : List ℕ) (year : ℕ) → run_of [] house year ≡ entries_in year house
unfolding run_of or_else entries_in
empty_run house year = refl
