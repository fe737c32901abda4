-- A law for each way through the search over two lists, in the code's terms.
-- Assumes nothing.
use Prim.Native.Nat.{ℕ, ◌+◌, ◌-◌, ◌≤◌, ◌<◌}
use mathlib.Core.Path.{◌≡◌, refl, sym, ap, ◌∙◌}
use mathlib.Core.Bool.{Bool, true, false}
use mathlib.Core.List.{List}
use native.Mathlib.Omega.{arith}
use lib.Dec.{leb}
use Rattle.std.specs.Int.{abs_diff}
use borrow.Author.Tests.{leb-true, leb-false, le-leb}
use Rattle.refusal.specs.Answer.{Answer, given, refused}
use Rattle.refusal.specs.Laws.Answers.{both}
use Rattle.date.specs.declared.Fields.{Fields}
use Rattle.date.specs.Civil.{gone, day_number, fields_of, fields_at, years_gone}
use Rattle.date.specs.Date.{SPAN_FIRST, SPAN_LAST, in_book, step}
use Rattle.date.specs.Laws.Years.{gone_le, years_low, years_high}
use Rattle.calendar.specs.Open.{is_open_day, closed_ok, calendar_ok}
use Rattle.calendar.specs.Laws.Told.{ok_closed}
use Rattle.calendar.specs.AnyCalendar.{in_span, first_open}
use Rattle.desk.specs.Desk.{year_of, in_years, run_of, opens_over, calendars_ok}
use Rattle.desk.specs.Runs.{Within, end_of}
use Rattle.desk.specs.Laws.Years.{year_is, year_earlier, year_later, year_long, year_next, first_in, last_in}
use Rattle.desk.specs.Laws.Cut.{cut_found, cut_rest}
use Rattle.desk.specs.Laws.Runs.{run_ok, one_year}

-- ---- a day of the book, its year, and the two days that bound it
book_from : (day : ℕ) → in_book day ≡ true → 693961 ≤ day
unfolding in_book
book_from day e = leb-true 693961 day (both (leb 693961 day) (leb day 803168) e).0

book_to : (day : ℕ) → in_book day ≡ true → day ≤ 803168
unfolding in_book
book_to day e = leb-true day 803168 (both (leb 693961 day) (leb day 803168) e).1

pub book_small : (day : ℕ) → in_book day ≡ true → day < 4294967000
book_small day e = omega (arith, book_to day e)

pub book_span : (day : ℕ) → in_book day ≡ true → in_span day ≡ true
unfolding in_span
book_span day e =
    rw (le-leb SPAN_FIRST day (omega (arith, book_from day e)), le-leb day SPAN_LAST (omega (arith, book_to day e))) refl

-- the year lies from 1901 to 2199
late_by : (p z : ℕ) (b : Bool) → leb (p + 1) 1900 ≡ b → 693960 ≤ z → z < gone (p + 1) → 1900 ≤ p
unfolding gone
late_by p z true e l h = let g = gone_le (p + 1) 1900 (leb-true (p + 1) 1900 e) in let bad : ⊥ = omega arith in absurd bad
late_by p z false e l h = omega (arith, leb-false (p + 1) 1900 e)

soon_by : (p z : ℕ) (b : Bool) → leb 2199 p ≡ b → z ≤ 803167 → gone p ≤ z → p ≤ 2198
unfolding gone
soon_by p z true e l h = let g = gone_le 2199 p (leb-true 2199 p e) in let bad : ⊥ = omega arith in absurd bad
soon_by p z false e l h = omega (arith, leb-false 2199 p e)

year_late : (day : ℕ) → in_book day ≡ true → 1901 ≤ year_of day
unfolding year_of fields_at
year_late day e =
    let p = late_by (years_gone (day - 1)) (day - 1) (leb (years_gone (day - 1) + 1) 1900) refl (omega (arith, book_from day e)) (years_high (day - 1)) in
    omega arith

year_soon : (day : ℕ) → in_book day ≡ true → year_of day ≤ 2199
unfolding year_of fields_at
year_soon day e =
    let p = soon_by (years_gone (day - 1)) (day - 1) (leb 2199 (years_gone (day - 1))) refl (omega (arith, book_to day e)) (years_low (day - 1)) in
    omega arith

years_in : (y : ℕ) → 1800 ≤ y → y ≤ 2399 → in_years y ≡ true
unfolding in_years
years_in y l h = rw (le-leb 1800 y l, le-leb y 2399 h) refl

not_after : (a b : ℕ) → (b < a → ⊥) → a ≤ b
not_after a b f = by (leb a b) refl
  where
    by : (t : Bool) → leb a b ≡ t → a ≤ b
    by true e = leb-true a b e
    by false e = absurd (f (leb-false a b e))

module _ (f : Fields) (day : ℕ) (p : f ≡ fields_of day) (e : in_book day ≡ true) where
  is_year : f.year ≡ year_of day
  unfolding year_of
  is_year = ap (λ (x : Fields). x.year) p

  pub year_in : in_years f.year ≡ true
  year_in = years_in f.year (omega (arith, is_year, year_late day e)) (omega (arith, is_year, year_soon day e))

  pub next_in_lem : in_years (f.year + 1) ≡ true
  next_in_lem = years_in (f.year + 1) (omega (arith, is_year, year_late day e)) (omega (arith, is_year, year_soon day e))

  pub former_in : in_years (f.year - 1) ≡ true
  former_in = years_in (f.year - 1) (omega (arith, is_year, year_late day e)) (omega (arith, is_year, year_soon day e))

  one : 1 ≤ f.year
  one = omega (arith, is_year, year_late day e)

  some : 1 ≤ day
  some = omega (arith, book_from day e)

  pub year_small : f.year ≤ 2199
  year_small = omega (arith, is_year, year_soon day e)

  pub year_some : 1 ≤ f.year
  year_some = one

  -- ---- on
  module _ (last : ℕ) (l : last ≡ day_number f.year 12 31) where
    pub last_not_before : day ≤ last
    last_not_before = not_after day last (λ h. year_later f.year day one some (omega arith) (sym is_year))

    from_first : day_number f.year 1 1 ≤ day
    from_first = not_after (day_number f.year 1 1) day (λ h. year_earlier f.year day one some h (sym is_year))

    -- so many days on lie in the year, and the rest in the next one
    pub ahead_in : (tries : ℕ) → tries ≤ last - day + 1 → Within false day tries f.year
    unfolding step
    ahead_in tries h =
        record { in_it_lem = λ k m. year_is f.year (day + k) one (omega (arith, some)) (omega (arith, from_first)) (omega (arith, last_not_before)) }

    pub ahead_beyond : (tries : ℕ) → tries ≤ 31 → Within false (last + 1) tries (f.year + 1)
    unfolding step
    ahead_beyond tries h =
        record { in_it_lem = λ k m. year_is (f.year + 1) (last + 1 + k) (omega arith) (omega arith) (omega (arith, year_next f.year one)) (omega (arith, year_next f.year one, year_long (f.year + 1))) }

    pub beyond_span : in_span (last + 1) ≡ true
    unfolding in_span
    beyond_span =
        rw (le-leb SPAN_FIRST (last + 1) (omega (arith, book_from day e, last_not_before)), le-leb (last + 1) SPAN_LAST (omega (arith, year_next f.year one, year_long (f.year + 1), last_in (f.year + 1) next_in_lem))) refl

    pub last_small : last < 4294967000
    last_small = omega (arith, last_in f.year year_in)

  -- ---- back
  module _ (start : ℕ) (l : start ≡ day_number f.year 1 1) where
    pub start_not_after : start ≤ day
    start_not_after = not_after start day (λ h. year_earlier f.year day one some (omega arith) (sym is_year))

    to_last : day ≤ day_number f.year 12 31
    to_last = not_after day (day_number f.year 12 31) (λ h. year_later f.year day one some h (sym is_year))

    same_year : f.year - 1 + 1 ≡ f.year
    same_year = omega (arith, one)

    former : day_number (f.year - 1) 12 31 + 1 ≡ start
    former = year_next (f.year - 1) (omega (arith, is_year, year_late day e)) ∙ ap (λ (y : ℕ). day_number y 1 1) same_year ∙ sym l

    start_late : 657073 ≤ start
    start_late = omega (arith, former, year_long (f.year - 1), first_in (f.year - 1) former_in)

    pub behind_in : (tries : ℕ) → tries ≤ day - start + 1 → Within true day tries f.year
    unfolding step
    behind_in tries h =
        record { in_it_lem = λ k m. year_is f.year (day - k) one (omega (arith, start_late, start_not_after)) (omega (arith, start_not_after)) (omega (arith, to_last)) }

    pub behind_beyond : (tries : ℕ) → tries ≤ 31 → Within true (start - 1) tries (f.year - 1)
    unfolding step
    behind_beyond tries h =
        record { in_it_lem = λ k m. year_is (f.year - 1) (start - 1 - k) (omega (arith, is_year, year_late day e)) (omega (arith, start_late)) (omega (arith, former, year_long (f.year - 1), start_late)) (omega (arith, former)) }

    pub start_some : 1 ≤ start
    start_some = omega (arith, start_late)

    pub former_span : in_span (start - 1) ≡ true
    unfolding in_span
    former_span =
        rw (le-leb SPAN_FIRST (start - 1) (omega (arith, start_late)), le-leb (start - 1) SPAN_LAST (omega (arith, start_not_after, book_to day e))) refl

-- ---- either way
module _ (f : Fields) (day : ℕ) (p : f ≡ fields_of day) (e : in_book day ≡ true) where
  pub way_small : (back : Bool) (end : ℕ) → end ≡ end_of back f.year → end < 4294967000
  unfolding end_of
  way_small false end l = last_small f day p e end l
  way_small true end l = omega (arith, start_not_after f day p e end l, book_small day e)

  pub way_some : (back : Bool) (end : ℕ) → end ≡ end_of back f.year → 1 ≤ end
  unfolding end_of
  way_some false end l = omega (arith, last_not_before f day p e end l, book_from day e)
  way_some true end l = start_some f day p e end l

  pub way_in : (back : Bool) (end : ℕ) → end ≡ end_of back f.year → (tries : ℕ) → tries ≤ abs_diff day end + 1 → Within back day tries f.year
  unfolding end_of
  way_in false end l tries h = ahead_in f day p e end l tries (omega (arith, last_not_before f day p e end l))
  way_in true end l tries h = behind_in f day p e end l tries (omega (arith, start_not_after f day p e end l))

  pub way_beyond : (back : Bool) (end : ℕ) → end ≡ end_of back f.year → (tries : ℕ) → tries ≤ 31 → Within back (step back end 1) tries (step back f.year 1)
  unfolding end_of step
  way_beyond false end l tries h = ahead_beyond f day p e end l tries h
  way_beyond true end l tries h = behind_beyond f day p e end l tries h

  pub way_span : (back : Bool) (end : ℕ) → end ≡ end_of back f.year → in_span (step back end 1) ≡ true
  unfolding end_of step
  way_span false end l = beyond_span f day p e end l
  way_span true end l = former_span f day p e end l

  pub way_year : (back : Bool) → in_years (step back f.year 1) ≡ true
  unfolding step
  way_year false = next_in_lem f day p e
  way_year true = former_in f day p e

  pub way_on : (back : Bool) (end : ℕ) → end ≡ end_of back f.year → step back end 1 ≡ step back day (abs_diff day end + 1)
  unfolding end_of step
  way_on false end l = omega (arith, last_not_before f day p e end l)
  way_on true end l = omega (arith, start_not_after f day p e end l)

-- ---- the calendar's search, lent the run of the year
module _ (mask : ℕ) (desk house run : List ℕ) (back : Bool) (tries day year : ℕ) (r : Answer ℕ) where
  pub first_there : closed_ok desk ≡ true → closed_ok house ≡ true → (in_years year ≡ true) × (in_span day ≡ true) × (tries ≤ 31) × Within back day tries year → run ≡ run_of desk house year → (closed_ok run ≡ true → in_span day ≡ true → tries ≤ 31 → r ≡ first_open (is_open_day mask run) back tries day) → r ≡ first_open (opens_over mask desk house) back tries day
  first_there d k s p h =
      let ok : closed_ok run ≡ true = ap closed_ok p ∙ run_ok desk house year d k in
      h ok s.1 s.2
      ∙ ap (λ (xs : List ℕ). first_open (is_open_day mask xs) back tries day) p
      ∙ one_year mask desk house back tries day year s.3

-- ---- cut at the end of the year
thirty_one : (left : ℕ) → left < 31 → left + (31 - left) ≡ 31
thirty_one left h = omega arith

module _ (opens : ℕ → Bool) (back : Bool) (day left : ℕ) (few : left < 31) where
  pub cut_day : (x : ℕ) → given x ≡ first_open opens back left day → given x ≡ first_open opens back 31 day
  cut_day x h =
      sym (cut_found opens back left (31 - left) day x (sym h))
      ∙ ap (λ (k : ℕ). first_open opens back k day) (thirty_one left few)

  pub cut_refused : (n next : ℕ) (r : Answer ℕ) → refused n ≡ first_open opens back left day → next ≡ step back day left → r ≡ first_open opens back (31 - left) next → r ≡ first_open opens back 31 day
  cut_refused n next r h e w =
      w
      ∙ ap (first_open opens back (31 - left)) e
      ∙ sym (cut_rest opens back left (31 - left) day n (sym h))
      ∙ ap (λ (k : ℕ). first_open opens back k day) (thirty_one left few)

-- ---- the mask and both lists
pub sound_lists : (mask : ℕ) (desk house : List ℕ) → calendars_ok mask desk house ≡ true → (closed_ok desk ≡ true) × (closed_ok house ≡ true)
unfolding calendars_ok
sound_lists mask desk house e =
    let b = both (calendar_ok mask desk) (closed_ok house) e in
    (ok_closed mask desk b.0, b.1)
