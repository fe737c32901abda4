-- Dates of 1900 to 2200 are moved without leaving 1800 to 2399: within their month, by a search, by months.
-- Assumes nothing.
use Rattle.std.specs.Prelude.{ℕ, ◌+◌, ◌-◌, ◌/◌, ◌%◌, ◌≤◌, ◌<◌, min, ◌≡◌, refl, Bool, true, false, List}
use Rattle.std.proofs.Common.{ap, sym, ◌∙◌, ⊎_elim, arith}
use Rattle.refusal.specs.Laws.Answers.{never_both}
use Rattle.date.specs.Civil.{leap, row_of, month_length, gone, sum_to, guess, years_gone, month_in, day_in, place_of, fields_at, fields_of, day_number}
use Rattle.date.specs.Date.{in_book, make_of, last_of_month, month_index, in_month, step, shift_months}
use Rattle.date.specs.Laws.Months.{length_ge, length_le}
use Rattle.date.specs.Laws.Round.{fields_valid, day_of_fields}
use Rattle.date.specs.Laws.Moves.{book_from, book_le}
use Rattle.imm.specs.Laws.Order.{month_le}
use Rattle.calendar.specs.declared.Convention.{Convention}
use Rattle.calendar.specs.declared.Convention.TheVariants.{Following, Preceding}
use Rattle.calendar.specs.AnyCalendar as any
use Rattle.calendar.specs.Adjust.{in_span, adjusted, last_open, at_month_end}
use Rattle.outcomes.specs.Laws.Span.{InSpan, le_or_lt, month_span, month_of_lem, month_there, since}
use Rattle.outcomes.specs.Late.{Fine, Any, gives, steps, weaker, tested}
use Rattle.outcomes.specs.Laws.Searched.{Close, Wide, Asks, wide_span, adjusted_fine}

-- ---- a day of a month
pub record InMonth (s r : ℕ) : Type 0 where
  pub index : month_index r ≡ s
  pub span : InSpan r

pub month_fine : {c : Type 0} (s d : ℕ) → 1 ≤ d → 21600 ≤ s → s ≤ 28799 → Fine c (InMonth s) (in_month s d)
month_fine s d p a b = record { late = λ n e. absurd (never_both (in_month s d) _ n (month_there s d p a b) e); holds = λ r e. record { index = month_of_lem s d r e; span = month_span s d r e } }

pub index_fields : (n : ℕ) → (month_index n / 12 ≡ (fields_of n).year) × (month_index n % 12 + 1 ≡ (fields_of n).month)
unfolding month_index
index_fields n = let v = fields_valid n in (omega (arith, v.month, v.twelve), omega (arith, v.month, v.twelve))

pub made_as : (n x : ℕ) → x ≤ 28 → make_of (fields_of n).year (fields_of n).month x ≡ in_month (month_index n) x
unfolding in_month
made_as n x h =
    let i = index_fields n in
    let l : min x (month_length (fields_of n).year (fields_of n).month) ≡ x = omega (arith, length_ge (fields_of n).year (fields_of n).month (fields_valid n).twelve) in
    rw (i.0, i.1, l) refl

pub last_as : (n : ℕ) → last_of_month n ≡ in_month (month_index n) 31
unfolding last_of_month in_month
last_as n =
    let i = index_fields n in
    let l : min 31 (month_length (fields_of n).year (fields_of n).month) ≡ month_length (fields_of n).year (fields_of n).month = omega (arith, length_le (fields_of n).year (fields_of n).month) in
    rw (i.0, i.1, l) refl

pub days_apart : (y m a b : ℕ) → day_number y m a + b ≡ day_number y m b + a
unfolding day_number
days_apart y m a b = omega arith

-- two days of one month are close
same_close : (n r : ℕ) → 1 ≤ n → 1 ≤ r → month_index r ≡ month_index n → Close 31 n r
same_close n r p p' e =
    let i = index_fields n in
    let j = index_fields r in
    let y : (fields_of r).year ≡ (fields_of n).year = sym j.0 ∙ ap (λ (k : ℕ). k / 12) e ∙ i.0 in
    let m : (fields_of r).month ≡ (fields_of n).month = sym j.1 ∙ ap (λ (k : ℕ). k % 12 + 1) e ∙ i.1 in
    let a : day_number (fields_of n).year (fields_of n).month (fields_of r).day ≡ r = (λ k. day_number (sym y k) (sym m k) (fields_of r).day) ∙ day_of_fields r p' in
    let b = day_of_fields n p in
    let c = days_apart (fields_of n).year (fields_of n).month (fields_of r).day (fields_of n).day in
    let v = fields_valid n in
    let w = fields_valid r in
    let x = length_le (fields_of n).year (fields_of n).month in
    let z = length_le (fields_of r).year (fields_of r).month in
    record { low = omega (arith, v.last, w.first); high = omega (arith, w.last, v.first) }

-- ---- dates from 1900-01-01 to 2201-01-01, or as many days off
pub record At (m d : ℕ) : Type 0 where
  pub low : 693596 ≤ d + m
  pub high : d ≤ 803534 + m

ends : (month_index 692596 ≡ 22767) × (month_index 804534 ≡ 26444)
unfolding month_index leap row_of month_length gone sum_to guess years_gone month_in day_in place_of fields_at
ends = (refl, refl)

at_index : (m d : ℕ) → m ≤ 1000 → At m d → (22767 ≤ month_index d) × (month_index d ≤ 26444)
at_index m d s a = (omega (arith, ends.0, month_le 692596 d (omega arith) (omega (arith, a.low))), omega (arith, ends.1, month_le d 804534 (omega (arith, a.low)) (omega (arith, a.high))))

pub at_wide : (m d : ℕ) → m ≤ 36000 → At m d → Wide d
at_wide m d s a = record { low = omega (arith, a.low); high = omega (arith, a.high) }

pub at_close : (m n d r : ℕ) → At m d → Close n d r → At (m + n) r
at_close m n d r a i = record { low = omega (arith, a.low, i.low); high = omega (arith, a.high, i.high) }

pub at_more : (m m' d : ℕ) → m ≤ m' → At m d → At m' d
at_more m m' d h a = record { low = omega (arith, a.low); high = omega (arith, a.high) }

module _ (m d : ℕ) (s : m ≤ 1000) (a : At m d) where
  pub month_close : (r : ℕ) → InMonth (month_index d) r → At (m + 31) r
  month_close r i = at_close m 31 d r a (same_close d r (omega (arith, a.low)) (omega (arith, i.span.low)) i.index)

  module _ {c : Type 0} where
    of_month : (x : ℕ) → 1 ≤ x → Fine c (InMonth (month_index d)) (in_month (month_index d) x)
    of_month x h = let i = at_index m d s a in month_fine (month_index d) x h (omega (arith, i.0)) (omega (arith, i.1))

    pub made_fine : (x : ℕ) → 1 ≤ x → x ≤ 28 → Fine c (InMonth (month_index d)) (make_of (fields_of d).year (fields_of d).month x)
    made_fine x h l = rw (made_as d x l) (of_month x h)

    pub last_fine : Fine c (InMonth (month_index d)) (last_of_month d)
    last_fine = rw (last_as d) (of_month 31 (omega arith))

    module _ (mask : ℕ) (closed : List ℕ) where
      pub adjust_fine : (convention : Convention) → Asks c convention → Fine c (At (m + 31)) (adjusted mask closed convention d)
      adjust_fine convention h = weaker (adjusted_fine mask closed convention d h (at_wide m d (omega arith) a)) (λ r i. at_close m 31 d r a i)

      -- the calendar's month end, and whether a date is at month end
      pub open_end_fine : c → Fine c (At (m + 62)) (last_open mask closed d)
      unfolding any.last_open
      open_end_fine h =
          steps _ last_fine (λ r i.
          let b = month_close r i in
          weaker (adjusted_fine mask closed Preceding r (λ _. h) (at_wide (m + 31) r (omega arith) b)) (λ z j. at_more (m + 31 + 31) (m + 62) z (omega arith) (at_close (m + 31) 31 r z b j)))

      pub end_fine : c → Fine c Any (at_month_end mask closed d)
      unfolding any.at_month_end
      end_fine h =
          tested (in_span d) (wide_span d (at_wide m d (omega arith) a))
          (steps _ (adjusted_fine mask closed Following (d + 1) (λ _. h) (at_wide (m + 1) (d + 1) (omega arith) (record { low = omega (arith, a.low); high = omega (arith, a.high) }))) (λ next i. gives _ tt))

-- ---- days of the span by their months
pub record Between (lo hi r : ℕ) : Type 0 where
  pub span : InSpan r
  pub from : lo ≤ month_index r
  pub to : month_index r ≤ hi

-- February 1900 to December 2200
abbrev pub Mid : ℕ → Type 0
Mid r = Between 22801 26411 r

bounds : (month_index 693596 ≡ 22800) × (month_index 803534 ≡ 26412) × (month_index 657103 ≡ 21601) × (month_index 876185 ≡ 28798)
unfolding month_index leap row_of month_length gone sum_to guess years_gone month_in day_in place_of fields_at
bounds = (refl, refl, refl, refl)

pub later : (a r k : ℕ) → 1 ≤ r → month_index a ≡ k → k < month_index r → a ≤ r
later a r k p e h = ⊎_elim (λ (l : a ≤ r). l) (λ (l : r < a). absurd (no (month_le r a p (omega arith)))) (le_or_lt a r)
  where
    no : month_index r ≤ month_index a → ⊥
    no g = omega arith

pub sooner : (r b k : ℕ) → 1 ≤ b → month_index b ≡ k → month_index r < k → r ≤ b
sooner r b k p e h = ⊎_elim (λ (l : r ≤ b). l) (λ (l : b < r). absurd (no (month_le b r p (omega arith)))) (le_or_lt r b)
  where
    no : month_index b ≤ month_index r → ⊥
    no g = omega arith

pub mid_at : (r : ℕ) → Mid r → At 0 r
mid_at r m = record { low = omega (arith, later 693596 r 22800 (omega (arith, m.span.low)) bounds.0 (omega (arith, m.from))); high = omega (arith, sooner r 803534 26412 (omega arith) bounds.1 (omega (arith, m.to))) }

pub wide_by : (r : ℕ) → Between 21602 28797 r → Wide r
wide_by r m = record { low = later 657103 r 21601 (omega (arith, m.span.low)) bounds.2 (omega (arith, m.from)); high = sooner r 876185 28798 (omega arith) bounds.3 (omega (arith, m.to)) }

pub wider : (lo hi lo' hi' r : ℕ) → lo' ≤ lo → hi ≤ hi' → Between lo hi r → Between lo' hi' r
wider lo hi lo' hi' r a b m = record { span = m.span; from = omega (arith, m.from); to = omega (arith, m.to) }

pub book_between : (n : ℕ) → in_book n ≡ true → Between 22812 26399 n
book_between n h = record { span = record { low = omega (arith, book_from n h); high = omega (arith, book_le n h) }; from = (since n h).0; to = (since n h).1 }

pub book_mid : (n : ℕ) → in_book n ≡ true → Mid n
book_mid n h = wider 22812 26399 22801 26411 n (omega arith) (omega arith) (book_between n h)

pub in_between : (s lo hi r : ℕ) → lo ≤ s → s ≤ hi → InMonth s r → Between lo hi r
in_between s lo hi r a b i = record { span = i.span; from = omega (arith, i.index); to = omega (arith, i.index) }

-- ---- months on or back
step_range : (back : Bool) (lo hi k n : ℕ) → lo ≤ n → n ≤ hi → (lo - k ≤ step back n k) × (step back n k ≤ hi + k)
unfolding step
step_range true lo hi k n a b = (omega arith, omega arith)
step_range false lo hi k n a b = (omega arith, omega arith)

pub shift_fine : {c : Type 0} (lo hi k day : ℕ) (back : Bool) → 21600 ≤ lo - k → hi + k ≤ 28799 → Between lo hi day → Fine c (Between (lo - k) (hi + k)) (shift_months day back k)
unfolding shift_months
shift_fine lo hi k day back a b m =
    let s = step_range back lo hi k (month_index day) m.from m.to in
    weaker (month_fine (step back (month_index day) k) (fields_of day).day (fields_valid day).first (omega (arith, s.0)) (omega (arith, s.1))) (λ r i. in_between (step back (month_index day) k) (lo - k) (hi + k) r s.0 s.1 i)
