-- Days of 1800 to 2399 and their months: a day that is made is one of them, and each of their months has a day to take.
-- Assumes nothing.
use Rattle.std.specs.Prelude.{ℕ, zero, suc, ◌+◌, ◌-◌, ◌*◌, ◌/◌, ◌%◌, ◌≤◌, ◌<◌, min, ◌≡◌, refl, ◌⊎◌, true, leb}
use Rattle.std.proofs.Common.{zero-le, sym, inl, inr, ⊎_elim, arith, leb-true}
use Rattle.refusal.specs.Answer.{given, BOOK}
use Rattle.refusal.specs.Laws.Answers.{need_given, one_given}
use Rattle.date.specs.Civil.{fields_of, month_length, day_number}
use Rattle.date.specs.Date.{SPAN_FIRST, SPAN_LAST, in_book, within_span, month_index, in_month}
use Rattle.date.specs.Laws.Round.{fields_valid, day_of_fields}
use Rattle.date.specs.Laws.Made.{make_ok, made, made_within}
use Rattle.date.specs.Laws.Moves.{book_from}
use Rattle.date.specs.Laws.Order.{month_day_kept}
use Rattle.date.specs.Laws.Months.{length_ge}
use Rattle.imm.specs.Laws.Order.{book_years}

pub record InSpan (n : ℕ) : Type 0 where
  pub low : SPAN_FIRST ≤ n
  pub high : n ≤ SPAN_LAST

pub le_or_lt : (a b : ℕ) → (a ≤ b) ⊎ (b < a)
le_or_lt zero b = inl zero-le
le_or_lt (suc a) zero = inr (omega arith)
le_or_lt (suc a) (suc b) = ⊎_elim (λ (h : a ≤ b). inl (omega arith)) (λ (h : b < a). inr (omega arith)) (le_or_lt a b)

pub span_is : (n d : ℕ) → within_span n ≡ given d → (SPAN_FIRST ≤ n) × (n ≤ SPAN_LAST) × (d ≡ n)
unfolding within_span
span_is n d h =
    let a = need_given BOOK (leb SPAN_FIRST n) _ d h in
    let b = need_given BOOK (leb n SPAN_LAST) _ d a.1 in
    (leb-true SPAN_FIRST n a.0, leb-true n SPAN_LAST b.0, one_given (given n) d n b.1 refl)

-- a day taken is one of the span
pub day_span : (n d : ℕ) → within_span n ≡ given d → InSpan d
day_span n d h = let s = span_is n d h in record { low = omega (arith, s.0, s.2); high = omega (arith, s.1, s.2) }

pub month_span : (s d n : ℕ) → in_month s d ≡ given n → InSpan n
unfolding in_month
month_span s d n h = let w = made_within _ _ _ n (made _ _ _ n h) in record { low = w.0; high = w.1 }

-- the month that a day was taken in
pub month_of_lem : (s d n : ℕ) → in_month s d ≡ given n → month_index n ≡ s
unfolding month_index
month_of_lem s d n h = rw (month_day_kept s d n h) (omega arith)

-- a month of 1800 to 2399 has a day to take
pub month_there : (s d : ℕ) → 1 ≤ d → 21600 ≤ s → s ≤ 28799 → in_month s d ≡ given (day_number (s / 12) (s % 12 + 1) (min d (month_length (s / 12) (s % 12 + 1))))
unfolding in_month
month_there s d p a b =
    let g = length_ge (s / 12) (s % 12 + 1) (omega arith) in
    sym (make_ok (s / 12) (s % 12 + 1) (min d (month_length (s / 12) (s % 12 + 1))) (omega arith) (omega arith) (omega arith) (omega arith) (omega arith) (omega arith) _ refl)

-- no month taken is no step
pub month_zero : (n : ℕ) → in_book n ≡ true → in_month (month_index n) (fields_of n).day ≡ given n
unfolding in_month month_index
month_zero n h =
    let v = fields_valid n in
    let y = book_years n h in
    let q : (12 * (fields_of n).year + (fields_of n).month - 1) / 12 ≡ (fields_of n).year = omega (arith, v.month, v.twelve) in
    let r : (12 * (fields_of n).year + (fields_of n).month - 1) % 12 + 1 ≡ (fields_of n).month = omega (arith, v.month, v.twelve) in
    let w : min (fields_of n).day (month_length (fields_of n).year (fields_of n).month) ≡ (fields_of n).day = omega (arith, v.last) in
    rw (q, r, w) (sym (make_ok (fields_of n).year (fields_of n).month (fields_of n).day (omega (arith, y.0)) (omega (arith, y.1)) v.month v.twelve v.first v.last n (sym (day_of_fields n (omega (arith, book_from n h))))))

-- the months of the book
pub since : (n : ℕ) → in_book n ≡ true → (22812 ≤ month_index n) × (month_index n ≤ 26399)
unfolding month_index
since n h =
    let v = fields_valid n in
    let y = book_years n h in
    (omega (arith, y.0, v.month), omega (arith, y.1, v.twelve))
