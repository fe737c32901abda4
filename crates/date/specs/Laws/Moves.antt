-- Laws of the functions that move a date, in the shape that the proofs of the code want.
-- Assumes nothing.
use Rattle.std.specs.Prelude.{ℕ, zero, suc, ◌+◌, ◌-◌, ◌*◌, ◌/◌, ◌%◌, ◌≤◌, ◌<◌, min, ◌≡◌, refl, Bool, true, false, cond, leb, ltb, pos, negsuc, ◌-ℤ◌}
use Rattle.std.proofs.Common.{ap, ◌∙◌, arith, SFits, to_z, of_z, to_z-of_z, le-leb, leb-true, le-ltb}
use Rattle.std.proofs.Math.Path.{sym}
use Rattle.std.proofs.lemmas.Bool.{false≢true, lt-leb}
use Rattle.std.proofs.Math.IntN.{sub_ℕ}
use Rattle.std.specs.Int.{w32}
use Rattle.std.proofs.lemmas.Int.{to_z_pos}
use Rattle.refusal.specs.Answer.{Answer, given, refused, then, BOOK}
use Rattle.refusal.specs.Laws.Answers.{fails, after, holds, both}
use Rattle.date.specs.declared.Fields.{Fields}
use Rattle.date.specs.Civil.{month_length, day_number, fields_at, fields_of, weekday_of, days_until}
use Rattle.date.specs.Date.{SPAN_FIRST, SPAN_LAST, in_book, make_of, within_span, step, in_month, nth_weekday_of}
use Rattle.date.specs.Laws.Years.{years_few}
use Rattle.date.specs.Laws.Round.{Valid, fields_valid}
use Rattle.date.specs.Laws.Months.{length_le, length_ge}
use Rattle.date.specs.Laws.Made.{make_early, make_late, make_day_0, make_ok, made, made_within}

-- what a call gave as fields has the laws of fields
pub valid_at : (f : Fields) (n : ℕ) → f ≡ fields_of n → Valid f.year f.month f.day
valid_at f n e = rw e (fields_valid n)

year_few : (n : ℕ) → 365 * (fields_of n).year ≤ n + 365
unfolding fields_at
year_few n = omega (arith, years_few (n - 1))

pub year_at_lem : (f : Fields) (n : ℕ) → f ≡ fields_of n → 365 * f.year ≤ n + 365
year_at_lem f n e = rw e (year_few n)

-- ---- steps
step_le_at : (b : Bool) (n k : ℕ) → step b n k ≤ n + k
unfolding step
step_le_at true n k = omega arith
step_le_at false n k = omega arith

pub step_le : (r : ℕ) (b : Bool) (n k : ℕ) → r ≡ step b n k → r ≤ n + k
step_le r b n k e = rw e (step_le_at b n k)

pub step_back : (b : Bool) (n k r : ℕ) → b ≡ true → r ≡ n - k → r ≡ step b n k
unfolding step
step_back true n k r e h = h
step_back false n k r e h = absurd (false≢true e)

pub step_on : (b : Bool) (n k r : ℕ) → b ≡ false → r ≡ n + k → r ≡ step b n k
unfolding step
step_on true n k r e h = absurd (false≢true (sym e))
step_on false n k r e h = h

-- ---- the span
module _ (n : ℕ) where
  pub span_early : n < SPAN_FIRST → refused BOOK ≡ within_span n
  unfolding within_span
  span_early h = fails BOOK _ _ (lt-leb SPAN_FIRST n h)

  pub span_late : SPAN_LAST < n → refused BOOK ≡ within_span n
  unfolding within_span
  span_late h = after BOOK _ _ (fails BOOK _ _ (lt-leb n SPAN_LAST h))

  pub span_in : SPAN_FIRST ≤ n → n ≤ SPAN_LAST → given n ≡ within_span n
  unfolding within_span
  span_in a b = holds BOOK _ _ _ (le-leb SPAN_FIRST n a) (holds BOOK _ _ _ (le-leb n SPAN_LAST b) refl)

-- a month after December 2399 is refused
pub month_late : (t d : ℕ) → 28799 < t → refused BOOK ≡ in_month t d
unfolding in_month
month_late t d h = make_late _ _ _ (omega arith)

-- and one before January 1800
pub month_early : (t d : ℕ) → t < 21600 → refused BOOK ≡ in_month t d
unfolding in_month
month_early t d h = make_early _ _ _ (omega arith)

pub month_day_0 : (t d : ℕ) → d < 1 → refused BOOK ≡ in_month t d
unfolding in_month
month_day_0 t d h = make_day_0 _ _ _ (omega arith)

-- the day that is taken of a month of that length
module _ (t d len k : ℕ) (l : len ≡ month_length (t / 12) (t % 12 + 1)) (m : k ≡ min d len) where
  pub month_day_le : k ≤ 31
  month_day_le = omega (arith, length_le (t / 12) (t % 12 + 1))

  pub month_day : 21600 ≤ t → t ≤ 28799 → 1 ≤ d → (n : ℕ) → n ≡ day_number (t / 12) (t % 12 + 1) k → given n ≡ in_month t d
  unfolding in_month
  month_day a b e n q =
      let g = length_ge (t / 12) (t % 12 + 1) (omega arith) in
      rw (← l, ← m) (make_ok _ _ _ (omega arith) (omega arith) (omega arith) (omega arith) (omega arith) (omega arith) n q)

-- a number that tells the day, or that there is none
module _ (t d n : ℕ) where
  pub month_within : given n ≡ in_month t d → within_span n ≡ in_month t d
  unfolding in_month
  month_within h =
      let w = made_within (t / 12) (t % 12 + 1) _ n (made (t / 12) (t % 12 + 1) _ n (sym h)) in
      sym (span_in n w.0 w.1) ∙ h

  pub month_outside : n < SPAN_FIRST → refused BOOK ≡ in_month t d → within_span n ≡ in_month t d
  month_outside l h = sym (span_early n l) ∙ h

-- ---- weekdays
pub weekday_small : (n : ℕ) → weekday_of n ≤ 7
unfolding weekday_of
weekday_small n = omega arith

until_small : (n w : ℕ) → days_until n w < 7
unfolding days_until
until_small n w = omega arith

pub until_at : (r n w : ℕ) → r ≡ days_until n w → r < 7
until_at r n w e = rw e (until_small n w)

-- the n-th weekday, where the four numbers pass
module _ (n w m y : ℕ) (a : 1 ≤ w) (b : w ≤ 7) (e : 1 ≤ n) (f : n ≤ 5) where
  pub nth_of : (r : Answer ℕ) → r ≡ then (make_of y m 1) (λ first. make_of y m (1 + days_until first w + 7 * (n - 1))) → r ≡ nth_weekday_of n w m y
  unfolding nth_weekday_of
  nth_of r h =
      holds BOOK (leb 1 w) _ _ (le-leb 1 w a)
      (holds BOOK (leb w 7) _ _ (le-leb w 7 b) (holds BOOK (leb 1 n) _ _ (le-leb 1 n e) (holds BOOK (leb n 5) _ _ (le-leb n 5 f) h)))

-- ---- days of the book
pub book_le : (n : ℕ) → in_book n ≡ true → n ≤ 803168
unfolding in_book
book_le n e = leb-true n 803168 (both (leb 693961 n) (leb n 803168) e).1

pub book_from : (n : ℕ) → in_book n ≡ true → 693961 ≤ n
unfolding in_book
book_from n e = leb-true 693961 n (both (leb 693961 n) (leb n 803168) e).0

-- ---- a difference of two days up to the span's last, of the book or not
pos_sub : (a b : ℕ) → pos a -ℤ pos b ≡ sub_ℕ a b
pos_sub a zero = simp (le-ltb a 0 (omega arith)) (ap pos (omega arith))
pos_sub a (suc b) = refl

pub diff32 : (a b : ℕ) → a ≤ SPAN_LAST → b ≤ SPAN_LAST → to_z w32 a -ℤ to_z w32 b ≡ sub_ℕ a b
diff32 a b p q = rw (to_z_pos w32 a (omega arith), to_z_pos w32 b (omega arith)) (pos_sub a b)

diff_fits_go : (a b : ℕ) (t : Bool) → a ≤ SPAN_LAST → b ≤ SPAN_LAST → SFits w32 (cond t (negsuc (b - suc a)) (pos (a - b)))
diff_fits_go a b true p q = record { sfits = omega arith }
diff_fits_go a b false p q = record { sfits = omega arith }

pub diff_fits : (a b : ℕ) → a ≤ SPAN_LAST → b ≤ SPAN_LAST → SFits w32 (sub_ℕ a b)
diff_fits a b p q = diff_fits_go a b (ltb a b) p q

pub diff_back : (a b : ℕ) → a ≤ SPAN_LAST → b ≤ SPAN_LAST → to_z w32 (of_z w32 (sub_ℕ a b)) ≡ sub_ℕ a b
diff_back a b p q = to_z-of_z {w = w32} {z = sub_ℕ a b} (diff_fits a b p q)
