-- Request L11 for open days: chained advances in days under a calendar, as the public call answers them. The convention and the
-- month-end flag say nothing for days, and may be others in each call.
-- Assumes nothing.
use Rattle.std.specs.Prelude.{ℕ, zero, suc, ◌+◌, ◌≤◌, ◌≡◌, refl, Bool, List, leb, ℤ, pos, negsuc, neg_ℤ, nat_abs, ◌+ℤ◌}
use Rattle.std.proofs.Math.Path.{sym}
use Rattle.std.proofs.Common.{◌∙◌, arith}
use Rattle.std.proofs.Math.Bool.{true, false}
use Rattle.std.proofs.lemmas.Bool.{false≢true}
use Rattle.std.specs.Int.Signed.{le_z}
use borrow.Author.Tests.{leb-true, le-leb}
use Rattle.refusal.specs.Answer.{given, BOOK, CALENDAR, TENOR}
use Rattle.refusal.specs.Laws.Answers.{need_given, holds, one_given}
use Rattle.period.specs.Period.{is_negative}
use Rattle.period.specs.declared.Unit.TheVariants.{Days}
use Rattle.date.specs.Date.{in_book}
use Rattle.date.specs.Laws.Moves.{book_le, book_from}
use Rattle.calendar.specs.declared.Convention.{Convention}
use Rattle.calendar.specs.Open.{is_open_day, calendar_ok}
use Rattle.calendar.specs.AnyCalendar as any
use Rattle.calendar.specs.Adjust.{in_span, open_steps}
use Rattle.calendar.specs.Calendar.{longest, tenor_ok, advanced_of}
use Rattle.advancing.specs.Laws.Signs.{Sum, sum}
use Rattle.advancing.specs.Laws.OpenSteps.{of_span, return, from_open}

-- neither is negative, or neither is positive
pub data Like (a b : ℤ) : Type 0 where
  none_negative : le_z (pos 0) a ≡ true → le_z (pos 0) b ≡ true → Like a b
  none_positive : le_z a (pos 0) ≡ true → le_z b (pos 0) ≡ true → Like a b

not_positive : (k : ℕ) → le_z (pos k) (pos 0) ≡ true → k ≡ 0
not_positive k h = omega (arith, leb-true k 0 h)

after_none : (d : Bool) (k l j : ℕ) → k ≡ 0 → Sum false k true l d j → j ≡ k + l
unfolding Sum
after_none false k l j z e = omega arith
after_none true k l j z e = omega arith

before_none : (d : Bool) (k l j : ℕ) → l ≡ 0 → Sum true k false l d j → j ≡ k + l
unfolding Sum
before_none false k l j z e = omega arith
before_none true k l j z e = omega arith

-- the sum of like numbers is as large as both together
pub like_size : (a b : ℤ) → Like a b → nat_abs (a +ℤ b) ≡ nat_abs a + nat_abs b
like_size (pos k) (pos l) i = refl
like_size (pos k) (negsuc l) (none_negative x y) = absurd (false≢true y)
like_size (pos k) (negsuc l) (none_positive x y) = after_none _ k (suc l) _ (not_positive k x) (sum (pos k) (negsuc l))
like_size (negsuc k) (pos l) (none_negative x y) = absurd (false≢true x)
like_size (negsuc k) (pos l) (none_positive x y) = before_none _ (suc k) l _ (not_positive l y) (sum (negsuc k) (pos l))
like_size (negsuc k) (negsuc l) i = omega arith

-- ---- the public call, taken apart
book_span : (day : ℕ) → in_book day ≡ true → in_span day ≡ true
book_span day h =
    of_span day (record { low = omega (arith, book_from day h); high = omega (arith, book_le day h) })

-- what the call tests before it goes
pub record Tested (mask : ℕ) (closed : List ℕ) (a : ℤ) (day : ℕ) : Type 0 where
  pub book : in_book day ≡ true
  pub sound : calendar_ok mask closed ≡ true
  pub size : nat_abs a ≤ 366

module _ (mask : ℕ) (closed : List ℕ) where
  pub asked : (v : Convention) (e : Bool) (a : ℤ) (day new : ℕ) → advanced_of mask closed a Days v e day ≡ given new → Tested mask closed a day
  unfolding advanced_of tenor_ok longest
  asked v e a day new h =
      let p = need_given BOOK (in_book day) _ new h in
      let q = need_given CALENDAR (calendar_ok mask closed) _ new p.1 in
      let r = need_given TENOR (leb (nat_abs a) 366) _ new q.1 in
      record { book = p.0; sound = q.0; size = leb-true (nat_abs a) 366 r.0 }

  as_steps : (v : Convention) (e : Bool) (a : ℤ) (day : ℕ) → Tested mask closed a day → advanced_of mask closed a Days v e day ≡ open_steps mask closed (is_negative a) (nat_abs a) day
  unfolding advanced_of any.advanced any.by_unit tenor_ok longest
  as_steps v e a day g =
      sym
      (holds BOOK (in_book day) _ _ g.book
      (holds CALENDAR (calendar_ok mask closed) _ _ g.sound
      (holds TENOR (leb (nat_abs a) 366) _ _ (le-leb (nat_abs a) 366 g.size) (holds BOOK (in_span day) _ _ (book_span day g.book) refl))))

  back_steps : (a : ℤ) (day new : ℕ) → is_open_day mask closed day ≡ true → in_span day ≡ true → open_steps mask closed (is_negative a) (nat_abs a) day ≡ given new → open_steps mask closed (is_negative (neg_ℤ a)) (nat_abs (neg_ℤ a)) new ≡ given day
  unfolding any.open_steps
  back_steps (pos zero) day new o s p = sym p
  back_steps (pos (suc k)) day new o s p = return mask closed false (suc k) day new o s p
  back_steps (negsuc k) day new o s p = return mask closed true (suc k) day new o s p

-- the size of the opposite number is the same
opposite : (a : ℤ) → nat_abs (neg_ℤ a) ≡ nat_abs a
opposite (pos zero) = refl
opposite (pos (suc k)) = refl
opposite (negsuc k) = refl

-- ---- the laws
module _ (mask : ℕ) (closed : List ℕ) (v v' : Convention) (e e' : Bool) (a : ℤ) (day new : ℕ) (first : advanced_of mask closed a Days v e day ≡ given new) where
  pub gone : open_steps mask closed (is_negative a) (nat_abs a) day ≡ given new
  gone = sym (as_steps mask closed v e a day (asked mask closed v e a day new first)) ∙ first

  calendar_sound : calendar_ok mask closed ≡ true
  calendar_sound = (asked mask closed v e a day new first).sound

  in_span_lem : in_span day ≡ true
  in_span_lem = book_span day (asked mask closed v e a day new first).book

  module _ (v'' : Convention) (e'' : Bool) (b : ℤ) where
    pub as_one : in_book new ≡ true → nat_abs b ≤ 366 → nat_abs (a +ℤ b) ≤ 366 → open_steps mask closed (is_negative b) (nat_abs b) new ≡ open_steps mask closed (is_negative (a +ℤ b)) (nat_abs (a +ℤ b)) day → advanced_of mask closed b Days v' e' new ≡ advanced_of mask closed (a +ℤ b) Days v'' e'' day
    as_one q x y h =
        as_steps mask closed v' e' b new (record { book = q; sound = calendar_sound; size = x })
        ∙ h
        ∙ sym (as_steps mask closed v'' e'' (a +ℤ b) day (record { book = (asked mask closed v e a day new first).book; sound = calendar_sound; size = y }))

    -- from an open day the same for every two signs
    pub open_days_add_from_open : is_open_day mask closed day ≡ true → in_book new ≡ true → nat_abs b ≤ 366 → nat_abs (a +ℤ b) ≤ 366 → advanced_of mask closed b Days v' e' new ≡ advanced_of mask closed (a +ℤ b) Days v'' e'' day
    open_days_add_from_open o q x z = as_one q x z (from_open mask closed day new o in_span_lem _ _ _ _ _ _ (sum a b) gone)

  -- from an open day, a and then - a is the start: answered, if the day between lies in the book
  pub open_days_return : is_open_day mask closed day ≡ true → in_book new ≡ true → advanced_of mask closed (neg_ℤ a) Days v' e' new ≡ given day
  open_days_return o q =
      as_steps mask closed v' e' (neg_ℤ a) new
      (record { book = q; sound = calendar_sound; size = rw (opposite a) (asked mask closed v e a day new first).size })
      ∙ back_steps mask closed a day new o in_span_lem gone

  -- so where both are answered the second is the start
  pub open_days_back : (end : ℕ) → is_open_day mask closed day ≡ true → advanced_of mask closed (neg_ℤ a) Days v' e' new ≡ given end → end ≡ day
  open_days_back end o h =
      one_given _ end day
      (sym (as_steps mask closed v' e' (neg_ℤ a) new (asked mask closed v' e' (neg_ℤ a) new end h)) ∙ h)
      (back_steps mask closed a day new o in_span_lem gone)
