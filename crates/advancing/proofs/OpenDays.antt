-- Request L11 for open days whose signs are like: two advances make one. The convention and the month-end flag say nothing for days, and may be
-- others in each call.
-- Assumes nothing.
use Rattle.std.specs.Prelude.{ℕ, ◌≤◌, ◌≡◌, Bool, List, ℤ, nat_abs, ◌+ℤ◌}
use Rattle.std.proofs.Math.Path.{sym}
use Rattle.std.proofs.Common.{◌∙◌, arith}
use Rattle.std.proofs.Math.Bool.{true}
use Rattle.refusal.specs.Answer.{given}
use Rattle.refusal.specs.Laws.Answers.{one_given}
use Rattle.period.specs.declared.Unit.TheVariants.{Days}
use Rattle.date.specs.Date.{in_book}
use Rattle.calendar.specs.declared.Convention.{Convention}
use Rattle.calendar.specs.Calendar.{advanced_of}
use Rattle.advancing.specs.Laws.Signs.{sum}
use Rattle.advancing.specs.Laws.OpenSteps.{one_way}
use Rattle.advancing.specs.OpenDays.{Like, like_size, asked, gone, as_one}

module _
    (mask : ℕ) (closed : List ℕ) (v v' : Convention) (e e' : Bool) (a : ℤ) (day new : ℕ) (first : advanced_of mask closed a Days v e day ≡ given new)
    (v'' : Convention) (e'' : Bool) (b : ℤ)
  where
    -- a, then b of the like sign from a date of the book, is a + b: the same date, or the same refusal; from any day, open or closed
    pub open_days_add : Like a b → in_book new ≡ true → nat_abs (a +ℤ b) ≤ 366 → advanced_of mask closed b Days v' e' new ≡ advanced_of mask closed (a +ℤ b) Days v'' e'' day
    open_days_add i q z = as_one mask closed v v' e e' a day new first v'' e'' b q (omega (arith, like_size a b i)) z (one_way mask closed day new _ _ _ _ _ _ (sum a b) (like_size a b i) (gone mask closed v v' e e' a day new first))

    -- so if the first two are answered and the sum is at most 366, the third is, and is the same
    pub open_days_third : (end : ℕ) → Like a b → nat_abs (a +ℤ b) ≤ 366 → advanced_of mask closed b Days v' e' new ≡ given end → advanced_of mask closed (a +ℤ b) Days v'' e'' day ≡ given end
    open_days_third end i z h = sym (open_days_add i (asked mask closed v' e' b new end h).book z) ∙ h

    -- and where all three are answered they agree
    pub open_days_agree : (end other : ℕ) → Like a b → advanced_of mask closed b Days v' e' new ≡ given end → advanced_of mask closed (a +ℤ b) Days v'' e'' day ≡ given other → end ≡ other
    open_days_agree end other i h h' =
        one_given _ end other (open_days_third end i (asked mask closed v'' e'' (a +ℤ b) day other h').size h) h'
