-- Worked answers, and what a caller may conclude from one.
-- Assumes nothing.
use Rattle.std.specs.Prelude.{ℕ, zero, suc, ◌≡◌, refl, [], ◌∷◌, pos, negsuc}
use Rattle.std.proofs.Math.IntN.{pos-ne-negsuc}
use Rattle.refusal.specs.Answer.{Answer, given, refused, need}
use Rattle.refusal.specs.Refusals.{refusals, pick, of_number, letters, name_of_number}
use Rattle.period.specs.declared.Unit.{Unit}
use Rattle.period.specs.declared.Unit.TheVariants.{Days, Weeks, Months, Years}
use Rattle.date.specs.Date.{in_book, compare_of}
use Rattle.calendar.specs.declared.Convention.{Convention}
use Rattle.calendar.specs.declared.Convention.TheVariants.{Unadjusted, Following, ModifiedFollowing, Preceding, ModifiedPreceding}
use Rattle.calendar.specs.Adjust.{conventions, convention_number}
use Rattle.steps.specs.declared.Rule.{Rule}
use Rattle.steps.specs.declared.Rule.TheVariants.{Zero, Backward, Forward, Twentieth, TwentiethIMM, ThirdWednesday, ThirdWednesdayInclusive, OldCDS, CDS, CDS2015}
use Rattle.steps.specs.Rules.{rules, rule_number}
use Rattle.crossing.specs.Answers.{one_number_of, place, marked}
use Rattle.crossing.specs.Names.{name_of}
use Rattle.crossing.specs.Numbers.{unit_of, rule_of, convention_of, flag_of, unit_number}
use Rattle.coming.specs.Coming.{begins, comes, none_comes}

-- an answer below zero is a refusal, and its number is the refusal's
pub below_zero : {A : Type 0} (f : A → ℕ) (a : Answer A) (n : ℕ) → one_number_of f a ≡ negsuc n → a ≡ refused (suc n)
below_zero f (given a) n e = absurd (pos-ne-negsuc (f a) n e)
below_zero f (refused zero) n e = absurd (pos-ne-negsuc 0 n e)
below_zero f (refused (suc k)) n e = cc

-- a missing date has no place in the order
pub missing_date : (d : ℕ) → one_number_of place (compare_of 0 d) ≡ negsuc 1
unfolding compare_of need in_book
missing_date d = refl

-- numbers and names agree, and there is no rule 10 and no flag 2
pub rule_numbered : (r : Rule) → rule_of (rule_number r) ≡ given r
unfolding rule_of rules rule_number
rule_numbered Zero = refl
rule_numbered Backward = refl
rule_numbered Forward = refl
rule_numbered Twentieth = refl
rule_numbered TwentiethIMM = refl
rule_numbered ThirdWednesday = refl
rule_numbered ThirdWednesdayInclusive = refl
rule_numbered OldCDS = refl
rule_numbered CDS = refl
rule_numbered CDS2015 = refl

pub convention_numbered : (c : Convention) → convention_of (convention_number c) ≡ given c
unfolding convention_of conventions convention_number
convention_numbered Unadjusted = refl
convention_numbered Following = refl
convention_numbered ModifiedFollowing = refl
convention_numbered Preceding = refl
convention_numbered ModifiedPreceding = refl

pub unit_numbered : (u : Unit) → unit_of (unit_number u) ≡ given u
unfolding unit_of unit_number
unit_numbered Days = refl
unit_numbered Weeks = refl
unit_numbered Months = refl
unit_numbered Years = refl

pub no_rule_ten : rule_of 10 ≡ refused 17
unfolding rule_of rules
no_rule_ten = refl

pub no_flag_two : flag_of 2 ≡ refused 17
unfolding flag_of
no_flag_two = refl

-- refusals 2, 19 and 27 are BOOK, NOTPLAIN and SHORTEND; there is no refusal 18, and a value has no name
pub book_named : name_of (negsuc 1) ≡ 66 ∷ 79 ∷ 79 ∷ 75 ∷ []
unfolding name_of name_of_number of_number pick refusals letters
book_named = refl

pub shortend_named : name_of (negsuc 26) ≡ 83 ∷ 72 ∷ 79 ∷ 82 ∷ 84 ∷ 69 ∷ 78 ∷ 68 ∷ []
unfolding name_of name_of_number of_number pick refusals letters
shortend_named = refl

pub no_twenty_eighth : name_of (negsuc 27) ≡ []
unfolding name_of name_of_number of_number pick refusals
no_twenty_eighth = refl

pub not_plain_named : name_of (negsuc 18) ≡ 78 ∷ 79 ∷ 84 ∷ 80 ∷ 76 ∷ 65 ∷ 73 ∷ 78 ∷ []
unfolding name_of name_of_number of_number pick refusals letters
not_plain_named = refl

-- L2's sum: 2025-03-20, irregular
pub coming_marked : (marked (comes 739330 0) ≡ 2957320) × (marked (comes 739422 1) ≡ 2957689) × (marked (begins 739266) ≡ 2957066) × (marked none_comes ≡ 0)
coming_marked = (refl, refl, refl, refl)

pub value_unnamed : (n : ℕ) → name_of (pos n) ≡ []
unfolding name_of
value_unnamed n = refl
