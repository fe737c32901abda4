-- Whether two conventions are the same.
-- Assumes nothing.
use Rattle.std.specs.Prelude.{ℕ, ◌≡◌, refl, Bool, true, eqb, get_or}
use Rattle.std.proofs.Common.{sym, ap, ◌∙◌, eqb-true}
use Rattle.calendar.specs.declared.Convention.{Convention}
use Rattle.calendar.specs.declared.Convention.TheVariants.{Unadjusted, Following, ModifiedFollowing, Preceding, ModifiedPreceding}
use Rattle.calendar.specs.Adjust.{conventions, convention_number}

unfoldable pub same_convention : Convention → Convention → Bool
same_convention a b = eqb (convention_number a) (convention_number b)

-- a convention stands in its number's place
at_number : (c : Convention) → get_or conventions (convention_number c) Unadjusted ≡ c
unfolding conventions convention_number
at_number Unadjusted = refl
at_number Following = refl
at_number ModifiedFollowing = refl
at_number Preceding = refl
at_number ModifiedPreceding = refl

-- so those that are the same are equal
pub same_equal : (a b : Convention) → same_convention a b ≡ true → a ≡ b
unfolding same_convention
same_equal a b e =
    sym (at_number a) ∙ ap (λ (n : ℕ). get_or conventions n Unadjusted) (eqb-true _ _ e) ∙ at_number b
