-- A law for each way through the code, over what the calls on the way gave.
-- Assumes nothing.
use Prim.Native.Nat.{ℕ, zero, suc, ◌+◌, ◌-◌, ◌*◌, ◌<◌, ◌≤◌}
use mathlib.Core.Path.{◌≡◌, refl, sym, ap, ◌∙◌}
use mathlib.Core.Bool.{Bool, true, false}
use mathlib.Core.List.{List}
use native.Mathlib.Omega.{arith}
use lib.Dec.{eqb}
use lib.IntN.{ℤ, pos, negsuc}
use mir.Syntax.{w32}
use mir.Val.{SFits, of_z}
use borrow.Author.Rules.{rules}
use borrow.Author.Tests.{ne_eqb}
use Rattle.refusal.specs.Answer.{Answer, given}
use Rattle.period.specs.Laws.Signed.{abs_small}
use Rattle.period.specs.declared.Period.{Period}
use Rattle.date.specs.declared.Fields.{Fields}
use Rattle.date.specs.Civil.{fields_of}
use Rattle.date.specs.Laws.Moves.{valid_at, year_at_lem}
use Rattle.calendar.specs.Adjust.{at_month_end}
use Rattle.steps.specs.declared.Rule.TheVariants.{Zero}
use Rattle.steps.specs.declared.Request.{Request}
use Rattle.steps.specs.declared.Rule.{Rule}
use Rattle.steps.specs.Rules.{is_none, rule_under, rule_in_force, is_zero, tenor_under, tenor_in_force}
use Rattle.steps.specs.Finish.{seed_asked, seed_at_end}

-- ---- lengths
pub none_test : (z : ℤ) → SFits w32 z → eqb (of_z w32 z) 0 ≡ is_none z
unfolding is_none
none_test (pos n) s = refl
none_test (negsuc n) s =
    ne_eqb (4294967296 - suc n) 0 (λ (e : 4294967296 - suc n ≡ 0). omega (arith, abs_small (negsuc n) s))
    ∙ sym (ne_eqb (suc n) 0 (λ (e : suc n ≡ 0). omega arith))

module _ (q : Request) (none : Bool) where
  pub rule_forced : none ≡ is_none q.tenor.length → none ≡ true → Zero ≡ rule_in_force q
  unfolding rule_in_force rule_under
  rule_forced p e = let t : is_none q.tenor.length ≡ true = cc in rw t

  pub rule_asked : none ≡ is_none q.tenor.length → none ≡ false → q.rule ≡ rule_in_force q
  unfolding rule_in_force rule_under
  rule_asked p e = let t : is_none q.tenor.length ≡ false = cc in rw t

pub ruleset rules_in_force = (rule_forced, rule_asked, rules)

module _ (q : Request) (rule : Rule) (z : Bool) (r : rule ≡ rule_in_force q) (p : z ≡ is_zero rule) where
  pub tenor_by : (b : Bool) (tenor : Period) → z ≡ b → tenor ≡ tenor_under b q.tenor → tenor ≡ tenor_in_force q
  unfolding tenor_in_force
  tenor_by b tenor e h = let v : is_zero (rule_in_force q) ≡ b = sym (ap is_zero r) ∙ sym p ∙ e in rw v h

-- ---- the seed
pub year_fits : (f : Fields) (day : ℕ) → day < 4294967296 → f ≡ fields_of day → 12 * f.year + f.month < 4294967296
year_fits f day b e = let v = valid_at f day e in omega (arith, year_at_lem f day e, v)

pub month_from_one : (f : Fields) (day : ℕ) → f ≡ fields_of day → 1 ≤ f.month
month_from_one f day e = (valid_at f day e).month

asked_of : (mask : ℕ) (closed : List ℕ) (r : Answer Bool) (n : ℕ) → (n ≡ 0 → ⊥) → r ≡ at_month_end mask closed n → r ≡ seed_asked n mask closed
unfolding seed_asked
asked_of mask closed r zero z h = absurd (z refl)
asked_of mask closed r (suc n) z h = h

module _ (monthend : Bool) (mask : ℕ) (closed : List ℕ) (seed : ℕ) where
  pub seed_off : monthend ≡ false → given false ≡ seed_at_end monthend mask closed seed
  unfolding seed_at_end
  seed_off e = rw e

  pub seed_none : monthend ≡ true → seed ≡ 0 → given false ≡ seed_at_end monthend mask closed seed
  unfolding seed_at_end seed_asked
  seed_none e z = rw (e, z)

  pub seed_some : (r : Answer Bool) → monthend ≡ true → (seed ≡ 0 → ⊥) → r ≡ at_month_end mask closed seed → r ≡ seed_at_end monthend mask closed seed
  unfolding seed_at_end
  seed_some r e z h = rw e (asked_of mask closed r seed z h)
