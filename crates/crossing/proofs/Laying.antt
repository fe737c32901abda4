-- A float by its bits, and numbers at the start of a lent list: a law for each way.
-- Assumes nothing.
use Rattle.std.specs.Prelude.{Result, Ok, Err}
use Prim.Native.Nat.{ℕ, ◌≤◌, ◌<◌}
use mathlib.Core.Path.{◌≡◌, ap, sym, ◌∙◌}
use mathlib.Core.Bool.{not}
use mathlib.Core.List.{List}
use lib.Dec.{T}
use lib.Ieee.{Float, nan, inf, fin, is_nan, fits, binary64, to_bits}
use lib.IntN.{ℤ, pos, neg_ℤ}
use lib.ListN.{length}
use lib.Signed.{mag}
use mir.Syntax.{w64}
use mir.Val.{to_z, of_z}
use borrow.Author.Rules.{rules}
use borrow.Author.Tests.{le-leb, lt-leb}
use Rattle.refusal.specs.Answer.{Answer, given, refused, answered_by, ROOM}
use Rattle.refusal.specs.Laws.Answers.{fails, holds}
use Rattle.steps.specs.Build.{over}
use Rattle.fractions.specs.declared.Basis.{Basis}
use Rattle.fractions.specs.declared.Fraction.{Fraction}
use Rattle.fractions.specs.declared.Fraction.TheVariants as fraction-is
use Rattle.fractions.specs.Fractions.{fraction, fraction_of}
use Rattle.fractions.specs.Promise.{from_zero}
use Rattle.fractions.specs.Laws.Floats.{fraction_given}
use Rattle.crossing.specs.Answers.{one_number_of, done}
use Rattle.crossing.specs.Years.{bits, with_places, laid, Laid}
use Rattle.crossing.specs.Laws.Calls.{told_given, told_refused}

-- ---- a fraction's float
pub no_nan : (x : Float) → T (from_zero x) → T (not (is_nan x))
unfolding is_nan
no_nan nan p = absurd p
no_nan (inf s) p = tt
no_nan (fin s m e) p = tt

module _ (k : Basis) (a b : ℕ) (f : Fraction) (e : fraction f ≡ fraction_of k a b) where
  pub float_fits : (x : Float) → f ≡ fraction-is.Of x → T (fits binary64 x)
  unfolding fraction
  float_fits x i = (fraction_given k a b x (sym e ∙ ap fraction i)).fit

  pub float_from_zero : (x : Float) → f ≡ fraction-is.Of x → T (from_zero x)
  unfolding fraction
  float_from_zero x i = (fraction_given k a b x (sym e ∙ ap fraction i)).not_below

  module _ {r : ℤ} (s : mag r < 9223372036854775808) where
    pub bits_given : (x : Float) → f ≡ fraction-is.Of x → r ≡ pos (to_bits binary64 x) → to_z w64 (of_z w64 r) ≡ one_number_of bits (fraction_of k a b)
    unfolding fraction
    bits_given x i h = told_given bits s _ x h (sym (ap fraction i) ∙ e)

    pub bits_refused : (n : ℕ) → f ≡ fraction-is.Refused n → r ≡ neg_ℤ (pos n) → to_z w64 (of_z w64 r) ≡ one_number_of bits (fraction_of k a b)
    unfolding fraction
    bits_refused n i h = told_refused bits s _ n h (sym (ap fraction i) ∙ e)

pub ruleset floats = (float_fits, float_from_zero, bits_given, bits_refused, rules)

-- ---- numbers in a lent list
module _ {E : Type 0} (number : E → ℕ) (places : ℕ) (m : Result (List ℕ) E) (list : List ℕ) {r : ℤ} (s : mag r < 9223372036854775808) where
  pub numbers_short : length list < places → r ≡ neg_ℤ (pos 14) → Laid places (answered_by number m) (to_z w64 (of_z w64 r)) list list
  unfolding with_places laid
  numbers_short h e =
      let o : refused ROOM ≡ with_places places list (answered_by number m) = fails ROOM _ _ (lt-leb places (length list) h) in
      record { answer = told_refused done s _ 14 e o; list_after_lem = ap (λ (y : Answer (List ℕ)). laid y list) o }

  module _ (h : places ≤ length list) where
    pub numbers_refused : (n : E) → m ≡ Err n → r ≡ neg_ℤ (pos (number n)) → Laid places (answered_by number m) (to_z w64 (of_z w64 r)) list list
    unfolding with_places laid
    numbers_refused n p e =
        let o : refused (number n) ≡ with_places places list (answered_by number m) = holds ROOM _ _ _ (le-leb places (length list) h) (sym (ap (answered_by number) p)) in
        record { answer = told_refused done s _ (number n) e o; list_after_lem = ap (λ (y : Answer (List ℕ)). laid y list) o }

pub numbers_laid : {E : Type 0} (number : E → ℕ) (places : ℕ) (m : Result (List ℕ) E) (list : List ℕ) → places ≤ length list → (numbers list' : List ℕ) → m ≡ Ok numbers → list' ≡ over numbers list → Laid places (answered_by number m) (pos 0) list list'
unfolding with_places laid
numbers_laid number places m list h numbers list' p l =
    let o : given numbers ≡ with_places places list (answered_by number m) = holds ROOM _ _ _ (le-leb places (length list) h) (sym (ap (answered_by number) p)) in
    record { answer = ap (one_number_of done) o; list_after_lem = l ∙ ap (λ (y : Answer (List ℕ)). laid y list) o }
