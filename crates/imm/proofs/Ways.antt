-- A law for each way through the code, over what the calls on the way gave.
-- Assumes nothing.
use Prim.Native.Nat.{ℕ, suc, ◌+◌, ◌-◌, ◌%◌, ◌≤◌, ◌<◌}
use mathlib.Core.Path.{◌≡◌, refl, ap, sym, ◌∙◌}
use mathlib.Core.Bool.{Bool, true, false}
use mathlib.Core.List.{List, [], ◌∷◌}
use native.Mathlib.Omega.{arith}
use lib.Dec.{eqb, leb, ltb}
use lib.ListN.{length, get_or}
use Rattle.std.proofs.Common.{Option, Some, cond, ltb-true, ltb-false}
use Rattle.std.specs.Char.{to_ascii_uppercase}
use Rattle.std.specs.Option.{unwrap_or}
use Rattle.std.specs.List.{position_from}
use borrow.Author.Tests.{le-leb, lt-leb, leb-true, eqb-true}
use Rattle.refusal.specs.Laws.Answers.{both}
use Rattle.date.specs.Laws.Moves.{valid_at}
use Rattle.date.specs.declared.Fields.{Fields}
use Rattle.date.specs.Civil.{fields_of, pick_n}
use Rattle.imm.specs.declared.codes.Code.{Code}
use Rattle.imm.specs.Imm.{in_cycle, letters, upper, place_in, month_of, is_digit, is_pair, is_code, code_of}

-- ---- bytes
module _ (b : ℕ) where
  pub capital_below : b < 97 → b ≡ upper b
  unfolding upper
  capital_below h = simp (lt-leb 97 b h)

  pub capital_above : 122 < b → b ≡ upper b
  unfolding upper
  capital_above h = simp (le-leb 97 b (omega arith), lt-leb b 122 h)

  pub capital_small : 97 ≤ b → b ≤ 122 → b - 32 ≡ upper b
  unfolding upper
  capital_small h k = simp (le-leb 97 b h, le-leb b 122 k)

upper_by : (b : ℕ) (s t : Bool) → ltb b 97 ≡ s → ltb b 123 ≡ t → cond s b (cond t (b - 32) b) ≡ upper b
upper_by b true t p q = capital_below b (ltb-true b 97 p)
upper_by b false true p q = capital_small b (ltb-false b 97 p) (omega (arith, ltb-true b 123 q))
upper_by b false false p q = capital_above b (omega (arith, ltb-false b 123 q))

pub upper_is : (b : ℕ) → to_ascii_uppercase b ≡ upper b
upper_is b = upper_by b (ltb b 97) (ltb b 123) refl refl

-- ---- the search for a letter
place_by : (i n k : ℕ) (t : Bool) (o : Option ℕ) → unwrap_or o (i + 1 + n) ≡ i + 1 + k → unwrap_or (cond t (Some i) o) (i + suc n) ≡ i + pick_n t 0 (suc k)
place_by i n k true o e = omega arith
place_by i n k false o e =
    let p : i + 1 + n ≡ i + suc n = omega arith in
    let q : i + 1 + k ≡ i + suc k = omega arith in
    rw (p, q) at e

place_from : (b i : ℕ) (xs : List ℕ) → unwrap_or (position_from (λ x. eqb x b) i xs) (i + length xs) ≡ i + place_in b xs
unfolding place_in
place_from b i [] = refl
place_from b i (x ∷ xs) = place_by i (length xs) (place_in b xs) (eqb x b) _ (place_from b (i + 1) xs)

letters_place : (b : ℕ) → unwrap_or (position_from (λ x. eqb x b) 0 letters) 12 ≡ place_in b letters
unfolding letters
letters_place b =
    let e : unwrap_or (position_from (λ x. eqb x b) 0 letters) 12 ≡ 0 + place_in b letters = place_from b 0 letters in
    e ∙ (let z : 0 + place_in b letters ≡ place_in b letters = omega arith in z)

pub letter_place : (letter b k : ℕ) (o : Option ℕ) → b ≡ to_ascii_uppercase letter → o ≡ position_from (λ x. eqb x b) 0 letters → k ≡ unwrap_or o 12 → k ≡ place_in (upper letter) letters
letter_place letter b k o e f h = h ∙ (ap (λ x. unwrap_or x 12) f ∙ (letters_place b ∙ ap (λ x. place_in x letters) (e ∙ upper_is letter)))

place_le : (b : ℕ) (xs : List ℕ) → place_in b xs ≤ length xs
unfolding place_in
place_le b [] = omega arith
place_le b (x ∷ xs) = le_by (eqb x b) (place_in b xs) (length xs) (place_le b xs)
  where
    le_by : (t : Bool) (k n : ℕ) → k ≤ n → pick_n t 0 (suc k) ≤ suc n
    le_by true k n h = omega arith
    le_by false k n h = omega arith

pub place_bound : (b : ℕ) → place_in b letters ≤ 12
unfolding letters
place_bound b = place_le b letters

-- ---- codes
pub month_at : (f : Fields) (n : ℕ) → f ≡ fields_of n → (1 ≤ f.month) × (f.month ≤ 12)
month_at f n e = ((valid_at _ _ e).month, (valid_at _ _ e).twelve)

pub code_made : (f : Fields) (n : ℕ) → f ≡ fields_of n → ◌≡◌ {A = Code} (record { letter = get_or letters (f.month - 1) 0; digit = f.year % 10 + 48 }) (code_of n)
unfolding code_of
code_made f n e = ap (λ (x : Fields). record { letter = get_or letters (x.month - 1) 0; digit = x.year % 10 + 48 }) e

-- ---- what the code check tells
module _ (main : Bool) (s : List ℕ) where
  module _ (t : Bool) (e : t ≡ is_code main s) (h : t ≡ true) where
    pub code_length : length s ≡ 2
    unfolding is_code
    code_length = eqb-true (length s) 2 (both (eqb (length s) 2) (is_pair main (get_or s 0 0) (get_or s 1 0)) (sym e ∙ h)).0

    digit_ok : is_digit (get_or s 1 0) ≡ true
    unfolding is_code is_pair
    digit_ok =
        (both (leb (month_of (get_or s 0 0)) 12) (is_digit (get_or s 1 0))
        (both _ (in_cycle main (month_of (get_or s 0 0))) (both (eqb (length s) 2) (is_pair main (get_or s 0 0) (get_or s 1 0)) (sym e ∙ h)).1).0).1

    pub code_digit_range : (48 ≤ get_or s 1 0) × (get_or s 1 0 ≤ 57)
    unfolding is_digit
    code_digit_range = (
      leb-true 48 (get_or s 1 0) (both (leb 48 (get_or s 1 0)) (leb (get_or s 1 0) 57) digit_ok).0,
      leb-true (get_or s 1 0) 57 (both (leb 48 (get_or s 1 0)) (leb (get_or s 1 0) 57) digit_ok).1,
    )
