-- The code check says yes exactly for the codes of document 01, on byte strings of every length.
-- Assumes nothing.
use Rattle.std.specs.Prelude.{ℕ, suc, ◌+◌, ◌-◌, ◌≤◌, ◌<◌, ◌≡◌, refl, Bool, true, false, ◌&&◌, ◌||◌, List, [], ◌∷◌, eqb, leb, get_or, length}
use Rattle.std.proofs.Common.{sym, ◌∙◌, arith, leb-true, le-leb, eqb-true}
use Rattle.std.proofs.lemmas.Bool.{false≢true}
use Rattle.refusal.specs.Laws.Answers.{both, all_below, below}
use Rattle.date.specs.Civil.{pick_n}
use Rattle.imm.specs.Imm.{main_month, in_cycle, letters, upper, place_in, month_of, is_digit, is_pair, is_code}

-- the codes: the letter of month k + 1, capital or small, and the digit g
pub data IsCode (main : Bool) : List ℕ → Type 0 where
  capital : (k g : ℕ) → k < 12 → g < 10 → in_cycle main (k + 1) ≡ true → IsCode main (get_or letters k 0 ∷ (g + 48) ∷ [])
  small : (k g : ℕ) → k < 12 → g < 10 → in_cycle main (k + 1) ≡ true → IsCode main ((get_or letters k 0 + 32) ∷ (g + 48) ∷ [])

pub letter_month : (k : ℕ) → k < 12 → month_of (get_or letters k 0) ≡ k + 1
unfolding all_below month_of letters upper place_in
letter_month k h = eqb-true _ (k + 1) (below 12 (λ j. eqb (month_of (get_or letters j 0)) (j + 1)) refl k h)

pub small_month : (k : ℕ) → k < 12 → month_of (get_or letters k 0 + 32) ≡ k + 1
unfolding all_below month_of letters upper place_in
small_month k h = eqb-true _ (k + 1) (below 12 (λ j. eqb (month_of (get_or letters j 0 + 32)) (j + 1)) refl k h)

-- the letters of the main cycle are H, M, U and Z
pub main_letter : ℕ → Bool
main_letter l = eqb l 72 || eqb l 77 || eqb l 85 || eqb l 90

bool_same : Bool → Bool → Bool
bool_same true b = b
bool_same false true = false
bool_same false false = true

same_bool : (a b : Bool) → bool_same a b ≡ true → a ≡ b
unfolding bool_same
same_bool true true e = refl
same_bool true false e = absurd (false≢true e)
same_bool false true e = absurd (false≢true e)
same_bool false false e = refl

pub main_letters : (k : ℕ) → k < 12 → in_cycle true (k + 1) ≡ main_letter (get_or letters k 0)
unfolding all_below bool_same in_cycle main_month main_letter letters
main_letters k h = same_bool _ _ (below 12 (λ j. bool_same (main_month (j + 1)) (main_letter (get_or letters j 0))) refl k h)

-- ---- a code passes
digit_passes : (g : ℕ) → g < 10 → is_digit (g + 48) ≡ true
unfolding is_digit
digit_passes g h = simp (le-leb 48 (g + 48) (omega arith), le-leb (g + 48) 57 (omega arith))

pair_passes : (main : Bool) (l k g : ℕ) → month_of l ≡ k + 1 → k < 12 → g < 10 → in_cycle main (k + 1) ≡ true → is_pair main l (g + 48) ≡ true
unfolding is_pair
pair_passes main l k g e h i c = simp (e, le-leb (k + 1) 12 (omega arith), digit_passes g i, c)

pub code_passes : (main : Bool) (s : List ℕ) → IsCode main s → is_code main s ≡ true
unfolding is_code
code_passes main s (capital k g h i c) = pair_passes main (get_or letters k 0) k g (letter_month k h) h i c
code_passes main s (small k g h i c) = pair_passes main (get_or letters k 0 + 32) k g (small_month k h) h i c

-- ---- what passes is a code
found_go : (b x : ℕ) (xs : List ℕ) (t : Bool) → eqb x b ≡ t → pick_n t 0 (suc (place_in b xs)) < suc (length xs) → (place_in b xs < length xs → get_or xs (place_in b xs) 0 ≡ b) → get_or (x ∷ xs) (pick_n t 0 (suc (place_in b xs))) 0 ≡ b
found_go b x xs true e h f = eqb-true x b e
found_go b x xs false e h f = f (omega arith)

found : (b : ℕ) (xs : List ℕ) → place_in b xs < length xs → get_or xs (place_in b xs) 0 ≡ b
unfolding place_in
found b [] h = absurd (let bad : ⊥ = omega arith in bad)
found b (x ∷ xs) h = found_go b x xs (eqb x b) refl h (found b xs)

letters_length : length letters ≡ 12
unfolding letters
letters_length = refl

month_letter : (a : ℕ) → month_of a ≤ 12 → (place_in (upper a) letters < 12) × (upper a ≡ get_or letters (place_in (upper a) letters) 0)
unfolding month_of
month_letter a h =
    let small : place_in (upper a) letters < 12 = omega arith in
    (small, sym (found (upper a) letters (rw letters_length small)))

data Case (a : ℕ) : Type 0 where
  as_it_is : a ≡ upper a → Case a
  small_letter : a ≡ upper a + 32 → Case a

case_go : (a : ℕ) (s t : Bool) → leb 97 a ≡ s → leb a 122 ≡ t → upper a ≡ pick_n (s && t) (a - 32) a → Case a
case_go a true true p q e = small_letter (omega (arith, leb-true 97 a p))
case_go a true false p q e = as_it_is (sym e)
case_go a false t p q e = as_it_is (sym e)

case_of : (a : ℕ) → Case a
unfolding upper
case_of a = case_go a (leb 97 a) (leb a 122) refl refl refl

as_capital : (main : Bool) (a d k g : ℕ) → a ≡ get_or letters k 0 → d ≡ g + 48 → k < 12 → g < 10 → in_cycle main (k + 1) ≡ true → IsCode main (a ∷ d ∷ [])
as_capital main a d k g p q h i c = rw (p, q) (capital k g h i c)

as_small : (main : Bool) (a d k g : ℕ) → a ≡ get_or letters k 0 + 32 → d ≡ g + 48 → k < 12 → g < 10 → in_cycle main (k + 1) ≡ true → IsCode main (a ∷ d ∷ [])
as_small main a d k g p q h i c = rw (p, q) (small k g h i c)

pair_go : (main : Bool) (a d k : ℕ) → Case a → k < 12 → upper a ≡ get_or letters k 0 → 48 ≤ d → d ≤ 57 → in_cycle main (k + 1) ≡ true → IsCode main (a ∷ d ∷ [])
pair_go main a d k (as_it_is p) h e lo hi c = as_capital main a d k (d - 48) (p ∙ e) (omega arith) h (omega arith) c
pair_go main a d k (small_letter p) h e lo hi c = as_small main a d k (d - 48) (omega arith) (omega arith) h (omega arith) c

cycle_at : (main : Bool) (a : ℕ) → in_cycle main (month_of a) ≡ true → in_cycle main (place_in (upper a) letters + 1) ≡ true
unfolding month_of
cycle_at main a h = h

pair_is : (main : Bool) (a d : ℕ) → is_pair main a d ≡ true → IsCode main (a ∷ d ∷ [])
unfolding is_pair is_digit
pair_is main a d e =
    let p = (both (leb (month_of a) 12 && is_digit d) (in_cycle main (month_of a)) e).0 in
    let m = leb-true (month_of a) 12 (both (leb (month_of a) 12) (is_digit d) p).0 in
    let g = (both (leb (month_of a) 12) (is_digit d) p).1 in
    let l = month_letter a m in
    pair_go main a d (place_in (upper a) letters) (case_of a) l.0 l.1 (leb-true 48 d (both (leb 48 d) (leb d 57) g).0) (leb-true d 57 (both (leb 48 d) (leb d 57) g).1)
    (cycle_at main a (both (leb (month_of a) 12 && is_digit d) (in_cycle main (month_of a)) e).1)

pub passes_code : (main : Bool) (s : List ℕ) → is_code main s ≡ true → IsCode main s
unfolding is_code
passes_code main [] e = absurd (false≢true e)
passes_code main (a ∷ []) e = absurd (false≢true e)
passes_code main (a ∷ d ∷ []) e = pair_is main a d e
passes_code main (a ∷ d ∷ x ∷ xs) e =
    let two = eqb-true (length (a ∷ d ∷ x ∷ xs)) 2 (both (eqb (length (a ∷ d ∷ x ∷ xs)) 2) (is_pair main a d) e).0 in
    let bad : ⊥ = omega arith in
    absurd bad
