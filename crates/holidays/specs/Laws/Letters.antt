-- Words as numbers: a word has the number of another exactly if they spell the same, in either case, or neither has a number.
-- Assumes nothing.
use Rattle.std.specs.Prelude.{ℕ, ◌+◌, ◌-◌, ◌*◌, ◌≤◌, ◌<◌, ◌≡◌, refl, Bool, true, false, ◌&&◌, [], ◌∷◌, eqb, leb}
use Prim.Native.String.{String}
use Rattle.std.proofs.Math.Path.{sym, ap}
use Rattle.std.proofs.Common.{◌∙◌, arith, leb-true, le-leb, eqb-true, eq-eqb, ne_eqb}
use Rattle.std.proofs.lemmas.Bool.{false≢true, lt-leb, eqb-false}
use Rattle.refusal.specs.Laws.Answers.{both}
use Rattle.holidays.specs.Words.{Bytes, pick, ascii, upper, uppers, equal, spells}
use Rattle.holidays.specs.Inner.Letters.{letter, LONG, pack, packs}

-- ---- the letter that a number stands for
unfoldable capital : ℕ → ℕ
capital v = pick (eqb v 27) 45 (v + 64)

capital_of : (v : ℕ) → (v ≡ 27 → ⊥) → capital v ≡ v + 64
unfolding capital pick
capital_of v h = rw (ne_eqb v 27 h)

capital_hyphen : capital 27 ≡ 45
unfolding capital pick
capital_hyphen = refl

upper_is : (b : ℕ) → (letter b ≡ 0 → ⊥) → upper b ≡ capital (letter b)
unfolding letter upper pick
upper_is b h = go (leb 65 b && leb b 90) (leb 97 b && leb b 122) (eqb b 45) refl refl refl h
  where
    large : (leb 65 b && leb b 90) ≡ true → (65 ≤ b) × (b ≤ 90)
    large e = let t = both (leb 65 b) (leb b 90) e in (leb-true 65 b t.0, leb-true b 90 t.1)

    small : (leb 97 b && leb b 122) ≡ true → (97 ≤ b) × (b ≤ 122)
    small e = let t = both (leb 97 b) (leb b 122) e in (leb-true 97 b t.0, leb-true b 122 t.1)

    go : (x y z : Bool) → (leb 65 b && leb b 90) ≡ x → (leb 97 b && leb b 122) ≡ y → eqb b 45 ≡ z → (pick x (b - 64) (pick y (b - 96) (pick z 27 0)) ≡ 0 → ⊥) → pick y (b - 32) b ≡ capital (pick x (b - 64) (pick y (b - 96) (pick z 27 0)))
    go true true z p q r i = let l = large p in let m = small q in let bad : ⊥ = omega arith in absurd bad
    go true false z p q r i = let l = large p in let n : b - 64 + 64 ≡ b = omega arith in sym (capital_of (b - 64) (λ e. omega arith) ∙ n)
    go false true z p q r i = let l = small q in let n : b - 96 + 64 ≡ b - 32 = omega arith in sym (capital_of (b - 96) (λ e. omega arith) ∙ n)
    go false false true p q r i = eqb-true b 45 r ∙ sym capital_hyphen
    go false false false p q r i = absurd (i refl)

letter_small : (b : ℕ) → letter b < 32
unfolding letter pick
letter_small b = go (leb 65 b && leb b 90) (leb 97 b && leb b 122) (eqb b 45) refl refl
  where
    go : (x y z : Bool) → (leb 65 b && leb b 90) ≡ x → (leb 97 b && leb b 122) ≡ y → pick x (b - 64) (pick y (b - 96) (pick z 27 0)) < 32
    go true y z p q = let l = leb-true b 90 (both (leb 65 b) (leb b 90) p).1 in omega arith
    go false true z p q = let l = leb-true b 122 (both (leb 97 b) (leb b 122) q).1 in omega arith
    go false false true p q = omega arith
    go false false false p q = omega arith

-- ---- one more letter
pub spoilt : (s : Bytes) → packs 0 s ≡ 0
unfolding packs pack pick
spoilt [] = refl
spoilt (b ∷ s) = spoilt s

-- what is not spoilt has one digit more
pub record Packed (k b : ℕ) : Type 0 where
  pub some : k ≡ 0 → ⊥
  pub lettered : letter b ≡ 0 → ⊥
  pub same : pack k b ≡ k * 32 + letter b

pub is_packed : (k b : ℕ) → (pack k b ≡ 0 → ⊥) → Packed k b
unfolding pack pick
is_packed k b h = go (eqb k 0) (leb LONG k) (eqb (letter b) 0) refl refl refl h
  where
    go : (x y z : Bool) → eqb k 0 ≡ x → leb LONG k ≡ y → eqb (letter b) 0 ≡ z → (pick x 0 (pick y 0 (pick z 0 (k * 32 + letter b))) ≡ 0 → ⊥) → Packed k b
    go true y z p q r i = absurd (i refl)
    go false true z p q r i = absurd (i refl)
    go false false true p q r i = absurd (i refl)
    go false false false p q r i = record { some = eqb-false k 0 p; lettered = eqb-false (letter b) 0 r; same = rw (p, q, r) }

not_spoilt : (k : ℕ) (s : Bytes) → (packs k s ≡ 0 → ⊥) → k ≡ 0 → ⊥
not_spoilt k s h e = h (ap (λ (j : ℕ). packs j s) e ∙ spoilt s)

grows : (k : ℕ) (s : Bytes) → (packs k s ≡ 0 → ⊥) → k ≤ packs k s
unfolding packs
grows k [] h = omega arith
grows k (b ∷ s) h = let p = is_packed k b (not_spoilt (pack k b) s h) in omega (arith, p.same, grows (pack k b) s h)

-- a word does not begin again: no number is 1 behind a letter
pub never_one : (k b : ℕ) → pack k b ≡ 1 → ⊥
never_one k b e =
    let p = is_packed k b (λ z. omega (arith, e, z)) in
    let s : k ≡ 0 → ⊥ = p.some in
    omega (arith, p.same)

-- ---- equal numbers, equal words
last_digit : (k j v w : ℕ) → v < 32 → w < 32 → k * 32 + v ≡ j * 32 + w → (k ≡ j) × (v ≡ w)
last_digit k j v w h i e = let q : k ≡ j = omega arith in (q, omega arith)

near : (k j v w : ℕ) → v < 32 → k < 2 * j → k * 32 + v < 2 * (j * 32 + w)
near k j v w h i = omega arith

longer : (k j c : ℕ) (t : Bytes) → k < 2 * j → k ≡ packs j (c ∷ t) → (packs j (c ∷ t) ≡ 0 → ⊥) → ⊥
unfolding packs
longer k j c t h e n =
    let p = is_packed j c (not_spoilt (pack j c) t n) in
    omega (arith, p.same, grows (pack j c) t n)

pub same_number : (k j : ℕ) (s t : Bytes) → k < 2 * j → j < 2 * k → packs k s ≡ packs j t → (packs j t ≡ 0 → ⊥) → (k ≡ j) × (uppers s ≡ uppers t)
unfolding packs uppers
same_number k j [] [] g h e n = (e, refl)
same_number k j [] (c ∷ t) g h e n = absurd (longer k j c t g e n)
same_number k j (b ∷ s) [] g h e n = absurd (longer j k b s h (sym e) (λ z. n (sym e ∙ z)))
same_number k j (b ∷ s) (c ∷ t) g h e n =
    let p = is_packed k b (not_spoilt (pack k b) s (λ z. n (sym e ∙ z))) in
    let q = is_packed j c (not_spoilt (pack j c) t n) in
    let x : pack k b < 2 * pack j c = rw (p.same, q.same) (near k j (letter b) (letter c) (letter_small b) g) in
    let y : pack j c < 2 * pack k b = rw (p.same, q.same) (near j k (letter c) (letter b) (letter_small c) h) in
    let r = same_number (pack k b) (pack j c) s t x y e n in
    let d = last_digit k j (letter b) (letter c) (letter_small b) (letter_small c) (sym p.same ∙ r.0 ∙ q.same) in
    let u : upper b ≡ upper c = upper_is b p.lettered ∙ ap capital d.1 ∙ sym (upper_is c q.lettered) in
    (d.0, ap (λ (x : ℕ). x ∷ uppers s) u ∙ ap (λ (x : Bytes). upper c ∷ x) r.1)

-- ---- equal words, equal numbers
low_letter : (b : ℕ) → 97 ≤ b → b ≤ 122 → letter (b - 32) ≡ letter b
unfolding letter pick
low_letter b h i =
    let p : leb 65 (b - 32) ≡ true = le-leb 65 (b - 32) (omega arith) in
    let q : leb (b - 32) 90 ≡ true = le-leb (b - 32) 90 (omega arith) in
    let r : leb 65 b ≡ true = le-leb 65 b (omega arith) in
    let t : leb b 90 ≡ false = lt-leb b 90 (omega arith) in
    let u : leb 97 b ≡ true = le-leb 97 b h in
    let v : leb b 122 ≡ true = le-leb b 122 i in
    let n : b - 32 - 64 ≡ b - 96 = omega arith in
    simp (p, q, r, t, u, v) n

letter_upper : (b : ℕ) → letter (upper b) ≡ letter b
unfolding upper pick
letter_upper b = go (leb 97 b && leb b 122) refl
  where
    go : (y : Bool) → (leb 97 b && leb b 122) ≡ y → letter (pick y (b - 32) b) ≡ letter b
    go true e = let t = both (leb 97 b) (leb b 122) e in low_letter b (leb-true 97 b t.0) (leb-true b 122 t.1)
    go false e = refl

pack_upper : (k b : ℕ) → pack k (upper b) ≡ pack k b
unfolding pack
pack_upper k b = rw (letter_upper b)

number_of_uppers : (k : ℕ) (s : Bytes) → packs k (uppers s) ≡ packs k s
unfolding packs uppers
number_of_uppers k [] = refl
number_of_uppers k (b ∷ s) = number_of_uppers (pack k (upper b)) s ∙ ap (λ (v : ℕ). packs v s) (pack_upper k b)

pub same_word : (k : ℕ) (s t : Bytes) → uppers s ≡ uppers t → packs k s ≡ packs k t
same_word k s t e = sym (number_of_uppers k s) ∙ ap (packs k) e ∙ number_of_uppers k t

-- ---- so a test of numbers is a test of words
pub equal_is : (s t : Bytes) → equal s t ≡ true → s ≡ t
unfolding equal
equal_is [] [] h = refl
equal_is [] (c ∷ t) h = absurd (false≢true h)
equal_is (b ∷ s) [] h = absurd (false≢true h)
equal_is (b ∷ s) (c ∷ t) h =
    let e = both (eqb b c) (equal s t) h in
    let p : b ≡ c = eqb-true b c e.0 in
    let q : s ≡ t = equal_is s t e.1 in
    cc

pub equal_self : (s : Bytes) → equal s s ≡ true
unfolding equal
equal_self [] = refl
equal_self (b ∷ s) = rw (eq-eqb b b refl) (equal_self s)

-- of a word in capitals that has a number
module _ (s : Bytes) (word : String) (has : packs 1 (ascii word) ≡ 0 → ⊥) (capitals : uppers (ascii word) ≡ ascii word) where
  pub spelled_so : packs 1 s ≡ packs 1 (ascii word) → spells s word ≡ true
  unfolding spells
  spelled_so e =
      let u = same_number 1 1 s (ascii word) (omega arith) (omega arith) e has in
      ap (λ (x : Bytes). equal x (ascii word)) (u.1 ∙ capitals) ∙ equal_self (ascii word)

  pub number_so : spells s word ≡ true → packs 1 s ≡ packs 1 (ascii word)
  unfolding spells
  number_so e = same_word 1 s (ascii word) (equal_is (uppers s) (ascii word) e ∙ sym capitals)

  pub spelled_not : (packs 1 s ≡ packs 1 (ascii word) → ⊥) → spells s word ≡ false
  spelled_not n = go (spells s word) refl
    where
      go : (x : Bool) → spells s word ≡ x → x ≡ false
      go true e = absurd (n (number_so e))
      go false e = refl
