-- Lists that ascend: what stands in front of them, whom they cannot hold, and that no two of them hold the same days.
-- Assumes nothing.
use Rattle.std.specs.Prelude.{ℕ, ◌+◌, ◌≤◌, ◌<◌, ◌≡◌, Bool, ◌&&◌, ◌||◌, leb, ltb}
use Rattle.std.proofs.Math.Path.{refl, sym, ap}
use Rattle.std.proofs.Common.{◌∙◌}
use Rattle.std.proofs.Math.Bool.{true, false}
use Rattle.std.proofs.lemmas.Bool.{false≢true}
use mathlib.Core.List.{List, [], ◌∷◌}
use native.Mathlib.Omega.{arith}
use Rattle.std.proofs.Math.Dec.{eqb}
use borrow.Author.Tests.{leb-true, le-leb, ltb-true, ltb-false, eq-eqb, ne_eqb, eqb-true}
use Rattle.refusal.specs.Laws.Answers.{both}
use Rattle.calendar.specs.Open.{member, ascending}

-- a lower bound may be lowered
pub lower : (low from high : ℕ) (xs : List ℕ) → low ≤ from → ascending from high xs ≡ true → ascending low high xs ≡ true
unfolding ascending
lower low from high [] l e = refl
lower low from high (x ∷ xs) l e =
    let p = both (leb from x) (leb x high && ascending (x + 1) high xs) e in
    let q : leb low x ≡ true = le-leb low x (omega (arith, leb-true from x p.0)) in
    rw q p.1

module _ (high : ℕ) where
  pub asc : (low x : ℕ) (xs : List ℕ) → ascending low high (x ∷ xs) ≡ true → (leb low x ≡ true) × (leb x high ≡ true) × (ascending (x + 1) high xs ≡ true)
  unfolding ascending
  asc low x xs e =
      let p = both (leb low x) (leb x high && ascending (x + 1) high xs) e in
      let q = both (leb x high) (ascending (x + 1) high xs) p.1 in
      (p.0, q.0, q.1)

  pub cons : (low x : ℕ) (xs : List ℕ) → leb low x ≡ true → leb x high ≡ true → ascending (x + 1) high xs ≡ true → ascending low high (x ∷ xs) ≡ true
  unfolding ascending
  cons low x xs l h r = rw (l, h) r

  pub empty : (low : ℕ) → ascending low high [] ≡ true
  unfolding ascending
  empty low = refl

  -- a list that begins later holds none before it
  pub early : (low day : ℕ) (xs : List ℕ) → ascending low high xs ≡ true → day < low → member day xs ≡ false
  unfolding member
  early low day [] e h = refl
  early low day (x ∷ xs) e h =
      let a = asc low x xs e in
      let q : eqb x day ≡ false = other x day (omega (arith, leb-true low x a.0)) in
      rw q (early (x + 1) day xs a.2 (omega (arith, leb-true low x a.0)))
    where
      other : (x day : ℕ) → day < x → eqb x day ≡ false
      other x day l = ne_eqb x day (λ p. let bad : ⊥ = omega arith in bad)

  -- ---- two lists that ascend and hold the same days are one
  itself : (x : ℕ) (xs : List ℕ) → member x (x ∷ xs) ≡ true
  unfolding member
  itself x xs = rw (eq-eqb x x refl) refl

  -- a list that begins later does not hold the other's first day
  not_after : (low x y : ℕ) (xs ys : List ℕ) → ascending low high (y ∷ ys) ≡ true → ((d : ℕ) → member d (x ∷ xs) ≡ member d (y ∷ ys)) → x < y → ⊥
  not_after low x y xs ys e f h =
      let a = asc low y ys e in
      let out : member x (y ∷ ys) ≡ false = early y x (y ∷ ys) (cons y y ys (le-leb y y (omega arith)) a.1 a.2) h in
      false≢true (sym out ∙ sym (f x) ∙ itself x xs)

  heads : (low x y : ℕ) (xs ys : List ℕ) → ascending low high (x ∷ xs) ≡ true → ascending low high (y ∷ ys) ≡ true → ((d : ℕ) → member d (x ∷ xs) ≡ member d (y ∷ ys)) → x ≡ y
  heads low x y xs ys p q f = by (ltb x y) (ltb y x) refl refl
    where
      by : (a b : Bool) → ltb x y ≡ a → ltb y x ≡ b → x ≡ y
      by true b e g = absurd (not_after low x y xs ys q f (ltb-true x y e))
      by false true e g = absurd (not_after low y x ys xs p (λ d. sym (f d)) (ltb-true y x g))
      by false false e g = omega (arith, ltb-false x y e, ltb-false y x g)

  tails : (x : ℕ) (xs ys : List ℕ) → ascending (x + 1) high xs ≡ true → ascending (x + 1) high ys ≡ true → ((d : ℕ) → member d (x ∷ xs) ≡ member d (x ∷ ys)) → (d : ℕ) → member d xs ≡ member d ys
  unfolding member
  tails x xs ys p q f d = by (eqb x d) refl (f d)
    where
      by : (b : Bool) → eqb x d ≡ b → (b || member d xs) ≡ (b || member d ys) → member d xs ≡ member d ys
      by true e g =
          let l : d < x + 1 = omega (arith, eqb-true x d e) in
          early (x + 1) d xs p l ∙ sym (early (x + 1) d ys q l)
      by false e g = g

  pub one_ascending : (low : ℕ) (a b : List ℕ) → ascending low high a ≡ true → ascending low high b ≡ true → ((d : ℕ) → member d a ≡ member d b) → a ≡ b
  unfolding member
  one_ascending low [] [] p q f = refl
  one_ascending low [] (y ∷ ys) p q f = absurd (false≢true (f y ∙ itself y ys))
  one_ascending low (x ∷ xs) [] p q f = absurd (false≢true (sym (f x) ∙ itself x xs))
  one_ascending low (x ∷ xs) (y ∷ ys) p q f =
      let e : x ≡ y = heads low x y xs ys p q f in
      let a = asc low x xs p in
      let b = asc low y ys q in
      let b' : ascending (x + 1) high ys ≡ true = ap (λ (k : ℕ). ascending (k + 1) high ys) e ∙ b.2 in
      let r : xs ≡ ys = one_ascending (x + 1) xs ys a.2 b' (tails x xs ys a.2 b' (λ d. f d ∙ ap (λ (k : ℕ). member d (k ∷ ys)) (sym e))) in
      cc
