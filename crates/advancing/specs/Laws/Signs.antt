-- Sums of whole numbers with sign, as a sign and a size.
-- Assumes nothing.
use Rattle.std.specs.Prelude.{ℕ, suc, ◌+◌, ◌-◌, ◌*◌, ◌≤◌, ◌≡◌, refl, Bool, true, false, cond, ltb, ℤ, pos, negsuc, nat_abs, ◌+ℤ◌}
use Rattle.std.proofs.Common.{ap, sym, ◌∙◌, arith, mul-add, ltb-true, ltb-false}
use Rattle.period.specs.Period.{is_negative}
use Rattle.date.specs.Date.{step}

-- the third sign and size are those of the sum of the first two
unfoldable pub Sum : Bool → ℕ → Bool → ℕ → Bool → ℕ → Type 0
Sum false k false l false j = j ≡ k + l
Sum false k false l true j = ⊥
Sum false k true l false j = j + l ≡ k
Sum false k true l true j = j + k ≡ l
Sum true k false l false j = j + k ≡ l
Sum true k false l true j = j + l ≡ k
Sum true k true l false j = ⊥
Sum true k true l true j = j ≡ k + l

less_go : (k l : ℕ) (t : Bool) → ltb k (suc l) ≡ t → Sum false k true (suc l) (is_negative (cond t (negsuc (suc l - suc k)) (pos (k - suc l)))) (nat_abs (cond t (negsuc (suc l - suc k)) (pos (k - suc l))))
unfolding Sum
less_go k l true e = omega (arith, ltb-true k (suc l) e)
less_go k l false e = omega (arith, ltb-false k (suc l) e)

more_go : (k l : ℕ) (t : Bool) → ltb l (suc k) ≡ t → Sum true (suc k) false l (is_negative (cond t (negsuc (suc k - suc l)) (pos (l - suc k)))) (nat_abs (cond t (negsuc (suc k - suc l)) (pos (l - suc k))))
unfolding Sum
more_go k l true e = omega (arith, ltb-true l (suc k) e)
more_go k l false e = omega (arith, ltb-false l (suc k) e)

pub sum : (a b : ℤ) → Sum (is_negative a) (nat_abs a) (is_negative b) (nat_abs b) (is_negative (a +ℤ b)) (nat_abs (a +ℤ b))
unfolding Sum
sum (pos k) (pos l) = omega arith
sum (pos k) (negsuc l) = less_go k l (ltb k (suc l)) refl
sum (negsuc k) (pos l) = more_go k l (ltb l (suc k)) refl
sum (negsuc k) (negsuc l) = omega arith

-- so many times both sizes make so many times the sum
pub times : (c : ℕ) (s t r : Bool) (k l j : ℕ) → Sum s k t l r j → Sum s (c * k) t (c * l) r (c * j)
unfolding Sum
times c false false false k l j h = ap (λ (x : ℕ). c * x) h ∙ mul-add c k l
times c false false true k l j h = h
times c false true false k l j h = sym (mul-add c j l) ∙ ap (λ (x : ℕ). c * x) h
times c false true true k l j h = sym (mul-add c j k) ∙ ap (λ (x : ℕ). c * x) h
times c true false false k l j h = sym (mul-add c j k) ∙ ap (λ (x : ℕ). c * x) h
times c true false true k l j h = sym (mul-add c j l) ∙ ap (λ (x : ℕ). c * x) h
times c true true false k l j h = h
times c true true true k l j h = ap (λ (x : ℕ). c * x) h ∙ mul-add c k l

-- two steps make one, if the first does not end at 0, before which nothing lies
pub steps : (s t r : Bool) (k l j n : ℕ) → Sum s k t l r j → 1 ≤ step s n k → step t (step s n k) l ≡ step r n j
unfolding Sum step
steps false false false k l j n h p = omega arith
steps false false true k l j n h p = absurd h
steps false true false k l j n h p = omega arith
steps false true true k l j n h p = omega arith
steps true false false k l j n h p = omega arith
steps true false true k l j n h p = omega arith
steps true true false k l j n h p = absurd h
steps true true true k l j n h p = omega arith
