-- The float of a fraction: the exact fraction of the two parts, rounded once; finite, not negative, and never -0.
-- Assumes nothing.
use Rattle.std.specs.Prelude.{ℕ, zero, suc, ◌*◌, ◌^◌, ◌≤◌, ◌<◌, ◌≡◌, refl, true, false, ◌&&◌, T, leb, pos, Float}
use Rattle.std.proofs.Common.{sym, ap, ◌∙◌, subst, true≢false, arith, mul-pos, mul-one, mul_comm, mul_assoc, mul_left_comm, ltb→lt, ne_eqb, leb-true}
use Rattle.std.specs.Float.{nan, inf, fin, binary64}
use Rattle.std.specs.Float.Ieee.{up, down, round, units, odd, size, span, climb, of_int, div, neg, fits, to_bits}
use Rattle.std.specs.Float.Ieee.Exact.{HasValue}
use Rattle.std.specs.Float.Ieee.Back.{round_whole}
use Rattle.std.specs.Float.Ieee.Fits.{up_pos, down_pos, div-fits, neg-fits}
use Rattle.std.specs.Float.Ieee.Scale.{round_same}
use Rattle.std.specs.Float.Ieee.Order.{round_mono}
use Rattle.std.specs.Float.Ieee.Positive.{positive, positive_of_value, between}
use Rattle.std.specs.Float.Ieee.Bits.{to_bits-lt}
use Rattle.refusal.specs.Answer.{Answer, given, refused, then, BOOK, REVERSED}
use Rattle.refusal.specs.Laws.Answers.{both, need_given, one_given, never_both, then_stepped, then_refused}
use Rattle.fractions.specs.declared.Basis.{Basis}
use Rattle.fractions.specs.declared.Basis.TheVariants.{Actual360, Actual365, Thirty360}
use Rattle.fractions.specs.declared.Parts.{Parts}
use Rattle.fractions.specs.Fractions.{in_span, count, under, parts_between, parts_of, quotient, fraction_of}
use Rattle.fractions.specs.Promise.{from_zero, FractionIs}
use Rattle.fractions.specs.Laws.Span.{inside}
use Rattle.fractions.specs.Laws.Order.{count_small}

-- ---- one rounding
cross : (x y a b u v : ℕ) → x * 1 ≡ a * u → y * 1 ≡ b * v → x * v * b ≡ a * (y * u)
cross x y a b u v p q =
    let r : x ≡ a * u = sym (mul-one x) ∙ p in
    let s : y ≡ b * v = sym (mul-one y) ∙ q in
    let e : a * u * v * b ≡ a * (b * v * u) = simp (mul_assoc, mul_comm, mul_left_comm) in
    ap (λ (z : ℕ). z * v * b) r ∙ e ∙ ap (λ (z : ℕ). a * (z * u)) (sym s)

-- a quotient of two floats that are whole numbers is the fraction of these, rounded
div_at : (x y : Float) (a b : ℕ) → 0 < b → HasValue x false a 1 → HasValue y false b 1 → div binary64 x y ≡ round binary64 false a b
unfolding div
div_at nan y a b h p q = absurd p
div_at (inf s) y a b h p q = absurd p
div_at (fin true m e) y a b h p q = absurd (true≢false p.0)
div_at (fin false m e) nan a b h p q = absurd q
div_at (fin false m e) (inf t) a b h p q = absurd q
div_at (fin false m e) (fin true n d) a b h p q = absurd (true≢false q.0)
div_at (fin false m e) (fin false n d) a b h p q =
    let some : 0 < n = ltb→lt 0 n (positive_of_value (fin false n d) b 1 q h) in
    rw (ne_eqb n 0 (λ z. omega arith))
    (round_same binary64 false (m * up e * down d) (n * up d * down e) a b (mul-pos (mul-pos some (up_pos d)) (down_pos e)) h
    (cross (m * up e) (n * up d) a b (down e) (down d) p.1 q.1))

-- the two parts are floats exactly, and the float of the fraction is the one nearest to the exact fraction
pub quotient_is : (p : Parts) → p.numerator ≤ 2 ^ 53 → p.denominator ≤ 2 ^ 53 → 0 < p.denominator → quotient p ≡ round binary64 false p.numerator p.denominator
unfolding quotient of_int
quotient_is p g h i =
    div_at _ _ p.numerator p.denominator i (round_whole binary64 false p.numerator g) (round_whole binary64 false p.denominator h)

-- ---- finite, and its sign is plus, also at zero
positive_from : (x : Float) → T (positive x) → T (from_zero x)
positive_from nan p = absurd p
positive_from (inf s) p = absurd p
positive_from (fin true m e) p = absurd p
positive_from (fin false m e) p = tt

by_360 : (n : ℕ) → n ≤ 219144 → T (from_zero (round binary64 false n 360))
unfolding round size units odd span climb
by_360 zero h = tt
by_360 (suc n) h =
    positive_from (round binary64 false (suc n) 360)
    (between (round binary64 false 1 360) (round binary64 false (suc n) 360) (round binary64 false 219144 360) tt tt
    (round_mono binary64 1 360 (suc n) 360 (omega arith) (omega arith) (omega arith))
    (round_mono binary64 (suc n) 360 219144 360 (omega arith) (omega arith) (omega arith)))

by_365 : (n : ℕ) → n ≤ 219144 → T (from_zero (round binary64 false n 365))
unfolding round size units odd span climb
by_365 zero h = tt
by_365 (suc n) h =
    positive_from (round binary64 false (suc n) 365)
    (between (round binary64 false 1 365) (round binary64 false (suc n) 365) (round binary64 false 219144 365) tt tt
    (round_mono binary64 1 365 (suc n) 365 (omega arith) (omega arith) (omega arith))
    (round_mono binary64 (suc n) 365 219144 365 (omega arith) (omega arith) (omega arith)))

-- its bits are those of a number below 2 ^ 63
pub bits_below : (x : Float) → T (fits binary64 x) → T (from_zero x) → to_bits binary64 x < 2 ^ 63
unfolding to_bits neg
bits_below nan f p = absurd p
bits_below (inf s) f p = absurd p
bits_below (fin true m e) f p = absurd p
bits_below (fin false m e) f p = omega (arith, to_bits-lt binary64 (fin true m e) (neg-fits binary64 (fin false m e) f))

-- ---- what a fraction that is given is
from_of : (k : Basis) (n : ℕ) → n ≤ 219144 → T (from_zero (round binary64 false n (under k)))
unfolding under
from_of Actual360 n h = by_360 n h
from_of Actual365 n h = by_365 n h
from_of Thirty360 n h = by_360 n h

under_small : (k : Basis) → (0 < under k) × (under k ≤ 2 ^ 53)
unfolding under
under_small Actual360 = (omega arith, omega arith)
under_small Actual365 = (omega arith, omega arith)
under_small Thirty360 = (omega arith, omega arith)

fit_of : (p : Parts) → T (fits binary64 (quotient p))
unfolding quotient
fit_of p = div-fits binary64 (of_int binary64 (pos p.numerator)) (of_int binary64 (pos p.denominator))

given_at : (k : Basis) (a b : ℕ) → count k a b ≤ 219144 → parts_of k a b ≡ given (parts_between k a b) → FractionIs k a b (quotient (parts_between k a b))
given_at k a b h e =
    let p : Parts = parts_between k a b in
    let u = under_small k in
    let q : quotient p ≡ round binary64 false (count k a b) (under k) = quotient_is p (omega arith) u.1 u.0 in
    let f : T (fits binary64 (quotient p)) = fit_of p in
    let s : T (from_zero (quotient p)) = subst (λ (x : Float). T (from_zero x)) (sym q) (from_of k (count k a b) h) in
    record { parts = e; nearest = q; fit = f; not_below = s; bits = bits_below (quotient p) f s }

pub fraction_given : (k : Basis) (a b : ℕ) (x : Float) → fraction_of k a b ≡ given x → FractionIs k a b x
unfolding fraction_of parts_of
fraction_given k a b x h =
    let s = then_stepped (parts_of k a b) (λ p. given (quotient p)) x h in
    let p₁ = need_given BOOK (in_span a && in_span b) _ s.value s.from in
    let p₂ = need_given REVERSED (leb a b) _ s.value p₁.1 in
    let c = both (in_span a) (in_span b) p₁.0 in
    let n = count_small k a b (inside a c.0) (inside b c.1) (leb-true a b p₂.0) in
    let e : quotient (parts_between k a b) ≡ x = ap quotient (one_given _ _ s.value refl p₂.1) ∙ one_given _ _ x refl s.to in
    subst (λ (y : Float). FractionIs k a b y) e (given_at k a b n (s.from ∙ sym p₂.1))

-- the float is refused exactly where the parts are, with the same number
pub fraction_refused : (k : Basis) (a b n : ℕ) → parts_of k a b ≡ refused n → fraction_of k a b ≡ refused n
unfolding fraction_of
fraction_refused k a b n h = sym (then_refused (parts_of k a b) n _ h)

refused_go : (x : Answer Parts) (n : ℕ) → then x (λ p. given (quotient p)) ≡ refused n → x ≡ refused n
unfolding then
refused_go (given p) n h = absurd (never_both (given (quotient p)) (quotient p) n refl h)
refused_go (refused m) n h = let z : m ≡ n = cc in ap refused z

pub parts_refused : (k : Basis) (a b n : ℕ) → fraction_of k a b ≡ refused n → parts_of k a b ≡ refused n
unfolding fraction_of
parts_refused k a b n h = refused_go (parts_of k a b) n h
