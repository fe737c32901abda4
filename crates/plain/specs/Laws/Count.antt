-- Candidates that lie n, 2 n, 3 n .. days or months before termination: how many of them there are, by a division.
-- Assumes nothing.
use Rattle.std.specs.Prelude.{ℕ, zero, suc, ◌+◌, ◌*◌, ◌/◌, ◌≤◌, ◌<◌, ◌≡◌}
use Rattle.std.proofs.Common.{ap, sym, ◌∙◌, ⊎_elim, eq-or-lt_of_le, div-add-mod', mod-lt, suc-mul, zero-mul, mul-le-mul_right, le-div_iff_mul-le, arith}
use Rattle.refusal.specs.Answer.{Answer, given}
use Rattle.outcomes.specs.Laws.Span.{le_or_lt}
use Rattle.plain.specs.Demand.{MostOf}
use Rattle.plain.specs.Most.{day_or}
use Rattle.plain.specs.Laws.Falling.{Falls}

-- what is asked of a count: none is no step, more are an earlier date, one tenor below the effective date there still are dates, and the book has
-- fewer than 110,000 days
pub record Line (before : ℕ → Answer ℕ) (e t n : ℕ) : Type 0 where
  pub start : before 0 ≡ given t
  pub down : (x y a b : ℕ) → x < y → before x ≡ given a → before y ≡ given b → b < a
  pub near : (m d x : ℕ) → before m ≡ given d → e ≤ d → x ≤ m + n → before x ≡ given (day_or (before x))
  pub few : (m d : ℕ) → before m ≡ given d → e ≤ d → m ≤ 110000

-- a later date asks no more
pub line_later : (before : ℕ → Answer ℕ) (e t n e' : ℕ) → e ≤ e' → Line before e t n → Line before e' t n
line_later before e t n e' h l = record {
  start = l.start;
  down = l.down;
  near = λ m d x c o i. l.near m d x c (omega arith) i;
  few = λ m d c o. l.few m d c (omega arith);
}

module _ (before : ℕ → Answer ℕ) (e t n : ℕ) (pos : 1 ≤ n) (order : e ≤ t) (l : Line before e t n) where
  -- one that passes is more than all that do not
  pub brink : (m z x d : ℕ) → before (m + 1) ≡ given z → z < e → before x ≡ given d → e ≤ d → x ≤ m
  brink m z x d p h c o = ⊎_elim (λ (q : x ≤ m). q) (λ (q : m < x). absurd (over q)) (le_or_lt x m)
    where
      at : m + 1 ≡ x → ⊥
      at q = let r : d ≡ z = ap day_or (sym c ∙ ap before (sym q) ∙ p) in omega arith

      over : m < x → ⊥
      over q = ⊎_elim at (λ (r : m + 1 < x). omega (arith, l.down (m + 1) x z d r p c)) (eq-or-lt_of_le (omega arith))

  -- there is a most, and no other
  find : (f x d : ℕ) → 110000 < f + x → before x ≡ given d → e ≤ d → (m : ℕ) × MostOf before e m
  find zero x d h c o = absurd (no (l.few x d c o))
    where
      no : x ≤ 110000 → ⊥
      no g = omega arith
  find (suc f) x d h c o =
      let b : before (x + 1) ≡ given (day_or (before (x + 1))) = l.near x d (x + 1) c o (omega arith) in
      ⊎_elim
      (λ (q : e ≤ day_or (before (x + 1))). find f (x + 1) (day_or (before (x + 1))) (omega arith) b q)
      (λ (q : day_or (before (x + 1)) < e). (x, record { day = d; can_be_taken = c; not_passing = o; no_more = λ y z g i. brink x (day_or (before (x + 1))) y z b q g i }))
      (le_or_lt e (day_or (before (x + 1))))

  pub some_most : (m : ℕ) × MostOf before e m
  some_most = find 110001 0 t (omega arith) l.start order

  pub one_most : (m m' : ℕ) → MostOf before e m → MostOf before e m' → m' ≡ m
  one_most m m' p p' = omega (arith, p.no_more m' p'.day p'.can_be_taken p'.not_passing, p'.no_more m p.day p.can_be_taken p.not_passing)

  module _ (m : ℕ) (p : MostOf before e m) where
    low : m / n * n ≤ m
    low = omega (arith, div-add-mod' m n)

    high : m < suc (m / n) * n
    high = omega (arith, div-add-mod' m n, mod-lt m {m = n} (omega arith), suc-mul (m / n) n)

    reach : suc (m / n) * n ≤ m + n
    reach = omega (arith, low, suc-mul (m / n) n)

    there : (x : ℕ) → x ≤ m + n → before x ≡ given (day_or (before x))
    there x h = l.near m p.day x p.can_be_taken p.not_passing h

    -- no more than m keep to the effective date, more than m do not
    keeps : (x : ℕ) → x ≤ m → e ≤ day_or (before x)
    keeps x h = ⊎_elim (λ (q : x ≡ m). at q) (λ (q : x < m). omega (arith, p.not_passing, l.down x m (day_or (before x)) p.day q (there x (omega arith)) p.can_be_taken)) (eq-or-lt_of_le h)
      where
        at : x ≡ m → e ≤ day_or (before x)
        at q = let r : day_or (before x) ≡ p.day = ap day_or (ap before q ∙ p.can_be_taken) in omega (arith, p.not_passing)

    pub passes : (x : ℕ) → m < x → x ≤ m + n → day_or (before x) < e
    passes x h g = ⊎_elim (λ (q : e ≤ day_or (before x)). absurd (no q)) (λ (q : day_or (before x) < e). q) (le_or_lt e (day_or (before x)))
      where
        no : e ≤ day_or (before x) → ⊥
        no q = omega (arith, p.no_more x (day_or (before x)) (there x g) q)

    -- ---- the candidates
    module _ (cand : ℕ → Answer ℕ) (same : (k : ℕ) → cand k ≡ before (k * n)) where
      answers : (k : ℕ) → before (k * n) ≡ given (day_or (before (k * n))) → cand k ≡ given (day_or (cand k))
      answers k h = rw (same k) h

      cand_falls : (i k a b : ℕ) → i < k → cand i ≡ given a → cand k ≡ given b → b < a
      cand_falls i k a b h c c' = l.down (i * n) (k * n) a b (omega (arith, pos, suc-mul i n, mul-le-mul_right {m = suc i} {n = k} n h)) (sym (same i) ∙ c) (sym (same k) ∙ c')

      cand_there : (k : ℕ) → k ≤ suc (m / n) → cand k ≡ given (day_or (cand k))
      cand_there k h = answers k (there (k * n) (omega (arith, reach, mul-le-mul_right {m = k} {n = suc (m / n)} n h)))

      cand_low : e ≤ day_or (cand (m / n))
      cand_low = rw (same (m / n)) (keeps (m / n * n) low)

      cand_high : day_or (cand (suc (m / n))) < e
      cand_high = rw (same (suc (m / n))) (passes (suc (m / n) * n) high reach)

      start : cand 0 ≡ given t
      start = same 0 ∙ ap before (zero-mul n) ∙ l.start

      pub counted : Falls cand e t (m / n)
      counted = record { start = start; down = cand_falls; there = cand_there; low = cand_low; high = cand_high }

      -- of the candidates that are not before e the last is the least
      pub nearest : (d : ℕ) → cand (m / n) ≡ given d → (e ≤ d) × ((k d' : ℕ) → cand k ≡ given d' → e ≤ d' → d ≤ d')
      nearest d c = (up cand_low, others)
        where
          up : e ≤ day_or (cand (m / n)) → e ≤ d
          up h = let r : day_or (cand (m / n)) ≡ d = ap day_or c in omega arith

          at : (k d' : ℕ) → k ≡ m / n → cand k ≡ given d' → d ≤ d'
          at k d' q c' = let r : d' ≡ d = ap day_or (sym c' ∙ ap cand q ∙ c) in omega arith

          others : (k d' : ℕ) → cand k ≡ given d' → e ≤ d' → d ≤ d'
          others k d' c' o =
              let h : k ≤ m / n = (le-div_iff_mul-le pos).1 (p.no_more (k * n) d' (sym (same k) ∙ c') o) in
              ⊎_elim (λ (q : k ≡ m / n). at k d' q c') (λ (q : k < m / n). omega (arith, cand_falls k (m / n) d' d q c' c)) (eq-or-lt_of_le h)
