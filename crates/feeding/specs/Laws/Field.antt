-- One field, taken in: its header, and as much of its body as is there.
-- Assumes nothing.
use Rattle.std.specs.Prelude.{ℕ, ◌+◌, ◌-◌, ◌≤◌, ◌<◌, ◌≡◌, Bool, true, false, eqb, ltb, set}
use Rattle.std.proofs.Math.Path.{refl, ap}
use Rattle.std.proofs.Common.{sym, ◌∙◌, add-one, lt-ltb, ne_eqb}
use mathlib.Core.List.{List, [], ◌∷◌}
use native.Mathlib.Omega.{arith}
use Rattle.std.proofs.Math.ListN.{length}
use Rattle.std.proofs.Math.Seq.{sets}
use Rattle.request.specs.Format.{pick, two}
use Rattle.request.specs.Laws.Picks.{taken, left}
use Rattle.feeding.specs.declared.State.{State}
use Rattle.feeding.specs.Feed.{at, size_ok, first_ok, settled, on_tag, on_high, on_size, starts_ok, on_body, keeps_of, eat_of, keep_of, eaten, laid}
use Rattle.feeding.specs.Laws.Run.{goes_on, body_eaten, body_laid}
use Rattle.feeding.specs.Laws.Eat.{not_kept}

-- what comes next behind some bytes of a body, and whether its first byte may be
unfoldable pub phase_behind : List ℕ → ℕ
phase_behind [] = 3
phase_behind (b ∷ bs) = 4

unfoldable pub begins : ℕ → List ℕ → Bool
begins tag [] = true
begins tag (b ∷ bs) = first_ok tag b

module _ (t h x f d k n z : ℕ) (ps : List ℕ) (tag hi lo : ℕ) where
  abbrev before : State
  before = at 0 t h x f d k n z ps

  -- the length, the places, the length of 0B, and whether all is sound, behind the header
  abbrev m : ℕ
  m = two hi lo

  abbrev ps' : List ℕ
  ps' = set ps tag k

  abbrev z' : ℕ
  z' = pick (eqb tag 11) m z

  abbrev x' : ℕ
  x' = pick (size_ok tag m) (pick (ltb t tag) x 0) 0

  abbrev opened : State
  opened = at 3 tag hi x' f m k (n + 3) z' ps'

  abbrev pub behind : List ℕ → State
  behind xs = settled (at (phase_behind xs) tag hi (pick (begins tag xs) x' 0) f (m - length xs) (k + length xs) (n + 3 + length xs) z' ps')

  pub eat_1 : n < 20000 → eat_of before tag ≡ at 1 tag h (pick (ltb t tag) x 0) f d k (n + 1) z ps
  unfolding eat_of on_tag pick
  eat_1 room = taken _ _ (lt-ltb n 20000 room)

  pub eat_2 : n + 1 < 20000 → eat_of (at 1 tag h (pick (ltb t tag) x 0) f d k (n + 1) z ps) hi ≡ at 2 tag hi (pick (ltb t tag) x 0) f d k (n + 1 + 1) z ps
  unfolding eat_of on_high pick
  eat_2 room = taken _ _ (lt-ltb (n + 1) 20000 room)

  head_kept : (p : ℕ) (q x₁ h₁ t₁ : ℕ) (b : ℕ) (l : List ℕ) → eqb p 4 ≡ false → eqb p 3 ≡ false → keep_of (at p t₁ h₁ x₁ f d k q z ps) b l ≡ l
  unfolding keep_of
  head_kept p q x₁ h₁ t₁ b l four three = left _ _ (not_kept (at p t₁ h₁ x₁ f d k q z ps) four three)

  -- a header that is not whole stores nothing
  pub one_laid : (l : List ℕ) → laid before (tag ∷ []) l ≡ l
  unfolding laid
  one_laid l = head_kept 0 n x h t tag l refl refl

  pub two_laid : n + 2 ≤ 20000 → (l : List ℕ) → laid before (tag ∷ hi ∷ []) l ≡ l
  unfolding laid
  two_laid room l =
      ap (λ (y : List ℕ). keep_of (eat_of before tag) hi y) (head_kept 0 n x h t tag l refl refl)
      ∙ ap (λ (s : State). keep_of s hi l) (eat_1 (omega arith)) ∙ head_kept 1 (n + 1) (pick (ltb t tag) x 0) h tag hi l refl refl

  module _ (room : n + 3 ≤ 20000) where
    eat_3 : eat_of (at 2 tag hi (pick (ltb t tag) x 0) f d k (n + 1 + 1) z ps) lo ≡ settled opened
    unfolding eat_of on_size pick
    eat_3 =
        let e : n + 1 + 1 + 1 ≡ n + 3 = omega arith in
        taken _ _ (lt-ltb (n + 1 + 1) 20000 (omega arith)) ∙ ap (λ (q : ℕ). settled (at 3 tag hi x' f m k q z' ps')) e

    pub head_eaten : (rest : List ℕ) → eaten before (tag ∷ hi ∷ lo ∷ rest) ≡ eaten (settled opened) rest
    unfolding eaten
    head_eaten rest =
        ap (λ (s : State). eaten (eat_of (eat_of s hi) lo) rest) (eat_1 (omega arith)) ∙ ap (λ (s : State). eaten (eat_of s lo) rest) (eat_2 (omega arith)) ∙ ap (λ (s : State). eaten s rest) eat_3

    pub head_laid : (rest l : List ℕ) → laid before (tag ∷ hi ∷ lo ∷ rest) l ≡ laid (settled opened) rest l
    unfolding laid
    head_laid rest l =
        ap (λ (y : List ℕ). laid (eat_of (eat_of (eat_of before tag) hi) lo) rest (keep_of (eat_of (eat_of before tag) hi) lo (keep_of (eat_of before tag) hi y))) (head_kept 0 n x h t tag l refl refl)
        ∙ ap (λ (s : State). laid (eat_of (eat_of s hi) lo) rest (keep_of (eat_of s hi) lo (keep_of s hi l))) (eat_1 (omega arith))
        ∙ ap (λ (y : List ℕ). laid (eat_of (eat_of (at 1 tag h (pick (ltb t tag) x 0) f d k (n + 1) z ps) hi) lo) rest (keep_of (eat_of (at 1 tag h (pick (ltb t tag) x 0) f d k (n + 1) z ps) hi) lo y)) (head_kept 1 (n + 1) (pick (ltb t tag) x 0) h tag hi l refl refl)
        ∙ ap (λ (s : State). laid (eat_of s lo) rest (keep_of s lo l)) (eat_2 (omega arith))
        ∙ ap (λ (y : List ℕ). laid (eat_of (at 2 tag hi (pick (ltb t tag) x 0) f d k (n + 1 + 1) z ps) lo) rest y) (head_kept 2 (n + 1 + 1) (pick (ltb t tag) x 0) hi tag lo l refl refl)
        ∙ ap (λ (s : State). laid s rest l) eat_3

    -- the first byte of the body
    module _ (b : ℕ) (some : 1 ≤ m) (f₁ : n + 3 < 20000) (k₁ : k < 20000) where
      keeps_first : keeps_of opened ≡ true
      unfolding keeps_of pick
      keeps_first = taken _ _ (lt-ltb (n + 3) 20000 f₁) ∙ taken _ _ (lt-ltb k 20000 k₁) ∙ left _ _ (ne_eqb m 0 (λ e. omega (arith, e)))

      eat_first : eat_of opened b ≡ settled (at 4 tag hi (pick (first_ok tag b) x' 0) f (m - 1) (k + 1) (n + 3 + 1) z' ps')
      unfolding eat_of on_body starts_ok pick
      eat_first = taken _ _ (lt-ltb (n + 3) 20000 f₁) ∙ taken _ _ keeps_first

      lay_first : (l : List ℕ) → keep_of opened b l ≡ set l k b
      unfolding keep_of
      lay_first l = taken _ _ keeps_first

    -- the body, or as much of it as is there
    pub rest_of_body : (xs : List ℕ) → length xs ≤ m → n + 3 + length xs ≤ 20000 → k + length xs ≤ 20000 → eaten (settled opened) xs ≡ behind xs
    unfolding eaten phase_behind begins pick
    rest_of_body [] few f₁ k₁ =
        let a : m - 0 ≡ m = omega arith in
        let b : k + 0 ≡ k = omega arith in
        let c : n + 3 + 0 ≡ n + 3 = omega arith in
        λ i. settled (at 3 tag hi x' f (sym a i) (sym b i) (sym c i) z' ps')
    rest_of_body (b ∷ []) few f₁ k₁ =
        ap (λ (s : State). eat_of s b) (goes_on opened (λ e. omega (arith, e, few))) ∙ eat_first b (omega arith) (omega arith) (omega arith)
    rest_of_body (b ∷ c ∷ cs) few f₁ k₁ =
        let left : m - 1 ≡ length (c ∷ cs) + (m - length (b ∷ c ∷ cs)) = omega (arith, few) in
        let p : k + 1 + length (c ∷ cs) ≡ k + length (b ∷ c ∷ cs) = omega arith in
        let q : n + 3 + 1 + length (c ∷ cs) ≡ n + 3 + length (b ∷ c ∷ cs) = omega arith in
        ap (λ (s : State). eaten (eat_of s b) (c ∷ cs)) (goes_on opened (λ e. omega (arith, e, few)))
        ∙ ap (λ (s : State). eaten s (c ∷ cs)) (eat_first b (omega arith) (omega arith) (omega arith) ∙ goes_on _ (λ e. omega (arith, e, few)))
        ∙ ap (λ (y : ℕ). eaten (at 4 tag hi (pick (first_ok tag b) x' 0) f y (k + 1) (n + 3 + 1) z' ps') (c ∷ cs)) left
        ∙ body_eaten tag hi (pick (first_ok tag b) x' 0) f z' ps' c cs (m - length (b ∷ c ∷ cs)) (k + 1) (n + 3 + 1) (omega arith) (omega arith)
        ∙ (λ i. settled (at 4 tag hi (pick (first_ok tag b) x' 0) f (m - length (b ∷ c ∷ cs)) (p i) (q i) z' ps'))

    pub body_on : (xs l : List ℕ) → length xs ≤ m → n + 3 + length xs ≤ 20000 → k + length xs ≤ 20000 → laid (settled opened) xs l ≡ sets l k xs
    unfolding laid
    body_on [] l few f₁ k₁ = refl
    body_on (b ∷ []) l few f₁ k₁ =
        ap (λ (s : State). keep_of s b l) (goes_on opened (λ e. omega (arith, e, few))) ∙ lay_first b (omega arith) (omega arith) (omega arith) l
    body_on (b ∷ c ∷ cs) l few f₁ k₁ =
        let left : m - 1 ≡ length (c ∷ cs) + (m - length (b ∷ c ∷ cs)) = omega (arith, few) in
        ap (λ (s : State). laid (eat_of s b) (c ∷ cs) (keep_of s b l)) (goes_on opened (λ e. omega (arith, e, few)))
        ∙ ap (λ (s : State). laid s (c ∷ cs) (keep_of opened b l)) (eat_first b (omega arith) (omega arith) (omega arith) ∙ goes_on _ (λ e. omega (arith, e, few)))
        ∙ ap (laid (at 4 tag hi (pick (first_ok tag b) x' 0) f (m - 1) (k + 1) (n + 3 + 1) z' ps') (c ∷ cs)) (lay_first b (omega arith) (omega arith) (omega arith) l)
        ∙ ap (λ (y : ℕ). laid (at 4 tag hi (pick (first_ok tag b) x' 0) f y (k + 1) (n + 3 + 1) z' ps') (c ∷ cs) (set l k b)) left
        ∙ body_laid tag hi (pick (first_ok tag b) x' 0) f z' ps' c cs (m - length (b ∷ c ∷ cs)) (k + 1) (n + 3 + 1) (set l k b) (omega arith) (omega arith)
        ∙ ap (λ (i : ℕ). sets (set l k b) i (c ∷ cs)) (add-one k)

    -- the whole field
    module _ (xs : List ℕ) (few : length xs ≤ m) (f₁ : n + 3 + length xs ≤ 20000) (k₁ : k + length xs ≤ 20000) where
      pub field_eaten : eaten before (tag ∷ hi ∷ lo ∷ xs) ≡ behind xs
      field_eaten = head_eaten xs ∙ rest_of_body xs few f₁ k₁

      pub field_laid : (l : List ℕ) → laid before (tag ∷ hi ∷ lo ∷ xs) l ≡ sets l k xs
      field_laid l = head_laid xs l ∙ body_on xs l few f₁ k₁
