-- What a reader stores of the bytes is what the format says: `bodies`.
-- Assumes nothing.
use Rattle.std.specs.Prelude.{ℕ, zero, suc, ◌+◌, ◌-◌, ◌≤◌, ◌<◌, ◌≡◌, refl, Bool, eqb, leb, ltb, get_or, set}
use Rattle.std.proofs.Common.{sym, ◌∙◌, zero-add, arith, length-drop, length-append, take-append-drop, drop_of_length-le, take_all, length-take-le}
use Rattle.std.proofs.Math.Path.{ap}
use Rattle.std.proofs.Math.Bool.{true, false}
use mathlib.Core.List.{List, [], ◌∷◌, ◌++◌, append-nil}
use borrow.Author.Tests.{le-leb, leb-true, leb-false, eq-eqb}
use Rattle.std.proofs.Math.ListN.{length, take, drop, length-take}
use Rattle.std.proofs.lemmas.List.Edits.{sets}
use Rattle.std.proofs.Math.Seq.{sets-eq}
use Rattle.steps.specs.Build as build
use Rattle.request.specs.Format.{pick, two, size_in}
use Rattle.request.specs.Laws.Picks.{taken, left}
use Rattle.feeding.specs.declared.State.{State}
use Rattle.feeding.specs.Bodies.{on_tag_in, on_header, bodies_from, bodies}
use Rattle.feeding.specs.Feed.{at, to, fresh, settled, size_ok, eaten, laid}
use Rattle.feeding.specs.Laws.Cut.{eaten_cut, laid_cut}
use Rattle.feeding.specs.Laws.Eat.{fed_eaten, past_laid, over_laid}
use Rattle.feeding.specs.Laws.Field.{begins, behind, field_eaten, field_laid, one_laid, two_laid}

-- ---- lists
pub sets_append : (l : List ℕ) (i : ℕ) (xs ys : List ℕ) → sets l i (xs ++ ys) ≡ sets (sets l i xs) (i + length xs) ys
sets_append l i [] ys = let e : i ≡ i + 0 = omega arith in ap (λ (k : ℕ). sets l k ys) e
sets_append l i (x ∷ xs) ys =
    let e : suc i + length xs ≡ i + length (x ∷ xs) = omega arith in
    sets_append (set l i x) (suc i) xs ys ∙ ap (λ (k : ℕ). sets (sets (set l i x) (suc i) xs) k ys) e

pub drop_head : (m a b c : ℕ) (r : List ℕ) → drop (3 + m) (a ∷ b ∷ c ∷ r) ≡ drop m r
drop_head m a b c r = let e : 3 + m ≡ suc (suc (suc m)) = omega arith in ap (λ (k : ℕ). drop k (a ∷ b ∷ c ∷ r)) e

-- ---- a field that is over: the next one, or the end behind FF
pub closed_field : (s : State) → s.due ≡ 0 → settled s ≡ pick (eqb s.tag 255) (to 5 s) (to 0 s)
unfolding settled
closed_field s e = taken _ _ (eq-eqb _ _ e)

-- ---- by fields
bodies_nil : (fuel : ℕ) → bodies_from fuel [] ≡ []
unfolding bodies_from on_header
bodies_nil zero = refl
bodies_nil (suc n) = refl

header_short : (s : List ℕ) (on : List ℕ → List ℕ) → ((r : List ℕ) → length (on r) ≤ length r) → (c : Bool) → length (on_tag_in c s on) ≤ length s
unfolding on_tag_in
header_short s on h true = omega (arith, length-take (size_in s) (drop 3 s), length-drop 3 s)
header_short s on h false =
    omega (arith, length-append (take (size_in s) (drop 3 s)) (on (drop (3 + size_in s) s)), length-take (size_in s) (drop 3 s), length-drop 3 s, h (drop (3 + size_in s) s), length-drop (3 + size_in s) s)

field_short : (s : List ℕ) (on : List ℕ → List ℕ) → ((r : List ℕ) → length (on r) ≤ length r) → (c : Bool) → length (on_header c s on) ≤ length s
unfolding on_header
field_short s on h true = header_short s on h (eqb (get_or s 0 0) 255)
field_short s on h false = omega arith

pub bodies_short : (fuel : ℕ) (s : List ℕ) → length (bodies_from fuel s) ≤ length s
unfolding bodies_from
bodies_short zero s = omega arith
bodies_short (suc n) s = field_short s (bodies_from n) (λ r. bodies_short n r) (leb 3 (length s))

module _ (fuel tag hi lo : ℕ) (rest : List ℕ) where
  abbrev w : List ℕ
  w = tag ∷ hi ∷ lo ∷ rest

  abbrev m : ℕ
  m = two hi lo

  opened : bodies_from (suc fuel) w ≡ on_tag_in (eqb tag 255) w (bodies_from fuel)
  unfolding bodies_from on_header
  opened = ap (λ (b : Bool). on_header b w (bodies_from fuel)) (le-leb 3 (length w) (omega arith))

  bodies_last : eqb tag 255 ≡ true → bodies_from (suc fuel) w ≡ take m rest
  unfolding on_tag_in
  bodies_last e = opened ∙ ap (λ (b : Bool). on_tag_in b w (bodies_from fuel)) e

  bodies_next : eqb tag 255 ≡ false → bodies_from (suc fuel) w ≡ take m rest ++ bodies_from fuel (drop m rest)
  unfolding on_tag_in
  bodies_next e = opened ∙ ap (λ (b : Bool). on_tag_in b w (bodies_from fuel)) e ∙ ap (λ (l : List ℕ). take m rest ++ bodies_from fuel l) (drop_head m tag hi lo rest)

  bodies_cut : length rest < m → bodies_from (suc fuel) w ≡ rest
  bodies_cut h = by (eqb tag 255) refl
    where
      all : take m rest ≡ rest
      all = take_all m rest (omega arith)

      by : (b : Bool) → eqb tag 255 ≡ b → bodies_from (suc fuel) w ≡ rest
      by true e = bodies_last e ∙ all
      by false e = bodies_next e ∙ ap (λ (l : List ℕ). take m rest ++ l) (ap (bodies_from fuel) (drop_of_length-le rest {i = m} (omega arith)) ∙ bodies_nil fuel) ∙ append-nil (take m rest) ∙ all

few_1 : (fuel a : ℕ) → bodies_from (suc fuel) (a ∷ []) ≡ []
unfolding bodies_from on_header
few_1 fuel a = refl

few_2 : (fuel a b : ℕ) → bodies_from (suc fuel) (a ∷ b ∷ []) ≡ []
unfolding bodies_from on_header
few_2 fuel a b = refl

-- one field, then what is stored of the rest
module _ (fuel t h x f d k n z : ℕ) (ps : List ℕ) (tag hi lo : ℕ) (rest l : List ℕ) (room : n + length (tag ∷ hi ∷ lo ∷ rest) ≤ 20000) (low : k ≤ n) where
  abbrev s₀ : State
  s₀ = at 0 t h x f d k n z ps

  abbrev xs : List ℕ
  xs = take (two hi lo) rest

  abbrev rest' : List ℕ
  rest' = drop (two hi lo) rest

  cut_stored : length rest < two hi lo → laid s₀ (tag ∷ hi ∷ lo ∷ rest) l ≡ sets l k (bodies_from (suc fuel) (tag ∷ hi ∷ lo ∷ rest))
  cut_stored less =
      field_laid t h x f d k n z ps tag hi lo (omega arith) rest (omega arith) (omega arith) (omega arith) l
      ∙ sym (ap (sets l k) (bodies_cut fuel tag hi lo rest less))

  module _ (fits : two hi lo ≤ length rest) where
    pub size_is : length xs ≡ two hi lo
    size_is = length-take-le (two hi lo) rest fits

    pub all_there : rest ≡ xs ++ rest'
    all_there = sym (take-append-drop (two hi lo) rest)

    rest_long : length rest' ≡ length rest - two hi lo
    rest_long = length-drop (two hi lo) rest

    -- the reader behind the field
    pub field_cut : eaten s₀ (tag ∷ hi ∷ lo ∷ rest) ≡ eaten (behind t h x f d k n z ps tag hi lo xs) rest'
    field_cut =
        ap (λ (r : List ℕ). eaten s₀ (tag ∷ hi ∷ lo ∷ r)) all_there ∙ eaten_cut s₀ (tag ∷ hi ∷ lo ∷ xs) rest'
        ∙ ap (λ (s : State). eaten s rest') (field_eaten t h x f d k n z ps tag hi lo (omega arith) xs (omega (arith, size_is)) (omega (arith, size_is)) (omega (arith, size_is)))

    pub field_cut_laid : laid s₀ (tag ∷ hi ∷ lo ∷ rest) l ≡ laid (behind t h x f d k n z ps tag hi lo xs) rest' (sets l k xs)
    field_cut_laid =
        ap (λ (r : List ℕ). laid s₀ (tag ∷ hi ∷ lo ∷ r) l) all_there ∙ laid_cut s₀ (tag ∷ hi ∷ lo ∷ xs) rest' l
        ∙ ap (λ (s : State). laid s rest' (laid s₀ (tag ∷ hi ∷ lo ∷ xs) l)) (field_eaten t h x f d k n z ps tag hi lo (omega arith) xs (omega (arith, size_is)) (omega (arith, size_is)) (omega (arith, size_is)))
        ∙ ap (laid (behind t h x f d k n z ps tag hi lo xs) rest') (field_laid t h x f d k n z ps tag hi lo (omega arith) xs (omega (arith, size_is)) (omega (arith, size_is)) (omega (arith, size_is)) l)

    -- it stands at a tag, or behind FF
    abbrev pub closing : ℕ → State
    closing phase = at phase tag hi (pick (begins tag xs) (pick (size_ok tag (two hi lo)) (pick (ltb t tag) x 0) 0) 0) f (two hi lo - length xs) (k + length xs) (n + 3 + length xs) (pick (eqb tag 11) (two hi lo) z) (set ps tag k)

    over_now : two hi lo - length xs ≡ 0
    over_now = omega (arith, size_is)

    pub behind_last : eqb tag 255 ≡ true → behind t h x f d k n z ps tag hi lo xs ≡ closing 5
    behind_last e = closed_field _ over_now ∙ taken _ _ e

    pub behind_next : eqb tag 255 ≡ false → behind t h x f d k n z ps tag hi lo xs ≡ closing 0
    behind_next e = closed_field _ over_now ∙ left _ _ e

    abbrev Again : Type 0
    Again = (t h x d k n z : ℕ) (ps l : List ℕ) → n + length rest' ≤ 20000 → k ≤ n → laid (at 0 t h x f d k n z ps) rest' l ≡ sets l k (bodies_from fuel rest')

    whole_stored : Again → (b : Bool) → eqb tag 255 ≡ b → laid s₀ (tag ∷ hi ∷ lo ∷ rest) l ≡ sets l k (bodies_from (suc fuel) (tag ∷ hi ∷ lo ∷ rest))
    whole_stored again true e =
        field_cut_laid ∙ ap (λ (s : State). laid s rest' (sets l k xs)) (behind_last e) ∙ past_laid (closing 5) rest' (sets l k xs) refl
        ∙ sym (ap (sets l k) (bodies_last fuel tag hi lo rest e))
    whole_stored again false e =
        field_cut_laid ∙ ap (λ (s : State). laid s rest' (sets l k xs)) (behind_next e)
        ∙ again tag hi _ _ (k + length xs) (n + 3 + length xs) _ _ (sets l k xs) (omega (arith, size_is, rest_long, room)) (omega arith)
        ∙ sym (sets_append l k xs (bodies_from fuel rest')) ∙ sym (ap (sets l k) (bodies_next fuel tag hi lo rest e))

  field_stored : ((t h x d k n z : ℕ) (ps l : List ℕ) → n + length rest' ≤ 20000 → k ≤ n → laid (at 0 t h x f d k n z ps) rest' l ≡ sets l k (bodies_from fuel rest')) → (b : Bool) → leb (two hi lo) (length rest) ≡ b
      → laid s₀ (tag ∷ hi ∷ lo ∷ rest) l ≡ sets l k (bodies_from (suc fuel) (tag ∷ hi ∷ lo ∷ rest))
  field_stored again true e = whole_stored (leb-true (two hi lo) (length rest) e) again (eqb tag 255) refl
  field_stored again false e = cut_stored (leb-false (two hi lo) (length rest) e)

pub stored_from : (fuel t h x f d k n z : ℕ) (ps s l : List ℕ) → length s < fuel → n + length s ≤ 20000 → k ≤ n → laid (at 0 t h x f d k n z ps) s l ≡ sets l k (bodies_from fuel s)
unfolding laid
stored_from zero t h x f d k n z ps s l short room low = absurd (omega arith)
stored_from (suc fuel) t h x f d k n z ps [] l short room low = sym (ap (sets l k) (bodies_nil (suc fuel)))
stored_from (suc fuel) t h x f d k n z ps (a ∷ []) l short room low = one_laid t h x f d k n z ps a a a l ∙ sym (ap (sets l k) (few_1 fuel a))
stored_from (suc fuel) t h x f d k n z ps (a ∷ b ∷ []) l short room low = two_laid t h x f d k n z ps a b b (omega arith) l ∙ sym (ap (sets l k) (few_2 fuel a b))
stored_from (suc fuel) t h x f d k n z ps (tag ∷ hi ∷ lo ∷ rest) l short room low =
    field_stored fuel t h x f d k n z ps tag hi lo rest l room low
    (λ t₁ h₁ x₁ d₁ k₁ n₁ z₁ ps₁ l₁ room₁ low₁. stored_from fuel t₁ h₁ x₁ f d₁ k₁ n₁ z₁ ps₁ (drop (two hi lo) rest) l₁ (omega (arith, length-drop (two hi lo) rest)) room₁ low₁)
    (leb (two hi lo) (length rest)) refl

-- ---- the whole: what is stored lies over the start of the buffer, and every other place is as before
module _ (w b : List ℕ) (long : 20000 ≤ length b) where
  abbrev within : List ℕ
  within = take 20000 w

  within_short : length within ≤ 20000
  within_short = omega (arith, length-take 20000 w)

  first_laid : laid fresh within b ≡ sets b 0 (bodies w)
  unfolding bodies
  first_laid = stored_from (suc (length within)) 0 0 1 0 0 0 0 0 _ within b (omega arith) (omega (arith, within_short)) (omega arith)

  laid_over : sets b 0 (bodies w) ≡ build.over (bodies w) b
  unfolding build.over bodies
  laid_over =
      sets-eq (bodies w) b 0 (omega (arith, bodies_short (suc (length within)) within, within_short))
      ∙ ap (λ (k : ℕ). bodies w ++ drop k b) (zero-add (length (bodies w)))

  whole_laid : (c : Bool) → leb (length w) 20000 ≡ c → laid fresh w b ≡ laid fresh within b
  unfolding laid
  whole_laid true e = ap (λ (s : List ℕ). laid fresh s b) (sym (take_all 20000 w (leb-true (length w) 20000 e)))
  whole_laid false e =
      let many : 20000 < length w = leb-false (length w) 20000 e in
      let n : (eaten fresh within).fed ≡ 0 + length within = fed_eaten fresh within (omega (arith, within_short)) in
      ap (λ (s : List ℕ). laid fresh s b) (sym (take-append-drop 20000 w))
      ∙ laid_cut fresh within (drop 20000 w) b
      ∙ over_laid (eaten fresh within) (drop 20000 w) (laid fresh within b) (omega (arith, n, length-take 20000 w))

  pub laid_bodies : laid fresh w b ≡ build.over (bodies w) b
  laid_bodies = whole_laid (leb (length w) 20000) refl ∙ first_laid ∙ laid_over
