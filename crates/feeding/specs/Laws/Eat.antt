-- What a byte never changes: all that it may do is one of a few ways.
-- Assumes nothing.
use Rattle.std.specs.Prelude.{ℕ, ◌+◌, ◌≤◌, ◌<◌, ◌≡◌, refl, Bool, List, [], ◌∷◌, eqb, ltb, length}
use Rattle.std.proofs.Common.{ap, ◌∙◌, arith, lt-ltb, le-ltb}
use Rattle.std.proofs.Math.Bool.{true, false}
use Rattle.request.specs.Format.{pick}
use Rattle.request.specs.Laws.Picks.{taken, left}
use Rattle.feeding.specs.declared.State.{State}
use Rattle.feeding.specs.Feed.{to, counting, settled, on_tag, on_high, on_size, on_low, on_body, spoilt, keeps_of, eat_of, keep_of, eaten, laid}

-- a property that all ways have
module _ (P : State → Type 0) where
  pub either : (b : Bool) {x y : State} → P x → P y → P (pick b x y)
  unfolding pick
  either true p q = p
  either false p q = q

  pub settled_has : (s : State) → P (to 5 s) → P (to 0 s) → P s → P (settled s)
  unfolding settled
  settled_has s p q r = either (eqb s.due 0) (either (eqb s.tag 255) p q) r

zeroed : (b : Bool) (x : ℕ) → x ≡ 0 → pick b x 0 ≡ 0
unfolding pick
zeroed true x e = e
zeroed false x e = refl

-- ---- a byte counts
eat_fed : (s : State) (b : ℕ) → s.fed < 20000 → (eat_of s b).fed ≡ s.fed + 1
unfolding eat_of on_tag on_high on_size on_body spoilt
eat_fed s b h =
    ap (λ (t : State). t.fed) (taken _ _ (lt-ltb _ _ h))
    ∙ either P (eqb s.phase 0) refl (either P (eqb s.phase 1) refl (either P (eqb s.phase 2) (settled_has P _ refl refl refl) (either P (keeps_of s) (settled_has P _ refl refl refl) refl)))
  where
    P : State → Type 0
    P t = t.fed ≡ s.fed + 1

pub fed_eaten : (s : State) (w : List ℕ) → s.fed + length w ≤ 20000 → (eaten s w).fed ≡ s.fed + length w
unfolding eaten
fed_eaten s [] h = omega arith
fed_eaten s (b ∷ w) h =
    let e : (eat_of s b).fed ≡ s.fed + 1 = eat_fed s b (omega arith) in
    let n : (eaten (eat_of s b) w).fed ≡ (eat_of s b).fed + length w = fed_eaten (eat_of s b) w (omega (arith, e)) in
    omega (arith, e, n)

-- ---- what is not sound stays so
eat_unsound : (s : State) (b : ℕ) → s.sound ≡ 0 → (eat_of s b).sound ≡ 0
unfolding eat_of on_tag on_high on_size on_body spoilt
eat_unsound s b e =
    either P (ltb s.fed 20000)
    (either P (eqb s.phase 0) (zeroed (ltb s.tag b) _ e) (either P (eqb s.phase 1) e
    (either P (eqb s.phase 2) (settled_has P _ (zeroed _ _ e) (zeroed _ _ e) (zeroed _ _ e)) (either P (keeps_of s) (settled_has P _ (zeroed _ _ e) (zeroed _ _ e) (zeroed _ _ e)) refl))))
    refl
  where
    P : State → Type 0
    P t = t.sound ≡ 0

pub unsound : (s : State) (w : List ℕ) → s.sound ≡ 0 → (eaten s w).sound ≡ 0
unfolding eaten
unsound s [] e = e
unsound s (b ∷ w) e = unsound (eat_of s b) w (eat_unsound s b e)

-- ---- where no body is due, nothing is stored
never : (a b c : Bool) → pick a (pick b (pick c false false) false) false ≡ false
unfolding pick
never true true true = refl
never true true false = refl
never true false c = refl
never false b c = refl

pub not_kept : (s : State) → eqb s.phase 4 ≡ false → eqb s.phase 3 ≡ false → keeps_of s ≡ false
unfolding keeps_of
not_kept s four three =
    ap (λ (x : Bool). pick (ltb s.fed 20000) (pick (ltb s.kept 20000) (pick (eqb s.due 0) false x) false) false) (left _ _ four ∙ three)
    ∙ never (ltb s.fed 20000) (ltb s.kept 20000) (eqb s.due 0)

-- ---- behind FF
eat_past : (s : State) (b : ℕ) → s.phase ≡ 5 → ((eat_of s b).phase ≡ 5) × ((eat_of s b).sound ≡ 0)
unfolding eat_of spoilt
eat_past s b e =
    let none : keeps_of s ≡ false = not_kept s (ap (λ (p : ℕ). eqb p 4) e) (ap (λ (p : ℕ). eqb p 3) e) in
    let way : pick (eqb s.phase 0) (on_tag (counting (s.fed + 1) s) b) (pick (eqb s.phase 1) (on_high (counting (s.fed + 1) s) b) (pick (eqb s.phase 2) (on_low (counting (s.fed + 1) s) b) (pick (keeps_of s) (on_body (counting (s.fed + 1) s) b) (spoilt (counting (s.fed + 1) s))))) ≡ spoilt (counting (s.fed + 1) s) = left _ _ (ap (λ (p : ℕ). eqb p 0) e) ∙ left _ _ (ap (λ (p : ℕ). eqb p 1) e) ∙ left _ _ (ap (λ (p : ℕ). eqb p 2) e) ∙ left _ _ none in
    either (λ (t : State). (t.phase ≡ 5) × (t.sound ≡ 0)) (ltb s.fed 20000) (ap (λ (t : State). t.phase) way ∙ e, ap (λ (t : State). t.sound) way) (e, refl)

pub past_eaten : (s : State) (b : ℕ) (w : List ℕ) → s.phase ≡ 5 → (eaten s (b ∷ w)).sound ≡ 0
unfolding eaten
past_eaten s b w e = unsound (eat_of s b) w (eat_past s b e).1

pub past_laid : (s : State) (w l : List ℕ) → s.phase ≡ 5 → laid s w l ≡ l
unfolding laid keep_of
past_laid s [] l e = refl
past_laid s (b ∷ w) l e =
    let none : keeps_of s ≡ false = not_kept s (ap (λ (p : ℕ). eqb p 4) e) (ap (λ (p : ℕ). eqb p 3) e) in
    ap (laid (eat_of s b) w) (left _ _ none) ∙ past_laid (eat_of s b) w l (eat_past s b e).0

-- ---- behind the 20,000th byte
over : (s : State) (b : ℕ) → 20000 ≤ s.fed → eat_of s b ≡ spoilt (counting 20001 s)
unfolding eat_of
over s b h = left _ _ (le-ltb _ _ h)

pub over_eaten : (s : State) (b : ℕ) (w : List ℕ) → 20000 ≤ s.fed → (eaten s (b ∷ w)).sound ≡ 0
unfolding eaten spoilt
over_eaten s b w h = unsound (eat_of s b) w (ap (λ (t : State). t.sound) (over s b h))

pub over_laid : (s : State) (w l : List ℕ) → 20000 ≤ s.fed → laid s w l ≡ l
unfolding laid keep_of keeps_of spoilt
over_laid s [] l h = refl
over_laid s (b ∷ w) l h =
    let e : (eat_of s b).fed ≡ 20001 = ap (λ (t : State). t.fed) (over s b h) in
    ap (laid (eat_of s b) w) (left _ _ (left _ _ (le-ltb _ _ h))) ∙ over_laid (eat_of s b) w l (omega (arith, e))

-- ---- a byte finishes nothing
eat_finished : (s : State) (b : ℕ) → (eat_of s b).finished ≡ s.finished
unfolding eat_of on_tag on_high on_size on_body spoilt
eat_finished s b =
    either P (ltb s.fed 20000)
    (either P (eqb s.phase 0) refl (either P (eqb s.phase 1) refl (either P (eqb s.phase 2) (settled_has P _ refl refl refl) (either P (keeps_of s) (settled_has P _ refl refl refl) refl))))
    refl
  where
    P : State → Type 0
    P t = t.finished ≡ s.finished

pub finished_eaten : (s : State) (w : List ℕ) → (eaten s w).finished ≡ s.finished
unfolding eaten
finished_eaten s [] = refl
finished_eaten s (b ∷ w) = finished_eaten (eat_of s b) w ∙ eat_finished s b
