-- The definition of the parts has their meaning, and no other answer has it.
-- Assumes nothing.
use Rattle.std.specs.Prelude.{ℕ, ◌≡◌, refl, Bool, true, false, ◌&&◌, leb}
use Rattle.std.proofs.Common.{sym, ◌∙◌, arith, leb-true, leb-false}
use Rattle.std.proofs.lemmas.Bool.{false≢true}
use Rattle.refusal.specs.Answer.{Answer, given, need, BOOK, REVERSED}
use Rattle.fractions.specs.declared.Basis.{Basis}
use Rattle.fractions.specs.declared.Parts.{Parts}
use Rattle.fractions.specs.Fractions.{in_span, parts_between, parts_of}
use Rattle.fractions.specs.Promise.{Inside, PartsAre, outside, reversed, counted}
use Rattle.fractions.specs.Laws.Span.{inside, inside_test}

parts_in : (k : Basis) (a b : ℕ) (t : Bool) → leb a b ≡ t → Inside a → Inside b → PartsAre k a b (need REVERSED t (given (parts_between k a b)))
unfolding need
parts_in k a b true e i j = counted i j (leb-true a b e)
parts_in k a b false e i j = reversed i j (leb-false a b e)

parts_go : (k : Basis) (a b : ℕ) (s t : Bool) → in_span a ≡ s → in_span b ≡ t → PartsAre k a b (need BOOK (s && t) (need REVERSED (leb a b) (given (parts_between k a b))))
unfolding need
parts_go k a b true true p q = parts_in k a b (leb a b) refl (inside a p) (inside b q)
parts_go k a b true false p q = outside (λ h. false≢true (sym q ∙ inside_test b h.1))
parts_go k a b false t p q = outside (λ h. false≢true (sym p ∙ inside_test a h.0))

pub parts_are : (k : Basis) (a b : ℕ) → PartsAre k a b (parts_of k a b)
unfolding parts_of
parts_are k a b = parts_go k a b (in_span a) (in_span b) refl refl

pub one_answer : (k : Basis) (a b : ℕ) (x y : Answer Parts) → PartsAre k a b x → PartsAre k a b y → x ≡ y
one_answer k a b x y (outside h) (outside g) = refl
one_answer k a b x y (outside h) (reversed i j l) = absurd (h (i, j))
one_answer k a b x y (outside h) (counted i j l) = absurd (h (i, j))
one_answer k a b x y (reversed i j l) (outside h) = absurd (h (i, j))
one_answer k a b x y (reversed i j l) (reversed i' j' l') = refl
one_answer k a b x y (reversed i j l) (counted i' j' l') = let bad : ⊥ = omega arith in absurd bad
one_answer k a b x y (counted i j l) (outside h) = absurd (h (i, j))
one_answer k a b x y (counted i j l) (reversed i' j' l') = let bad : ⊥ = omega arith in absurd bad
one_answer k a b x y (counted i j l) (counted i' j' l') = refl
