-- A test that the code makes turned round, as a guard: `if !test { return .. }`.
-- Assumes nothing.
use Rattle.std.specs.Prelude.{ℕ, ◌≡◌, Bool, true, false, not}
use Rattle.std.proofs.lemmas.Bool.{not-true, not-false}
use Rattle.refusal.specs.Answer.{Answer, refused, need}
use Rattle.refusal.specs.Laws.Answers.{failed, passed}

module _ {A : Type 0} where
  pub barred : (n : ℕ) (t b : Bool) (x : Answer A) → t ≡ b → not t ≡ true → refused n ≡ need n b x
  barred n t b x p e = failed n t b x p (not-true t e)

  pub cleared : (n : ℕ) (t b : Bool) (x r : Answer A) → t ≡ b → not t ≡ false → r ≡ x → r ≡ need n b x
  cleared n t b x r p e h = passed n t b x r p (not-false t e) h
