-- Answers with a move: a law for each way that the code makes one, and its date.
-- Assumes nothing.
use Rattle.std.specs.Prelude.{ℕ, ◌≡◌, Bool, not, ℤ}
use Rattle.std.proofs.Math.Path.{refl, sym}
use Rattle.std.proofs.Common.{ap, ◌∙◌}
use Rattle.std.proofs.Math.Bool.{true, false}
use Rattle.refusal.specs.Answer.{Answer, given, refused, need, then}
use Rattle.std.specs.Prelude.{Result, Ok, Err}
use Rattle.refusal.specs.declared.Refusal.{Refusal}
use Rattle.refusal.specs.Refusals.{number_of}
use Rattle.calendar.specs.declared.Moved.{Moved}
use Rattle.calendar.specs.Moves.{moved, moved_from, date_of}
use Rattle.calendar.specs.Laws.Guards.{barred, cleared}

module _ (base : Answer ℕ) where
  -- a refusal has no move
  pub unmoved : (x : Answer ℕ) (n : ℕ) → x ≡ refused n → refused n ≡ moved_from base x
  unfolding moved_from then
  unmoved x n e = rw e refl

  pub moved_need : (n : ℕ) (b : Bool) (x : Answer ℕ) → need n b (moved_from base x) ≡ moved_from base (need n b x)
  unfolding moved_from then need
  moved_need n true x = refl
  moved_need n false x = refl

  pub moved_barred : (n : ℕ) (t b : Bool) (x : Answer ℕ) → t ≡ b → not t ≡ true → refused n ≡ moved_from base (need n b x)
  moved_barred n t b x p e = barred n t b (moved_from base x) p e ∙ moved_need n b x

  pub moved_cleared : (n : ℕ) (t b : Bool) (x : Answer ℕ) (r : Answer (ℕ × ℤ)) → t ≡ b → not t ≡ false → r ≡ moved_from base x → r ≡ moved_from base (need n b x)
  moved_cleared n t b x r p e h = cleared n t b (moved_from base x) r p e h ∙ moved_need n b x

-- a step that the base and the date have in common
pub moved_then : {A : Type 0} (x : Answer A) (a : A) (f g : A → Answer ℕ) (r : Answer (ℕ × ℤ)) → x ≡ given a → r ≡ moved_from (f a) (g a) → r ≡ moved_from (then x f) (then x g)
unfolding then
moved_then x a f g r e h = rw e h

pub unmoved_then : {A : Type 0} (x : Answer A) (n : ℕ) (base : Answer ℕ) (g : A → Answer ℕ) → x ≡ refused n → refused n ≡ moved_from base (then x g)
unfolding then
unmoved_then x n base g e = unmoved base (then x g) n (rw e refl)

-- ---- the date of an answer with a move is the date that was measured, where the base is a day
pub given_date : (base : ℕ) (date : Answer ℕ) → date_of (moved_from (given base) date) ≡ date
unfolding date_of moved_from then
given_date base (given d) = refl
given_date base (refused n) = refl

-- the date that was taken out of what an adjustment answered
pub took : (base : ℕ) (date a : Answer ℕ) (m : Answer (ℕ × ℤ)) → a ≡ date_of m → m ≡ moved_from (given base) date → a ≡ date
took base date a m e h = e ∙ ap date_of h ∙ given_date base date

-- by the case that it was
module _ (base : ℕ) (date : Answer ℕ) (m : Result Moved Refusal) (h : moved m ≡ moved_from (given base) date) where
  pub moved_day : (x : Moved) → m ≡ Ok x → date ≡ given x.date.day
  unfolding date_of
  moved_day x e = sym (given_date base date) ∙ sym (ap date_of h) ∙ rw e refl

  pub moved_refused : (n : Refusal) → m ≡ Err n → date ≡ refused (number_of n)
  unfolding date_of
  moved_refused n e = sym (given_date base date) ∙ sym (ap date_of h) ∙ rw e refl

-- a base that is a day, whenever there is a date
pub record Gives {A : Type 0} (x : Answer A) : Type 0 where
  pub value : A
  pub is : x ≡ given value

pub same_date : (base date : Answer ℕ) → ((d : ℕ) → date ≡ given d → Gives base) → date_of (moved_from base date) ≡ date
unfolding date_of moved_from then
same_date base (given d) f = rw (f d refl).is refl
same_date base (refused n) f = refl
