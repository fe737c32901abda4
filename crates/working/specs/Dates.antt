-- A step that asks for a day: a refusal stops, and the day is handed on.
-- Assumes nothing.
use Rattle.std.specs.Prelude.{ℕ, ◌≡◌, refl, Result, Ok, Err, IsErr, IsErrAnd}
use Rattle.refusal.specs.declared.Refusal.{Refusal}
use Rattle.refusal.specs.Refusals.{number_of}
use Rattle.refusal.specs.Answer.{Answer, given, refused, answered, then}
use Rattle.refusal.specs.Laws.Answers.{then_given, then_refused, was_given, was_refused, handed_on}
use Rattle.date.specs.declared.Date.{Date}
use Rattle.date.specs.Date.{dated}
use Rattle.date.specs.Laws.Made.{given_day, refused_day}
use Rattle.working.specs.Step.{Gives, gives_as, refuses}

module _ {A D B : Type 0} {view : D → B} {Keeps : D → Type 0} (o : Answer A) (f : A → Answer B) where
  refused_first : (k : Refusal) → o ≡ refused (number_of k) → {r : Answer D} → r ≡ refused (number_of k) → Gives view Keeps (then o f) r
  refused_first k e h = rw h (refuses (number_of k) (then_refused o (number_of k) f e))

  given_first : (x : A) → o ≡ given x → {r : Answer D} → Gives view Keeps (f x) r → Gives view Keeps (then o f) r
  given_first x e g = gives_as (then_given o x f _ e refl) g

  -- of a value by itself, as `?` hands its refusal on
  module _ (d : Result A Refusal) where
    pub value_stops : (k : Refusal) → answered d ≡ o → d ≡ Err k → (r : Result D Refusal) → IsErr r × IsErrAnd r (λ j. j ≡ k) → Gives view Keeps (then o f) (answered r)
    value_stops k s e r h = refused_first k (was_refused d k o s e) (handed_on r k h)

    pub value_on : (x : A) → answered d ≡ o → d ≡ Ok x → {r : Answer D} → Gives view Keeps (f x) r → Gives view Keeps (then o f) r
    value_on x s e g = given_first x (was_given d x o s e) g

-- of a date
module _ {D B : Type 0} {view : D → B} {Keeps : D → Type 0} (o : Answer ℕ) (f : ℕ → Answer B) (d : Result Date Refusal) where
  pub dated_refuses : (k : Refusal) → dated d ≡ o → d ≡ Err k → {r : Answer D} → r ≡ refused (number_of k) → Gives view Keeps (then o f) r
  dated_refuses k s e h = refused_first o f k (refused_day d k o s e) h

  -- as `?` hands it on
  pub dated_stops : (k : Refusal) → dated d ≡ o → d ≡ Err k → (r : Result D Refusal) → IsErr r × IsErrAnd r (λ j. j ≡ k) → Gives view Keeps (then o f) (answered r)
  dated_stops k s e r h = dated_refuses k s e (handed_on r k h)

  pub dated_on : (x : Date) → dated d ≡ o → d ≡ Ok x → {r : Answer D} → Gives view Keeps (f x.day) r → Gives view Keeps (then o f) r
  dated_on x s e g = given_first o f x.day (given_day d x o s e) g

-- three steps in a row, however they are bracketed
pub regrouped : {A B C D : Type 0} {view : D → C} {Keeps : D → Type 0} {r : Answer D} (o : Answer A) (f : A → Answer B) (g : B → Answer C) → Gives view Keeps (then o (λ a. then (f a) g)) r → Gives view Keeps (then (then o f) g) r
unfolding then
regrouped (given a) f g p = p
regrouped (refused k) f g p = p

pub ruleset dates = (dated_stops, dated_on, value_stops, value_on)
