-- Request L9 in one number: an index that is made or changed stands in a lent list, which a refusal leaves as it was.
-- Assumes nothing.
use Rattle.std.specs.Prelude.{ℕ, ◌≡◌, refl, List, ℤ}
use Rattle.std.proofs.Common.{ap, ◌∙◌}
use Rattle.refusal.specs.Answer.{Answer, given, refused}
use Rattle.opendays.specs.OpenDays.{index_after, changed, Written}
use Rattle.crossing.specs.Answers.{one_number_of, done}

-- the promise of make and of the two changes
pub record Indexed (o : Answer (List ℕ)) (r : ℤ) (index index' : List ℕ) : Type 0 where
  pub answer : r ≡ one_number_of done o
  pub index_after_lem : index' ≡ index_after o index

-- what a call answered, as a number
pub changed_number : (o : Answer (List ℕ)) → one_number_of done (changed o) ≡ one_number_of done o
unfolding changed
changed_number (given new) = refl
changed_number (refused n) = refl

pub written_number : {o : Answer (List ℕ)} {c : Answer (Prim.Unit {0})} {index index' : List ℕ} → Written o c index index' → one_number_of done c ≡ one_number_of done o
written_number {o} w = ap (one_number_of done) w.answer ∙ changed_number o
