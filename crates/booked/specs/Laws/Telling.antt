-- A book's answer as one number, and that number handed on.
-- Assumes nothing.
use Rattle.std.specs.Prelude.{ℕ, ◌<◌, ◌≡◌, refl, List, ℤ, pos, neg_ℤ, Result, Ok, Err}
use Rattle.std.proofs.Common.{ap, ◌∙◌, to_z, of_z, rules}
use Rattle.std.specs.Int.Signed.{mag}
use Rattle.std.specs.Int.{w64}
use Rattle.refusal.specs.declared.Refusal.{Refusal}
use Rattle.refusal.specs.Refusals.{number_of}
use Rattle.refusal.specs.Answer.{Answer, given, refused, answered}
use Rattle.crossing.specs.Answers.{one_number_of, itself}
use Rattle.crossing.specs.Laws.Calls.{handed}
use Rattle.book.specs.Book.{Lists, counted, Books}
use Rattle.booked.specs.Told.{how_many, Told}

pub number_answered : (d : Result ℕ Refusal) (n : ℕ) (r : ℤ) → mag r < 9223372036854775808 → d ≡ Ok n → r ≡ pos n → to_z w64 (of_z w64 r) ≡ one_number_of itself (answered d)
number_answered d n r s e h = rw e (handed r s h)

pub number_refused : (d : Result ℕ Refusal) (k : Refusal) (r : ℤ) → mag r < 9223372036854775808 → d ≡ Err k → r ≡ neg_ℤ (pos (number_of k)) → to_z w64 (of_z w64 r) ≡ one_number_of itself (answered d)
number_refused d k r s e h = rw e (handed r s h)

one_number : (o : Answer (List (List ℕ))) → one_number_of itself (counted o) ≡ one_number_of how_many o
unfolding counted how_many
one_number (given rs) = refl
one_number (refused n) = refl

pub booked_told : {o : Answer (List (List ℕ))} {d : Result ℕ Refusal} {l l' : Lists} (r : ℤ) → mag r < 9223372036854775808 → Books o d l l' → r ≡ one_number_of itself (answered d) → Told o (to_z w64 (of_z w64 r)) l l'
booked_told {o} r s w e = record { count = handed r s (e ∙ ap (one_number_of itself) w.answer ∙ one_number o); after = w.after }

pub ruleset telling = (number_answered, number_refused, booked_told, rules)
