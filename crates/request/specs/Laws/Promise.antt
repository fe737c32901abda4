-- Laws of the promise: an answer that is known, and what then is promised.
-- Assumes nothing.
use Rattle.std.specs.Prelude.{ℕ, ◌≡◌, List, Result, Err}
use Rattle.std.proofs.Common.{ap, ◌∙◌}
use Rattle.refusal.specs.declared.Refusal.{Refusal}
use Rattle.refusal.specs.Refusals.{number_of}
use Rattle.refusal.specs.Answer.{Answer, refused}
use Rattle.request.specs.declared.Decoded.{Decoded}
use Rattle.request.specs.Format.{Asked}
use Rattle.request.specs.Decode.{counted, closed_dates_after, Decodes}

pub refuses : {o : Answer Asked} (r : Refusal) {l : List ℕ} → refused (number_of r) ≡ o → Decodes o (Err r) l l
unfolding counted closed_dates_after
refuses r {l} e = record { answer = ap counted e; dates = ap (λ (x : Answer Asked). closed_dates_after x l) e }

pub same_promise : {o o' : Answer Asked} {r : Result Decoded Refusal} {l l' : List ℕ} → o ≡ o' → Decodes o r l l' → Decodes o' r l l'
same_promise {o} {o'} {r} {l} {l'} e d = record { answer = d.answer ∙ ap counted e; dates = d.dates ∙ ap (λ (x : Answer Asked). closed_dates_after x l) e }
