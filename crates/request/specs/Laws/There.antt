-- The round trip for the code: what `encode` wrote, `decode` reads back. It follows from the two promises.
-- Assumes nothing.
use Rattle.std.specs.Prelude.{ℕ, ◌≤◌, ◌≡◌, refl, List, length, take, drop, Result, Ok}
use Rattle.std.proofs.Common.{ap, ◌∙◌, take_at}
use Rattle.refusal.specs.declared.Refusal.{Refusal}
use Rattle.refusal.specs.Answer.{Answer, given, refused, answered}
use Rattle.refusal.specs.Laws.Answers.{one_given, never_both, same_answered}
use Rattle.steps.specs.declared.Request.{Request}
use Rattle.steps.specs.Build.{over}
use Rattle.request.specs.declared.Decoded.{Decoded}
use Rattle.request.specs.Format.{Asked, decoded}
use Rattle.request.specs.Decode.{counted, closed_dates_after, Decodes}
use Rattle.request.specs.Encode.{encoded, encodes, bytes_after, Encodes}
use Rattle.request.specs.Laws.Round.{encoded_decodes}

-- an answer of so many bytes is of bytes that were given, and they stand at the start of the list
pub record Wrote (o : Answer (List ℕ)) (n : ℕ) (out' : List ℕ) : Type 0 where
  pub bytes : List ℕ
  pub from : o ≡ given bytes
  pub start : take n out' ≡ bytes

wrote : (o : Answer (List ℕ)) (n : ℕ) (out out' : List ℕ) → Encodes o (Ok n) out out' → Wrote o n out'
unfolding encodes bytes_after over
wrote (given s) n out out' e =
    let size : length s ≡ n = one_given (answered (Ok n)) (length s) n e.answer refl in
    record { bytes = s; from = refl; start = ap (take n) e.bytes ∙ take_at s (drop (length s) out) n size }
wrote (refused k) n out out' e = absurd (never_both (answered (Ok n)) n k refl e.answer)

pub there_and_back : (q : Request) (closed out out' list list' : List ℕ) (n : ℕ) (d : Result Decoded Refusal)
    → Encodes (encoded q closed (length out)) (Ok n) out out'
    → Decodes (decoded (take n out') (length list)) d list list'
    → length closed ≤ length list
    → (d ≡ Ok (record { request = q; closed = length closed })) × (list' ≡ over closed list)
unfolding counted closed_dates_after
there_and_back q closed out out' list list' n d e f h =
    let w = wrote (encoded q closed (length out)) n out out' e in
    let back : decoded (take n out') (length list) ≡ given (record { request = q; closed = closed }) = ap (λ (s : List ℕ). decoded s (length list)) w.start ∙ encoded_decodes q closed w.bytes (length list) (length out) w.from h in
    (same_answered d (Ok (record { request = q; closed = length closed })) (f.answer ∙ ap counted back), f.dates ∙ ap (λ (x : Answer Asked). closed_dates_after x list) back)
