-- The promise settles the answer and the file; a refusal leaves the file as it was, and bytes leave the later places.
-- Assumes nothing.
use Rattle.std.specs.Prelude.{ℕ, ◌≤◌, ◌≡◌, Result, Ok, List, ◌++◌, length, take, drop}
use Rattle.std.proofs.Common.{sym, ◌∙◌}
use Rattle.std.proofs.Math.Path.{ap}
use Rattle.std.proofs.Math.Seq.{take-append_seam, drop-append_seam}
use Rattle.refusal.specs.declared.Refusal.{Refusal}
use Rattle.refusal.specs.Laws.Answers.{same_answered}
use Rattle.refusal.specs.Answer.{Answer, given, refused, answered}
use Rattle.holidays.specs.Words.{Bytes}
use Rattle.holidays.specs.Import.{days, import_of}
use Rattle.publishing.specs.File.{export_of}
use Rattle.publishing.specs.Promise.{answer_of, bytes_of, Exports}
use Rattle.publishing.specs.Laws.Back.{export_import}

-- no two outcomes meet the promise
pub settled : (list file : List ℕ) (r s : Result ℕ Refusal) (a b : List ℕ) → Exports list file r a → Exports list file s b → (r ≡ s) × (a ≡ b)
settled list file r s a b p q = (same_answered r s (p.answer ∙ sym q.answer), p.bytes ∙ sym q.bytes)

module _ (list file : List ℕ) (r : Result ℕ Refusal) (file' : List ℕ) (p : Exports list file r file') where
  pub refused_leaves : (number : ℕ) → export_of list (length file) ≡ refused number → (answered r ≡ refused number) × (file' ≡ file)
  unfolding answer_of bytes_of
  refused_leaves number e = (p.answer ∙ ap answer_of e, p.bytes ∙ ap (λ (a : Answer Bytes). bytes_of a file) e)

  module _ (s : Bytes) (e : export_of list (length file) ≡ given s) where
    so : file' ≡ s ++ drop (length s) file
    unfolding bytes_of
    so = p.bytes ∙ ap (λ (a : Answer Bytes). bytes_of a file) e

    pub bytes_counted : r ≡ Ok (length s)
    unfolding answer_of
    bytes_counted = same_answered r (Ok (length s)) (p.answer ∙ ap answer_of e)

    pub later_kept : drop (length s) file' ≡ drop (length s) file
    later_kept = ap (drop (length s)) so ∙ drop-append_seam s (drop (length s) file)

    -- the bytes that were written import as the list
    pub reads_back : (place : ℕ) → length list ≤ place → import_of (take (length s) file') place ≡ days list
    reads_back place h =
        ap (λ (t : Bytes). import_of t place) (ap (take (length s)) so ∙ take-append_seam s (drop (length s) file)) ∙ export_import list (length file) place s e h
