-- The promise settles the answer and the list; a refusal leaves the list as it was, and days leave the later places.
-- Assumes nothing.
use Rattle.std.specs.Prelude.{ℕ, ◌≡◌, Result, Ok, Err, List, ◌++◌, length, take, drop}
use Rattle.std.proofs.Common.{sym, ◌∙◌}
use Rattle.std.proofs.Math.Path.{ap}
use Rattle.std.proofs.Math.Seq.{take-append_seam, drop-append_seam}
use Rattle.refusal.specs.declared.Refusal.{Refusal}
use Rattle.refusal.specs.Refusals.{number_of}
use Rattle.refusal.specs.Laws.Answers.{same_number}
use Rattle.holidays.specs.declared.Fault.{Fault}
use Rattle.holidays.specs.Import.{Import, days, refused_at_lem, import_of}
use Rattle.holidays.specs.Promise.{Told, counted, refused_at, told, answer_of, list_of, Imports}

-- no two outcomes meet the promise
pub same_told : (r s : Result ℕ Fault) → told r ≡ told s → r ≡ s
same_told (Ok n) (Ok m) e = ap Ok (let q : n ≡ m = cc in q)
same_told (Ok n) (Err f) e = absurd cc
same_told (Err f) (Ok n) e = absurd cc
same_told (Err f) (Err g) e =
    let p : f.refusal ≡ g.refusal = same_number f.refusal g.refusal (let q : number_of f.refusal ≡ number_of g.refusal = cc in q) in
    let l : f.line ≡ g.line = cc in
    ap (λ (k : Refusal). Err (record { refusal = k; line = f.line })) p ∙ ap (λ (n : ℕ). Err (record { refusal = g.refusal; line = n })) l

pub settled : (file list : List ℕ) (r s : Result ℕ Fault) (a b : List ℕ) → Imports file list r a → Imports file list s b → (r ≡ s) × (a ≡ b)
settled file list r s a b p q = (same_told r s (p.answer ∙ sym q.answer), p.written ∙ sym q.written)

module _ (file list : List ℕ) (r : Result ℕ Fault) (list' : List ℕ) (p : Imports file list r list') where
  pub refused_leaves : (number line : ℕ) → import_of file (length list) ≡ refused_at_lem number line → (told r ≡ refused_at number line) × (list' ≡ list)
  unfolding answer_of list_of
  refused_leaves number line e = (p.answer ∙ ap answer_of e, p.written ∙ ap (λ (i : Import). list_of i list) e)

  module _ (ds : List ℕ) (e : import_of file (length list) ≡ days ds) where
    so : list' ≡ ds ++ drop (length ds) list
    unfolding list_of
    so = p.written ∙ ap (λ (i : Import). list_of i list) e

    pub days_counted : r ≡ Ok (length ds)
    unfolding answer_of
    days_counted = same_told r (Ok (length ds)) (p.answer ∙ ap answer_of e)

    pub days_first : take (length ds) list' ≡ ds
    days_first = ap (take (length ds)) so ∙ take-append_seam ds (drop (length ds) list)

    pub later_kept : drop (length ds) list' ≡ drop (length ds) list
    later_kept = ap (drop (length ds)) so ∙ drop-append_seam ds (drop (length ds) list)
