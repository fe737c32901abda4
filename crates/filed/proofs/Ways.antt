-- The ways through the import and the export in numbers.
-- Assumes nothing.
use Prim.Native.Nat.{ℕ, ◌≤◌, ◌<◌}
use mathlib.Core.Path.{◌≡◌, refl, sym, ap, ◌∙◌}
use mathlib.Core.List.{List, [], ◌∷◌}
use native.Mathlib.Omega.{arith}
use lib.Dec.{leb}
use lib.IntN.{ℤ, pos, neg_ℤ}
use lib.ListN.{length, set}
use lib.Signed.{mag}
use mir.Syntax.{w64}
use mir.Val.{to_z, of_z}
use borrow.Author.Tests.{le-leb}
use borrow.Author.Rules.{rules}
use Rattle.std.specs.Prelude.{Result, Ok, Err}
use Rattle.refusal.specs.declared.Refusal.{Refusal}
use Rattle.refusal.specs.Refusals.{number_of}
use Rattle.refusal.specs.Answer.{Answer, given, refused, answered, ROOM}
use Rattle.crossing.specs.Laws.Calls.{handed}
use Rattle.crossing.specs.Answers.{one_number_of, itself}
use Rattle.holidays.specs.declared.Fault.{Fault}
use Rattle.holidays.specs.Words.{pick}
use Rattle.holidays.specs.Import.{Import, days, refused_at_lem, import_of}
use Rattle.holidays.specs.Promise.{counted, refused_at, told, answer_of, list_of, Imports}
use Rattle.holidays.specs.Words.{Bytes}
use Rattle.publishing.specs.Promise as publishing
use Rattle.filed.specs.Filed.{import_number, line_of, import_into, Filed, Published}

-- ---- the import
pub no_line : (file list line : List ℕ) (r : ℤ) → length line ≡ 0 → r ≡ neg_ℤ (pos ROOM) → Filed file list line r list line
unfolding import_number line_of import_into list_of pick
no_line file list [] r h e = record { answer = e; dates = refl; place = refl }
no_line file list (x ∷ xs) r h e = let bad : ⊥ = omega arith in absurd bad

module _ (file list line : List ℕ) (h : length line ≡ 0 → ⊥) (x : Result ℕ Fault) (list' : List ℕ) (p : Imports file list x list') where
  asked : import_into file list line ≡ import_of file (length list)
  unfolding import_into pick
  asked = go line h
    where
      go : (ls : List ℕ) → (length ls ≡ 0 → ⊥) → pick (leb 1 (length ls)) (import_of file (length list)) (refused_at_lem ROOM 0) ≡ import_of file (length list)
      go [] n = absurd (n refl)
      go (l ∷ ls) n = let k : 1 ≤ length (l ∷ ls) = omega arith in rw (le-leb 1 (length (l ∷ ls)) k)

  dates_so : list' ≡ list_of (import_into file list line) list
  dates_so = p.written ∙ ap (λ (i : Import). list_of i list) (sym asked)

  counted_so : (i : Import) (n : ℕ) → counted n ≡ answer_of i → (pos n ≡ import_number i) × (0 ≡ line_of i)
  unfolding answer_of import_number line_of
  counted_so (days ds) n e = (cc, refl)
  counted_so (refused_at_lem number at) n e = let z : ◌≡◌ {A = ℕ} 0 1 = cc in let bad : ⊥ = omega arith in absurd bad

  refused_so : (i : Import) (n at : ℕ) → refused_at n at ≡ answer_of i → (neg_ℤ (pos n) ≡ import_number i) × (at ≡ line_of i)
  unfolding answer_of import_number line_of
  refused_so (refused_at_lem number line) n at e = (cc, cc)
  refused_so (days ds) n at e = let z : ◌≡◌ {A = ℕ} 0 1 = cc in let bad : ⊥ = omega arith in absurd bad

  pub some_days : (n : ℕ) (r : ℤ) → x ≡ Ok n → r ≡ pos n → Filed file list line r list' (set line 0 0)
  some_days n r e q =
      let k = counted_so (import_into file list line) n (ap told (sym e) ∙ p.answer ∙ ap answer_of (sym asked)) in
      record { answer = q ∙ k.0; dates = dates_so; place = ap (set line 0) k.1 }

  pub a_refusal : (f : Fault) (r : ℤ) → x ≡ Err f → r ≡ neg_ℤ (pos (number_of f.refusal)) → Filed file list line r list' (set line 0 f.line)
  a_refusal f r e q =
      let k = refused_so (import_into file list line) (number_of f.refusal) f.line (ap told (sym e) ∙ p.answer ∙ ap answer_of (sym asked)) in
      record { answer = q ∙ k.0; dates = dates_so; place = ap (set line 0) k.1 }

pub ruleset imports = (no_line, some_days, a_refusal, rules)

-- ---- the export
sized : (a : Answer Bytes) → one_number_of itself (publishing.answer_of a) ≡ one_number_of length a
unfolding publishing.answer_of
sized (given s) = refl
sized (refused m) = refl

pub published : {list file : List ℕ} {x : Result ℕ Refusal} {file' : List ℕ} (r : ℤ) → mag r < 9223372036854775808 → publishing.Exports list file x file' → r ≡ one_number_of itself (answered x) → Published list file (to_z w64 (of_z w64 r)) file'
published r m p e = record { answer = handed r m (e ∙ ap (one_number_of itself) p.answer ∙ sized _); bytes = p.bytes }
