-- Laws of the ways through the import: one for each way through the code.
-- Assumes nothing.
use Prim.Native.Nat.{ℕ, ◌≤◌}
use mathlib.Core.Path.{◌≡◌, refl, sym, ap, ◌∙◌}
use mathlib.Core.Bool.{Bool, true, false}
use mathlib.Core.List.{List}
use native.Mathlib.Omega.{arith}
use lib.ListN.{length}
use borrow.Author.Rules.{rules}
use Rattle.std.specs.Prelude.{Result, Ok, Err, IsErr, IsErrAnd}
use Rattle.std.proofs.lemmas.Bool.{false≢true}
use Rattle.refusal.specs.declared.Refusal.TheVariants.{Ical}
use Rattle.refusal.specs.Refusals.{number_of}
use Rattle.holidays.specs.declared.Fault.{Fault}
use Rattle.holidays.specs.Import.{Import, days, refused_at_lem, size_ok, import_of}
use Rattle.holidays.specs.Promise.{told, answer_of, list_of, Imports}
use Rattle.holidays.specs.Laws.Turns.{wrong_size}
use Rattle.holidays.specs.Inner.Days.{WORDS, days_of, over}
use Rattle.holidays.specs.Inner.Events.{Counted}
use Rattle.holidays.specs.Inner.Walking.{ended_shows, IsEndedCount, Walks}

-- what `?` hands on: the fault itself
pub handed : {A : Type 0} (d : Result A Fault) (f : Fault) → IsErr d × IsErrAnd d (λ k. k ≡ f) → d ≡ Err f
handed (Ok a) f h = absurd (false≢true h.0)
handed (Err k) f h = ap Err h.1

module _ (file list : List ℕ) where
  said : (i : Import) (r : Result ℕ Fault) → told r ≡ answer_of i → import_of file (length list) ≡ i → {list' : List ℕ} → list' ≡ list_of i list → Imports file list r list'
  said i r t e w = record { answer = t ∙ ap answer_of (sym e); written = w ∙ ap (λ (x : Import). list_of x list) (sym e) }

  pub import_size : {b : Bool} → b ≡ size_ok (length file) → b ≡ false → Imports file list (Err (record { refusal = Ical; line = 0 })) list
  unfolding answer_of list_of
  import_size q e = said (refused_at_lem 24 0) _ refl (wrong_size file (length list) (sym q ∙ e)) refl

  module _ {r : Result ℕ Fault} {map : List ℕ} (w : Walks file (length list) r map) where
    pub import_refused : (f : Fault) → r ≡ Err f → Imports file list (Err f) list
    unfolding answer_of list_of ended_shows
    import_refused f e = said (refused_at_lem (number_of f.refusal) f.line) _ refl (w.same ∙ ap (ended_shows (days_of map)) e) refl

    counted : (c : ℕ) → r ≡ Ok c → Counted (length list) c map
    unfolding IsEndedCount
    counted c e = rw e at w.counted

    pub import_words : (c : ℕ) → r ≡ Ok c → length map ≡ WORDS
    import_words c e = (counted c e).long

    pub import_room : (c : ℕ) → r ≡ Ok c → length (days_of map) ≤ length list
    import_room c e = let k = counted c e in omega (arith, k.count, k.room_for)

    pub import_days : (c : ℕ) {list' : List ℕ} → r ≡ Ok c → list' ≡ over (days_of map) list → Imports file list (Ok c) list'
    unfolding answer_of list_of ended_shows over
    import_days c {list'} e q =
        let k = counted c e in
        rw k.count (said (days (days_of map)) (Ok (length (days_of map))) refl (w.same ∙ ap (ended_shows (days_of map)) e) q)

pub import_good : {b : Bool} (n : ℕ) → b ≡ size_ok n → b ≡ true → size_ok n ≡ true
import_good n q e = sym q ∙ e

pub ruleset imports = (import_size, import_refused, import_words, import_room, import_days, import_good, rules)
