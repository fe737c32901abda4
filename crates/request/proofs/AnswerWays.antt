-- Laws of the whole: one for each way through the code.
-- Assumes nothing.
use Prim.Native.Nat.{ℕ, zero, suc, ◌≤◌, ◌<◌}
use mathlib.Core.Path.{◌≡◌, refl, sym, ap, ◌∙◌}
use mathlib.Core.Bool.{Bool, true, false}
use mathlib.Core.List.{List, []}
use borrow.Author.Rules.{rules}
use borrow.Author.Tests.{le-leb, lt-leb}
use lib.Dec.{leb}
use lib.ListN.{length, get_or, replicate}
use Rattle.refusal.specs.Answer.{refused}
use Rattle.refusal.specs.Laws.Answers.{fails, holds, then_given, then_refused}
use Rattle.request.specs.declared.Decoded.{Decoded}
use Rattle.std.specs.Prelude.{Result, Err}
use Rattle.refusal.specs.declared.Refusal.{Refusal}
use Rattle.refusal.specs.declared.Refusal.TheVariants as refusal-is
use Rattle.request.specs.Format.{asked_from, asked_in, fields_from, decoded}
use Rattle.request.specs.Inner.Places.{placed, PlacesKept, Found, ReadsAs, Blank}
use Rattle.request.specs.Decode.{Decodes}
use Rattle.request.specs.Laws.Promise.{refuses, same_promise}

-- ---- the whole reading
module _ (bytes l : List ℕ) where
  pub read_long : 20000 < length bytes → Decodes (decoded bytes (length l)) (Err refusal-is.Request) l l
  unfolding decoded
  read_long h = refuses refusal-is.Request (fails 17 _ _ (lt-leb (length bytes) 20000 h))

  module _ (short : length bytes ≤ 20000) (r : Bool) (places : List ℕ) (g : ReadsAs bytes r places) where
    short_enough : leb (length bytes) 20000 ≡ true
    short_enough = le-leb (length bytes) 20000 short

    pub read_broken : r ≡ false → Decodes (decoded bytes (length l)) (Err refusal-is.Request) l l
    unfolding decoded ReadsAs
    read_broken e =
        let no : fields_from (suc (length bytes)) [] bytes ≡ refused 17 = rw e at g in
        refuses refusal-is.Request (holds 17 _ _ _ short_enough (then_refused _ 17 _ no))

    module _ (e : r ≡ true) where
      found : Found bytes places
      unfolding ReadsAs
      found = rw e at g

      pub read_kept : PlacesKept bytes places
      read_kept = found.kept

      whole : asked_from (length l) (placed bytes places) ≡ decoded bytes (length l)
      unfolding decoded asked_in
      whole =
          ap (asked_from (length l)) (sym found.bodies)
          ∙ holds 17 _ _ _ short_enough (then_given _ found.fields (asked_in (length l)) _ found.same refl)

      pub read_found : {a : Result Decoded Refusal} {l' : List ℕ} → Decodes (asked_from (length l) (placed bytes places)) a l l' → Decodes (decoded bytes (length l)) a l l'
      read_found d = same_promise whole d

pub ruleset readings = (read_long, read_broken, read_kept, read_found, rules)

-- ---- twelve places, none taken
zeros : (n i : ℕ) → get_or {A = ℕ} (replicate n 0) i 0 ≡ 0
zeros zero i = refl
zeros (suc n) zero = refl
zeros (suc n) (suc i) = zeros n i

pub blank : Blank (replicate 12 0)
blank = record { twelve = refl; none = zeros 12 }
