-- The last steps of a build: what they are lent, and what they answer.
-- Assumes nothing.
use Rattle.std.specs.Prelude.{ℕ, zero, suc, ◌+◌, ◌≤◌, min, ◌≡◌, ◌&&◌, List, eqb, leb, length, Result, Ok, Err}
use Rattle.refusal.specs.declared.Refusal.{Refusal}
use Rattle.refusal.specs.Refusals.{number_of}
use Rattle.refusal.specs.Answer.{Answer, refused, then, UNEVEN, ROOM}
use Rattle.date.specs.Civil.{pick_n}
use Rattle.steps.specs.declared.Request.{Request}
use Rattle.steps.specs.declared.Built.{Built}
use Rattle.steps.specs.Rules.{rule_in_force, tenor_in_force}
use Rattle.steps.specs.Build.{refused_built}
use Rattle.steps.specs.Finish.{Merged}
use Rattle.steps.specs.Entries.{Entries, pairs_of, merged_entries}

-- the generated dates, a place for the paid date of each, the flags between them, and room for all
pub record Lent (work paid marks dates flags unadjusted : List ℕ) : Type 0 where
  pub between : length work ≡ length marks + 1
  pub beside : length work ≡ length paid
  pub most : length work ≤ 4096
  pub fits : length work ≤ length dates
  pub even : length dates ≡ length flags
  pub even_third : length dates ≡ length unadjusted

abbrev pub pair : List ℕ → List ℕ → Merged
pair ds fs = record { dates = ds; flags = fs }

-- ---- the answer's record
unfoldable pub accepted_built : Request → (count tries moved : ℕ) → Built
accepted_built q count tries moved =
    record { number = 0; count = count; tries = tries; rule = rule_in_force q; tenor = tenor_in_force q; moved = moved }

-- the record that was answered, or that of the refusal
abbrev pub built_or_refused : Result Built Refusal → Built
built_or_refused (Ok b) = b
built_or_refused (Err r) = refused_built (number_of r)

-- ---- the last steps on any lists: 1 where they do not belong together, 14 where the dates do not fit
unfoldable pub lent_refusal : (work paid marks dates flags unadjusted : ℕ) → ℕ
lent_refusal work paid marks dates flags unadjusted =
    pick_n (eqb dates flags && (eqb dates unadjusted && (eqb work paid && eqb work (marks + 1))))
    (pick_n (leb work (min dates 4096)) 0 ROOM)
    UNEVEN

unfoldable pub unless_refused : ℕ → Answer Entries → Answer Entries
unless_refused zero o = o
unless_refused (suc n) o = refused (suc n)

-- `paid` is how many places are lent for paid dates; what they hold does not matter, but where it is known
unfoldable pub completed : Request → (closed : List ℕ) (seed tries : ℕ) (work marks : List ℕ) (paid dates flags unadjusted : ℕ) → Answer Entries
completed q closed seed tries work marks paid dates flags unadjusted =
    unless_refused (lent_refusal (length work) paid (length marks) dates flags unadjusted)
    (then (pairs_of q closed seed work) (merged_entries marks tries))
