-- What the two merges leave in the part of the working lists that holds the schedule, and what is copied out.
-- Assumes nothing.
use Rattle.std.specs.Prelude.{ℕ, ◌-◌, ◌≤◌, ◌<◌, ◌≡◌, List, length, take, drop, Result, Ok, Err}
use Rattle.refusal.specs.declared.Refusal.{Refusal}
use Rattle.refusal.specs.Refusals.{number_of}
use Rattle.refusal.specs.Answer.{Answer, given, refused}
use Rattle.steps.specs.Finish.{Merged, merge_end, merge_front}
use Rattle.steps.specs.Build.{over}
use Rattle.steps.specs.Entries.{farthest}
use Rattle.finish.specs.declared.merges.Part.{Part}

-- the first r dates, and the flags between them, are those of the merge at the end
pub record EndMerged (ds fs : List ℕ) (r : ℕ) (ds' fs' : List ℕ) : Type 0 where
  pub some : 1 ≤ r
  pub few : r ≤ length ds
  pub dates : take r ds' ≡ (merge_end ds fs).dates
  pub flags : take (r - 1) fs' ≡ (merge_end ds fs).flags

-- what is left from a place on
unfoldable pub left_from : Result ℕ Refusal → List ℕ → List ℕ → Answer Merged
left_from (Ok k) ds fs = given (record { dates = drop k ds; flags = drop k fs })
left_from (Err r) ds fs = refused (number_of r)

unfoldable pub Short : Result ℕ Refusal → ℕ → Type 0
Short (Ok k) n = k ≤ 1
Short (Err r) n = Unit {0}

pub record FrontMerged (ds fs : List ℕ) (r : Result ℕ Refusal) (ds' fs' : List ℕ) : Type 0 where
  pub says : left_from r ds' fs' ≡ merge_front (record { dates = ds; flags = fs })
  pub short : Short r (length ds)

-- the dates from a place up to another, and the flags between them
abbrev pub part_of : ℕ → ℕ → List ℕ → List ℕ → Merged
part_of from to ds fs =
    record { dates = take (to - from) (drop from ds); flags = take (to - 1 - from) (drop from fs) }

-- what both merges leave
unfoldable pub left_of : Result Part Refusal → List ℕ → List ℕ → Answer Merged
left_of (Ok p) ds fs = given (part_of p.from p.to ds fs)
left_of (Err r) ds fs = refused (number_of r)

unfoldable pub Within : Result Part Refusal → ℕ → Type 0
Within (Ok p) n = (p.from < p.to) × (p.to ≤ n)
Within (Err r) n = Unit {0}

-- where the merge at the end left the last date
unfoldable pub UpTo : Result Part Refusal → ℕ → Type 0
UpTo (Ok p) n = p.to ≡ n
UpTo (Err r) n = Unit {0}

pub record Merges (ds fs : List ℕ) (r : Result Part Refusal) (ds' fs' : List ℕ) : Type 0 where
  pub says : left_of r ds' fs' ≡ merge_front (merge_end ds fs)
  pub within : Within r (length ds)
  pub up_to : UpTo r (length (merge_end ds fs).dates)

-- the part from a place up to another, copied to the start of what was lent
pub record CopiedOut (from to moved : ℕ) (work paid marks dates flags unadjusted dates' flags' unadjusted' : List ℕ) : Type 0 where
  pub dates_then : dates' ≡ over (part_of from to paid marks).dates dates
  pub flags_then : flags' ≡ over (part_of from to paid marks).flags flags
  pub unadjusted_then : unadjusted' ≡ over (take (to - from) (drop from work)) unadjusted
  pub moved_then : moved ≡ farthest (part_of from to paid marks).dates (take (to - from) (drop from work))
