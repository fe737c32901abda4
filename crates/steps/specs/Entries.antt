-- Request L7: each entry of a schedule keeps two dates, the paid one and the one before adjustment, which is the date after the
-- third-Wednesday step. The paid dates, the flags and the tries are those of `Build`. Request L8: how far apart the two dates are at most.
-- Assumes nothing.
use Rattle.std.specs.Prelude.{ℕ, ◌+◌, ◌-◌, min, max, ◌≡◌, Bool, true, false, List, [], ◌∷◌, ◌++◌, eqb, length, take, drop}
use Rattle.refusal.specs.Answer.{Answer, given, refused, need, then, UNEVEN}
use Rattle.steps.specs.declared.Request.{Request}
use Rattle.steps.specs.declared.Built.{Built}
use Rattle.steps.specs.Rules.{rule_in_force}
use Rattle.steps.specs.Table.{first_row, input_rows}
use Rattle.steps.specs.Generate.{Made, generate}
use Rattle.steps.specs.Finish.{wednesdays, adjustments, meet_at_end, meet_at_front, merge_end, merge_front}
use Rattle.steps.specs.Build.{Schedule, admitted, answered, over, dates_after, flags_after}

pub record Entries : Type 0 where
  pub schedule : Schedule
  pub unadjusted : List ℕ

-- ---- what the merges leave of a list that stands beside the paid dates; the paid dates alone say which entries go
-- at the end the entry before the last
unfoldable pub without_former : {A : Type 0} → Bool → List A → List A
without_former false l = l
without_former true l = take (length l - 2) l ++ drop (length l - 1) l

-- at the front the second
unfoldable pub without_second : {A : Type 0} → Bool → List A → List A
without_second false l = l
without_second true l = take 1 l ++ drop 2 l

unfoldable pub left_beside : {A : Type 0} (paid : List ℕ) (l : List A) → List A
left_beside paid l =
    without_second (meet_at_front (without_former (meet_at_end paid) paid)) (without_former (meet_at_end paid) l)

-- ---- the two dates of what was generated: after the third Wednesdays, and what adjusting makes of them
pub record Pairs : Type 0 where
  pub paid : List ℕ
  pub unadjusted : List ℕ

unfoldable pub pairs_of : Request → (closed : List ℕ) (seed : ℕ) (ds : List ℕ) → Answer Pairs
pairs_of q closed seed ds =
    then (wednesdays (rule_in_force q) q.mask closed ds) (λ unadjusted.
    then (adjustments q closed seed unadjusted) (λ paid.
    given (record { paid = paid; unadjusted = unadjusted })))

unfoldable pub merged_entries : (flags : List ℕ) (tries : ℕ) → Pairs → Answer Entries
merged_entries flags tries e =
    then (merge_front (merge_end e.paid flags)) (λ done.
    given (record {
      schedule = record { dates = done.dates; flags = done.flags; tries = tries };
      unadjusted = left_beside e.paid e.unadjusted;
    }))

unfoldable pub entries_of_made : Request → List ℕ → Made → Answer Entries
entries_of_made q closed made = then (pairs_of q closed made.seed made.dates) (merged_entries made.flags made.tries)

-- ---- the steps of an accepted request, and a build with that many places lent for dates, flags and unadjusted dates: refusal 1 covers
-- all three lists
unfoldable pub entry_steps : Request → List ℕ → ℕ → Answer Entries
entry_steps q closed room = then (generate q closed (min room 4096)) (entries_of_made q closed)

unfoldable pub entries_of : Request → (closed : List ℕ) (dates flags unadjusted : ℕ) → Answer Entries
entries_of q closed dates flags unadjusted =
    need UNEVEN (eqb dates unadjusted)
    (admitted (first_row (input_rows q closed dates flags)) (entry_steps q closed) dates)

-- ---- how far apart two days are; the greatest of that over the entries of a schedule; and the number of a build, 0 in a refusal
unfoldable pub apart : (a b : ℕ) → ℕ
apart a b = (a - b) + (b - a)

unfoldable pub farthest : (paid unadjusted : List ℕ) → ℕ
farthest [] gs = 0
farthest (p ∷ ps) [] = 0
farthest (p ∷ ps) (g ∷ gs) = max (apart p g) (farthest ps gs)

unfoldable pub moved_of : Answer Entries → ℕ
moved_of (refused n) = 0
moved_of (given e) = farthest e.schedule.dates e.unadjusted

-- ---- what is answered, and what the three lent lists hold
-- without the third list
unfoldable pub paid_of : Answer Entries → Answer Schedule
paid_of o = then o (λ e. given e.schedule)

unfoldable pub unadjusted_after : Answer Entries → List ℕ → List ℕ
unadjusted_after (refused n) old = old
unadjusted_after (given e) old = over e.unadjusted old

-- the promise of a build
pub record Written (q : Request) (o : Answer Entries) (r : Built) (dates flags unadjusted dates' flags' unadjusted' : List ℕ) : Type 0 where
  pub answer : r ≡ answered q (moved_of o) (paid_of o)
  pub dates_after_lem : dates' ≡ dates_after (paid_of o) dates
  pub flags_after_lem : flags' ≡ flags_after (paid_of o) flags
  pub unadjusted_after_lem : unadjusted' ≡ unadjusted_after o unadjusted
