-- Demand 3 with the room lifted: the steps of a plain backward request with any room, over 4,096 too, and with no room limit.
-- Assumes nothing.
use Rattle.std.specs.Prelude.{ℕ, suc, ◌-◌, ◌/◌, ◌≤◌, ◌<◌, ◌≡◌, refl, ◌↔◌, List, ◌∷◌, length, replicate}
use Rattle.std.proofs.Common.{subst, ⊎_elim, arith}
use Rattle.refusal.specs.Answer.{Answer, given, refused, then, ROOM}
use Rattle.refusal.specs.Laws.Answers.{never_both}
use Rattle.steps.specs.declared.Request.{Request}
use Rattle.steps.specs.Generate.{generate}
use Rattle.steps.specs.Finish.{finish}
use Rattle.steps.specs.Build.{Schedule}
use Rattle.outcomes.specs.NoLimit.{steps_in, NoLimit, no_limit_in}
use Rattle.outcomes.specs.Laws.Span.{le_or_lt}
use Rattle.plain.specs.Listed.{one_list}
use Rattle.plain.specs.Demand.{Plain, Passes, tenors_before, LiesSo, Owed, FirstFlag, regular, irregular, tenor_count, Most, Accepted}
use Rattle.plain.specs.Laws.Falling.{GeneratedBack}
use Rattle.plain.specs.Laws.Finished.{finished_same}
use Rattle.plain.specs.Laws.Walked.{rule_is, generated}
use Rattle.plain.proofs.Laws.Proved.{owed_span}

pub record KeptIn (q : Request) (room : ℕ) (ds : List ℕ) (m : ℕ) (o : Answer Schedule) : Type 0 where
  pub refused_exactly : (o ≡ refused ROOM) ↔ (room < length ds)
  pub accepted_else : length ds ≤ room → (s : Schedule) × (o ≡ given s) × Accepted q ds m s

module _ (q : Request) (closed : List ℕ) (dates flags : ℕ) (p : Plain q) (c : Passes q closed dates flags) (m : ℕ) (w : Most q m) (room : ℕ) where
  abbrev g : GeneratedBack q.effective.day q.termination.day room (tenors_before q) (m / tenor_count q) (generate q closed room)
  g = generated q p closed dates flags c m w room

  abbrev schedule : Schedule
  schedule = record { dates = g.dates; flags = g.flag ∷ replicate (length g.dates - 2) 1; tries = suc (m / tenor_count q) }

  done : finish q closed q.termination.day g.dates (g.flag ∷ replicate (length g.dates - 2) 1) ≡ given (record { dates = g.dates; flags = g.flag ∷ replicate (length g.dates - 2) 1 })
  done = finished_same q closed q.termination.day g.dates _ (rule_is q p) p.unadjusted p.unadjusted_last p.no_month_end (λ d h. owed_span q closed dates flags p c d (g.lists.only d h)) g.lists.ascends

  fits : length g.dates ≤ room → steps_in q closed room ≡ given schedule
  unfolding steps_in then
  fits h = rw (g.accepted h, done)

  over : room < length g.dates → steps_in q closed room ≡ refused ROOM
  unfolding steps_in then
  over h = rw (g.refuses h)

  first_is : FirstFlag q g.flag
  first_is = ⊎_elim (λ (h : (g.flag ≡ 1) × LiesSo q q.effective.day). regular h.0 h.1) (λ (h : (g.flag ≡ 0) × ((k : ℕ) → tenors_before q k ≡ given q.effective.day → ⊥)). irregular h.0 (λ l. h.1 l.0 l.1)) g.first_flag

  kept : KeptIn q room g.dates m (steps_in q closed room)
  kept = record {
    refused_exactly = (
      λ r. ⊎_elim (λ (h : length g.dates ≤ room). absurd (never_both _ schedule ROOM (fits h) r)) (λ (h : room < length g.dates). h) (le_or_lt (length g.dates) room),
      over,
    );
    accepted_else = λ h. (schedule, fits h, record { dates = refl; flags = record { first = g.flag; first_flag = first_is; all_flags = refl }; tries = omega arith });
  }

-- the list owed is refused exactly if it exceeds the room, and given otherwise
pub steps_back : (q : Request) (closed : List ℕ) (dates flags : ℕ) → Plain q → Passes q closed dates flags
    → (ds : List ℕ) → Owed q ds → (m : ℕ) → Most q m → (room : ℕ) → KeptIn q room ds m (steps_in q closed room)
steps_back q closed dates flags p c ds o m w room =
    let g = generated q p closed dates flags c m w room in
    subst (λ (l : List ℕ). KeptIn q room l m (steps_in q closed room)) (one_list g.lists o) (kept q closed dates flags p c m w room)

-- so with no room limit it is given
pub no_limit_back : (q : Request) (closed : List ℕ) (dates flags : ℕ) → Plain q → Passes q closed dates flags
    → (ds : List ℕ) → Owed q ds → (m : ℕ) → Most q m → (s : Schedule) × NoLimit q closed (given s) × Accepted q ds m s
no_limit_back q closed dates flags p c ds o m w =
    let s = (steps_back q closed dates flags p c ds o m w (length ds)).accepted_else (omega arith) in
    (s.0, no_limit_in q closed (length ds) (given s.0) s.1 (λ f. never_both _ s.0 ROOM refl f), s.2)
