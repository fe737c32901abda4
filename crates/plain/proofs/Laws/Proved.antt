-- Demand 3 holds of the definition of a build.
-- Assumes nothing.
use Rattle.std.specs.Prelude.{ℕ, suc, ◌-◌, ◌*◌, ◌/◌, ◌≤◌, ◌<◌, min, ◌≡◌, refl, ◌⊎◌, List, ◌∷◌, length, replicate}
use Rattle.std.proofs.Common.{◌∙◌, subst, inl, inr, ⊎_elim, arith}
use Rattle.refusal.specs.Answer.{given, refused, then, ROOM}
use Rattle.refusal.specs.Laws.Answers.{never_both}
use Rattle.date.specs.Laws.Moves.{book_from, book_le}
use Rattle.steps.specs.declared.Request.{Request}
use Rattle.steps.specs.Generate.{generate}
use Rattle.steps.specs.Finish.{finish}
use Rattle.steps.specs.Build.{Schedule, steps_of, admitted, build_of}
use Rattle.outcomes.specs.Laws.Span.{le_or_lt, InSpan}
use Rattle.plain.specs.Listed.{one_list}
use Rattle.plain.specs.Demand.{Plain, Passes, tenor_length, tenors_before, LiesSo, OwedDate, FirstFlag, regular, irregular, tenor_count, Most, TooLong, Accepted, Kept, Demand3, OwedOnce, MostOnce}
use Rattle.plain.specs.Laws.Falling.{GeneratedBack}
use Rattle.plain.specs.Laws.Units.{span_of}
use Rattle.plain.specs.Laws.Finished.{finished_same}
use Rattle.plain.specs.Laws.Walked.{rule_is, generated, most_is, most_only}
use Rattle.plain.specs.Laws.Checks.{checks_are}

pub one_of : (room : ℕ) (ds : List ℕ) → (length ds ≤ min room 4096) ⊎ TooLong room ds
one_of room ds = ⊎_elim (λ (h : length ds ≤ room). ⊎_elim (λ (g : length ds ≤ 4096). inl (omega arith)) (λ (g : 4096 < length ds). inr (inr (omega arith))) (le_or_lt (length ds) 4096)) (λ (h : room < length ds). inr (inl (omega arith))) (le_or_lt (length ds) room)

pub over_is : (room : ℕ) (ds : List ℕ) → TooLong room ds → min room 4096 < length ds
over_is room ds (inl h) = omega arith
over_is room ds (inr h) = omega arith

module _ (q : Request) (closed : List ℕ) (dates flags : ℕ) (p : Plain q) (c : Passes q closed dates flags) where
  build_is : build_of q closed dates flags ≡ steps_of q closed dates
  unfolding build_of admitted
  build_is = rw ((checks_are q closed dates flags p).1 c)

  pub owed_span : (d : ℕ) → OwedDate q d → InSpan d
  owed_span d (inl e) = rw e (record { low = omega (arith, book_from q.effective.day c.effective_in_book); high = omega (arith, book_le q.effective.day c.effective_in_book) })
  owed_span d (inr o) = span_of q.termination.day (o.1.0 * tenor_length q) q.tenor.unit d o.1.1

  module _ (m : ℕ) (w : Most q m) where
    abbrev g : GeneratedBack q.effective.day q.termination.day (min dates 4096) (tenors_before q) (m / tenor_count q) (generate q closed (min dates 4096))
    g = generated q p closed dates flags c m w (min dates 4096)

    abbrev schedule : Schedule
    schedule = record { dates = g.dates; flags = g.flag ∷ replicate (length g.dates - 2) 1; tries = suc (m / tenor_count q) }

    done : finish q closed q.termination.day g.dates (g.flag ∷ replicate (length g.dates - 2) 1) ≡ given (record { dates = g.dates; flags = g.flag ∷ replicate (length g.dates - 2) 1 })
    done = finished_same q closed q.termination.day g.dates _ (rule_is q p) p.unadjusted p.unadjusted_last p.no_month_end (λ d h. owed_span d (g.lists.only d h)) g.lists.ascends

    fits : length g.dates ≤ min dates 4096 → build_of q closed dates flags ≡ given schedule
    unfolding steps_of then
    fits h = build_is ∙ rw (g.accepted h, done)

    over : min dates 4096 < length g.dates → build_of q closed dates flags ≡ refused ROOM
    unfolding steps_of then
    over h = build_is ∙ rw (g.refuses h)

    pub first_is : FirstFlag q g.flag
    first_is = ⊎_elim (λ (h : (g.flag ≡ 1) × LiesSo q q.effective.day). regular h.0 h.1) (λ (h : (g.flag ≡ 0) × ((k : ℕ) → tenors_before q k ≡ given q.effective.day → ⊥)). irregular h.0 (λ l. h.1 l.0 l.1)) g.first_flag

    says : Accepted q g.dates m schedule
    says = record { dates = refl; flags = record { first = g.flag; first_flag = first_is; all_flags = refl }; tries = omega arith }

    kept : Kept q dates g.dates m (build_of q closed dates flags)
    kept = record {
      refused_exactly = (
        λ r. ⊎_elim (λ (h : length g.dates ≤ min dates 4096). absurd (never_both _ schedule ROOM (fits h) r)) (λ (h : TooLong dates g.dates). h) (one_of dates g.dates),
        λ h. over (over_is dates g.dates h),
      );
      accepted_else = λ n. ⊎_elim (λ (h : length g.dates ≤ min dates 4096). (schedule, fits h, says)) (λ (h : TooLong dates g.dates). absurd (n h)) (one_of dates g.dates);
    }

pub owed_once : OwedOnce
owed_once q closed dates flags p c =
    let w = most_is q p closed dates flags c in
    let g = generated q p closed dates flags c w.0 w.1 0 in
    (g.dates, g.lists, λ ds o. one_list o g.lists)

pub most_once : MostOnce
most_once q closed dates flags p c = let w = most_is q p closed dates flags c in (w.0, w.1, λ m v. most_only q p closed dates flags c w.0 m w.1 v)

pub demand_3 : Demand3
demand_3 q closed dates flags p c ds o m w =
    let g = generated q p closed dates flags c m w (min dates 4096) in
    subst (λ (l : List ℕ). Kept q dates l m (build_of q closed dates flags)) (one_list g.lists o) (kept q closed dates flags p c m w)
