use Rattle.std.proofs.Common.{◌≡◌, ℕ, true, ap, sym, ◌∙◌}
use Rattle.refusal.specs.Answer.{given}
use Rattle.refusal.specs.Laws.Answers.{was_given}
use Rattle.calendar.specs.Open.{closed_ok}
use Rattle.calendar.specs.Adjust.{adjusted}
use Rattle.calendar.specs.Laws.Moved.{moved_day, moved_refused}
use Rattle.working.specs.Turning.{Front}
use Rattle.working.proofs.Turns.{compare_stop, compare_closed, compare_skip, compare_keep}
use Rattle.working.proofs.candidates.compare.Goals as goal
use Rattle.working.proofs.candidates.compare.Goals.{After-adjust_near-told, then-known-eq0+in-Ok, else-known-eq0}

-- what is held is the newest date's adjusted date, found or known
held : (c : After-adjust_near-told) → closed_ok c.args.closed.now ≡ true → Front c.args.adjusting.mask c.args.closed.now c.args.adjusting.convention c.args.known.front c.args.known.newest → adjusted c.args.adjusting.mask c.args.closed.now c.args.adjusting.convention c.args.known.newest ≡ given c.if-known-eq0.held
held c ok f =
    elim c.if-known-eq0.branch [
      | then-known-eq0+in-Ok w ↦ was_given _ _ _ (w.adjusted.ensures ok) (w.in-Ok.is) ∙ ap (λ (n : ℕ). given n) (sym w.held-is)
      | else-known-eq0 w ↦ f.known w.if-known-eq0.false ∙ ap (λ (n : ℕ). given n) (sym w.held-is)
    ]

pub returns-in-Err : goal.returns-in-Err
returns-in-Err c = λ ok k. compare_stop _ _ _ _ _ _ (c.adjusted.ensures ok) _ c.in-Err.is

pub returns-in-Err-moved : goal.returns-in-Err-moved
returns-in-Err-moved c =
    let near = goal.at.returns-in-Err-moved c in
    λ ok k. compare_closed _ _ _ _ _ _ (held near.After-adjust_near-told ok k.front) _ (moved_refused _ _ _ (c.adjust_near-told.ensures ok k.month).says _ c.in-Err-moved.is)

pub returns-then-held-front : goal.returns-then-held-front
returns-then-held-front c =
    let near = goal.at.returns-then-held-front c in
    λ ok k.
    let moved = moved_day _ _ _ (c.adjust_near-told.ensures ok k.month).says _ c.in-Ok-moved.is in
    compare_skip _ _ _ _ _ _ (held near.After-adjust_near-told ok k.front) _ _ moved (c.adjust_near-told.ensures ok k.month).known c.if-held-front.true

pub returns-else-held-front : goal.returns-else-held-front
returns-else-held-front c =
    let near = goal.at.returns-else-held-front c in
    λ ok k.
    let moved = moved_day _ _ _ (c.adjust_near-told.ensures ok k.month).says _ c.in-Ok-moved.is in
    compare_keep _ _ _ _ _ _ (held near.After-adjust_near-told ok k.front) _ _ moved (c.adjust_near-told.ensures ok k.month).known c.if-held-front.false
