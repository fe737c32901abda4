-- Paid dates filled in beside the generated ones, from a place up to another.
-- Assumes nothing.
use Rattle.std.specs.Prelude.{ℕ, ◌+◌, ◌-◌, ◌≤◌, ◌<◌, ◌≡◌, Bool, true, false, ◌||◌, List, [], ◌∷◌, ◌++◌, eqb, ◌⊎◌, length, take, drop}
use Rattle.refusal.specs.Answer.{Answer, given, then}
use Rattle.calendar.specs.declared.Convention.{Convention}
use Rattle.steps.specs.declared.Move.{Move}
use Rattle.steps.specs.declared.Move.TheVariants.{Stay, Adjust}
use Rattle.steps.specs.declared.Rule.{Rule}
use Rattle.steps.specs.declared.Rule.TheVariants.{ThirdWednesday, ThirdWednesdayInclusive}
use Rattle.steps.specs.declared.Request.{Request}
use Rattle.steps.specs.declared.Sure.{Sure}
use Rattle.steps.specs.Rules.{one_of}
use Rattle.steps.specs.Finish.{each, moved, on_last, first_move, last_move, middle_move, seed_at_end}
use Rattle.finish.specs.declared.Paid.{Paid}

-- what moving makes of the dates from a up to b stands in the same places of another list, whose other places stay
unfoldable pub pay_between : (ℕ → Answer ℕ) → (a b : ℕ) (ds ps : List ℕ) → Answer (List ℕ)
pay_between f a b ds ps = then (each f (take (b - a) (drop a ds))) (λ ys. given (take a ps ++ (ys ++ drop b ps)))

-- the dates from a up to b are paid already
pub record PaidAlready (f : ℕ → Answer ℕ) (a b : ℕ) (ds ps : List ℕ) : Type 0 where
  pub so : each f (take (b - a) (drop a ds)) ≡ given (take (b - a) (drop a ps))

-- the paid ones among the middle dates of n
pub record Narrowed (n : ℕ) (known r : Paid) : Type 0 where
  pub first : 1 ≤ r.from
  pub order : r.from ≤ r.to
  pub last : r.to ≤ 1 + (n - 2)
  pub among : (r.from ≡ r.to) ⊎ ((known.from ≤ r.from) × (r.to ≤ known.to))

-- the first date is paid, and not left alone
pub record FirstPaid (what : Move) (known : Paid) : Type 0 where
  pub from : known.from ≡ 0
  pub some : 1 ≤ known.to
  pub moves : what ≡ Stay → ⊥

-- the last of n dates is paid, by the convention that it is moved by
pub record LastPaid (convention : Convention) (what : Move) (known : Paid) (n : ℕ) : Type 0 where
  pub from : known.from < n
  pub to : n ≤ known.to
  pub moves : what ≡ Adjust convention

-- and stays so while the first is filled in, if there are two dates and more
pub record LastKept (f : ℕ → Answer ℕ) (known : Paid) (ds ps : List ℕ) : Type 0 where
  pub kept : known.from < length ds → length ds ≤ known.to → 2 ≤ length ds → PaidAlready f (length ds - 1) (length ds) ds ps

-- the last date is on a day whose adjusted date is known, and not left alone
pub record LastKnown (what : Move) (last : Sure) (day : ℕ) : Type 0 where
  pub known : last.paid ≡ 0 → ⊥
  pub on : last.day ≡ day
  pub moves : what ≡ Stay → ⊥

-- under a rule that moves dates to third Wednesdays none is paid yet
unfoldable pub paid_if : Bool → Paid → Paid
paid_if true known = record { from = 0; to = 0 }
paid_if false known = known

unfoldable pub still_paid : Rule → Paid → Paid
still_paid rule known = paid_if (one_of rule (ThirdWednesday ∷ []) || one_of rule (ThirdWednesdayInclusive ∷ [])) known

-- ---- the last date, from the first adjustment's where there is one date alone, and the middle ones
unfoldable pub pay_last_of : Bool → Request → (closed ds ps : List ℕ) → Answer (List ℕ)
pay_last_of true q closed ds ps = on_last (moved q.mask closed (last_move q)) ps
pay_last_of false q closed ds ps = pay_between (moved q.mask closed (last_move q)) (length ds - 1) (length ds) ds ps

unfoldable pub pay_last : Request → (closed ds ps : List ℕ) → Answer (List ℕ)
pay_last q closed ds ps = pay_last_of (eqb (length ds) 1) q closed ds ps

unfoldable pub pay_middle : Request → (closed : List ℕ) (seed : ℕ) (ds ps : List ℕ) → Answer (List ℕ)
pay_middle q closed seed ds ps =
    then (seed_at_end q.monthend q.mask closed seed) (λ end.
    pay_between (moved q.mask closed (middle_move end q.convention)) 1 (1 + (length ds - 2)) ds ps)

-- all of them
unfoldable pub paying : Request → (closed : List ℕ) (seed : ℕ) (ds ps : List ℕ) → Answer (List ℕ)
paying q closed seed ds ps =
    then (pay_between (moved q.mask closed (first_move q)) 0 1 ds ps) (λ ps₁.
    then (pay_last q closed ds ps₁) (pay_middle q closed seed ds))
