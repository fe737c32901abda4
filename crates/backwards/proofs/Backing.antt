-- A law for each way through a backward build.
-- Assumes nothing.
use mathlib.Core.Path.{◌≡◌, refl, ◌∙◌}
use mathlib.Core.Bool.{true}
use mathlib.Core.List.{List}
use Prim.Native.Nat.{ℕ, zero, suc, ◌≤◌, ◌<◌}
use borrow.Author.Rules.{rules}
use Rattle.refusal.specs.Answer.{Answer, need, then, ROOM}
use Rattle.refusal.specs.Laws.Answers.{fails, holds}
use Rattle.steps.specs.declared.Pace.{Pace}
use Rattle.steps.specs.declared.Seed.{Seed}
use Rattle.steps.specs.declared.Request.{Request}
use Rattle.steps.specs.Rules.{pace_of}
use Rattle.steps.specs.Candidates.{candidate, seed_of}
use Rattle.steps.specs.Generate.{Lists, Made, nothing, put, has_room_in, put_penultimate, begun, backward_end}
use Rattle.steps.specs.Finish.{same_flag}
use Rattle.std.specs.Prelude.{Ok, Err}
use Rattle.refusal.specs.declared.Refusal.TheVariants.{Room}
use Rattle.working.specs.Step.{Gives, gives, refuses, gives_as}
use Rattle.working.specs.Part.{Work, Part, Placed, held, Filling, fills}
use Rattle.working.specs.Dates.{dates}
use Rattle.working.specs.Held.{no_room, has_room}

-- ---- the next-to-last date
there : (pace : Pace) (seed : Seed) (room : ℕ) (l : Lists) (x : ℕ) → (x ≡ 0 → ⊥) → need ROOM (has_room_in room l) (then (candidate true pace seed 1) (λ day. put room x (same_flag day x) l)) ≡ put_penultimate pace seed room x l
unfolding put_penultimate
there pace seed room l zero h = absurd (h refl)
there pace seed room l (suc x) h = refl

module _ (pace : Pace) (seed : Seed) {room n : ℕ} {w : Work} (p : Placed room n w) (anchor : ℕ) where
  pub penultimate_absent : anchor ≡ 0 → Filling true room (put_penultimate pace seed room anchor (held true n w)) (Ok n) w
  unfolding put_penultimate
  penultimate_absent e = gives n (rw e refl) p

  module _ (h : anchor ≡ 0 → ⊥) where
    pub penultimate_full : room ≤ n → Filling true room (put_penultimate pace seed room anchor (held true n w)) (Err Room) w
    penultimate_full e = refuses 14 (fails ROOM _ _ (no_room true p.part e) ∙ there pace seed room _ anchor h)

    pub penultimate_on : {C : Type 0} {view : C → Lists} {Keeps : C → Type 0} {r : Answer C} → n < room → Gives view Keeps (then (candidate true pace seed 1) (λ day. put room anchor (same_flag day anchor) (held true n w))) r → Gives view Keeps (put_penultimate pace seed room anchor (held true n w)) r
    penultimate_on e g = gives_as (holds ROOM _ _ _ (has_room true p.part e) refl ∙ there pace seed room _ anchor h) g

pub flagged : {C : Type 0} {view : C → Lists} {Keeps : C → Type 0} {r : Answer C} (room day f flag : ℕ) (l : Lists) → f ≡ flag → Gives view Keeps (put room day f l) r → Gives view Keeps (put room day flag l) r
flagged room day f flag l e g = rw (← e) g

pub ruleset penultimate = (penultimate_absent, penultimate_full, penultimate_on, flagged, dates, fills, rules)

-- ---- what the steps were called with is what the definition says
pub begun_is : (q : Request) (room : ℕ) (pace : Pace) → pace ≡ pace_of q.tenor → then (put room q.termination.day 1 nothing) (put_penultimate pace (seed_of q.monthend q.termination.day) room q.penultimate.day) ≡ begun q room
unfolding begun
begun_is q room pace a = rw a refl

pub seeded : {C : Type 0} {view : C → Lists} {Keeps : C → Type 0} {r : Answer C} (pace : Pace) (seed seed' : Seed) (room anchor : ℕ) (l : Lists) → seed ≡ seed' → Gives view Keeps (put_penultimate pace seed room anchor l) r → Gives view Keeps (put_penultimate pace seed' room anchor l) r
seeded pace seed seed' room anchor l e g = rw (← e) g

pub back_end_seed : {C : Type 0} {view : C → Made} {Keeps : C → Type 0} {r : Answer C} (q : Request) (closed : List ℕ) (room tries seed seed' : ℕ) (l : Lists) → seed ≡ seed' → Gives view Keeps (backward_end q closed room tries seed l) r → Gives view Keeps (backward_end q closed room tries seed' l) r
back_end_seed q closed room tries seed seed' l e g = rw (← e) g
