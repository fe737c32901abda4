-- A law for each test on the way through the first two dates of a forward build: which of its ways the definition goes.
-- Assumes nothing.
use mathlib.Core.Path.{◌≡◌, refl, sym, ◌∙◌}
use mathlib.Core.Bool.{Bool, true, false}
use mathlib.Core.List.{List}
use Prim.Native.Nat.{ℕ, zero, suc, ◌+◌, ◌≤◌, ◌<◌}
use lib.Dec.{eqb, ltb}
use lib.ListN.{length}
use lib.IntN.{nat_abs}
use borrow.Author.Rules.{rules}
use borrow.Author.Tests.{eq-eqb, ne_eqb, lt-ltb, le-ltb}
use Rattle.std.specs.Prelude.{Result, Ok, Err, IsErr, IsErrAnd}
use Rattle.refusal.specs.declared.Refusal.{Refusal}
use Rattle.refusal.specs.Refusals.{number_of}
use Rattle.refusal.specs.Answer.{Answer, given, refused, then, ROOM}
use Rattle.refusal.specs.Laws.Answers.{fails, holds, then_given, then_refused}
use Rattle.date.specs.declared.Date.{Date}
use Rattle.date.specs.Date.{SPAN_LAST, dated}
use Rattle.calendar.specs.Adjust.{advanced}
use Rattle.steps.specs.declared.Rule.{Rule}
use Rattle.steps.specs.declared.Request.{Request}
use Rattle.steps.specs.Rules.{is_credit, on_twentieths}
use Rattle.steps.specs.Twentieths.{next_twentieth, previous_twentieth}
use Rattle.steps.specs.Generate.{Lists, Opened, nothing, newest, put, put_earlier, credit_opening, opening_by, opening, far_enough, is_near, coming_twentieth, put_seed, put_coming, put_twentieth, tenor_on, put_first, second}
use Rattle.steps.specs.Finish.{same_flag}
use Rattle.working.specs.Step.{Gives, refuses, gives_as}
use Rattle.working.specs.Part.{Work, Part, Placed, Begun, Fresh, held, last_day, fills}
use Rattle.working.specs.Dates.{dates, regrouped}
use Rattle.working.specs.Held.{no_room, has_room, newest_read}
use Rattle.opening.specs.declared.Opening.{Opening}
use Rattle.opening.specs.First.{firsts}
use Rattle.opening.specs.Opening as opens_as
use Rattle.opening.specs.Opening.{opened_at, opened_ready, opens}
use Rattle.date.specs.Laws.Made.{given_day, refused_day, day_handed_on}
use Rattle.opening.proofs.Spans.{next_span}

pub fresh_part : {closed : List ℕ} {room n : ℕ} {w : Work} → Fresh closed room n w → Part room n w
fresh_part f = f.part

-- ---- the first date
module _ {C : Type 0} {view : C → Lists} {Keeps : C → Type 0} {r : Answer C} where
  module _ (effective a room day : ℕ) where
    pub credit_earlier : effective < a → Gives view Keeps (then (put_earlier true room day) (put room day 1)) r → Gives view Keeps (then (put_earlier (ltb effective a) room day) (put room day 1)) r
    credit_earlier h g = rw (lt-ltb effective a h) g

    pub credit_put : a ≤ effective → Gives view Keeps (put room day 1 nothing) r → Gives view Keeps (then (put_earlier (ltb effective a) room day) (put room day 1)) r
    unfolding put_earlier then
    credit_put h g = rw (le-ltb effective a h) g

  module _ (q : Request) (closed : List ℕ) (room : ℕ) (b : Bool) (p : b ≡ is_credit q.rule) where
    pub opening_effective : b ≡ false → Gives view Keeps (put room q.effective.day 1 nothing) r → Gives view Keeps (opening q closed room) r
    unfolding opening opening_by
    opening_effective e g = rw (sym p ∙ e) g

    pub opening_credit : b ≡ true → Gives view Keeps (then (previous_twentieth q.rule q.effective.day) (credit_opening q closed room)) r → Gives view Keeps (opening q closed room) r
    unfolding opening opening_by
    opening_credit e g = rw (sym p ∙ e) g

pub ruleset first_date = (credit_earlier, credit_put, opening_effective, opening_credit, regrouped, dates, fills, firsts, fresh_part, rules)

-- ---- the coming twentieth
module _ (rule : Rule) (effective : ℕ) (next : Result Date Refusal) (s : dated next ≡ next_twentieth rule effective) where
  pub coming_stop : (k : Refusal) → next ≡ Err k → (r : Result Date Refusal) → IsErr r × IsErrAnd r (λ j. j ≡ k) → dated r ≡ coming_twentieth rule effective
  unfolding coming_twentieth
  coming_stop k e r h = day_handed_on r k h ∙ then_refused _ (number_of k) _ (refused_day next k _ s e)

  module _ (d : Date) (e : next ≡ Ok d) where
    pub coming_few : d.day ≤ SPAN_LAST
    coming_few = (next_span rule effective d.day (given_day next d _ s e)).high

    module _ (b : Bool) (p : b ≡ is_near rule effective d.day) where
      pub coming_far : b ≡ true → next_twentieth rule (d.day + 1) ≡ coming_twentieth rule effective
      unfolding coming_twentieth far_enough
      coming_far h = then_given _ d.day _ _ (given_day next d _ s e) (rw (sym p ∙ h) refl)

      pub coming_here : b ≡ false → given d.day ≡ coming_twentieth rule effective
      unfolding coming_twentieth far_enough
      coming_here h = then_given _ d.day _ _ (given_day next d _ s e) (rw (sym p ∙ h) refl)

-- ---- the second date
-- the seed that the code read is the newest date
module _ {room n : ℕ} {w : Work} (p : Placed room n w) (day : ℕ) (at : length w.days ≡ 4096 → n < 4097 → day ≡ last_day false n w.days) where
  here : day ≡ newest (held false n w)
  here = newest_read false day p.part at

  pub newest_seed : Gives (λ (o : Opening). opens_as.opening w o.n o.seed) (λ o. Placed room o.n w) (given (record { lists = held false n w; seed = newest (held false n w) })) (given (opened_at n day))
  newest_seed = rw (← here) (opened_ready p)

some_is : (q : Request) (closed : List ℕ) (room : ℕ) (l : Lists) (x : ℕ) → (x ≡ 0 → ⊥) → put_first q closed room l ≡ second x q closed room l
unfolding second
some_is q closed room l zero h = absurd (h refl)
some_is q closed room l (suc x) h = refl

module _ {C : Type 0} {view : C → Opened} {Keeps : C → Type 0} {r : Answer C} (q : Request) (room : ℕ) (l : Lists) where
  module _ (day : ℕ) where
    pub coming_same : day ≡ q.effective.day → Gives view Keeps (given (record { lists = l; seed = newest l })) r → Gives view Keeps (put_coming (eqb day q.effective.day) q room day l) r
    unfolding put_coming
    coming_same e g = rw (eq-eqb day q.effective.day e) g

    module _ (h : day ≡ q.effective.day → ⊥) (b : Bool) (p : b ≡ is_credit q.rule) where
      pub coming_credit : b ≡ true → Gives view Keeps (put_seed room day 1 l) r → Gives view Keeps (put_coming (eqb day q.effective.day) q room day l) r
      unfolding put_coming
      coming_credit e g = rw (ne_eqb day q.effective.day h, sym p ∙ e) g

      pub coming_plain : b ≡ false → Gives view Keeps (put_seed room day 0 l) r → Gives view Keeps (put_coming (eqb day q.effective.day) q room day l) r
      unfolding put_coming
      coming_plain e g = rw (ne_eqb day q.effective.day h, sym p ∙ e) g

  module _ (b : Bool) (p : b ≡ on_twentieths q.rule) where
    pub twentieth_none : b ≡ false → Gives view Keeps (given (record { lists = l; seed = newest l })) r → Gives view Keeps (put_twentieth (on_twentieths q.rule) q room l) r
    unfolding put_twentieth
    twentieth_none e g = rw (sym p ∙ e) g

    pub twentieth_on : b ≡ true → Gives view Keeps (then (coming_twentieth q.rule q.effective.day) (λ day. put_coming (eqb day q.effective.day) q room day l)) r → Gives view Keeps (put_twentieth (on_twentieths q.rule) q room l) r
    unfolding put_twentieth
    twentieth_on e g = rw (sym p ∙ e) g

  module _ (closed : List ℕ) (x : ℕ) where
    pub second_none : x ≡ 0 → Gives view Keeps (put_twentieth (on_twentieths q.rule) q room l) r → Gives view Keeps (second x q closed room l) r
    unfolding second
    second_none e g = rw e g

    pub second_some : (x ≡ 0 → ⊥) → Gives view Keeps (put_first q closed room l) r → Gives view Keeps (second x q closed room l) r
    second_some h g = gives_as (some_is q closed room l x h) g

-- the request's first date
module _ {C : Type 0} {view : C → Opened} {Keeps : C → Type 0} {r : Answer C} (q : Request) {closed : List ℕ} {room n : ℕ} {w : Work} (p : Begun closed room n w) where
  pub first_full : room ≤ n → r ≡ refused ROOM → Gives view Keeps (put_first q closed room (held false n w)) r
  unfolding put_first
  first_full h e = rw e (refuses ROOM (fails ROOM _ _ (no_room false p.part h)))

  pub first_on : (day : ℕ) → n < room → (length w.days ≡ 4096 → n < 4097 → day ≡ last_day false n w.days) → Gives view Keeps (then (tenor_on q closed day) (λ d. put_seed room q.first.day (same_flag d q.first.day) (held false n w))) r → Gives view Keeps (put_first q closed room (held false n w)) r
  unfolding put_first
  first_on day h at g =
      let e : day ≡ newest (held false n w) = newest_read false day p.part at in
      gives_as (holds ROOM _ _ _ (has_room false p.part h) refl) (rw e at g)

pub flagged : {C : Type 0} {view : C → Opened} {Keeps : C → Type 0} {r : Answer C} (room day f flag : ℕ) (l : Lists) → f ≡ flag → Gives view Keeps (put_seed room day f l) r → Gives view Keeps (put_seed room day flag l) r
flagged room day f flag l e g = rw (← e) g

pub ruleset second_date =
    (newest_seed, coming_same, coming_credit, coming_plain, twentieth_none, twentieth_on, second_none, second_some, first_full, first_on, flagged, dates, fills, opens, rules)

pub tenor_is : (q : Request) (closed : List ℕ) (day n : ℕ) → n ≡ nat_abs q.tenor.length → advanced q.mask closed false n q.tenor.unit q.convention q.monthend day ≡ tenor_on q closed day
unfolding tenor_on
tenor_is q closed day n e = rw e refl
