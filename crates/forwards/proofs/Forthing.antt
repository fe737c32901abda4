-- A law for each test on the way through the end of a forward build: which of its ways the definition goes.
-- Assumes nothing.
use mathlib.Core.Path.{◌≡◌, refl, sym, ap, ◌∙◌}
use mathlib.Core.Bool.{Bool, true, false}
use mathlib.Core.List.{List, [], ◌∷◌, reverse-reverse}
use Prim.Native.Nat.{ℕ, zero, suc, ◌-◌, ◌<◌}
use native.Mathlib.Omega.{arith}
use lib.Dec.{eqb}
use lib.ListN.{length, take, drop}
use borrow.Author.Rules.{rules}
use borrow.Author.Tests.{eq-eqb, ne_eqb}
use Rattle.std.specs.Prelude.{Result, Ok, Err, IsErr, IsErrAnd}
use Rattle.refusal.specs.declared.Refusal.{Refusal}
use Rattle.refusal.specs.Refusals.{number_of}
use Rattle.refusal.specs.Answer.{Answer, given, refused, answered, then}
use Rattle.refusal.specs.Laws.Answers as answers
use Rattle.refusal.specs.Laws.Answers.{then_given, handed_on}
use Rattle.calendar.specs.declared.Convention.{Convention}
use Rattle.calendar.specs.Open.{closed_ok}
use Rattle.calendar.specs.Adjust.{adjusted}
use Rattle.steps.specs.declared.Request.{Request}
use Rattle.steps.specs.Inner.Same.{same_convention, same_equal}
use Rattle.steps.specs.Rules.{on_twentieths}
use Rattle.steps.specs.Twentieths.{next_twentieth}
use Rattle.steps.specs.Generate.{Lists, made_forth, newest, put, put_anchor, closing_day, put_closing, closing, shut, forward_end}
use Rattle.steps.specs.Laws.Grows.{closing_grows}
use Rattle.working.specs.Step.{Gives, gives, refuses, was_given, was_kept, step_given, step_refused, step_kept}
use Rattle.working.specs.Part.{Work, Part, held, last_put, last_day, Fills, fills, begun_placed}
use Rattle.working.specs.Dates.{value_stops, value_on, dates}
use Rattle.working.specs.Held.{newest_read}
use Rattle.working.specs.declared.Tip.{Tip}
use Rattle.working.specs.Turning.{Front, Ahead}
use Rattle.working.specs.Paying.{Paid}
use Rattle.working.specs.Making.{piece, Laid, forth_pays}
use Rattle.forwards.specs.declared.closing.Closing.{Closing}
use Rattle.forwards.specs.Closing.{FrontServes, Shuts}

-- ---- the last date
module _ {C : Type 0} {view : C → Lists} {Keeps : C → Type 0} {r : Answer C} (q : Request) (room : ℕ) (l : Lists) where
  module _ (b : Bool) (p : b ≡ on_twentieths q.rule) where
    pub closing_plain : b ≡ false → Gives view Keeps (put room q.termination.day 0 l) r → Gives view Keeps (put_closing false q room l) r
    unfolding put_closing closing_day then
    closing_plain e g = rw (sym p ∙ e) g

    pub closing_twentieth : b ≡ true → Gives view Keeps (then (next_twentieth q.rule q.termination.day) (λ day. put room day 1 l)) r → Gives view Keeps (put_closing false q room l) r
    unfolding put_closing closing_day
    closing_twentieth e g = rw (sym p ∙ e) g

  module _ (a b : ℕ) where
    pub closing_same : a ≡ b → Gives view Keeps (given l) r → Gives view Keeps (put_closing (eqb a b) q room l) r
    unfolding put_closing
    closing_same e g = rw (eq-eqb a b e) g

    pub closing_other : (a ≡ b → ⊥) → Gives view Keeps (put_closing false q room l) r → Gives view Keeps (put_closing (eqb a b) q room l) r
    closing_other h g = rw (ne_eqb a b h) g

pub ruleset last_date = (closing_plain, closing_twentieth, dates, fills, rules)

-- ---- what the newest date and termination adjust to
pub front_serves : (q : Request) (front : ℕ) → (front ≡ 0 → ⊥) → (b : Bool) → b ≡ same_convention q.terminal q.convention → b ≡ true → FrontServes q front
front_serves q front h b s e = record { known = h; same = sym s ∙ e }

pub served : (q : Request) (closed : List ℕ) (front day : ℕ) → FrontServes q front → Front q.mask closed q.convention front day → given front ≡ adjusted q.mask closed q.terminal day
served q closed front day s f =
    sym (ap (λ (c : Convention). adjusted q.mask closed c day) (same_equal q.terminal q.convention s.same) ∙ f.known s.known)

-- the day that the code read is the newest date
module _ (q : Request) (closed : List ℕ) {room : ℕ} (tip : Tip) {w : Work} (p : Ahead q.mask closed q.convention false room w tip) (day : ℕ) (at : length w.days ≡ 4096 → tip.n < 4097 → day ≡ last_day false tip.n w.days) (kept : Result ℕ Refusal) (paid : closed_ok closed ≡ true → Front q.mask closed q.convention tip.front day → answered kept ≡ adjusted q.mask closed q.terminal day) where
  abbrev Then : Result Closing Refusal → Work → Type 0
  Then r w' = Shuts q closed room (closing q closed room (held false tip.n w)) r w'

  here : day ≡ newest (held false tip.n w)
  here = newest_read false day p.begun.part at

  was : answered kept ≡ adjusted q.mask closed q.terminal day
  was = paid p.begun.calendar (rw here p.front)

  closing_at : {C : Type 0} {view : C → Lists} {Keeps : C → Type 0} {r : Answer C} → Gives view Keeps (then (adjusted q.mask closed q.terminal day) (λ a. then (adjusted q.mask closed q.terminal q.termination.day) (λ b. put_closing (eqb a b) q room (held false tip.n w)))) r → Gives view Keeps (closing q closed room (held false tip.n w)) r
  unfolding closing
  closing_at g = rw here at g

  pub close_stop : (k : Refusal) → kept ≡ Err k → (r : Result Closing Refusal) → IsErr r × IsErrAnd r (λ j. j ≡ k) → Then r w
  close_stop k e r h = closing_at (value_stops _ _ kept k was e r h)

  module _ (a : ℕ) (e : kept ≡ Ok a) (moved : Result ℕ Refusal) (m : closed_ok closed ≡ true → answered moved ≡ adjusted q.mask closed q.terminal q.termination.day) where
    then_paid : answered moved ≡ adjusted q.mask closed q.terminal q.termination.day
    then_paid = m p.begun.calendar

    pub close_closed : (k : Refusal) → moved ≡ Err k → (r : Result Closing Refusal) → IsErr r × IsErrAnd r (λ j. j ≡ k) → Then r w
    close_closed k t r h = closing_at (value_on _ _ kept a was e (value_stops _ _ moved k then_paid t r h))

    module _ (b : ℕ) (h : moved ≡ Ok b) where
      by_test : {C : Type 0} {view : C → Lists} {Keeps : C → Type 0} {r : Answer C} → Gives view Keeps (put_closing (eqb a b) q room (held false tip.n w)) r → Gives view Keeps (closing q closed room (held false tip.n w)) r
      by_test g = closing_at (value_on _ _ kept a was e (value_on _ _ moved b then_paid h g))

      pub close_same : a ≡ b → Then (Ok (record { n = tip.n; last = record { day = day; paid = a } })) w
      close_same s =
          by_test (closing_same q room _ a b s (gives (record { n = tip.n; last = record { day = day; paid = a } }) refl (record { placed = begun_placed p.begun; sure = record { so = λ z. answers.was_given kept a _ was e } })))

      module _ (s : a ≡ b → ⊥) {w' : Work} (f : Result ℕ Refusal) (put : Fills (Part room) false room (put_closing false q room) tip.n w f w') where
        pub close_full : (k : Refusal) → f ≡ Err k → (r : Result Closing Refusal) → IsErr r × IsErrAnd r (λ j. j ≡ k) → Then r w'
        close_full k t r i =
            by_test (closing_other q room _ a b s (rw (handed_on r k i) (refuses (number_of k) (sym (step_refused f put k t p.begun.part)))))

        pub close_put : (n : ℕ) → f ≡ Ok n → Then (Ok (record { n = n; last = record { day = q.termination.day; paid = b } })) w'
        close_put n t =
            by_test (closing_other q room _ a b s (gives (record { n = n; last = record { day = q.termination.day; paid = b } }) (sym (step_given f put n t p.begun.part)) (record { placed = step_kept f put n t p.begun.part; sure = record { so = λ z. answers.was_given moved b _ then_paid h } })))

-- ---- what has been generated
none_taken : (m : ℕ) → take {A = ℕ} m [] ≡ []
none_taken zero = refl
none_taken (suc m) = refl

tail_taken : (n : ℕ) (l : List ℕ) → 0 < n → take (n - 1) (drop 1 l) ≡ drop 1 (take n l)
tail_taken zero l h = let bad : ⊥ = omega arith in absurd bad
tail_taken (suc n) [] h = let e : suc n - 1 ≡ n = omega arith in rw (e, none_taken n) refl
tail_taken (suc n) (x ∷ xs) h = let e : suc n - 1 ≡ n = omega arith in rw e refl

-- the next-to-last date, then the last one
pub end_is : (q : Request) (closed : List ℕ) (room tries seed : ℕ) (l : Lists) → then (put_anchor q.mask closed q.convention room q.penultimate.day l) (λ m. then (closing q closed room m) (λ n. given (made_forth tries seed n))) ≡ forward_end q closed room tries seed l
unfolding forward_end shut then
end_is q closed room tries seed l = by (put_anchor q.mask closed q.convention room q.penultimate.day l)
  where
    by : (a : Answer Lists) → then a (λ m. then (closing q closed room m) (λ n. given (made_forth tries seed n))) ≡ then (then a (closing q closed room)) (λ n. given (made_forth tries seed n))
    by (given m) = refl
    by (refused k) = refl

-- what was paid before the last date was put still is
pub forth_laid : (q : Request) (closed : List ℕ) {room m start : ℕ} {w : Work} {paid : List ℕ} (tries seed : ℕ) → Part room m w → Paid (adjusted q.mask closed q.convention) false start m w.days paid → (w' : Work) (r : Result Closing Refusal) → Shuts q closed room (closing q closed room (held false m w)) r w' → (c : Closing) → r ≡ Ok c → Gives (piece w') (Laid q closed room w' paid) (then (closing q closed room (held false m w)) (λ l. given (made_forth tries seed l))) (given (record { from = 0; marked = 1; n = c.n; known = start; beyond = m; tries = tries; seed = seed; last = c.last }))
unfolding piece held last_put
forth_laid q closed {m = m} {start = start} {w = w} {paid = paid} tries seed part pays w' r p c e =
    let h : answered r ≡ given c = rw e in
    let n : ℕ = c.n in
    let closed-so : closing q closed _ (held false m w) ≡ given (held false n w') = was_given p c h in
    let s = was_kept p c h in
    let k = s.placed in
    let t = k.part in
    gives (record { from = 0; marked = 1; n = n; known = start; beyond = m; tries = tries; seed = seed; last = c.last })
    (then_given _ (held false n w') _ _ closed-so
    (rw (reverse-reverse (take n w'.days), reverse-reverse (take n w'.marks), tail_taken n w'.marks k.some) refl))
    (record {
      lies = record { some = k.some; fits = t.fits; dates_end = omega (arith, t); flags_end = omega (arith, t) };
      pays =
          forth_pays _ w w' paid pays part.work_size t.work_size (omega (arith, part)) (omega (arith, t)) (closing_grows q closed _ _ _ closed-so) _ refl refl refl refl;
      sure = s.sure;
    })
