-- A law for each way through the functions that add a date unless it adjusts to the day of the newest.
-- Assumes nothing.
use mathlib.Core.Path.{◌≡◌, refl, ap, sym, ◌∙◌}
use mathlib.Core.Bool.{Bool, true}
use mathlib.Core.List.{List}
use Prim.Native.Nat.{ℕ, zero, suc, ◌<◌}
use native.Mathlib.Omega.{arith}
use lib.ListN.{length, set}
use borrow.Author.Rules.{rules}
use borrow.Author.Tests.{eq-eqb, ne_eqb}
use Rattle.std.specs.Prelude.{Result, Ok, Err, IsErr, IsErrAnd}
use Rattle.refusal.specs.declared.Refusal.{Refusal}
use Rattle.refusal.specs.Refusals.{number_of}
use Rattle.refusal.specs.Answer.{given, refused, answered}
use Rattle.refusal.specs.Laws.Answers as answers
use Rattle.refusal.specs.Laws.Answers.{then_given, then_refused, handed_on}
use Rattle.calendar.specs.declared.Convention.{Convention}
use Rattle.calendar.specs.Open.{closed_ok}
use Rattle.calendar.specs.Adjust.{adjusted}
use Rattle.steps.specs.Generate.{newest, put, put_unless, put_new, put_anchor}
use Rattle.working.specs.declared.Tip.{Tip}
use Rattle.working.specs.Step.{does, seen, Kept, gives, refuses, gives_as, was_given, was_refused, was_kept}
use Rattle.working.specs.Part.{Work, Part, Begun, held, last_day, place_of, Filling, begun}
use Rattle.working.specs.Held.{newest_read, put_is_newest, put_dates, put_counts}
use Rattle.working.specs.Turning.{Front, Ahead, Looped}
use Rattle.working.specs.Paying.{Paid}
use Rattle.working.specs.Adding.{Adding, Stood, PutFront}
use Rattle.working.proofs.Puts.{paid_more}

-- ---- a date put, with what is known of it
module _ (back : Bool) {room : ℕ} (tip : Tip) (day known : ℕ) (paid : List ℕ) {w : Work} (part : Part room tip.n w) (f : Result ℕ Refusal) (w' : Work) (p : Filling back room (put room day 0 (held back tip.n w)) f w') where
  pub stood_ready : (n : ℕ) → f ≡ Ok n → (paid' : List ℕ) → length paid ≡ 4096 → (length paid ≡ 4096 → tip.n < 4096 → paid' ≡ set paid (place_of back tip.n) known) → PutFront back room tip known paid (put room day 0 (held back tip.n w)) (Ok (record { n = n; start = tip.start; front = known })) w' paid'
  stood_ready n e paid' size set_so =
      let h : answered f ≡ given n = rw e in
      let says = sym (was_given p n h) in
      let placed = was_kept p n h in
      let more = put_counts back part placed.part day 0 says in
      gives (record { n = n; start = tip.start; front = known }) says
      (record { placed = placed; as_known = refl; as_start = refl; pays = set_so size (omega (arith, placed.part, more)) })

  pub stood_refused : (k : Refusal) → f ≡ Err k → (paid' : List ℕ) (r : Result Tip Refusal) → IsErr r × IsErrAnd r (λ j. j ≡ k) → PutFront back room tip known paid (put room day 0 (held back tip.n w)) r w' paid'
  stood_refused k e paid' r h =
      let q : answered f ≡ refused (number_of k) = rw e in
      rw (handed_on r k h) (refuses (number_of k) (sym (was_refused p (number_of k) q)))

-- ---- unless it adjusts to the day of the newest
module _ (mask : ℕ) (closed : List ℕ) (convention : Convention) (back : Bool) {room : ℕ} (tip : Tip) {w : Work} {paid : List ℕ} (l : Looped mask closed convention back room w paid tip) (day last : ℕ) (at : length w.days ≡ 4096 → tip.n < 4097 → last ≡ last_day back tip.n w.days) where
  b : Begun closed room tip.n w
  b = l.ahead.begun

  here : last ≡ newest (held back tip.n w)
  here = newest_read back last b.part at

  -- a refusal that was handed on
  stopped : (m : Refusal) → refused (number_of m) ≡ put_new mask closed convention room day day 0 (held back tip.n w) → (r : Result Tip Refusal) → IsErr r × IsErrAnd r (λ k. k ≡ m) → Adding mask closed convention back room (put_new mask closed convention room day day 0 (held back tip.n w)) r w paid
  stopped m e r h = rw (handed_on r m h) (refuses (number_of m) e)

  module _ (kept : Result ℕ Refusal) (known : closed_ok closed ≡ true → Front mask closed convention tip.front last → answered kept ≡ adjusted mask closed convention last) where
    was : answered kept ≡ adjusted mask closed convention (newest (held back tip.n w))
    was = let k = known b.calendar (rw here l.ahead.front) in rw here at k

    pub new_stop : (m : Refusal) → kept ≡ Err m → (r : Result Tip Refusal) → IsErr r × IsErrAnd r (λ k. k ≡ m) → Adding mask closed convention back room (put_new mask closed convention room day day 0 (held back tip.n w)) r w paid
    unfolding put_new
    new_stop m e r h = stopped m (then_refused _ (number_of m) _ (answers.was_refused kept m _ was e)) r h

    module _ (a : ℕ) (q : kept ≡ Ok a) (moved : Result ℕ Refusal) (found : closed_ok closed ≡ true → answered moved ≡ adjusted mask closed convention day) where
      s : answered moved ≡ adjusted mask closed convention day
      s = found b.calendar

      pub new_closed : (m : Refusal) → moved ≡ Err m → (r : Result Tip Refusal) → IsErr r × IsErrAnd r (λ k. k ≡ m) → Adding mask closed convention back room (put_new mask closed convention room day day 0 (held back tip.n w)) r w paid
      unfolding put_new
      new_closed m e r h = stopped m (then_given _ a _ _ (answers.was_given kept a _ was q) (then_refused _ (number_of m) _ (answers.was_refused moved m _ s e))) r h

      module _ (c : ℕ) (t : moved ≡ Ok c) where
        pub new_same : a ≡ c → Adding mask closed convention back room (put_new mask closed convention room day day 0 (held back tip.n w)) (Ok (record { n = tip.n; start = tip.start; front = a })) w paid
        unfolding put_new put_unless
        new_same e =
            gives (record { n = tip.n; start = tip.start; front = a })
            (then_given _ a _ _ (answers.was_given kept a _ was q)
            (then_given _ c _ _ (answers.was_given moved c _ s t) (rw (eq-eqb a c e) refl)))
            (record { ahead = record { begun = b; front = record { known = λ h. answers.was_given kept a _ was q } }; pays = l.pays })

        stepped : (a ≡ c → ⊥) → put room day 0 (held back tip.n w) ≡ put_new mask closed convention room day day 0 (held back tip.n w)
        unfolding put_new put_unless
        stepped e =
            then_given _ a _ _ (answers.was_given kept a _ was q)
            (then_given _ c _ _ (answers.was_given moved c _ s t) (rw (ne_eqb a c e) refl))

        -- what was put is the newest, and paid
        module _ (m : Tip) (w' : Work) (paid' : List ℕ) (k : Stood back room tip c paid w' paid' m) (u : given (held back m.n w') ≡ put room day 0 (held back tip.n w)) where
          put_ahead : Ahead mask closed convention back room w' m
          put_ahead =
              record {
                begun = begun b.calendar k.placed;
                front = record { known = λ h. ap (adjusted mask closed convention) (put_is_newest room day 0 (held back tip.n w) (held back m.n w') u) ∙ answers.was_given moved c _ s t ∙ ap given (sym k.as_known) };
              }

          put_pays : Paid (adjusted mask closed convention) back m.start m.n w'.days paid'
          unfolding held
          put_pays =
              let more = put_counts back b.part k.placed.part day 0 u in
              let few : tip.n < 4096 = omega (arith, k.placed.part, more) in
              rw k.as_start
              (paid_more (adjusted mask closed convention) back day c b.part.work_size few l.pays more (answers.was_given moved c _ s t) (put_dates room day 0 (held back tip.n w) (held back m.n w') u) k.pays)

        looped_put : (r : Result Tip Refusal) (w' : Work) (paid' : List ℕ) → PutFront back room tip c paid (put room day 0 (held back tip.n w)) r w' paid' → Kept (Looped mask closed convention back room w' paid') (answered r)
        unfolding seen Kept
        looped_put (Ok m) w' paid' v = record { ahead = put_ahead m w' paid' v.keeps v.says; pays = put_pays m w' paid' v.keeps v.says }
        looped_put (Err m) w' paid' v = tt

        pub new_put : (r : Result Tip Refusal) (w' : Work) (paid' : List ℕ) → (a ≡ c → ⊥) → (Part room tip.n w → length paid ≡ 4096 → PutFront back room tip c paid (put room day 0 (held back tip.n w)) r w' paid') → Adding mask closed convention back room (put_new mask closed convention room day day 0 (held back tip.n w)) r w' paid'
        new_put r w' paid' e k = let v = k b.part l.pays.size in record { says = v.says ∙ stepped e; keeps = looped_put r w' paid' v }

-- ---- an anchor
module _ (mask : ℕ) (closed : List ℕ) (convention : Convention) (back : Bool) (room anchor : ℕ) (tip : Tip) (w : Work) where
  pub anchor_absent : (paid : List ℕ) → Looped mask closed convention back room w paid tip → anchor ≡ 0 → Adding mask closed convention back room (put_anchor mask closed convention room anchor (held back tip.n w)) (Ok tip) w paid
  unfolding put_anchor
  anchor_absent paid a e = gives tip (rw e refl) a

  there : (x : ℕ) → (x ≡ 0 → ⊥) → put_new mask closed convention room x x 0 (held back tip.n w) ≡ put_anchor mask closed convention room x (held back tip.n w)
  unfolding put_anchor
  there zero h = absurd (h refl)
  there (suc x) h = refl

  pub anchor_there : (r : Result Tip Refusal) (w' : Work) (paid' : List ℕ) → (anchor ≡ 0 → ⊥) → Adding mask closed convention back room (put_new mask closed convention room anchor anchor 0 (held back tip.n w)) r w' paid' → Adding mask closed convention back room (put_anchor mask closed convention room anchor (held back tip.n w)) r w' paid'
  anchor_there r w' paid' h v = gives_as (there anchor h) v

pub ruleset anchors = (anchor_absent, anchor_there, does, rules)
