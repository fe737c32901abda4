-- The invariant of the loop over the candidates, and a law for each way through a turn of it.
-- Assumes nothing.
use mathlib.Core.Path.{◌≡◌, refl, sym, ap, ◌∙◌, subst}
use mathlib.Core.Bool.{Bool, true, false, false≢true, not, ◌&&◌}
use mathlib.Core.List.{List, ◌∷◌}
use Prim.Native.Nat.{ℕ, suc, ◌+◌, ◌-◌, ◌≤◌, ◌<◌}
use native.Mathlib.Numerals.{add-one}
use native.Mathlib.Omega.{arith}
use lib.ListN.{length, set}
use lib.Dec.{eqb}
use borrow.Author.Tests.{eq-eqb}
use Rattle.std.specs.Prelude.{Result, Ok, Err, IsErr, IsErrAnd}
use Rattle.std.specs.Result.{result_unwrap_or}
use Rattle.refusal.specs.declared.Refusal.{Refusal}
use Rattle.refusal.specs.declared.Refusal.TheVariants.{Book}
use Rattle.refusal.specs.Refusals.{number_of}
use Rattle.refusal.specs.Answer.{Answer, given, refused, answered, then, BOOK}
use Rattle.refusal.specs.Laws.Answers.{handed_on}
use Rattle.date.specs.Date.{SPAN_LAST}
use Rattle.calendar.specs.declared.Convention.{Convention}
use Rattle.calendar.specs.Open.{closed_ok}
use Rattle.calendar.specs.Adjust.{adjusted}
use Rattle.steps.specs.declared.Sure.{Sure}
use Rattle.steps.specs.Inner.Sure.{Surely}
use Rattle.steps.specs.Candidates as steps
use Rattle.steps.specs.Candidates.{candidate, is_past, unless_same, unless_past, turn_of}
use Rattle.steps.specs.Generate.{Lists, Walk, newest, put, on_turn, last_try, walk}
use Rattle.working.specs.declared.candidates.Turn.{Turn}
use Rattle.working.specs.declared.candidates.Turn.TheVariants.{Past, Skip, Keep, Stop}
use Rattle.working.specs.declared.walks.Walked.{Walked}
use Rattle.working.specs.declared.Begin.{Begin}
use Rattle.working.specs.declared.Tip.{Tip}
use Rattle.working.specs.Step.{Gives, seen, gives, refuses, gives_as, gives_less, was_kept}
use Rattle.working.specs.declared.Course.{Course}
use Rattle.working.specs.declared.candidates.Known.{Known}
use Rattle.working.specs.Part.{Work, Part, Begun, held, last_put, last_day, place_of, Filling, Fills, begun}
use Rattle.working.specs.Paying.{Paid}
use Rattle.working.specs.Turning.{Front, Knows, told, Learnt, Compared, Begins, Sized, Starts, Started, turn_on, Looped, Walking}
use Rattle.working.specs.Held.{newest_read, put_is_newest, put_dates, put_counts}
use Rattle.working.proofs.Puts.{paid_none, paid_more, newest_first}

-- what is left to do from the k-th candidate on comes to the outcome o
pub record Going (course : Course) (mask : ℕ) (closed : List ℕ) (convention : Convention) (room start : ℕ) (o : Answer Walk) (w : Work) (paid : List ℕ) (n k : ℕ) (known : Known) : Type 0 where
  pub begun : Begun closed room n w
  pub at : known.newest ≡ newest (held course.back n w)
  pub knows : Knows mask closed convention known
  pub pays : Paid (adjusted mask closed convention) course.back start n w.days paid
  pub same : walk (turn_on course mask closed convention) room (suc SPAN_LAST - k) k (held course.back n w) ≡ o

-- ---- what is known before the first candidate
-- what the newest date adjusts to
module _ (mask : ℕ) (closed : List ℕ) (convention : Convention) (day : ℕ) where
  pub front_sure : (sure : Sure) → Surely (adjusted mask closed convention) sure → day ≡ sure.day → Front mask closed convention sure.paid day
  front_sure sure s e = record { known = λ h. ap (adjusted mask closed convention) e ∙ s.so h }

  pub front_none : Front mask closed convention 0 day
  front_none = record { known = λ h. absurd (h refl) }

  pub front_found : (found : Result ℕ Refusal) → answered found ≡ adjusted mask closed convention day → (a : ℕ) → a ≡ result_unwrap_or found 0 → Front mask closed convention a day
  front_found (Ok a) f b e = record { known = λ h. sym f ∙ ap given (sym e) }
  front_found (Err k) f b e = record { known = λ h. absurd (h e) }

-- of n dates the newest is paid, and so are those from it on
module _ (A : ℕ → Answer ℕ) (back : Bool) {n : ℕ} {days paid : List ℕ} (s : Sized n days paid) where
  pub none_paid : Paid A back n n days paid
  none_paid = paid_none A back n days paid s.paid_size

  pub newest_paid : {start last : ℕ} → Paid A back start last days paid → n ≡ last + 1 → (day : ℕ) → (length days ≡ 4096 → n < 4097 → day ≡ last_day back n days) → (b : ℕ) → A day ≡ given b → (paid' : List ℕ) → (length paid ≡ 4096 → last < 4096 → paid' ≡ set paid (place_of back last) b) → Paid A back start n days paid'
  newest_paid {start} {last} p more day at b known paid' set_so =
      let most = s.most in
      let is : day ≡ last_day back n days = at s.size (omega arith) in
      let before : n - 1 ≡ last = omega arith in
      let put : last_put back n days ≡ day ∷ last_put back last days =
      rw (← before) (rw (← is) at (newest_first back days n s.size (omega arith) most)) in
      paid_more A back day b s.size (omega arith) p more known put (set_so s.paid_size (omega arith))

  pub newest_sure : (sure : Sure) → Surely A sure → (sure.paid ≡ 0 → ⊥) → (n ≡ 0 → ⊥) → (day : ℕ) → (length days ≡ 4096 → n < 4097 → day ≡ last_day back n days) → day ≡ sure.day → (paid' : List ℕ) → (length paid ≡ 4096 → n - 1 < 4096 → paid' ≡ set paid (place_of back (n - 1)) sure.paid) → Paid A back (n - 1) n days paid'
  newest_sure sure known is_Known some day at same paid' set_so =
      newest_paid (paid_none A back (n - 1) days paid s.paid_size) (omega arith) day at sure.paid (ap A same ∙ known.so is_Known) paid' set_so

module _ (mask : ℕ) (closed : List ℕ) (convention : Convention) (back : Bool) (begin : Begin) (days paid : List ℕ) (s : Starts (adjusted mask closed convention) begin days paid) (day : ℕ) (at : length days ≡ 4096 → begin.n < 4097 → day ≡ last_day back begin.n days) (front : ℕ) (f : Front mask closed convention front day) where
  here : Front mask closed convention front (last_day back begin.n days)
  here = let most = s.sized.most in let is : day ≡ last_day back begin.n days = at s.sized.size (omega arith) in rw (← is) f

  pub first_unknown : Started mask closed convention back begin.n days paid (record { n = begin.n; start = begin.n; front = front })
  first_unknown = record { front = here; pays = none_paid _ back s.sized }

  pub first_known : (front ≡ 0 → ⊥) → (last start : ℕ) → last ≡ begin.n - 1 → (paid₁ : List ℕ) → ((A : ℕ → Answer ℕ) → Surely A begin.sure → Sized last days paid → Paid A back start last days paid₁) → (paid' : List ℕ) → (length paid₁ ≡ 4096 → last < 4096 → paid' ≡ set paid₁ (place_of back last) front) → Started mask closed convention back begin.n days paid' (record { n = begin.n; start = start; front = front })
  first_known known last start before paid₁ sure-so paid' set_so =
      let z = s.sized in
      let some = s.some in
      let p = sure-so (adjusted mask closed convention) s.sure (record { most = omega (arith, z); size = z.size; paid_size = z.paid_size }) in
      record {
        front = here;
        pays = newest_paid _ back (record { most = z.most; size = z.size; paid_size = p.size }) p (omega arith) day at front (f.known known) paid' set_so;
      }

pub going_start : (course : Course) (mask : ℕ) (closed : List ℕ) (convention : Convention) (room n : ℕ) (w : Work) (paid : List ℕ) (tip : Tip) (day : ℕ) → (length w.days ≡ 4096 → n < 4097 → day ≡ last_day course.back n w.days) → Begun closed room n w → Started mask closed convention course.back n w.days paid tip → Going course mask closed convention room tip.start (walk (turn_on course mask closed convention) room last_try 1 (held course.back n w)) w paid n 1 (record { newest = day; front = tip.front; near = record { place = 0; from = 1; to = 0 } })
unfolding last_try
going_start course mask closed convention room n w paid tip day at b s =
    let t = b.part in
    let is : day ≡ last_day course.back n w.days = at t.work_size (omega (arith, t)) in
    record {
      begun = b;
      at = newest_read course.back day t at;
      knows = record { front = rw is s.front; month = record { alike = λ a b l m h. let bad : ⊥ = omega arith in absurd bad } };
      pays = s.pays;
      same = refl;
    }

module _ {course : Course} {mask : ℕ} {closed : List ℕ} {convention : Convention} {room start : ℕ} {o : Answer Walk} {w : Work} {paid : List ℕ} {n k : ℕ} {known : Known} (g : Going course mask closed convention room start o w paid n k known) where
  -- the candidates have been looked at
  pub walk_out : SPAN_LAST < k → Walking mask closed convention course.back room o (Err Book) w paid
  unfolding walk
  walk_out h =
      let a : suc SPAN_LAST - k ≡ 0 = omega arith in
      let s : refused BOOK ≡ o = rw a at g.same in
      refuses 2 s

  -- a refusal that was handed on
  stopped : (w' : Work) (paid' : List ℕ) (m : Refusal) → refused (number_of m) ≡ o → (r : Result Walked Refusal) → IsErr r × IsErrAnd r (λ k. k ≡ m) → Walking mask closed convention course.back room o r w' paid'
  stopped w' paid' m e r h = rw (handed_on r m h) (refuses (number_of m) e)

  module _ (few : k ≤ SPAN_LAST) (r : Turn) (turned : closed_ok closed ≡ true → Knows mask closed convention known → Compared mask closed convention known.newest (turn_on course mask closed convention known.newest k) r) where
    t : Compared mask closed convention known.newest (turn_on course mask closed convention known.newest k) r
    t = turned g.begun.calendar g.knows

    opened : then (told r) (λ t. on_turn room t k (held course.back n w) (walk (turn_on course mask closed convention) room (suc SPAN_LAST - suc k) (suc k))) ≡ o
    unfolding walk
    opened =
        let a : suc SPAN_LAST - k ≡ suc (suc SPAN_LAST - suc k) = omega arith in
        let s = rw (a, ← g.at) at g.same in
        rw t.says s

    pub walk_stop : (m : Refusal) → r ≡ Stop m → Walking mask closed convention course.back room o (Err m) w paid
    unfolding told then
    walk_stop m e = refuses (number_of m) (rw e at opened)

    pub walk_past : r ≡ Past → Walking mask closed convention course.back room o (Ok (record { tip = record { n = n; start = start; front = known.front }; tries = k })) w paid
    unfolding told then on_turn
    walk_past e =
        gives (record { tip = record { n = n; start = start; front = known.front }; tries = k }) (rw e at opened)
        (record { ahead = record { begun = g.begun; front = rw g.at at g.knows.front }; pays = g.pays })

    pub walk_skip : (next : Known) → r ≡ Skip next → Going course mask closed convention room start o w paid n (k + 1) next
    unfolding told then on_turn Learnt
    walk_skip next e =
        let l : Learnt mask closed convention known.newest r = t.learnt in
        let q : Knows mask closed convention next × (next.newest ≡ known.newest) = rw e at l in
        record { begun = g.begun; at = q.1 ∙ g.at; knows = q.0; pays = g.pays; same = rw (add-one k) (rw e at opened) }

    module _ (next : Known) (e : r ≡ Keep next) (f : Result ℕ Refusal) (w' : Work) (filled-so : Fills (Part room) course.back room (put room next.newest 1) n w f w') where
      p : Filling course.back room (put room next.newest 1 (held course.back n w)) f w'
      p = filled-so.run g.begun.part

      kept : then (seen (λ (m : ℕ). held course.back m w') (answered f)) (walk (turn_on course mask closed convention) room (suc SPAN_LAST - suc k) (suc k)) ≡ o
      unfolding told then on_turn
      kept = rw p.says (rw e at opened)

      pub walk_full : (m : Refusal) → f ≡ Err m → (paid' : List ℕ) (r' : Result Walked Refusal) → IsErr r' × IsErrAnd r' (λ j. j ≡ m) → Walking mask closed convention course.back room o r' w' paid'
      unfolding seen then
      walk_full m q paid' r' h = stopped w' paid' m (rw q at kept) r' h

      put_newest : (m : ℕ) → f ≡ Ok m → newest (held course.back m w') ≡ next.newest
      unfolding seen
      put_newest m q = put_is_newest room next.newest 1 (held course.back n w) (held course.back m w') (rw q at p.says)

      counted : (m : ℕ) → f ≡ Ok m → m ≡ n + 1
      unfolding seen
      counted m q = put_counts course.back g.begun.part (was_kept p m (rw q)).part next.newest 1 (rw q at p.says)

      put_days : (m : ℕ) → f ≡ Ok m → last_put course.back m w'.days ≡ next.newest ∷ last_put course.back n w.days
      unfolding seen held
      put_days m q = put_dates room next.newest 1 (held course.back n w) (held course.back m w') (rw q at p.says)

      pub walk_keep : (m : ℕ) → f ≡ Ok m → (paid' : List ℕ) → (length paid ≡ 4096 → n < 4096 → paid' ≡ set paid (place_of course.back n) next.front) → Going course mask closed convention room start o w' paid' m (k + 1) next
      unfolding seen then Learnt
      walk_keep m q paid' set_so =
          let l : Learnt mask closed convention known.newest r = t.learnt in
          let z : Knows mask closed convention next × (adjusted mask closed convention next.newest ≡ given next.front) = rw e at l in
          let h : answered f ≡ given m = rw q in
          let part = (was_kept p m h).part in
          let few : n < 4096 = omega (arith, counted m q, part) in
          record {
            begun = begun g.begun.calendar (was_kept p m h);
            at = sym (put_newest m q);
            knows = z.0;
            pays =
                paid_more (adjusted mask closed convention) course.back next.newest next.front g.begun.part.work_size few g.pays (counted m q) z.1 (put_days m q) (set_so g.pays.size few);
            same = rw (add-one k) (rw q at kept);
          }

-- ---- two conventions that adjust every day alike walk alike
-- the promise of the loop, of an answer
abbrev Ends : (mask : ℕ) (closed : List ℕ) (convention : Convention) (back : Bool) (room : ℕ) (o : Answer Walk) (r : Answer Walked) (w : Work) (paid : List ℕ) → Type 0
Ends mask closed convention back room o r w paid =
    Gives (λ t. record { lists = held back t.tip.n w; tries = t.tries }) (λ t. Looped mask closed convention back room w paid t.tip) o r

module _ (mask : ℕ) (closed : List ℕ) (a b : Convention) (e : adjusted mask closed a ≡ adjusted mask closed b) where
  past_alike : (t : Bool) (last day : ℕ) → unless_past t mask closed a last day ≡ unless_past t mask closed b last day
  unfolding unless_past
  past_alike true last day = refl
  past_alike false last day =
      ap (λ (f : ℕ → Answer ℕ). then (f last) (λ x. then (f day) (λ y. given (unless_same (eqb x y) day)))) e

  turn_alike : (course : Course) → turn_on course mask closed a ≡ turn_on course mask closed b
  unfolding turn_of
  turn_alike course =
      λ i last k. then (candidate course.back course.pace course.seed k) (λ day. past_alike (is_past course.back course.exit day) last day i)

  looped_alike : (back : Bool) (room : ℕ) (w : Work) (paid : List ℕ) (tip : Tip) → Looped mask closed a back room w paid tip → Looped mask closed b back room w paid tip
  looped_alike back room w paid tip s =
      record {
        ahead =
            record {
              begun = s.ahead.begun;
              front = record { known = λ h. ap (λ (g : ℕ → Answer ℕ). g (newest (held back tip.n w))) (sym e) ∙ s.ahead.front.known h };
            };
        pays = subst (λ (g : ℕ → Answer ℕ). Paid g back tip.start tip.n w.days paid) e s.pays;
      }

  walk_alike : (course : Course) (room fuel k : ℕ) (l : Lists) (r : Answer Walked) (w : Work) (paid : List ℕ) → Ends mask closed a course.back room (walk (turn_on course mask closed a) room fuel k l) r w paid → Ends mask closed b course.back room (walk (turn_on course mask closed b) room fuel k l) r w paid
  walk_alike course room fuel k l r w paid g =
      gives_as (ap (λ (f : ℕ → ℕ → Answer steps.Turn). walk f room fuel k l) (turn_alike course))
      (gives_less (λ t s. looped_alike course.back room w paid t.tip s) g)

  -- and what a date adjusts to by the one is what it adjusts to by the other
  starts_alike : {room : ℕ} {begin : Begin} {w : Work} {paid : List ℕ} → Begins (adjusted mask closed b) closed room begin w paid → Starts (adjusted mask closed a) begin w.days paid
  starts_alike {begin = begin} s =
      let t = s.begun.part in
      record {
        some = s.begun.some;
        sized = record { most = omega (arith, t); size = t.work_size; paid_size = s.paid_size };
        sure = subst (λ (g : ℕ → Answer ℕ). Surely g begin.sure) (sym e) s.sure;
      }

  pub walk_from : (course : Course) (room fuel k : ℕ) {begin : Begin} {w : Work} {paid : List ℕ} → Begins (adjusted mask closed b) closed room begin w paid → (paid₁ : List ℕ) (tip : Tip) → (closed_ok closed ≡ true → Starts (adjusted mask closed a) begin w.days paid → Started mask closed a course.back begin.n w.days paid₁ tip) → (r : Answer Walked) (w' : Work) (paid' : List ℕ) → (Begun closed room begin.n w → Started mask closed a course.back begin.n w.days paid₁ tip → Ends mask closed a course.back room (walk (turn_on course mask closed a) room fuel k (held course.back begin.n w)) r w' paid') → Ends mask closed b course.back room (walk (turn_on course mask closed b) room fuel k (held course.back begin.n w)) r w' paid'
  walk_from course room fuel k s paid₁ tip started r w' paid' g =
      walk_alike course room fuel k _ r w' paid' (g s.begun (started s.begun.calendar (starts_alike s)))

-- ---- lists that do not have their places
pub unlent : (dates paid marks : ℕ) (whole : Bool) → whole ≡ (eqb dates 4096 && (eqb paid 4096 && eqb marks 4096)) → not whole ≡ true → dates ≡ 4096 → paid ≡ 4096 → marks ≡ 4096 → ⊥
unlent dates paid marks whole e f d p m =
    let all : (eqb dates 4096 && (eqb paid 4096 && eqb marks 4096)) ≡ true = simp (eq-eqb dates 4096 d, eq-eqb paid 4096 p, eq-eqb marks 4096 m) in
    false≢true (sym (ap not (e ∙ all)) ∙ f)
