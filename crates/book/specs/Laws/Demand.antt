-- Demand 3 holds for each request of a book that it speaks of, with the room then left: its list and flags stand in its part, and it is refused
-- exactly if that list exceeds the room, or 4,096.
-- Assumes nothing.
use Rattle.std.specs.Prelude.{ℕ, ◌+◌, ◌-◌, ◌*◌, ◌/◌, ◌≡◌, drop}
use Rattle.std.proofs.Math.Path.{refl, ap, sym}
use Rattle.std.proofs.Common.{◌∙◌, arith, take_at}
use mathlib.Core.List.{List, [], ◌∷◌, ◌++◌}
use Rattle.std.proofs.Math.ListN.{length, take}
use Rattle.std.proofs.Math.Seq.{take-take}
use Rattle.refusal.specs.Answer.{Answer, given, refused, then, ROOM}
use Rattle.refusal.specs.Laws.Answers.{then_given}
use Rattle.steps.specs.declared.Request.{Request}
use Rattle.steps.specs.Build.{Schedule, over, dates_after, flags_after}
use Rattle.steps.specs.Entries.{Entries, entries_of, paid_of, unadjusted_after}
use Rattle.steps.specs.Laws.Entries.{NothingAdjusts, twice}
use Rattle.outcomes.proofs.Uneven.{refused_as_before}
use Rattle.request.specs.Format.{Asked, decoded}
use Rattle.plain.specs.Demand.{Plain, Passes, Owed, Most, TooLong, Flagged, Accepted, tenor_count}
use Rattle.plain.proofs.Laws.Memory.{outcome}
use Rattle.plain.proofs.Laws.Proved.{demand_3}
use Rattle.book.specs.Book.{call_of, call_in, count_of, four_numbers, Lists, booked}
use Rattle.book.specs.Places.{takes}
use Rattle.book.specs.Laws.Turns.{flags_in, Counted, call_counted, Long}
use Rattle.book.specs.Laws.InPlace.{InPlace, in_place}

-- the list ds in a request's part of the lists, with its flags, and what goes out for it
pub record WrittenIn (q : Request) (i start : ℕ) (ds : List ℕ) (m : ℕ) (l' : Lists) : Type 0 where
  pub answer : take 4 (drop (4 * i) l'.answers) ≡ length ds ∷ start ∷ (1 + m / tenor_count q) ∷ 0 ∷ []
  pub dates : take (length ds) (drop start l'.dates) ≡ ds
  pub unadjusted : take (length ds) (drop start l'.unadjusted) ≡ ds
  pub its_flags : List ℕ
  pub flagged : Flagged q ds its_flags
  pub flags : take (length its_flags) (drop start l'.flags) ≡ its_flags

pub record KeptIn (q : Request) (i start room : ℕ) (ds : List ℕ) (m : ℕ) (l' : Lists) : Type 0 where
  pub refused_if : TooLong room ds → take 4 (drop (4 * i) l'.answers) ≡ 0 ∷ 0 ∷ 0 ∷ ROOM ∷ []
  pub written_else : (TooLong room ds → ⊥) → WrittenIn q i start ds m l'

take_over : (new old : List ℕ) → take (length new) (over new old) ≡ new
unfolding over
take_over new old = take_at new _ (length new) refl

-- a call of a request that was read
call_is : (r : List ℕ) (x : Asked) (room : ℕ) → decoded r 4096 ≡ given x → call_in r room ≡ entries_of x.request x.closed room room room
unfolding call_of
call_is r x room e = sym (then_given (decoded r 4096) x _ _ e refl)

module _ (q : Request) (i start room : ℕ) (ds : List ℕ) (m : ℕ) (o : Answer Entries) (l l' : Lists) (p : InPlace i start o l l') where
  too_long : o ≡ refused ROOM → take 4 (drop (4 * i) l'.answers) ≡ 0 ∷ 0 ∷ 0 ∷ ROOM ∷ []
  unfolding four_numbers
  too_long e = p.answers ∙ ap (four_numbers start) e

  written : (s : Schedule) → o ≡ twice s → Counted o → Accepted q ds m s → WrittenIn q i start ds m l'
  unfolding four_numbers count_of flags_in dates_after flags_after unadjusted_after paid_of then
  written s e c t =
      let n : count_of o ≡ length s.dates = ap count_of e in
      let d = p.dates in
      let f = p.flags in
      let u = p.unadjusted in
      let k : length s.flags ≡ count_of o - 1 = sym (ap (λ (x : Answer Entries). length (flags_in x)) e) ∙ c.flags in
      let a : take (length s.dates) (drop start l'.dates) ≡ s.dates = ap (λ (x : ℕ). take x (drop start l'.dates)) (sym n) ∙ d ∙ (rw e (take_over s.dates (drop start l.dates))) in
      let b : take (length s.dates) (drop start l'.unadjusted) ≡ s.dates = ap (λ (x : ℕ). take x (drop start l'.unadjusted)) (sym n) ∙ u ∙ (rw e (take_over s.dates (drop start l.unadjusted))) in
      let g : take (count_of o) (drop start l'.flags) ≡ take (count_of o) (over s.flags (drop start l.flags)) = f ∙ ap (λ (x : Answer Entries). take (count_of o) (flags_after (paid_of x) (drop start l.flags))) e in
      let j : take (length s.flags) (drop start l'.flags) ≡ s.flags =
      sym (take-take (length s.flags) (count_of o) (drop start l'.flags) (omega (arith, k))) ∙ ap (take (length s.flags)) g ∙ take-take (length s.flags) (count_of o) (over s.flags (drop start l.flags)) (omega (arith, k)) ∙ take_over s.flags (drop start l.flags) in
      record {
        answer = p.answers ∙ ap (four_numbers start) e ∙ (λ z. length (t.dates z) ∷ start ∷ t.tries z ∷ 0 ∷ []);
        dates = ap (λ (x : List ℕ). take (length x) (drop start l'.dates)) (sym t.dates) ∙ a ∙ t.dates;
        unadjusted = ap (λ (x : List ℕ). take (length x) (drop start l'.unadjusted)) (sym t.dates) ∙ b ∙ t.dates;
        its_flags = s.flags;
        flagged = t.flags;
        flags = j;
      }

module _ (a : List (List ℕ)) (r : List ℕ) (b : List (List ℕ)) (l : Lists) (p : Long 0 (length (a ++ (r ∷ b))) l) (x : Asked) (e : decoded r 4096 ≡ given x) where
  pub demand_3_in_book : Plain x.request → Passes x.request x.closed (length l.dates - takes a (length l.dates)) (length l.dates - takes a (length l.dates)) → (ds : List ℕ) → Owed x.request ds → (m : ℕ) → Most x.request m → KeptIn x.request (length a) (takes a (length l.dates)) (length l.dates - takes a (length l.dates)) ds m (booked (a ++ (r ∷ b)) 0 0 l)
  unfolding then
  demand_3_in_book plain passes ds owed m most =
      let room = length l.dates - takes a (length l.dates) in
      let k = demand_3 x.request x.closed room room plain passes ds owed m most in
      let c = call_is r x room e in
      let u : NothingAdjusts x.request = record { convention = plain.unadjusted; terminal = plain.unadjusted_last; no_month_end = plain.no_month_end } in
      record {
        refused_if = λ t. too_long x.request (length a) (takes a (length l.dates)) room ds m (call_in r room) l (booked (a ++ (r ∷ b)) 0 0 l) (in_place a r b l p) (c ∙ (refused_as_before x.request x.closed room room room refl ROOM).1 (k.refused_exactly.1 t));
        written_else = λ t.
            let s = k.accepted_else t in
            written x.request (length a) (takes a (length l.dates)) room ds m (call_in r room) l (booked (a ++ (r ∷ b)) 0 0 l) (in_place a r b l p) s.0 (c ∙ outcome x.request u x.closed room room room refl (given s.0) s.1) (call_counted r room) s.2;
      }
