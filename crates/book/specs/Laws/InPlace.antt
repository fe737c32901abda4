-- Each request's part of the lists, and its answer, are those of its single call on the parts as they were, whatever stands before it and
-- behind it in the book.
-- Assumes nothing.
use Prim.Native.Nat.{ℕ, suc, ◌+◌, ◌-◌, ◌*◌}
use Rattle.std.specs.Prelude.{◌≡◌, List, ◌∷◌, ◌++◌, take, drop}
use Rattle.std.proofs.Math.Path.{refl}
use Rattle.std.proofs.Common.{ap, ◌∙◌, length-append, take_at}
use native.Mathlib.Omega.{arith}
use Rattle.std.proofs.Math.ListN.{length}
use Rattle.refusal.specs.Answer.{Answer}
use Rattle.steps.specs.Build.{over, dates_after, flags_after}
use Rattle.steps.specs.Entries.{Entries, paid_of, unadjusted_after}
use Rattle.book.specs.Book.{call_in, count_of, four_numbers, Lists, on_part, turned, on_call, booked}
use Rattle.book.specs.Places.{takes}
use Rattle.book.specs.Laws.Counts.{count_fits}
use Rattle.book.specs.Laws.Within.{Within, part_stays}
use Rattle.book.specs.Laws.Turns.{four, Apart, Long, long_less, turn_apart, long_on, takes_fit, booked_apart}
use Rattle.book.specs.Laws.Joined.{joined}

-- request i of outcome o, from its start on
pub record InPlace (i start : ℕ) (o : Answer Entries) (l l' : Lists) : Type 0 where
  pub dates : take (count_of o) (drop start l'.dates) ≡ take (count_of o) (dates_after (paid_of o) (drop start l.dates))
  pub flags : take (count_of o) (drop start l'.flags) ≡ take (count_of o) (flags_after (paid_of o) (drop start l.flags))
  pub unadjusted : take (count_of o) (drop start l'.unadjusted) ≡ take (count_of o) (unadjusted_after o (drop start l.unadjusted))
  pub answers : take 4 (drop (4 * i) l'.answers) ≡ four_numbers start o

four_over : (start : ℕ) (o : Answer Entries) (old : List ℕ) → take 4 (over (four_numbers start o) old) ≡ four_numbers start o
unfolding over
four_over start o old = take_at (four_numbers start o) _ 4 (four start o)

nothing_more : (n : ℕ) → 0 + n ≡ n
nothing_more n = omega arith

nothing_less : (n : ℕ) → n - 0 ≡ n
nothing_less n = omega arith

module _ (a : List (List ℕ)) (r : List ℕ) (b : List (List ℕ)) (l : Lists) (p : Long 0 (length (a ++ (r ∷ b))) l) where
  size : length (a ++ (r ∷ b)) ≡ length a + suc (length b)
  size = length-append a (r ∷ b)

  -- the requests before it
  before_it : Apart 0 (takes a (length l.dates)) 0 (length a) l (booked a 0 0 l)
  before_it =
      let s = size in
      let q : Long 0 (0 + length a) l = long_less (omega (arith, s)) p in
      rw (nothing_more (takes a (length l.dates - 0)), nothing_more (length a), nothing_less (length l.dates)) at (booked_apart a 0 0 l q)

  -- its own turn
  here : Long (takes a (length l.dates)) (suc (length a)) (booked a 0 0 l)
  here = let s = size in long_on before_it (long_less (omega (arith, s)) p) (takes_fit a (length l.dates))

  left : length (booked a 0 0 l).dates - takes a (length l.dates) ≡ length l.dates - takes a (length l.dates)
  left = ap (λ (n : ℕ). n - takes a (length l.dates)) before_it.dates.size

  abbrev o : Answer Entries
  o = call_in r (length l.dates - takes a (length l.dates))

  its_turn : Apart (takes a (length l.dates)) (takes a (length l.dates) + count_of o) (length a) (suc (length a)) (booked a 0 0 l) (turned (length a) (takes a (length l.dates)) o (booked a 0 0 l))
  its_turn = rw left at (turn_apart r (length a) (takes a (length l.dates)) (booked a 0 0 l) here)

  in_turn : booked (a ++ (r ∷ b)) 0 0 l ≡ booked b (suc (length a)) (takes a (length l.dates) + count_of o) (turned (length a) (takes a (length l.dates)) o (booked a 0 0 l))
  unfolding booked on_call
  in_turn =
      let s = size in
      let q : Long 0 (0 + length a) l = long_less (omega (arith, s)) p in
      let j = joined a (r ∷ b) 0 0 l q in
      let k : booked (r ∷ b) (length a) (takes a (length l.dates)) (booked a 0 0 l) ≡ booked b (suc (length a)) (takes a (length l.dates) + count_of o) (turned (length a) (takes a (length l.dates)) o (booked a 0 0 l)) = rw left refl in
      (rw (nothing_more (takes a (length l.dates - 0)), nothing_more (length a), nothing_less (length l.dates)) at j) ∙ k

  -- the requests behind it
  behind_it : Apart (takes a (length l.dates) + count_of o) (takes a (length l.dates) + count_of o + takes b (length (turned (length a) (takes a (length l.dates)) o (booked a 0 0 l)).dates - (takes a (length l.dates) + count_of o))) (suc (length a)) (suc (length a) + length b) (turned (length a) (takes a (length l.dates)) o (booked a 0 0 l)) (booked (a ++ (r ∷ b)) 0 0 l)
  behind_it =
      let s = size in
      let c = count_fits r (length l.dates - takes a (length l.dates)) in
      let t = takes_fit a (length l.dates) in
      let z = before_it.dates.size in
      let q : Long (takes a (length l.dates)) (length (a ++ (r ∷ b))) (booked a 0 0 l) = long_on before_it p (takes_fit a (length l.dates)) in
      let u : Long (takes a (length l.dates) + count_of o) (length (a ++ (r ∷ b))) (turned (length a) (takes a (length l.dates)) o (booked a 0 0 l)) = long_on its_turn q (omega (arith, c, t, z)) in
      rw in_turn (booked_apart b (suc (length a)) (takes a (length l.dates) + count_of o) (turned (length a) (takes a (length l.dates)) o (booked a 0 0 l)) (long_less (omega (arith, s)) u))

  pub in_place : InPlace (length a) (takes a (length l.dates)) o l (booked (a ++ (r ∷ b)) 0 0 l)
  unfolding turned
  in_place =
      let s = size in
      let t = takes_fit a (length l.dates) in
      let f = p.flags in
      let u = p.unadjusted in
      let n = p.places in
      let k : 4 * suc (length a) ≡ 4 * length a + 4 = omega arith in
      let w : Within (4 * length a + 4) (4 * (suc (length a) + length b)) (on_part (4 * length a) (over (four_numbers (takes a (length l.dates)) o)) (booked a 0 0 l).answers) (booked (a ++ (r ∷ b)) 0 0 l).answers = rw k at behind_it.answers in
      record {
        dates = part_stays (count_of o) (dates_after (paid_of o)) t before_it.dates behind_it.dates;
        flags = part_stays (count_of o) (flags_after (paid_of o)) (omega (arith, t, f)) before_it.flags behind_it.flags;
        unadjusted = part_stays (count_of o) (unadjusted_after o) (omega (arith, t, u)) before_it.unadjusted behind_it.unadjusted;
        answers = part_stays 4 (over (four_numbers (takes a (length l.dates)) o)) (omega (arith, n, s)) before_it.answers w ∙ four_over (takes a (length l.dates)) o (drop (4 * length a) l.answers);
      }
