-- A book of one request is the single call, and the book `a ++ b` is the book `a` and then the book `b` in what is left.
-- Assumes nothing.
use Rattle.std.specs.Prelude.{ℕ, suc, ◌+◌, ◌-◌, ◌≤◌, min, ◌≡◌, refl, List, [], ◌∷◌, ◌++◌, length}
use Rattle.std.proofs.Common.{ap, sym, ◌∙◌, arith}
use Rattle.steps.specs.Build.{over, dates_after, flags_after}
use Rattle.steps.specs.Entries.{paid_of, unadjusted_after}
use Rattle.book.specs.Book.{call_in, count_of, four_numbers, Lists, lists, on_part, turned, on_call, booked}
use Rattle.book.specs.Places.{then_takes, takes}
use Rattle.book.specs.Laws.Counts.{count_fits}
use Rattle.book.specs.Laws.Turns.{Long, long_less, turn_apart, long_on}

pub one_request : (r : List ℕ) (dates flags unadjusted answers : List ℕ) → booked (r ∷ []) 0 0 (lists dates flags unadjusted answers) ≡ lists (dates_after (paid_of (call_in r (length dates))) dates) (flags_after (paid_of (call_in r (length dates))) flags) (unadjusted_after (call_in r (length dates)) unadjusted) (over (four_numbers 0 (call_in r (length dates))) answers)
unfolding booked on_call turned on_part
one_request r dates flags unadjusted answers = let k : length dates - 0 ≡ length dates = omega arith in rw k refl

pub joined : (a b : List (List ℕ)) (i start : ℕ) (l : Lists) → Long start (i + length a) l → booked (a ++ b) i start l ≡ booked b (i + length a) (start + takes a (length l.dates - start)) (booked a i start l)
unfolding booked on_call takes then_takes
joined [] b i start l p =
    let k : i + 0 ≡ i = omega arith in
    let m : start + 0 ≡ start = omega arith in
    rw (k, m) refl
joined (r ∷ a) b i start l p =
    let o = call_in r (length l.dates - start) in
    let l' = turned i start o l in
    let f : count_of o ≤ min (length l.dates - start) 4096 = count_fits r (length l.dates - start) in
    let w = p.within in
    let k : i + length (r ∷ a) ≡ suc i + length a = omega arith in
    let q : Long start (suc i + length a) l = rw k at p in
    let t = turn_apart r i start l (long_less (omega arith) q) in
    let e : count_of o ≤ length l.dates - start = omega (arith, f) in
    let d = t.dates.size in
    let g : length l'.dates - (start + count_of o) ≡ length l.dates - start - count_of o = omega (arith, d) in
    let s : start + count_of o + takes a (length l'.dates - (start + count_of o)) ≡ start + (count_of o + takes a (length l.dates - start - count_of o)) = rw g (omega arith) in
    joined a b (suc i) (start + count_of o) l' (long_on t q (omega (arith, e, w)))
    ∙ ap (λ (x : ℕ). booked b (suc i + length a) x (booked a (suc i) (start + count_of o) l')) s
    ∙ ap (λ (x : ℕ). booked b x (start + (count_of o + takes a (length l.dates - start - count_of o))) (booked a (suc i) (start + count_of o) l')) (sym k)

-- what is taken together
pub takes_joined : (a b : List (List ℕ)) (room : ℕ) → takes (a ++ b) room ≡ takes a room + takes b (room - takes a room)
unfolding takes then_takes
takes_joined [] b room =
    let k : room - 0 ≡ room = omega arith in
    let m : 0 + takes b room ≡ takes b room = omega arith in
    rw (k, m) refl
takes_joined (r ∷ a) b room =
    let c = count_of (call_in r room) in
    let k : room - (c + takes a (room - c)) ≡ room - c - takes a (room - c) = omega arith in
    let h = takes_joined a b (room - c) in
    rw (k, h) (omega arith)
