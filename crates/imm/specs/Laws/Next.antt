-- The next IMM date is one, is later, and none lies between; so there is only one such answer.
-- Assumes nothing.
use Rattle.std.specs.Prelude.{ℕ, ◌+◌, ◌-◌, ◌*◌, ◌/◌, ◌%◌, ◌≤◌, ◌<◌, ◌≡◌, refl, Bool, true, false, ◌||◌, eqb, ltb}
use Rattle.std.proofs.Common.{ap, sym, ◌∙◌, arith, le_antisymm, ltb-true, ltb-false, eqb-true}
use Rattle.std.proofs.lemmas.Bool.{eqb-false}
use Rattle.refusal.specs.Answer.{Answer, given, BOOK}
use Rattle.refusal.specs.Laws.Answers.{holds, then_given}
use Rattle.date.specs.Civil.{fields_of}
use Rattle.date.specs.Date.{in_book, month_index}
use Rattle.date.specs.Laws.Round.{fields_valid}
use Rattle.date.specs.Laws.Moves.{book_from}
use Rattle.imm.specs.Imm.{main_month, in_cycle, is_imm_date, third_of, or_else, cycle_from, stride, next_from, next_of, next_in}
use Rattle.imm.specs.Laws.Order.{then_gives, later_month, month_le, book_years}
use Rattle.imm.specs.Laws.Third.{imm_parts, third, third_valid, third_fields, third_imm, imm_third, third_given, third_is}

-- ---- IMM dates by the count of their month, 12 * year + month - 1
unfoldable pub imm_date : ℕ → ℕ
imm_date t = third (t / 12) (t % 12 + 1)

pub later_date : (t u : ℕ) → 12 ≤ t → t < u → imm_date t < imm_date u
unfolding imm_date third
later_date t u a h =
    later_month (t / 12) (t % 12 + 1) _ (u / 12) (u % 12 + 1) _
    (third_valid (t / 12) (t % 12 + 1) (omega arith) (omega arith) (omega arith))
    (third_valid (u / 12) (u % 12 + 1) (omega arith) (omega arith) (omega arith))
    (omega arith)

pub index_of_date : (t : ℕ) → 12 ≤ t → month_index (imm_date t) ≡ t
unfolding imm_date month_index
index_of_date t a = rw (third_fields (t / 12) (t % 12 + 1) (omega arith) (omega arith) (omega arith)) (omega arith)

-- month t, from 0, is one of the cycle
unfoldable pub CycleAt : Bool → ℕ → Type 0
CycleAt main t = in_cycle main (t % 12 + 1) ≡ true

pub date_is_imm : (main : Bool) (t : ℕ) → 12 ≤ t → CycleAt main t → is_imm_date main (imm_date t) ≡ true
unfolding imm_date CycleAt
date_is_imm main t a h = third_imm main (t / 12) (t % 12 + 1) (omega arith) (omega arith) (omega arith) h

index_parts : (n : ℕ) → (month_index n / 12 ≡ (fields_of n).year) × (month_index n % 12 + 1 ≡ (fields_of n).month) × (12 ≤ month_index n)
unfolding month_index
index_parts n = let v = fields_valid n in (omega arith, omega arith, omega arith)

pub index_from : (n : ℕ) → 12 ≤ month_index n
index_from n = (index_parts n).2

pub imm_is_date : (main : Bool) (n : ℕ) → is_imm_date main n ≡ true → n ≡ imm_date (month_index n)
unfolding imm_date
imm_is_date main n h = rw ((index_parts n).0, (index_parts n).1) (imm_third main n h)

pub imm_cycle : (main : Bool) (n : ℕ) → is_imm_date main n ≡ true → CycleAt main (month_index n)
unfolding CycleAt
imm_cycle main n h = rw (index_parts n).1 (imm_parts main n h).cycle

-- ---- what `third_of` answers
pub of_given : (t : ℕ) → 21600 ≤ t → t ≤ 28799 → given (imm_date t) ≡ third_of t
unfolding imm_date third_of
of_given t a b = third_given (t / 12) (t % 12 + 1) (omega arith) (omega arith) (omega arith) (omega arith)

pub of_is : (t d : ℕ) → third_of t ≡ given d → (d ≡ imm_date t) × (12 ≤ t)
unfolding imm_date third_of
of_is t d h = let p = third_is (t / 12) (t % 12 + 1) d h in (p.day, omega (arith, p.from_1800))

-- ---- months of the main cycle are those whose number three divides
or_cases : (P : Type 0) (a b : Bool) → (a || b) ≡ true → (a ≡ true → P) → (b ≡ true → P) → P
or_cases P true b e f g = f refl
or_cases P false b e f g = g e

main_divides : (m : ℕ) → main_month m ≡ true → m % 3 ≡ 0
unfolding main_month
main_divides m h =
    or_cases _ (eqb m 3 || eqb m 6 || eqb m 9) (eqb m 12) h
    (λ p. or_cases _ (eqb m 3 || eqb m 6) (eqb m 9) p
    (λ q. or_cases _ (eqb m 3) (eqb m 6) q (λ e. omega (arith, eqb-true m 3 e)) (λ e. omega (arith, eqb-true m 6 e)))
    (λ e. omega (arith, eqb-true m 9 e)))
    (λ e. omega (arith, eqb-true m 12 e))

main_go : (m : ℕ) (a b c d : Bool) → eqb m 3 ≡ a → eqb m 6 ≡ b → eqb m 9 ≡ c → eqb m 12 ≡ d → 1 ≤ m → m ≤ 12 → m % 3 ≡ 0 → (a || b || c || d) ≡ true
main_go m true b c d p q r s x y z = refl
main_go m false true c d p q r s x y z = refl
main_go m false false true d p q r s x y z = refl
main_go m false false false true p q r s x y z = refl
main_go m false false false false p q r s x y z =
    let i = eqb-false m 3 p in
    let j = eqb-false m 6 q in
    let k = eqb-false m 9 r in
    let l = eqb-false m 12 s in
    let bad : ⊥ = omega arith in
    absurd bad

divides_main : (m : ℕ) → 1 ≤ m → m ≤ 12 → m % 3 ≡ 0 → main_month m ≡ true
unfolding main_month
divides_main m a b h = main_go m (eqb m 3) (eqb m 6) (eqb m 9) (eqb m 12) refl refl refl refl a b h

cycle_rest : (t : ℕ) → CycleAt true t → t % 3 ≡ 2
unfolding CycleAt in_cycle
cycle_rest t h = omega (arith, main_divides (t % 12 + 1) h)

rest_cycle : (t : ℕ) → t % 3 ≡ 2 → CycleAt true t
unfolding CycleAt in_cycle
rest_cycle t h = divides_main (t % 12 + 1) (omega arith) (omega arith) (omega arith)

-- month u is the cycle's first from month t on, and month v the first after it
record Coming (main : Bool) (t u v : ℕ) : Type 0 where
  from : t ≤ u
  cycle : CycleAt main u
  least : (k : ℕ) → CycleAt main k → t ≤ k → u ≤ k
  later : u < v
  cycle_later : CycleAt main v
  least_later : (k : ℕ) → CycleAt main k → u < k → v ≤ k

coming : (main : Bool) (t : ℕ) → Coming main t (cycle_from main t) (cycle_from main t + stride main)
unfolding cycle_from stride CycleAt in_cycle
coming false t =
    record { from = omega arith; cycle = refl; least = λ k e h. h; later = omega arith; cycle_later = refl; least_later = λ k e h. omega arith }
coming true t =
    record {
      from = omega arith;
      cycle = rest_cycle (t + (2 - t % 3)) (omega arith);
      least = λ k e h. omega (arith, cycle_rest k e);
      later = omega arith;
      cycle_later = rest_cycle (t + (2 - t % 3) + 3) (omega arith);
      least_later = λ k e h. omega (arith, cycle_rest k e);
    }

-- ---- the meaning of `next_of`
pub record Next (main : Bool) (n d : ℕ) : Type 0 where
  pub imm : is_imm_date main d ≡ true
  pub later : n < d
  pub least : (e : ℕ) → is_imm_date main e ≡ true → n < e → d ≤ e

pub one_next : (main : Bool) (n d d' : ℕ) → Next main n d → Next main n d' → d ≡ d'
one_next main n d d' p q = le_antisymm (p.least d' q.imm q.later) (q.least d p.imm p.later)

-- IMM dates follow the order of their months
date_le_go : (t u : ℕ) (b : Bool) → ltb t u ≡ b → 12 ≤ t → t ≤ u → imm_date t ≤ imm_date u
date_le_go t u true e a h = omega (arith, later_date t u a (ltb-true t u e))
date_le_go t u false e a h = let q : t ≡ u = omega (arith, ltb-false t u e) in rw q (omega arith)

date_le : (t u : ℕ) → 12 ≤ t → t ≤ u → imm_date t ≤ imm_date u
date_le t u a h = date_le_go t u (ltb t u) refl a h

module _ (main : Bool) (n t u v : ℕ) (p : 1 ≤ n) (at : month_index n ≡ t) (g : Coming main t u v) where
  from_12 : 12 ≤ u
  from_12 = omega (arith, index_from n, g.from)

  -- an IMM date after day n is in month u or later
  not_before : (e : ℕ) → is_imm_date main e ≡ true → n < e → u ≤ month_index e
  not_before e i h = g.least (month_index e) (imm_cycle main e i) (omega (arith, month_le n e p (omega arith)))

  next_coming : n < imm_date u → Next main n (imm_date u)
  next_coming h =
      record {
        imm = date_is_imm main u from_12 g.cycle;
        later = h;
        least = λ e i l. rw (imm_is_date main e i) (date_le u (month_index e) from_12 (not_before e i l));
      }

  -- an IMM date after the one of month u is in month v or later
  not_in_u : imm_date u ≤ n → (e : ℕ) → is_imm_date main e ≡ true → n < e → u < month_index e
  not_in_u h e i l =
      let q = not_before e i l in
      let x = imm_is_date main e i in
      let no : ¬ (month_index e ≡ u) = λ z. omega (arith, x ∙ ap imm_date z) in
      omega arith

  next_later : imm_date u ≤ n → Next main n (imm_date v)
  next_later h =
      record {
        imm = date_is_imm main v (omega (arith, from_12, g.later)) g.cycle_later;
        later = after_n;
        least = λ e i l.
            rw (imm_is_date main e i)
            (date_le v (month_index e) (omega (arith, from_12, g.later)) (g.least_later (month_index e) (imm_cycle main e i) (not_in_u h e i l)));
      }
    where
      after_n : n < imm_date v
      after_n =
          let no : ¬ (imm_date v ≤ n) = λ l.
          omega (arith, month_le (imm_date v) n (omega (arith, later_date u v from_12 g.later)) l, index_of_date v (omega (arith, from_12, g.later)), g.later, g.from) in
          omega arith

next_go : (main : Bool) (n d f : ℕ) (b : Bool) → 1 ≤ n → ltb n f ≡ b → third_of (cycle_from main (month_index n)) ≡ given f → or_else b f (third_of (cycle_from main (month_index n) + stride main)) ≡ given d → Next main n d
unfolding or_else
next_go main n d f true p e h k =
    let q : f ≡ d = cc in
    let x = (of_is (cycle_from main (month_index n)) f h).0 in
    rw (← q, x) (next_coming main n (month_index n) (cycle_from main (month_index n)) _ p refl (coming main (month_index n)) (rw x at (ltb-true n f e)))
next_go main n d f false p e h k =
    let x = (of_is (cycle_from main (month_index n)) f h).0 in
    let y = (of_is (cycle_from main (month_index n) + stride main) d k).0 in
    rw y (next_later main n (month_index n) (cycle_from main (month_index n)) _ p refl (coming main (month_index n)) (rw x at (ltb-false n f e)))

pub next_is : (main : Bool) (n d : ℕ) → 1 ≤ n → next_of main n ≡ given d → Next main n d
unfolding next_of next_from
next_is main n d p h =
    let q = then_gives (third_of (cycle_from main (month_index n))) _ d h in
    next_go main n d q.0 (ltb n q.0) p refl q.1.0 q.1.1

-- ---- from 1800 to 2398 there is an answer
cycle_near : (main : Bool) (t : ℕ) → (t ≤ cycle_from main t) × (cycle_from main t + stride main ≤ t + 5)
unfolding cycle_from stride
cycle_near false t = (omega arith, omega arith)
cycle_near true t = (omega arith, omega arith)

-- a choice between two answers that are there is there
pub or_given : (b : Bool) (d e : ℕ) (a : Answer ℕ) → given e ≡ a → (x : ℕ) × (or_else b d a ≡ given x)
unfolding or_else
or_given true d e a h = (d, refl)
or_given false d e a h = (e, sym h)

pub next_given : (main : Bool) (n : ℕ) → 1800 ≤ (fields_of n).year → (fields_of n).year ≤ 2398 → (d : ℕ) × (next_of main n ≡ given d)
unfolding next_of next_from month_index
next_given main n a b =
    let t = 12 * (fields_of n).year + (fields_of n).month - 1 in
    let v = fields_valid n in
    let near = cycle_near main t in
    let u = cycle_from main t in
    let first = of_given u (omega arith) (omega arith) in
    let g = or_given (ltb n (imm_date u)) (imm_date u) _ _ (of_given (u + stride main) (omega arith) (omega arith)) in
    (g.0, sym (then_given (third_of u) (imm_date u) _ _ (sym first) (sym g.1)))

-- so next_date refuses no date of the book
pub book_next : (main : Bool) (n : ℕ) → in_book n ≡ true → (d : ℕ) × ((next_in main n ≡ given d) × Next main n d)
unfolding next_in
book_next main n h =
    let y = book_years n h in
    let g = next_given main n (omega arith) (omega arith) in
    (g.0, (sym (holds BOOK (in_book n) _ _ h (sym g.1)), next_is main n g.0 (omega (arith, book_from n h)) g.1))
