-- A request's turn, and the loop over the requests: a law for each way.
-- Assumes nothing.
use Prim.Native.Nat.{ℕ, zero, suc, ◌+◌, ◌-◌, ◌*◌, ◌/◌, ◌≤◌, ◌<◌, min}
use mathlib.Core.Path.{◌≡◌, refl, ap, sym, subst, ◌∙◌}
use mathlib.Core.Bool.{Bool, true, false}
use lib.Dec.{ltb}
use borrow.Author.Tests.{ltb-true, ltb-false}
use mathlib.Core.List.{List, [], ◌∷◌, ◌++◌, append-nil}
use native.Mathlib.Omega.{arith}
use native.Mathlib.Numerals.{add-one}
use lib.ListN.{length, take, drop, set, length-drop, length-set}
use lib.Seq.{take_all}
use borrow.Author.Rules.{rules}
use borrow.Rule.Slice.PartMut.{put_mid, Post-is}
use Rattle.refusal.specs.Answer.{Answer, given}
use Rattle.steps.specs.Build.{over, dates_after, flags_after}
use Rattle.steps.specs.Entries.{Entries, paid_of, unadjusted_after}
use Rattle.steps.specs.declared.Built.{Built}
use Rattle.book.specs.Framing.{body_of, requests_from, requests_in}
use Rattle.book.specs.Book.{call_of, call_in, count_of, four_numbers, Lists, lists, on_part, turned, on_call, booked, lists_after}
use Rattle.book.specs.Laws.Framing.{Took, took, none_left}
use Rattle.book.specs.Laws.Counts.{count_fits}
use Rattle.book.specs.Inner.Framed.{Cut, Leads}
use Rattle.book.specs.Inner.Calls.{count_by, numbers_by, numbers_in, Calls}
use Rattle.book.specs.Inner.Turns.{Puts, Even, Fits, Turned, Ready}

-- ---- four numbers put into a list with room
short : {A : Type 0} (n : ℕ) → 4 ≤ n → n < 4 → A
short n p q = let bad : ⊥ = omega (arith, p, q) in absurd bad

four_puts : (l : List ℕ) (a b c d : ℕ) → 4 ≤ length l → set (set (set (set l 0 a) 1 b) 2 c) 3 d ≡ over (a ∷ b ∷ c ∷ d ∷ []) l
unfolding over
four_puts [] a b c d h = short 0 h (omega arith)
four_puts (x ∷ []) a b c d h = short 1 h (omega arith)
four_puts (x ∷ y ∷ []) a b c d h = short 2 h (omega arith)
four_puts (x ∷ y ∷ z ∷ []) a b c d h = short 3 h (omega arith)
four_puts (x ∷ y ∷ z ∷ u ∷ l) a b c d h = refl

-- the places stay within the list while they are filled
module _ (l : List ℕ) (h : 4 ≤ length l) where
  pub second : (a : ℕ) → 1 < length (set l 0 a)
  second a = rw (length-set l 0 a) (omega (arith, h))

  pub third : (a b : ℕ) → 2 < length (set (set l 0 a) 1 b)
  third a b = rw (length-set (set l 0 a) 1 b, length-set l 0 a) (omega (arith, h))

  pub fourth : (a b c : ℕ) → 3 < length (set (set (set l 0 a) 1 b) 2 c)
  fourth a b c = rw (length-set (set (set l 0 a) 1 b) 2 c, length-set (set l 0 a) 1 b, length-set l 0 a) (omega (arith, h))

module _ (b : Built) (start : ℕ) (l : List ℕ) (h : 4 ≤ length l) where
  pub put_refused : (b.number ≡ 0 → ⊥) → Puts b start 0 l (set (set (set (set l 0 0) 1 0) 2 0) 3 b.number)
  unfolding count_by numbers_by
  put_refused z = record { count = none b.number z; after = four_puts l 0 0 0 b.number h ∙ ap (λ (ns : List ℕ). over ns l) (zeros b.number z) }
    where
      none : (n : ℕ) → (n ≡ 0 → ⊥) → 0 ≡ count_by n b.count
      none zero z = absurd (z refl)
      none (suc n) z = refl

      zeros : (n : ℕ) → (n ≡ 0 → ⊥) → 0 ∷ 0 ∷ 0 ∷ n ∷ [] ≡ numbers_by start n b.count b.tries
      zeros zero z = absurd (z refl)
      zeros (suc n) z = refl

  pub put_built : b.number ≡ 0 → Puts b start b.count l (set (set (set (set l 0 b.count) 1 start) 2 b.tries) 3 0)
  unfolding count_by numbers_by
  put_built e = record { count = rw e refl; after = rw e (four_puts l b.count start b.tries 0 h) }

-- ---- a part to the end of a list
part_whole : (at : ℕ) (l : List ℕ) → take (length l - at) (drop at l) ≡ drop at l
part_whole at l = take_all (length l - at) (drop at l) (omega (arith, length-drop at l))

put_whole : (at : ℕ) (l part : List ℕ) → at ≤ length l → put_mid at (length l - at) l part ≡ take at l ++ part
put_whole at l part h =
    let n : drop (length l) l ≡ [] = all l in
    ap (λ (x : List ℕ). take at l ++ (part ++ x)) (Post-is at (length l) l h ∙ n) ∙ ap (λ (x : List ℕ). take at l ++ x) (append-nil part)
  where
    all : (l : List ℕ) → drop (length l) l ≡ []
    all [] = refl
    all (x ∷ l) = all l

part_put : (at : ℕ) (l part : List ℕ) (change : List ℕ → List ℕ) → at ≤ length l → part ≡ change (take (length l - at) (drop at l)) → put_mid at (length l - at) l part ≡ on_part at change l
unfolding on_part
part_put at l part change h e = put_whole at l part h ∙ ap (λ (x : List ℕ). take at l ++ x) (e ∙ ap change (part_whole at l))

-- ---- a turn
module _ (bytes : List ℕ) (i start place : ℕ) (dates flags unadjusted answers : List ℕ) (f : Fits i start (lists dates flags unadjusted answers)) (four : place ≡ 4 * i) where
  room_is : length (take (length dates - start) (drop start dates)) ≡ length dates - start
  room_is = ap length (part_whole start dates) ∙ length-drop start dates

  flags_room : length (take (length flags - start) (drop start flags)) ≡ length dates - start
  flags_room = ap length (part_whole start flags) ∙ length-drop start flags ∙ ap (λ (n : ℕ). n - start) (sym f.even.flags)

  third_room : length (take (length unadjusted - start) (drop start unadjusted)) ≡ length dates - start
  third_room = ap length (part_whole start unadjusted) ∙ length-drop start unadjusted ∙ ap (λ (n : ℕ). n - start) (sym f.even.unadjusted)

  pub turn_is : (done : Built) (r : ℕ) (dates' flags' unadjusted' answers' : List ℕ) → Calls (call_of bytes (length (take (length dates - start) (drop start dates))) (length (take (length flags - start) (drop start flags))) (length (take (length unadjusted - start) (drop start unadjusted)))) done (take (length dates - start) (drop start dates)) (take (length flags - start) (drop start flags)) (take (length unadjusted - start) (drop start unadjusted)) dates' flags' unadjusted' → Puts done start r (take (length answers - place) (drop place answers)) answers' → Turned bytes i start r (lists dates flags unadjusted answers) (lists (put_mid start (length dates - start) dates dates') (put_mid start (length flags - start) flags flags') (put_mid start (length unadjusted - start) unadjusted unadjusted') (put_mid place (length answers - place) answers answers'))
  unfolding turned
  turn_is done r dates' flags' unadjusted' answers' c p = go (call_in bytes (length dates - start)) refl (rw (room_is, flags_room, third_room) at c)
    where
      go : (o : Answer Entries) → call_in bytes (length dates - start) ≡ o → Calls (call_in bytes (length dates - start)) done (take (length dates - start) (drop start dates)) (take (length flags - start) (drop start flags)) (take (length unadjusted - start) (drop start unadjusted)) dates' flags' unadjusted' → Turned bytes i start r (lists dates flags unadjusted answers) (lists (put_mid start (length dates - start) dates dates') (put_mid start (length flags - start) flags flags') (put_mid start (length unadjusted - start) unadjusted unadjusted') (put_mid place (length answers - place) answers answers'))
      go o e w =
          let k = call_in bytes (length dates - start) in
          let even = f.even in
          let a = f.place in
          let wf : start ≤ length flags = omega (arith, f.within, even.flags) in
          let wu : start ≤ length unadjusted = omega (arith, f.within, even.unadjusted) in
          let d : put_mid start (length dates - start) dates dates' ≡ on_part start (dates_after (paid_of k)) dates = part_put start dates dates' (dates_after (paid_of k)) f.within w.dates_then in
          let g : put_mid start (length flags - start) flags flags' ≡ on_part start (flags_after (paid_of k)) flags = part_put start flags flags' (flags_after (paid_of k)) wf w.flags_then in
          let u : put_mid start (length unadjusted - start) unadjusted unadjusted' ≡ on_part start (unadjusted_after k) unadjusted = part_put start unadjusted unadjusted' (unadjusted_after k) wu w.unadjusted_then in
          let n : numbers_in start done ≡ four_numbers start k = w.numbers start in
          let s : put_mid place (length answers - place) answers answers' ≡ on_part (4 * i) (over (four_numbers start k)) answers =
          part_put place answers answers' (over (four_numbers start k)) (omega (arith, a, four)) (p.after ∙ ap (λ (x : List ℕ). over x (take (length answers - place) (drop place answers))) n) ∙ ap (λ (x : ℕ). on_part x (over (four_numbers start k)) answers) four in
          record {
            count = p.count ∙ w.count;
            after = rw (d, g, u, s) refl;
          }

-- ---- lists of the same lengths
pub record Sized (l l' : Lists) : Type 0 where
  pub dates : length l'.dates ≡ length l.dates
  pub flags : length l'.flags ≡ length l.flags
  pub unadjusted : length l'.unadjusted ≡ length l.unadjusted
  pub answers : length l'.answers ≡ length l.answers

sized_on : {l l' l'' : Lists} → Sized l l' → Sized l' l'' → Sized l l''
sized_on a b =
    record { dates = b.dates ∙ a.dates; flags = b.flags ∙ a.flags; unadjusted = b.unadjusted ∙ a.unadjusted; answers = b.answers ∙ a.answers }

even_on : {l l' : Lists} → Even l → Sized l l' → Even l'
even_on e s = record { flags = s.dates ∙ e.flags ∙ sym s.flags; unadjusted = s.dates ∙ e.unadjusted ∙ sym s.unadjusted }

-- ---- the loop: what is left of the book, and what it will come to
pub record Going (bytes : List ℕ) (l₀ l : Lists) (i start : ℕ) (left : List ℕ) : Type 0 where
  pub rest : List (List ℕ)
  pub from : requests_from (64 - i) left ≡ given rest
  pub same : booked rest i start l ≡ lists_after (requests_in bytes) l₀
  pub even : Even l
  pub within : start ≤ length l.dates
  pub small : start ≤ 4096 * i
  pub most : i ≤ 64
  pub places : length rest + i ≤ length l.answers / 4
  pub sized : Sized l₀ l

pub going_none : {bytes : List ℕ} {l : Lists} → Ready bytes l → Going bytes l l 0 0 bytes
unfolding requests_in lists_after
going_none {bytes} {l} r =
    let p = r.places in
    record {
      rest = r.requests;
      from = r.from;
      same = ap (λ (x : Answer (List (List ℕ))). lists_after x l) (sym r.from);
      even = r.even;
      within = omega arith;
      small = omega arith;
      most = omega arith;
      places = omega (arith, p);
      sized = record { dates = refl; flags = refl; unadjusted = refl; answers = refl };
    }

module _ {bytes : List ℕ} {l₀ l : Lists} {i start : ℕ} {left : List ℕ} (g : Going bytes l₀ l i start left) where
  -- a book's bytes are cut short nowhere but at their end
  pub going_over : Cut left → l ≡ lists_after (requests_in bytes) l₀
  unfolding booked
  going_over c = by (ltb 0 (length left)) refl
    where
      by : (b : Bool) → ltb 0 (length left) ≡ b → l ≡ lists_after (requests_in bytes) l₀
      by true h = let t = took (64 - i) left g.rest (ltb-true 0 (length left) h) g.from in absurd (c t.whole t.led)
      by false h =
          let n : [] ≡ g.rest = none_left (64 - i) left g.rest (let k = ltb-false 0 (length left) h in omega arith) g.from in
          subst (λ (rs : List (List ℕ)). booked rs i start l ≡ lists_after (requests_in bytes) l₀) (sym n) g.same

  module _ (request onward : List ℕ) (led : Leads left request onward) where
    off : Took (64 - i) left g.rest
    off = took (64 - i) left g.rest (omega (arith, led.led)) g.from

    few : i < 64
    few = let t = off in let m = t.more in omega (arith, t.one_more)

    some_left : length g.rest ≡ suc (length off.others)
    some_left = ap length (sym off.first)

    pub going_fits : Fits i start l
    going_fits =
        let p = g.places in
        let s = some_left in
        let m = few in
        record { even = g.even; within = g.within; small = g.small; most = omega (arith, m); place = omega (arith, p, s) }

    pub going_on : (count : ℕ) (l' : Lists) → Turned request i start count l l' → Sized l l' → Going bytes l₀ l' (i + 1) (start + count) onward
    unfolding booked on_call
    going_on count l' u v =
        let k = v.dates in
        let a = v.answers in
        let t = off in
        let o = call_in (body_of left) (length l.dates - start) in
        let c : count ≡ count_of o = u.count ∙ ap (λ (r : List ℕ). count_of (call_in r (length l.dates - start))) led.is in
        let w : turned i start o l ≡ l' = ap (λ (r : List ℕ). turned i start (call_in r (length l.dates - start)) l) (sym led.is) ∙ sym u.after in
        let m : 64 - (i + 1) ≡ t.more = let x = t.one_more in omega (arith, x) in
        let q : count_of o ≤ min (length l.dates - start) 4096 = count_fits (body_of left) (length l.dates - start) in
        let x : booked (body_of left ∷ t.others) i start l ≡ lists_after (requests_in bytes) l₀ =
        subst (λ (rs : List (List ℕ)). booked rs i start l ≡ lists_after (requests_in bytes) l₀) (sym t.first) g.same in
        let y : booked t.others (suc i) (start + count_of o) (turned i start o l) ≡ lists_after (requests_in bytes) l₀ = x in
        let s = some_left in
        let p = g.places in
        let d = few in
        let n = g.within in
        let j = g.small in
        record {
          rest = t.others;
          from = ap (requests_from (64 - (i + 1))) led.onward ∙ rw m t.onward;
          same = rw (c, add-one, ← w) y;
          even = even_on g.even v;
          within = omega (arith, k, c, q, n);
          small = omega (arith, c, q, j);
          most = omega (arith, d);
          places = omega (arith, a, s, p);
          sized = sized_on g.sized v;
        }

    pub going_small : (count : ℕ) (l' : Lists) → Turned request i start count l l' → start + count ≤ 262144
    going_small count l' u =
        let q = count_fits request (length l.dates - start) in
        let n = g.small in
        let d = few in
        omega (arith, u.count, q, n, d)

pub ruleset turns = (second, third, fourth, put_refused, put_built, turn_is, going_none, going_over, going_fits, going_on, rules)
