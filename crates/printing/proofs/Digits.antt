-- A number's digits, put from the last one on: a turn puts one in front of those that are there.
-- Assumes nothing.
use Prim.Native.Nat.{ℕ, zero, suc, ◌+◌, ◌-◌, ◌^◌, ◌/◌, ◌%◌, ◌≤◌, ◌<◌}
use mathlib.Core.Path.{◌≡◌, sym, ◌∙◌}
use mathlib.Core.List.{List, ◌∷◌}
use native.Mathlib.Nat.{pow-suc, div-lt_iff_lt-mul}
use native.Mathlib.Omega.{arith}
use lib.ListN.{length, drop, set, length-set, drop_of_length-le}
use lib.Seq.{drop-cons, get_or-set_same, drop-set-lt}
use borrow.Author.Rules.{rules}
use borrow.Author.Tests.{le-ltb, lt-ltb}
use Rattle.printing.specs.Text.{digit, spelled, decimal}
use Rattle.printing.specs.Put.{Spelled}

-- the digits from a place on, and the number that is left to be put in front of them
pub record Spelling (n left at : ℕ) (digits : List ℕ) : Type 0 where
  pub same : spelled at left (drop at digits) ≡ decimal n
  pub few : left < 10 ^ at
  pub some : 1 ≤ at
  pub most : at ≤ 20
  pub size : length digits ≡ 20

in_front : (digits : List ℕ) (k v : ℕ) → k < length digits → drop k (set digits k v) ≡ v ∷ drop (suc k) digits
in_front digits k v h =
    let l : k < length (set digits k v) = rw (length-set digits k v) h in
    drop-cons (set digits k v) k 0 l ∙ rw (get_or-set_same digits k v 0 h, drop-set-lt (suc k) digits k v (omega arith))

more : (k n : ℕ) (after : List ℕ) → 9 < n → spelled (suc k) n after ≡ spelled k (n / 10) (digit (n % 10) ∷ after)
unfolding spelled
more k n after h = rw (le-ltb n 10 (omega arith))

last : (k n : ℕ) (after : List ℕ) → n ≤ 9 → spelled (suc k) n after ≡ digit n ∷ after
unfolding spelled
last k n after h = rw (lt-ltb n 10 (omega arith))

pub spelling_none : (n : ℕ) (digits : List ℕ) → n < 18446744073709551616 → length digits ≡ 20 → Spelling n n 20 digits
unfolding decimal
spelling_none n digits h l =
    record {
      same = rw (drop_of_length-le digits {i = 20} (omega arith));
      few = omega arith;
      some = omega arith;
      most = omega arith;
      size = l;
    }

module _ {n left at : ℕ} {digits : List ℕ} (c : Spelling n left at digits) where
  under : (k : ℕ) → at ≡ suc k → left / 10 < 10 ^ k
  under k e =
      let f : left < 10 ^ suc k = rw e at c.few in
      (div-lt_iff_lt-mul {k = 10} (omega arith)).1 (rw (pow-suc 10 k) at f)

  not_last : (k : ℕ) → at ≡ suc k → 9 < left → 1 ≤ k
  not_last zero e h = let f : left < 10 ^ 1 = rw e at c.few in absurd (let bad : ⊥ = omega arith in bad)
  not_last (suc k) e h = omega arith

  one_more : (k : ℕ) → at ≡ suc k → 9 < left → Spelling n (left / 10) k (set digits k (digit (left % 10)))
  one_more k e h =
      let l : k < length digits = omega (arith, c) in
      record {
        same = rw (in_front digits k (digit (left % 10)) l) (sym (more k left (drop (suc k) digits) h) ∙ (rw e at c.same));
        few = under k e;
        some = not_last k e h;
        most = omega (arith, c.most);
        size = length-set digits k (digit (left % 10)) ∙ c.size;
      }

  the_last : (k : ℕ) → at ≡ suc k → left ≤ 9 → Spelled n k (set digits k (digit left))
  the_last k e h =
      let l : k < length digits = omega (arith, c) in
      record {
        says = in_front digits k (digit left) l ∙ sym (last k left (drop (suc k) digits) h) ∙ (rw e at c.same);
        within = omega (arith, c.most);
        size = length-set digits k (digit left) ∙ c.size;
      }

  pub spelling_more : 9 < left → Spelling n (left / 10) (at - 1) (set digits (at - 1) (48 + left % 10))
  spelling_more h = one_more (at - 1) (omega (arith, c.some)) h

  pub spelling_last : left ≤ 9 → Spelled n (at - 1) (set digits (at - 1) (48 + left))
  spelling_last h = the_last (at - 1) (omega (arith, c.some)) h

pub ruleset spellings = (spelling_none, spelling_more, spelling_last, rules)
