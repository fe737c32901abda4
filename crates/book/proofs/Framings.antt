-- The bytes of a book, parted: a law for each way.
-- Assumes nothing.
use Prim.Native.Nat.{ℕ, zero, suc, ◌+◌, ◌-◌, ◌≤◌, ◌<◌}
use mathlib.Core.Path.{◌≡◌, refl, ap, sym, ◌∙◌}
use mathlib.Core.Bool.{Bool, true, false}
use mathlib.Core.List.{List, [], ◌∷◌, ◌++◌, append_assoc, append-nil}
use native.Mathlib.Omega.{arith}
use lib.Dec.{leb}
use lib.ListN.{length, length-drop, length-append}
use borrow.Author.Tests.{le-leb, leb-true}
use borrow.Author.Rules.{rules}
use Rattle.refusal.specs.Answer.{Answer, given, refused, need, then, BATCH}
use Rattle.refusal.specs.Laws.Answers.{holds}
use Rattle.book.specs.Book.{counted}
use Rattle.book.specs.Framing.{MOST, size_of, body_of, behind, unless_cut, or_none, requests_from, requests_in}
use Rattle.book.specs.Inner.Framed.{Cut, Leads}

-- ---- so many requests at most
cut_refuses : (s : List ℕ) (on : List ℕ → Answer (List (List ℕ))) → Cut s → unless_cut s on ≡ refused BATCH
unfolding unless_cut need
cut_refuses s on h = by (leb 2 (length s)) (leb (2 + size_of s) (length s)) refl refl
  where
    by : (a b : Bool) → leb 2 (length s) ≡ a → leb (2 + size_of s) (length s) ≡ b → need BATCH a (need BATCH b (then (on (behind s)) (λ rs. given (body_of s ∷ rs)))) ≡ refused BATCH
    by true true p q = absurd (h (leb-true _ _ q) (leb-true _ _ p))
    by true false p q = refl
    by false b p q = refl

-- ---- the loop: so many requests stand before the rest
pub record Parted (bytes : List ℕ) (n : ℕ) (rest : List ℕ) : Type 0 where
  pub done : List (List ℕ)
  pub count : length done ≡ n
  pub most : n ≤ 64
  pub so : requests_from MOST bytes ≡ then (requests_from (64 - n) rest) (λ rs. given (done ++ rs))

behind_none : (x : Answer (List (List ℕ))) → x ≡ then x (λ rs. given ([] ++ rs))
unfolding then
behind_none (given rs) = refl
behind_none (refused n) = refl

behind_one : (done : List (List ℕ)) (r : List ℕ) (x : Answer (List (List ℕ))) → then (then x (λ rs. given (r ∷ rs))) (λ rs. given (done ++ rs)) ≡ then x (λ rs. given ((done ++ (r ∷ [])) ++ rs))
unfolding then
behind_one done r (given rs) = ap given (sym (append_assoc done (r ∷ []) rs))
behind_one done r (refused n) = refl

pub parted_none : (bytes : List ℕ) → Parted bytes 0 bytes
parted_none bytes = record { done = []; count = refl; most = omega arith; so = behind_none (requests_from MOST bytes) }

-- one request taken off
step : (left : ℕ) (s : List ℕ) → 0 < length s → requests_from (suc left) s ≡ unless_cut s (requests_from left)
unfolding requests_from or_none
step left [] h = absurd (let bad : ⊥ = omega arith in bad)
step left (b ∷ s) h = refl

none : (left : ℕ) (s : List ℕ) → length s ≡ 0 → requests_from left s ≡ given []
unfolding requests_from or_none
none zero [] e = refl
none (suc left) [] e = refl
none left (b ∷ s) e = absurd (let bad : ⊥ = omega arith in bad)

no_more : (s : List ℕ) → 0 < length s → requests_from 0 s ≡ refused BATCH
unfolding requests_from or_none
no_more [] h = absurd (let bad : ⊥ = omega arith in bad)
no_more (b ∷ s) h = refl

module _ {bytes : List ℕ} {n : ℕ} {rest : List ℕ} (p : Parted bytes n rest) where
  pub parted_end : length rest ≡ 0 → given n ≡ counted (requests_in bytes)
  unfolding requests_in counted then
  parted_end h = rw (p.so, none (64 - n) rest h) (ap given (sym p.count ∙ ap length (sym (append-nil p.done))))

  module _ (more : 0 < length rest) where
    pub parted_over : n ≡ 64 → refused BATCH ≡ counted (requests_in bytes)
    unfolding requests_in counted then
    parted_over e =
        let z : 64 - n ≡ 0 = omega (arith, e) in
        rw (p.so, z, no_more rest more) refl

    module _ (few : n ≡ 64 → ⊥) where
      one_more : 64 - n ≡ suc (64 - (n + 1))
      one_more = let m = p.most in go n m few
        where
          go : (n : ℕ) → n ≤ 64 → (n ≡ 64 → ⊥) → 64 - n ≡ suc (64 - (n + 1))
          go n m h = omega arith

      pub parted_cut : Cut rest → refused BATCH ≡ counted (requests_in bytes)
      unfolding requests_in counted then
      parted_cut c = rw (p.so, one_more, step (64 - (n + 1)) rest more, cut_refuses rest (requests_from (64 - (n + 1))) c) refl

      pub parted_on : (request onward : List ℕ) → Leads rest request onward → Parted bytes (n + 1) onward
      unfolding unless_cut
      parted_on request onward l =
          let u : unless_cut rest (requests_from (64 - (n + 1))) ≡ then (requests_from (64 - (n + 1)) onward) (λ rs. given (request ∷ rs)) =
          sym (holds BATCH _ _ _ (le-leb _ _ l.led) (holds BATCH _ _ _ (le-leb _ _ l.whole) (rw (l.is, l.onward) refl))) in
          record {
            done = p.done ++ (request ∷ []);
            count = length-append p.done (request ∷ []) ∙ ap (λ (k : ℕ). k + 1) p.count;
            most = let m = p.most in fewer n m few;
            so = p.so ∙ rw (one_more, step (64 - (n + 1)) rest more, u) (behind_one p.done request (requests_from (64 - (n + 1)) onward));
          }
        where
          fewer : (n : ℕ) → n ≤ 64 → (n ≡ 64 → ⊥) → n + 1 ≤ 64
          fewer n m h = omega arith

-- each turn leaves less
pub less_left : (s request rest : List ℕ) → Leads s request rest → length rest < length s
less_left s request rest l = let e = ap length l.onward ∙ length-drop (2 + size_of s) s in omega (arith, e, l.led)

pub ruleset parts = (parted_none, parted_over, parted_cut, parted_on, parted_end, less_left, rules)
