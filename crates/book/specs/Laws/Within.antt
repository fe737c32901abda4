-- Lists that differ from place a on and before place b alone.
-- Assumes nothing.
use Rattle.std.specs.Prelude.{ℕ, zero, suc, ◌+◌, ◌-◌, ◌≤◌, ◌≡◌, refl, take}
use Rattle.std.proofs.Math.Path.{ap}
use Rattle.std.proofs.Common.{sym, ◌∙◌, arith, take-take, drop-drop, drop_at, length-take-le}
use mathlib.Core.List.{List, [], ◌∷◌, ◌++◌}
use Rattle.std.proofs.Math.ListN.{length, drop, length-append, length-drop}
use Rattle.std.proofs.Math.Seq.{take-nil, take_at, drop-append-add}
use Rattle.steps.specs.Build.{over}
use Rattle.book.specs.Book.{on_part}

pub record Within (a b : ℕ) (l l' : List ℕ) : Type 0 where
  pub size : length l' ≡ length l
  pub before : take a l' ≡ take a l
  pub behind : drop b l' ≡ drop b l

pub within_none : (a b : ℕ) (l : List ℕ) → Within a b l l
within_none a b l = record { size = refl; before = refl; behind = refl }

pub take_less : (a b : ℕ) (l l' : List ℕ) → a ≤ b → take b l' ≡ take b l → take a l' ≡ take a l
take_less a b l l' h e = sym (take-take a b l' h) ∙ ap (take a) e ∙ take-take a b l h

drop_more : (a b : ℕ) (l l' : List ℕ) → a ≤ b → drop a l' ≡ drop a l → drop b l' ≡ drop b l
drop_more a b l l' h e =
    let k : a + (b - a) ≡ b = omega arith in
    ap (λ (n : ℕ). drop n l') (sym k) ∙ sym (drop-drop (b - a) a l') ∙ ap (drop (b - a)) e ∙ drop-drop (b - a) a l ∙ ap (λ (n : ℕ). drop n l) k

pub within_on : {a b c : ℕ} {l l' l'' : List ℕ} → a ≤ b → b ≤ c → Within a b l l' → Within b c l' l'' → Within a c l l''
within_on {a} {b} {c} {l} {l'} {l''} h k p q =
    record {
      size = q.size ∙ p.size;
      before = take_less a b l' l'' h q.before ∙ p.before;
      behind = q.behind ∙ drop_more b c l l' k p.behind;
    }

-- a list laid over the start of a part
module _ (a : ℕ) (new l : List ℕ) (h : a + length new ≤ length l) where
  first : length (take a l) ≡ a
  first = length-take-le a l (omega (arith, h))

  front : length (take a l ++ new) ≡ a + length new
  front = length-append (take a l) new ∙ ap (λ (n : ℕ). n + length new) first

  pub over_within : (b : ℕ) → a + length new ≤ b → Within a b l (on_part a (over new) l)
  unfolding on_part over
  over_within b k =
      let d = length-drop a l in
      let e = length-drop (length new) (drop a l) in
      let g = length-append (take a l) (new ++ drop (length new) (drop a l)) in
      let i = length-append new (drop (length new) (drop a l)) in
      let f = first in
      record {
        size = omega (arith, d, e, f, g, i, h);
        before = take_at (take a l) _ a first;
        behind = drop_more (a + length new) b l (take a l ++ (new ++ drop (length new) (drop a l))) k last;
      }
    where
      cut : (m : ℕ) (p q : List ℕ) → length p ≡ a → drop (a + m) (p ++ q) ≡ drop m q
      cut m p q e = ap (λ (n : ℕ). drop (n + m) (p ++ q)) (sym e) ∙ drop-append-add p q m

      last : drop (a + length new) (take a l ++ (new ++ drop (length new) (drop a l))) ≡ drop (a + length new) l
      last = cut (length new) (take a l) (new ++ drop (length new) (drop a l)) first ∙ drop_at new (drop (length new) (drop a l)) (length new) refl ∙ drop-drop (length new) a l

-- the n places from s on
part_of : (s n : ℕ) (l : List ℕ) → take n (drop s l) ≡ drop s (take (s + n) l)
part_of zero n l = let k : zero + n ≡ n = omega arith in rw k refl
part_of (suc s) n [] = take-nil n ∙ sym (ap (drop (suc s)) (take-nil (suc s + n)))
part_of (suc s) n (x ∷ l) = let k : suc s + n ≡ suc (s + n) = omega arith in rw k (part_of s n l)

-- what stands there if a part is changed, the places before it were written earlier, and those behind it later
pub part_stays : {s c : ℕ} {l l₁ l₂ : List ℕ} (n : ℕ) (change : List ℕ → List ℕ) → s ≤ length l → Within 0 s l l₁ → Within (s + n) c (on_part s change l₁) l₂ → take n (drop s l₂) ≡ take n (change (drop s l))
unfolding on_part
part_stays {s} {c} {l} {l₁} {l₂} n change h p q =
    let z = p.size in
    let f : length (take s l₁) ≡ s = length-take-le s l₁ (omega (arith, z, h)) in
    part_of s n l₂ ∙ ap (drop s) q.before ∙ sym (part_of s n (take s l₁ ++ change (drop s l₁)))
    ∙ ap (take n) (drop_at (take s l₁) (change (drop s l₁)) s f ∙ ap change p.behind)
