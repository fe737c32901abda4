-- An answer in one number that a call gave, handed on; one law for each way.
-- Assumes nothing.
use Rattle.std.specs.Prelude.{ℕ, zero, suc, ◌<◌, ◌≡◌, Bool, true, false, List, Result, Ok, Err, ℤ, pos, neg_ℤ, ◌-ℤ◌}
use Rattle.std.proofs.Math.Path.{ap, refl}
use Rattle.std.proofs.Common.{◌∙◌, arith, Fits, SFits, to_z, of_z, to_z-of_z}
use Rattle.std.proofs.Math.IntN.{+ℤ_idl}
use Rattle.std.specs.Int.Signed.{mag}
use Rattle.std.specs.Int.{w8, w32, w64}
use Rattle.std.proofs.Math.Facts.{to_z_pos}
use Rattle.refusal.specs.Answer.{Answer, given, refused, answered, answered_by, need, then, ROOM}
use Rattle.refusal.specs.declared.Refusal.{Refusal}
use Rattle.refusal.specs.Laws.Answers.{then_given, then_refused}
use Rattle.period.specs.Laws.Signed.{same32}
use Rattle.calendar.specs.declared.Moved.{Moved}
use Rattle.calendar.specs.Moves.{moved_by}
use Rattle.date.specs.declared.Date.{Date}
use Rattle.date.specs.Date.{dated_by}
use Rattle.coming.specs.declared.Coming.{Coming}
use Rattle.coming.specs.Coming.{said, meant}
use Rattle.crossing.specs.Answers.{one_number_of, itself, marked, with_place, placed, CountPlace, MovePlace}
use Rattle.crossing.specs.Names.{name_of, Spelled}

pub handed : (r : ℤ) {x : ℤ} → mag r < 9223372036854775808 → r ≡ x → to_z w64 (of_z w64 r) ≡ x
handed r s e = to_z-of_z {w = w64} {z = r} (record { sfits = s }) ∙ e

-- minus a byte
small_fits : (n : ℕ) → n < 256 → SFits w64 (neg_ℤ (pos n))
small_fits zero h = record { sfits = omega arith }
small_fits (suc n) h = record { sfits = omega (arith, h) }

pub minus_fits : (n : ℕ) → Fits w8 n → SFits w64 (pos 0 -ℤ to_z w64 n)
minus_fits n h = let k : n < 256 = omega (arith, h.fits) in rw (to_z_pos w64 {n = n} (omega (arith, k)), +ℤ_idl (neg_ℤ (pos n))) (small_fits n k)

pub minus_is : (n : ℕ) → Fits w8 n → to_z w64 (of_z w64 (pos 0 -ℤ to_z w64 n)) ≡ neg_ℤ (pos n)
minus_is n h = let k : n < 256 = omega (arith, h.fits) in rw (to_z_pos w64 {n = n} (omega (arith, k)), +ℤ_idl (neg_ℤ (pos n))) (to_z-of_z {w = w64} {z = neg_ℤ (pos n)} (small_fits n k))

-- a signed count is handed on as it is
pub same_count : {B : Type 0} (f : ℤ → B) (z : ℤ) (b : B) → SFits w32 z → b ≡ f (to_z w32 (of_z w32 z)) → b ≡ f z
same_count f z b s e = e ∙ ap f (same32 z s)

pub same_two : {B : Type 0} (f : ℤ → ℤ → B) (y z : ℤ) (b : B) → SFits w32 y → SFits w32 z → b ≡ f (to_z w32 (of_z w32 y)) (to_z w32 (of_z w32 z)) → b ≡ f y z
same_two f y z b s t e = e ∙ ap (λ (k : ℤ). f k (to_z w32 (of_z w32 z))) (same32 y s) ∙ ap (f y) (same32 z t)

module _ {B : Type 0} (f : B → ℕ) {r : ℤ} (s : mag r < 9223372036854775808) where
  -- the answer that a call gave
  pub told : (a b : Answer B) → r ≡ one_number_of f a → a ≡ b → to_z w64 (of_z w64 r) ≡ one_number_of f b
  told a b e h = handed r s (e ∙ ap (one_number_of f) h)

  -- a value, and a refusal
  pub told_given : (b : Answer B) (v : B) → r ≡ pos (f v) → given v ≡ b → to_z w64 (of_z w64 r) ≡ one_number_of f b
  told_given b v e h = handed r s (e ∙ ap (one_number_of f) h)

  pub told_refused : (b : Answer B) (n : ℕ) → r ≡ neg_ℤ (pos n) → refused n ≡ b → to_z w64 (of_z w64 r) ≡ one_number_of f b
  told_refused b n e h = handed r s (e ∙ ap (one_number_of f) h)

-- ---- what a number names
module _ {A B : Type 0} (x : Answer A) (k : A → Answer B) where
  pub named : (a : A) (b : Answer B) → x ≡ given a → b ≡ k a → b ≡ then x k
  named a b e h = then_given x a k b e h

  pub unnamed : (n : ℕ) → x ≡ refused n → refused n ≡ then x k
  unnamed n e = then_refused x n k e

-- ---- a coming date, as its number
pub coming_number : (d : Result Coming Refusal) → one_number_of (λ c. marked (said c)) (answered d) ≡ one_number_of marked (meant d)
unfolding meant
coming_number (Ok c) = refl
coming_number (Err r) = refl

-- ---- a date as its day number, and a move as its day number beside its days, of any refusal that has a number
module _ {E : Type 0} (number : E → ℕ) where
  pub date_number : (d : Result Date E) → one_number_of (λ d. d.day) (answered_by number d) ≡ one_number_of itself (dated_by number d)
  date_number (Ok d) = refl
  date_number (Err e) = refl

  move_number : (n : ℕ) (t : Bool) (d : Result Moved E) → one_number_of (λ m. m.date.day) (need n t (answered_by number d)) ≡ one_number_of (λ m. m.0) (need n t (moved_by number d))
  unfolding need
  move_number n true (Ok m) = refl
  move_number n true (Err e) = refl
  move_number n false d = refl

  move_placed : (list : List ℤ) (n : ℕ) (t : Bool) (d : Result Moved E) → placed (λ m. m.days) (need n t (answered_by number d)) list ≡ placed (λ m. m.1) (need n t (moved_by number d)) list
  unfolding need placed
  move_placed list n true (Ok m) = refl
  move_placed list n true (Err e) = refl
  move_placed list n false d = refl

  pub move_as : {r : ℤ} {list list' : List ℤ} (d : Result Moved E) → CountPlace (λ m. m.date.day) (λ m. m.days) (answered_by number d) r list list' → MovePlace (moved_by number d) r list list'
  unfolding with_place
  move_as {list = list} d p =
      record {
        answer = p.answer ∙ move_number ROOM _ d;
        list_after_lem = p.list_after_lem ∙ move_placed list ROOM _ d;
      }

-- ---- what was written of an answer's name
pub same_name : (z : ℤ) → SFits w64 z → name_of (to_z w64 (of_z w64 z)) ≡ name_of z
same_name z s = ap name_of (to_z-of_z {w = w64} {z = z} s)

pub spelled_as : {r : ℤ} {text text' : List ℕ} (a b : List ℕ) → mag r < 9223372036854775808 → a ≡ b → Spelled a r text text' → Spelled b (to_z w64 (of_z w64 r)) text text'
spelled_as {r} a b s e p = rw (← e) (record { answer = handed r s p.answer; text_after_lem = p.text_after_lem })
