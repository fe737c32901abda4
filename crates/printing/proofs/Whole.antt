-- The whole texts: their lengths, and how they are put.
-- Assumes nothing.
use Prim.Native.Nat.{ℕ, ◌+◌, ◌-◌, ◌*◌, ◌≤◌, ◌<◌}
use mathlib.Core.Path.{◌≡◌, refl, ap, sym, ◌∙◌}
use mathlib.Core.Bool.{Bool, true, false}
use mathlib.Core.List.{List, [], ◌∷◌, ◌++◌}
use native.Mathlib.Omega.{arith}
use lib.Dec.{leb}
use lib.ListN.{length, take, drop, get_or, length-drop, length-append}
use lib.Seq.{take_all}
use borrow.Author.Rules.{rules}
use borrow.Author.Tests.{le-leb, lt-leb, leb-true, leb-false}
use Rattle.printing.specs.Text.{decimal, first_line, later_lines, lines, header, schedule_text, refusal_text, DATES, TRIES, REFUSED, LINE}
use Rattle.printing.specs.Put.{Put, Spelled, fitting, differing}
use Rattle.printing.specs.Laws.Lengths.{lines_length, header_length, refusal_length, schedule_length}
use Rattle.printing.proofs.Putting.{put_none, put_then}

-- ---- a text that fits, and one that does not
put_fitting : {text old new : List ℕ} {end : ℕ} → length text ≤ length old → Put text 0 old end new → Put (fitting text (length old)) 0 old end new
unfolding fitting
put_fitting {text} {old} h p = rw (le-leb (length text) (length old) h) p

put_nothing : (text old : List ℕ) → length old < length text → Put (fitting text (length old)) 0 old 0 old
unfolding fitting
put_nothing text old h = rw (lt-leb (length text) (length old) h) (put_none 0 old)

-- ---- a part that goes on to the end
pub rest_of : (k n : ℕ) (l : List ℕ) → length l ≡ n → take (n - k) (drop k l) ≡ drop k l
rest_of k n l e = take_all (n - k) (drop k l) (omega (arith, length-drop k l))

shown : {n at : ℕ} {digits : List ℕ} → Spelled n at digits → take (20 - at) (drop at digits) ≡ decimal n
shown {n} {at} {digits} s = rest_of at 20 digits s.size ∙ s.says

-- ---- lengths
digits_length : {n at : ℕ} {digits : List ℕ} → Spelled n at digits → length (decimal n) ≡ 20 - at
digits_length {n} {at} {digits} s = rw (sym s.says) (length-drop at digits ∙ rw s.size)

-- ---- lines
pub lines_none : (dates flags unadjusted : List ℕ) (at : ℕ) (out : List ℕ) → length dates ≡ 0 → Put (lines dates flags unadjusted) at out at out
unfolding lines
lines_none [] flags unadjusted at out e = put_none at out
lines_none (day ∷ days) flags unadjusted at out e = absurd (let bad : ⊥ = omega arith in bad)

module _ (flags unadjusted : List ℕ) (other : ℕ) (rest : List ℕ) where
  two_parts : (dates : List ℕ) → (length dates ≡ 0 → ⊥) → other ≡ get_or unadjusted 0 (get_or dates 0 0) → rest ≡ drop 1 unadjusted → first_line (get_or dates 0 0) other ++ later_lines (take (length dates - 1) (drop 1 dates)) flags rest ≡ lines dates flags unadjusted
  unfolding lines
  two_parts [] h o r = absurd (h refl)
  two_parts (day ∷ days) h o r = rw (rest_of 1 (length (day ∷ days)) (day ∷ days) refl, o, r)

  module _ (dates : List ℕ) (h : length dates ≡ 0 → ⊥) (o : other ≡ get_or unadjusted 0 (get_or dates 0 0)) where
    pub first_room : (at : ℕ) (out : List ℕ) → at + length (lines dates flags unadjusted) ≤ length out → rest ≡ drop 1 unadjusted → at + length (first_line (get_or dates 0 0) other) ≤ length out
    first_room at out l r =
        omega (arith, length-append (first_line (get_or dates 0 0) other) (later_lines (take (length dates - 1) (drop 1 dates)) flags rest), ap length (two_parts dates h o r))

    module _ (r : rest ≡ drop 1 unadjusted) {at m : ℕ} {old mid : List ℕ} (p : Put (first_line (get_or dates 0 0) other) at old m mid) where
      pub later_room : at + length (lines dates flags unadjusted) ≤ length old → m + length (later_lines (take (length dates - 1) (drop 1 dates)) flags rest) ≤ length mid
      later_room l =
          omega (arith, length-append (first_line (get_or dates 0 0) other) (later_lines (take (length dates - 1) (drop 1 dates)) flags rest), ap length (two_parts dates h o r), p.ends, p.size)

      pub lines_put : {end : ℕ} {new : List ℕ} → Put (later_lines (take (length dates - 1) (drop 1 dates)) flags rest) m mid end new → Put (lines dates flags unadjusted) at old end new
      lines_put q = rw (← two_parts dates h o r) (put_then p q)

-- ---- a refusal
module _ {n at : ℕ} {digits : List ℕ} (s : Spelled n at digits) where
  pub refusal_none : (out : List ℕ) → length out < 29 - at → Put (fitting (refusal_text n) (length out)) 0 out 0 out
  refusal_none out h = put_nothing (refusal_text n) out (omega (arith, refusal_length n, digits_length s, s.within))

  pub refusal_put : {m₁ m₂ end : ℕ} {old n₁ n₂ new : List ℕ} → 29 - at ≤ length old → Put REFUSED 0 old m₁ n₁ → Put (take (20 - at) (drop at digits)) m₁ n₁ m₂ n₂ → Put (LINE ∷ []) m₂ n₂ end new → Put (fitting (refusal_text n) (length old)) 0 old end new
  unfolding refusal_text
  refusal_put {old} h p q r =
      put_fitting (omega (arith, refusal_length n, digits_length s, s.within))
      (put_then (put_then p (rw (shown s) at q)) r)

-- ---- a schedule
module _ (dates flags unadjusted : List ℕ) {tries c t : ℕ} {count tried : List ℕ} (s : Spelled (length dates) c count) (u : Spelled tries t tried) (brackets : ℕ) (k : brackets ≡ differing dates unadjusted) where
  schedule_size : length (schedule_text tries dates flags unadjusted) ≡ 55 - c - t + (13 * (length dates + brackets) - 2)
  schedule_size =
      rw k (omega (arith, schedule_length tries dates flags unadjusted, digits_length s, digits_length u, s.within, u.within))

  pub schedule_none : (b : Bool) (out : List ℕ) → b ≡ leb (55 - c - t + (13 * (length dates + brackets) - 2)) (length out) → b ≡ false → Put (fitting (schedule_text tries dates flags unadjusted) (length out)) 0 out 0 out
  schedule_none b out e f =
      put_nothing (schedule_text tries dates flags unadjusted) out
      (omega (arith, schedule_size, leb-false (55 - c - t + (13 * (length dates + brackets) - 2)) (length out) (sym e ∙ f)))

  module _ (b : Bool) (old : List ℕ) (e : b ≡ leb (55 - c - t + (13 * (length dates + brackets) - 2)) (length old)) (f : b ≡ true) where
    schedule_room : 55 - c - t + (13 * (length dates + brackets) - 2) ≤ length old
    schedule_room = leb-true (55 - c - t + (13 * (length dates + brackets) - 2)) (length old) (sym e ∙ f)

    pub header_room : length (take (20 - c) (drop c count)) + length (take (20 - t) (drop t tried)) + 15 ≤ length old
    header_room =
        rw (shown s, shown u) (omega (arith, digits_length s, digits_length u, s.within, u.within, schedule_room))

    module _ {m : ℕ} {mid : List ℕ} (p : Put (take (20 - c) (drop c count) ++ DATES ++ take (20 - t) (drop t tried) ++ TRIES) 0 old m mid) where
      pub lines_room : m + length (lines dates flags unadjusted) ≤ length mid
      unfolding header
      lines_room =
          let q : Put (header (length dates) tries) 0 old m mid = rw (shown s, shown u) at p in
          rw (lines_length dates flags unadjusted, ← k)
          (omega (arith, header_length (length dates) tries, digits_length s, digits_length u, s.within, u.within, q.ends, q.size, schedule_room))

      pub schedule_put : {end : ℕ} {new : List ℕ} → Put (lines dates flags unadjusted) m mid end new → Put (fitting (schedule_text tries dates flags unadjusted) (length old)) 0 old end new
      unfolding schedule_text header
      schedule_put q =
          put_fitting (omega (arith, schedule_size, schedule_room)) (put_then (rw (shown s, shown u) at p) q)

pub ruleset wholes = (lines_none, lines_put, refusal_none, refusal_put, schedule_none, schedule_put, rules)
