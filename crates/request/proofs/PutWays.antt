-- Laws of the bytes written: stores in a row, and one run of them after another.
-- Assumes nothing.
use Prim.Native.Nat.{ℕ, suc, ◌+◌, ◌*◌, ◌-◌, ◌/◌, ◌%◌, ◌≤◌, ◌<◌}
use mathlib.Core.Path.{◌≡◌, refl, sym, ap, ◌∙◌}
use mathlib.Core.Bool.{Bool, true, false, ◌&&◌, false≢true}
use mathlib.Core.List.{List, [], ◌∷◌, ◌++◌}
use native.Mathlib.Omega.{arith}
use native.Mathlib.Nat.{add-zero, le_antisymm}
use native.Mathlib.Numerals.{add-one}
use borrow.Author.Rules.{rules}
use borrow.Author.Tests.{le-leb, lt-leb, leb-true, leb-false}
use lib.Dec.{leb}
use lib.IntN.{ℤ, pos, negsuc, nat_abs}
use lib.ListN.{length, get_or, take, drop, set}
use lib.Seq.{sets, sets-eq, take-suc, take-length, length-take-le}
use mir.Syntax.{w32}
use mir.Val.{SFits, to_z, of_z}
use Rattle.std.specs.Prelude.{Ok, Err}
use Rattle.refusal.specs.declared.Refusal.{Refusal}
use Rattle.refusal.specs.declared.Refusal.TheVariants as refusal-is
use Rattle.refusal.specs.Refusals.{number_of}
use Rattle.refusal.specs.Answer.{Answer, given, refused}
use Rattle.refusal.specs.Laws.Answers.{fails, holds}
use Rattle.period.specs.Period.{is_negative}
use Rattle.period.specs.Laws.Signed.{same32}
use Rattle.period.specs.declared.Period.{Period}
use Rattle.steps.specs.declared.Request.{Request}
use Rattle.steps.specs.Build.{over}
use Rattle.request.specs.Encode.{bytes4, bits16, letter_of, tenor_body, head_of, spelt, dates_in, fields_in, written, bytes_of, dates_part, choices_part, anchors_part, closed_part, fits16, sayable, laid, encoded, encodes, bytes_after, Encodes}
use Rattle.request.specs.Inner.Places.{Bits}
use Rattle.request.specs.Laws.Round.{dates_long, bytes_long}

-- ---- sixteen bits
same_test : (a b c d : ℕ) → (a ≤ b → c ≤ d) → (b < a → d < c) → leb a b ≡ leb c d
same_test a b c d f g = by_test (leb a b) refl
  where
    by_test : (t : Bool) → leb a b ≡ t → leb a b ≡ leb c d
    by_test true e = e ∙ sym (le-leb c d (f (leb-true a b e)))
    by_test false e = e ∙ sym (lt-leb c d (g (leb-false a b e)))

fits_below : (z : ℤ) (size : ℕ) → size ≡ nat_abs z → true ≡ is_negative z → leb size 32768 ≡ fits16 z
unfolding fits16
fits_below (pos n) size e t = absurd (false≢true (sym t))
fits_below (negsuc k) size e t =
    same_test size 32768 k 32767 (λ h. omega (arith, e, h)) (λ h. omega (arith, e, h)) ∙ and_true (leb k 32767)
  where
    and_true : (b : Bool) → b ≡ b && true
    and_true true = refl
    and_true false = refl

fits_above : (z : ℤ) (size : ℕ) → size ≡ nat_abs z → false ≡ is_negative z → leb size 32767 ≡ fits16 z
unfolding fits16
fits_above (pos n) size e t = ap (λ (k : ℕ). leb k 32767) e
fits_above (negsuc k) size e t = absurd (false≢true t)

bits_below : (z : ℤ) (size : ℕ) → size ≡ nat_abs z → true ≡ is_negative z → fits16 z ≡ true → (size ≤ 65536) × Bits z (65536 - size)
unfolding fits16 bits16
bits_below (pos n) size e t f = absurd (false≢true (sym t))
bits_below (negsuc k) size e t f =
    let l : size ≤ 32768 = leb-true size 32768 (fits_below (negsuc k) size e t ∙ f) in
    (omega (arith, l), record { same = omega (arith, e, l); small = omega (arith, e) })

bits_above : (z : ℤ) (size : ℕ) → size ≡ nat_abs z → false ≡ is_negative z → fits16 z ≡ true → Bits z size
unfolding bits16
bits_above (pos n) size e t f =
    let l : size ≤ 32767 = leb-true size 32767 (fits_above (pos n) size e t ∙ f) in
    record { same = e; small = omega (arith, l) }
bits_above (negsuc k) size e t f = absurd (false≢true t)

-- as the code's casts leave the number
module _ (z : ℤ) (held : SFits w32 z) {size : ℕ} {negative : Bool} (is : size ≡ nat_abs (to_z w32 (of_z w32 z))) (tells : negative ≡ is_negative (to_z w32 (of_z w32 z))) where
  size_is : size ≡ nat_abs z
  size_is = is ∙ ap nat_abs (same32 z held)

  pub bits_room : negative ≡ true → fits16 z ≡ true → size ≤ 65536
  bits_room t f = (bits_below z size size_is (sym t ∙ tells ∙ ap is_negative (same32 z held)) f).0

  pub bits_negative : negative ≡ true → fits16 z ≡ true → Bits z (65536 - size)
  bits_negative t f = (bits_below z size size_is (sym t ∙ tells ∙ ap is_negative (same32 z held)) f).1

  pub bits_positive : negative ≡ false → fits16 z ≡ true → Bits z size
  bits_positive t f = bits_above z size size_is (sym t ∙ tells ∙ ap is_negative (same32 z held)) f

-- ---- stores in a row
pub one_store : (l : List ℕ) (at a : ℕ) → set l at a ≡ laid l at (a ∷ [])
unfolding laid
one_store l at a = refl

pub three_stores : (l : List ℕ) (at k₁ k₂ a b c : ℕ) → k₁ ≡ suc at → k₂ ≡ suc (suc at) → set (set (set l at a) k₁ b) k₂ c ≡ laid l at (a ∷ b ∷ c ∷ [])
unfolding laid
three_stores l at k₁ k₂ a b c e f = rw (e, f)

pub four_stores : (l : List ℕ) (at k₁ k₂ k₃ a b c d : ℕ) → k₁ ≡ suc at → k₂ ≡ suc (suc at) → k₃ ≡ suc (suc (suc at)) → set (set (set (set l at a) k₁ b) k₂ c) k₃ d ≡ laid l at (a ∷ b ∷ c ∷ d ∷ [])
unfolding laid
four_stores l at k₁ k₂ k₃ a b c d e f g = rw (e, f, g)

pub tenor_stores : (l : List ℕ) (at k₁ k₂ u r : ℕ) (tenor : Period) → k₁ ≡ suc at → k₂ ≡ suc (suc at) → u ≡ letter_of tenor.unit → SFits w32 tenor.length → Bits (to_z w32 (of_z w32 tenor.length)) r → set (set (set l at u) k₁ (r / 256)) k₂ (r % 256) ≡ laid l at (tenor_body tenor)
tenor_stores l at k₁ k₂ u r tenor e f g held b =
    let n : r ≡ bits16 tenor.length = b.same ∙ ap bits16 (same32 tenor.length held) in
    three_stores l at k₁ k₂ u (r / 256) (r % 256) e f ∙ (λ i. laid l at (g i ∷ n i / 256 ∷ n i % 256 ∷ []))

-- ---- one run of stores after another
runs : (s t l : List ℕ) (i : ℕ) → sets (sets l i s) (i + length s) t ≡ sets l i (s ++ t)
runs [] t l i = ap (λ (k : ℕ). sets l k t) (add-zero i)
runs (a ∷ s) t l i =
    let e : i + suc (length s) ≡ suc i + length s = omega arith in
    ap (λ (k : ℕ). sets (sets (set l i a) (suc i) s) k t) e ∙ runs s t (set l i a) (suc i)

pub laid_then : (l l₁ l₂ s t : List ℕ) (at k : ℕ) → l₁ ≡ laid l at s → l₂ ≡ laid l₁ k t → k ≡ at + length s → l₂ ≡ laid l at (s ++ t)
unfolding laid
laid_then l l₁ l₂ s t at k e f p = f ∙ ap (λ (x : List ℕ). sets x k t) e ∙ ap (λ (n : ℕ). sets (sets l at s) n t) p ∙ runs s t l at

pub byte_as : (l l' : List ℕ) (at tag b b' : ℕ) → l' ≡ laid l at (spelt tag (b ∷ [])) → b ≡ b' → l' ≡ laid l at (spelt tag (b' ∷ []))
byte_as l l' at tag b b' e p = e ∙ ap (λ (x : ℕ). laid l at (spelt tag (x ∷ []))) p

pub laid_over : (s l l' : List ℕ) → l' ≡ laid l 0 s → length s ≤ length l → l' ≡ over s l
unfolding laid over
laid_over s l l' e h =
    let z : 0 + length s ≡ length s = omega arith in
    e ∙ sets-eq s l 0 (omega (arith, h)) ∙ ap (λ (k : ℕ). s ++ drop k l) z

-- ---- the parts of a request, and the whole
pub closed_laid : (closed l l₁ l₂ l₃ : List ℕ) → l₁ ≡ laid l 54 (head_of 11 (length closed * 4)) → l₂ ≡ laid l₁ 57 (dates_in closed) → l₃ ≡ laid l₂ (57 + length closed * 4) (head_of 255 0) → l₃ ≡ laid l 54 (closed_part closed)
closed_laid closed l l₁ l₂ l₃ e f g =
    let n : length closed * 4 ≡ length (dates_in closed) = sym (dates_long closed) in
    laid_then l l₁ l₃ (head_of 11 (length (dates_in closed))) (dates_in closed ++ head_of 255 0) 54 57 (e ∙ ap (λ (k : ℕ). laid l 54 (head_of 11 k)) n)
    (laid_then l₁ l₂ l₃ (dates_in closed) (head_of 255 0) 57 (57 + length closed * 4) f g (ap (λ (k : ℕ). 57 + k) n))
    refl

module _ (q : Request) (closed l l₁ l₂ l₃ l₄ : List ℕ) (e : l₁ ≡ laid l 0 (dates_part q)) (f : l₂ ≡ laid l₁ 20 (choices_part q)) (g : l₃ ≡ laid l₂ 36 (anchors_part q)) (h : l₄ ≡ laid l₃ 54 (closed_part closed)) where
  whole : l₄ ≡ laid l 0 (bytes_of q closed)
  unfolding bytes_of written fields_in
  whole =
      laid_then l l₁ l₄ (dates_part q) (choices_part q ++ (anchors_part q ++ closed_part closed)) 0 20 e
      (laid_then l₁ l₂ l₄ (choices_part q) (anchors_part q ++ closed_part closed) 20 36 f (laid_then l₂ l₃ l₄ (anchors_part q) (closed_part closed) 36 54 g h refl) refl)
      refl

  pub request_laid : sayable q (length closed) ≡ true → 60 + length closed * 4 ≤ length l → l₄ ≡ over (bytes_of q closed) l
  request_laid can room = laid_over (bytes_of q closed) l l₄ whole (omega (arith, bytes_long q closed can, room))

-- ---- the answer
refuses : {o : Answer (List ℕ)} (r : Refusal) {l : List ℕ} → refused (number_of r) ≡ o → Encodes o (Err r) l l
unfolding encodes bytes_after
refuses r {l} e = record { answer = ap encodes e; bytes = ap (λ (x : Answer (List ℕ)). bytes_after x l) e }

module _ (q : Request) (closed l : List ℕ) {r : Bool} (is : r ≡ sayable q (length closed)) where
  pub encode_unsaid : r ≡ false → Encodes (encoded q closed (length l)) (Err refusal-is.Request) l l
  unfolding encoded
  encode_unsaid t = refuses refusal-is.Request (fails 17 _ _ (sym is ∙ t))

  module _ (t : r ≡ true) where
    pub encode_can : sayable q (length closed) ≡ true
    encode_can = sym is ∙ t

    long : length (bytes_of q closed) ≡ 60 + length closed * 4
    long = bytes_long q closed encode_can

    pub encode_room : length l < 60 + length closed * 4 → Encodes (encoded q closed (length l)) (Err refusal-is.Room) l l
    unfolding encoded
    encode_room h = refuses refusal-is.Room (holds 17 _ _ _ encode_can (fails 14 _ _ (lt-leb (length (bytes_of q closed)) (length l) (omega (arith, long, h)))))

    pub encode_given : 60 + length closed * 4 ≤ length l → {l' : List ℕ} → l' ≡ over (bytes_of q closed) l → Encodes (encoded q closed (length l)) (Ok (60 + length closed * 4)) l l'
    unfolding encoded encodes bytes_after
    encode_given h {l'} e =
        let o : given (bytes_of q closed) ≡ encoded q closed (length l) = holds 17 _ _ _ encode_can (holds 14 _ _ _ (le-leb (length (bytes_of q closed)) (length l) (omega (arith, long, h))) refl) in
        record { answer = ap given (sym long) ∙ ap encodes o; bytes = e ∙ ap (λ (x : Answer (List ℕ)). bytes_after x l) o }

pub ruleset encoding = (encode_unsaid, encode_can, encode_room, encode_given, rules)

-- ---- the dates, one by one
dates_append : (a b : List ℕ) → dates_in (a ++ b) ≡ dates_in a ++ dates_in b
unfolding dates_in
dates_append [] b = refl
dates_append (d ∷ a) b = ap (λ (l : List ℕ). bytes4 d ++ l) (dates_append a b)

dates_more : (closed : List ℕ) (j : ℕ) → j < length closed → dates_in (take j closed) ++ bytes4 (get_or closed j 0) ≡ dates_in (take (j + 1) closed)
unfolding dates_in
dates_more closed j h =
    sym (ap (λ (k : ℕ). dates_in (take k closed)) (add-one j) ∙ ap dates_in (take-suc closed j 0 h) ∙ dates_append (take j closed) (get_or closed j 0 ∷ []))

pub record Worded (l₀ : List ℕ) (at : ℕ) (closed l : List ℕ) (j : ℕ) : Type 0 where
  pub within : j ≤ length closed
  pub long : length l ≡ length l₀
  pub same : l ≡ laid l₀ at (dates_in (take j closed))

pub worded_start : {l closed : List ℕ} {at : ℕ} → Worded l at closed l 0
unfolding dates_in laid
worded_start = record { within = omega arith; long = refl; same = refl }

module _ {l₀ closed l : List ℕ} {at j : ℕ} (w : Worded l₀ at closed l j) where
  pub worded_long : length l ≡ length l₀
  worded_long = w.long

  pub worded_room : at + length closed * 4 ≤ length l₀ → j < length closed → at + j * 4 + 4 ≤ length l
  worded_room h g = omega (arith, w.long, h, g)

  pub worded_more : {l' : List ℕ} → j < length closed → l' ≡ laid l (at + j * 4) (bytes4 (get_or closed j 0)) → length l' ≡ length l → Worded l₀ at closed l' (j + 1)
  worded_more {l'} h e n =
      let so_far : length (dates_in (take j closed)) ≡ j * 4 = dates_long (take j closed) ∙ ap (λ (k : ℕ). k * 4) (length-take-le j closed w.within) in
      record {
        within = omega arith;
        long = n ∙ w.long;
        same =
            laid_then l₀ l l' (dates_in (take j closed)) (bytes4 (get_or closed j 0)) at (at + j * 4) w.same e (ap (λ (k : ℕ). at + k) (sym so_far))
            ∙ ap (laid l₀ at) (dates_more closed j h);
      }

  pub worded_end : length closed ≤ j → l ≡ laid l₀ at (dates_in closed)
  worded_end h =
      let e : j ≡ length closed = le_antisymm w.within h in
      w.same ∙ ap (λ (k : ℕ). laid l₀ at (dates_in (take k closed))) e ∙ ap (λ (x : List ℕ). laid l₀ at (dates_in x)) (take-length closed)

pub ruleset words = (worded_start, worded_long, worded_room, worded_more, worded_end, rules)

pub ruleset sixteen = (bits_room, bits_negative, bits_positive, rules)
