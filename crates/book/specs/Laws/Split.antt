-- Bytes are parted into requests in one way: they are a book of requests exactly if they are these requests, each led by its length.
-- Assumes nothing.
use Rattle.std.specs.Prelude.{ℕ, zero, suc, ◌+◌, ◌*◌, ◌/◌, ◌%◌, ◌≤◌, ◌<◌, ◌≡◌, refl, ◌↔◌, Bool, true, false, take}
use Rattle.std.proofs.Math.Path.{ap, sym}
use Rattle.std.proofs.Common.{subst, ◌∙◌, arith, div-add-mod', length-append, take-append-drop, drop-drop, take_at, drop_at, length-take-le, le-leb}
use mathlib.Core.List.{List, [], ◌∷◌, ◌++◌}
use Rattle.std.proofs.Math.ListN.{length, drop}
use Rattle.refusal.specs.Answer.{Answer, given, refused, need, then, BATCH}
use Rattle.refusal.specs.Laws.Answers.{holds, one_given, never_both, then_given}
use Rattle.book.specs.Framing.{MOST, size_of, body_of, behind, unless_cut, or_none, requests_from, requests_in, led, bytes_of, Sayable, no_requests, request, Bytes, no_bytes, byte}
use Rattle.book.specs.Laws.Framing.{took, none_left}

-- ---- requests, each led by its length, are a book of them
module _ (r rest : List ℕ) where
  abbrev both : List ℕ
  both = length r / 256 ∷ length r % 256 ∷ (r ++ rest)

  size_is : size_of both ≡ length r
  size_is = div-add-mod' (length r) 256

  body_is : body_of both ≡ r
  body_is = ap (λ (n : ℕ). take n (r ++ rest)) size_is ∙ take_at r rest (length r) refl

  behind_is : behind both ≡ rest
  behind_is = sym (drop-drop (size_of both) 2 both) ∙ ap (λ (n : ℕ). drop n (r ++ rest)) size_is ∙ drop_at r rest (length r) refl

  whole : 2 + size_of both ≤ length both
  whole = let s = size_is in let l = length-append r rest in omega (arith, s, l)

  stands : (on : List ℕ → Answer (List (List ℕ))) (rs : List (List ℕ)) → on rest ≡ given rs → unless_cut both on ≡ given (r ∷ rs)
  unfolding unless_cut
  stands on rs e =
      let w = whole in
      let l : 2 ≤ length both = omega (arith, w) in
      let b = body_is in
      let o : on (behind both) ≡ given rs = ap on behind_is ∙ e in
      sym (holds BATCH _ _ _ (le-leb 2 (length both) l) (holds BATCH _ _ _ (le-leb (2 + size_of both) (length both) w) (then_given (on (behind both)) rs _ _ o (ap (λ (x : List ℕ). given (x ∷ rs)) (sym b)))))

pub parted : (rs : List (List ℕ)) (left : ℕ) → length rs ≤ left → requests_from left (bytes_of rs) ≡ given rs
unfolding requests_from or_none bytes_of led
parted [] zero h = refl
parted [] (suc left) h = refl
parted (r ∷ rs) zero h = absurd (let bad : ⊥ = omega arith in bad)
parted (r ∷ rs) (suc left) h = stands r (bytes_of rs) (requests_from left) rs (parted rs left (omega arith))

-- two splits of the same bytes are one
pub split_once : (rs rs' : List (List ℕ)) → bytes_of rs ≡ bytes_of rs' → rs ≡ rs'
split_once rs rs' e =
    one_given (requests_from (length rs + length rs') (bytes_of rs)) rs rs' (parted rs (length rs + length rs') (omega arith)) (ap (requests_from (length rs + length rs')) e ∙ parted rs' (length rs + length rs') (omega arith))

-- ---- a book is its requests, each led by its length
pub record Is (left : ℕ) (s : List ℕ) (rs : List (List ℕ)) : Type 0 where
  pub bytes : bytes_of rs ≡ s
  pub few : length rs ≤ left
  pub sayable : Sayable rs

drop_bytes : (n : ℕ) (s : List ℕ) → Bytes s → Bytes (drop n s)
drop_bytes zero s b = b
drop_bytes (suc n) [] b = no_bytes
drop_bytes (suc n) (x ∷ s) (byte h b) = drop_bytes n s b

module _ (high low : ℕ) (t : List ℕ) (h : high < 256) (l : low < 256) (fits : 2 + size_of (high ∷ low ∷ t) ≤ length (high ∷ low ∷ t)) where
  abbrev all : List ℕ
  all = high ∷ low ∷ t

  long : length (body_of all) ≡ high * 256 + low
  long = let f = fits in length-take-le (high * 256 + low) t (omega (arith, f))

  again : led (body_of all) ++ behind all ≡ all
  unfolding led
  again =
      let a : length (body_of all) / 256 ≡ high = ap (λ (n : ℕ). n / 256) long ∙ omega (arith, l) in
      let b : length (body_of all) % 256 ≡ low = ap (λ (n : ℕ). n % 256) long ∙ omega (arith, l) in
      let c : behind all ≡ drop (high * 256 + low) t = sym (drop-drop (high * 256 + low) 2 all) in
      rw (a, b, c) (ap (λ (x : List ℕ). high ∷ low ∷ x) (take-append-drop (high * 256 + low) t))

  small : length (body_of all) < 65536
  small = let n = long in omega (arith, n, h, l)

no_requests_in : (left : ℕ) (rs : List (List ℕ)) → requests_from left [] ≡ given rs → Is left [] rs
unfolding bytes_of
no_requests_in left rs e = subst (λ (x : List (List ℕ)). Is left [] x) (none_left left [] rs refl e) (record { bytes = refl; few = omega arith; sayable = no_requests })

one_on : (left high low : ℕ) (t : List ℕ) (others : List (List ℕ)) → high < 256 → low < 256 → Is left (behind (high ∷ low ∷ t)) others → 2 + size_of (high ∷ low ∷ t) ≤ length (high ∷ low ∷ t) → Is (suc left) (high ∷ low ∷ t) (body_of (high ∷ low ∷ t) ∷ others)
unfolding bytes_of
one_on left high low t others h l i w =
    let f = i.few in
    record {
      bytes = ap (λ (z : List ℕ). led (body_of (high ∷ low ∷ t)) ++ z) i.bytes ∙ again high low t h l w;
      few = omega (arith, f);
      sayable = request (small high low t h l w) i.sayable;
    }

is_on : (left : ℕ) → ((s : List ℕ) (rs : List (List ℕ)) → Bytes s → requests_from left s ≡ given rs → Is left s rs) → (s : List ℕ) (rs : List (List ℕ)) → Bytes s → requests_from (suc left) s ≡ given rs → Is (suc left) s rs
is_on left on [] rs b e = no_requests_in (suc left) rs e
is_on left on (x ∷ []) rs b e =
    let t = took (suc left) (x ∷ []) rs (omega arith) e in
    let k = t.led in
    let bad : ⊥ = omega (arith, k) in
    absurd bad
is_on left on (x ∷ y ∷ s) rs (byte h (byte l b)) e =
    let t = took (suc left) (x ∷ y ∷ s) rs (omega arith) e in
    let m : t.more ≡ left = let k = t.one_more in omega (arith, k) in
    let o : requests_from left (behind (x ∷ y ∷ s)) ≡ given t.others = ap (λ (k : ℕ). requests_from k (behind (x ∷ y ∷ s))) (sym m) ∙ t.onward in
    let i = on (behind (x ∷ y ∷ s)) t.others (drop_bytes (2 + size_of (x ∷ y ∷ s)) (x ∷ y ∷ s) (byte h (byte l b))) o in
    subst (λ (z : List (List ℕ)). Is (suc left) (x ∷ y ∷ s) z) t.first (one_on left x y s t.others h l i t.whole)

none_on : (s : List ℕ) (rs : List (List ℕ)) → requests_from 0 s ≡ given rs → Is 0 s rs
none_on [] rs e = no_requests_in 0 rs e
none_on (x ∷ s) rs e =
    let t = took 0 (x ∷ s) rs (omega arith) e in
    let k = t.one_more in
    let m = t.more in
    let bad : ⊥ = omega (arith, k) in
    absurd bad

is_book : (left : ℕ) (s : List ℕ) (rs : List (List ℕ)) → Bytes s → requests_from left s ≡ given rs → Is left s rs
is_book zero s rs b e = none_on s rs e
is_book (suc left) s rs b e = is_on left (is_book left) s rs b e

pub exactly : (s : List ℕ) (rs : List (List ℕ)) → Bytes s → (requests_in s ≡ given rs) ↔ Is MOST s rs
unfolding requests_in
exactly s rs b = (is_book MOST s rs b, λ i. ap (requests_from MOST) (sym i.bytes) ∙ parted rs MOST i.few)

-- every other input is refused with 20
batch : (n : ℕ) → ◌≡◌ {A = Answer (List (List ℕ))} (refused BATCH) (refused n) → n ≡ BATCH
batch n e = cc

given_not : {P : Type 0} (rs : List (List ℕ)) (n : ℕ) → given rs ≡ refused n → P
given_not rs n e = absurd (never_both (given rs) rs n refl e)

need_batch : (b : Bool) (x : Answer (List (List ℕ))) (n : ℕ) → need BATCH b x ≡ refused n → (x ≡ refused n → n ≡ BATCH) → n ≡ BATCH
unfolding need
need_batch true x n e h = h e
need_batch false x n e h = batch n e

then_back : (r : List ℕ) (x : Answer (List (List ℕ))) (n : ℕ) → then x (λ rs. given (r ∷ rs)) ≡ refused n → x ≡ refused n
unfolding then
then_back r (given rs) n e = given_not (r ∷ rs) n e
then_back r (refused m) n e = e

pub else_batch : (left : ℕ) (s : List ℕ) (n : ℕ) → requests_from left s ≡ refused n → n ≡ BATCH
unfolding requests_from or_none unless_cut
else_batch zero [] n e = given_not [] n e
else_batch zero (b ∷ s) n e = batch n e
else_batch (suc left) [] n e = given_not [] n e
else_batch (suc left) (b ∷ s) n e =
    need_batch _ _ n e (λ f. need_batch _ _ n f (λ g. else_batch left (behind (b ∷ s)) n (then_back (body_of (b ∷ s)) _ n g)))
