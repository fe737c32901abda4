-- The reader behind any bytes answers what document 01 says of them: `found` is `decoded`.
-- Assumes nothing.
use Prim.Native.Nat.{ℕ, ◌+◌, ◌*◌, ◌/◌, ◌%◌, ◌≤◌, ◌<◌}
use Rattle.std.specs.Prelude.{◌≡◌, Bool, ◌&&◌, leb, ltb, take, drop, set, replicate}
use Rattle.std.proofs.Math.Path.{refl, sym, ap}
use Rattle.std.proofs.Common.{◌∙◌, arith, length-drop, length-append, take-append-drop, length-take-le, get_or-set_same, get_or-set_other, take_at, drop_at}
use Rattle.std.proofs.Math.Bool.{true, false}
use Rattle.std.proofs.lemmas.Bool.{false≢true}
use mathlib.Core.List.{List, [], ◌∷◌, ◌++◌}
use borrow.Author.Tests.{le-leb, lt-leb, leb-true, eqb-true, eqb-false, eq-eqb, ne_eqb, lt-ltb, le-ltb, ltb-true}
use Rattle.std.proofs.Math.Dec.{eqb}
use Rattle.std.proofs.Math.ListN.{length, get_or, length-set}
use Rattle.std.proofs.lemmas.List.{get_or-replicate, drop-append-le, take-append-le}
use Rattle.std.proofs.lemmas.List.Edits.{sets, sets-eq}
use Rattle.std.proofs.Math.Seq.{length-sets}
use Rattle.refusal.specs.Answer.{refused}
use Rattle.refusal.specs.Laws.Answers.{fails, holds}
use Rattle.calendar.specs.Adjust.{conventions}
use Rattle.steps.specs.Rules.{rules}
use Rattle.request.specs.Format.{pick, is_date, is_tenor, is_below, are_dates, body_ok, Field, last_tag, body_or, asked_from}
use Rattle.request.specs.Laws.Picks.{taken, left}
use Rattle.request.specs.Stored.{body_in, widths, width_of, stored}
use Rattle.feeding.specs.declared.State.{State}
use Rattle.feeding.specs.Feed.{size_ok, first_ok, is_whole, found}
use Rattle.feeding.specs.Laws.Field.{begins}

-- ---- a reader that is not sound, or does not stand behind FF, refuses
pub unsound_refuses : (s : State) (l : List ℕ) (room : ℕ) → s.sound ≡ 0 → found s l room ≡ refused 17
unfolding found is_whole
unsound_refuses s l room e = sym (fails 17 _ _ (taken _ _ (eq-eqb _ _ e)))

both_false : (b : Bool) → pick b false false ≡ false
unfolding pick
both_false true = refl
both_false false = refl

pub open_refuses : (s : State) (l : List ℕ) (room : ℕ) → eqb s.phase 5 ≡ false → found s l room ≡ refused 17
unfolding found is_whole
open_refuses s l room e = sym (fails 17 _ _ (ap (pick (eqb s.sound 0) false) e ∙ both_false (eqb s.sound 0)))

pub whole_finds : (s : State) (l : List ℕ) (room : ℕ) → s.sound ≡ 1 → s.phase ≡ 5 → found s l room ≡ asked_from room (stored l s.places (s.size / 4))
unfolding found is_whole
whole_finds s l room e p = sym (holds 17 _ _ _ (left _ _ (ne_eqb s.sound 0 (λ z. omega (arith, e, z))) ∙ eq-eqb _ _ p) refl)

-- ---- a body may be as it is: its length and its first byte
and_true : (a : Bool) → a && true ≡ a
and_true true = refl
and_true false = refl

-- by the tag, one after another
split_1 : (xs : List ℕ) → body_ok 1 xs ≡ size_ok 1 (length xs) && begins 1 xs
unfolding body_ok size_ok begins first_ok is_date is_tenor is_below are_dates rules conventions pick
split_1 [] = refl
split_1 (b ∷ bs) = sym (and_true _)

split_2 : (xs : List ℕ) → body_ok 2 xs ≡ size_ok 2 (length xs) && begins 2 xs
unfolding body_ok size_ok begins first_ok is_date is_tenor is_below are_dates rules conventions pick
split_2 [] = refl
split_2 (b ∷ bs) = sym (and_true _)

split_3 : (xs : List ℕ) → body_ok 3 xs ≡ size_ok 3 (length xs) && begins 3 xs
unfolding body_ok size_ok begins first_ok is_date is_tenor is_below are_dates rules conventions pick
split_3 [] = refl
split_3 (b ∷ bs) = refl

split_4 : (xs : List ℕ) → body_ok 4 xs ≡ size_ok 4 (length xs) && begins 4 xs
unfolding body_ok size_ok begins first_ok is_date is_tenor is_below are_dates rules conventions pick
split_4 [] = refl
split_4 (b ∷ bs) = refl

split_5 : (xs : List ℕ) → body_ok 5 xs ≡ size_ok 5 (length xs) && begins 5 xs
unfolding body_ok size_ok begins first_ok is_date is_tenor is_below are_dates rules conventions pick
split_5 [] = refl
split_5 (b ∷ bs) = refl

split_6 : (xs : List ℕ) → body_ok 6 xs ≡ size_ok 6 (length xs) && begins 6 xs
unfolding body_ok size_ok begins first_ok is_date is_tenor is_below are_dates rules conventions pick
split_6 [] = refl
split_6 (b ∷ bs) = refl

split_7 : (xs : List ℕ) → body_ok 7 xs ≡ size_ok 7 (length xs) && begins 7 xs
unfolding body_ok size_ok begins first_ok is_date is_tenor is_below are_dates rules conventions pick
split_7 [] = refl
split_7 (b ∷ bs) = refl

split_8 : (xs : List ℕ) → body_ok 8 xs ≡ size_ok 8 (length xs) && begins 8 xs
unfolding body_ok size_ok begins first_ok is_date is_tenor is_below are_dates rules conventions pick
split_8 [] = refl
split_8 (b ∷ bs) = sym (and_true _)

split_9 : (xs : List ℕ) → body_ok 9 xs ≡ size_ok 9 (length xs) && begins 9 xs
unfolding body_ok size_ok begins first_ok is_date is_tenor is_below are_dates rules conventions pick
split_9 [] = refl
split_9 (b ∷ bs) = sym (and_true _)

split_10 : (xs : List ℕ) → body_ok 10 xs ≡ size_ok 10 (length xs) && begins 10 xs
unfolding body_ok size_ok begins first_ok is_date is_tenor is_below are_dates rules conventions pick
split_10 [] = refl
split_10 (b ∷ bs) = refl

split_11 : (xs : List ℕ) → body_ok 11 xs ≡ size_ok 11 (length xs) && begins 11 xs
unfolding body_ok size_ok begins first_ok is_date is_tenor is_below are_dates rules conventions pick
split_11 [] = refl
split_11 (b ∷ bs) = sym (and_true _)

split_none : (xs : List ℕ) (tag : ℕ) → 12 ≤ tag → (tag ≡ 255 → ⊥) → body_ok tag xs ≡ size_ok tag (length xs) && begins tag xs
unfolding body_ok size_ok
split_none xs tag h e =
    let none : body_ok tag xs ≡ false = left _ _ (ne_eqb tag 1 (λ q. omega (arith, q, h))) ∙ left _ _ (ne_eqb tag 2 (λ q. omega (arith, q, h))) ∙ left _ _ (ne_eqb tag 3 (λ q. omega (arith, q, h))) ∙ left _ _ (ne_eqb tag 4 (λ q. omega (arith, q, h))) ∙ left _ _ (ne_eqb tag 5 (λ q. omega (arith, q, h))) ∙ left _ _ (ne_eqb tag 6 (λ q. omega (arith, q, h))) ∙ left _ _ (ne_eqb tag 7 (λ q. omega (arith, q, h))) ∙ left _ _ (ne_eqb tag 8 (λ q. omega (arith, q, h))) ∙ left _ _ (ne_eqb tag 9 (λ q. omega (arith, q, h))) ∙ left _ _ (ne_eqb tag 10 (λ q. omega (arith, q, h))) ∙ left _ _ (ne_eqb tag 11 (λ q. omega (arith, q, h))) in
    let size : size_ok tag (length xs) ≡ false = left _ _ (ne_eqb tag 255 e) ∙ left _ _ (ne_eqb tag 11 (λ q. omega (arith, q, h))) ∙ left _ _ (le-ltb tag 11 (omega (arith, h))) in
    none ∙ sym (ap (λ (b : Bool). b && begins tag xs) size)

split_from_11 : (xs : List ℕ) (tag : ℕ) → 11 ≤ tag → (tag ≡ 255 → ⊥) → (b : Bool) → eqb tag 11 ≡ b → body_ok tag xs ≡ size_ok tag (length xs) && begins tag xs
split_from_11 xs tag h e true q = rw (eqb-true tag 11 q) (split_11 xs)
split_from_11 xs tag h e false q = split_none xs tag (omega (arith, h, eqb-false tag 11 q)) e

split_from_10 : (xs : List ℕ) (tag : ℕ) → 10 ≤ tag → (tag ≡ 255 → ⊥) → (b : Bool) → eqb tag 10 ≡ b → body_ok tag xs ≡ size_ok tag (length xs) && begins tag xs
split_from_10 xs tag h e true q = rw (eqb-true tag 10 q) (split_10 xs)
split_from_10 xs tag h e false q = split_from_11 xs tag (omega (arith, h, eqb-false tag 10 q)) e (eqb tag 11) refl

split_from_9 : (xs : List ℕ) (tag : ℕ) → 9 ≤ tag → (tag ≡ 255 → ⊥) → (b : Bool) → eqb tag 9 ≡ b → body_ok tag xs ≡ size_ok tag (length xs) && begins tag xs
split_from_9 xs tag h e true q = rw (eqb-true tag 9 q) (split_9 xs)
split_from_9 xs tag h e false q = split_from_10 xs tag (omega (arith, h, eqb-false tag 9 q)) e (eqb tag 10) refl

split_from_8 : (xs : List ℕ) (tag : ℕ) → 8 ≤ tag → (tag ≡ 255 → ⊥) → (b : Bool) → eqb tag 8 ≡ b → body_ok tag xs ≡ size_ok tag (length xs) && begins tag xs
split_from_8 xs tag h e true q = rw (eqb-true tag 8 q) (split_8 xs)
split_from_8 xs tag h e false q = split_from_9 xs tag (omega (arith, h, eqb-false tag 8 q)) e (eqb tag 9) refl

split_from_7 : (xs : List ℕ) (tag : ℕ) → 7 ≤ tag → (tag ≡ 255 → ⊥) → (b : Bool) → eqb tag 7 ≡ b → body_ok tag xs ≡ size_ok tag (length xs) && begins tag xs
split_from_7 xs tag h e true q = rw (eqb-true tag 7 q) (split_7 xs)
split_from_7 xs tag h e false q = split_from_8 xs tag (omega (arith, h, eqb-false tag 7 q)) e (eqb tag 8) refl

split_from_6 : (xs : List ℕ) (tag : ℕ) → 6 ≤ tag → (tag ≡ 255 → ⊥) → (b : Bool) → eqb tag 6 ≡ b → body_ok tag xs ≡ size_ok tag (length xs) && begins tag xs
split_from_6 xs tag h e true q = rw (eqb-true tag 6 q) (split_6 xs)
split_from_6 xs tag h e false q = split_from_7 xs tag (omega (arith, h, eqb-false tag 6 q)) e (eqb tag 7) refl

split_from_5 : (xs : List ℕ) (tag : ℕ) → 5 ≤ tag → (tag ≡ 255 → ⊥) → (b : Bool) → eqb tag 5 ≡ b → body_ok tag xs ≡ size_ok tag (length xs) && begins tag xs
split_from_5 xs tag h e true q = rw (eqb-true tag 5 q) (split_5 xs)
split_from_5 xs tag h e false q = split_from_6 xs tag (omega (arith, h, eqb-false tag 5 q)) e (eqb tag 6) refl

split_from_4 : (xs : List ℕ) (tag : ℕ) → 4 ≤ tag → (tag ≡ 255 → ⊥) → (b : Bool) → eqb tag 4 ≡ b → body_ok tag xs ≡ size_ok tag (length xs) && begins tag xs
split_from_4 xs tag h e true q = rw (eqb-true tag 4 q) (split_4 xs)
split_from_4 xs tag h e false q = split_from_5 xs tag (omega (arith, h, eqb-false tag 4 q)) e (eqb tag 5) refl

split_from_3 : (xs : List ℕ) (tag : ℕ) → 3 ≤ tag → (tag ≡ 255 → ⊥) → (b : Bool) → eqb tag 3 ≡ b → body_ok tag xs ≡ size_ok tag (length xs) && begins tag xs
split_from_3 xs tag h e true q = rw (eqb-true tag 3 q) (split_3 xs)
split_from_3 xs tag h e false q = split_from_4 xs tag (omega (arith, h, eqb-false tag 3 q)) e (eqb tag 4) refl

split_from_2 : (xs : List ℕ) (tag : ℕ) → 2 ≤ tag → (tag ≡ 255 → ⊥) → (b : Bool) → eqb tag 2 ≡ b → body_ok tag xs ≡ size_ok tag (length xs) && begins tag xs
split_from_2 xs tag h e true q = rw (eqb-true tag 2 q) (split_2 xs)
split_from_2 xs tag h e false q = split_from_3 xs tag (omega (arith, h, eqb-false tag 2 q)) e (eqb tag 3) refl

split_from_1 : (xs : List ℕ) (tag : ℕ) → 1 ≤ tag → (tag ≡ 255 → ⊥) → (b : Bool) → eqb tag 1 ≡ b → body_ok tag xs ≡ size_ok tag (length xs) && begins tag xs
split_from_1 xs tag h e true q = rw (eqb-true tag 1 q) (split_1 xs)
split_from_1 xs tag h e false q = split_from_2 xs tag (omega (arith, h, eqb-false tag 1 q)) e (eqb tag 2) refl

pub body_split : (xs : List ℕ) (tag : ℕ) → 1 ≤ tag → eqb tag 255 ≡ false → body_ok tag xs ≡ size_ok tag (length xs) && begins tag xs
body_split xs tag h e = split_from_1 xs tag h (eqb-false tag 255 e) (eqb tag 1) refl

-- ---- the width of a body that may be
and_first : (a b : Bool) → a && b ≡ true → a ≡ true
and_first true b e = refl
and_first false b e = absurd (false≢true e)

and_second : (a b : Bool) → a && b ≡ true → b ≡ true
and_second true b e = e
and_second false b e = absurd (false≢true e)

pick_true : (a b : Bool) → pick a b false ≡ true → (a ≡ true) × (b ≡ true)
unfolding pick
pick_true true b e = (refl, e)
pick_true false b e = absurd (false≢true e)

module _ (tag n z : ℕ) (ok : size_ok tag n ≡ true) (e : eqb tag 255 ≡ false) where
  fixed : eqb tag 11 ≡ false → (ltb tag 11 ≡ true) × (eqb n (get_or widths tag 0) ≡ true)
  unfolding size_ok
  fixed q = pick_true _ _ (sym (left _ _ e ∙ left _ _ q) ∙ ok)

  fours : eqb tag 11 ≡ true → n % 4 ≡ 0
  unfolding size_ok
  fours q = eqb-true (n % 4) 0 (and_second (leb n 16384) (eqb (n % 4) 0) (sym (left _ _ e ∙ taken _ _ q) ∙ ok))

  few_by : (b : Bool) → eqb tag 11 ≡ b → tag < 12
  few_by true q = omega (arith, eqb-true tag 11 q)
  few_by false q = omega (arith, ltb-true tag 11 (fixed q).0)

  pub few : tag < 12
  few = few_by (eqb tag 11) refl

  width_by : (b : Bool) → eqb tag 11 ≡ b → width_of (pick (eqb tag 11) n z / 4) tag ≡ n
  unfolding width_of
  width_by true q =
      let all : n / 4 * 4 ≡ n = omega (arith, fours q) in
      taken _ _ q ∙ ap (λ (c : ℕ). c / 4 * 4) (taken _ _ q) ∙ all
  width_by false q = left _ _ q ∙ sym (eqb-true n (get_or widths tag 0) (fixed q).1)

  pub width_is : width_of (pick (eqb tag 11) n z / 4) tag ≡ n
  width_is = width_by (eqb tag 11) refl

module _ (tag q n z : ℕ) (apart : eqb tag q ≡ false) where
  same_by : (b : Bool) → eqb tag 11 ≡ b → width_of (pick (eqb tag 11) n z / 4) q ≡ width_of (z / 4) q
  unfolding width_of
  same_by true e =
      let other : eqb q 11 ≡ false = ne_eqb q 11 (λ p. eqb-false tag q apart (eqb-true tag 11 e ∙ sym p)) in
      left _ _ other ∙ sym (left _ _ other)
  same_by false e = ap (λ (c : ℕ). width_of (c / 4) q) (left _ _ e)

  pub width_same : width_of (pick (eqb tag 11) n z / 4) q ≡ width_of (z / 4) q
  width_same = same_by (eqb tag 11) refl

-- ---- bodies that are stored stay where they are
front : (xs ys : List ℕ) (p w : ℕ) → p + w ≤ length xs → take w (drop p (xs ++ ys)) ≡ take w (drop p xs)
front xs ys p w h = ap (take w) (drop-append-le p xs ys (omega arith)) ∙ take-append-le w (drop p xs) ys (omega (arith, length-drop p xs))

module _ (l xs : List ℕ) (k : ℕ) (room : k + length xs ≤ length l) where
  long_k : length (take k l) ≡ k
  long_k = length-take-le k l (omega arith)

  stays : (p w : ℕ) → p + w ≤ k → take w (drop p (sets l k xs)) ≡ take w (drop p l)
  stays p w h =
      ap (λ (s : List ℕ). take w (drop p s)) (sets-eq xs l k room)
      ∙ front (take k l ++ xs) (drop (k + length xs) l) p w (omega (arith, long_k, length-append (take k l) xs))
      ∙ front (take k l) xs p w (omega (arith, long_k))
      ∙ sym (front (take k l) (drop k l) p w (omega (arith, long_k)))
      ∙ ap (λ (s : List ℕ). take w (drop p s)) (take-append-drop k l)

  arrives : take (length xs) (drop k (sets l k xs)) ≡ xs
  arrives =
      ap (λ (s : List ℕ). take (length xs) (drop k s)) (sets-eq xs l k room)
      ∙ ap (take (length xs)) (drop-append-le k (take k l ++ xs) (drop (k + length xs) l) (omega (arith, long_k, length-append (take k l) xs)))
      ∙ ap (λ (s : List ℕ). take (length xs) (s ++ drop (k + length xs) l)) (drop_at (take k l) xs k long_k)
      ∙ take_at xs (drop (k + length xs) l) (length xs) refl

  body_stays : (left_out : List ℕ) (p w : ℕ) → (p + w ≤ 20000 → p + w ≤ k) → (b : Bool) → leb (p + w) 20000 ≡ b → body_in (sets l k xs) left_out p w ≡ body_in l left_out p w
  unfolding body_in
  body_stays left_out p w under true e = taken _ _ e ∙ stays p w (under (leb-true (p + w) 20000 e)) ∙ sym (taken _ _ e)
  body_stays left_out p w under false e = left _ _ e ∙ sym (left _ _ e)

  body_arrives : (left_out : List ℕ) → k + length xs ≤ 20000 → body_in (sets l k xs) left_out k (length xs) ≡ xs
  unfolding body_in
  body_arrives left_out h = taken _ _ (le-leb (k + length xs) 20000 h) ∙ arrives

-- ---- what the reader keeps of sound fields, the latest first
pub record Kept (fs : List Field) (t k n z : ℕ) (ps l : List ℕ) : Type 0 where
  pub tags : last_tag fs ≡ t
  pub bodies : body_or fs ≡ stored l ps (z / 4)
  pub twelve : length ps ≡ 12
  pub low : k ≤ n
  pub long : 20000 ≤ length l
  pub under : (q : ℕ) → q < 12 → get_or ps q 0 + width_of (z / 4) q ≤ 20000 → get_or ps q 0 + width_of (z / 4) q ≤ k

-- none yet
module _ (l : List ℕ) (long : 20000 ≤ length l) where
  abbrev none_yet : List ℕ
  none_yet = replicate 12 65535

  nowhere : (q : ℕ) → q < 12 → get_or none_yet q 0 ≡ 65535
  nowhere q h = get_or-replicate 12 q 65535 0 h

  start_by : (left_out : List ℕ) (q : ℕ) (b : Bool) → ltb q 12 ≡ b → left_out ≡ stored l none_yet 0 left_out q
  unfolding stored body_in
  start_by left_out q true e =
      let p : get_or none_yet q 0 ≡ 65535 = nowhere q (ltb-true q 12 e) in
      sym (taken _ _ e ∙ left _ _ (lt-leb (get_or none_yet q 0 + width_of 0 q) 20000 (omega (arith, p))))
  start_by left_out q false e = sym (left _ _ e)

  pub kept_start : Kept [] 0 0 0 0 none_yet l
  unfolding last_tag body_or
  kept_start = record {
    tags = refl;
    bodies = λ i left_out q. start_by left_out q (ltb q 12) refl i;
    twelve = refl;
    low = omega arith;
    long = long;
    under = λ q h g. absurd (omega (arith, nowhere q h, g));
  }

-- one more
module _ {fs : List Field} {t k n z : ℕ} {ps l : List ℕ} (g : Kept fs t k n z ps l) (tag : ℕ) (xs : List ℕ) (ok : size_ok tag (length xs) ≡ true) (e : eqb tag 255 ≡ false) (room : n + 3 + length xs ≤ 20000) where
  abbrev put : Field
  put = record { tag = tag; body = xs }

  abbrev z'' : ℕ
  z'' = pick (eqb tag 11) (length xs) z

  fits : k + length xs ≤ length l
  fits = omega (arith, g.low, g.long, room)

  here : get_or (set ps tag k) tag 0 ≡ k
  here = get_or-set_same ps tag k 0 (omega (arith, g.twelve, few tag (length xs) z ok e))

  other : (q : ℕ) → eqb tag q ≡ false → get_or (set ps tag k) q 0 ≡ get_or ps q 0
  other q a = get_or-set_other ps tag q k 0 (λ p. eqb-false tag q a (sym p))

  here_body : (left_out : List ℕ) → xs ≡ stored (sets l k xs) (set ps tag k) (z'' / 4) left_out tag
  unfolding stored
  here_body left_out =
      sym (taken _ _ (lt-ltb tag 12 (few tag (length xs) z ok e))
      ∙ ap (λ (p : ℕ). body_in (sets l k xs) left_out p (width_of (z'' / 4) tag)) here
      ∙ ap (body_in (sets l k xs) left_out k) (width_is tag (length xs) z ok e)
      ∙ body_arrives l xs k fits left_out (omega (arith, g.low, room)))

  other_body : (left_out : List ℕ) (q : ℕ) → eqb tag q ≡ false → (b : Bool) → ltb q 12 ≡ b → stored l ps (z / 4) left_out q ≡ stored (sets l k xs) (set ps tag k) (z'' / 4) left_out q
  unfolding stored
  other_body left_out q a true c =
      taken _ _ c
      ∙ sym (taken _ _ c
      ∙ ap (λ (p : ℕ). body_in (sets l k xs) left_out p (width_of (z'' / 4) q)) (other q a)
      ∙ ap (body_in (sets l k xs) left_out (get_or ps q 0)) (width_same tag q (length xs) z a)
      ∙ body_stays l xs k fits left_out (get_or ps q 0) (width_of (z / 4) q) (g.under q (ltb-true q 12 c)) (leb (get_or ps q 0 + width_of (z / 4) q) 20000) refl)
  other_body left_out q a false c = left _ _ c ∙ sym (left _ _ c)

  bodies_by : (left_out : List ℕ) (q : ℕ) (b : Bool) → eqb tag q ≡ b → body_or (put ∷ fs) left_out q ≡ stored (sets l k xs) (set ps tag k) (z'' / 4) left_out q
  unfolding body_or
  bodies_by left_out q true a = taken _ _ a ∙ here_body left_out ∙ ap (stored (sets l k xs) (set ps tag k) (z'' / 4) left_out) (eqb-true tag q a)
  bodies_by left_out q false a = left _ _ a ∙ ap (λ (body : List ℕ → ℕ → List ℕ). body left_out q) g.bodies ∙ other_body left_out q a (ltb q 12) refl

  under_by : (q : ℕ) → q < 12 → (b : Bool) → eqb tag q ≡ b → get_or (set ps tag k) q 0 + width_of (z'' / 4) q ≤ 20000 → get_or (set ps tag k) q 0 + width_of (z'' / 4) q ≤ k + length xs
  under_by q h true a c =
      let p : get_or (set ps tag k) q 0 ≡ k = ap (λ (y : ℕ). get_or (set ps tag k) y 0) (sym (eqb-true tag q a)) ∙ here in
      let w : width_of (z'' / 4) q ≡ length xs = ap (width_of (z'' / 4)) (sym (eqb-true tag q a)) ∙ width_is tag (length xs) z ok e in
      omega (arith, p, w)
  under_by q h false a c =
      let p : get_or (set ps tag k) q 0 ≡ get_or ps q 0 = other q a in
      let w : width_of (z'' / 4) q ≡ width_of (z / 4) q = width_same tag q (length xs) z a in
      let u : get_or ps q 0 + width_of (z / 4) q ≤ k = g.under q h (omega (arith, p, w, c)) in
      omega (arith, p, w, u)

  pub kept_next : Kept (put ∷ fs) tag (k + length xs) (n + 3 + length xs) z'' (set ps tag k) (sets l k xs)
  unfolding last_tag
  kept_next = record {
    tags = refl;
    bodies = λ i left_out q. bodies_by left_out q (eqb tag q) refl i;
    twelve = length-set ps tag k ∙ g.twelve;
    low = omega (arith, g.low);
    long = omega (arith, g.long, length-sets l k xs);
    under = λ q h c. under_by q h (eqb tag q) refl c;
  }
