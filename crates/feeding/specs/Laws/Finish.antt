-- The finish answers what document 01 says of the bytes: `found` is `decoded`.
-- Assumes nothing.
use Rattle.std.specs.Prelude.{ℕ, zero, suc, ◌+◌, ◌-◌, ◌/◌, ◌≤◌, ◌<◌, ◌≡◌, Bool, ◌&&◌, leb, length, take, drop}
use Rattle.std.proofs.Math.Path.{refl, sym, ap}
use Rattle.std.proofs.Common.{◌∙◌, arith, length-take, length-drop, take-append-drop}
use Rattle.std.proofs.Math.Bool.{true, false}
use Rattle.std.proofs.lemmas.Bool.{false≢true}
use mathlib.Core.List.{List, [], ◌∷◌}
use borrow.Author.Tests.{le-leb, lt-leb, leb-true, leb-false, eqb-true, ne_eqb, ltb-true}
use Rattle.std.proofs.Math.Dec.{eqb, ltb}
use Rattle.std.proofs.Math.ListN.{set}
use Rattle.std.proofs.lemmas.List.Edits.{sets}
use Rattle.std.proofs.Math.Seq.{set_out}
use Rattle.refusal.specs.Answer.{Answer, given, refused, need, then}
use Rattle.refusal.specs.Laws.Answers.{fails, holds}
use Rattle.request.specs.Format.{pick, two, body_ok, Field, Cut, cut_at, cut_of, is_end, on_field, on_cut, fields_from, Asked, asked_from, asked_in, decoded}
use Rattle.request.specs.Laws.Picks.{taken, left}
use Rattle.request.specs.Stored.{stored}
use Rattle.feeding.specs.declared.State.{State}
use Rattle.feeding.specs.Feed.{at, fresh, size_ok, eat_of, eaten, laid, found}
use Rattle.feeding.specs.Laws.Cut.{eaten_cut}
use Rattle.feeding.specs.Laws.Run.{goes_on}
use Rattle.feeding.specs.Laws.Eat.{settled_has, fed_eaten, unsound, past_eaten, past_laid, over_eaten}
use Rattle.feeding.specs.Laws.Field.{phase_behind, begins, behind, eat_1, eat_2, field_eaten}
use Rattle.feeding.specs.Laws.Bodies.{drop_head, size_is, field_cut, field_cut_laid, closing, behind_last, behind_next}
use Rattle.feeding.specs.Laws.Whole.{unsound_refuses, open_refuses, whole_finds, body_split, Kept, kept_start, kept_next}

-- ---- sound only where all three tests hold
first_fails : (a b : Bool) (c : Bool) → c ≡ false → pick {A = ℕ} a (pick b (pick c 1 0) 0) 0 ≡ 0
unfolding pick
first_fails true true c e = rw e
first_fails true false c e = refl
first_fails false b c e = refl

second_fails : (a b : Bool) (x : ℕ) → b ≡ false → pick a (pick b x 0) 0 ≡ 0
unfolding pick
second_fails true b x e = rw e
second_fails false b x e = refl

third_fails : (a : Bool) (x : ℕ) → a ≡ false → pick a x 0 ≡ 0
unfolding pick
third_fails a x e = rw e

all_hold : (a b c : Bool) → a ≡ true → b ≡ true → c ≡ true → pick {A = ℕ} a (pick b (pick c 1 0) 0) 0 ≡ 1
unfolding pick
all_hold a b c p q r = rw (p, q, r)

and_false : (a b : Bool) → a && b ≡ false → (x : ℕ) → pick b (pick a x 0) 0 ≡ 0
unfolding pick
and_false true true e x = absurd (false≢true (sym e))
and_false true false e x = refl
and_false false true e x = refl
and_false false false e x = refl

and_both : (a b : Bool) → a && b ≡ true → (a ≡ true) × (b ≡ true)
and_both true true e = (refl, refl)
and_both true false e = absurd (false≢true e)
and_both false b e = absurd (false≢true e)

-- ---- an answer that is refused either way
abbrev ans : ℕ → Answer (List Field) → Answer Asked
ans room o = then o (asked_in room)

refused_both : (room : ℕ) {o : Answer (List Field)} (y : Answer Asked) → o ≡ refused 17 → y ≡ refused 17 → ans room o ≡ y
unfolding then
refused_both room y e q = ap (ans room) e ∙ sym q

open_behind : (xs : List ℕ) → eqb (phase_behind xs) 5 ≡ false
unfolding phase_behind
open_behind [] = refl
open_behind (b ∷ bs) = refl

nil_of : (xs : List ℕ) → length xs ≡ 0 → xs ≡ []
nil_of [] e = refl
nil_of (b ∷ bs) e = absurd (omega (arith, e))

begins_nil : (tag : ℕ) (xs : List ℕ) → length xs ≡ 0 → begins tag xs ≡ true
unfolding begins
begins_nil tag [] e = refl
begins_nil tag (b ∷ bs) e = absurd (omega (arith, e))

-- ---- one field
module _ (room fuel : ℕ) (fs : List Field) (t h f d k n z : ℕ) (ps l : List ℕ) (g : Kept fs t k n z ps l) (tag hi lo : ℕ) (rest : List ℕ) (short : n + length (tag ∷ hi ∷ lo ∷ rest) ≤ 20000) where
  abbrev s₀ : State
  s₀ = at 0 t h 1 f d k n z ps

  abbrev w : List ℕ
  w = tag ∷ hi ∷ lo ∷ rest

  abbrev m : ℕ
  m = two hi lo

  abbrev xs : List ℕ
  xs = take m rest

  abbrev rest' : List ℕ
  rest' = drop m rest

  abbrev Same : Type 0
  Same = ans room (fields_from (suc fuel) fs w) ≡ found (eaten s₀ w) (laid s₀ w l) room

  header : cut_of w ≡ need 17 (leb (3 + m) (length w)) (given (cut_at w))
  unfolding cut_of
  header = sym (holds 17 _ _ _ (le-leb 3 (length w) (omega arith)) refl)

  cut_off : length rest < m → fields_from (suc fuel) fs w ≡ refused 17
  unfolding fields_from then
  cut_off less = ap (λ (c : Answer Cut). then c (on_cut fs (fields_from fuel))) (header ∙ sym (fails 17 _ _ (lt-leb (3 + m) (length w) (omega arith))))

  cut_short : length rest < m → Same
  cut_short less =
      let due : m - length rest ≡ 0 → ⊥ = λ e. omega (arith, e, less) in
      let e : eaten s₀ w ≡ behind t h 1 f d k n z ps tag hi lo rest = field_eaten t h 1 f d k n z ps tag hi lo (omega arith) rest (omega arith) (omega arith) (omega (arith, g.low)) in
      refused_both room (found (eaten s₀ w) (laid s₀ w l) room) (cut_off less)
      (open_refuses (eaten s₀ w) (laid s₀ w l) room (ap (λ (s : State). eqb s.phase 5) (e ∙ goes_on _ due) ∙ open_behind rest))

  module _ (fits : m ≤ length rest) where
    abbrev c' : Cut
    c' = record { field = record { tag = tag; body = xs }; rest = rest' }

    size : length xs ≡ m
    size = size_is fuel t h 1 f d k n z ps tag hi lo rest l short g.low fits

    cut_on : fields_from (suc fuel) fs w ≡ on_cut fs (fields_from fuel) c'
    unfolding fields_from then
    cut_on =
        ap (λ (c : Answer Cut). then c (on_cut fs (fields_from fuel))) (header ∙ sym (holds 17 _ _ _ (le-leb (3 + m) (length w) (omega arith)) refl))
        ∙ ap (λ (r : List ℕ). on_cut fs (fields_from fuel) (record { field = record { tag = tag; body = xs }; rest = r })) (drop_head m tag hi lo rest)

    abbrev x'' : ℕ
    x'' = pick (begins tag xs) (pick (size_ok tag m) (pick (ltb t tag) 1 0) 0) 0

    behind_sound : (behind t h 1 f d k n z ps tag hi lo xs).sound ≡ x''
    behind_sound = settled_has (λ (s : State). s.sound ≡ x'') _ refl refl refl

    now : eaten s₀ w ≡ eaten (behind t h 1 f d k n z ps tag hi lo xs) rest'
    now = field_cut fuel t h 1 f d k n z ps tag hi lo rest l short g.low fits

    laid_now : laid s₀ w l ≡ laid (behind t h 1 f d k n z ps tag hi lo xs) rest' (sets l k xs)
    laid_now = field_cut_laid fuel t h 1 f d k n z ps tag hi lo rest l short g.low fits

    -- what is not sound is refused either way
    spoils : x'' ≡ 0 → fields_from (suc fuel) fs w ≡ refused 17 → Same
    spoils e refuses =
        refused_both room (found (eaten s₀ w) (laid s₀ w l) room) refuses
        (unsound_refuses (eaten s₀ w) (laid s₀ w l) room (ap (λ (s : State). s.sound) now ∙ unsound (behind t h 1 f d k n z ps tag hi lo xs) rest' (behind_sound ∙ e)))

    out_of_order : ltb t tag ≡ false → Same
    unfolding on_cut
    out_of_order e = spoils (first_fails (begins tag xs) (size_ok tag m) (ltb t tag) e) (cut_on ∙ sym (fails 17 _ _ (ap (λ (y : ℕ). ltb y tag) g.tags ∙ e)))

    module _ (lt : ltb t tag ≡ true) where
      field_next : fields_from (suc fuel) fs w ≡ on_field (eqb tag 255) fs c' (fields_from fuel)
      unfolding on_cut
      field_next = cut_on ∙ sym (holds 17 _ _ _ (ap (λ (y : ℕ). ltb y tag) g.tags ∙ lt) refl)

      -- FF
      module _ (last : eqb tag 255 ≡ true) where
        last_next : fields_from (suc fuel) fs w ≡ need 17 (is_end c') (given fs)
        unfolding on_field
        last_next = field_next ∙ ap (λ (b : Bool). on_field b fs c' (fields_from fuel)) last

        size_last : size_ok tag m ≡ eqb m 0
        unfolding size_ok
        size_last = taken _ _ last

        last_body : eqb m 0 ≡ false → Same
        unfolding is_end
        last_body e = spoils (second_fails (begins tag xs) (size_ok tag m) _ (size_last ∙ e)) (last_next ∙ sym (fails 17 _ _ (ap (λ (b : Bool). b && eqb (length rest') 0) (ap (λ (y : ℕ). eqb y 0) size ∙ e))))

        module _ (none : eqb m 0 ≡ true) where
          empty : length xs ≡ 0
          empty = size ∙ eqb-true m 0 none

          sound_last : x'' ≡ 1
          sound_last = all_hold (begins tag xs) (size_ok tag m) (ltb t tag) (begins_nil tag xs empty) (size_last ∙ none) lt

          abbrev ended : State
          ended = closing fuel t h 1 f d k n z ps tag hi lo rest l short g.low fits 5

          now_ended : behind t h 1 f d k n z ps tag hi lo xs ≡ ended
          now_ended = behind_last fuel t h 1 f d k n z ps tag hi lo rest l short g.low fits last

          ends_here : (r : List ℕ) → rest' ≡ r → Same
          unfolding is_end then asked_in eaten
          ends_here [] e =
              let state : eaten s₀ w ≡ ended = now ∙ ap (λ (s : State). eaten s rest') now_ended ∙ ap (eaten ended) e in
              let buffer : laid s₀ w l ≡ l = laid_now ∙ ap (λ (s : State). laid s rest' (sets l k xs)) now_ended ∙ past_laid ended rest' (sets l k xs) refl ∙ ap (sets l k) (nil_of xs empty) in
              let far : 12 ≤ tag = omega (arith, eqb-true tag 255 last) in
              let places : set ps tag k ≡ ps = set_out ps tag k (omega (arith, g.twelve, far)) in
              let dates : pick (eqb tag 11) m z ≡ z = left _ _ (ne_eqb tag 11 (λ q. omega (arith, q, far))) in
              let ok : is_end c' ≡ true = ap (λ (y : ℕ). eqb y 0 && eqb (length rest') 0) empty ∙ ap (λ (y : List ℕ). eqb (length y) 0) e in
              ap (ans room) (last_next ∙ sym (holds 17 _ _ _ ok refl))
              ∙ ap (asked_from room) g.bodies
              ∙ sym (ap (λ (s : State). found s (laid s₀ w l) room) state ∙ ap (λ (y : List ℕ). found ended y room) buffer ∙ whole_finds ended l room sound_last refl
              ∙ ap (λ (y : List ℕ). asked_from room (stored l y (pick (eqb tag 11) m z / 4))) places ∙ ap (λ (y : ℕ). asked_from room (stored l ps (y / 4))) dates)
          ends_here (b ∷ bs) e =
              let state : eaten s₀ w ≡ eaten ended (b ∷ bs) = now ∙ ap (λ (s : State). eaten s rest') now_ended ∙ ap (eaten ended) e in
              let more : is_end c' ≡ false = ap (λ (y : ℕ). eqb y 0 && eqb (length rest') 0) empty ∙ ap (λ (y : List ℕ). eqb (length y) 0) e ∙ ne_eqb (length (b ∷ bs)) 0 (λ q. omega (arith, q)) in
              refused_both room (found (eaten s₀ w) (laid s₀ w l) room) (last_next ∙ sym (fails 17 _ _ more))
              (unsound_refuses (eaten s₀ w) (laid s₀ w l) room (ap (λ (s : State). s.sound) state ∙ past_eaten ended b bs refl))

        last_by : (b : Bool) → eqb m 0 ≡ b → Same
        last_by true e = ends_here e rest' refl
        last_by false e = last_body e

      -- another field
      module _ (next : eqb tag 255 ≡ false) where
        on_next : fields_from (suc fuel) fs w ≡ need 17 (body_ok tag xs) (fields_from fuel (record { tag = tag; body = xs } ∷ fs) rest')
        unfolding on_field
        on_next = field_next ∙ ap (λ (b : Bool). on_field b fs c' (fields_from fuel)) next

        split : body_ok tag xs ≡ size_ok tag m && begins tag xs
        split = body_split xs tag (omega (arith, ltb-true t tag lt)) next ∙ ap (λ (y : ℕ). size_ok tag y && begins tag xs) size

        bad_body : body_ok tag xs ≡ false → Same
        bad_body e = spoils (and_false (size_ok tag m) (begins tag xs) (sym split ∙ e) _) (on_next ∙ sym (fails 17 _ _ e))

        good_body : ((fs₁ : List Field) (t₁ h₁ d₁ k₁ n₁ z₁ : ℕ) (ps₁ l₁ : List ℕ) → Kept fs₁ t₁ k₁ n₁ z₁ ps₁ l₁ → n₁ + length rest' ≤ 20000
            → ans room (fields_from fuel fs₁ rest') ≡ found (eaten (at 0 t₁ h₁ 1 f d₁ k₁ n₁ z₁ ps₁) rest') (laid (at 0 t₁ h₁ 1 f d₁ k₁ n₁ z₁ ps₁) rest' l₁) room)
            → body_ok tag xs ≡ true → Same
        good_body again e =
            let ok = and_both (size_ok tag m) (begins tag xs) (sym split ∙ e) in
            let good : x'' ≡ 1 = all_hold (begins tag xs) (size_ok tag m) (ltb t tag) ok.1 ok.0 lt in
            let there : behind t h 1 f d k n z ps tag hi lo xs ≡ at 0 tag hi 1 f (m - length xs) (k + length xs) (n + 3 + length xs) (pick (eqb tag 11) (length xs) z) (set ps tag k) =
            behind_next fuel t h 1 f d k n z ps tag hi lo rest l short g.low fits next ∙ (λ i. at 0 tag hi (good i) f (m - length xs) (k + length xs) (n + 3 + length xs) (pick (eqb tag 11) (sym size i) z) (set ps tag k)) in
            let kept : Kept (record { tag = tag; body = xs } ∷ fs) tag (k + length xs) (n + 3 + length xs) (pick (eqb tag 11) (length xs) z) (set ps tag k) (sets l k xs) =
            kept_next g tag xs (ap (size_ok tag) size ∙ ok.0) next (omega (arith, size, short, fits)) in
            ap (ans room) (on_next ∙ sym (holds 17 _ _ _ e refl))
            ∙ again (record { tag = tag; body = xs } ∷ fs) tag hi (m - length xs) (k + length xs) (n + 3 + length xs) (pick (eqb tag 11) (length xs) z) (set ps tag k) (sets l k xs) kept (omega (arith, size, short, fits, length-drop m rest))
            ∙ sym (ap (λ (s : State). found s (laid s₀ w l) room) (now ∙ ap (λ (s : State). eaten s rest') there) ∙ ap (λ (y : List ℕ). found (eaten (at 0 tag hi 1 f (m - length xs) (k + length xs) (n + 3 + length xs) (pick (eqb tag 11) (length xs) z) (set ps tag k)) rest') y room) (laid_now ∙ ap (λ (s : State). laid s rest' (sets l k xs)) there))

  abbrev Again : Type 0
  Again = (fs₁ : List Field) (t₁ h₁ d₁ k₁ n₁ z₁ : ℕ) (ps₁ l₁ : List ℕ) → Kept fs₁ t₁ k₁ n₁ z₁ ps₁ l₁ → n₁ + length rest' ≤ 20000
      → ans room (fields_from fuel fs₁ rest') ≡ found (eaten (at 0 t₁ h₁ 1 f d₁ k₁ n₁ z₁ ps₁) rest') (laid (at 0 t₁ h₁ 1 f d₁ k₁ n₁ z₁ ps₁) rest' l₁) room

  body_by : (fits : m ≤ length rest) → ltb t tag ≡ true → eqb tag 255 ≡ false → Again → (b : Bool) → body_ok tag xs ≡ b → Same
  body_by fits lt next again true e = good_body fits lt next again e
  body_by fits lt next again false e = bad_body fits lt next e

  tag_by : (fits : m ≤ length rest) → ltb t tag ≡ true → Again → (b : Bool) → eqb tag 255 ≡ b → Same
  tag_by fits lt again true e = last_by fits lt e (eqb m 0) refl
  tag_by fits lt again false e = body_by fits lt e again (body_ok tag xs) refl

  order_by : (fits : m ≤ length rest) → Again → (b : Bool) → ltb t tag ≡ b → Same
  order_by fits again true e = tag_by fits e again (eqb tag 255) refl
  order_by fits again false e = out_of_order fits e

  field_same : Again → (b : Bool) → leb m (length rest) ≡ b → Same
  field_same again true e = order_by (leb-true m (length rest) e) again (ltb t tag) refl
  field_same again false e = cut_short (leb-false m (length rest) e)

-- ---- all fields
few_refuse : (fuel : ℕ) (fs : List Field) (w : List ℕ) → length w < 3 → fields_from (suc fuel) fs w ≡ refused 17
unfolding fields_from cut_of then
few_refuse fuel fs w h = ap (λ (c : Answer Cut). then c (on_cut fs (fields_from fuel))) (sym (fails 17 _ _ (lt-leb 3 (length w) h)))

read_same : (room fuel : ℕ) (fs : List Field) (t h f d k n z : ℕ) (ps l w : List ℕ) → Kept fs t k n z ps l → length w < fuel → n + length w ≤ 20000
    → ans room (fields_from fuel fs w) ≡ found (eaten (at 0 t h 1 f d k n z ps) w) (laid (at 0 t h 1 f d k n z ps) w l) room
unfolding eaten
read_same room zero fs t h f d k n z ps l w g some short = absurd (omega arith)
read_same room (suc fuel) fs t h f d k n z ps l [] g some short =
    refused_both room _ (few_refuse fuel fs [] (omega arith)) (open_refuses (at 0 t h 1 f d k n z ps) (laid (at 0 t h 1 f d k n z ps) [] l) room refl)
read_same room (suc fuel) fs t h f d k n z ps l (a ∷ []) g some short =
    refused_both room _ (few_refuse fuel fs (a ∷ []) (omega arith))
    (open_refuses (eat_of (at 0 t h 1 f d k n z ps) a) (laid (at 0 t h 1 f d k n z ps) (a ∷ []) l) room (ap (λ (s : State). eqb s.phase 5) (eat_1 t h 1 f d k n z ps a a a (omega arith))))
read_same room (suc fuel) fs t h f d k n z ps l (a ∷ b ∷ []) g some short =
    refused_both room _ (few_refuse fuel fs (a ∷ b ∷ []) (omega arith))
    (open_refuses (eat_of (eat_of (at 0 t h 1 f d k n z ps) a) b) (laid (at 0 t h 1 f d k n z ps) (a ∷ b ∷ []) l) room
    (ap (λ (s : State). eqb (eat_of s b).phase 5) (eat_1 t h 1 f d k n z ps a b b (omega arith)) ∙ ap (λ (s : State). eqb s.phase 5) (eat_2 t h 1 f d k n z ps a b b (omega arith))))
read_same room (suc fuel) fs t h f d k n z ps l (tag ∷ hi ∷ lo ∷ rest) g some short =
    field_same room fuel fs t h f d k n z ps l g tag hi lo rest short
    (λ fs₁ t₁ h₁ d₁ k₁ n₁ z₁ ps₁ l₁ g₁ short₁. read_same room fuel fs₁ t₁ h₁ f d₁ k₁ n₁ z₁ ps₁ l₁ (drop (two hi lo) rest) g₁ (omega (arith, length-drop (two hi lo) rest)) short₁)
    (leb (two hi lo) (length rest)) refl

-- ---- the whole
module _ (w b : List ℕ) (room : ℕ) (long : 20000 ≤ length b) where
  within : length w ≤ 20000 → found (eaten fresh w) (laid fresh w b) room ≡ decoded w room
  unfolding decoded
  within h =
      sym (read_same room (suc (length w)) [] 0 0 0 0 0 0 0 _ b w (kept_start b long) (omega arith) (omega arith))
      ∙ holds 17 _ _ _ (le-leb (length w) 20000 h) refl

  too_long : 20000 < length w → (r : List ℕ) → drop 20000 w ≡ r → (eaten fresh w).sound ≡ 0
  too_long h [] e = absurd (omega (arith, h, length-drop 20000 w, ap length e))
  too_long h (c ∷ cs) e =
      let n : (eaten fresh (take 20000 w)).fed ≡ 0 + length (take 20000 w) = fed_eaten fresh (take 20000 w) (omega (arith, length-take 20000 w)) in
      let cut : eaten fresh w ≡ eaten (eaten fresh (take 20000 w)) (c ∷ cs) = ap (eaten fresh) (sym (take-append-drop 20000 w)) ∙ eaten_cut fresh (take 20000 w) (drop 20000 w) ∙ ap (eaten (eaten fresh (take 20000 w))) e in
      ap (λ (s : State). s.sound) cut ∙ over_eaten (eaten fresh (take 20000 w)) c cs (omega (arith, n, length-take 20000 w))

  beyond : 20000 < length w → found (eaten fresh w) (laid fresh w b) room ≡ decoded w room
  unfolding decoded
  beyond h = unsound_refuses (eaten fresh w) (laid fresh w b) room (too_long h (drop 20000 w) refl) ∙ fails 17 _ _ (lt-leb (length w) 20000 h)

  by : (c : Bool) → leb (length w) 20000 ≡ c → found (eaten fresh w) (laid fresh w b) room ≡ decoded w room
  by true e = within (leb-true (length w) 20000 e)
  by false e = beyond (leb-false (length w) 20000 e)

  -- what the finish finds is what document 01 says of the whole
  pub found_decoded : found (eaten fresh w) (laid fresh w b) room ≡ decoded w room
  found_decoded = by (leb (length w) 20000) refl
