-- Laws of one step of the reading: one for each way through the code.
-- Assumes nothing.
use Prim.Native.Nat.{ℕ, zero, suc, ◌+◌, ◌-◌, ◌≤◌, ◌<◌}
use mathlib.Core.Path.{◌≡◌, refl, sym, ap, ◌∙◌}
use mathlib.Core.Bool.{Bool, true, false, ◌&&◌, false≢true}
use mathlib.Core.List.{List, ◌∷◌}
use native.Mathlib.Nat.{add-zero}
use native.Mathlib.Omega.{arith}
use borrow.Author.Rules.{rules}
use borrow.Author.Tests.{lt-ltb, le-ltb, le-leb, lt-leb, eq-eqb, ne_eqb, ltb-true, ltb-false}
use lib.Dec.{eqb, leb, ltb}
use lib.ListN.{length, get_or, take, drop, length-drop}
use lib.Seq.{get_or-drop, drop-drop, length-take-le}
use Rattle.refusal.specs.Answer.{Answer, given, refused, need, then}
use Rattle.refusal.specs.Laws.Answers.{fails, holds, then_given, then_refused}
use Rattle.request.specs.declared.fields.Step.TheVariants.{Broken, End, Next}
use Rattle.request.specs.Format.{body_ok, Field, Cut, size_in, cut_at, cut_of, last_tag, is_end, on_field, on_cut}
use Rattle.request.specs.Laws.Picks.{left}
use Rattle.request.specs.Inner.Places.{two_at, Pair, stepped, IsFramed, Steps}

-- no tag from 12 on has a body
none_from : (tag : ℕ) (s : List ℕ) → 12 ≤ tag → false ≡ body_ok tag s
unfolding body_ok
none_from tag s h =
    let no : (k : ℕ) → k < 12 → eqb tag k ≡ false = λ k l. ne_eqb tag k (λ e. omega (arith, h, l, e)) in
    sym (left _ _ (no 1 (omega arith))
    ∙ left _ _ (no 2 (omega arith))
    ∙ left _ _ (no 3 (omega arith))
    ∙ left _ _ (no 4 (omega arith))
    ∙ left _ _ (no 5 (omega arith))
    ∙ left _ _ (no 6 (omega arith))
    ∙ left _ _ (no 7 (omega arith))
    ∙ left _ _ (no 8 (omega arith))
    ∙ left _ _ (no 9 (omega arith))
    ∙ left _ _ (no 10 (omega arith))
    ∙ left _ _ (no 11 (omega arith)))

few_tags : (tag : ℕ) (s : List ℕ) → body_ok tag s ≡ true → tag < 12
few_tags tag s e = by_test (ltb tag 12) refl
  where
    by_test : (b : Bool) → ltb tag 12 ≡ b → tag < 12
    by_test true t = ltb-true tag 12 t
    by_test false t =
        absurd (false≢true (none_from tag s (ltb-false tag 12 t) ∙ e))

not_both : (n m : ℕ) → (n + m ≡ 0 → ⊥) → eqb n 0 && eqb m 0 ≡ false
not_both zero m h = ne_eqb m 0 (λ e. h (omega (arith, e)))
not_both (suc n) m h = ap (λ (t : Bool). t && eqb m 0) (ne_eqb (suc n) 0 (λ e. omega (arith, e)))

module _ (bytes : List ℕ) (at : ℕ) where
  abbrev here : List ℕ
  here = drop at bytes

  pub step_short : {last : ℕ} → length bytes - at < 3 → Steps bytes at last Broken
  unfolding cut_of stepped IsFramed
  step_short h =
      record {
        same = λ fs on e. sym (then_refused _ 17 _ (sym (fails 17 _ _ (lt-leb 3 (length here) (omega (arith, length-drop at bytes, h))))));
        sound = tt;
      }

  size_at : size_in here ≡ two_at bytes (at + 1)
  size_at =
      let a : get_or here 1 0 ≡ get_or bytes (at + 1) 0 = get_or-drop at bytes 1 0 in
      let b : get_or here 2 0 ≡ get_or bytes (at + 1 + 1) 0 = get_or-drop at bytes 2 0 ∙ ap (λ (k : ℕ). get_or bytes k 0) (omega arith) in
      cc

  module _ {n : ℕ} (long : 3 ≤ length bytes - at) (p : Pair bytes (at + 1) n) where
    size : size_in here ≡ n
    size = size_at ∙ sym p.same

    long_here : leb 3 (length here) ≡ true
    long_here = le-leb 3 (length here) (omega (arith, length-drop at bytes, long))

    pub step_cut : {last : ℕ} → length bytes - at - 3 < n → Steps bytes at last Broken
    unfolding cut_of stepped IsFramed
    step_cut h =
        let no : cut_of here ≡ refused 17 = sym (holds 17 _ _ _ long_here (fails 17 _ _ (lt-leb (3 + size_in here) (length here) (omega (arith, length-drop at bytes, size, h, long))))) in
        record { same = λ fs on e. sym (then_refused _ 17 _ no); sound = tt }

    module _ (inside : n ≤ length bytes - at - 3) where
      abbrev tag : ℕ
      tag = get_or bytes at 0

      abbrev body : List ℕ
      body = take n (drop (at + 3) bytes)

      abbrev rest : List ℕ
      rest = drop (at + 3 + n) bytes

      abbrev cut : Cut
      cut = record { field = record { tag = tag; body = body }; rest = rest }

      cut_is : cut_at here ≡ cut
      cut_is =
          let t : get_or here 0 0 ≡ tag = get_or-drop at bytes 0 0 ∙ ap (λ (k : ℕ). get_or bytes k 0) (add-zero at) in
          let b : take (size_in here) (drop 3 here) ≡ body = ap (λ (k : ℕ). take k (drop 3 here)) size ∙ ap (take n) (drop-drop 3 at bytes) in
          let e : at + (3 + size_in here) ≡ at + 3 + n = omega (arith, size) in
          let r : drop (3 + size_in here) here ≡ rest = drop-drop (3 + size_in here) at bytes ∙ ap (λ (k : ℕ). drop k bytes) e in
          λ i. record { field = record { tag = t i; body = b i }; rest = r i }

      found : cut_of here ≡ given cut
      unfolding cut_of
      found =
          sym (holds 17 _ _ _ long_here (holds 17 _ _ _ (le-leb (3 + size_in here) (length here) (omega (arith, length-drop at bytes, size, inside, long))) refl))
          ∙ ap given cut_is

      cut_here : (fs : List Field) (on : List Field → List ℕ → Answer (List Field)) → then (cut_of here) (on_cut fs on) ≡ on_cut fs on cut
      cut_here fs on = sym (then_given (cut_of here) cut (on_cut fs on) _ found refl)

      pub step_low : {last : ℕ} → tag ≤ last → Steps bytes at last Broken
      unfolding on_cut stepped IsFramed
      step_low h =
          record {
            same = λ fs on e. cut_here fs on ∙ sym (fails 17 _ _ (le-ltb (last_tag fs) tag (omega (arith, e, h))));
            sound = tt;
          }

      module _ {last : ℕ} (up : last < tag) where
        past : (fs : List Field) (on : List Field → List ℕ → Answer (List Field)) → last_tag fs ≡ last → then (cut_of here) (on_cut fs on) ≡ on_field (eqb tag 255) fs cut on
        unfolding on_cut
        past fs on e = cut_here fs on ∙ sym (holds 17 _ _ _ (lt-ltb (last_tag fs) tag (omega (arith, e, up))) refl)

        body_long : length body ≡ n
        body_long = length-take-le n (drop (at + 3) bytes) (omega (arith, length-drop (at + 3) bytes, inside))

        rest_long : length rest ≡ length bytes - (at + 3 + n)
        rest_long = length-drop (at + 3 + n) bytes

        module _ (ff : tag ≡ 255) where
          ends_here : (fs : List Field) (on : List Field → List ℕ → Answer (List Field)) → last_tag fs ≡ last → then (cut_of here) (on_cut fs on) ≡ need 17 (is_end cut) (given fs)
          unfolding on_field
          ends_here fs on e = past fs on e ∙ ap (λ (b : Bool). on_field b fs cut on) (eq-eqb tag 255 ff)

          pub step_end : length bytes - at ≡ 3 → Steps bytes at last End
          unfolding stepped IsFramed is_end
          step_end h =
              let b : length body ≡ 0 = omega (arith, body_long, h, inside) in
              let r : length rest ≡ 0 = omega (arith, rest_long, h, inside) in
              let t : is_end cut ≡ true = rw (b, r) refl in
              record { same = λ fs on e. ends_here fs on e ∙ sym (holds 17 _ _ _ t refl); sound = tt }

          pub step_more : (length bytes - at ≡ 3 → ⊥) → Steps bytes at last Broken
          unfolding stepped IsFramed is_end
          step_more h =
              let t : is_end cut ≡ false = not_both (length body) (length rest) (λ z. h (omega (arith, z, body_long, rest_long, inside, long))) in
              record { same = λ fs on e. ends_here fs on e ∙ sym (fails 17 _ _ t); sound = tt }

        module _ (apart : tag ≡ 255 → ⊥) {r : Bool} (is : r ≡ body_ok tag (take (at + 3 + n - (at + 3)) (drop (at + 3) bytes))) where
          is_here : r ≡ body_ok tag body
          is_here =
              let e : at + 3 + n - (at + 3) ≡ n = omega arith in
              is ∙ ap (λ (k : ℕ). body_ok tag (take k (drop (at + 3) bytes))) e

          at_field : (fs : List Field) (on : List Field → List ℕ → Answer (List Field)) → last_tag fs ≡ last → then (cut_of here) (on_cut fs on) ≡ need 17 (body_ok tag body) (on (record { tag = tag; body = body } ∷ fs) rest)
          unfolding on_field
          at_field fs on e = past fs on e ∙ ap (λ (b : Bool). on_field b fs cut on) (ne_eqb tag 255 apart)

          pub step_next : r ≡ true → Steps bytes at last (Next tag n)
          unfolding stepped IsFramed
          step_next t =
              let ok : body_ok tag body ≡ true = sym is_here ∙ t in
              let e : at + 3 - 2 ≡ at + 1 = omega arith in
              record {
                same = λ fs on e. at_field fs on e ∙ sym (holds 17 _ _ _ ok refl);
                sound = record {
                  few = few_tags tag body ok;
                  sized = record { after = omega arith; size = ap (two_at bytes) e ∙ sym p.same; inside = omega (arith, inside, long) };
                  ok = ok;
                };
              }

          pub step_bad : r ≡ false → Steps bytes at last Broken
          unfolding stepped IsFramed
          step_bad t = record { same = λ fs on e. at_field fs on e ∙ sym (fails 17 _ _ (sym is_here ∙ t)); sound = tt }

pub ruleset steps = (step_short, step_cut, step_low, step_end, step_more, step_next, step_bad, rules)
