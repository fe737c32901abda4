-- Laws of the loop over the fields: what is still to be read gives what the whole gives.
-- Assumes nothing.
use Prim.Native.Nat.{ℕ, zero, suc, ◌+◌, ◌-◌, ◌≤◌, ◌<◌}
use mathlib.Core.Path.{◌≡◌, refl, sym, ap, ◌∙◌}
use mathlib.Core.Bool.{Bool, true, false}
use mathlib.Core.List.{List, [], ◌∷◌}
use native.Mathlib.Omega.{arith}
use borrow.Author.Rules.{rules}
use borrow.Author.Tests.{eq-eqb, ne_eqb, eqb-true, eqb-false}
use lib.Dec.{eqb}
use lib.ListN.{length, get_or, take, drop, set, length-set}
use lib.Seq.{get_or-set_same, get_or-set_other}
use Rattle.refusal.specs.Answer.{then}
use Rattle.request.specs.declared.fields.Step.{Step}
use Rattle.request.specs.declared.fields.Step.TheVariants.{Broken, End, Next}
use Rattle.request.specs.Format.{Field, last_tag, cut_of, on_cut, fields_from, body_or}
use Rattle.request.specs.Laws.Picks.{taken, left}
use Rattle.request.specs.Inner.Places.{two_at, body_at, placed, Lies, PlacesKept, Framed, stepped, IsFramed, Steps, ReadsAs, Blank}

pub record Reached (bytes places : List ℕ) (at last : ℕ) : Type 0 where
  pub fields : List Field
  pub fuel : ℕ
  pub enough : length bytes < fuel + at
  pub inside : at ≤ length bytes
  pub tags : last_tag fields ≡ last
  pub same : fields_from fuel fields (drop at bytes) ≡ fields_from (suc (length bytes)) [] bytes
  pub bodies : body_or fields ≡ placed bytes places
  pub kept : PlacesKept bytes places

pub reached_start : {bytes places : List ℕ} → Blank places → Reached bytes places 0 0
unfolding last_tag body_or
reached_start {bytes} {places} b =
    record {
      fields = [];
      fuel = suc (length bytes);
      enough = omega arith;
      inside = omega arith;
      tags = refl;
      same = refl;
      bodies = λ i left_out tag. sym (taken left_out (take (two_at bytes (get_or places tag 0 - 2)) (drop (get_or places tag 0) bytes)) (eq-eqb _ _ (b.none tag))) i;
      kept = record { twelve = b.twelve; lies = λ tag some. absurd (some (b.none tag)) };
    }

-- a place put down for a tag
module _ (bytes places : List ℕ) (at tag n : ℕ) (k : PlacesKept bytes places) (f : Framed bytes at tag n) where
  abbrev now_places : List ℕ
  now_places = set places tag (at + 3)

  put_here : (t : ℕ) → tag ≡ t → get_or now_places t 0 ≡ at + 3
  put_here t e = ap (λ (z : ℕ). get_or now_places z 0) (sym e) ∙ get_or-set_same places tag (at + 3) 0 (omega (arith, k.twelve, f.few))

  put_other : (t : ℕ) → (tag ≡ t → ⊥) → get_or now_places t 0 ≡ get_or places t 0
  put_other t apart = get_or-set_other places tag t (at + 3) 0 (λ e. apart (sym e))

  body_here : (left_out : List ℕ) → body_at bytes left_out (at + 3) ≡ take n (drop (at + 3) bytes)
  body_here left_out = left _ _ (ne_eqb (at + 3) 0 (λ e. omega (arith, e))) ∙ ap (λ (z : ℕ). take z (drop (at + 3) bytes)) f.sized.size

  abbrev put : Field
  put = record { tag = tag; body = take n (drop (at + 3) bytes) }

  bodies_by : (fs : List Field) → body_or fs ≡ placed bytes places → (left_out : List ℕ) (t : ℕ) (b : Bool) → eqb tag t ≡ b → body_or (put ∷ fs) left_out t ≡ placed bytes now_places left_out t
  unfolding body_or
  bodies_by fs e left_out t true q = taken _ _ q ∙ sym (body_here left_out) ∙ ap (body_at bytes left_out) (sym (put_here t (eqb-true tag t q)))
  bodies_by fs e left_out t false q =
      left _ _ q ∙ ap (λ (g : List ℕ → ℕ → List ℕ). g left_out t) e ∙ ap (body_at bytes left_out) (sym (put_other t (eqb-false tag t q)))

  lies_by : (t : ℕ) → (get_or now_places t 0 ≡ 0 → ⊥) → (b : Bool) → eqb tag t ≡ b → Lies bytes (get_or now_places t 0) t
  lies_by t some true q =
      let s = f.sized in
      rw (put_here t (eqb-true tag t q))
      (record {
        sized = record { after = s.after; size = refl; inside = rw s.size s.inside };
        ok = rw s.size (rw (eqb-true tag t q) at f.ok);
      })
  lies_by t some false q =
      rw (put_other t (eqb-false tag t q)) (k.lies t (λ e. some (put_other t (eqb-false tag t q) ∙ e)))

  kept_on : PlacesKept bytes now_places
  kept_on = record { twelve = length-set places tag (at + 3) ∙ k.twelve; lies = λ t some. lies_by t some (eqb tag t) refl }

opened : (fuel : ℕ) (fs : List Field) (s : List ℕ) → 0 < fuel → fields_from fuel fs s ≡ then (cut_of s) (on_cut fs (fields_from (fuel - 1)))
unfolding fields_from
opened zero fs s h = absurd (omega arith)
opened (suc n) fs s h = let e : n ≡ suc n - 1 = omega arith in ap (λ (k : ℕ). then (cut_of s) (on_cut fs (fields_from k))) e

module _ {bytes places : List ℕ} {at last : ℕ} (g : Reached bytes places at last) where
  pub reached_inside : at ≤ length bytes
  reached_inside = g.inside

  pub reached_long : {places₀ : List ℕ} → Blank places₀ → length places ≡ length places₀
  reached_long b = g.kept.twelve ∙ sym b.twelve

  module _ {r : Step} (t : Steps bytes at last r) where
    some_fuel : 0 < g.fuel
    some_fuel = omega (arith, g.enough, g.inside)

    turn : fields_from (suc (length bytes)) [] bytes ≡ stepped bytes at g.fields (fields_from (g.fuel - 1)) r
    turn = sym g.same ∙ opened g.fuel g.fields (drop at bytes) some_fuel ∙ t.same g.fields (fields_from (g.fuel - 1)) g.tags

    turn_as : (s : Step) → r ≡ s → fields_from (suc (length bytes)) [] bytes ≡ stepped bytes at g.fields (fields_from (g.fuel - 1)) s
    turn_as s e = turn ∙ ap (stepped bytes at g.fields (fields_from (g.fuel - 1))) e

    pub reached_broken : r ≡ Broken → ReadsAs bytes false places
    unfolding ReadsAs stepped
    reached_broken e = turn_as Broken e

    pub reached_end : r ≡ End → ReadsAs bytes true places
    unfolding ReadsAs stepped
    reached_end e = record { fields = g.fields; same = turn_as End e; bodies = g.bodies; kept = g.kept }

    module _ (tag n : ℕ) (e : r ≡ Next tag n) where
      pub reached_framed : Framed bytes at tag n
      unfolding IsFramed
      reached_framed = rw e at t.sound

      pub reached_place : tag < length places
      reached_place = omega (arith, g.kept.twelve, reached_framed.few)

      pub reached_on : at + 3 + n ≤ length bytes
      reached_on = reached_framed.sized.inside

      pub reached_less : length bytes - (at + 3 + n) < length bytes - at
      reached_less = omega (arith, reached_on)

      pub reached_next : Reached bytes (set places tag (at + 3)) (at + 3 + n) tag
      unfolding stepped last_tag
      reached_next =
          let f = reached_framed in
          record {
            fields = record { tag = tag; body = take n (drop (at + 3) bytes) } ∷ g.fields;
            fuel = g.fuel - 1;
            enough = omega (arith, g.enough, some_fuel);
            inside = reached_on;
            tags = refl;
            same = sym (turn_as (Next tag n) e);
            bodies = λ i left_out q. bodies_by bytes places at tag n g.kept f g.fields g.bodies left_out q (eqb tag q) refl i;
            kept = kept_on bytes places at tag n g.kept f;
          }

pub ruleset finds = (reached_start, reached_inside, reached_long, reached_broken, reached_end, reached_place, reached_on, reached_less, reached_next, rules)
