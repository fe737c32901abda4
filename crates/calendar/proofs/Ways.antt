-- A law for each way through the functions over the search, in the code's terms.
-- Assumes nothing.
use Prim.Native.Nat.{ℕ, suc, ◌+◌, ◌-◌, ◌%◌, ◌≤◌, ◌<◌}
use mathlib.Core.Path.{◌≡◌, refl, ap, sym, ◌∙◌}
use mathlib.Core.Bool.{Bool, true, false, not, false≢true, ◌&&◌}
use mathlib.Core.List.{List}
use native.Mathlib.Omega.{arith}
use lib.ListN.{length, get_or}
use lib.Dec.{eqb, leb}
use borrow.Author.Tests.{leb-true, eqb-true, eqb-false, eq-eqb, ne_eqb, not-true, not-false}
use Rattle.refusal.specs.Answer.{Answer, given, refused, then, BOOK}
use Rattle.refusal.specs.Laws.Answers.{need_given, then_given, then_refused, both}
use Rattle.std.specs.Prelude.{Result, Ok, Err}
use Rattle.refusal.specs.declared.Refusal.{Refusal}
use Rattle.refusal.specs.Refusals.{number_of}
use Rattle.date.specs.Civil.{fields_of}
use Rattle.date.specs.declared.Date.{Date}
use Rattle.date.specs.Date.{dated, step, within_span}
use Rattle.date.specs.Laws.Made.{given_day, refused_day}
use Rattle.calendar.specs.declared.Convention.{Convention}
use Rattle.calendar.specs.declared.Convention.TheVariants.{Following, ModifiedFollowing, Preceding}
use Rattle.calendar.specs.declared.search.Near.{Near}
use Rattle.calendar.specs.declared.search.Placed.{Placed}
use Rattle.calendar.specs.Open.{weekly_closed, is_open_day, closed_ok, calendar_ok}
use Rattle.calendar.specs.Inner.Places.{LowerBound}
use Rattle.calendar.specs.Inner.Near.{placed, OneMonth, Known, Adjusts}
use Rattle.calendar.specs.AnyCalendar as any
use Rattle.calendar.specs.Adjust.{in_span, same_month, adjusted, towards, open_steps}
use Rattle.calendar.specs.Laws.Search.{adjusted_first}
use Rattle.calendar.specs.Laws.Conventions.{span_one, within_given, within_refused, following_one, modified_kept, modified_left, modified_refused}
use Rattle.calendar.proofs.Places.{strictly}
use Rattle.calendar.proofs.OneMonth.{start_known, start_left}
use Rattle.calendar.specs.Laws.Told.{ok_closed}
use Rattle.calendar.proofs.Members.{present, between, above_from, above_end, shut_week, shut_listed, is_open}

-- ---- so many days from a day that lies in the span
pub no_span : {A : Type 0} (t : Bool) (day : ℕ) → t ≡ in_span day → not t ≡ true → in_span day ≡ true → A
no_span t day p e s = absurd (false≢true (sym (not-true t e) ∙ p ∙ s))

pub too_many : {A : Type 0} (tries : ℕ) → 31 < tries → tries ≤ 31 → A
too_many tries h l = let bad : ⊥ = omega arith in absurd bad

pub this_way : (opens : ℕ → Bool) (b back : Bool) (tries day : ℕ) (r : Answer ℕ) → r ≡ any.first_open opens b tries day → back ≡ b → r ≡ any.first_open opens back tries day
this_way opens b back tries day r h e = h ∙ ap (λ (w : Bool). any.first_open opens w tries day) (sym e)

-- ---- a single day
module _ (mask : ℕ) (closed : List ℕ) (day : ℕ) {w : Bool} (p : w ≡ weekly_closed mask day) where
  pub single_week : w ≡ true → false ≡ is_open_day mask closed day
  single_week q = sym (shut_week mask closed day (sym p ∙ q))

  single_by : (b : Bool) (at : ℕ) → w ≡ false → LowerBound closed day at → at < length closed → closed_ok closed ≡ true → eqb (get_or closed at 0) day ≡ b → not b ≡ is_open_day mask closed day
  single_by true at q l h ok e =
      sym (shut_listed mask closed day (present closed at day h (eqb-true (get_or closed at 0) day e)))
  single_by false at q l h ok e =
      let later : day < get_or closed at 0 = strictly day (get_or closed at 0) (l.from ok at (omega arith) h) (eqb-false (get_or closed at 0) day e) in
      sym (is_open mask closed day (sym p ∙ q) (between closed at day (l.below ok) (above_from closed at day ok later)))

  pub single_at : (at : ℕ) → w ≡ false → LowerBound closed day at → at < length closed → closed_ok closed ≡ true → not (eqb (get_or closed at 0) day) ≡ is_open_day mask closed day
  single_at at q l h ok = single_by (eqb (get_or closed at 0) day) at q l h ok refl

  pub single_end : (at : ℕ) → w ≡ false → LowerBound closed day at → length closed ≤ at → closed_ok closed ≡ true → true ≡ is_open_day mask closed day
  single_end at q l h ok =
      sym (is_open mask closed day (sym p ∙ q) (between closed at day (l.below ok) (above_end closed at day h)))

-- ---- Modified Following, where a month may be known
not_before : (mask : ℕ) (closed : List ℕ) (day new : ℕ) → adjusted mask closed Following day ≡ given new → day ≤ new
unfolding towards step
not_before mask closed day new h = let f = adjusted_first (is_open_day mask closed) false day new h in omega (arith, f.there)

module _ (mask : ℕ) (closed : List ℕ) (day : ℕ) (first : Result Date Refusal) (h : dated first ≡ adjusted mask closed Following day) where
  pub follow_refused : (n : Refusal) → first ≡ Err n → Adjusts mask closed ModifiedFollowing day (Err n)
  unfolding placed Known then any.adjusted any.by_convention
  follow_refused n q = record { says = modified_refused (is_open_day mask closed) false day first h n q; known = tt }

  module _ (x : Date) (q : first ≡ Ok x) where
    on : adjusted mask closed Following day ≡ given x.day
    on = given_day first x _ h q

    first_one : 1 ≤ day
    unfolding any.adjusted
    first_one = span_one day (need_given BOOK (in_span day) _ x.day on).0

    stays_in : same_month day x.day ≡ true → given x.day ≡ adjusted mask closed ModifiedFollowing day
    unfolding any.adjusted any.by_convention
    stays_in e = modified_kept (is_open_day mask closed) false day first h x (same_month day x.day) q (λ a b. refl) e

    pub follow_known : (near : Near) → OneMonth near.from near.to → (r : Bool) → r ≡ (leb near.from day && leb x.day near.to) → r ≡ true → Adjusts mask closed ModifiedFollowing day (Ok (record { day = x.day; near = near }))
    unfolding placed Known then
    follow_known near m r p e =
        let t = both (leb near.from day) (leb x.day near.to) (sym p ∙ e) in
        record {
          says = stays_in (m.alike day x.day (leb-true near.from day t.0) (not_before mask closed day x.day on) (leb-true x.day near.to t.1));
          known = m;
        }

    module _ (s : ℕ) (p : 1 ≤ x.day → s ≡ x.day + 1 - (fields_of x.day).day) where
      one : 1 ≤ x.day
      one = following_one (is_open_day mask closed) day x.day on

      pub follow_split : (place : ℕ) → s ≤ day → Adjusts mask closed ModifiedFollowing day (Ok (record { day = x.day; near = record { place = place; from = s; to = x.day } }))
      unfolding placed Known then
      follow_split place l =
          let m = start_known x.day s one (p one) in
          record { says = stays_in (m.alike day x.day l (not_before mask closed day x.day on) (omega arith)); known = m }

      pub follow_left : (from to : ℕ) → OneMonth from to → day < s → (other : Result Date Refusal) → dated other ≡ adjusted mask closed Preceding day → (r : Result Placed Refusal) → (placed r ≡ dated other) × (OneMonth from to → Known r) → Adjusts mask closed ModifiedFollowing day r
      unfolding any.adjusted any.by_convention
      follow_left from to m l other z r w =
          record {
            says = modified_left (is_open_day mask closed) false day first h x (same_month day x.day) (placed r) q (λ a b. refl) (start_left x.day s one (p one) day first_one l) (w.0 ∙ z);
            known = w.1 m;
          }

-- ---- the neighbouring day
module _ (mask : ℕ) (closed : List ℕ) (convention : Convention) (n : ℕ) (beside : Result Date Refusal) (h : dated beside ≡ within_span n) where
  pub beside_day : (x : Date) (r : Answer ℕ) → beside ≡ Ok x → r ≡ adjusted mask closed convention x.day → r ≡ adjusted mask closed convention n
  beside_day x r q w = w ∙ ap (adjusted mask closed convention) (within_given n x.day (given_day beside x _ h q))

  pub beside_refused : (k : Refusal) → beside ≡ Err k → refused (number_of k) ≡ adjusted mask closed convention n
  unfolding any.adjusted
  beside_refused k q = within_refused n (number_of k) _ (refused_day beside k _ h q)

-- ---- open days one by one
pub record Steps (mask : ℕ) (closed : List ℕ) (back : Bool) (size day left at : ℕ) : Type 0 where
  pub same : closed_ok closed ≡ true → open_steps mask closed back left at ≡ open_steps mask closed back size day

pub steps_start : {mask : ℕ} {closed : List ℕ} {back : Bool} {size day : ℕ} → Steps mask closed back size day size day
steps_start = record { same = λ ok. refl }

module _ {mask : ℕ} {closed : List ℕ} {back : Bool} {size day left at : ℕ} (g : Steps mask closed back size day left at) where
  turn : 0 < left → open_steps mask closed back left at ≡ then (adjusted mask closed (towards back) (step back at 1)) (open_steps mask closed back (left - 1))
  unfolding any.open_steps
  turn h = ap (λ (k : ℕ). open_steps mask closed back k at) (back_one left h)
    where
      back_one : (k : ℕ) → 0 < k → k ≡ suc (k - 1)
      back_one k l = omega arith

  module _ (h : 0 < left) {next : Result Date Refusal} (e : closed_ok closed ≡ true → dated next ≡ adjusted mask closed (towards back) (step back at 1)) where
    pub steps_next : {x : Date} → next ≡ Ok x → Steps mask closed back size day (left - 1) x.day
    steps_next {x} q =
        record { same = λ ok. then_given _ x.day _ _ (given_day next x _ (e ok) q) refl ∙ sym (turn h) ∙ g.same ok }

    pub steps_refused : (n : Refusal) → next ≡ Err n → closed_ok closed ≡ true → refused (number_of n) ≡ open_steps mask closed back size day
    steps_refused n q ok = then_refused _ (number_of n) _ (refused_day next n _ (e ok) q) ∙ sym (turn h) ∙ g.same ok

  pub steps_end : left ≤ 0 → closed_ok closed ≡ true → given at ≡ open_steps mask closed back size day
  unfolding any.open_steps
  steps_end h ok = sym (ap (λ (k : ℕ). open_steps mask closed back k at) (none left h)) ∙ g.same ok
    where
      none : (k : ℕ) → k ≤ 0 → k ≡ 0
      none k l = omega arith

-- ---- the calendar's check
pub sound_closed : (mask : ℕ) (closed : List ℕ) (t : Bool) → t ≡ calendar_ok mask closed → not t ≡ false → closed_ok closed ≡ true
sound_closed mask closed t p e = ok_closed mask closed (sym p ∙ not-false t e)

pub shut_mask : (mask : ℕ) (closed : List ℕ) → mask % 128 ≡ 127 → false ≡ calendar_ok mask closed
unfolding calendar_ok
shut_mask mask closed e = sym (rw (eq-eqb (mask % 128) 127 e))

pub open_mask : (mask : ℕ) (closed : List ℕ) (r : Bool) → (mask % 128 ≡ 127 → ⊥) → r ≡ closed_ok closed → r ≡ calendar_ok mask closed
unfolding calendar_ok
open_mask mask closed r e h = rw (ne_eqb (mask % 128) 127 e) h
