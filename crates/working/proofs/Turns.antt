-- A law for each way through a turn of the loop.
-- Assumes nothing.
use mathlib.Core.Path.{◌≡◌, refl, sym, ◌∙◌}
use mathlib.Core.Bool.{Bool, true, false, false≢true}
use mathlib.Core.List.{List}
use Prim.Native.Nat.{ℕ}
use lib.Dec.{ltb}
use borrow.Author.Tests.{eq-eqb, ne_eqb}
use Rattle.std.specs.Prelude.{Result, Ok, Err}
use Rattle.refusal.specs.declared.Refusal.{Refusal}
use Rattle.refusal.specs.Refusals.{number_of}
use Rattle.refusal.specs.Answer.{given, refused, answered}
use Rattle.refusal.specs.Laws.Answers.{then_given, then_refused, was_refused}
use Rattle.date.specs.declared.Date.{Date}
use Rattle.date.specs.Date.{dated}
use Rattle.date.specs.Laws.Made.{given_day, refused_day}
use Rattle.calendar.specs.declared.Convention.{Convention}
use Rattle.calendar.specs.declared.search.Near.{Near}
use Rattle.calendar.specs.Adjust.{adjusted}
use Rattle.calendar.specs.Inner.Near.{OneMonth}
use Rattle.steps.specs.declared.Pace.{Pace}
use Rattle.steps.specs.declared.Seed.{Seed}
use Rattle.steps.specs.Candidates.{candidate, is_past, unless_same, unless_past, turn_of}
use Rattle.working.specs.declared.candidates.Turn.{Turn}
use Rattle.working.specs.declared.candidates.Turn.TheVariants.{Past, Skip, Keep, Stop}
use Rattle.working.specs.Turning.{Front, told, Learnt, Compared}

-- ---- past the exit date
pub past_back : (back : Bool) (exit day : ℕ) (r : Bool) → back ≡ true → r ≡ ltb day exit → r ≡ is_past back exit day
unfolding is_past
past_back true exit day r e h = h
past_back false exit day r e h = absurd (false≢true e)

pub past_forth : (back : Bool) (exit day : ℕ) (r : Bool) → back ≡ false → r ≡ ltb exit day → r ≡ is_past back exit day
unfolding is_past
past_forth true exit day r e h = absurd (false≢true (sym e))
past_forth false exit day r e h = h

-- ---- the newest date adjusted
pub front_known : {mask : ℕ} {closed : List ℕ} {convention : Convention} {front newest : ℕ} → Front mask closed convention front newest → (front ≡ 0 → ⊥) → given front ≡ adjusted mask closed convention newest
front_known f h = sym (f.known h)

pub front_from : (mask : ℕ) (closed : List ℕ) (convention : Convention) (day a : ℕ) → adjusted mask closed convention day ≡ given a → Front mask closed convention a day
front_from mask closed convention day a e = record { known = λ h. e }

-- ---- a candidate that is not past
module _ (mask : ℕ) (closed : List ℕ) (convention : Convention) (newest day : ℕ) where
  pub compare_stop : (found : Result ℕ Refusal) → answered found ≡ adjusted mask closed convention newest → (n : Refusal) → found ≡ Err n → Compared mask closed convention newest (unless_past false mask closed convention newest day) (Stop n)
  unfolding unless_past told Learnt
  compare_stop found p n e = record { says = then_refused _ (number_of n) _ (was_refused found n _ p e); learnt = tt }

  module _ (held : ℕ) (known : adjusted mask closed convention newest ≡ given held) where
    pub compare_closed : (n : Refusal) → adjusted mask closed convention day ≡ refused (number_of n) → Compared mask closed convention newest (unless_past false mask closed convention newest day) (Stop n)
    unfolding unless_past told Learnt
    compare_closed n e = record { says = then_given _ held _ _ known (then_refused _ (number_of n) _ e); learnt = tt }

    module _ (b : ℕ) (near : Near) (t : adjusted mask closed convention day ≡ given b) (month : OneMonth near.from near.to) where
      pub compare_skip : held ≡ b → Compared mask closed convention newest (unless_past false mask closed convention newest day) (Skip (record { newest = newest; front = held; near = near }))
      unfolding unless_past told Learnt unless_same
      compare_skip e =
          record {
            says = then_given _ held _ _ known (then_given _ b _ _ t (rw (eq-eqb held b e) refl));
            learnt = (record { front = front_from mask closed convention newest held known; month = month }, refl);
          }

      pub compare_keep : (held ≡ b → ⊥) → Compared mask closed convention newest (unless_past false mask closed convention newest day) (Keep (record { newest = day; front = b; near = near }))
      unfolding unless_past told Learnt unless_same
      compare_keep e =
          record {
            says = then_given _ held _ _ known (then_given _ b _ _ t (rw (ne_eqb held b e) refl));
            learnt = (record { front = front_from mask closed convention day b t; month = month }, t);
          }

-- ---- the k-th candidate
module _ (mask : ℕ) (closed : List ℕ) (convention : Convention) (back : Bool) (pace : Pace) (seed : Seed) (exit newest k : ℕ) (next : Result Date Refusal) (p : dated next ≡ candidate back pace seed k) where
  pub turn_stop : (n : Refusal) → next ≡ Err n → Compared mask closed convention newest (turn_of mask closed convention back pace seed exit newest k) (Stop n)
  unfolding turn_of told Learnt
  turn_stop n e = record { says = then_refused _ (number_of n) _ (refused_day next n _ p e); learnt = tt }

  module _ (d : Date) (e : next ≡ Ok d) (b : Bool) (q : b ≡ is_past back exit d.day) where
    pub turn_past : b ≡ true → Compared mask closed convention newest (turn_of mask closed convention back pace seed exit newest k) Past
    unfolding turn_of told Learnt unless_past
    turn_past t = record { says = then_given _ d.day _ _ (given_day next d _ p e) (rw (sym q ∙ t) refl); learnt = tt }

    pub turn_on : (r : Turn) → b ≡ false → Compared mask closed convention newest (unless_past false mask closed convention newest d.day) r → Compared mask closed convention newest (turn_of mask closed convention back pace seed exit newest k) r
    unfolding turn_of
    turn_on r t c = record { says = then_given _ d.day _ _ (given_day next d _ p e) (rw (sym q ∙ t) c.says); learnt = c.learnt }
