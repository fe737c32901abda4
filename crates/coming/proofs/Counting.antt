-- A law for each way through the functions that count whole tenors.
-- Assumes nothing.
use Prim.Native.Nat.{ℕ, ◌+◌, ◌-◌, ◌*◌, ◌≤◌, ◌<◌}
use mathlib.Core.Path.{◌≡◌, refl, ap, sym, ◌∙◌}
use mathlib.Core.Bool.{Bool, true, false}
use native.Mathlib.Nat.{div-le_self}
use native.Mathlib.Omega.{arith}
use borrow.Author.Rules.{rules}
use Rattle.refusal.specs.Answer.{Answer}
use Rattle.date.specs.declared.Fields.{Fields}
use Rattle.date.specs.Civil.{pick_n, fields_of}
use Rattle.date.specs.Date.{month_index, in_month, step}
use Rattle.date.specs.Laws.Round.{fields_valid}
use Rattle.date.specs.Laws.Moves.{valid_at, year_at_lem}
use Rattle.steps.specs.declared.Pace.{Pace}
use Rattle.steps.specs.declared.Seed.{Seed}
use Rattle.steps.specs.Candidates.{is_past}
use Rattle.plain.specs.Most.{day_or}
use Rattle.coming.specs.Laws.Counted.{apart, months_apart, most_months, most_from, tenors_from, Booked, Counts}

-- ---- the months between
pub counts : (f : Fields) (n : ℕ) → f ≡ fields_of n → n < 4294967296 → Counts f
counts f n e h = let v = valid_at f n e in record { some = v.month; months = v.twelve; years = omega (arith, year_at_lem f n e) }

module _ (back : Bool) (seed : Seed) (near : ℕ) (f : Fields) (month gap : ℕ) (a : Answer ℕ) (day : ℕ) (p : Bool) where
  abbrev between : ℕ
  between = months_apart back seed near

  abbrev tested : Bool
  tested = is_past back near (day_or (in_month (step back seed.month between) seed.keep))

  module _
      (s : f ≡ fields_of near) (n : month ≡ 12 * f.year + f.month - 1) (g : gap ≡ apart back seed.month month) (m : a ≡ in_month (step back seed.month gap) seed.keep)
      (d : day ≡ day_or a) (t : p ≡ is_past back near day)
    where
      is_between : gap ≡ between
      unfolding month_index
      is_between = g ∙ ap (λ (x : ℕ). apart back seed.month x) (n ∙ ap (λ (y : Fields). 12 * y.year + y.month - 1) s)

      is_tested : tested ≡ p
      is_tested = ap (λ (x : ℕ). is_past back near (day_or (in_month (step back seed.month x) seed.keep))) (sym is_between) ∙ ap (is_past back near) (ap day_or (sym m) ∙ sym d) ∙ sym t

      pub months_less : (r : ℕ) → p ≡ true → r ≡ gap - 1 → r ≡ most_months back seed near
      unfolding most_months
      months_less r e h = rw (is_tested ∙ e) (h ∙ ap (λ (x : ℕ). x - 1) is_between)

      pub months_same : p ≡ false → gap ≡ most_months back seed near
      unfolding most_months
      months_same e = rw (is_tested ∙ e) is_between

pub ruleset months = (counts, months_less, months_same, rules)

-- ---- how many tenors there are
month_few : (n : ℕ) → n ≤ 803169 → month_index n ≤ 803169
unfolding month_index
month_few n h = omega (arith, year_at_lem (fields_of n) n refl, (fields_valid n).twelve)

apart_few : (back : Bool) (a b : ℕ) → a ≤ 803169 → b ≤ 803169 → apart back a b ≤ 803169
unfolding apart
apart_few true a b h g = omega arith
apart_few false a b h g = omega arith

months_few : (back : Bool) (seed : Seed) (near : ℕ) → seed.month ≤ 803169 → near ≤ 803169 → most_months back seed near ≤ 803169
unfolding most_months
months_few back seed near h g = by (is_past back near (day_or (in_month (step back seed.month (months_apart back seed near)) seed.keep))) (apart_few back seed.month (month_index near) h (month_few near g))
  where
    by : (b : Bool) → months_apart back seed near ≤ 803169 → pick_n b (months_apart back seed near - 1) (months_apart back seed near) ≤ 803169
    by true i = omega arith
    by false i = i

most_few : (back monthly : Bool) (seed : Seed) (near : ℕ) → seed.day ≤ 803169 → seed.month ≤ 803169 → near ≤ 803169 → most_from back monthly seed near ≤ 803169
unfolding most_from
most_few back false seed near d m n = apart_few back seed.day near d n
most_few back true seed near d m n = months_few back seed near m n

pub tenors_few : (back : Bool) (pace : Pace) (seed : Seed) (x near k : ℕ) → Booked seed x → near ≤ x + 1 → k ≡ tenors_from back pace seed near → k ≤ 803169
tenors_few back pace seed x near k b h e =
    omega (arith, div-le_self (most_from back pace.monthly seed near) pace.size, most_few back pace.monthly seed near (omega (arith, b.day)) (omega (arith, b.month)) (omega (arith, b.asked)))
