-- The invariants of the search for an open day, and a law for each way through its code. What both directions share is said once over the direction.
-- Assumes nothing.
use Prim.Native.Nat.{ℕ, suc, ◌+◌, ◌-◌, ◌/◌, ◌%◌, ◌^◌, ◌≤◌, ◌<◌}
use mathlib.Core.Path.{◌≡◌, refl, ap, sym, ◌∙◌}
use mathlib.Core.Bool.{Bool, true, false}
use mathlib.Core.List.{List}
use mathlib.Core.Logic.{⊎_elim}
use native.Mathlib.Nat.{eq-or-lt_of_le}
use native.Mathlib.Omega.{arith}
use lib.ListN.{length, get_or}
use lib.Dec.{eqb}
use borrow.Author.Rules.{rules}
use Rattle.refusal.specs.Answer.{given, refused, CLOSED}
use Rattle.date.specs.Date.{SPAN_FIRST, SPAN_LAST, step}
use Rattle.calendar.specs.Open.{weekly_closed, member, is_open_day, closed_ok}
use Rattle.calendar.specs.Inner.Places.{Below, Above, LowerBound}
use Rattle.calendar.specs.Adjust.{first_open}
use Rattle.calendar.specs.Laws.Search.{turn_open, turn_shut, turn_none}
use Rattle.calendar.proofs.Places.{strictly}
use Rattle.calendar.proofs.Members.{present, between, below_to, above_from, below_none, above_end, shut_week, shut_listed, is_open}

-- the dates that the scan has left behind lie on the far side of the day
unfoldable pub Passed : Bool → List ℕ → ℕ → ℕ → Type 0
Passed false closed at day = Below closed at day
Passed true closed at day = Above closed at day

pub record Scan (back : Bool) (closed : List ℕ) (day at : ℕ) : Type 0 where
  pub within : at ≤ length closed
  pub passed : closed_ok closed ≡ true → Passed back closed at day

pub record Days (back : Bool) (mask : ℕ) (closed : List ℕ) (tries start day left at weekday : ℕ) : Type 0 where
  pub least : left ≤ day
  pub most : day + left ≤ 876248
  pub scan : Scan back closed day at
  pub same : first_open mask closed back left day ≡ first_open mask closed back tries start
  pub on : weekday ≡ (day + 6) % 7

-- ---- both directions
step_least : (back : Bool) (day left : ℕ) → 0 < left → left ≤ day → left - 1 ≤ step back day 1
unfolding step
step_least true day left h l = omega arith
step_least false day left h l = omega arith

step_most : (back : Bool) (day left : ℕ) → 0 < left → day + left ≤ 876248 → step back day 1 + (left - 1) ≤ 876248
unfolding step
step_most true day left h l = omega arith
step_most false day left h l = omega arith

step_passed : (back : Bool) (closed : List ℕ) (at day : ℕ) → Passed back closed at day → Passed back closed at (step back day 1)
unfolding step Passed
step_passed true closed at day p = record { after = λ k l h. omega (arith, p.after k l h) }
step_passed false closed at day p = record { before = λ k l. omega (arith, p.before k l) }

module _ {back : Bool} {mask : ℕ} {closed : List ℕ} {tries start day left at weekday : ℕ} (g : Days back mask closed tries start day left at weekday) where
  pub scan_of_days : Scan back closed day at
  scan_of_days = g.scan

  pub is_weekday : weekday < 7
  is_weekday = omega (arith, g.on)

  -- the weekday's bit of the mask
  weekly : {w : Bool} → w ≡ eqb (mask / 2 ^ weekday % 2) 1 → w ≡ weekly_closed mask day
  unfolding weekly_closed
  weekly p = p ∙ ap (λ (k : ℕ). eqb (mask / 2 ^ k % 2) 1) g.on

  none : left ≡ 0 → first_open mask closed back tries start ≡ refused CLOSED
  none h = sym g.same ∙ ap (λ (k : ℕ). first_open mask closed back k day) h ∙ turn_none (is_open_day mask closed) back day

  module _ (h : 0 < left) where
    one_less : first_open mask closed back left day ≡ first_open mask closed back (suc (left - 1)) day
    one_less = ap (λ (k : ℕ). first_open mask closed back k day) (omega arith)

    -- a closed day is passed over
    skip : {to next : ℕ} → next ≡ (step back day 1 + 6) % 7 → is_open_day mask closed day ≡ false → Scan back closed (step back day 1) to → Days back mask closed tries start (step back day 1) (left - 1) to next
    skip n e s =
        record {
          least = step_least back day left h g.least;
          most = step_most back day left h g.most;
          scan = s;
          same = sym (turn_shut (is_open_day mask closed) back (left - 1) day e) ∙ sym one_less ∙ g.same;
          on = n;
        }

    skip_week : {w : Bool} {next : ℕ} → next ≡ (step back day 1 + 6) % 7 → w ≡ eqb (mask / 2 ^ weekday % 2) 1 → w ≡ true → Days back mask closed tries start (step back day 1) (left - 1) at next
    skip_week n p q =
        skip n (shut_week mask closed day (sym (weekly p) ∙ q))
        (record { within = g.scan.within; passed = λ ok. step_passed back closed at day (g.scan.passed ok) })

    -- an open day is the answer
    take : {w : Bool} → w ≡ eqb (mask / 2 ^ weekday % 2) 1 → w ≡ false → member day closed ≡ false → given day ≡ first_open mask closed back tries start
    take p q m =
        sym (sym g.same ∙ one_less ∙ turn_open (is_open_day mask closed) back (left - 1) day (is_open mask closed day (sym (weekly p) ∙ q) m))

pub days_none : {back : Bool} {mask : ℕ} {closed : List ℕ} {tries start day left at weekday : ℕ} → Days back mask closed tries start day left at weekday → left ≡ 0 → closed_ok closed ≡ true → refused CLOSED ≡ first_open mask closed back tries start
days_none g h ok = sym (none g h)

-- ---- on
module _ {mask : ℕ} {closed : List ℕ} {tries start at weekday : ℕ} where
  pub ahead_start : SPAN_FIRST ≤ start → start ≤ SPAN_LAST → tries ≤ 31 → LowerBound closed start at → weekday ≡ (start + 6) % 7 → Days false mask closed tries start start tries at weekday
  unfolding Passed
  ahead_start l h few b w =
      record {
        least = omega arith;
        most = omega arith;
        scan = record { within = b.within; passed = b.below };
        same = refl;
        on = w;
      }

module _ {mask : ℕ} {closed : List ℕ} {tries start day left at weekday : ℕ} (g : Days false mask closed tries start day left at weekday) (h : left ≡ 0 → ⊥) {w : Bool} (p : w ≡ eqb (mask / 2 ^ weekday % 2) 1) where
  weekday_on : {next : ℕ} → next ≡ (weekday + 1) % 7 → next ≡ (day + 1 + 6) % 7
  weekday_on n = omega (arith, g.on)

  pub ahead_week : {next : ℕ} → next ≡ (weekday + 1) % 7 → w ≡ true → Days false mask closed tries start (day + 1) (left - 1) at next
  unfolding step
  ahead_week n q = skip_week g (omega arith) (weekday_on n) p q

  pub ahead_hit : {to next : ℕ} → next ≡ (weekday + 1) % 7 → Scan false closed day to → to < length closed → get_or closed to 0 ≡ day → Days false mask closed tries start (day + 1) (left - 1) (to + 1) next
  unfolding step Passed
  ahead_hit {to} n s l e =
      skip g (omega arith) (weekday_on n) (shut_listed mask closed day (present closed to day l e))
      (record {
        within = omega arith;
        passed = λ ok. record { before = λ k q. ⊎_elim (λ (z : k ≡ to). rw z (omega arith)) (λ (z : k < to). omega (arith, (s.passed ok).before k z)) (eq-or-lt_of_le (omega arith)) };
      })

  pub ahead_stop : {to : ℕ} → w ≡ false → Scan false closed day to → day < get_or closed to 0 → closed_ok closed ≡ true → given day ≡ first_open mask closed false tries start
  unfolding Passed
  ahead_stop {to} q s l ok =
      take g (omega arith) p q (between closed to day (s.passed ok) (above_from closed to day ok l))

  pub ahead_end : {to : ℕ} → w ≡ false → Scan false closed day to → length closed ≤ to → closed_ok closed ≡ true → given day ≡ first_open mask closed false tries start
  unfolding Passed
  ahead_end {to} q s l ok = take g (omega arith) p q (between closed to day (s.passed ok) (above_end closed to day l))

pub ahead_next : {closed : List ℕ} {day at : ℕ} → Scan false closed day at → at < length closed → get_or closed at 0 ≤ day → (get_or closed at 0 ≡ day → ⊥) → Scan false closed day (at + 1)
unfolding Passed
ahead_next {closed} {day} {at} s l h e =
    record {
      within = omega arith;
      passed = λ ok. record { before = λ k q. ⊎_elim (λ (z : k ≡ at). rw z (strictly (get_or closed at 0) day h (λ p. e (sym p)))) (λ (z : k < at). (s.passed ok).before k z) (eq-or-lt_of_le (omega arith)) };
    }

pub ruleset ahead_rules = (ahead_start, scan_of_days, is_weekday, days_none, ahead_week, ahead_hit, ahead_stop, ahead_end, ahead_next, rules)

-- ---- back
module _ {mask : ℕ} {closed : List ℕ} {tries start at weekday : ℕ} where
  pub behind_start : SPAN_FIRST ≤ start → start ≤ SPAN_LAST → tries ≤ 31 → LowerBound closed (start + 1) at → weekday ≡ (start + 6) % 7 → Days true mask closed tries start start tries at weekday
  unfolding Passed
  behind_start l h few b w =
      record {
        least = omega arith;
        most = omega arith;
        scan = record { within = b.within; passed = λ ok. record { after = λ k q r. omega (arith, b.from ok k q r) } };
        same = refl;
        on = w;
      }

module _ {mask : ℕ} {closed : List ℕ} {tries start day left at weekday : ℕ} (g : Days true mask closed tries start day left at weekday) (h : left ≡ 0 → ⊥) {w : Bool} (p : w ≡ eqb (mask / 2 ^ weekday % 2) 1) where
  weekday_back : {next : ℕ} → next ≡ (weekday + 6) % 7 → next ≡ (day - 1 + 6) % 7
  weekday_back n = omega (arith, g.on, g.least)

  pub behind_week : {next : ℕ} → next ≡ (weekday + 6) % 7 → w ≡ true → Days true mask closed tries start (day - 1) (left - 1) at next
  unfolding step
  behind_week n q = skip_week g (omega arith) (weekday_back n) p q

  pub behind_hit : {to next : ℕ} → next ≡ (weekday + 6) % 7 → Scan true closed day to → 0 < to → get_or closed (to - 1) 0 ≡ day → Days true mask closed tries start (day - 1) (left - 1) (to - 1) next
  unfolding step Passed
  behind_hit {to} n s l e =
      skip g (omega arith) (weekday_back n) (shut_listed mask closed day (present closed (to - 1) day (omega (arith, s.within)) e))
      (record {
        within = omega (arith, s.within);
        passed = λ ok. record { after = λ k q r. ⊎_elim (λ (z : to - 1 ≡ k). rw (← z) (omega (arith, g.least))) (λ (z : to - 1 < k). omega (arith, (s.passed ok).after k (omega arith) r)) (eq-or-lt_of_le q) };
      })

  pub behind_stop : {to : ℕ} → w ≡ false → Scan true closed day to → 0 < to → get_or closed (to - 1) 0 < day → closed_ok closed ≡ true → given day ≡ first_open mask closed true tries start
  unfolding Passed
  behind_stop {to} q s z l ok =
      take g (omega arith) p q (between closed to day (below_to closed to day ok z s.within l) (s.passed ok))

  pub behind_end : {to : ℕ} → w ≡ false → Scan true closed day to → to ≤ 0 → closed_ok closed ≡ true → given day ≡ first_open mask closed true tries start
  unfolding Passed
  behind_end {to} q s l ok = take g (omega arith) p q (between closed to day (below_none closed to day l) (s.passed ok))

pub behind_next : {closed : List ℕ} {day at : ℕ} → Scan true closed day at → 0 < at → day ≤ get_or closed (at - 1) 0 → (get_or closed (at - 1) 0 ≡ day → ⊥) → Scan true closed day (at - 1)
unfolding Passed
behind_next {closed} {day} {at} s l h e =
    record {
      within = omega (arith, s.within);
      passed = λ ok. record { after = λ k q r. ⊎_elim (λ (z : at - 1 ≡ k). rw (← z) (strictly day (get_or closed (at - 1) 0) h e)) (λ (z : at - 1 < k). (s.passed ok).after k (omega arith) r) (eq-or-lt_of_le q) };
    }

pub ruleset behind_rules = (behind_start, scan_of_days, is_weekday, days_none, behind_week, behind_hit, behind_stop, behind_end, behind_next, rules)
