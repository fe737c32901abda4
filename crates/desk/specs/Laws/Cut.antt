-- A search cut in two, and two calendars that agree on the days that are tried.
-- Assumes nothing.
use Rattle.std.specs.Prelude.{ℕ, zero, suc, ◌+◌, ◌<◌, ◌≡◌, refl, Bool, true, false}
use Rattle.std.proofs.Common.{sym, ap, ◌∙◌, arith}
use Rattle.refusal.specs.Answer.{given, refused}
use Rattle.refusal.specs.Laws.Answers.{never_both}
use Rattle.date.specs.Date.{step}
use Rattle.calendar.specs.AnyCalendar.{first_open}
use Rattle.calendar.specs.Laws.Search.{turn_open, turn_shut, turn_none, found_first, first_is_found}

none : (back : Bool) (day : ℕ) → step back day 0 ≡ day
unfolding step
none true day = omega arith
none false day = omega arith

more : (back : Bool) (day k : ℕ) → step back (step back day 1) k ≡ step back day (suc k)
unfolding step
more true day k = omega arith
more false day k = omega arith

-- two calendars that agree on the days tried find the same
module _ (f g : ℕ → Bool) (back : Bool) where
  alike_by : (b : Bool) (left day : ℕ) → f day ≡ b → f day ≡ g day → first_open f back left (step back day 1) ≡ first_open g back left (step back day 1) → first_open f back (suc left) day ≡ first_open g back (suc left) day
  alike_by true left day e s h = turn_open f back left day e ∙ sym (turn_open g back left day (sym s ∙ e))
  alike_by false left day e s h = turn_shut f back left day e ∙ h ∙ sym (turn_shut g back left day (sym s ∙ e))

  pub alike : (left day : ℕ) → ((k : ℕ) → k < left → f (step back day k) ≡ g (step back day k)) → first_open f back left day ≡ first_open g back left day
  alike zero day s = turn_none f back day ∙ sym (turn_none g back day)
  alike (suc left) day s =
      alike_by (f day) left day refl (ap f (sym (none back day)) ∙ s 0 (omega arith) ∙ ap g (none back day))
      (alike left (step back day 1) (λ k l. ap f (more back day k) ∙ s (suc k) (omega arith) ∙ ap g (sym (more back day k))))

module _ (opens : ℕ → Bool) (back : Bool) where
  -- what the first part finds is found
  pub cut_found : (a b day new : ℕ) → first_open opens back a day ≡ given new → first_open opens back (a + b) day ≡ given new
  cut_found a b day new h =
      let f = found_first opens back a day new h in
      first_is_found opens back (a + b) day new
      (record { steps = f.steps; few = omega (arith, f.few); there = f.there; is_open = f.is_open; passed_over = f.passed_over })

  rest_by : (o : Bool) (a b day n : ℕ) → opens day ≡ o → ((d : ℕ) → first_open opens back a d ≡ refused n → first_open opens back (a + b) d ≡ first_open opens back b (step back d a)) → first_open opens back (suc a) day ≡ refused n → first_open opens back (suc a + b) day ≡ first_open opens back b (step back day (suc a))
  rest_by true a b day n e f h = absurd (never_both _ day n (turn_open opens back a day e) h)
  rest_by false a b day n e f h =
      ap (λ (k : ℕ). first_open opens back k day) (sum a b)
      ∙ turn_shut opens back (a + b) day e
      ∙ f (step back day 1) (sym (turn_shut opens back a day e) ∙ h)
      ∙ ap (first_open opens back b) (more back day a)
    where
      sum : (a b : ℕ) → suc a + b ≡ suc (a + b)
      sum a b = omega arith

  -- what it does not find is looked for in the rest
  pub cut_rest : (a b day n : ℕ) → first_open opens back a day ≡ refused n → first_open opens back (a + b) day ≡ first_open opens back b (step back day a)
  cut_rest zero b day n h = ap (λ (k : ℕ). first_open opens back k day) (sum b) ∙ ap (first_open opens back b) (sym (none back day))
    where
      sum : (b : ℕ) → 0 + b ≡ b
      sum b = omega arith
  cut_rest (suc a) b day n h = rest_by (opens day) a b day n refl (λ d e. cut_rest a b d n e) h
