-- The twentieths lie in the span.
-- Assumes nothing.
use mathlib.Core.Path.{◌≡◌}
use mathlib.Core.Bool.{Bool, true, false}
use Prim.Native.Nat.{ℕ, ◌≤◌}
use lib.Dec.{ltb}
use Rattle.refusal.specs.Answer.{given, then}
use Rattle.refusal.specs.Laws.Answers.{then_stepped}
use Rattle.date.specs.Date.{SPAN_FIRST, SPAN_LAST, make_of, in_month, shift_months}
use Rattle.date.specs.Laws.Made.{made, made_within}
use Rattle.steps.specs.declared.Rule.{Rule}
use Rattle.steps.specs.Rules.{in_imm_months}
use Rattle.steps.specs.Twentieths.{twentieth_of, moved_if, to_imm_month, next_twentieth}

pub record InSpan (n : ℕ) : Type 0 where
  pub low : SPAN_FIRST ≤ n
  pub high : n ≤ SPAN_LAST

one : (a b : ℕ) → given a ≡ given b → a ≡ b
one a b h = cc

-- ---- twentieths
made_span : (y m d n : ℕ) → make_of y m d ≡ given n → InSpan n
made_span y m d n h = let w = made_within y m d n (made y m d n h) in record { low = w.0; high = w.1 }

shift_span : (n : ℕ) (back : Bool) (k r : ℕ) → shift_months n back k ≡ given r → InSpan r
unfolding shift_months in_month
shift_span n back k r h = made_span _ _ _ r h

moved_span : (b back : Bool) (k n r : ℕ) → InSpan n → moved_if b back k n ≡ given r → InSpan r
unfolding moved_if
moved_span true back k n r s h = shift_span n back k r h
moved_span false back k n r s h = let e = one n r h in rw (← e) s

twentieth_span : (rule : Rule) (back : Bool) (b : ℕ → Bool) (day r : ℕ) → then (twentieth_of day) (λ t. then (moved_if (b t) back 1 t) (to_imm_month rule back)) ≡ given r → InSpan r
unfolding twentieth_of to_imm_month
twentieth_span rule back b day r h =
    let s = then_stepped (twentieth_of day) _ r h in
    let t = then_stepped (moved_if (b s.value) back 1 s.value) _ r s.to in
    moved_span (in_imm_months rule) back _ t.value r (moved_span (b s.value) back 1 s.value t.value (made_span _ _ _ s.value s.from) t.from) t.to

pub next_span : (rule : Rule) (day r : ℕ) → next_twentieth rule day ≡ given r → InSpan r
unfolding next_twentieth
next_span rule day r h = twentieth_span rule false (λ t. ltb t day) day r h
