-- A build tries no more candidates than the loop may look at, which are under a million.
-- Assumes nothing.
use Rattle.std.specs.Prelude.{ℕ, zero, suc, ◌+◌, ◌≤◌, ◌<◌, ◌≡◌, refl, Bool, List}
use Rattle.std.proofs.Common.{sym, ap, arith}
use Rattle.std.proofs.Math.Bool.{true, false}
use Rattle.refusal.specs.Answer.{Answer, given, BOOK}
use Rattle.refusal.specs.Laws.Answers.{never_both, one_given, then_stepped}
use Rattle.steps.specs.declared.Request.{Request}
use Rattle.steps.specs.Candidates.{Turn, past, skip, keep}
use Rattle.steps.specs.Rules.{rule_in_force, is_zero, is_backward}
use Rattle.steps.specs.Table.{first_row, input_rows}
use Rattle.steps.specs.Generate.{Lists, Walk, on_turn, last_try, walk, candidates, Made, zero_dates, backward_end, backward_from, backward, forward_end, forward_from, forward, generate_by, generate}
use Rattle.steps.specs.Build.{Schedule, steps_of, admitted, build_of}

-- ---- the loop
turn_tries : (room : ℕ) (t : Turn) (k : ℕ) (l : Lists) (again : Lists → Answer Walk) (w : Walk) (top : ℕ) → k ≤ top → ((m : Lists) → again m ≡ given w → w.tries ≤ top) → on_turn room t k l again ≡ given w → w.tries ≤ top
unfolding on_turn
turn_tries room past k l again w top h r e =
    let same : k ≡ w.tries = ap (λ (x : Walk). x.tries) (one_given (given w) _ w (sym e) refl) in
    omega arith
turn_tries room skip k l again w top h r e = r l e
turn_tries room (keep day) k l again w top h r e = let s = then_stepped _ again w e in r s.value s.to

walk_tries : (turn : ℕ → ℕ → Answer Turn) (room left k : ℕ) (l : Lists) (w : Walk) (top : ℕ) → k + left ≤ suc top → walk turn room left k l ≡ given w → w.tries ≤ top
unfolding walk
walk_tries turn room zero k l w top h e = absurd (never_both _ w BOOK e refl)
walk_tries turn room (suc left) k l w top h e =
    let s = then_stepped _ _ w e in
    turn_tries room s.value k l _ w top (omega arith) (λ m. walk_tries turn room left (suc k) m w top (omega arith)) s.to

candidates_tries : (q : Request) (closed : List ℕ) (room : ℕ) (back : Bool) (seed exit : ℕ) (l : Lists) (w : Walk) → candidates q closed room back seed exit l ≡ given w → w.tries ≤ last_try
unfolding candidates
candidates_tries q closed room back seed exit l w e = walk_tries _ room last_try 1 l w last_try (omega arith) e

-- ---- the directions
handed_on : (x m : Made) → x.tries ≤ last_try → given x ≡ given m → m.tries ≤ last_try
handed_on x m h e = let z : x.tries ≡ m.tries = ap (λ (y : Made). y.tries) (one_given (given m) x m (sym e) refl) in omega arith

module _ (q : Request) (closed : List ℕ) (room : ℕ) (m : Made) where
  zero_tries : zero_dates q room ≡ given m → m.tries ≤ last_try
  unfolding zero_dates
  zero_tries e = let s = then_stepped _ _ m e in handed_on _ m (omega arith) s.to

  back_end : (tries seed : ℕ) (l : Lists) → tries ≤ last_try → backward_end q closed room tries seed l ≡ given m → m.tries ≤ last_try
  unfolding backward_end
  back_end tries seed l h e = let s = then_stepped _ _ m e in handed_on _ m h s.to

  forth_end : (tries seed : ℕ) (l : Lists) → tries ≤ last_try → forward_end q closed room tries seed l ≡ given m → m.tries ≤ last_try
  unfolding forward_end
  forth_end tries seed l h e = let s = then_stepped _ _ m e in handed_on _ m h s.to

  back_tries : backward q closed room ≡ given m → m.tries ≤ last_try
  unfolding backward backward_from
  back_tries e =
      let a = then_stepped _ _ m e in
      let b = then_stepped _ _ m a.to in
      back_end _ _ _ (candidates_tries q closed room true _ _ _ b.value b.from) b.to

  forth_tries : forward q closed room ≡ given m → m.tries ≤ last_try
  unfolding forward forward_from
  forth_tries e =
      let a = then_stepped _ _ m e in
      let b = then_stepped _ _ m a.to in
      forth_end _ _ _ (candidates_tries q closed room false _ _ _ b.value b.from) b.to

  pub generate_tries : generate q closed room ≡ given m → m.tries ≤ last_try
  unfolding generate generate_by
  generate_tries = by (is_zero (rule_in_force q)) (is_backward (rule_in_force q))
    where
      by : (none back : Bool) → generate_by none back q closed room ≡ given m → m.tries ≤ last_try
      by true back e = zero_tries e
      by false true e = back_tries e
      by false false e = forth_tries e

-- ---- a build
pub build_tries : (q : Request) (closed : List ℕ) (dates flags : ℕ) (s : Schedule) → build_of q closed dates flags ≡ given s → s.tries < 1000000
unfolding build_of admitted steps_of last_try
build_tries q closed dates flags s h = by (first_row (input_rows q closed dates flags)) h
  where
    by : (n : ℕ) → admitted n (steps_of q closed) dates ≡ given s → s.tries < 1000000
    by zero e =
        let a = then_stepped _ _ s e in
        let b = then_stepped _ _ s a.to in
        let z : a.value.tries ≡ s.tries = ap (λ (x : Schedule). x.tries) (one_given (given s) _ s (sym b.to) refl) in
        omega (arith, generate_tries q closed _ a.value a.from)
    by (suc n) e = absurd (never_both _ s (suc n) e refl)
