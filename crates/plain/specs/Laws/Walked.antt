-- A plain request's dates are generated from termination back, by the candidates alone.
-- Assumes nothing.
use Rattle.std.specs.Prelude.{ℕ, ◌/◌, ◌≤◌, ◌<◌, ◌≡◌, true, false, List}
use Rattle.std.proofs.Math.Path.{refl, fun_ext}
use Rattle.std.proofs.Common.{sym, subst, arith, le_of_lt, ne_eqb}
use Rattle.std.proofs.Math.Nat.{div-le_self}
use Rattle.refusal.specs.Answer.{Answer, given, refused, then}
use Rattle.date.specs.Laws.Moves.{book_from, book_le}
use Rattle.steps.specs.declared.Rule.TheVariants.{Backward}
use Rattle.steps.specs.declared.Request.{Request}
use Rattle.steps.specs.declared.Pace.{Pace}
use Rattle.steps.specs.declared.Seed.{Seed}
use Rattle.steps.specs.Rules.{rule_number, one_of, rule_under, is_none, rule_in_force, is_zero, is_backward, pace_of}
use Rattle.steps.specs.Table.{is_given}
use Rattle.steps.specs.Candidates.{seed_of, candidate}
use Rattle.steps.specs.Generate.{Lists, nothing, put, last_try, candidates, anchor_or, put_anchor, put_penultimate, begun, ended, backward_end, backward_from, backward, generate_by, generate}
use Rattle.plain.specs.Demand.{Plain, Passes, tenor_length, tenors_before, tenor_count, taken, Most}
use Rattle.plain.specs.Laws.Falling.{due_list, from_termination, Falls, GeneratedBack, falling}
use Rattle.plain.specs.Laws.Count.{Line, some_most, one_most, counted}
use Rattle.plain.specs.Laws.Tenor.{positive_size, candidate_is, counts_are, some_count, line_of}

-- the list owed, by a division and as many tenors
unfoldable pub owed_list : Request → ℕ → List ℕ
owed_list q m = due_list (tenors_before q) q.effective.day (m / tenor_count q)

module _ (q : Request) (p : Plain q) where
  pub some_length : 1 ≤ tenor_length q
  some_length = positive_size q.tenor.length p.positive

  pub rule_is : rule_in_force q ≡ Backward
  unfolding rule_in_force rule_under is_none
  rule_is = rw (ne_eqb (tenor_length q) 0 (λ h. omega (arith, some_length)), p.backward)

  abbrev pace : Pace
  pace = pace_of q.tenor

  abbrev seed : Seed
  seed = seed_of false q.termination.day

  no_penultimate : (room : ℕ) (s : Seed) (a : Answer Lists) → then a (put_penultimate pace s room 0) ≡ a
  unfolding then put_penultimate
  no_penultimate room s (given l) = refl
  no_penultimate room s (refused n) = refl

  begun_is : (room : ℕ) → begun q room ≡ put room q.termination.day 1 nothing
  unfolding begun
  begun_is room = rw p.no_penultimate (no_penultimate room _ (put room q.termination.day 1 nothing))

  backward_is : (closed : List ℕ) (room : ℕ) → backward q closed room ≡ from_termination q.mask closed pace seed room q.effective.day q.termination.day
  unfolding backward backward_from backward_end ended candidates anchor_or is_given put_anchor from_termination then
  backward_is closed room = rw (begun_is room, p.no_penultimate, p.no_first, p.unadjusted, p.no_month_end)

  pub generate_is : (closed : List ℕ) (room : ℕ) → generate q closed room ≡ from_termination q.mask closed pace seed room q.effective.day q.termination.day
  unfolding generate generate_by is_zero is_backward one_of rule_number
  generate_is closed room = rw rule_is (backward_is closed room)

  -- ---- the candidates
  tenors_are : (k : ℕ) → candidate true pace seed k ≡ tenors_before q k
  unfolding pace_of
  tenors_are k = candidate_is (tenor_length q) q.tenor.unit q.termination.day k

  pub some_units : 1 ≤ tenor_count q
  some_units = some_count q.tenor.unit (tenor_length q) some_length

  module _ (closed : List ℕ) (dates flags : ℕ) (c : Passes q closed dates flags) where
    pub line : Line (taken q) q.effective.day q.termination.day (tenor_count q)
    line = line_of q.effective.day q.termination.day (tenor_length q) q.tenor.unit c.effective_in_book (le_of_lt p.order) c.termination_in_book c.tenor_short

    pub most_is : (m : ℕ) × Most q m
    most_is = some_most (taken q) q.effective.day q.termination.day (tenor_count q) some_units (le_of_lt p.order) line

    pub most_only : (m m' : ℕ) → Most q m → Most q m' → m' ≡ m
    most_only = one_most (taken q) q.effective.day q.termination.day (tenor_count q) some_units (le_of_lt p.order) line

    module _ (m : ℕ) (w : Most q m) where
      pub tenors_fall : Falls (tenors_before q) q.effective.day q.termination.day (m / tenor_count q)
      tenors_fall = counted (taken q) q.effective.day q.termination.day (tenor_count q) some_units (le_of_lt p.order) line m w (tenors_before q) (counts_are (tenor_length q) q.tenor.unit q.termination.day)

      few : m / tenor_count q < last_try
      unfolding last_try
      few = omega (arith, div-le_self m (tenor_count q), line.few m w.day w.can_be_taken w.not_passing)

      -- what is generated, by whole tenors before termination
      pub generated : (room : ℕ) → GeneratedBack q.effective.day q.termination.day room (tenors_before q) (m / tenor_count q) (generate q closed room)
      generated room =
          rw (generate_is closed room)
          (subst (λ (f : ℕ → Answer ℕ). GeneratedBack q.effective.day q.termination.day room f (m / tenor_count q) (from_termination q.mask closed pace seed room q.effective.day q.termination.day)) (fun_ext (λ k. tenors_are k))
          (falling q.mask closed pace seed room q.effective.day q.termination.day (m / tenor_count q) by_candidates p.order few (omega (arith, book_from q.effective.day c.effective_in_book)) (omega (arith, book_le q.termination.day c.termination_in_book))))
        where
          by_candidates : Falls (candidate true pace seed) q.effective.day q.termination.day (m / tenor_count q)
          by_candidates = subst (λ (f : ℕ → Answer ℕ). Falls f q.effective.day q.termination.day (m / tenor_count q)) (fun_ext (λ k. sym (tenors_are k))) tenors_fall
