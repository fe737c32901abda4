-- The question's promise, of every request, closed list and asked day: it is refused with the first row that holds and with no other number, and
-- otherwise answers what the list of document 01's steps shows, with no room limit, and so what any list shows that is built. No two answers meet it.
-- Assumes nothing.
use Rattle.std.specs.Prelude.{ℕ, zero, suc, ◌≡◌, Bool, true, false, List, [], ◌∷◌}
use Rattle.std.proofs.Math.Path.{refl, subst}
use Rattle.std.proofs.Common.{ap, sym, ◌∙◌, arith}
use Rattle.refusal.specs.Answer.{Answer, given, refused, number, BOOK, CALENDAR, NEGATIVE, TENOR, NOTPLAIN}
use Rattle.refusal.specs.Laws.Answers.{never_both, one_given}
use Rattle.steps.specs.declared.Request.{Request}
use Rattle.steps.specs.Rules.{rule_number, one_of, is_backward}
use Rattle.steps.specs.Table.{first_row}
use Rattle.steps.specs.Laws.Table.{numbers, NoneHolds, FirstHolds, first_answers, answer_is_first, none_answers, answer_is_none}
use Rattle.steps.specs.Build.{Schedule, build_of}
use Rattle.outcomes.specs.NoLimit.{no_limit_once, no_limit_built}
use Rattle.coming.specs.Coming.{Comes, pick_c, asked_rows, between_or, comes_backward, comes_forward, comes_after, unless_refused, coming_of}
use Rattle.coming.specs.Shows.{Shows, shows_once}
use Rattle.coming.specs.Laws.Straight.{Straight, backward, forward, Answerable, asked_numbered, first_not_zero, answerable}
use Rattle.coming.specs.Promise.{Listed, Meets}
use Rattle.coming.proofs.Laws.Backwards.{shown_backward}
use Rattle.coming.proofs.Laws.Forwards.{shown_forward}

-- ---- by the number of the first row that holds
refused_from : (k : ℕ) (a : Comes) (n : ℕ) → unless_refused k a ≡ refused n → (k ≡ n) × (n ≡ 0 → ⊥)
unfolding unless_refused number
refused_from zero a n h = absurd (never_both (given a) a n refl h)
refused_from (suc k) a n h = let e : suc k ≡ n = ap number h in (e, λ z. omega arith)

refused_to : (k : ℕ) (a : Comes) (n : ℕ) → k ≡ n → (n ≡ 0 → ⊥) → unless_refused k a ≡ refused n
unfolding unless_refused
refused_to zero a n e z = absurd (z (sym e))
refused_to (suc k) a n e z = ap refused e

module _ (q : Request) (closed : List ℕ) (x : ℕ) where
  -- ---- 1: refused n exactly if row n is the first that holds
  pub refused_exactly : (n : ℕ) → (coming_of q closed x ≡ refused n → FirstHolds (asked_rows q closed x) n) × (FirstHolds (asked_rows q closed x) n → coming_of q closed x ≡ refused n)
  unfolding coming_of
  refused_exactly n = (
    (λ h. let r = refused_from _ (comes_after q x) n h in answer_is_first (asked_rows q closed x) n r.0 r.1),
    (λ f. refused_to _ (comes_after q x) n (first_answers f) (first_not_zero (asked_numbered q closed x) f)),
  )

  -- and with no other number than these
  pub its_numbers : numbers (asked_rows q closed x) ≡ BOOK ∷ CALENDAR ∷ NEGATIVE ∷ TENOR ∷ NOTPLAIN ∷ []
  unfolding numbers asked_rows
  its_numbers = refl

  accepted : NoneHolds (asked_rows q closed x) → coming_of q closed x ≡ given (comes_after q x)
  unfolding coming_of unless_refused
  accepted h = rw (none_answers h)

  listed : Answerable q closed x → Listed q closed x (comes_after q x)
  unfolding comes_after is_backward one_of rule_number
  listed a = by a.straight
    where
      with_rule : (s : Schedule) (b : Bool) → is_backward q.rule ≡ b → Shows s x (between_or q x (pick_c b (comes_backward q x) (comes_forward q x))) → Shows s x (comes_after q x)
      with_rule s b e h = subst (λ (t : Bool). Shows s x (between_or q x (pick_c t (comes_backward q x) (comes_forward q x)))) (sym e) h

      by : Straight q → Listed q closed x (comes_after q x)
      by (backward p) = let s = shown_backward q closed 0 0 p a.passes x in record { schedule = s.0; no_limit = s.1; shows = with_rule s.0 true (ap is_backward p.backward) s.2 }
      by (forward p) = let s = shown_forward q closed 0 0 p a.passes x a.day_in_book in record { schedule = s.0; no_limit = s.1; shows = with_rule s.0 false (ap is_backward p.forward) s.2 }

  -- ---- 2: where no row holds, what the list shows
  pub answers_listed : NoneHolds (asked_rows q closed x) → (a : Comes) × (coming_of q closed x ≡ given a) × Listed q closed x a
  answers_listed h = (comes_after q x, accepted h, listed (answerable q closed x h))

  -- ---- 3: and what any list shows that a build gives, with whatever lengths lent
  pub answers_built : NoneHolds (asked_rows q closed x) → (dates flags : ℕ) (s : Schedule) → build_of q closed dates flags ≡ given s → (a : Comes) × (coming_of q closed x ≡ given a) × Shows s x a
  answers_built h dates flags s b =
      let l = listed (answerable q closed x h) in
      let e : l.schedule ≡ s = one_given (given s) l.schedule s (no_limit_once q closed (given s) (given l.schedule) (no_limit_built q closed dates flags s b) l.no_limit) refl in
      (comes_after q x, accepted h, subst (λ (y : Schedule). Shows y x (comes_after q x)) e l.shows)

-- ---- 4: two answers that meet 1 and 2 are one
pub meets : (q : Request) (closed : List ℕ) (x : ℕ) → Meets q closed x (coming_of q closed x)
meets q closed x = record { refused_first = λ n f. (refused_exactly q closed x n).1 f; listed_else = answers_listed q closed x }

pub settled : (q : Request) (closed : List ℕ) (x : ℕ) (o o' : Answer Comes) → Meets q closed x o → Meets q closed x o' → o ≡ o'
settled q closed x o o' m m' = by (first_row (asked_rows q closed x)) refl
  where
    same : (a a' : Comes) → Listed q closed x a → Listed q closed x a' → a ≡ a'
    same a a' l l' =
        let e : l.schedule ≡ l'.schedule = one_given (given l.schedule) l.schedule l'.schedule refl (no_limit_once q closed _ _ l.no_limit l'.no_limit) in
        shows_once l'.schedule x a a' (subst (λ (y : Schedule). Shows y x a) e l.shows) l'.shows

    by : (n : ℕ) → first_row (asked_rows q closed x) ≡ n → o ≡ o'
    by zero e =
        let h = answer_is_none (asked_rows q closed x) (asked_numbered q closed x) e in
        let a = m.listed_else h in
        let a' = m'.listed_else h in
        a.1 ∙ ap given (same a.0 a'.0 a.2 a'.2) ∙ sym a'.1
    by (suc n) e = let f = answer_is_first (asked_rows q closed x) (suc n) e (λ z. omega arith) in m.refused_first (suc n) f ∙ sym (m'.refused_first (suc n) f)
