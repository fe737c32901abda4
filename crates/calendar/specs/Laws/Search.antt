-- What the search for an open day finds, said of the days and not of the recursion, once for both directions and for any calendar.
-- Assumes nothing.
use Rattle.std.specs.Prelude.{ℕ, zero, suc, ◌<◌, ◌≡◌, Bool, ◌&&◌, leb}
use Rattle.std.proofs.Math.Path.{refl}
use Rattle.std.proofs.Common.{sym, ap, ◌∙◌, arith, not-suc-le-zero}
use Rattle.std.proofs.Math.Bool.{true, false}
use Rattle.refusal.specs.Answer.{Answer, given, refused, need, then, BOOK, CLOSED}
use Rattle.refusal.specs.Laws.Answers.{holds, need_given, then_given, then_refused, never_both, one_given}
use Rattle.date.specs.Date.{SPAN_FIRST, SPAN_LAST, step, within_span}
use Rattle.calendar.specs.AnyCalendar.{in_span, taken_or, first_open, found, towards, by_convention, adjusted}

-- `new` is fewer than `left` days from `day`, on or back; it is open, and no day passed over is
pub record First (opens : ℕ → Bool) (back : Bool) (left day new : ℕ) : Type 0 where
  pub steps : ℕ
  pub few : steps < left
  pub there : new ≡ step back day steps
  pub is_open : opens new ≡ true
  pub passed_over : (k : ℕ) → k < steps → opens (step back day k) ≡ false

step_none : (back : Bool) (day : ℕ) → step back day 0 ≡ day
unfolding step
step_none true day = omega arith
step_none false day = omega arith

step_more : (back : Bool) (day k : ℕ) → step back (step back day 1) k ≡ step back day (suc k)
unfolding step
step_more true day k = omega arith
step_more false day k = omega arith

module _ (opens : ℕ → Bool) (back : Bool) where
  -- one turn of the search
  pub turn_open : (left day : ℕ) → opens day ≡ true → first_open opens back (suc left) day ≡ given day
  unfolding first_open taken_or
  turn_open left day e = rw e

  pub turn_shut : (left day : ℕ) → opens day ≡ false → first_open opens back (suc left) day ≡ first_open opens back left (step back day 1)
  unfolding first_open taken_or
  turn_shut left day e = rw e

  pub turn_none : (day : ℕ) → first_open opens back 0 day ≡ refused CLOSED
  unfolding first_open
  turn_none day = refl

  -- a first day is one further on, if this one is closed
  later : (left day new : ℕ) → opens day ≡ false → First opens back left (step back day 1) new → First opens back (suc left) day new
  later left day new e f =
      record {
        steps = suc f.steps;
        few = omega (arith, f.few);
        there = f.there ∙ step_more back day f.steps;
        is_open = f.is_open;
        passed_over = over;
      }
    where
      over : (k : ℕ) → k < suc f.steps → opens (step back day k) ≡ false
      over zero h = ap opens (step_none back day) ∙ e
      over (suc k) h = ap opens (sym (step_more back day k)) ∙ f.passed_over k (omega arith)

  found_by : (b : Bool) (left day new : ℕ) → opens day ≡ b → ((d : ℕ) → first_open opens back left d ≡ given new → First opens back left d new) → first_open opens back (suc left) day ≡ given new → First opens back (suc left) day new
  found_by true left day new e f h =
      let q : day ≡ new = one_given _ day new (turn_open left day e) h in
      record {
        steps = 0;
        few = omega arith;
        there = sym q ∙ sym (step_none back day);
        is_open = ap opens (sym q) ∙ e;
        passed_over = λ k l. absurd (not-suc-le-zero l);
      }
  found_by false left day new e f h = later left day new e (f (step back day 1) (sym (turn_shut left day e) ∙ h))

  -- ---- the day found is open, and no day passed over is
  pub found_first : (left day new : ℕ) → first_open opens back left day ≡ given new → First opens back left day new
  found_first zero day new h = absurd (never_both _ new CLOSED h (turn_none day))
  found_first (suc left) day new h =
      found_by (opens day) left day new refl (λ d e. found_first left d new e) h

  -- and such a day is the one found
  first_found : (left day new k : ℕ) → k < left → new ≡ step back day k → opens new ≡ true → ((j : ℕ) → j < k → opens (step back day j) ≡ false) → first_open opens back left day ≡ given new
  first_found zero day new k l t o p = absurd (not-suc-le-zero l)
  first_found (suc left) day new zero l t o p =
      let q : new ≡ day = t ∙ step_none back day in
      turn_open left day (ap opens (sym q) ∙ o) ∙ ap given (sym q)
  first_found (suc left) day new (suc k) l t o p =
      turn_shut left day (ap opens (sym (step_none back day)) ∙ p 0 (omega arith))
      ∙ first_found left (step back day 1) new k (omega arith) (t ∙ sym (step_more back day k)) o (λ j h. ap opens (step_more back day j) ∙ p (suc j) (omega arith))

  pub first_is_found : (left day new : ℕ) → First opens back left day new → first_open opens back left day ≡ given new
  first_is_found left day new f = first_found left day new f.steps f.few f.there f.is_open f.passed_over

  none_by : (b : Bool) (left day : ℕ) → opens day ≡ b → ((d : ℕ) → first_open opens back left d ≡ refused CLOSED → (k : ℕ) → k < left → opens (step back d k) ≡ false) → first_open opens back (suc left) day ≡ refused CLOSED → (k : ℕ) → k < suc left → opens (step back day k) ≡ false
  none_by true left day e f h k l = absurd (never_both _ day CLOSED (turn_open left day e) h)
  none_by false left day e f h zero l = ap opens (step_none back day) ∙ e
  none_by false left day e f h (suc k) l =
      ap opens (sym (step_more back day k)) ∙ f (step back day 1) (sym (turn_shut left day e) ∙ h) k (omega arith)

  -- ---- refused exactly if none of the days is open
  pub refused_none : (left day : ℕ) → first_open opens back left day ≡ refused CLOSED → (k : ℕ) → k < left → opens (step back day k) ≡ false
  refused_none zero day h k l = absurd (not-suc-le-zero l)
  refused_none (suc left) day h k l =
      none_by (opens day) left day refl (λ d e. refused_none left d e) h k l

  pub none_refused : (left day : ℕ) → ((k : ℕ) → k < left → opens (step back day k) ≡ false) → first_open opens back left day ≡ refused CLOSED
  none_refused zero day f = turn_none day
  none_refused (suc left) day f =
      turn_shut left day (ap opens (sym (step_none back day)) ∙ f 0 (omega arith))
      ∙ none_refused left (step back day 1) (λ k l. ap opens (step_more back day k) ∙ f (suc k) (omega arith))

-- ---- the span's test
span_by : (a b : Bool) (n : ℕ) → need BOOK a (need BOOK b (given n)) ≡ need BOOK (a && b) (given n)
unfolding need
span_by true b n = refl
span_by false b n = refl

pub span_need : (day : ℕ) → within_span day ≡ need BOOK (in_span day) (given day)
unfolding within_span in_span
span_need day = span_by (leb SPAN_FIRST day) (leb day SPAN_LAST) day

pub span_given : (day : ℕ) → in_span day ≡ true → within_span day ≡ given day
span_given day s = span_need day ∙ sym (holds BOOK (in_span day) (given day) _ s refl)

in_search : (x : Answer ℕ) (new : ℕ) → then x within_span ≡ given new → x ≡ given new
unfolding then
in_search (given a) new h = (need_given BOOK (in_span a) (given a) new (sym (span_need a) ∙ h)).1
in_search (refused n) new h = absurd (never_both _ new n h refl)

in_closed : (b : Bool) (x : Answer ℕ) → need BOOK b (then x within_span) ≡ refused CLOSED → x ≡ refused CLOSED
unfolding need then
in_closed true (given a) h = absurd (two_thirteen (in_span a) (sym (span_need a) ∙ h))
  where
    two_thirteen : (c : Bool) → need BOOK c (given a) ≡ refused CLOSED → ⊥
    two_thirteen true e = never_both _ a CLOSED refl e
    two_thirteen false e = let z : ◌≡◌ {A = ℕ} BOOK CLOSED = cc in omega arith
in_closed true (refused n) h = h
in_closed false x h = let z : ◌≡◌ {A = ℕ} BOOK CLOSED = cc in let bad : ⊥ = omega arith in absurd bad

-- ---- the same of Following and Preceding on days from 1800 to 2399
module _ (opens : ℕ → Bool) (back : Bool) where
  pub as_search : (day : ℕ) → adjusted opens (towards back) day ≡ need BOOK (in_span day) (then (first_open opens back 31 day) within_span)
  unfolding adjusted by_convention found towards
  as_search day = by back
    where
      by : (b : Bool) → adjusted opens (towards b) day ≡ need BOOK (in_span day) (then (first_open opens b 31 day) within_span)
      by true = refl
      by false = refl

  -- the day given is open, and no day passed over is
  pub adjusted_first : (day new : ℕ) → adjusted opens (towards back) day ≡ given new → First opens back 31 day new
  adjusted_first day new h =
      found_first opens back 31 day new
      (in_search (first_open opens back 31 day) new (need_given BOOK (in_span day) _ new (sym (as_search day) ∙ h)).1)

  -- and such a day is given, if both are days of the span
  pub first_adjusted : (day new : ℕ) → in_span day ≡ true → in_span new ≡ true → First opens back 31 day new → adjusted opens (towards back) day ≡ given new
  first_adjusted day new s t f =
      as_search day
      ∙ sym (holds BOOK (in_span day) _ (given new) s (then_given _ new within_span _ (first_is_found opens back 31 day new f) (sym (span_given new t))))

  -- refused 13 exactly if none of the thirty-one is open
  pub closed_none : (day : ℕ) → adjusted opens (towards back) day ≡ refused CLOSED → (k : ℕ) → k < 31 → opens (step back day k) ≡ false
  closed_none day h = refused_none opens back 31 day (in_closed (in_span day) (first_open opens back 31 day) (sym (as_search day) ∙ h))

  pub none_closed : (day : ℕ) → in_span day ≡ true → ((k : ℕ) → k < 31 → opens (step back day k) ≡ false) → adjusted opens (towards back) day ≡ refused CLOSED
  none_closed day s f =
      as_search day
      ∙ sym (holds BOOK (in_span day) _ (refused CLOSED) s (then_refused _ CLOSED within_span (none_refused opens back 31 day f)))
