-- A plain forward request's dates are generated from effective on, by the candidates alone; the later steps leave them, and the input checks ask of it what
-- they ask of the same request under Backward.
-- Assumes nothing.
use Rattle.std.specs.Prelude.{ℕ, ◌/◌, ◌≤◌, ◌<◌, ◌≡◌, ◌↔◌, Bool, List, eqb}
use Rattle.std.proofs.Math.Path.{refl, ap, fun_ext}
use Rattle.std.proofs.Common.{sym, ◌∙◌, subst, arith, le_of_lt, ne_eqb}
use Rattle.std.proofs.Math.Bool.{true, false}
use Rattle.std.proofs.Math.Nat.{div-le_self}
use Rattle.refusal.specs.Answer.{Answer, given, refused, need, then, ROOM}
use Rattle.date.specs.Date.{SPAN_LAST}
use Rattle.date.specs.Laws.Moves.{book_from, book_le}
use Rattle.calendar.specs.declared.Convention.{Convention}
use Rattle.calendar.specs.declared.Convention.TheVariants.{Unadjusted}
use Rattle.calendar.specs.Adjust.{adjusted}
use Rattle.steps.specs.declared.Rule.{Rule}
use Rattle.steps.specs.declared.Rule.TheVariants.{Backward, Forward}
use Rattle.steps.specs.declared.Move.TheVariants.{Adjust}
use Rattle.steps.specs.declared.Request.{Request}
use Rattle.steps.specs.declared.Pace.{Pace}
use Rattle.steps.specs.declared.Seed.{Seed}
use Rattle.steps.specs.Rules.{rule_number, one_of, rule_under, is_none, rule_in_force, is_zero, is_backward, is_credit, is_old_cds, on_twentieths, pace_of}
use Rattle.steps.specs.Table.{first_row, is_given, dates_ok, by_range, by_imm, out_of_range, not_imm, wrong_rule, first_outside, last_outside, monthend_allowed, short_end, anchor_rows, first_rows, last_rows, rows_under, input_rows}
use Rattle.steps.specs.Candidates.{seed_of, candidate, turn_of}
use Rattle.steps.specs.Generate.{Lists, nothing, onto, newest, has_room_in, put, put_unless, put_new, last_try, walk, candidates, anchor_or, put_anchor, opening_by, opening, put_twentieth, second, opened, closing_day, put_closing, closing, shut, made_forth, forward_end, forward_from, forward, generate_by, generate}
use Rattle.steps.specs.Finish.{moved, wednesdays_by, wednesdays, unless, first_move, last_move, middle_move, seed_at_end, adjustments, finish}
use Rattle.outcomes.specs.Laws.Span.{InSpan}
use Rattle.plain.specs.Listed.{◌∈◌, Ascending}
use Rattle.plain.specs.Demand.{Plain, tenor_length, tenor_count, Passes}
use Rattle.plain.specs.Laws.Turns.{stays}
use Rattle.plain.specs.Forward.{under, PlainForward, tenors_after, added, MostOn}
use Rattle.plain.proofs.Laws.Rising.{from_effective, Rises, GeneratedOn, rising}
use Rattle.plain.proofs.Laws.Mirror.{Climb, some_added, one_added, counted_on}
use Rattle.plain.specs.Laws.Finished.{first_same, last_same, middle_same, merged_same}
use Rattle.plain.specs.Laws.Tenor.{positive_size, candidate_by_tenors, counts_by, some_count}
use Rattle.plain.proofs.Laws.Added.{climb_of}
use Rattle.plain.specs.Laws.Walked.{rule_is}
use Rattle.plain.specs.Laws.Checks.{checks_are}

pub passes_under : (rule : Rule) (q : Request) (closed : List ℕ) (dates flags : ℕ) → Passes q closed dates flags → Passes (under rule q) closed dates flags
passes_under rule q closed dates flags c = record {
  even = c.even;
  effective_in_book = c.effective_in_book;
  termination_in_book = c.termination_in_book;
  calendar_sound = c.calendar_sound;
  tenor_short = c.tenor_short;
}

module _ (q : Request) (p : PlainForward q) where
  pub some_length : 1 ≤ tenor_length q
  some_length = positive_size q.tenor.length p.positive

  pub rule_on : rule_in_force q ≡ Forward
  unfolding rule_in_force rule_under is_none
  rule_on = rw (ne_eqb (tenor_length q) 0 (λ h. omega (arith, some_length)), p.forward)

  pub some_units : 1 ≤ tenor_count q
  some_units = some_count q.tenor.unit (tenor_length q) some_length

  abbrev pace : Pace
  pace = pace_of q.tenor

  abbrev seed : Seed
  seed = seed_of false q.effective.day

  module _ (closed : List ℕ) (room : ℕ) where
    -- ---- termination
    closing_put : (b : Bool) (l : Lists) → put_closing b q room l ≡ put_unless b room q.termination.day 0 l
    unfolding put_closing put_unless closing_day on_twentieths one_of rule_number then
    closing_put true l = refl
    closing_put false l = rw p.forward refl

    closing_is : (l : Lists) → closing q closed room l ≡ put_new q.mask closed Unadjusted room q.termination.day q.termination.day 0 l
    unfolding closing put_new then
    closing_is l =
        ap (λ (c : Convention). then (adjusted q.mask closed c (newest l)) (λ a. then (adjusted q.mask closed c q.termination.day) (λ b. put_closing (eqb a b) q room l))) p.unadjusted_last
        ∙ by (adjusted q.mask closed Unadjusted (newest l)) (adjusted q.mask closed Unadjusted q.termination.day)
      where
        by : (x y : Answer ℕ) → then x (λ a. then y (λ b. put_closing (eqb a b) q room l)) ≡ then x (λ a. then y (λ b. put_unless (eqb a b) room q.termination.day 0 l))
        by (refused n) y = refl
        by (given a) (refused n) = refl
        by (given a) (given b) = closing_put (eqb a b) l

    shut_is : (l : Lists) → shut q closed room l ≡ put_new q.mask closed Unadjusted room q.termination.day q.termination.day 0 l
    unfolding shut put_anchor then
    shut_is l = ap (λ (k : ℕ). then (put_anchor q.mask closed q.convention room k l) (closing q closed room)) p.no_penultimate ∙ closing_is l

    -- ---- the loop, and the first date, which is the seed
    from_first : (l : Lists) → forward_from q closed room (record { lists = l; seed = q.effective.day }) ≡ then (walk (turn_of q.mask closed Unadjusted false pace seed q.termination.day) room last_try 1 l) (λ w. then (put_new q.mask closed Unadjusted room q.termination.day q.termination.day 0 w.lists) (λ m. given (made_forth w.tries q.effective.day m)))
    unfolding forward_from candidates anchor_or is_given forward_end
    from_first l =
        λ i. then (walk (turn_of q.mask closed (p.unadjusted i) false pace (seed_of (p.no_month_end i) q.effective.day) (anchor_or (p.no_penultimate i) q.termination.day)) room last_try 1 l) (λ w. then (shut_is w.lists i) (λ m. given (made_forth w.tries q.effective.day m)))

    with_room : (b : Bool) → then (then (need ROOM b (given (onto q.effective.day 1 nothing))) (λ l. given (record { lists = l; seed = newest l }))) (forward_from q closed room) ≡ then (need ROOM b (given (onto q.effective.day 1 nothing))) (λ l. then (walk (turn_of q.mask closed Unadjusted false pace seed q.termination.day) room last_try 1 l) (λ w. then (put_new q.mask closed Unadjusted room q.termination.day q.termination.day 0 w.lists) (λ m. given (made_forth w.tries q.effective.day m))))
    unfolding need then
    with_room true = from_first (onto q.effective.day 1 nothing)
    with_room false = refl

    forward_is : forward q closed room ≡ from_effective q.mask closed pace seed room q.effective.day q.termination.day
    unfolding forward opened opening opening_by second put_twentieth is_credit on_twentieths one_of rule_number put from_effective
    forward_is =
        (λ i. then (then (opening_by (is_credit (p.forward i)) q closed room) (second (p.no_first i) q closed room)) (forward_from q closed room))
        ∙ (λ i. then (then (put room q.effective.day 1 nothing) (λ l. put_twentieth (on_twentieths (p.forward i)) q room l)) (forward_from q closed room))
        ∙ with_room (has_room_in room nothing)

    pub generate_on : generate q closed room ≡ from_effective q.mask closed pace seed room q.effective.day q.termination.day
    unfolding generate generate_by is_zero is_backward one_of rule_number
    generate_on = rw rule_on forward_is

  -- ---- the steps after generating
  module _ (closed : List ℕ) (first : ℕ) (ds fs : List ℕ) (span : (d : ℕ) → d ∈ ds → InSpan d) (ascends : Ascending ds) where
    still : (d : ℕ) → d ∈ ds → moved q.mask closed (Adjust Unadjusted) d ≡ given d
    unfolding moved
    still d h = stays q.mask closed d (span d h)

    adjusted_same : adjustments q closed first ds ≡ given ds
    unfolding adjustments first_move last_move middle_move seed_at_end unless is_old_cds is_credit one_of rule_number then
    adjusted_same =
        rw (rule_on, p.unadjusted, p.unadjusted_last, p.no_month_end, first_same (moved q.mask closed (Adjust Unadjusted)) ds still, last_same (moved q.mask closed (Adjust Unadjusted)) ds still, middle_same (moved q.mask closed (Adjust Unadjusted)) ds still)

    pub finished_on : finish q closed first ds fs ≡ given (record { dates = ds; flags = fs })
    unfolding finish wednesdays wednesdays_by one_of rule_number then
    finished_on = rw (rule_on, adjusted_same) (merged_same ds fs ascends)

  -- ---- the input checks
  pub plain_back : Plain (under Backward q)
  plain_back = record {
    backward = refl;
    positive = p.positive;
    no_first = p.no_first;
    no_penultimate = p.no_penultimate;
    unadjusted = p.unadjusted;
    unadjusted_last = p.unadjusted_last;
    no_month_end = p.no_month_end;
    order = p.order;
  }

  pub rows_on : (closed : List ℕ) (dates flags : ℕ) → input_rows q closed dates flags ≡ input_rows (under Backward q) closed dates flags
  unfolding input_rows rows_under first_rows last_rows anchor_rows out_of_range not_imm wrong_rule by_range by_imm one_of rule_number dates_ok first_outside last_outside monthend_allowed short_end is_zero
  rows_on closed dates flags = rw (rule_on, rule_is (under Backward q) plain_back) refl

  pub checks_on : (closed : List ℕ) (dates flags : ℕ) → (first_row (input_rows q closed dates flags) ≡ 0) ↔ Passes q closed dates flags
  checks_on closed dates flags =
      let k = checks_are (under Backward q) closed dates flags plain_back in (
        (λ h. passes_under q.rule (under Backward q) closed dates flags (k.0 (ap first_row (sym (rows_on closed dates flags)) ∙ h))),
        (λ c. ap first_row (rows_on closed dates flags) ∙ k.1 (passes_under Backward q closed dates flags c)),
      )

  -- ---- the candidates
  tenors_are : (k : ℕ) → candidate false pace seed k ≡ tenors_after q k
  unfolding pace_of
  tenors_are k = candidate_by_tenors false (tenor_length q) q.tenor.unit q.effective.day k

  module _ (closed : List ℕ) (dates flags : ℕ) (c : Passes q closed dates flags) where
    abbrev to_span : q.termination.day ≤ SPAN_LAST
    to_span = omega (arith, book_le q.termination.day c.termination_in_book)

    pub climb : Climb (added q) q.effective.day q.termination.day (tenor_count q)
    climb = climb_of q.effective.day q.termination.day (tenor_length q) q.tenor.unit c.effective_in_book (le_of_lt p.order) c.termination_in_book c.tenor_short

    pub most_is : (m : ℕ) × MostOn q m
    most_is = some_added (added q) q.effective.day q.termination.day (tenor_count q) some_units (le_of_lt p.order) to_span climb

    pub most_only : (m m' : ℕ) → MostOn q m → MostOn q m' → m' ≡ m
    most_only = one_added (added q) q.effective.day q.termination.day (tenor_count q) some_units (le_of_lt p.order) to_span climb

    module _ (m : ℕ) (w : MostOn q m) where
      pub tenors_rise : Rises (tenors_after q) q.effective.day q.termination.day (m / tenor_count q)
      tenors_rise = counted_on (added q) q.effective.day q.termination.day (tenor_count q) some_units (le_of_lt p.order) to_span climb m w (tenors_after q) (counts_by false (tenor_length q) q.tenor.unit q.effective.day)

      few : m / tenor_count q < last_try
      unfolding last_try
      few = omega (arith, div-le_self m (tenor_count q), climb.few m w.day w.can_be_added w.not_passing)

      -- what is generated, by whole tenors after effective
      pub generated_on : (room : ℕ) → GeneratedOn q.effective.day q.termination.day room (tenors_after q) (m / tenor_count q) (generate q closed room)
      generated_on room =
          rw (generate_on closed room)
          (subst (λ (f : ℕ → Answer ℕ). GeneratedOn q.effective.day q.termination.day room f (m / tenor_count q) (from_effective q.mask closed pace seed room q.effective.day q.termination.day)) (fun_ext (λ k. tenors_are k))
          (rising q.mask closed pace seed room q.effective.day q.termination.day (m / tenor_count q) by_candidates p.order few (omega (arith, book_from q.effective.day c.effective_in_book)) to_span))
        where
          by_candidates : Rises (candidate false pace seed) q.effective.day q.termination.day (m / tenor_count q)
          by_candidates = subst (λ (f : ℕ → Answer ℕ). Rises f q.effective.day q.termination.day (m / tenor_count q)) (fun_ext (λ k. sym (tenors_are k))) tenors_rise
