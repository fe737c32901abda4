-- What a request that passes the input checks generates is refused with 13 or 14 if at all, and lies in 1900 to 2200; with 13 only where it searches.
-- Assumes nothing.
use Prim.Native.Nat.{ℕ, zero, suc, ◌+◌, ◌*◌, ◌≤◌, ◌<◌}
use Rattle.std.specs.Prelude.{◌≡◌, Bool, List, eqb, ltb}
use Rattle.std.proofs.Math.Path.{refl, ap}
use Rattle.std.proofs.Common.{sym, ◌∙◌, arith, zero-mul, ne_eqb}
use Rattle.std.proofs.Math.Logic.{⊎_elim}
use Rattle.std.proofs.Math.Bool.{true, false, false≢true}
use Rattle.std.proofs.Math.IntN.{nat_abs}
use Rattle.refusal.specs.Answer.{ROOM}
use Rattle.refusal.specs.Laws.Answers.{both}
use Rattle.date.specs.Date.{SPAN_LAST, in_book}
use Rattle.date.specs.Laws.Moves.{book_from}
use Rattle.calendar.specs.Calendar.{tenor_ok}
use Rattle.steps.specs.declared.Request.{Request}
use Rattle.steps.specs.Rules.{rule_number, one_of, rule_under, is_none, rule_in_force, is_zero, is_backward, is_credit, on_twentieths, pace_of}
use Rattle.steps.specs.Table.{first_row, is_given, anchor_ok, dates_ok, input_rows}
use Rattle.steps.specs.Laws.Table.{accepted}
use Rattle.steps.specs.Twentieths.{next_twentieth}
use Rattle.steps.specs.Candidates.{seed_of, candidate}
use Rattle.steps.specs.Generate.{Lists, Walk, Made, Opened, nothing, newest, has_room_in, last_try, candidates, anchor_or, put_anchor, zero_dates, put_penultimate, begun, ended, backward_end, back_seed, backward_from, backward, put_earlier, credit_opening, opening_by, opening, tenor_on, put_seed, put_first, far_enough, is_near, coming_twentieth, put_coming, put_twentieth, second, closing_day, put_closing, closing, opened, shut, forward_end, forward_from, forward, generate_by, generate}
use Rattle.outcomes.specs.Laws.Span.{le_or_lt}
use Rattle.outcomes.specs.Late.{by_room, Fine, gives, steps, weaker, other}
use Rattle.outcomes.specs.Laws.Days.{At, adjust_fine, Between, Mid, mid_at, wider, book_mid, book_between, shift_fine}
use Rattle.outcomes.specs.Laws.Twentieths.{next_fine, previous_fine, coming_index}
use Rattle.outcomes.specs.Laws.Each.{Each, each_turned, each_weaker}
use Rattle.outcomes.specs.Laws.Finished.{SeedIs, none, some}
use Rattle.outcomes.specs.Laws.Listed.{Good, put_fine, new_fine}
use Rattle.outcomes.specs.Laws.Looped.{PaceOk, pace_ok, seed_ok, Reach, candidate_fine, walk_fine}
use Rattle.outcomes.specs.Laws.Tenor.{advanced_fine}
use Rattle.outcomes.specs.Searches.{Searches, for_convention, for_terminal, for_month_end, for_first_date}

-- ---- what the input checks leave: dates of the book, and a tenor within its limit
pub record Passed (q : Request) : Type 0 where
  pub effective : in_book q.effective.day ≡ true
  pub termination : in_book q.termination.day ≡ true
  pub first : anchor_ok q.first.day ≡ true
  pub penultimate : anchor_ok q.penultimate.day ≡ true
  pub tenor : tenor_ok (nat_abs q.tenor.length) q.tenor.unit ≡ true

pub passed : (q : Request) (closed : List ℕ) (dates flags : ℕ) → first_row (input_rows q closed dates flags) ≡ 0 → Passed q
unfolding dates_ok
passed q closed dates flags h =
    let a = accepted q closed dates flags h in
    let e = both (in_book q.effective.day) _ a.dates_hold in
    let t = both (in_book q.termination.day) _ e.1 in
    let f = both (anchor_ok q.first.day) _ t.1 in
    record { effective = e.0; termination = t.0; first = f.0; penultimate = f.1; tenor = a.tenor_holds }

-- ---- anchors
anchor_book : (a : ℕ) → anchor_ok (suc a) ≡ true → in_book (suc a) ≡ true
unfolding anchor_ok
anchor_book a h = rw (ne_eqb (suc a) 0 (λ e. omega arith)) at h

or_book : (anchor day : ℕ) → anchor_ok anchor ≡ true → in_book day ≡ true → in_book (anchor_or anchor day) ≡ true
unfolding anchor_or is_given
or_book zero day h b = b
or_book (suc n) day h b = rw (ne_eqb (suc n) 0 (λ e. omega arith)) (anchor_book n h)

-- ---- what a build generates, and what it has when its second date is put
pub record MadeOk (m : Made) : Type 0 where
  pub all : Each (At 0) m.dates
  pub seed : SeedIs m.seed

pub record OpenedOk (o : Opened) : Type 0 where
  pub lists : Good o.lists
  pub seed : Mid o.seed

abbrev pub GoodWalk : Walk → Type 0
GoodWalk w = Good w.lists

reach_forth : (monthly : Bool) (n day : ℕ) (b : Bool) → n ≡ 0 → Mid day → Reach monthly false (seed_of b day) n
unfolding seed_of
reach_forth true n day b e m = omega (arith, m.to)
reach_forth false n day b e m = omega (arith, (mid_at day m).high)

reach_back : (monthly : Bool) (n day : ℕ) (b : Bool) → n ≡ 0 → in_book day ≡ true → Reach monthly true (seed_of b day) n
unfolding seed_of
reach_back true n day b e h = omega (arith, (book_between day h).from)
reach_back false n day b e h = omega (arith, book_from day h)

module _ (q : Request) (closed : List ℕ) (room : ℕ) (k : Passed q) where
  in_all : (ds : List ℕ) → Each Mid ds → Each (At 0) ds
  in_all ds a = each_weaker Mid (At 0) ds mid_at a

  zero_fine : Fine (Searches q) MadeOk (zero_dates q room)
  unfolding zero_dates
  zero_fine =
      steps {P = Good} _ (steps _ (put_fine room q.termination.day 1 nothing (book_mid _ k.termination) tt) (λ m g. put_fine room q.effective.day 1 m (book_mid _ k.effective) g.all))
      (λ m g. gives _ (record { all = in_all m.dates g.all; seed = none }))

  anchor_fine : (anchor : ℕ) (m : Lists) → anchor_ok anchor ≡ true → Good m → Fine (Searches q) Good (put_anchor q.mask closed q.convention room anchor m)
  unfolding put_anchor
  anchor_fine zero m h g = gives m g
  anchor_fine (suc n) m h g = new_fine room q.mask closed q.convention for_convention (suc n) 0 m (book_mid _ (anchor_book n h)) g

  module _ (p : PaceOk (pace_of q.tenor)) where
    loop_fine : (back : Bool) (seed exit : ℕ) (m : Lists) → Mid seed → in_book exit ≡ true → ((monthly : Bool) (n : ℕ) → n ≡ 0 → Reach monthly back (seed_of q.monthend seed) n) → Good m → Fine (Searches q) GoodWalk (candidates q closed room back seed exit m)
    unfolding candidates last_try
    loop_fine back seed exit m s b h g = walk_fine (seed_of q.monthend seed) (seed_ok q.monthend seed s) q.mask closed q.convention for_convention back (pace_of q.tenor) p exit b room SPAN_LAST 0 m (omega arith) g (h (pace_of q.tenor).monthly _ (zero-mul _))

    -- ---- Backward
    penultimate_fine : (anchor : ℕ) (m : Lists) → anchor_ok anchor ≡ true → Good m → Fine (Searches q) Good (put_penultimate (pace_of q.tenor) (seed_of q.monthend q.termination.day) room anchor m)
    unfolding put_penultimate candidate
    penultimate_fine zero m h g = gives m g
    penultimate_fine (suc n) m h g =
        other ROOM (by_room refl) (has_room_in room m)
        (steps _ (candidate_fine (seed_of q.monthend q.termination.day) (seed_ok q.monthend q.termination.day (book_mid _ k.termination)) (pace_of q.tenor).monthly true 0 (pace_of q.tenor).size (1 * (pace_of q.tenor).size) p.small (omega arith) (reach_back (pace_of q.tenor).monthly 0 q.termination.day q.monthend refl k.termination))
        (λ day i. put_fine room (suc n) _ m (book_mid _ (anchor_book n h)) g.all))

    pub begun_fine : Fine (Searches q) Good (begun q room)
    unfolding begun
    begun_fine = steps _ (put_fine room q.termination.day 1 nothing (book_mid _ k.termination) tt) (λ m g. penultimate_fine q.penultimate.day m k.penultimate g)

    back_book : in_book (back_seed q) ≡ true
    back_book = or_book q.penultimate.day q.termination.day k.penultimate k.termination

    pub back_loop_fine : (m : Lists) → Good m → Fine (Searches q) GoodWalk (candidates q closed room true (back_seed q) (anchor_or q.first.day q.effective.day) m)
    back_loop_fine m g = loop_fine true (back_seed q) _ m (book_mid _ back_book) (or_book q.first.day q.effective.day k.first k.effective) (λ monthly n z. reach_back monthly n (back_seed q) q.monthend z back_book) g

    ended_fine : (m : Lists) → Good m → Fine (Searches q) Good (ended q closed room m)
    unfolding ended
    ended_fine m g = steps _ (anchor_fine q.first.day m k.first g) (λ z h. new_fine room q.mask closed q.convention for_convention q.effective.day 0 z (book_mid _ k.effective) h)

    backward_fine : Fine (Searches q) MadeOk (backward q closed room)
    unfolding backward backward_from backward_end
    backward_fine =
        steps _ begun_fine (λ m g.
        steps _ (back_loop_fine m g) (λ w h.
        steps _ (ended_fine w.lists h) (λ z i. gives _ (record { all = in_all z.dates i.all; seed = some (back_seed q) (mid_at _ (book_mid _ back_book)) }))))

    -- ---- Forward, the twentieths and the third Wednesdays
    earlier_fine : (b : Bool) (day : ℕ) → Between 22809 26402 day → Fine (Searches q) (λ (m : Lists). Each Mid m.dates) (put_earlier b room day)
    unfolding put_earlier
    earlier_fine true day h = steps _ (shift_fine 22809 26402 3 day true (omega arith) (omega arith) h) (λ r i. weaker (put_fine room r 1 nothing (wider 22806 26405 22801 26411 r (omega arith) (omega arith) i) tt) (λ m g. g.all))
    earlier_fine false day h = gives nothing tt

    opening_fine : (b : Bool) → Fine (Searches q) Good (opening_by b q closed room)
    unfolding opening_by credit_opening
    opening_fine true =
        let s = book_between q.effective.day k.effective in
        steps _ (previous_fine 22812 26399 q.effective.day 0 (omega arith) (mid_at _ (book_mid _ k.effective)) (omega arith) (omega arith) s.from s.to q.rule) (λ day i.
        let m : Mid day = wider 22809 26402 22801 26411 day (omega arith) (omega arith) i in
        steps _ (adjust_fine 0 day (omega arith) (mid_at day m) q.mask closed q.convention for_convention) (λ a _.
        steps _ (earlier_fine (ltb q.effective.day a) day i) (λ z g. put_fine room day 1 z m g)))
    opening_fine false = put_fine room q.effective.day 1 nothing (book_mid _ k.effective) tt

    seed_fine : (day mark : ℕ) (m : Lists) → Mid day → Good m → Fine (Searches q) OpenedOk (put_seed room day mark m)
    unfolding put_seed
    seed_fine day mark m h g = steps _ (put_fine room day mark m h g.all) (λ z i. gives _ (record { lists = i; seed = h }))

    far_fine : (b : Bool) (day : ℕ) → Between 22809 26402 day → Fine (Searches q) Mid (far_enough b q.rule day)
    unfolding far_enough
    far_fine true day h =
        let i = coming_index day h in
        weaker (next_fine 22809 26403 (day + 1) 1 (omega arith) i.2 (omega arith) (omega arith) i.0 i.1 q.rule) (λ r s. wider 22806 26406 22801 26411 r (omega arith) (omega arith) s)
    far_fine false day h = gives day (wider 22809 26402 22801 26411 day (omega arith) (omega arith) h)

    next_book : (day : ℕ) → in_book day ≡ true → Fine (Searches q) (Between 22809 26402) (next_twentieth q.rule day)
    next_book day b =
        let s = book_between day b in
        next_fine 22812 26399 day 0 (omega arith) (mid_at _ (book_mid _ b)) (omega arith) (omega arith) s.from s.to q.rule

    coming_fine : Fine (Searches q) Mid (coming_twentieth q.rule q.effective.day)
    unfolding coming_twentieth
    coming_fine = steps _ (next_book q.effective.day k.effective) (λ day i. far_fine (is_near q.rule q.effective.day day) day i)

    put_coming_fine : (b : Bool) (day : ℕ) (m : Lists) → Mid day → Good m → Fine (Searches q) OpenedOk (put_coming b q room day m)
    unfolding put_coming
    put_coming_fine true day m h g = gives _ (record { lists = g; seed = g.front })
    put_coming_fine false day m h g = seed_fine day _ m h g

    twentieth_fine : (b : Bool) (m : Lists) → Good m → Fine (Searches q) OpenedOk (put_twentieth b q room m)
    unfolding put_twentieth
    twentieth_fine true m g = steps _ coming_fine (λ day h. put_coming_fine (eqb day q.effective.day) day m h g)
    twentieth_fine false m g = gives _ (record { lists = g; seed = g.front })

    closing_day_fine : (b : Bool) → Fine (Searches q) Mid (closing_day b q.rule q.termination.day)
    unfolding closing_day
    closing_day_fine true = weaker (next_book q.termination.day k.termination) (λ r i. wider 22809 26402 22801 26411 r (omega arith) (omega arith) i)
    closing_day_fine false = gives _ (book_mid _ k.termination)

    put_closing_fine : (b : Bool) (m : Lists) → Good m → Fine (Searches q) Good (put_closing b q room m)
    unfolding put_closing
    put_closing_fine true m g = gives m g
    put_closing_fine false m g = steps _ (closing_day_fine (on_twentieths q.rule)) (λ day h. put_fine room day _ m h g.all)

    closing_fine : (m : Lists) → Good m → Fine (Searches q) Good (closing q closed room m)
    unfolding closing
    closing_fine m g =
        steps _ (adjust_fine 0 (newest m) (omega arith) (mid_at _ g.front) q.mask closed q.terminal for_terminal) (λ a _.
        steps _ (adjust_fine 0 q.termination.day (omega arith) (mid_at _ (book_mid _ k.termination)) q.mask closed q.terminal for_terminal) (λ b _.
        put_closing_fine (eqb a b) m g))

    shut_fine : (m : Lists) → Good m → Fine (Searches q) Good (shut q closed room m)
    unfolding shut
    shut_fine m g = steps _ (anchor_fine q.penultimate.day m k.penultimate g) (λ z h. closing_fine z h)

    module _ (forth : is_backward (rule_in_force q) ≡ false) where
      first_fine : (m : Lists) → (q.first.day ≡ 0 → ⊥) → in_book q.first.day ≡ true → Good m → Fine (Searches q) OpenedOk (put_first q closed room m)
      unfolding put_first tenor_on
      first_fine m z b g =
          other ROOM (by_room refl) (has_room_in room m)
          (steps _ (advanced_fine q.mask closed q.convention for_convention q.monthend for_month_end (newest m) g.front q.tenor.unit (nat_abs q.tenor.length) (λ u. for_first_date forth z u) k.tenor) (λ day _.
          seed_fine q.first.day _ m (book_mid _ b) g))

      second_fine : (n : ℕ) (m : Lists) → q.first.day ≡ n → Good m → Fine (Searches q) OpenedOk (second n q closed room m)
      unfolding second
      second_fine zero m x g = twentieth_fine (on_twentieths q.rule) m g
      second_fine (suc n) m x g = first_fine m (λ z. omega arith) (rw x (anchor_book n (sym (ap anchor_ok x) ∙ k.first))) g

      pub opened_fine : Fine (Searches q) OpenedOk (opened q closed room)
      unfolding opened opening
      opened_fine = steps _ (opening_fine (is_credit q.rule)) (λ m g. second_fine q.first.day m refl g)

      pub forth_loop_fine : (o : Opened) → OpenedOk o → Fine (Searches q) GoodWalk (candidates q closed room false o.seed (anchor_or q.penultimate.day q.termination.day) o.lists)
      forth_loop_fine o g = loop_fine false o.seed _ o.lists g.seed (or_book q.penultimate.day q.termination.day k.penultimate k.termination) (λ monthly n z. reach_forth monthly n o.seed q.monthend z g.seed) g.lists

      forward_fine : Fine (Searches q) MadeOk (forward q closed room)
      unfolding forward forward_from forward_end
      forward_fine =
          steps _ opened_fine (λ o g.
          steps _ (forth_loop_fine o g) (λ w h.
          steps _ (shut_fine w.lists h) (λ z i. gives _ (record { all = each_turned (At 0) z.dates (in_all z.dates i.all); seed = some o.seed (mid_at _ g.seed) }))))

  -- ---- by the rule in force: under another than Zero the tenor is not empty
  some_tenor : is_zero (rule_in_force q) ≡ false → 1 ≤ nat_abs q.tenor.length
  unfolding rule_in_force rule_under is_none is_zero one_of rule_number
  some_tenor h = ⊎_elim (λ (i : 1 ≤ nat_abs q.tenor.length). i) (λ (i : nat_abs q.tenor.length < 1). absurd (no (omega arith))) (le_or_lt 1 (nat_abs q.tenor.length))
    where
      no : nat_abs q.tenor.length ≡ 0 → ⊥
      no z = let y : is_zero (rule_under (eqb (nat_abs q.tenor.length) 0) q.rule) ≡ true = ap (λ (n : ℕ). is_zero (rule_under (eqb n 0) q.rule)) z in false≢true (sym h ∙ y)

  pub pace_fine : is_zero (rule_in_force q) ≡ false → PaceOk (pace_of q.tenor)
  unfolding pace_of
  pace_fine h = pace_ok (nat_abs q.tenor.length) q.tenor.unit (some_tenor h) k.tenor

  pub generate_fine : Fine (Searches q) MadeOk (generate q closed room)
  unfolding generate generate_by
  generate_fine = by (is_zero (rule_in_force q)) (is_backward (rule_in_force q)) refl refl
    where
      by : (z b : Bool) → is_zero (rule_in_force q) ≡ z → is_backward (rule_in_force q) ≡ b → Fine (Searches q) MadeOk (generate_by z b q closed room)
      by true b h i = zero_fine
      by false true h i = backward_fine (pace_fine h)
      by false false h i = forward_fine (pace_fine h) i
