-- Document 01, "Schedule steps": the dates generated, newest first. Each date has a mark, 1 if the period between it and the date put before it is
-- regular; the first date put has no such period, and its mark says nothing.
-- Assumes nothing.
use Rattle.std.specs.Prelude.{ℕ, zero, suc, ◌+◌, ◌-◌, Bool, true, false, ◌&&◌, List, [], ◌∷◌, reverse, eqb, ltb, nat_abs, length, get_or, take, drop}
use Rattle.refusal.specs.Answer.{Answer, given, refused, need, then, BOOK, ROOM}
use Rattle.date.specs.Civil.{pick_n}
use Rattle.date.specs.Date.{SPAN_LAST, shift_months}
use Rattle.calendar.specs.declared.Convention.{Convention}
use Rattle.calendar.specs.Adjust.{adjusted, advanced}
use Rattle.steps.specs.declared.Rule.{Rule}
use Rattle.steps.specs.declared.Request.{Request}
use Rattle.steps.specs.declared.Pace.{Pace}
use Rattle.steps.specs.declared.Seed.{Seed}
use Rattle.steps.specs.Rules.{rule_in_force, is_zero, is_backward, on_twentieths, is_credit, is_old_cds, pace_of}
use Rattle.steps.specs.Table.{is_given}
use Rattle.steps.specs.Twentieths.{next_twentieth, previous_twentieth}
use Rattle.steps.specs.Candidates.{Turn, past, skip, keep, seed_of, candidate, turn_of}

pub record Lists : Type 0 where
  pub dates : List ℕ
  pub marks : List ℕ

abbrev pub nothing : Lists
nothing = record { dates = []; marks = [] }

abbrev pub newest : Lists → ℕ
newest l = get_or l.dates 0 0

abbrev pub onto : ℕ → ℕ → Lists → Lists
onto day mark l = record { dates = day ∷ l.dates; marks = mark ∷ l.marks }

-- ---- a date is added, unless the list already has as many as there is room for
unfoldable pub has_room_in : ℕ → Lists → Bool
has_room_in room l = ltb (length l.dates) room

unfoldable pub put : (room day mark : ℕ) → Lists → Answer Lists
put room day mark l = need ROOM (has_room_in room l) (given (onto day mark l))

unfoldable pub put_unless : Bool → (room day mark : ℕ) → Lists → Answer Lists
put_unless true room day mark l = given l
put_unless false room day mark l = put room day mark l

-- a date is added, unless another one adjusts to the same day as the newest
unfoldable pub put_new : (mask : ℕ) (closed : List ℕ) → Convention → (room compared day mark : ℕ) → Lists → Answer Lists
put_new mask closed convention room compared day mark l =
    then (adjusted mask closed convention (newest l)) (λ a.
    then (adjusted mask closed convention compared) (λ b.
    put_unless (eqb a b) room day mark l))

-- ---- the loop over the candidates
pub record Walk : Type 0 where
  pub lists : Lists
  pub tries : ℕ

unfoldable pub on_turn : ℕ → Turn → ℕ → Lists → (Lists → Answer Walk) → Answer Walk
on_turn room past k l again = given (record { lists = l; tries = k })
on_turn room skip k l again = again l
on_turn room (keep day) k l again = then (put room day 1 l) again

-- no candidate beyond the number of the span's last day is a day of it, so 2 is what the steps meet there
unfoldable pub last_try : ℕ
last_try = SPAN_LAST

-- `left` candidates from the k-th on are looked at
unfoldable pub walk : (ℕ → ℕ → Answer Turn) → (room : ℕ) → ℕ → (k : ℕ) → Lists → Answer Walk
walk turn room zero k l = refused BOOK
walk turn room (suc left) k l = then (turn (newest l) k) (λ t. on_turn room t k l (walk turn room left (suc k)))

unfoldable pub candidates : Request → (closed : List ℕ) (room : ℕ) (back : Bool) (seed exit : ℕ) → Lists → Answer Walk
candidates q closed room back seed exit l =
    walk (turn_of q.mask closed q.convention back (pace_of q.tenor) (seed_of q.monthend seed) exit) room last_try 1 l

-- an anchor, or a date in its place where it is absent
unfoldable pub anchor_or : ℕ → ℕ → ℕ
anchor_or anchor other = pick_n (is_given anchor) anchor other

-- the anchor at which the loop ends is added too
unfoldable pub put_anchor : (mask : ℕ) (closed : List ℕ) → Convention → (room : ℕ) → ℕ → Lists → Answer Lists
put_anchor mask closed convention room zero l = given l
put_anchor mask closed convention room (suc n) l = put_new mask closed convention room (suc n) (suc n) 0 l

-- ---- what a build has generated: the dates in order, a flag for each period, the tries and the seed
pub record Made : Type 0 where
  pub dates : List ℕ
  pub flags : List ℕ
  pub tries : ℕ
  pub seed : ℕ

-- ---- Zero
abbrev pub made_back : ℕ → ℕ → Lists → Made
made_back tries seed l = record { dates = l.dates; flags = take (length l.dates - 1) l.marks; tries = tries; seed = seed }

unfoldable pub zero_dates : Request → ℕ → Answer Made
zero_dates q room =
    then (then (put room q.termination.day 1 nothing) (put room q.effective.day 1)) (λ l. given (made_back 0 0 l))

-- ---- Backward
-- the next-to-last date, regular if it is the first candidate from termination
unfoldable pub put_penultimate : Pace → Seed → ℕ → ℕ → Lists → Answer Lists
put_penultimate pace seed room zero l = given l
put_penultimate pace seed room (suc n) l =
    need ROOM (has_room_in room l)
    (then (candidate true pace seed 1) (λ day. put room (suc n) (pick_n (eqb day (suc n)) 1 0) l))

unfoldable pub begun : Request → ℕ → Answer Lists
begun q room =
    then (put room q.termination.day 1 nothing)
    (put_penultimate (pace_of q.tenor) (seed_of q.monthend q.termination.day) room q.penultimate.day)

-- the first date, if the loop ended at it, then the effective date
unfoldable pub ended : Request → List ℕ → ℕ → Lists → Answer Lists
ended q closed room l =
    then (put_anchor q.mask closed q.convention room q.first.day l)
    (put_new q.mask closed q.convention room q.effective.day q.effective.day 0)

unfoldable pub backward_end : Request → (closed : List ℕ) (room tries seed : ℕ) → Lists → Answer Made
backward_end q closed room tries seed l = then (ended q closed room l) (λ m. given (made_back tries seed m))

abbrev pub back_seed : Request → ℕ
back_seed q = anchor_or q.penultimate.day q.termination.day

unfoldable pub backward_from : Request → List ℕ → ℕ → Lists → Answer Made
backward_from q closed room l =
    then (candidates q closed room true (back_seed q) (anchor_or q.first.day q.effective.day) l)
    (λ w. backward_end q closed room w.tries (back_seed q) w.lists)

unfoldable pub backward : Request → List ℕ → ℕ → Answer Made
backward q closed room = then (begun q room) (backward_from q closed room)

-- ---- Forward, the twentieths and the third Wednesdays
-- CDS and CDS2015: the previous twentieth, and three months before it another one where it adjusts to a day after the effective date
unfoldable pub put_earlier : Bool → (room day : ℕ) → Answer Lists
put_earlier true room day = then (shift_months day true 3) (λ earlier. put room earlier 1 nothing)
put_earlier false room day = given nothing

unfoldable pub credit_opening : Request → (closed : List ℕ) (room day : ℕ) → Answer Lists
credit_opening q closed room day =
    then (adjusted q.mask closed q.convention day) (λ a.
    then (put_earlier (ltb q.effective.day a) room day) (put room day 1))

unfoldable pub opening_by : Bool → Request → (closed : List ℕ) (room : ℕ) → Answer Lists
opening_by true q closed room = then (previous_twentieth q.rule q.effective.day) (credit_opening q closed room)
opening_by false q closed room = put room q.effective.day 1 nothing

unfoldable pub opening : Request → List ℕ → ℕ → Answer Lists
opening q closed room = opening_by (is_credit q.rule) q closed room

-- what the second date leaves: the list, and the seed
pub record Opened : Type 0 where
  pub lists : Lists
  pub seed : ℕ

-- the first date, regular if it is one tenor on the given calendar after the date before it
unfoldable pub tenor_on : Request → List ℕ → ℕ → Answer ℕ
tenor_on q closed day =
    advanced q.mask closed false (nat_abs q.tenor.length) q.tenor.unit q.convention q.monthend day

-- a date that becomes the seed
unfoldable pub put_seed : (room day mark : ℕ) → Lists → Answer Opened
put_seed room day mark l = then (put room day mark l) (λ m. given (record { lists = m; seed = day }))

unfoldable pub put_first : Request → List ℕ → ℕ → Lists → Answer Opened
put_first q closed room l =
    need ROOM (has_room_in room l)
    (then (tenor_on q closed (newest l)) (λ day. put_seed room q.first.day (pick_n (eqb day q.first.day) 1 0) l))

-- OldCDS skips a twentieth under 30 natural days after the effective date
unfoldable pub far_enough : Bool → Rule → ℕ → Answer ℕ
far_enough true rule day = next_twentieth rule (day + 1)
far_enough false rule day = given day

unfoldable pub is_near : Rule → ℕ → ℕ → Bool
is_near rule effective day = is_old_cds rule && ltb (day - effective) 30

unfoldable pub coming_twentieth : Rule → ℕ → Answer ℕ
coming_twentieth rule effective =
    then (next_twentieth rule effective) (λ day. far_enough (is_near rule effective day) rule day)

unfoldable pub put_coming : Bool → Request → (room day : ℕ) → Lists → Answer Opened
put_coming true q room day l = given (record { lists = l; seed = newest l })
put_coming false q room day l = put_seed room day (pick_n (is_credit q.rule) 1 0) l

unfoldable pub put_twentieth : Bool → Request → ℕ → Lists → Answer Opened
put_twentieth true q room l =
    then (coming_twentieth q.rule q.effective.day) (λ day. put_coming (eqb day q.effective.day) q room day l)
put_twentieth false q room l = given (record { lists = l; seed = newest l })

unfoldable pub second : ℕ → Request → (closed : List ℕ) (room : ℕ) → Lists → Answer Opened
second zero q closed room l = put_twentieth (on_twentieths q.rule) q room l
second (suc n) q closed room l = put_first q closed room l

-- termination, unless the newest date adjusts to the same day; its twentieth for the rules on twentieths
unfoldable pub closing_day : Bool → Rule → ℕ → Answer ℕ
closing_day true rule day = next_twentieth rule day
closing_day false rule day = given day

unfoldable pub put_closing : Bool → Request → ℕ → Lists → Answer Lists
put_closing true q room l = given l
put_closing false q room l =
    then (closing_day (on_twentieths q.rule) q.rule q.termination.day) (λ day.
    put room day (pick_n (on_twentieths q.rule) 1 0) l)

unfoldable pub closing : Request → List ℕ → ℕ → Lists → Answer Lists
closing q closed room l =
    then (adjusted q.mask closed q.terminal (newest l)) (λ a.
    then (adjusted q.mask closed q.terminal q.termination.day) (λ b.
    put_closing (eqb a b) q room l))

unfoldable pub opened : Request → List ℕ → ℕ → Answer Opened
opened q closed room = then (opening q closed room) (second q.first.day q closed room)

-- the next-to-last date, if the loop ended at it, then termination
unfoldable pub shut : Request → List ℕ → ℕ → Lists → Answer Lists
shut q closed room l =
    then (put_anchor q.mask closed q.convention room q.penultimate.day l) (closing q closed room)

abbrev pub made_forth : ℕ → ℕ → Lists → Made
made_forth tries seed l = record { dates = reverse l.dates; flags = drop 1 (reverse l.marks); tries = tries; seed = seed }

unfoldable pub forward_end : Request → (closed : List ℕ) (room tries seed : ℕ) → Lists → Answer Made
forward_end q closed room tries seed l = then (shut q closed room l) (λ m. given (made_forth tries seed m))

unfoldable pub forward_from : Request → List ℕ → ℕ → Opened → Answer Made
forward_from q closed room o =
    then (candidates q closed room false o.seed (anchor_or q.penultimate.day q.termination.day) o.lists)
    (λ w. forward_end q closed room w.tries o.seed w.lists)

unfoldable pub forward : Request → List ℕ → ℕ → Answer Made
forward q closed room = then (opened q closed room) (forward_from q closed room)

-- ---- by the rule in force
unfoldable pub generate_by : Bool → (back : Bool) → Request → (closed : List ℕ) (room : ℕ) → Answer Made
generate_by true back q closed room = zero_dates q room
generate_by false true q closed room = backward q closed room
generate_by false false q closed room = forward q closed room

unfoldable pub generate : Request → List ℕ → ℕ → Answer Made
generate q closed room = generate_by (is_zero (rule_in_force q)) (is_backward (rule_in_force q)) q closed room
