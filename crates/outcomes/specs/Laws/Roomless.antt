-- The steps that add no date are never refused 14.
-- Assumes nothing.
use Prim.Native.Nat.{ℕ, zero, suc, ◌+◌, ◌-◌, ◌*◌}
use Rattle.std.specs.Prelude.{◌≡◌, refl, Bool, not, ltb, leb, length, take, drop}
use Rattle.std.proofs.Common.{ap, arith}
use Rattle.std.proofs.Math.Bool.{true, false}
use mathlib.Core.List.{List, [], ◌∷◌}
use Rattle.refusal.specs.Answer.{Answer, given, refused, number, need, then, BOOK, CLOSED, ROOM, COLLAPSED}
use Rattle.refusal.specs.Laws.Answers.{never_both}
use Rattle.period.specs.declared.Unit.{Unit as TimeUnit}
use Rattle.period.specs.declared.Unit.TheVariants.{Days, Weeks, Months, Years}
use Rattle.date.specs.Date.{within_span, make_of, last_of_month, in_month, step, shift_days, shift_months, shifted, nth_weekday_of}
use Rattle.calendar.specs.declared.Convention.{Convention}
use Rattle.calendar.specs.declared.Convention.TheVariants.{Unadjusted, Following, ModifiedFollowing, Preceding, ModifiedPreceding}
use Rattle.calendar.specs.Open.{is_open_day}
use Rattle.calendar.specs.AnyCalendar as any
use Rattle.calendar.specs.Adjust.{taken_or, first_open, found, same_month, unless_left, modified, by_convention, adjusted, last_open, at_month_end, open_steps, end_asked, landed, by_unit}
use Rattle.steps.specs.declared.Rule.{Rule}
use Rattle.steps.specs.declared.Rule.TheVariants.{ThirdWednesday, ThirdWednesdayInclusive}
use Rattle.steps.specs.declared.Request.{Request}
use Rattle.steps.specs.declared.Pace.{Pace}
use Rattle.steps.specs.declared.Seed.{Seed}
use Rattle.steps.specs.declared.Move.{Move}
use Rattle.steps.specs.declared.Move.TheVariants.{Stay, ThirdWednesdays, Adjust, MonthEnds, OpenMonthEnds}
use Rattle.steps.specs.Rules.{one_of, rule_in_force, in_imm_months}
use Rattle.steps.specs.Twentieths.{twentieth_of, moved_if, to_imm_month, next_twentieth, previous_twentieth}
use Rattle.steps.specs.Candidates.{candidate_by, candidate, is_past, unless_past, turn_of}
use Rattle.steps.specs.Generate.{tenor_on, far_enough, is_near, coming_twentieth, closing_day}
use Rattle.steps.specs.Finish.{third_wednesday, moved, each, between, on_first, on_last, on_middle, wednesdays_by, wednesdays, seed_asked, seed_at_end, adjustments, merge_front_if, merge_front, finish}

pub record Free {A : Type 0} (x : Answer A) : Type 0 where
  pub never : x ≡ refused ROOM → ⊥

pub gives : {A : Type 0} (a : A) → Free (given a)
gives a = record { never = λ e. never_both (given a) a ROOM refl e }

pub refuses : {A : Type 0} (n : ℕ) → (n ≡ ROOM → ⊥) → Free {A = A} (refused n)
unfolding number
refuses n h = record { never = λ e. h (ap number e) }

pub steps : {A B : Type 0} (x : Answer A) {f : A → Answer B} → Free x → ((a : A) → Free (f a)) → Free (then x f)
unfolding then
steps (given a) u s = s a
steps (refused n) u s = refuses n (λ e. u.never (ap refused e))

tested : {A : Type 0} {x : Answer A} (n : ℕ) → (n ≡ ROOM → ⊥) → (b : Bool) → Free x → Free (need n b x)
unfolding need
tested n h true u = u
tested n h false u = refuses n h

book : {A : Type 0} {x : Answer A} (b : Bool) → Free x → Free (need BOOK b x)
book b u = tested BOOK (λ e. omega arith) b u

-- ---- dates
within : (n : ℕ) → Free (within_span n)
unfolding within_span
within n = book _ (book _ (gives n))

made : (y m d : ℕ) → Free (make_of y m d)
unfolding make_of
made y m d = book _ (book _ (book _ (book _ (book _ (book _ (gives _))))))

month : (t d : ℕ) → Free (in_month t d)
unfolding in_month
month t d = made _ _ _

pub months : (n : ℕ) (back : Bool) (k : ℕ) → Free (shift_months n back k)
unfolding shift_months
months n back k = month _ _

shift : (n : ℕ) (back : Bool) (k : ℕ) (u : TimeUnit) → Free (shifted n back k u)
unfolding shifted shift_days
shift n back k Days = within _
shift n back k Weeks = within _
shift n back k Months = months n back k
shift n back k Years = months n back (12 * k)

last : (n : ℕ) → Free (last_of_month n)
unfolding last_of_month
last n = made _ _ _

nth : (n w m y : ℕ) → Free (nth_weekday_of n w m y)
unfolding nth_weekday_of
nth n w m y = book _ (book _ (book _ (book _ (steps _ (made y m 1) (λ first. made y m _)))))

-- ---- the calendar
module _ (mask : ℕ) (closed : List ℕ) where
  search_free : (back : Bool) (left day : ℕ) → Free (first_open mask closed back left day)
  unfolding any.first_open taken_or
  search_free back zero day = refuses CLOSED (λ e. omega arith)
  search_free back (suc left) day = by (is_open_day mask closed day) (search_free back left (step back day 1))
    where
      by : (b : Bool) → Free (first_open mask closed back left (step back day 1)) → Free (taken_or b day (λ passed. first_open mask closed back left (step back passed 1)))
      by true u = gives day
      by false u = u

  find : (back : Bool) (day : ℕ) → Free (found mask closed back day)
  unfolding any.found
  find back day = steps _ (search_free back 31 day) (λ r. within r)

  modify : (back : Bool) (day : ℕ) → Free (modified mask closed back day)
  unfolding any.modified unless_left
  modify back day = steps _ (find back day) (λ new. by (same_month day new) new)
    where
      by : (b : Bool) (new : ℕ) → Free (unless_left b day new (found mask closed (not back)))
      by true new = gives new
      by false new = find (not back) day

  convene : (convention : Convention) (day : ℕ) → Free (by_convention mask closed convention day)
  unfolding any.by_convention
  convene Unadjusted day = gives day
  convene Following day = find false day
  convene ModifiedFollowing day = modify false day
  convene Preceding day = find true day
  convene ModifiedPreceding day = modify true day

  pub adjust : (convention : Convention) (day : ℕ) → Free (adjusted mask closed convention day)
  unfolding any.adjusted
  adjust convention day = book _ (convene convention day)

  last_open_lem : (day : ℕ) → Free (last_open mask closed day)
  unfolding any.last_open
  last_open_lem day = steps _ (last day) (λ r. adjust Preceding r)

  month_end : (day : ℕ) → Free (at_month_end mask closed day)
  unfolding any.at_month_end
  month_end day = book _ (steps _ (adjust Following (day + 1)) (λ next. gives _))

  open_steps_lem : (back : Bool) (size day : ℕ) → Free (open_steps mask closed back size day)
  unfolding any.open_steps
  open_steps_lem back zero day = gives day
  open_steps_lem back (suc size) day = steps _ (adjust _ _) (λ r. open_steps_lem back size r)

  asked : (b : Bool) (day : ℕ) → Free (end_asked mask closed b day)
  unfolding any.end_asked
  asked false day = gives false
  asked true day = month_end day

  land : (convention : Convention) (day : ℕ) (b : Bool) → Free (landed mask closed convention day b)
  unfolding any.landed
  land convention day true = last_open_lem day
  land convention day false = adjust convention day

  unit : (back : Bool) (size : ℕ) (u : TimeUnit) (convention : Convention) (monthend : Bool) (day : ℕ) → Free (by_unit mask closed back size u convention monthend day)
  unfolding any.by_unit any.add_weeks any.add_months
  unit back size Days convention monthend day = open_steps_lem back size day
  unit back size Weeks convention monthend day = steps _ (shift day back size Weeks) (λ r. adjust convention r)
  unit back size Months convention monthend day = steps _ (shift day back size Months) (λ r. steps _ (asked monthend day) (λ b. land convention r b))
  unit back size Years convention monthend day = steps _ (shift day back size Years) (λ r. steps _ (asked monthend day) (λ b. land convention r b))

  -- ---- the candidates
  pub candidate_free : (back : Bool) (pace : Pace) (seed : Seed) (k : ℕ) → Free (candidate back pace seed k)
  unfolding candidate candidate_by
  candidate_free back pace seed k = by pace.monthly
    where
      by : (b : Bool) → Free (candidate_by b back seed (k * pace.size))
      by true = month _ _
      by false = within _

  pub turn_free : (convention : Convention) (back : Bool) (pace : Pace) (seed : Seed) (exit front k : ℕ) → Free (turn_of mask closed convention back pace seed exit front k)
  unfolding turn_of unless_past
  turn_free convention back pace seed exit front k = steps _ (candidate_free back pace seed k) (λ day. by (is_past back exit day) day)
    where
      by : (b : Bool) (day : ℕ) → Free (unless_past b mask closed convention front day)
      by true day = gives _
      by false day = steps _ (adjust convention front) (λ x. steps _ (adjust convention day) (λ y. gives _))

  -- ---- the dates of a list
  move : (m : Move) (day : ℕ) → Free (moved mask closed m day)
  unfolding moved third_wednesday
  move Stay day = gives day
  move ThirdWednesdays day = nth 3 3 _ _
  move (Adjust convention) day = adjust convention day
  move MonthEnds day = last day
  move OpenMonthEnds day = last_open_lem day

  all : (m : Move) (ds : List ℕ) → Free (each (moved mask closed m) ds)
  unfolding each
  all m [] = gives []
  all m (x ∷ xs) = steps _ (move m x) (λ y. steps _ (all m xs) (λ ys. gives _))

  part : (m : Move) (a b : ℕ) (ds : List ℕ) → Free (between (moved mask closed m) a b ds)
  unfolding between
  part m a b ds = steps _ (all m (take (b - a) (drop a ds))) (λ ys. gives _)

  wednesday : (rule : Rule) (ds : List ℕ) → Free (wednesdays rule mask closed ds)
  unfolding wednesdays wednesdays_by on_middle
  wednesday rule ds = by (one_of rule (ThirdWednesday ∷ [])) (one_of rule (ThirdWednesdayInclusive ∷ []))
    where
      by : (middle all_of : Bool) → Free (wednesdays_by middle all_of mask closed ds)
      by true all_of = part ThirdWednesdays _ _ ds
      by false true = all ThirdWednesdays ds
      by false false = gives ds

  seeded : (b : Bool) (seed : ℕ) → Free (seed_at_end b mask closed seed)
  unfolding seed_at_end seed_asked
  seeded false seed = gives false
  seeded true zero = gives false
  seeded true (suc n) = month_end (suc n)

-- ---- twentieths
moving : (b back : Bool) (k day : ℕ) → Free (moved_if b back k day)
unfolding moved_if
moving true back k day = months day back k
moving false back k day = gives day

imm : (rule : Rule) (back : Bool) (day : ℕ) → Free (to_imm_month rule back day)
unfolding to_imm_month
imm rule back day = moving (in_imm_months rule) back _ day

next : (rule : Rule) (day : ℕ) → Free (next_twentieth rule day)
unfolding next_twentieth twentieth_of
next rule day = steps _ (made _ _ 20) (λ t. steps _ (moving (ltb t day) false 1 t) (λ r. imm rule false r))

pub previous : (rule : Rule) (day : ℕ) → Free (previous_twentieth rule day)
unfolding previous_twentieth twentieth_of
previous rule day = steps _ (made _ _ 20) (λ t. steps _ (moving (ltb day t) true 1 t) (λ r. imm rule true r))

far : (b : Bool) (rule : Rule) (day : ℕ) → Free (far_enough b rule day)
unfolding far_enough
far true rule day = next rule (day + 1)
far false rule day = gives day

pub coming : (rule : Rule) (day : ℕ) → Free (coming_twentieth rule day)
unfolding coming_twentieth
coming rule day = steps _ (next rule day) (λ r. far (is_near rule day r) rule r)

pub closing_day_lem : (b : Bool) (rule : Rule) (day : ℕ) → Free (closing_day b rule day)
unfolding closing_day
closing_day_lem true rule day = next rule day
closing_day_lem false rule day = gives day

-- ---- a request's steps
module _ (q : Request) (closed : List ℕ) where
  pub tenor_free : (day : ℕ) → Free (tenor_on q closed day)
  unfolding tenor_on any.advanced
  tenor_free day = book _ (unit q.mask closed false _ q.tenor.unit q.convention q.monthend day)

  merged : (b : Bool) (ds fs : List ℕ) → Free (merge_front_if b ds fs)
  unfolding merge_front_if
  merged false ds fs = gives _
  merged true ds fs = tested COLLAPSED (λ e. omega arith) (leb 3 (length ds)) (gives _)

  pub finish_free : (seed : ℕ) (ds fs : List ℕ) → Free (finish q closed seed ds fs)
  unfolding finish adjustments on_first on_last on_middle merge_front
  finish_free seed ds fs =
      steps _ (wednesday q.mask closed (rule_in_force q) ds) (λ ds₁.
      steps _ (steps _ (part q.mask closed _ _ _ ds₁) (λ ds₂.
      steps _ (part q.mask closed _ _ _ ds₂) (λ ds₃.
      steps _ (seeded q.mask closed q.monthend seed) (λ end.
      part q.mask closed _ _ _ ds₃)))) (λ ds₄. merged _ _ _))
