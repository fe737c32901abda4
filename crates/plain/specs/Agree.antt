-- When both directions agree, in the customer's words: the trades that are meant, and what a build of them comes to under either rule.
-- Assumes nothing.
use Rattle.std.specs.Prelude.{ℕ, ◌+◌, ◌≤◌, ◌<◌, ◌≡◌, ◌⊎◌, ◌↔◌, true, false, List, ◌++◌, pos, length, get_or, drop, replicate}
use Rattle.std.specs.Int.Signed.{lt_z}
use Rattle.refusal.specs.Answer.{Answer, given, refused, ROOM}
use Rattle.period.specs.declared.Unit.{Unit as TimeUnit}
use Rattle.period.specs.declared.Unit.TheVariants.{Days, Weeks, Months, Years}
use Rattle.date.specs.Civil.{fields_of}
use Rattle.calendar.specs.declared.Convention.TheVariants.{Unadjusted}
use Rattle.steps.specs.declared.Rule.{Rule}
use Rattle.steps.specs.declared.Rule.TheVariants.{Backward, Forward}
use Rattle.steps.specs.declared.Request.{Request}
use Rattle.steps.specs.declared.Built.{Built}
use Rattle.steps.specs.Build.{Schedule, build_of}
use Rattle.steps.specs.Entries.{entries_of, Written}
use Rattle.plain.specs.Demand.{Passes, LeftAlone}
use Rattle.plain.specs.Forward.{under, tenors_after}

-- ---- "For a positive tenor, no anchors, both conventions Unadjusted, end of month off, termination one or more whole tenors after effective .."
-- k tenors, in one step, lead from effective to termination; the request's own rule is not read
pub record Whole (q : Request) (k : ℕ) : Type 0 where
  pub positive : lt_z (pos 0) q.tenor.length ≡ true
  pub no_first : q.first.day ≡ 0
  pub no_penultimate : q.penultimate.day ≡ 0
  pub unadjusted : q.convention ≡ Unadjusted
  pub unadjusted_last : q.terminal ≡ Unadjusted
  pub no_month_end : q.monthend ≡ false
  pub some : 1 ≤ k
  pub leads : tenors_after q k ≡ given q.termination.day

-- ---- ".. and for months and years an effective day of at most 28"
abbrev pub InMonths : TimeUnit → Type 0
InMonths Days = ⊥
InMonths Weeks = ⊥
InMonths Months = Unit {0}
InMonths Years = Unit {0}

abbrev pub EarlyDay : Request → Type 0
EarlyDay q = InMonths q.tenor.unit → (fields_of q.effective.day).day ≤ 28

-- wider, and exact: termination has effective's day of the month
abbrev pub SameDay : Request → Type 0
SameDay q = InMonths q.tenor.unit → (fields_of q.termination.day).day ≡ (fields_of q.effective.day).day

-- ---- "The builds with Forward and with Backward are equal as answers, refusals with their numbers included": of every closed list and lent length
abbrev pub BothAgree : (Request → Type 0) → Type 0
BothAgree Day =
    (q : Request) (k : ℕ) → Whole q k → Day q
    → (closed : List ℕ) (dates flags : ℕ) → build_of (under Forward q) closed dates flags ≡ build_of (under Backward q) closed dates flags

-- ---- "Given, the dates are effective plus 0 to k tenors, k flags regular, k + 1 tries"
pub record EvenDates (q : Request) (k : ℕ) (ds : List ℕ) : Type 0 where
  pub count : length ds ≡ k + 1
  pub places : (i : ℕ) → i ≤ k → tenors_after q i ≡ given (get_or ds i 0)

pub record Evenly (q : Request) (k : ℕ) (s : Schedule) : Type 0 where
  pub dates : EvenDates q k s.dates
  pub flags : s.flags ≡ replicate k 1
  pub tries : s.tries ≡ k + 1

-- ---- "refused 14 exactly if k + 1 is over the room or 4,096": under either rule, where the input checks are passed
abbrev pub TooMany : ℕ → ℕ → Type 0
TooMany room count = (room < count) ⊎ (4096 < count)

pub record KeptEvenly (q : Request) (k room : ℕ) (o : Answer Schedule) : Type 0 where
  pub refused_exactly : (o ≡ refused ROOM) ↔ TooMany room (k + 1)
  pub given_else : (TooMany room (k + 1) → ⊥) → (s : Schedule) × (o ≡ given s) × Evenly q k s

pub data Direction : Rule → Type 0 where
  forward : Direction Forward
  backward : Direction Backward

abbrev pub BothEvenly : (Request → Type 0) → Type 0
BothEvenly Day =
    (q : Request) (k : ℕ) → Whole q k → Day q → (closed : List ℕ) (dates flags : ℕ) → Passes q closed dates flags
    → (rule : Rule) → Direction rule → KeptEvenly q k dates (build_of (under rule q) closed dates flags)

-- ---- "Without it the two differ": of a build that passes the checks and has room for k + 1 dates
abbrev pub AgreeExactly : Type 0
AgreeExactly =
    (q : Request) (k : ℕ) → Whole q k → (closed : List ℕ) (dates flags : ℕ) → Passes q closed dates flags → (TooMany dates (k + 1) → ⊥)
    → (build_of (under Forward q) closed dates flags ≡ build_of (under Backward q) closed dates flags) ↔ SameDay q

-- ---- "The same of memory": calls that keep the promise of `build` (shown in AgreeMemory)
-- two calls on equal lent lists answer alike in all but the rule, and leave equal lists
pub record SameButRule (r r' : Built) : Type 0 where
  pub number : r.number ≡ r'.number
  pub count : r.count ≡ r'.count
  pub tries : r.tries ≡ r'.tries
  pub tenor : r.tenor ≡ r'.tenor
  pub moved : r.moved ≡ r'.moved

abbrev pub AgreeInMemory : (Request → Type 0) → Type 0
AgreeInMemory Day =
    (q : Request) (k : ℕ) → Whole q k → Day q → (closed dates flags unadjusted : List ℕ) (r r' : Built) (dates' dates'' flags' flags'' unadjusted' unadjusted'' : List ℕ)
    → Written (under Forward q) (entries_of (under Forward q) closed (length dates) (length flags) (length unadjusted)) r dates flags unadjusted dates' flags' unadjusted'
    → Written (under Backward q) (entries_of (under Backward q) closed (length dates) (length flags) (length unadjusted)) r' dates flags unadjusted dates'' flags'' unadjusted''
    → SameButRule r r' × (dates' ≡ dates'') × (flags' ≡ flags'') × (unadjusted' ≡ unadjusted'')

-- the dates stand at the start of two lists, their flags at the start of the other; later places hold what they held
pub record EvenlyWritten (q : Request) (k : ℕ) (rule : Rule) (r : Built) (dates flags unadjusted dates' flags' unadjusted' : List ℕ) : Type 0 where
  pub answer : r ≡ record { number = 0; count = k + 1; tries = k + 1; rule = rule; tenor = q.tenor; moved = 0 }
  pub its_dates : List ℕ
  pub even : EvenDates q k its_dates
  pub dates_then : dates' ≡ its_dates ++ drop (k + 1) dates
  pub flags_then : flags' ≡ replicate k 1 ++ drop k flags
  pub unadjusted_then : unadjusted' ≡ its_dates ++ drop (k + 1) unadjusted

pub record EvenlyInMemory (q : Request) (k : ℕ) (rule : Rule) (r : Built) (dates flags unadjusted dates' flags' unadjusted' : List ℕ) : Type 0 where
  pub left_alone : TooMany (length dates) (k + 1) → LeftAlone r dates flags unadjusted dates' flags' unadjusted'
  pub written_else : (TooMany (length dates) (k + 1) → ⊥) → EvenlyWritten q k rule r dates flags unadjusted dates' flags' unadjusted'

abbrev pub BothEvenlyInMemory : (Request → Type 0) → Type 0
BothEvenlyInMemory Day =
    (q : Request) (k : ℕ) → Whole q k → Day q → (closed dates flags unadjusted dates' flags' unadjusted' : List ℕ) (r : Built)
    → Passes q closed (length dates) (length flags) → length dates ≡ length unadjusted
    → (rule : Rule) → Direction rule
    → Written (under rule q) (entries_of (under rule q) closed (length dates) (length flags) (length unadjusted)) r dates flags unadjusted dates' flags' unadjusted'
    → EvenlyInMemory q k rule r dates flags unadjusted dates' flags' unadjusted'
