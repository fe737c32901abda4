-- Demand 3, in the customer's words: the builds that it speaks of, the list that they are owed, and what the build comes to.
-- Assumes nothing.
use Rattle.std.specs.Prelude.{ℕ, ◌+◌, ◌-◌, ◌*◌, ◌/◌, ◌≤◌, ◌<◌, ◌≡◌, ◌⊎◌, ◌↔◌, Bool, true, false, List, ◌∷◌, ◌++◌, pos, nat_abs, length, drop, replicate}
use Rattle.std.specs.Int.Signed.{lt_z}
use Rattle.refusal.specs.Answer.{Answer, given, refused, ROOM}
use Rattle.period.specs.declared.Unit.{Unit as TimeUnit}
use Rattle.period.specs.declared.Unit.TheVariants.{Days, Weeks, Months, Years}
use Rattle.date.specs.Date.{in_book, shifted}
use Rattle.calendar.specs.declared.Convention.TheVariants.{Unadjusted}
use Rattle.calendar.specs.Open.{calendar_ok}
use Rattle.calendar.specs.Calendar.{tenor_ok}
use Rattle.steps.specs.declared.Rule.TheVariants.{Backward}
use Rattle.steps.specs.declared.Request.{Request}
use Rattle.steps.specs.declared.Built.{Built}
use Rattle.steps.specs.Table.{first_row, input_rows}
use Rattle.steps.specs.Build.{Schedule, build_of}
use Rattle.steps.specs.Entries.{entries_of, Written}
use Rattle.plain.specs.Listed.{ListsAll}

-- ---- "Take a backward build .. with positive tenor, no anchors, both conventions Unadjusted, end of month off, effective before termination."
pub record Plain (q : Request) : Type 0 where
  pub backward : q.rule ≡ Backward
  pub positive : lt_z (pos 0) q.tenor.length ≡ true
  pub no_first : q.first.day ≡ 0
  pub no_penultimate : q.penultimate.day ≡ 0
  pub unadjusted : q.convention ≡ Unadjusted
  pub unadjusted_last : q.terminal ≡ Unadjusted
  pub no_month_end : q.monthend ≡ false
  pub order : q.effective.day < q.termination.day

-- what `is_plain` answers: true exactly of a plain request
pub record PlainIf (r : Bool) (q : Request) : Type 0 where
  pub only : r ≡ true → Plain q
  pub always : Plain q → r ≡ true

abbrev pub tenor_length : Request → ℕ
tenor_length q = nat_abs q.tenor.length

-- ".. that passes the input checks": what is left of the table for such a request, with `dates` and `flags` places lent
pub record Passes (q : Request) (closed : List ℕ) (dates flags : ℕ) : Type 0 where
  pub even : dates ≡ flags
  pub effective_in_book : in_book q.effective.day ≡ true
  pub termination_in_book : in_book q.termination.day ≡ true
  pub calendar_sound : calendar_ok q.mask closed ≡ true
  pub tenor_short : tenor_ok (tenor_length q) q.tenor.unit ≡ true

-- ---- "Its list is the effective date, then every date after it that lies zero or more whole tenors before termination, ascending."
-- k whole tenors before termination
abbrev pub tenors_before : Request → ℕ → Answer ℕ
tenors_before q k = shifted q.termination.day true (k * tenor_length q) q.tenor.unit

-- d lies so: zero or more whole tenors before termination
abbrev pub LiesSo : Request → ℕ → Type 0
LiesSo q d = (k : ℕ) × (tenors_before q k ≡ given d)

abbrev pub OwedDate : Request → ℕ → Type 0
OwedDate q d = (d ≡ q.effective.day) ⊎ ((q.effective.day < d) × LiesSo q d)

abbrev pub Owed : Request → List ℕ → Type 0
Owed q ds = ListsAll (OwedDate q) ds

-- ---- "Every period is regular, but for the first where the effective date does not lie so." 1 is regular
pub data FirstFlag (q : Request) (flag : ℕ) : Type 0 where
  regular : flag ≡ 1 → LiesSo q q.effective.day → FirstFlag q flag
  irregular : flag ≡ 0 → (LiesSo q q.effective.day → ⊥) → FirstFlag q flag

-- the first flag, then a 1 for each other period; the dates ds are two or more (Shape)
pub record Flagged (q : Request) (ds flags : List ℕ) : Type 0 where
  pub first : ℕ
  pub first_flag : FirstFlag q first
  pub all_flags : flags ≡ first ∷ replicate (length ds - 2) 1

-- ---- "n is the tenor in days or months, m the most days or months that can be taken from termination without passing before the effective date."
-- weeks are counted in days and years in months
abbrev pub counted_in : TimeUnit → TimeUnit
counted_in Days = Days
counted_in Weeks = Days
counted_in Months = Months
counted_in Years = Months

abbrev pub count_of : TimeUnit → ℕ
count_of Days = 1
count_of Weeks = 7
count_of Months = 1
count_of Years = 12

abbrev pub tenor_count : Request → ℕ
tenor_count q = count_of q.tenor.unit * tenor_length q

-- x days or months taken from termination
abbrev pub taken : Request → ℕ → Answer ℕ
taken q x = shifted q.termination.day true x (counted_in q.tenor.unit)

-- m of them can be taken without passing before day e, and no more
pub record MostOf (taking : ℕ → Answer ℕ) (e m : ℕ) : Type 0 where
  pub day : ℕ
  pub can_be_taken : taking m ≡ given day
  pub not_passing : e ≤ day
  pub no_more : (x d : ℕ) → taking x ≡ given d → e ≤ d → x ≤ m

abbrev pub Most : Request → ℕ → Type 0
Most q m = MostOf (taken q) q.effective.day m

-- ---- "It's refused exactly if that list exceeds the room lent, or 4,096. If accepted, the candidates tried number one plus the whole part of m/n."
abbrev pub TooLong : ℕ → List ℕ → Type 0
TooLong room ds = (room < length ds) ⊎ (4096 < length ds)

pub record Accepted (q : Request) (ds : List ℕ) (m : ℕ) (s : Schedule) : Type 0 where
  pub dates : s.dates ≡ ds
  pub flags : Flagged q ds s.flags
  pub tries : s.tries ≡ 1 + m / tenor_count q

-- what is said of an outcome o, where ds is the list owed and m the most that can be taken
pub record Kept (q : Request) (room : ℕ) (ds : List ℕ) (m : ℕ) (o : Answer Schedule) : Type 0 where
  pub refused_exactly : (o ≡ refused ROOM) ↔ TooLong room ds
  pub accepted_else : (TooLong room ds → ⊥) → (s : Schedule) × (o ≡ given s) × Accepted q ds m s

-- ---- demand 3 (shown in Proved)
abbrev pub Demand3 : Type 0
Demand3 =
    (q : Request) (closed : List ℕ) (dates flags : ℕ) → Plain q → Passes q closed dates flags
    → (ds : List ℕ) → Owed q ds → (m : ℕ) → Most q m → Kept q dates ds m (build_of q closed dates flags)

-- there is one list owed and one most, and no other (Proved); two outcomes that meet the demand are one (Settled)
abbrev pub OwedOnce : Type 0
OwedOnce =
    (q : Request) (closed : List ℕ) (dates flags : ℕ) → Plain q → Passes q closed dates flags
    → (ds : List ℕ) × Owed q ds × ((ds' : List ℕ) → Owed q ds' → ds' ≡ ds)

abbrev pub MostOnce : Type 0
MostOnce =
    (q : Request) (closed : List ℕ) (dates flags : ℕ) → Plain q → Passes q closed dates flags
    → (m : ℕ) × Most q m × ((m' : ℕ) → Most q m' → m' ≡ m)

-- a plain request meets no row of the table of input checks exactly if it passes (Checks)
abbrev pub ChecksAre : Type 0
ChecksAre =
    (q : Request) (closed : List ℕ) (dates flags : ℕ) → Plain q
    → (first_row (input_rows q closed dates flags) ≡ 0) ↔ Passes q closed dates flags

-- ---- the same in memory: what a call that keeps the promise of `build` answers, and what the lent lists then hold (shown in Memory). The list
-- of unadjusted dates holds the same dates as the list of paid ones
pub record WrittenOut (q : Request) (ds : List ℕ) (m : ℕ) (r : Built) (dates flags unadjusted dates' flags' unadjusted' : List ℕ) : Type 0 where
  pub number : r.number ≡ 0
  pub count : r.count ≡ length ds
  pub tries : r.tries ≡ 1 + m / tenor_count q
  pub rule : r.rule ≡ Backward
  pub tenor : r.tenor ≡ q.tenor
  pub moved : r.moved ≡ 0
  -- the dates stand at the start of two lists, their flags at the start of the other; later places hold what they held
  pub dates_then : dates' ≡ ds ++ drop (length ds) dates
  pub its_flags : List ℕ
  pub flagged : Flagged q ds its_flags
  pub flags_then : flags' ≡ its_flags ++ drop (length its_flags) flags
  pub unadjusted_then : unadjusted' ≡ ds ++ drop (length ds) unadjusted

pub record LeftAlone (r : Built) (dates flags unadjusted dates' flags' unadjusted' : List ℕ) : Type 0 where
  pub number : r.number ≡ ROOM
  pub count : r.count ≡ 0
  pub tries : r.tries ≡ 0
  pub moved : r.moved ≡ 0
  pub dates_same : dates' ≡ dates
  pub flags_same : flags' ≡ flags
  pub unadjusted_same : unadjusted' ≡ unadjusted

pub record InMemory (q : Request) (ds : List ℕ) (m : ℕ) (r : Built) (dates flags unadjusted dates' flags' unadjusted' : List ℕ) : Type 0 where
  pub left_alone : TooLong (length dates) ds → LeftAlone r dates flags unadjusted dates' flags' unadjusted'
  pub written_else : (TooLong (length dates) ds → ⊥) → WrittenOut q ds m r dates flags unadjusted dates' flags' unadjusted'

abbrev pub Demand3InMemory : Type 0
Demand3InMemory =
    (q : Request) (closed dates flags unadjusted dates' flags' unadjusted' : List ℕ) (r : Built)
    → Plain q → Passes q closed (length dates) (length flags) → length dates ≡ length unadjusted
    → Written q (entries_of q closed (length dates) (length flags) (length unadjusted)) r dates flags unadjusted dates' flags' unadjusted'
    → (ds : List ℕ) → Owed q ds → (m : ℕ) → Most q m → InMemory q ds m r dates flags unadjusted dates' flags' unadjusted'
