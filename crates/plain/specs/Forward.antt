-- The mirror of demand 3: what a forward build of the same kind is owed, in the same words, and what the build comes to.
-- Records of its own beside those of Demand, and none over a direction: demand 3 is a theorem that may not change, and reads as the customer wrote it.
-- Assumes nothing.
use Rattle.std.specs.Prelude.{ℕ, ◌+◌, ◌-◌, ◌*◌, ◌/◌, ◌≤◌, ◌<◌, ◌≡◌, ◌↔◌, true, false, List, [], ◌∷◌, ◌++◌, pos, length, drop, replicate}
use Rattle.std.specs.Int.Signed.{lt_z}
use Rattle.refusal.specs.Answer.{Answer, given, refused, ROOM}
use Rattle.date.specs.Date.{shifted}
use Rattle.calendar.specs.declared.Convention.TheVariants.{Unadjusted}
use Rattle.steps.specs.declared.Rule.{Rule}
use Rattle.steps.specs.declared.Rule.TheVariants.{Forward}
use Rattle.steps.specs.declared.Request.{Request}
use Rattle.steps.specs.declared.Built.{Built}
use Rattle.steps.specs.Build.{Schedule, build_of}
use Rattle.steps.specs.Entries.{entries_of, Written}
use Rattle.steps.specs.Table.{first_row, input_rows}
use Rattle.plain.specs.Listed.{ListsAll}
use Rattle.plain.specs.Demand.{Passes, tenor_length, counted_in, tenor_count, TooLong, LeftAlone}
use Rattle.outcomes.specs.NoLimit.{steps_in}

-- the same request under another rule
abbrev pub under : Rule → Request → Request
under rule q =
    record {
      effective = q.effective;
      termination = q.termination;
      tenor = q.tenor;
      rule = rule;
      convention = q.convention;
      terminal = q.terminal;
      monthend = q.monthend;
      first = q.first;
      penultimate = q.penultimate;
      mask = q.mask;
    }

-- ---- a forward build with positive tenor, no anchors, both conventions Unadjusted, end of month off, effective before termination
pub record PlainForward (q : Request) : Type 0 where
  pub forward : q.rule ≡ Forward
  pub positive : lt_z (pos 0) q.tenor.length ≡ true
  pub no_first : q.first.day ≡ 0
  pub no_penultimate : q.penultimate.day ≡ 0
  pub unadjusted : q.convention ≡ Unadjusted
  pub unadjusted_last : q.terminal ≡ Unadjusted
  pub no_month_end : q.monthend ≡ false
  pub order : q.effective.day < q.termination.day

-- ---- its list is the effective date, then every date after it and not after termination that lies one or more whole tenors after effective, ascending,
-- then termination if it is not among them
-- d is one of the dates that one or more tenors lead to
pub record OneOrMore (tenors : ℕ → Answer ℕ) (d : ℕ) : Type 0 where
  pub count : ℕ
  pub some : 1 ≤ count
  pub lies : tenors count ≡ given d

-- the effective date e, termination t, or a date between that tenors lead to
pub data DueOn (tenors : ℕ → Answer ℕ) (e t d : ℕ) : Type 0 where
  effective : d ≡ e → DueOn tenors e t d
  between : e < d → d ≤ t → OneOrMore tenors d → DueOn tenors e t d
  termination : d ≡ t → DueOn tenors e t d

-- k whole tenors after effective
abbrev pub tenors_after : Request → ℕ → Answer ℕ
tenors_after q k = shifted q.effective.day false (k * tenor_length q) q.tenor.unit

-- d lies one or more whole tenors after effective
abbrev pub LiesAfter : Request → ℕ → Type 0
LiesAfter q d = OneOrMore (tenors_after q) d

abbrev pub OwedOn : Request → List ℕ → Type 0
OwedOn q ds = ListsAll (DueOn (tenors_after q) q.effective.day q.termination.day) ds

-- ---- every period is regular, but for the last where termination does not lie so
pub data LastFlag (q : Request) (flag : ℕ) : Type 0 where
  regular : flag ≡ 1 → LiesAfter q q.termination.day → LastFlag q flag
  irregular : flag ≡ 0 → (LiesAfter q q.termination.day → ⊥) → LastFlag q flag

-- a 1 for each other period, then the last flag; the dates ds are two or more
pub record FlaggedOn (q : Request) (ds flags : List ℕ) : Type 0 where
  pub last : ℕ
  pub last_flag : LastFlag q last
  pub all_flags : flags ≡ replicate (length ds - 2) 1 ++ (last ∷ [])

-- ---- n is the tenor in days or months, m the most days or months that can be added to effective without passing termination
abbrev pub added : Request → ℕ → Answer ℕ
added q x = shifted q.effective.day false x (counted_in q.tenor.unit)

pub record MostAdded (adding : ℕ → Answer ℕ) (t m : ℕ) : Type 0 where
  pub day : ℕ
  pub can_be_added : adding m ≡ given day
  pub not_passing : day ≤ t
  pub no_more : (x d : ℕ) → adding x ≡ given d → d ≤ t → x ≤ m

abbrev pub MostOn : Request → ℕ → Type 0
MostOn q m = MostAdded (added q) q.termination.day m

-- ---- it is refused exactly if that list is too long; if accepted, the candidates tried number one plus the whole part of m/n
pub record AcceptedOn (q : Request) (ds : List ℕ) (m : ℕ) (s : Schedule) : Type 0 where
  pub dates : s.dates ≡ ds
  pub flags : FlaggedOn q ds s.flags
  pub tries : s.tries ≡ 1 + m / tenor_count q

pub record KeptOn (q : Request) (too_long : Type 0) (ds : List ℕ) (m : ℕ) (o : Answer Schedule) : Type 0 where
  pub refused_exactly : (o ≡ refused ROOM) ↔ too_long
  pub accepted_else : (too_long → ⊥) → (s : Schedule) × (o ≡ given s) × AcceptedOn q ds m s

-- a build: the list exceeds the room lent, or 4,096
abbrev pub DemandOn : Type 0
DemandOn =
    (q : Request) (closed : List ℕ) (dates flags : ℕ) → PlainForward q → Passes q closed dates flags
    → (ds : List ℕ) → OwedOn q ds → (m : ℕ) → MostOn q m → KeptOn q (TooLong dates ds) ds m (build_of q closed dates flags)

-- the steps with any room, over 4,096 too: the list exceeds that room
abbrev pub StepsOn : Type 0
StepsOn =
    (q : Request) (closed : List ℕ) (dates flags : ℕ) → PlainForward q → Passes q closed dates flags
    → (ds : List ℕ) → OwedOn q ds → (m : ℕ) → MostOn q m → (room : ℕ) → KeptOn q (room < length ds) ds m (steps_in q closed room)

-- there is one list owed and one most, and no other
abbrev pub OwedOnOnce : Type 0
OwedOnOnce =
    (q : Request) (closed : List ℕ) (dates flags : ℕ) → PlainForward q → Passes q closed dates flags
    → (ds : List ℕ) × OwedOn q ds × ((ds' : List ℕ) → OwedOn q ds' → ds' ≡ ds)

abbrev pub MostOnOnce : Type 0
MostOnOnce =
    (q : Request) (closed : List ℕ) (dates flags : ℕ) → PlainForward q → Passes q closed dates flags
    → (m : ℕ) × MostOn q m × ((m' : ℕ) → MostOn q m' → m' ≡ m)

-- such a request meets no row of the table of input checks exactly if it passes
abbrev pub ChecksOn : Type 0
ChecksOn =
    (q : Request) (closed : List ℕ) (dates flags : ℕ) → PlainForward q
    → (first_row (input_rows q closed dates flags) ≡ 0) ↔ Passes q closed dates flags

-- ---- the same in memory (shown in Memory)
pub record WrittenOn (q : Request) (ds : List ℕ) (m : ℕ) (r : Built) (dates flags unadjusted dates' flags' unadjusted' : List ℕ) : Type 0 where
  pub answer : r ≡ record { number = 0; count = length ds; tries = 1 + m / tenor_count q; rule = Forward; tenor = q.tenor; moved = 0 }
  -- the dates stand at the start of two lists, their flags at the start of the other; later places hold what they held
  pub dates_then : dates' ≡ ds ++ drop (length ds) dates
  pub its_flags : List ℕ
  pub flagged : FlaggedOn q ds its_flags
  pub flags_then : flags' ≡ its_flags ++ drop (length its_flags) flags
  pub unadjusted_then : unadjusted' ≡ ds ++ drop (length ds) unadjusted

pub record InMemoryOn (q : Request) (ds : List ℕ) (m : ℕ) (r : Built) (dates flags unadjusted dates' flags' unadjusted' : List ℕ) : Type 0 where
  pub left_alone : TooLong (length dates) ds → LeftAlone r dates flags unadjusted dates' flags' unadjusted'
  pub written_else : (TooLong (length dates) ds → ⊥) → WrittenOn q ds m r dates flags unadjusted dates' flags' unadjusted'

abbrev pub DemandOnInMemory : Type 0
DemandOnInMemory =
    (q : Request) (closed dates flags unadjusted dates' flags' unadjusted' : List ℕ) (r : Built)
    → PlainForward q → Passes q closed (length dates) (length flags) → length dates ≡ length unadjusted
    → Written q (entries_of q closed (length dates) (length flags) (length unadjusted)) r dates flags unadjusted dates' flags' unadjusted'
    → (ds : List ℕ) → OwedOn q ds → (m : ℕ) → MostOn q m → InMemoryOn q ds m r dates flags unadjusted dates' flags' unadjusted'
