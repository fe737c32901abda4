-- Document 01, "Schedule steps": after generating, the third Wednesdays, the first date, the last date, the middle dates, then the merge at the end
-- and the merge at the front.
-- Assumes nothing.
use Rattle.std.specs.Prelude.{ℕ, zero, suc, ◌+◌, ◌-◌, Bool, true, false, ◌&&◌, List, [], ◌∷◌, ◌++◌, eqb, leb, length, get_or, take, drop, set}
use Rattle.refusal.specs.Answer.{Answer, given, need, then, COLLAPSED}
use Rattle.date.specs.Civil.{fields_of, pick_n}
use Rattle.date.specs.Date.{last_of_month, nth_weekday_of}
use Rattle.calendar.specs.declared.Convention.{Convention}
use Rattle.calendar.specs.declared.Convention.TheVariants.{Unadjusted, Following, ModifiedFollowing, Preceding, ModifiedPreceding}
use Rattle.calendar.specs.Adjust.{adjusted, last_open, at_month_end}
use Rattle.steps.specs.declared.Rule.{Rule}
use Rattle.steps.specs.declared.Rule.TheVariants.{ThirdWednesday, ThirdWednesdayInclusive}
use Rattle.steps.specs.declared.Request.{Request}
use Rattle.steps.specs.declared.Move.{Move}
use Rattle.steps.specs.declared.Move.TheVariants.{Stay, ThirdWednesdays, Adjust, MonthEnds, OpenMonthEnds}
use Rattle.steps.specs.Rules.{one_of, rule_in_force, is_credit, is_old_cds}

-- ---- a date is moved
unfoldable pub third_wednesday : ℕ → Answer ℕ
third_wednesday day = nth_weekday_of 3 3 (fields_of day).month (fields_of day).year

unfoldable pub moved : (mask : ℕ) (closed : List ℕ) → Move → (day : ℕ) → Answer ℕ
moved mask closed Stay day = given day
moved mask closed ThirdWednesdays day = third_wednesday day
moved mask closed (Adjust convention) day = adjusted mask closed convention day
moved mask closed MonthEnds day = last_of_month day
moved mask closed OpenMonthEnds day = last_open mask closed day

-- ---- dates are moved one after the other; the first that can't be refuses
unfoldable pub each : (ℕ → Answer ℕ) → List ℕ → Answer (List ℕ)
each f [] = given []
each f (x ∷ xs) = then (f x) (λ y. then (each f xs) (λ ys. given (y ∷ ys)))

-- the dates from place a up to place b, the others as they are
unfoldable pub between : (ℕ → Answer ℕ) → (a b : ℕ) (ds : List ℕ) → Answer (List ℕ)
between f a b ds = then (each f (take (b - a) (drop a ds))) (λ ys. given (take a ds ++ (ys ++ drop b ds)))

unfoldable pub on_first : (ℕ → Answer ℕ) → List ℕ → Answer (List ℕ)
on_first f ds = between f 0 1 ds

unfoldable pub on_last : (ℕ → Answer ℕ) → List ℕ → Answer (List ℕ)
on_last f ds = between f (length ds - 1) (length ds) ds

unfoldable pub on_middle : (ℕ → Answer ℕ) → List ℕ → Answer (List ℕ)
on_middle f ds = between f 1 (1 + (length ds - 2)) ds

-- ---- the third Wednesdays: the middle dates, or all
unfoldable pub wednesdays_by : Bool → (all : Bool) (mask : ℕ) (closed ds : List ℕ) → Answer (List ℕ)
wednesdays_by true all mask closed ds = on_middle (moved mask closed ThirdWednesdays) ds
wednesdays_by false true mask closed ds = each (moved mask closed ThirdWednesdays) ds
wednesdays_by false false mask closed ds = given ds

unfoldable pub wednesdays : Rule → (mask : ℕ) (closed ds : List ℕ) → Answer (List ℕ)
wednesdays rule mask closed ds =
    wednesdays_by (one_of rule (ThirdWednesday ∷ [])) (one_of rule (ThirdWednesdayInclusive ∷ [])) mask closed ds

-- ---- what moves the first date, the last date and the middle ones
-- OldCDS never adjusts the first date, CDS and CDS2015 never the last
unfoldable pub unless : Bool → Convention → Move
unless true convention = Stay
unless false convention = Adjust convention

unfoldable pub first_move : Request → Move
first_move q = unless (is_old_cds (rule_in_force q)) q.convention

unfoldable pub last_move : Request → Move
last_move q = unless (is_credit (rule_in_force q)) q.terminal

-- month ends if end of month is on and the seed is at month end: plain ones under Unadjusted, else the calendar's
unfoldable pub month_end_move : Convention → Move
month_end_move Unadjusted = MonthEnds
month_end_move Following = OpenMonthEnds
month_end_move ModifiedFollowing = OpenMonthEnds
month_end_move Preceding = OpenMonthEnds
month_end_move ModifiedPreceding = OpenMonthEnds

unfoldable pub middle_move : Bool → Convention → Move
middle_move true convention = month_end_move convention
middle_move false convention = Adjust convention

-- the seed's month-end test; Zero has no seed, and 0 is not at month end
unfoldable pub seed_asked : ℕ → (mask : ℕ) (closed : List ℕ) → Answer Bool
seed_asked zero mask closed = given false
seed_asked (suc n) mask closed = at_month_end mask closed (suc n)

unfoldable pub seed_at_end : Bool → (mask : ℕ) (closed : List ℕ) (seed : ℕ) → Answer Bool
seed_at_end false mask closed seed = given false
seed_at_end true mask closed seed = seed_asked seed mask closed

unfoldable pub adjustments : Request → (closed : List ℕ) (seed : ℕ) (ds : List ℕ) → Answer (List ℕ)
adjustments q closed seed ds =
    then (on_first (moved q.mask closed (first_move q)) ds) (λ ds₁.
    then (on_last (moved q.mask closed (last_move q)) ds₁) (λ ds₂.
    then (seed_at_end q.monthend q.mask closed seed) (λ end.
    on_middle (moved q.mask closed (middle_move end q.convention)) ds₂)))

-- ---- the merges
pub record Merged : Type 0 where
  pub dates : List ℕ
  pub flags : List ℕ

abbrev pub same_flag : ℕ → ℕ → ℕ
same_flag a b = pick_n (eqb a b) 1 0

-- at the end: the last date takes the place of one that is not before it, whose flag says whether the two were equal
unfoldable pub meet_at_end : List ℕ → Bool
meet_at_end ds = leb 2 (length ds) && leb (get_or ds (length ds - 1) 0) (get_or ds (length ds - 2) 0)

unfoldable pub merge_end_if : Bool → (ds fs : List ℕ) → Merged
merge_end_if false ds fs = record { dates = ds; flags = fs }
merge_end_if true ds fs =
    record {
      dates = take (length ds - 1) (set ds (length ds - 2) (get_or ds (length ds - 1) 0));
      flags = take (length fs - 1) (set fs (length fs - 2) (same_flag (get_or ds (length ds - 2) 0) (get_or ds (length ds - 1) 0)));
    }

unfoldable pub merge_end : List ℕ → List ℕ → Merged
merge_end ds fs = merge_end_if (meet_at_end ds) ds fs

-- at the front: the first date takes the place of one that is not after it; two dates that are so are refused 15
unfoldable pub meet_at_front : List ℕ → Bool
meet_at_front ds = leb 2 (length ds) && leb (get_or ds 1 0) (get_or ds 0 0)

unfoldable pub merge_front_if : Bool → (ds fs : List ℕ) → Answer Merged
merge_front_if false ds fs = given (record { dates = ds; flags = fs })
merge_front_if true ds fs =
    need COLLAPSED (leb 3 (length ds))
    (given (record {
      dates = drop 1 (set ds 1 (get_or ds 0 0));
      flags = drop 1 (set fs 1 (same_flag (get_or ds 1 0) (get_or ds 0 0)));
    }))

unfoldable pub merge_front : Merged → Answer Merged
merge_front m = merge_front_if (meet_at_front m.dates) m.dates m.flags

-- ---- all of it
unfoldable pub finish : Request → (closed : List ℕ) (seed : ℕ) (ds fs : List ℕ) → Answer Merged
finish q closed seed ds fs =
    then (wednesdays (rule_in_force q) q.mask closed ds) (λ ds₁.
    then (adjustments q closed seed ds₁) (λ ds₂.
    merge_front (merge_end ds₂ fs)))
