-- Where a run stands in the two lists. Terms of promises between our own functions, and of the place that is told beside a run.
-- Assumes nothing.
use Rattle.std.specs.Prelude.{ℕ, ◌+◌, ◌-◌, ◌≤◌, ◌<◌, ◌≡◌, Bool, true, false, List, [], ◌∷◌, ◌++◌, eqb, leb, length, take, drop, set, Result, Ok, Err}
use Rattle.refusal.specs.Answer.{Answer, given, refused, need, then, ROOM, FULL}
use Rattle.date.specs.Date.{step}
use Rattle.refusal.specs.declared.Refusal.{Refusal}
use Rattle.refusal.specs.Refusals.{number_of}
use Rattle.date.specs.Civil.{day_number}
use Rattle.desk.specs.declared.Found.{Found}
use Rattle.desk.specs.declared.Holder.{Holder}
use Rattle.desk.specs.declared.Holder.TheVariants.{Neither, Desk, House}
use Rattle.desk.specs.Desk.{year_of, entries_in, run_of, asked_of, combined}

unfoldable pub day_or : Answer ℕ → ℕ
day_or (given day) = day
day_or (refused n) = 0

-- the last day of a year that a search that way comes to
unfoldable pub end_of : (back : Bool) (year : ℕ) → ℕ
end_of false year = day_number year 12 31
end_of true year = day_number year 1 1

-- the entries of a year are this part of the list
pub record PartOf (list : List ℕ) (year start end : ℕ) : Type 0 where
  pub order : start ≤ end
  pub within : end ≤ length list
  pub same : entries_in year list ≡ take (end - start) (drop start list)

-- no list (0), the desk's (1) or the house's (2)
unfoldable pub pick_l : Bool → (list other : List ℕ) → List ℕ
pick_l true list other = list
pick_l false list other = other

unfoldable pub chosen : (list : ℕ) (desk house : List ℕ) → List ℕ
chosen list desk house = pick_l (eqb list 1) desk (pick_l (eqb list 2) house [])

abbrev pub holder_number : Holder → ℕ
holder_number Neither = 0
holder_number Desk = 1
holder_number House = 2

-- which list the answer to a lookup stands in
unfoldable pub standing : (run own : List ℕ) → ℕ
standing [] own = 0
standing (x ∷ xs) [] = 2
standing (x ∷ xs) (y ∷ ys) = 1

-- what is told of a place, run for run: the part that it says, of that list; nothing of none
pub record Stands (run own desk house : List ℕ) (list start count : ℕ) : Type 0 where
  pub part : run ≡ take count (drop start (chosen list desk house))
  pub within : start + count ≤ length (chosen list desk house)
  pub which : list ≡ standing run own
  pub many : count ≡ length run
  pub none : count ≡ 0 → start ≡ 0

-- a place that is told, or the refusal that the question gives
unfoldable pub Tells : (desk house : List ℕ) (year : ℕ) → Result Found Refusal → Type 0
Tells desk house year (Ok f) =
    (asked_of desk house year ≡ given tt)
    × Stands (run_of desk house year) (entries_in year desk) desk house (holder_number f.list) f.start f.count
Tells desk house year (Err r) = asked_of desk house year ≡ refused (number_of r)

-- ---- the same in a lent list of two places: 14 where it is shorter, before all else
unfoldable pub count_of : (desk house : List ℕ) (year room : ℕ) → Answer ℕ
count_of desk house year room =
    need ROOM (leb 2 room) (then (asked_of desk house year) (λ ok. given (length (run_of desk house year))))

-- the list that the run stands in, and where it starts; nothing else of the lent list changes
pub record PlaceIn (run own desk house lent lent' : List ℕ) : Type 0 where
  pub start : ℕ
  pub part : run ≡ take (length run) (drop start (chosen (standing run own) desk house))
  pub within : start + length run ≤ length (chosen (standing run own) desk house)
  pub none : length run ≡ 0 → start ≡ 0
  pub after : lent' ≡ set (set lent 0 (standing run own)) 1 start

unfoldable pub Written : Answer ℕ → (run own desk house lent lent' : List ℕ) → Type 0
Written (given n) run own desk house lent lent' = PlaceIn run own desk house lent lent'
Written (refused n) run own desk house lent lent' = lent' ≡ lent

pub record PlaceTold (desk house : List ℕ) (year : ℕ) (r : Answer ℕ) (lent lent' : List ℕ) : Type 0 where
  pub says : r ≡ count_of desk house year (length lent)
  pub writes : Written (count_of desk house year (length lent)) (run_of desk house year) (entries_in year desk) desk house lent lent'

-- so many days from a day, on or back, lie in a year
pub record Within (back : Bool) (day tries year : ℕ) : Type 0 where
  pub in_it_lem : (k : ℕ) → k < tries → year_of (step back day k) ≡ year

-- ---- a turn of the merge: the house's entries before the desk's first year, the desk's in it and none of the house's, then the rest of both
pub record Turns (desk house : List ℕ) (front own next : ℕ) : Type 0 where
  pub some : 0 < own
  pub in_desk : own ≤ length desk
  pub order : front ≤ next
  pub in_house : next ≤ length house
  pub same : combined desk house ≡ take front house ++ (take own desk ++ combined (drop own desk) (drop next house))

-- so many entries in so much room: 23 for more than 4,096, then 14
unfoldable pub room_for : (n room : ℕ) → Answer (Prim.Unit {0})
room_for n room = need FULL (leb n 4096) (need ROOM (leb n room) (given tt))
