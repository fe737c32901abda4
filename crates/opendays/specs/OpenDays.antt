-- Request L9: what each public function answers, and the calendar that a change is for. The calendar is checked first (3), then the index's size (21),
-- then dates (2), the count asked for (5), that there is a change (22), and that the list has room (23).
-- Assumes nothing.
use Rattle.std.specs.Prelude.{ℕ, ◌+◌, ◌≡◌, Bool, true, false, List, [], ◌∷◌, eqb, leb, ltb, length}
use Rattle.refusal.specs.Answer.{Answer, given, refused, need, BOOK, CALENDAR, TENOR, INDEX, SAME, FULL}
use Rattle.date.specs.Date.{in_book}
use Rattle.calendar.specs.Open.{weekly_closed, member, is_open_day, calendar_ok}
use Rattle.calendar.specs.Adjust.{in_span}
use Rattle.opendays.specs.Index.{PLACES, place_of, index_of, count_by, nth_by, onwards}

-- a calendar that keeps its rule and an index of 601 counts come before all else
unfoldable pub indexed : {A : Type 0} → ℕ → List ℕ → List ℕ → Answer A → Answer A
indexed mask closed index a = need CALENDAR (calendar_ok mask closed) (need INDEX (eqb (length index) PLACES) a)

-- ---- make
unfoldable pub make_of : ℕ → List ℕ → List ℕ → Answer (List ℕ)
make_of mask closed index = indexed mask closed index (given (index_of mask closed))

-- ---- the two questions
unfoldable pub count_of : ℕ → List ℕ → List ℕ → ℕ → ℕ → Answer ℕ
count_of mask closed index first last =
    indexed mask closed index
    (need BOOK (in_book first)
    (need BOOK (in_book last)
    (given (count_by mask closed index first last))))

unfoldable pub nth_of : ℕ → List ℕ → List ℕ → ℕ → ℕ → Answer ℕ
nth_of mask closed index day n =
    indexed mask closed index
    (need BOOK (in_book day)
    (need TENOR (leb 1 n)
    (need TENOR (leb n 366)
    (nth_by mask closed index day n))))

-- ---- one closed date more, or less: the date is one of the span, and the list is that of before the change
unfoldable pub add_of : ℕ → List ℕ → List ℕ → ℕ → Answer (List ℕ)
add_of mask closed index x =
    indexed mask closed index
    (need BOOK (in_span x)
    (need SAME (is_open_day mask closed x)
    (need FULL (ltb (length closed) 4096)
    (given (onwards false (place_of x + 1) index)))))

-- a date that is weekly closed, too, stays closed
unfoldable pub unless_weekly : Bool → ℕ → List ℕ → List ℕ
unless_weekly true place index = index
unless_weekly false place index = onwards true place index

unfoldable pub remove_of : ℕ → List ℕ → List ℕ → ℕ → Answer (List ℕ)
remove_of mask closed index x =
    indexed mask closed index
    (need BOOK (in_span x)
    (need SAME (member x closed)
    (given (unless_weekly (weekly_closed mask x) (place_of x + 1) index))))

-- ---- the closed list after a change: the date put in its place, or left out
unfoldable pub put_by : Bool → ℕ → ℕ → List ℕ → List ℕ → List ℕ
put_by true x y ys more = x ∷ y ∷ ys
put_by false x y ys more = y ∷ more

unfoldable pub with_date : ℕ → List ℕ → List ℕ
with_date x [] = x ∷ []
with_date x (y ∷ ys) = put_by (ltb x y) x y ys (with_date x ys)

unfoldable pub leave_by : Bool → ℕ → List ℕ → List ℕ → List ℕ
leave_by true y ys less = ys
leave_by false y ys less = y ∷ less

unfoldable pub without_date : ℕ → List ℕ → List ℕ
without_date x [] = []
without_date x (y ∷ ys) = leave_by (eqb y x) y ys (without_date x ys)

-- ---- the promise of make and of the two changes: the answer, and the lent index, which a refusal leaves as it was
unfoldable pub index_after : Answer (List ℕ) → List ℕ → List ℕ
index_after (given new) old = new
index_after (refused n) old = old

unfoldable pub changed : Answer (List ℕ) → Answer (Prim.Unit {0})
changed (given new) = given tt
changed (refused n) = refused n

pub record Written (o : Answer (List ℕ)) (r : Answer (Prim.Unit {0})) (index index' : List ℕ) : Type 0 where
  pub answer : r ≡ changed o
  pub index_after_lem : index' ≡ index_after o index
