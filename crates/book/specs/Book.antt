-- Request L4, "A night's book in one call": what a book comes to. Each of its requests is 01's single call, `decoded` and then the build,
-- on the parts of the lent lists that begin where the schedule before it ended.
-- Assumes nothing.
use Rattle.std.specs.Prelude.{ℕ, suc, ◌+◌, ◌-◌, ◌*◌, ◌/◌, ◌≡◌, ◌&&◌, List, [], ◌∷◌, ◌++◌, eqb, leb, length, take, drop, Result}
use Rattle.refusal.specs.declared.Refusal.{Refusal}
use Rattle.refusal.specs.Answer.{Answer, given, refused, answered, need, then, UNEVEN, BATCH}
use Rattle.steps.specs.Build.{over, dates_after, flags_after}
use Rattle.steps.specs.Entries.{Entries, entries_of, paid_of, unadjusted_after}
use Rattle.request.specs.Format.{decoded}
use Rattle.book.specs.Framing.{requests_in}

-- ---- the single call, from bytes: room for 4,096 closed dates, and so many places for dates, flags and unadjusted dates
unfoldable pub call_of : (bytes : List ℕ) (dates flags unadjusted : ℕ) → Answer Entries
call_of bytes dates flags unadjusted = then (decoded bytes 4096) (λ a. entries_of a.request a.closed dates flags unadjusted)

-- the same with as much room for each
abbrev pub call_in : List ℕ → ℕ → Answer Entries
call_in bytes room = call_of bytes room room room

-- ---- what goes out for each request: count, start, tries and number, all but the number 0 where it is refused
unfoldable pub count_of : Answer Entries → ℕ
count_of (given e) = length e.schedule.dates
count_of (refused n) = 0

unfoldable pub four_numbers : ℕ → Answer Entries → List ℕ
four_numbers start (given e) = length e.schedule.dates ∷ start ∷ e.schedule.tries ∷ 0 ∷ []
four_numbers start (refused n) = 0 ∷ 0 ∷ 0 ∷ n ∷ []

-- ---- the lent lists, and what request i, at its start, makes of them
pub record Lists : Type 0 where
  pub dates : List ℕ
  pub flags : List ℕ
  pub unadjusted : List ℕ
  pub answers : List ℕ

abbrev pub lists : (dates flags unadjusted answers : List ℕ) → Lists
lists dates flags unadjusted answers = record { dates = dates; flags = flags; unadjusted = unadjusted; answers = answers }

-- the part from a place on, changed
unfoldable pub on_part : ℕ → (List ℕ → List ℕ) → List ℕ → List ℕ
on_part at change l = take at l ++ change (drop at l)

unfoldable pub turned : (i start : ℕ) → Answer Entries → Lists → Lists
turned i start o l =
    record {
      dates = on_part start (dates_after (paid_of o)) l.dates;
      flags = on_part start (flags_after (paid_of o)) l.flags;
      unadjusted = on_part start (unadjusted_after o) l.unadjusted;
      answers = on_part (4 * i) (over (four_numbers start o)) l.answers;
    }

unfoldable pub on_call : (i start : ℕ) → Lists → (ℕ → ℕ → Lists → Lists) → Answer Entries → Lists
on_call i start l on o = on (suc i) (start + count_of o) (turned i start o l)

-- the requests one after the other, each with the room then left
unfoldable pub booked : List (List ℕ) → (i start : ℕ) → Lists → Lists
booked [] i start l = l
booked (r ∷ rs) i start l = on_call i start l (booked rs) (call_in r (length l.dates - start))

-- ---- the call: 1, then 20, then the requests; four places to an answer, and whole ones count
unfoldable pub book_of : (bytes : List ℕ) (dates flags unadjusted answers : ℕ) → Answer (List (List ℕ))
book_of bytes dates flags unadjusted answers =
    need UNEVEN (eqb dates flags && eqb dates unadjusted)
    (then (requests_in bytes) (λ rs. need BATCH (leb (length rs) (answers / 4)) (given rs)))

-- how many requests there are
unfoldable pub counted : Answer (List (List ℕ)) → Answer ℕ
counted (given rs) = given (length rs)
counted (refused n) = refused n

unfoldable pub lists_after : Answer (List (List ℕ)) → Lists → Lists
lists_after (given rs) l = booked rs 0 0 l
lists_after (refused n) l = l

-- the promise of a book
pub record Books (o : Answer (List (List ℕ))) (r : Result ℕ Refusal) (l l' : Lists) : Type 0 where
  pub answer : answered r ≡ counted o
  pub after : l' ≡ lists_after o l
