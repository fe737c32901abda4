-- The import of an exported file gives the list back.
-- Assumes nothing.
use Prim.Native.Nat.{ℕ, suc, ◌+◌, ◌-◌, ◌≤◌, ◌<◌, min}
use Rattle.std.specs.Prelude.{◌≡◌, true, false, leb, length}
use Rattle.std.proofs.Math.Path.{refl, ap}
use Rattle.std.proofs.Common.{sym, ◌∙◌, length-append}
use mathlib.Core.List.{List, [], ◌∷◌, ◌++◌, append_assoc, append-nil}
use native.Mathlib.Omega.{arith}
use borrow.Author.Tests.{le-leb, lt-ltb, leb-true}
use Rattle.refusal.specs.Answer.{given}
use Rattle.refusal.specs.Laws.Answers.{need_given, one_given}
use Rattle.calendar.specs.Open.{closed_ok}
use Rattle.holidays.specs.Words.{Bytes, pick, ascii, upper, uppers, equal, spells}
use Rattle.holidays.specs.Lines.{Line, unmarked, without_mark, lines_of}
use Rattle.holidays.specs.Content.{turned, by_mark, content_from, content_of, name_of, kind_of, by_equals, parameter_of, one_further, by_parameter, kind_in}
use Rattle.holidays.specs.Nesting.{Parts, may_begin, may_end, within, after_begin, after_end, after_other, after, last_of, is_blank, all_blank, at_end, on_after, place, on_placed, on_line, nested_from}
use Rattle.holidays.specs.Dated.{by_value, dated, CYCLE}
use Rattle.holidays.specs.Events.{nothing, day, Draft, blank, in_event, on_dated, unless_said, need, closed, closed_by, by_name, on_place, events_from}
use Rattle.holidays.specs.Import.{days, with_event, add, fits, on_room, on_days, gathered, size_ok, import_of, MOST}
use Rattle.holidays.specs.Laws.Turns.{from_here, at_start}
use Rattle.holidays.specs.Laws.Listed.{◌∈◌, Ascending}
use Rattle.publishing.specs.File.{Run, date_text, before, behind, event_lines, all_events, runs_of, file_of, export_of}
use Rattle.publishing.specs.Laws.Sizes.{file_size}
use Rattle.publishing.specs.Laws.Reading.{Clear, AllClear, are_clear, clear, clear_more, all_more, numbered, lines_of_written}
use Rattle.publishing.specs.Laws.Dates.{date_reads}
use Rattle.publishing.specs.Laws.Spans.{upward, days_in, SomeDay, runs_days, some_days, added_behind, closed_few, closed_ascends, closed_within, in_first, in_second, before_second, upward_in}

-- ---- one line after the other, from a place between two lines
abbrev CALENDAR : Bytes
CALENDAR = ascii "VCALENDAR"

abbrev EVENT : Bytes
EVENT = ascii "VEVENT"

abbrev OUTER : Parts
OUTER = CALENDAR ∷ []

abbrev INNER : Parts
INNER = EVENT ∷ CALENDAR ∷ []

abbrev at : ℕ → Bytes → Line
at n s = record { number = n; bytes = s }

module _ (room last n : ℕ) (ls : List Line) (w : Draft) (xs : List ℕ) where
  opens_calendar : from_here room last (at n (ascii "BEGIN:VCALENDAR") ∷ ls) [] w xs ≡ from_here room last ls OUTER w xs
  unfolding from_here nested_from on_line is_blank content_of content_from by_mark turned name_of place on_placed after after_begin may_begin spells uppers upper equal ascii pick on_after events_from on_place in_event
  opens_calendar = refl

  passes_version : from_here room last (at n (ascii "VERSION:2.0") ∷ ls) OUTER w xs ≡ from_here room last ls OUTER w xs
  unfolding from_here nested_from on_line is_blank content_of content_from by_mark turned name_of place on_placed after after_other spells uppers upper equal ascii pick on_after events_from on_place in_event
  passes_version = refl

  passes_product : from_here room last (at n (ascii "PRODID:-//Heronspan//EN") ∷ ls) OUTER w xs ≡ from_here room last ls OUTER w xs
  unfolding from_here nested_from on_line is_blank content_of content_from by_mark turned name_of place on_placed after after_other spells uppers upper equal ascii pick on_after events_from on_place in_event
  passes_product = refl

  opens_event : from_here room last (at n (ascii "BEGIN:VEVENT") ∷ ls) OUTER w xs ≡ from_here room last ls INNER w xs
  unfolding from_here nested_from on_line is_blank content_of content_from by_mark turned name_of place on_placed after after_begin may_begin spells uppers upper equal ascii pick on_after events_from on_place in_event
  opens_event = refl

  passes_uid : (s : Bytes) → from_here room last (at n (ascii "UID:" ++ s) ∷ ls) INNER w xs ≡ from_here room last ls INNER w xs
  unfolding from_here nested_from on_line is_blank content_of content_from by_mark turned name_of place on_placed after after_other spells uppers upper equal ascii pick on_after events_from on_place in_event by_name
  passes_uid s = refl

  passes_stamp : from_here room last (at n (ascii "DTSTAMP:19700101T000000Z") ∷ ls) INNER w xs ≡ from_here room last ls INNER w xs
  unfolding from_here nested_from on_line is_blank content_of content_from by_mark turned name_of place on_placed after after_other spells uppers upper equal ascii pick on_after events_from on_place in_event by_name
  passes_stamp = refl

module _ (room last n : ℕ) (w : Draft) (xs : List ℕ) where
  closes_calendar : from_here room last (at n (ascii "END:VCALENDAR") ∷ []) OUTER w xs ≡ days xs
  unfolding from_here nested_from on_line is_blank content_of content_from by_mark turned name_of place on_placed after after_end may_end within spells uppers upper equal ascii pick on_after events_from on_place in_event at_end gathered
  closes_calendar = refl

module _ (room last n : ℕ) (ls : List Line) (xs : List ℕ) (d : ℕ) (h : 1 ≤ d) (l : d ≤ 876217) where
  reads_start : from_here room last (at n (ascii "DTSTART;VALUE=DATE:" ++ date_text d) ∷ ls) INNER blank xs ≡ from_here room last ls INNER (record { start = day (d + CYCLE); stop = nothing }) xs
  unfolding from_here nested_from on_line is_blank content_of content_from by_mark turned name_of place on_placed after after_other spells uppers upper equal ascii pick on_after events_from on_place in_event by_name unless_said dated by_value kind_in by_parameter parameter_of by_equals one_further kind_of on_dated
  reads_start = rw (date_reads d h l)

  reads_stop : (from : ℕ) → from_here room last (at n (ascii "DTEND;VALUE=DATE:" ++ date_text d) ∷ ls) INNER (record { start = day from; stop = nothing }) xs ≡ from_here room last ls INNER (record { start = day from; stop = day (d + CYCLE) }) xs
  unfolding from_here nested_from on_line is_blank content_of content_from by_mark turned name_of place on_placed after after_other spells uppers upper equal ascii pick on_after events_from on_place in_event by_name unless_said dated by_value kind_in by_parameter parameter_of by_equals one_further kind_of on_dated
  reads_stop from = rw (date_reads d h l)

module _ (room last n : ℕ) (ls : List Line) (xs : List ℕ) (first past : ℕ) (low : 657072 ≤ first) (some : first < past) (high : past ≤ 876217) (place : leb (length (add (past - first) first xs)) (min room MOST) ≡ true) where
  closes_event : from_here room last (at n (ascii "END:VEVENT") ∷ ls) INNER (record { start = day (first + CYCLE); stop = day (past + CYCLE) }) xs ≡ from_here room last ls OUTER blank (add (past - first) first xs)
  unfolding from_here nested_from on_line is_blank content_of content_from by_mark turned name_of place on_placed after after_end may_end within spells uppers upper equal ascii pick on_after events_from on_place in_event by_name closed_by closed need gathered on_days on_room fits with_event
  closes_event =
      let a : first + CYCLE < past + CYCLE = omega arith in
      let b : 803169 ≤ first + CYCLE = omega arith in
      let c : past + CYCLE ≤ 1022314 = omega arith in
      let e : first + CYCLE - CYCLE ≡ first = omega arith in
      let f : past + CYCLE - CYCLE ≡ past = omega arith in
      rw (lt-ltb (first + CYCLE) (past + CYCLE) a, le-leb 803169 (first + CYCLE) b, le-leb (past + CYCLE) 1022314 c, e, f, place)

-- an event's lines add its days, six lines on
one_event : (room last m : ℕ) (more : List Bytes) (xs : List ℕ) (r : Run) → 657072 ≤ r.first → r.first < r.past → r.past ≤ 876217 → leb (length (add (r.past - r.first) r.first xs)) (min room MOST) ≡ true → from_here room last (numbered m (event_lines r ++ more)) OUTER blank xs ≡ from_here room last (numbered (suc (suc (suc (suc (suc (suc m)))))) more) OUTER blank (add (r.past - r.first) r.first xs)
unfolding numbered event_lines
one_event room last m more xs r low some high place =
    opens_event room last m _ blank xs
    ∙ passes_uid room last (suc m) _ blank xs _
    ∙ passes_stamp room last (suc (suc m)) _ blank xs
    ∙ reads_start room last (suc (suc (suc m))) _ xs r.first (omega arith) (omega arith)
    ∙ reads_stop room last (suc (suc (suc (suc m)))) _ xs r.past (omega arith) high (r.first + CYCLE)
    ∙ closes_event room last (suc (suc (suc (suc (suc m))))) (numbered (suc (suc (suc (suc (suc (suc m)))))) more) xs r.first r.past low some high place

-- ---- all events, one after the other
length_less : (xs ys zs : List ℕ) → length (xs ++ ys) ≤ length (xs ++ (ys ++ zs))
length_less xs ys zs = omega (arith, length-append xs ys, length-append xs (ys ++ zs), length-append ys zs)

module _ (room last : ℕ) where
  events_back : (rs : List Run) (m : ℕ) (xs : List ℕ) → SomeDay rs → Ascending (xs ++ days_in rs) → ((y : ℕ) → y ∈ days_in rs → (657072 ≤ y) × (y ≤ 876216)) → length (xs ++ days_in rs) ≤ min room MOST → from_here room last (numbered m (all_events rs ++ behind)) OUTER blank xs ≡ days (xs ++ days_in rs)
  unfolding all_events days_in behind numbered
  events_back [] m xs s a b l = closes_calendar room last m blank xs ∙ ap days (sym (append-nil xs))
  events_back (r ∷ rs) m xs s a b l =
      ap (λ (k : List Bytes). from_here room last (numbered m k) OUTER blank xs) (append_assoc (event_lines r) (all_events rs) behind)
      ∙ one_event room last m (all_events rs ++ behind) xs r low s.0 high there
      ∙ ap (from_here room last (numbered (suc (suc (suc (suc (suc (suc m)))))) (all_events rs ++ behind)) OUTER blank) added
      ∙ events_back rs (suc (suc (suc (suc (suc (suc m)))))) (xs ++ upward count r.first) s.1 (rw together a) (λ y i. b y (in_second (upward count r.first) (days_in rs) y i)) (rw together l)
      ∙ ap days together
    where
      count : ℕ
      count = r.past - r.first

      has : (y : ℕ) → r.first ≤ y → y < r.past → y ∈ (upward count r.first ++ days_in rs)
      has y p q = in_first (upward count r.first) (days_in rs) y (upward_in count r.first y p (omega arith))

      low : 657072 ≤ r.first
      low = (b r.first (has r.first (omega arith) s.0)).0

      high : r.past ≤ 876217
      high = let k = (b (r.past - 1) (has (r.past - 1) (omega (arith, s.0)) (omega (arith, s.0)))).1 in omega arith

      added : add count r.first xs ≡ xs ++ upward count r.first
      added = added_behind count r.first xs (before_second xs (upward count r.first ++ days_in rs) a r.first (has r.first (omega arith) s.0))

      together : (xs ++ upward count r.first) ++ days_in rs ≡ xs ++ (upward count r.first ++ days_in rs)
      together = append_assoc xs (upward count r.first) (days_in rs)

      there : leb (length (add count r.first xs)) (min room MOST) ≡ true
      there = rw added (le-leb (length (xs ++ upward count r.first)) (min room MOST) (omega (arith, length_less xs (upward count r.first) (days_in rs))))

-- ---- the file's lines have no control bytes
date_clear : (n : ℕ) → Clear (date_text n)
unfolding date_text
date_clear n = (omega arith, (omega arith, (omega arith, (omega arith, (omega arith, (omega arith, (omega arith, (omega arith, tt))))))))

event_clear : (r : Run) → AllClear (event_lines r)
unfolding event_lines clear ascii
event_clear r = (
  are_clear (ascii "BEGIN:VEVENT") refl,
  (
    clear_more (ascii "UID:") (date_text r.first ++ ascii "@heronspan") (are_clear (ascii "UID:") refl) (clear_more (date_text r.first) (ascii "@heronspan") (date_clear r.first) (are_clear (ascii "@heronspan") refl)),
    (
      are_clear (ascii "DTSTAMP:19700101T000000Z") refl,
      (
        clear_more (ascii "DTSTART;VALUE=DATE:") (date_text r.first) (are_clear (ascii "DTSTART;VALUE=DATE:") refl) (date_clear r.first),
        (
          clear_more (ascii "DTEND;VALUE=DATE:") (date_text r.past) (are_clear (ascii "DTEND;VALUE=DATE:") refl) (date_clear r.past),
          (are_clear (ascii "END:VEVENT") refl, tt),
        ),
      ),
    ),
  ),
)

events_clear : (rs : List Run) → AllClear (all_events rs)
unfolding all_events
events_clear [] = tt
events_clear (r ∷ rs) = all_more (event_lines r) (all_events rs) (event_clear r) (events_clear rs)

file_clear : (rs : List Run) → AllClear (before ++ (all_events rs ++ behind))
unfolding before behind clear ascii
file_clear rs = (
  are_clear (ascii "BEGIN:VCALENDAR") refl,
  (
    are_clear (ascii "VERSION:2.0") refl,
    (
      are_clear (ascii "PRODID:-//Heronspan//EN") refl,
      all_more (all_events rs) behind (events_clear rs) (are_clear (ascii "END:VCALENDAR") refl, tt),
    ),
  ),
)

first_unmarked : (ls : List Bytes) → unmarked (before ++ ls) ≡ before ++ ls
unfolding before unmarked without_mark equal ascii pick
first_unmarked ls = refl

first_not_blank : (ls : List Bytes) → all_blank (numbered 1 (before ++ ls)) ≡ false
unfolding numbered before all_blank is_blank ascii
first_not_blank ls = refl

first_lines : (room last : ℕ) (ls : List Bytes) → from_here room last (numbered 1 (before ++ ls)) [] blank [] ≡ from_here room last (numbered 4 ls) OUTER blank []
unfolding numbered before
first_lines room last ls =
    opens_calendar room last 1 _ blank []
    ∙ passes_version room last 2 _ blank []
    ∙ passes_product room last 3 _ blank []

file_lines : (list : List ℕ) → lines_of (file_of list) ≡ numbered 1 (before ++ (all_events (runs_of list) ++ behind))
unfolding file_of
file_lines list = lines_of_written (before ++ (all_events (runs_of list) ++ behind)) (file_clear (runs_of list)) unmarked_so
  where
    unmarked_so : unmarked (before ++ (all_events (runs_of list) ++ behind)) ≡ before ++ (all_events (runs_of list) ++ behind)
    unmarked_so = first_unmarked (all_events (runs_of list) ++ behind)

-- ---- completeness: for every list that keeps the calendar's rule and whose file stays within 64 KiB
pub back : (list : List ℕ) (room : ℕ) → closed_ok list ≡ true → length (file_of list) ≤ 65536 → length list ≤ room → import_of (file_of list) room ≡ days list
back list room ok size place = at_start (file_of list) room sized some_line ∙ walked
  where
    rs : List Run
    rs = runs_of list

    sized : size_ok (length (file_of list)) ≡ true
    sized = rw (le-leb 1 (length (file_of list)) (omega (arith, file_size list)), le-leb (length (file_of list)) 65536 size)

    some_line : all_blank (lines_of (file_of list)) ≡ false
    some_line = ap all_blank (file_lines list) ∙ first_not_blank (all_events rs ++ behind)

    last : ℕ
    last = last_of (lines_of (file_of list))

    walked : from_here room last (lines_of (file_of list)) [] blank [] ≡ days list
    walked =
        ap (λ (ls : List Line). from_here room last ls [] blank []) (file_lines list)
        ∙ first_lines room last (all_events rs ++ behind)
        ∙ events_back room last rs 4 [] (some_days list) (rw (runs_days list) (closed_ascends list ok)) (λ y i. closed_within list ok y (rw (runs_days list) at i)) (rw (runs_days list) (omega (arith, closed_few list ok)))
        ∙ ap days (runs_days list)

-- so what the export gives, the import takes back
pub export_import : (list : List ℕ) (room place : ℕ) (file : Bytes) → export_of list room ≡ given file → length list ≤ place → import_of file place ≡ days list
unfolding export_of
export_import list room place file h l =
    let p = need_given _ (closed_ok list) _ file h in
    let q = need_given _ (leb (length (file_of list)) 65536) _ file p.1 in
    let r = need_given _ (leb (length (file_of list)) room) _ file q.1 in
    let e : file_of list ≡ file = one_given (given (file_of list)) (file_of list) file refl r.1 in
    ap (λ (s : Bytes). import_of s place) (sym e) ∙ back list place p.0 (leb-true (length (file_of list)) 65536 q.0) l
