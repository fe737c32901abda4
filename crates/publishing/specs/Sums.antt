-- Document 02, L10: a list and its file, computed; and the import of that file.
-- Assumes nothing.
use Rattle.std.specs.Prelude.{◌≡◌, refl, [], ◌∷◌}
use Rattle.holidays.specs.Words.{ascii}
use Rattle.date.specs.Civil.{leap, row_of, gone, guess, years_gone, month_in, day_in, place_of, fields_at}
use Rattle.publishing.specs.File.{joined, runs_from, runs_of, date_text, before, behind, event_lines, all_events, written, file_of}

-- 1 and 2 May 2025, and 31 December 2399
sum_file : file_of (739372 ∷ 739373 ∷ 876216 ∷ []) ≡ written (
    ascii "BEGIN:VCALENDAR" ∷ ascii "VERSION:2.0" ∷ ascii "PRODID:-//Heronspan//EN" ∷
    ascii "BEGIN:VEVENT" ∷ ascii "UID:20250501@heronspan" ∷ ascii "DTSTAMP:19700101T000000Z" ∷
    ascii "DTSTART;VALUE=DATE:20250501" ∷ ascii "DTEND;VALUE=DATE:20250503" ∷ ascii "END:VEVENT" ∷
    ascii "BEGIN:VEVENT" ∷ ascii "UID:23991231@heronspan" ∷ ascii "DTSTAMP:19700101T000000Z" ∷
    ascii "DTSTART;VALUE=DATE:23991231" ∷ ascii "DTEND;VALUE=DATE:24000101" ∷ ascii "END:VEVENT" ∷
    ascii "END:VCALENDAR" ∷ [])
unfolding file_of runs_of runs_from joined date_text before behind event_lines all_events written ascii fields_at place_of day_in month_in years_gone guess gone row_of leap
sum_file = refl

-- no day: a calendar without events
sum_none : file_of [] ≡ written (ascii "BEGIN:VCALENDAR" ∷ ascii "VERSION:2.0" ∷ ascii "PRODID:-//Heronspan//EN" ∷ ascii "END:VCALENDAR" ∷ [])
unfolding file_of runs_of before behind all_events
sum_none = refl
