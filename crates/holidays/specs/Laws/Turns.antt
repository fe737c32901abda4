-- One line through all stages at once, a law for each way: what the code keeps between two lines are the open parts, the draft of the event and the days.
-- Assumes nothing.
use Rattle.std.specs.Prelude.{ℕ, ◌+◌, ◌-◌, ◌≡◌, refl, true, false, List, [], ◌∷◌, leb, ltb, length}
use Rattle.std.proofs.Common.{ap, ◌∙◌}
use Rattle.refusal.specs.Answer.{BOOK, ICAL, ICALKIND}
use Rattle.holidays.specs.Words.{Bytes, pick, Course}
use Rattle.holidays.specs.Lines.{Line, lines_of}
use Rattle.holidays.specs.Content.{Content, content_of, Name, begin, end, dtstart, dtend, recurring, other, name_of}
use Rattle.holidays.specs.Nesting.{Parts, broken, open_are, after, last_of, is_blank, all_blank, at_end, on_after, place, on_placed, on_line, nested_from, nested}
use Rattle.holidays.specs.Dated.{all_day, timed, bad, CYCLE, dated}
use Rattle.holidays.specs.Events.{Event, nothing, day, Draft, blank, in_event, on_dated, unless_said, need, closed, closed_by, by_name, on_place, events_from, events}
use Rattle.holidays.specs.Import.{Import, days, refused_at_lem, with_event, full, fits, on_room, on_days, gathered, size_ok, import_of}

-- what the import answers from a place between two lines
unfoldable pub from_here : ℕ → ℕ → List Line → Parts → Draft → List ℕ → Import
from_here room last ls ps w xs = gathered room (events_from (nested_from last ls ps) w) xs

-- ---- at the start
pub at_start : (file : Bytes) (room : ℕ) → size_ok (length file) ≡ true → all_blank (lines_of file) ≡ false → import_of file room ≡ from_here room (last_of (lines_of file)) (lines_of file) [] blank []
unfolding import_of pick nested events from_here
at_start file room p q = rw (p, q)

pub only_blank : (file : Bytes) (room : ℕ) → size_ok (length file) ≡ true → all_blank (lines_of file) ≡ true → import_of file room ≡ refused_at_lem ICAL (last_of (lines_of file))
unfolding import_of pick nested events events_from gathered
only_blank file room p q = rw (p, q)

pub wrong_size : (file : Bytes) (room : ℕ) → size_ok (length file) ≡ false → import_of file room ≡ refused_at_lem ICAL 0
unfolding import_of pick
wrong_size file room p = rw p

-- ---- at the end
pub all_closed : (room last : ℕ) (w : Draft) (xs : List ℕ) → from_here room last [] [] w xs ≡ days xs
unfolding from_here nested_from at_end events_from gathered
all_closed room last w xs = refl

pub left_open : (room last : ℕ) (p : Bytes) (ps : Parts) (w : Draft) (xs : List ℕ) → from_here room last [] (p ∷ ps) w xs ≡ refused_at_lem ICAL last
unfolding from_here nested_from at_end events_from gathered
left_open room last p ps w xs = refl

module _ (room last : ℕ) (l : Line) (ls : List Line) (ps : Parts) (w : Draft) (xs : List ℕ) where
  pub passes_blank : is_blank l.bytes ≡ true → from_here room last (l ∷ ls) ps w xs ≡ from_here room last ls ps w xs
  unfolding from_here nested_from on_line
  passes_blank h = rw h

  -- ---- a line with the name n and this content
  module _ (text : is_blank l.bytes ≡ false) (c : Content) (reads : content_of l.bytes ≡ c) (n : Name) (named : name_of c.name ≡ n) where
    pub breaks : after n c.said ps ≡ broken → from_here room last (l ∷ ls) ps w xs ≡ refused_at_lem ICAL l.number
    unfolding from_here nested_from on_line on_placed place on_after events_from gathered
    breaks h = rw (text, reads, named, h)

    module _ (qs : Parts) (OpensAs : after n c.said ps ≡ open_are qs) where
      -- the line and the lines behind it
      split : from_here room last (l ∷ ls) ps w xs ≡ gathered room (on_place (in_event ps) (record { number = l.number; parts = ps; name = n; content = c }) w (events_from (nested_from last ls qs))) xs
      unfolding from_here nested_from on_line on_placed place on_after events_from
      split = rw (text, reads, named, OpensAs)

      -- not directly in a VEVENT
      pub outside : in_event ps ≡ false → from_here room last (l ∷ ls) ps w xs ≡ from_here room last ls qs w xs
      unfolding on_place from_here
      outside h = split ∙ rw h

      module _ (inside : in_event ps ≡ true) where
        pub passes_begin : n ≡ begin → from_here room last (l ∷ ls) ps w xs ≡ from_here room last ls qs w xs
        unfolding on_place by_name from_here
        passes_begin e = split ∙ rw (inside, e)

        pub passes_other : n ≡ other → from_here room last (l ∷ ls) ps w xs ≡ from_here room last ls qs w xs
        unfolding on_place by_name from_here
        passes_other e = split ∙ rw (inside, e)

        pub recurs : n ≡ recurring → from_here room last (l ∷ ls) ps w xs ≡ refused_at_lem ICALKIND l.number
        unfolding on_place by_name gathered
        recurs e = split ∙ rw (inside, e)

        -- ---- DTSTART: repeated, bad, timed, or a day
        module _ (e : n ≡ dtstart) where
          pub start_repeated : (d : ℕ) → w.start ≡ day d → from_here room last (l ∷ ls) ps w xs ≡ refused_at_lem ICAL l.number
          unfolding on_place by_name unless_said gathered
          start_repeated d h = split ∙ rw (inside, e, h)

          module _ (new : w.start ≡ nothing) where
            pub start_bad : dated c ≡ bad → from_here room last (l ∷ ls) ps w xs ≡ refused_at_lem ICAL l.number
            unfolding on_place by_name unless_said on_dated gathered
            start_bad h = split ∙ rw (inside, e, new, h)

            pub start_timed : dated c ≡ timed → from_here room last (l ∷ ls) ps w xs ≡ refused_at_lem ICALKIND l.number
            unfolding on_place by_name unless_said on_dated gathered
            start_timed h = split ∙ rw (inside, e, new, h)

            pub starts : (d : ℕ) → dated c ≡ all_day d → from_here room last (l ∷ ls) ps w xs ≡ from_here room last ls qs (record { start = day d; stop = w.stop }) xs
            unfolding on_place by_name unless_said on_dated from_here
            starts d h = split ∙ rw (inside, e, new, h)

        -- ---- DTEND: the same
        module _ (e : n ≡ dtend) where
          pub stop_repeated : (d : ℕ) → w.stop ≡ day d → from_here room last (l ∷ ls) ps w xs ≡ refused_at_lem ICAL l.number
          unfolding on_place by_name unless_said gathered
          stop_repeated d h = split ∙ rw (inside, e, h)

          module _ (new : w.stop ≡ nothing) where
            pub stop_bad : dated c ≡ bad → from_here room last (l ∷ ls) ps w xs ≡ refused_at_lem ICAL l.number
            unfolding on_place by_name unless_said on_dated gathered
            stop_bad h = split ∙ rw (inside, e, new, h)

            pub stop_timed : dated c ≡ timed → from_here room last (l ∷ ls) ps w xs ≡ refused_at_lem ICALKIND l.number
            unfolding on_place by_name unless_said on_dated gathered
            stop_timed h = split ∙ rw (inside, e, new, h)

            pub stops : (d : ℕ) → dated c ≡ all_day d → from_here room last (l ∷ ls) ps w xs ≡ from_here room last ls qs (record { start = w.start; stop = day d }) xs
            unfolding on_place by_name unless_said on_dated from_here
            stops d h = split ∙ rw (inside, e, new, h)

        -- ---- END:VEVENT
        module _ (e : n ≡ end) where
          pub no_start : w.start ≡ nothing → from_here room last (l ∷ ls) ps w xs ≡ refused_at_lem ICAL l.number
          unfolding on_place by_name closed_by gathered
          no_start h = split ∙ rw (inside, e, h)

          -- from the start up to the end that was said, or to the next day
          ends : (from to : ℕ) → ((rest : Course Event) → closed_by l.number w.start w.stop rest ≡ closed l.number from to rest) → from_here room last (l ∷ ls) ps w xs ≡ gathered room (closed l.number from to (events_from (nested_from last ls qs) blank)) xs
          unfolding on_place by_name
          ends from to h = split ∙ rw (inside, e) (ap (λ (k : Course Event). gathered room k xs) (h (events_from (nested_from last ls qs) blank)))

          module _ (from to : ℕ) (said : (rest : Course Event) → closed_by l.number w.start w.stop rest ≡ closed l.number from to rest) where
            pub not_after : ltb from to ≡ false → from_here room last (l ∷ ls) ps w xs ≡ refused_at_lem ICAL l.number
            unfolding closed need gathered
            not_after h = ends from to said ∙ rw h

            module _ (later : ltb from to ≡ true) where
              pub before_1800 : leb (CYCLE + 657072) from ≡ false → from_here room last (l ∷ ls) ps w xs ≡ refused_at_lem BOOK l.number
              unfolding closed need gathered
              before_1800 h = ends from to said ∙ rw (later, h)

              module _ (since : leb (CYCLE + 657072) from ≡ true) where
                pub behind_2399 : leb to (CYCLE + 876217) ≡ false → from_here room last (l ∷ ls) ps w xs ≡ refused_at_lem BOOK l.number
                unfolding closed need gathered
                behind_2399 h = ends from to said ∙ rw (later, since, h)

                module _ (until : leb to (CYCLE + 876217) ≡ true) where
                  pub no_room : fits room (with_event (record { first = from - CYCLE; past = to - CYCLE; line = l.number }) xs) ≡ false → from_here room last (l ∷ ls) ps w xs ≡ refused_at_lem (full room) l.number
                  unfolding closed need gathered on_days on_room
                  no_room h = ends from to said ∙ rw (later, since, until, h)

                  pub adds : fits room (with_event (record { first = from - CYCLE; past = to - CYCLE; line = l.number }) xs) ≡ true → from_here room last (l ∷ ls) ps w xs ≡ from_here room last ls qs blank (with_event (record { first = from - CYCLE; past = to - CYCLE; line = l.number }) xs)
                  unfolding closed need gathered on_days on_room from_here
                  adds h = ends from to said ∙ rw (later, since, until, h)

-- what the draft says of the end
pub said_both : (w : Draft) (line from to : ℕ) → w.start ≡ day from → w.stop ≡ day to → (rest : Course Event) → closed_by line w.start w.stop rest ≡ closed line from to rest
unfolding closed_by
said_both w line from to p q rest = rw (p, q)

pub said_start : (w : Draft) (line from : ℕ) → w.start ≡ day from → w.stop ≡ nothing → (rest : Course Event) → closed_by line w.start w.stop rest ≡ closed line from (from + 1) rest
unfolding closed_by
said_start w line from p q rest = rw (p, q)
