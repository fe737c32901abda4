-- Document 01's example and other texts, as one list and one claim: each computes to its bytes.
-- Assumes nothing.
use Rattle.std.specs.Prelude.{ℕ, ◌+◌, ◌≡◌, refl, List, [], ◌∷◌, ◌++◌}
use Rattle.date.specs.Civil.{leap, row_of, gone, guess, years_gone, month_in, day_in, place_of, fields_at}
use Rattle.printing.specs.Text.{spelled, decimal, date_text, mark, bracketed, first_line, later_line, later_lines, lines, header, schedule_text, refusal_text}

-- '2022-0', the digit of a month, '-01'
abbrev on : ℕ → List ℕ
on month = 50 ∷ 48 ∷ 50 ∷ 50 ∷ 45 ∷ 48 ∷ (48 + month) ∷ 45 ∷ 48 ∷ 49 ∷ []

-- a line feed, after nothing, after ' R' and after ' S'
abbrev line : List ℕ
line = 10 ∷ []

abbrev regular : List ℕ
regular = 32 ∷ 82 ∷ 10 ∷ []

abbrev irregular : List ℕ
irregular = 32 ∷ 83 ∷ 10 ∷ []

-- ' (2022-0', the digit of a month, '-01)'
abbrev beside : ℕ → List ℕ
beside month = (32 ∷ 40 ∷ []) ++ on month ++ (41 ∷ [])

-- ' dates, ' and ' tries'
abbrev header_of : ℕ → List ℕ → List ℕ
header_of count tries = ((48 + count) ∷ 32 ∷ 100 ∷ 97 ∷ 116 ∷ 101 ∷ 115 ∷ 44 ∷ 32 ∷ []) ++ tries ++ (32 ∷ 116 ∷ 114 ∷ 105 ∷ 101 ∷ 115 ∷ 10 ∷ [])

pub texts : List (List ℕ)
texts =
    -- 1 January to 1 June 2022
    schedule_text 6 (738156 ∷ 738187 ∷ 738215 ∷ 738246 ∷ 738276 ∷ 738307 ∷ []) (1 ∷ 1 ∷ 1 ∷ 1 ∷ 1 ∷ []) (738156 ∷ 738187 ∷ 738215 ∷ 738246 ∷ 738276 ∷ 738307 ∷ [])
    -- one date, and none
    ∷ schedule_text 1 (738156 ∷ []) [] (738156 ∷ [])
    ∷ schedule_text 0 [] [] []
    -- flag 0, flag 2, and a flag that is not there; 4,294,967,295 tries
    ∷ schedule_text 4294967295 (738156 ∷ 738187 ∷ 738215 ∷ 738246 ∷ []) (0 ∷ 2 ∷ []) []
    -- the two dates differ on the first line, on a regular and an irregular one; the last has no unadjusted date
    ∷ schedule_text 3 (738156 ∷ 738187 ∷ 738215 ∷ 738246 ∷ []) (1 ∷ 0 ∷ 1 ∷ []) (738187 ∷ 738156 ∷ 738246 ∷ [])
    ∷ refusal_text 2
    ∷ refusal_text 10
    ∷ refusal_text 17
    ∷ []

pub bytes : List (List ℕ)
bytes =
    (header_of 6 (54 ∷ []) ++ on 1 ++ line ++ on 2 ++ regular ++ on 3 ++ regular ++ on 4 ++ regular ++ on 5 ++ regular ++ on 6 ++ regular)
    ∷ (header_of 1 (49 ∷ []) ++ on 1 ++ line)
    ∷ header_of 0 (48 ∷ [])
    ∷ (header_of 4 (52 ∷ 50 ∷ 57 ∷ 52 ∷ 57 ∷ 54 ∷ 55 ∷ 50 ∷ 57 ∷ 53 ∷ []) ++ on 1 ++ line ++ on 2 ++ irregular ++ on 3 ++ irregular ++ on 4 ++ irregular)
    ∷ (header_of 4 (51 ∷ []) ++ on 1 ++ beside 2 ++ line ++ on 2 ++ (32 ∷ 82 ∷ []) ++ beside 1 ++ line ++ on 3 ++ (32 ∷ 83 ∷ []) ++ beside 4 ++ line ++ on 4 ++ regular)
    ∷ (114 ∷ 101 ∷ 102 ∷ 117 ∷ 115 ∷ 101 ∷ 100 ∷ 32 ∷ 50 ∷ 10 ∷ [])
    ∷ (114 ∷ 101 ∷ 102 ∷ 117 ∷ 115 ∷ 101 ∷ 100 ∷ 32 ∷ 49 ∷ 48 ∷ 10 ∷ [])
    ∷ (114 ∷ 101 ∷ 102 ∷ 117 ∷ 115 ∷ 101 ∷ 100 ∷ 32 ∷ 49 ∷ 55 ∷ 10 ∷ [])
    ∷ []

pub computed : texts ≡ bytes
unfolding texts bytes spelled decimal date_text mark bracketed first_line later_line later_lines lines header schedule_text refusal_text leap row_of gone guess years_gone month_in day_in place_of fields_at
computed = refl
