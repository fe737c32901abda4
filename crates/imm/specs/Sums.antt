-- Document 01's sums on IMM dates and codes, ruling 5's, and bad input, as one list and one claim.
-- Assumes nothing.
use Rattle.std.specs.Prelude.{ℕ, ◌≡◌, refl, Bool, true, false, List, [], ◌∷◌}
use Rattle.refusal.specs.Answer.{Answer, given, refused, need, then, BOOK, CODE}
use Rattle.date.specs.Civil.{leap, row_of, month_length, gone, sum_to, day_number, guess, years_gone, month_in, day_in, place_of, fields_at, weekday_of, days_until}
use Rattle.date.specs.Date.{make_of, in_book, month_index, nth_weekday_of}
use Rattle.imm.specs.declared.codes.Code.{Code}
use Rattle.imm.specs.Imm.{main_month, in_cycle, is_imm_date, is_imm_in, third_of, or_else, cycle_from, stride, next_from, next_of, next_in, letters, upper, place_in, month_of, is_digit, is_pair, is_code, code_month, code_digit, code_of, code_in, first_year, date_from, date_of, date_in, next_with_code, code_after, next_code_in, next_code_with_code}

data Sum : Type 0 where
  says : Bool → Sum
  tells : Answer Bool → Sum
  day : Answer ℕ → Sum
  code : Answer Code → Sum

infix 5 ◌is◌
data Row : Type 0 where
  ◌is◌ : Sum → Sum → Row

on : {A : Type 0} → (ℕ → Answer A) → ℕ → ℕ → ℕ → Answer A
on f y m d = then (make_of y m d) f

abbrev H5 : List ℕ
H5 = 72 ∷ 53 ∷ []

abbrev h5 : List ℕ
h5 = 104 ∷ 53 ∷ []

abbrev F5 : List ℕ
F5 = 70 ∷ 53 ∷ []

rows : List Row
rows =
    (day (on (next_in false) 2025 3 18) is day (make_of 2025 3 19)) ∷
    (day (on (next_in false) 2025 3 19) is day (make_of 2025 4 16)) ∷
    (day (on (next_in true) 2025 3 19) is day (make_of 2025 6 18)) ∷
    (day (on (date_in H5) 2025 3 19) is day (make_of 2025 3 19)) ∷
    (day (on (date_in h5) 2025 3 19) is day (make_of 2025 3 19)) ∷
    (day (on (date_in H5) 2025 3 20) is day (make_of 2035 3 21)) ∷
    (code (on code_in 2025 12 17) is code (given (record { letter = 90; digit = 53 }))) ∷
    (day (on (next_with_code F5 true) 2025 1 1) is day (make_of 2025 3 19)) ∷
    (code (on (next_code_in true) 2025 9 17) is code (given (record { letter = 90; digit = 53 }))) ∷
    (code (on (next_code_with_code H5 false) 2025 3 20) is code (given (record { letter = 74; digit = 53 }))) ∷
    (code (on (next_code_with_code (90 ∷ 57 ∷ []) true) 2199 12 31) is code (given (record { letter = 72; digit = 48 }))) ∷
    (tells (on (is_imm_in true) 2025 3 19) is tells (given true)) ∷
    (tells (on (is_imm_in true) 2025 4 16) is tells (given false)) ∷
    (tells (on (is_imm_in false) 2025 4 16) is tells (given true)) ∷
    (says (is_code true h5) is says true) ∷
    (says (is_code true F5) is says false) ∷
    (says (is_code false F5) is says true) ∷
    (says (is_code false []) is says false) ∷
    (says (is_code false (72 ∷ [])) is says false) ∷
    (says (is_code false (72 ∷ 53 ∷ 32 ∷ [])) is says false) ∷
    (says (is_code false (195 ∷ 169 ∷ [])) is says false) ∷
    (says (is_code false (53 ∷ 72 ∷ [])) is says false) ∷
    (says (is_code false (65 ∷ 53 ∷ [])) is says false) ∷
    (says (is_code false (73 ∷ 53 ∷ [])) is says false) ∷
    (says (is_code false (79 ∷ 53 ∷ [])) is says false) ∷
    (says (is_code false (0 ∷ 53 ∷ [])) is says false) ∷
    (says (is_code false (255 ∷ 53 ∷ [])) is says false) ∷
    (says (is_code false (72 ∷ 0 ∷ [])) is says false) ∷
    (says (is_code false (72 ∷ 255 ∷ [])) is says false) ∷
    (day (on (date_in []) 2025 3 19) is day (refused CODE)) ∷
    (day (on (date_in (72 ∷ [])) 2025 3 19) is day (refused CODE)) ∷
    (day (on (date_in (72 ∷ 53 ∷ 32 ∷ [])) 2025 3 19) is day (refused CODE)) ∷
    (day (on (date_in (195 ∷ 169 ∷ [])) 2025 3 19) is day (refused CODE)) ∷
    (day (on (date_in (53 ∷ 72 ∷ [])) 2025 3 19) is day (refused CODE)) ∷
    (day (on (next_with_code (65 ∷ 53 ∷ []) false) 2025 3 19) is day (refused CODE)) ∷
    (code (on (next_code_with_code (0 ∷ 255 ∷ []) true) 2025 3 19) is code (refused CODE)) ∷
    (code (on code_in 2025 3 18) is code (refused CODE)) ∷
    (tells (is_imm_in false 0) is tells (refused BOOK)) ∷
    (day (date_in H5 0) is day (refused BOOK)) ∷
    (day (date_in [] 0) is day (refused BOOK)) ∷
    (day (next_in false 0) is day (refused BOOK)) ∷
    (day (next_in true 693960) is day (refused BOOK)) ∷
    (day (next_in true 803169) is day (refused BOOK)) ∷
    (day (next_with_code [] true 0) is day (refused BOOK)) ∷
    (code (code_in 0) is code (refused BOOK)) ∷
    (code (next_code_in false 803169) is code (refused BOOK)) ∷
    (code (next_code_with_code [] false 0) is code (refused BOOK)) ∷
    []

asked : List Row → List Sum
asked [] = []
asked ((a is b) ∷ rs) = a ∷ asked rs

answered : List Row → List Sum
answered [] = []
answered ((a is b) ∷ rs) = b ∷ answered rs

sums : asked rows ≡ answered rows
unfolding on rows asked answered need then leap row_of month_length gone sum_to day_number guess years_gone month_in day_in place_of fields_at weekday_of days_until make_of in_book month_index nth_weekday_of main_month in_cycle is_imm_date is_imm_in third_of or_else cycle_from stride next_from next_of next_in letters upper place_in month_of is_digit is_pair is_code code_month code_digit code_of code_in first_year date_from date_of date_in next_with_code code_after next_code_in next_code_with_code
sums = refl
