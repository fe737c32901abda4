-- Document 01, "IMM": which days are IMM dates, which bytes are codes, and what each function answers.
-- A date given lies in the book; dates passed on inside may lie beyond it, up to 2399.
-- Assumes nothing.
use Rattle.std.specs.Prelude.{ℕ, suc, ◌+◌, ◌-◌, ◌/◌, ◌%◌, Bool, true, false, ◌&&◌, ◌||◌, List, [], ◌∷◌, eqb, leb, ltb, get_or, length}
use Rattle.refusal.specs.Answer.{Answer, given, need, then, BOOK, CODE}
use Rattle.date.specs.Civil.{fields_of, weekday_of, pick_n}
use Rattle.date.specs.Date.{in_book, month_index, nth_weekday_of}
use Rattle.imm.specs.declared.codes.Code.{Code}

-- ---- IMM dates
unfoldable pub main_month : ℕ → Bool
main_month m = eqb m 3 || eqb m 6 || eqb m 9 || eqb m 12

-- every month, or those of the main cycle
unfoldable pub in_cycle : Bool → ℕ → Bool
in_cycle false m = true
in_cycle true m = main_month m

-- a Wednesday, day 15 to 21, of a month of the cycle
unfoldable pub is_imm_date : Bool → ℕ → Bool
is_imm_date main n = eqb (weekday_of n) 3 && leb 15 (fields_of n).day && leb (fields_of n).day 21 && in_cycle main (fields_of n).month

unfoldable pub is_imm_in : Bool → ℕ → Answer Bool
is_imm_in main n = need BOOK (in_book n) (given (is_imm_date main n))

-- the third Wednesday of a month, and of a month counted as 12 * year + month - 1
abbrev pub third_wednesday : ℕ → ℕ → Answer ℕ
third_wednesday m y = nth_weekday_of 3 3 m y

unfoldable pub third_of : ℕ → Answer ℕ
third_of t = third_wednesday (t % 12 + 1) (t / 12)

-- the day where the test holds, else the other answer
unfoldable pub or_else : Bool → ℕ → Answer ℕ → Answer ℕ
or_else true d a = given d
or_else false d a = a

-- the first month of the cycle from month t on, and how far the next one lies
unfoldable pub cycle_from : Bool → ℕ → ℕ
cycle_from false t = t
cycle_from true t = t + (2 - t % 3)

unfoldable pub stride : Bool → ℕ
stride false = 1
stride true = 3

-- the earliest IMM date after day n: that of the cycle's coming month, or of the one after it
unfoldable pub next_from : (main : Bool) (n t : ℕ) → Answer ℕ
next_from main n t = then (third_of t) (λ d. or_else (ltb n d) d (third_of (t + stride main)))

unfoldable pub next_of : Bool → ℕ → Answer ℕ
next_of main n = next_from main n (cycle_from main (month_index n))

unfoldable pub next_in : Bool → ℕ → Answer ℕ
next_in main n = need BOOK (in_book n) (next_of main n)

-- ---- codes: the letters of January to December, F G H J K M N Q U V X Z
unfoldable pub letters : List ℕ
letters = 70 ∷ 71 ∷ 72 ∷ 74 ∷ 75 ∷ 77 ∷ 78 ∷ 81 ∷ 85 ∷ 86 ∷ 88 ∷ 90 ∷ []

-- a small letter is read as its capital
unfoldable pub upper : ℕ → ℕ
upper b = pick_n (leb 97 b && leb b 122) (b - 32) b

-- where the byte stands in the list; the list's length if it stands nowhere
unfoldable pub place_in : ℕ → List ℕ → ℕ
place_in b [] = 0
place_in b (x ∷ xs) = pick_n (eqb x b) 0 (suc (place_in b xs))

-- the month whose letter it is, and 13 for other bytes
unfoldable pub month_of : ℕ → ℕ
month_of b = place_in (upper b) letters + 1

unfoldable pub is_digit : ℕ → Bool
is_digit b = leb 48 b && leb b 57

unfoldable pub is_pair : (main : Bool) (letter digit : ℕ) → Bool
is_pair main letter digit = leb (month_of letter) 12 && is_digit digit && in_cycle main (month_of letter)

-- two bytes: a month's letter, either case, and a digit
unfoldable pub is_code : Bool → List ℕ → Bool
is_code main s = eqb (length s) 2 && is_pair main (get_or s 0 0) (get_or s 1 0)

-- the month and the last digit of the year that a code names
unfoldable pub code_month : List ℕ → ℕ
code_month s = month_of (get_or s 0 0)

unfoldable pub code_digit : List ℕ → ℕ
code_digit s = get_or s 1 0 - 48

-- the code of a day's month and year
unfoldable pub code_of : ℕ → Code
code_of n = record { letter = get_or letters ((fields_of n).month - 1) 0; digit = (fields_of n).year % 10 + 48 }

unfoldable pub code_in : ℕ → Answer Code
code_in n = need BOOK (in_book n) (need CODE (is_imm_date false n) (given (code_of n)))

-- ---- the date of a code: the first year from y on with that last digit, or the one ten years later
unfoldable pub first_year : ℕ → ℕ → ℕ
first_year y g = y + (g + 10 - y % 10) % 10

unfoldable pub date_from : (m y n : ℕ) → Answer ℕ
date_from m y n = then (third_wednesday m y) (λ d. or_else (leb n d) d (third_wednesday m (y + 10)))

unfoldable pub date_of : (m g n : ℕ) → Answer ℕ
date_of m g n = date_from m (first_year (fields_of n).year g) n

unfoldable pub date_in : List ℕ → ℕ → Answer ℕ
date_in s n = need BOOK (in_book n) (need CODE (is_code false s) (date_of (code_month s) (code_digit s) n))

-- ---- on from there
unfoldable pub next_with_code : (s : List ℕ) (main : Bool) (n : ℕ) → Answer ℕ
next_with_code s main n = then (date_in s n) (next_of main)

unfoldable pub code_after : Answer ℕ → Answer Code
code_after a = then a (λ d. given (code_of d))

unfoldable pub next_code_in : Bool → ℕ → Answer Code
next_code_in main n = code_after (next_in main n)

unfoldable pub next_code_with_code : (s : List ℕ) (main : Bool) (n : ℕ) → Answer Code
next_code_with_code s main n = code_after (next_with_code s main n)
