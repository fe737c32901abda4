-- Document 01, "Request bytes and the program", with request L7: what is printed, as a list of bytes.
-- Assumes nothing.
use Rattle.std.specs.Prelude.{ℕ, zero, suc, ◌+◌, ◌/◌, ◌%◌, Bool, true, false, List, [], ◌∷◌, ◌++◌, eqb, ltb, length, get_or, drop}
use Rattle.date.specs.Civil.{fields_of}

abbrev pub pick : {A : Type 0} → Bool → A → A → A
pick true a b = a
pick false a b = b

-- ---- bytes: a space, a hyphen, the two brackets, a line feed, R and S, a digit
abbrev pub SPACE : ℕ
SPACE = 32

abbrev pub HYPHEN : ℕ
HYPHEN = 45

abbrev pub LEFT : ℕ
LEFT = 40

abbrev pub RIGHT : ℕ
RIGHT = 41

abbrev pub LINE : ℕ
LINE = 10

abbrev pub R : ℕ
R = 82

abbrev pub S : ℕ
S = 83

abbrev pub digit : ℕ → ℕ
digit d = 48 + d

-- ---- words
-- ' dates, '
abbrev pub DATES : List ℕ
DATES = 32 ∷ 100 ∷ 97 ∷ 116 ∷ 101 ∷ 115 ∷ 44 ∷ 32 ∷ []

-- ' tries', and a line feed
abbrev pub TRIES : List ℕ
TRIES = 32 ∷ 116 ∷ 114 ∷ 105 ∷ 101 ∷ 115 ∷ LINE ∷ []

-- 'refused '
abbrev pub REFUSED : List ℕ
REFUSED = 114 ∷ 101 ∷ 102 ∷ 117 ∷ 115 ∷ 101 ∷ 100 ∷ 32 ∷ []

-- ---- numbers
-- the digits of n in front of others, at most so many: the last one, after those of n / 10 if there are any
unfoldable pub spelled : ℕ → (n : ℕ) (after : List ℕ) → List ℕ
spelled zero n after = after
spelled (suc k) n after = pick (ltb n 10) (digit n ∷ after) (spelled k (n / 10) (digit (n % 10) ∷ after))

-- a number of 64 bits has 20 digits at most
unfoldable pub decimal : ℕ → List ℕ
decimal n = spelled 20 n []

-- the last two digits of n
abbrev pub two_digits : ℕ → List ℕ
two_digits n = digit (n / 10 % 10) ∷ digit (n % 10) ∷ []

-- ---- lines
-- YYYY-MM-DD, with the last four digits of the year
unfoldable pub date_text : ℕ → List ℕ
date_text n =
    two_digits ((fields_of n).year / 100)
    ++ two_digits (fields_of n).year
    ++ (HYPHEN ∷ [])
    ++ two_digits (fields_of n).month
    ++ (HYPHEN ∷ [])
    ++ two_digits (fields_of n).day

-- flag 1 is a regular period
unfoldable pub mark : ℕ → ℕ
mark flag = pick (eqb flag 1) R S

-- where the two dates of an entry differ: a space, and the unadjusted one in brackets
unfoldable pub bracketed : (paid unadjusted : ℕ) → List ℕ
bracketed paid unadjusted = pick (eqb paid unadjusted) [] ((SPACE ∷ LEFT ∷ []) ++ date_text unadjusted ++ (RIGHT ∷ []))

unfoldable pub first_line : (paid unadjusted : ℕ) → List ℕ
first_line paid unadjusted = date_text paid ++ bracketed paid unadjusted ++ (LINE ∷ [])

unfoldable pub later_line : (paid letter unadjusted : ℕ) → List ℕ
later_line paid letter unadjusted = date_text paid ++ (SPACE ∷ letter ∷ []) ++ bracketed paid unadjusted ++ (LINE ∷ [])

-- a line for each date, with the flag of the period that ends there; a flag that is not there counts as 0, an unadjusted date that is not there
-- as equal to the paid one
unfoldable pub later_lines : (dates flags unadjusted : List ℕ) → List ℕ
later_lines [] flags unadjusted = []
later_lines (day ∷ days) flags unadjusted =
    later_line day (mark (get_or flags 0 0)) (get_or unadjusted 0 day) ++ later_lines days (drop 1 flags) (drop 1 unadjusted)

unfoldable pub lines : (dates flags unadjusted : List ℕ) → List ℕ
lines [] flags unadjusted = []
lines (day ∷ days) flags unadjusted = first_line day (get_or unadjusted 0 day) ++ later_lines days flags (drop 1 unadjusted)

unfoldable pub header : ℕ → ℕ → List ℕ
header count tries = decimal count ++ DATES ++ decimal tries ++ TRIES

-- ---- what is printed of a schedule, and of a refusal
unfoldable pub schedule_text : (tries : ℕ) (dates flags unadjusted : List ℕ) → List ℕ
schedule_text tries dates flags unadjusted = header (length dates) tries ++ lines dates flags unadjusted

unfoldable pub refusal_text : ℕ → List ℕ
refusal_text number = REFUSED ++ decimal number ++ (LINE ∷ [])
