-- How long the texts are, and that 106,519 bytes hold the text of 4,096 dates.
-- Assumes nothing.
use Rattle.std.specs.Prelude.{ℕ, zero, suc, ◌+◌, ◌-◌, ◌*◌, ◌/◌, ◌%◌, ◌^◌, ◌≤◌, ◌<◌, ◌≡◌, refl, Bool, true, false, List, [], ◌∷◌, ◌++◌, eqb, ltb, length, drop, get_or}
use Rattle.std.proofs.Common.{◌∙◌, pow-suc, div-lt_iff_lt-mul, arith, length-append, ltb-false}
use Rattle.printing.specs.Text.{pick, digit, spelled, decimal, mark, date_text, bracketed, first_line, later_line, later_lines, lines, header, schedule_text, refusal_text, DATES, TRIES, REFUSED, SPACE, LEFT, RIGHT, LINE}
use Rattle.printing.specs.Put.{differs, differing}

-- ---- lines: thirteen bytes for a date, and as many for brackets
pub bracketed_length : (paid unadjusted : ℕ) → length (bracketed paid unadjusted) ≡ 13 * differs paid unadjusted
unfolding bracketed differs date_text
bracketed_length paid unadjusted = by (eqb paid unadjusted)
  where
    by : (b : Bool) → length (pick b [] ((SPACE ∷ LEFT ∷ []) ++ date_text unadjusted ++ (RIGHT ∷ []))) ≡ 13 * pick {A = ℕ} b 0 1
    by true = refl
    by false = refl

pub date_length : (day : ℕ) → length (date_text day) ≡ 10
unfolding date_text
date_length day = refl

pub later_length : (paid letter unadjusted : ℕ) → length (later_line paid letter unadjusted) ≡ 13 + 13 * differs paid unadjusted
unfolding later_line
later_length paid letter unadjusted =
    length-append (date_text paid ++ (SPACE ∷ letter ∷ []) ++ bracketed paid unadjusted) (LINE ∷ [])
    ∙ omega (arith, length-append (date_text paid ++ (SPACE ∷ letter ∷ [])) (bracketed paid unadjusted), length-append (date_text paid) (SPACE ∷ letter ∷ []), date_length paid, bracketed_length paid unadjusted)

pub first_length : (paid unadjusted : ℕ) → length (first_line paid unadjusted) ≡ 11 + 13 * differs paid unadjusted
unfolding first_line
first_length paid unadjusted =
    length-append (date_text paid ++ bracketed paid unadjusted) (LINE ∷ [])
    ∙ omega (arith, length-append (date_text paid) (bracketed paid unadjusted), date_length paid, bracketed_length paid unadjusted)

pub laters_length : (dates flags unadjusted : List ℕ) → length (later_lines dates flags unadjusted) ≡ 13 * (length dates + differing dates unadjusted)
unfolding later_lines differing
laters_length [] flags unadjusted = refl
laters_length (day ∷ days) flags unadjusted =
    length-append (later_line day (mark (get_or flags 0 0)) (get_or unadjusted 0 day)) (later_lines days (drop 1 flags) (drop 1 unadjusted))
    ∙ omega (arith, later_length day (mark (get_or flags 0 0)) (get_or unadjusted 0 day), laters_length days (drop 1 flags) (drop 1 unadjusted))

pub lines_length : (dates flags unadjusted : List ℕ) → length (lines dates flags unadjusted) ≡ 13 * (length dates + differing dates unadjusted) - 2
unfolding lines differing
lines_length [] flags unadjusted = refl
lines_length (day ∷ days) flags unadjusted =
    length-append (first_line day (get_or unadjusted 0 day)) (later_lines days flags (drop 1 unadjusted))
    ∙ omega (arith, first_length day (get_or unadjusted 0 day), laters_length days flags (drop 1 unadjusted))

pub header_length : (count tries : ℕ) → length (header count tries) ≡ length (decimal count) + length (decimal tries) + 15
unfolding header
header_length count tries =
    length-append (decimal count ++ DATES ++ decimal tries) TRIES
    ∙ omega (arith, length-append (decimal count ++ DATES) (decimal tries), length-append (decimal count) DATES)

pub refusal_length : (n : ℕ) → length (refusal_text n) ≡ length (decimal n) + 9
unfolding refusal_text
refusal_length n = length-append (REFUSED ++ decimal n) (LINE ∷ []) ∙ omega (arith, length-append REFUSED (decimal n))

pub schedule_length : (tries : ℕ) (dates flags unadjusted : List ℕ) → length (schedule_text tries dates flags unadjusted) ≡ length (decimal (length dates)) + length (decimal tries) + 15 + (13 * (length dates + differing dates unadjusted) - 2)
unfolding schedule_text
schedule_length tries dates flags unadjusted =
    length-append (header (length dates) tries) (lines dates flags unadjusted)
    ∙ omega (arith, header_length (length dates) tries, lines_length dates flags unadjusted)

-- ---- room
pick_short : (b : Bool) (x y : List ℕ) (n : ℕ) → length x ≤ n → (b ≡ false → length y ≤ n) → length (pick b x y) ≤ n
pick_short true x y n p q = p
pick_short false x y n p q = q refl

-- no number has more than 20 digits
spelled_within : (k n : ℕ) (after : List ℕ) → length (spelled k n after) ≤ k + length after
unfolding spelled
spelled_within zero n after = omega arith
spelled_within (suc k) n after =
    pick_short (ltb n 10) (digit n ∷ after) (spelled k (n / 10) (digit (n % 10) ∷ after)) (suc k + length after)
    (omega arith)
    (λ _. omega (arith, spelled_within k (n / 10) (digit (n % 10) ∷ after)))

-- one below 10 ^ k has k digits at most
a_digit_less : (k n : ℕ) → n < 10 ^ k → 10 ≤ n → (j : ℕ) × (k ≡ suc (suc j)) × (n / 10 < 10 ^ suc j)
a_digit_less zero n l h = let bad : ⊥ = omega arith in absurd bad
a_digit_less (suc zero) n l h = let bad : ⊥ = omega arith in absurd bad
a_digit_less (suc (suc j)) n l h = (j, refl, (div-lt_iff_lt-mul {k = 10} (omega arith)).1 (rw (pow-suc 10 (suc j)) at l))

spelled_short : (f k n : ℕ) (after : List ℕ) → 1 ≤ k → n < 10 ^ k → length (spelled f n after) ≤ k + length after
unfolding spelled
spelled_short zero k n after h l = omega arith
spelled_short (suc f) k n after h l =
    pick_short (ltb n 10) (digit n ∷ after) (spelled f (n / 10) (digit (n % 10) ∷ after)) (k + length after)
    (omega arith)
    (λ e.
    let m = a_digit_less k n l (ltb-false n 10 e) in
    omega (arith, m.1, spelled_short f (suc m.0) (n / 10) (digit (n % 10) ∷ after) (omega arith) m.2))

pub decimal_short : (k n : ℕ) → 1 ≤ k → n < 10 ^ k → length (decimal n) ≤ k
unfolding decimal
decimal_short k n h l = omega (arith, spelled_short 20 k n [] h l)

differs_once : (paid unadjusted : ℕ) → differs paid unadjusted ≤ 1
unfolding differs
differs_once paid unadjusted = by (eqb paid unadjusted)
  where
    by : (b : Bool) → pick {A = ℕ} b 0 1 ≤ 1
    by true = omega arith
    by false = omega arith

pub differing_most : (dates unadjusted : List ℕ) → differing dates unadjusted ≤ length dates
unfolding differing
differing_most [] unadjusted = omega arith
differing_most (day ∷ days) unadjusted = omega (arith, differs_once day (get_or unadjusted 0 day), differing_most days (drop 1 unadjusted))

-- a header of 25 bytes, a first line of 24 and 4,095 lines of 26
pub schedule_fits : (tries : ℕ) (dates flags unadjusted : List ℕ) → length dates ≤ 4096 → tries < 1000000 → length (schedule_text tries dates flags unadjusted) ≤ 106519
schedule_fits tries dates flags unadjusted h t =
    omega (arith, schedule_length tries dates flags unadjusted, decimal_short 4 (length dates) (omega arith) (omega arith), decimal_short 6 tries (omega arith) (omega arith), differing_most dates unadjusted)

pub refusal_fits : (n : ℕ) → length (refusal_text n) ≤ 106519
unfolding decimal
refusal_fits n = omega (arith, refusal_length n, spelled_within 20 n [])
