-- What the functions of dates and codes answer, said by its meaning: on a date of the book and a code there is an answer,
-- and it is the only one; and a code of an IMM date names it again.
-- Assumes nothing.
use Rattle.std.specs.Prelude.{ℕ, ◌-◌, ◌%◌, ◌≤◌, ◌<◌, ◌≡◌, refl, Bool, true, false, List, [], ◌∷◌}
use Rattle.std.proofs.Common.{ap, sym, ◌∙◌, arith}
use Rattle.refusal.specs.Answer.{given, refused, BOOK, CODE}
use Rattle.refusal.specs.Laws.Answers.{fails, holds, then_given}
use Rattle.date.specs.Civil.{fields_of}
use Rattle.date.specs.Date.{in_book}
use Rattle.date.specs.Laws.Round.{fields_valid}
use Rattle.date.specs.Laws.Moves.{book_from}
use Rattle.imm.specs.declared.codes.Code.{Code}
use Rattle.imm.specs.Imm.{in_cycle, is_imm_date, is_code, code_month, code_digit, code_of, date_in, next_of, next_in, next_with_code, code_after, next_code_in, next_code_with_code}
use Rattle.imm.specs.Laws.Order.{book_years, year_le}
use Rattle.imm.specs.Laws.Next.{Next, next_is, next_given, book_next}
use Rattle.imm.specs.Laws.Named.{Named, one_named, date_is, date_given, date_near}
use Rattle.imm.specs.Laws.Codes.{IsCode, capital, small, code_passes, passes_code, letter_month, small_month}

-- the bytes of a code that is an answer
unfoldable pub bytes : Code → List ℕ
bytes c = c.letter ∷ c.digit ∷ []

-- ---- what a code names is a month and a digit
pub record Names (s : List ℕ) : Type 0 where
  pub month : 1 ≤ code_month s
  pub twelve : code_month s ≤ 12
  pub digit : code_digit s < 10

names_go : (main : Bool) (s : List ℕ) → IsCode main s → Names s
unfolding code_month code_digit
names_go main s (capital k g h i c) =
    let e = letter_month k h in record { month = omega arith; twelve = omega arith; digit = omega arith }
names_go main s (small k g h i c) =
    let e = small_month k h in record { month = omega arith; twelve = omega arith; digit = omega arith }

pub names : (main : Bool) (s : List ℕ) → is_code main s ≡ true → Names s
names main s e = names_go main s (passes_code main s e)

-- ---- `date`: on a date of the book and a code, the earliest on or after it
pub book_date : (s : List ℕ) (n : ℕ) → in_book n ≡ true → is_code false s ≡ true → (d : ℕ) × ((date_in s n ≡ given d) × (Named (code_month s) (code_digit s) n d) × ((fields_of d).year ≤ 2218))
unfolding date_in
book_date s n h e =
    let y = book_years n h in
    let a = names false s e in
    let g = date_given (code_month s) (code_digit s) n a.month a.twelve (omega arith) (omega arith) in (
      g.0,
      (
        sym (holds BOOK (in_book n) _ _ h (holds CODE (is_code false s) _ _ e (sym g.1))),
        date_is (code_month s) (code_digit s) n g.0 (omega (arith, book_from n h)) a.digit g.1,
        omega (arith, date_near (code_month s) (code_digit s) n g.0 g.1),
      ),
    )

-- refusal 2 comes before 16, and each is given only when its row holds
pub date_outside : (s : List ℕ) (n : ℕ) → in_book n ≡ false → date_in s n ≡ refused BOOK
unfolding date_in
date_outside s n h = sym (fails BOOK (in_book n) _ h)

pub date_no_code : (s : List ℕ) (n : ℕ) → in_book n ≡ true → is_code false s ≡ false → date_in s n ≡ refused CODE
unfolding date_in
date_no_code s n h e = sym (holds BOOK (in_book n) _ _ h (fails CODE (is_code false s) _ e))

-- ---- the with-code functions look on from there
pub book_with_code : (s : List ℕ) (main : Bool) (n : ℕ) → in_book n ≡ true → is_code false s ≡ true → (d : ℕ) × ((e : ℕ) × ((next_with_code s main n ≡ given e) × (Named (code_month s) (code_digit s) n d) × (Next main d e)))
unfolding next_with_code
book_with_code s main n h i =
    let p = book_date s n h i in
    let d = p.0 in
    let y = book_years n h in
    let low : 1 ≤ d = omega (arith, book_from n h, p.1.1.from) in
    let from = year_le n d (omega (arith, book_from n h)) p.1.1.from in
    let g = next_given main d (omega arith) (omega (arith, p.1.2)) in
    (d, (g.0, (sym (then_given (date_in s n) d (next_of main) _ p.1.0 (sym g.1)), p.1.1, next_is main d g.0 low g.1)))

-- ---- codes that are answers are those of IMM dates
pub book_next_code : (main : Bool) (n : ℕ) → in_book n ≡ true → (d : ℕ) × ((next_code_in main n ≡ given (code_of d)) × Next main n d)
unfolding next_code_in code_after
book_next_code main n h =
    let p = book_next main n h in
    (p.0, (sym (then_given (next_in main n) p.0 _ _ p.1.0 refl), p.1.1))

pub book_next_code_with_code : (s : List ℕ) (main : Bool) (n : ℕ) → in_book n ≡ true → is_code false s ≡ true → (d : ℕ) × ((e : ℕ) × ((next_code_with_code s main n ≡ given (code_of e)) × (Named (code_month s) (code_digit s) n d) × (Next main d e)))
unfolding next_code_with_code code_after
book_next_code_with_code s main n h i =
    let p = book_with_code s main n h i in
    let q = p.1 in
    (p.0, (q.0, (sym (then_given (next_with_code s main n) q.0 _ _ q.1.0 refl), q.1.1, q.1.2)))

-- ---- the code of an IMM date names it again
code_is : (n : ℕ) → IsCode false (bytes (code_of n))
unfolding bytes code_of in_cycle
code_is n = let v = fields_valid n in capital ((fields_of n).month - 1) ((fields_of n).year % 10) (omega arith) (omega arith) refl

itself : (n : ℕ) → is_imm_date false n ≡ true → Named (fields_of n).month ((fields_of n).year % 10) n n
itself n i = record { imm = i; month = refl; digit = refl; from = omega arith; least = λ e a b c h. h }

code_month_is : (n : ℕ) → code_month (bytes (code_of n)) ≡ (fields_of n).month
unfolding code_month bytes code_of
code_month_is n = let v = fields_valid n in omega (arith, letter_month ((fields_of n).month - 1) (omega arith))

code_digit_is : (n : ℕ) → code_digit (bytes (code_of n)) ≡ (fields_of n).year % 10
unfolding code_digit bytes code_of
code_digit_is n = omega arith

pub date_of_code : (n : ℕ) → in_book n ≡ true → is_imm_date false n ≡ true → date_in (bytes (code_of n)) n ≡ given n
date_of_code n h i =
    let p = book_date (bytes (code_of n)) n h (code_passes false _ (code_is n)) in
    let q : Named (fields_of n).month ((fields_of n).year % 10) n p.0 = rw (code_month_is n, code_digit_is n) at p.1.1 in
    p.1.0 ∙ ap given (one_named _ _ n p.0 n q (itself n i))
