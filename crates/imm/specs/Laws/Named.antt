-- The date that a code names is one of that month and digit, on or after the reference, and none lies between.
-- Assumes nothing.
use Rattle.std.specs.Prelude.{ℕ, ◌+◌, ◌-◌, ◌%◌, ◌≤◌, ◌<◌, ◌≡◌, Bool, true, leb, ltb}
use Rattle.std.proofs.Math.Path.{refl}
use Rattle.std.proofs.Common.{ap, sym, ◌∙◌, arith, le_antisymm, leb-true, leb-false, ltb-true, ltb-false, le-leb}
use Rattle.std.proofs.Math.Bool.{false}
use Rattle.std.proofs.lemmas.Bool.{lt-leb}
use Rattle.refusal.specs.Answer.{given}
use Rattle.refusal.specs.Laws.Answers.{then_given}
use Rattle.date.specs.Civil.{fields_of}
use Rattle.date.specs.Date.{in_book}
use Rattle.date.specs.Laws.Round.{fields_valid}
use Rattle.date.specs.Laws.Moves.{book_from}
use Rattle.imm.specs.Imm.{in_cycle, is_imm_date, third_wednesday, or_else, first_year, date_from, date_of}
use Rattle.imm.specs.Laws.Order.{then_gives, later_month, year_le, book_years}
use Rattle.imm.specs.Laws.Next.{or_given}
use Rattle.imm.specs.Laws.Third.{imm_parts, imm_positive, third, third_day, third_valid, third_fields, third_imm, imm_third, third_given, third_is}

pub record Named (m g n d : ℕ) : Type 0 where
  pub imm : is_imm_date false d ≡ true
  pub month : (fields_of d).month ≡ m
  pub digit : (fields_of d).year % 10 ≡ g
  pub from : n ≤ d
  pub least : (e : ℕ) → is_imm_date false e ≡ true → (fields_of e).month ≡ m → (fields_of e).year % 10 ≡ g → n ≤ e → d ≤ e

pub one_named : (m g n d d' : ℕ) → Named m g n d → Named m g n d' → d ≡ d'
one_named m g n d d' p q =
    le_antisymm (p.least d' q.imm q.month q.digit q.from) (q.least d p.imm p.month p.digit p.from)

-- the third Wednesdays of one month follow the years
later_third : (m y z : ℕ) → 1 ≤ y → 1 ≤ m → m ≤ 12 → y < z → third y m < third z m
unfolding third
later_third m y z a b e h =
    later_month y m (third_day y m) z m (third_day z m) (third_valid y m a b e) (third_valid z m (omega arith) b e) (omega arith)

third_le_go : (m y z : ℕ) (t : Bool) → ltb y z ≡ t → 1 ≤ y → 1 ≤ m → m ≤ 12 → y ≤ z → third y m ≤ third z m
third_le_go m y z true i a b e h = omega (arith, later_third m y z a b e (ltb-true y z i))
third_le_go m y z false i a b e h = let q : y ≡ z = omega (arith, ltb-false y z i) in rw q (omega arith)

third_le : (m y z : ℕ) → 1 ≤ y → 1 ≤ m → m ≤ 12 → y ≤ z → third y m ≤ third z m
third_le m y z a b e h = third_le_go m y z (ltb y z) refl a b e h

-- the first year has the digit, is no earlier, and is the first
pub year_digit : (y g : ℕ) → g < 10 → first_year y g % 10 ≡ g
unfolding first_year
year_digit y g h = omega arith

pub year_from : (y g : ℕ) → (y ≤ first_year y g) × (first_year y g < y + 10)
unfolding first_year
year_from y g = (omega arith, omega arith)

pub year_least : (y g z : ℕ) → g < 10 → z % 10 ≡ g → y ≤ z → first_year y g ≤ z
year_least y g z h e i = omega (arith, year_digit y g h, (year_from y g).0, (year_from y g).1)

module _ (m g n z : ℕ) (p : 1 ≤ n) (b : 1 ≤ m) (e : m ≤ 12) (dig : z % 10 ≡ g) (low : 1 ≤ z) where
  is_imm : is_imm_date false (third z m) ≡ true
  unfolding in_cycle
  is_imm = third_imm false z m low b e refl

  is_month : (fields_of (third z m)).month ≡ m
  is_month = rw (third_fields z m low b e) refl

  is_digit : (fields_of (third z m)).year % 10 ≡ g
  is_digit = rw (third_fields z m low b e) dig

  -- an IMM date of that month, in year z or later, is no earlier
  no_earlier : (x : ℕ) → is_imm_date false x ≡ true → (fields_of x).month ≡ m → z ≤ (fields_of x).year → third z m ≤ x
  no_earlier x i q h =
      let w : x ≡ third (fields_of x).year m = imm_third false x i ∙ ap (λ (k : ℕ). third (fields_of x).year k) q in
      omega (arith, third_le m z (fields_of x).year low b e h)

module _ (m g n : ℕ) (p : 1 ≤ n) (b : 1 ≤ m) (e : m ≤ 12) (h : g < 10) where
  abbrev now : ℕ
  now = first_year (fields_of n).year g

  now_low : 1 ≤ now
  now_low = omega (arith, (fields_valid n).year, (year_from (fields_of n).year g).0)

  now_digit : now % 10 ≡ g
  now_digit = year_digit (fields_of n).year g h

  named_first : n ≤ third now m → Named m g n (third now m)
  named_first l =
      record {
        imm = is_imm m g n now p b e now_digit now_low;
        month = is_month m g n now p b e now_digit now_low;
        digit = is_digit m g n now p b e now_digit now_low;
        from = l;
        least = λ x i q r k. no_earlier m g n now p b e now_digit now_low x i q (year_least (fields_of n).year g _ h r (year_le n x p k));
      }

  ten_digit : (now + 10) % 10 ≡ g
  ten_digit = omega (arith, now_digit)

  after_decade : n ≤ third (now + 10) m
  after_decade =
      let f : (fields_of (third (now + 10) m)).year ≡ now + 10 = rw (third_fields (now + 10) m (omega arith) b e) refl in
      let one : 1 ≤ third (now + 10) m = imm_positive false _ (imm_parts false _ (is_imm m g n (now + 10) p b e ten_digit (omega arith))) in
      let no : ¬ (third (now + 10) m < n) = λ l. omega (arith, f, year_le (third (now + 10) m) n one (omega arith), (year_from (fields_of n).year g).0) in
      omega arith

  -- where the first year's date lies before the reference, the next year with that digit is ten years on
  decade_least : third now m < n → (x : ℕ) → is_imm_date false x ≡ true → (fields_of x).month ≡ m → (fields_of x).year % 10 ≡ g → n ≤ x → now + 10 ≤ (fields_of x).year
  decade_least l x i q r k =
      let w : x ≡ third (fields_of x).year m = imm_third false x i ∙ ap (λ (j : ℕ). third (fields_of x).year j) q in
      let no : ¬ ((fields_of x).year ≡ now) = λ z. omega (arith, w ∙ ap (λ (j : ℕ). third j m) z) in
      let from = year_least (fields_of n).year g (fields_of x).year h r (year_le n x p k) in
      omega (arith, now_digit)

  named_decade : third now m < n → Named m g n (third (now + 10) m)
  named_decade l =
      record {
        imm = is_imm m g n (now + 10) p b e ten_digit (omega arith);
        month = is_month m g n (now + 10) p b e ten_digit (omega arith);
        digit = is_digit m g n (now + 10) p b e ten_digit (omega arith);
        from = after_decade;
        least = λ x i q r k. no_earlier m g n (now + 10) p b e ten_digit (omega arith) x i q (decade_least l x i q r k);
      }

-- ---- the meaning of `date_of`
date_go : (m g n d f : ℕ) (t : Bool) → 1 ≤ n → g < 10 → leb n f ≡ t → third_wednesday m (first_year (fields_of n).year g) ≡ given f → or_else t f (third_wednesday m (first_year (fields_of n).year g + 10)) ≡ given d → Named m g n d
unfolding or_else
date_go m g n d f true p h e k j =
    let q : f ≡ d = cc in
    let x = third_is (first_year (fields_of n).year g) m f k in
    rw (← q, x.day) (named_first m g n p x.month x.twelve h (rw x.day at (leb-true n f e)))
date_go m g n d f false p h e k j =
    let x = third_is (first_year (fields_of n).year g) m f k in
    let y = third_is (first_year (fields_of n).year g + 10) m d j in
    rw y.day (named_decade m g n p x.month x.twelve h (rw x.day at (leb-false n f e)))

pub date_is : (m g n d : ℕ) → 1 ≤ n → g < 10 → date_of m g n ≡ given d → Named m g n d
unfolding date_of date_from
date_is m g n d p h k =
    let q = then_gives (third_wednesday m (first_year (fields_of n).year g)) _ d k in
    date_go m g n d q.0 (leb n q.0) p h refl q.1.0 q.1.1

-- ---- from 1800 to 2380 each month and digit has an answer
pub date_given : (m g n : ℕ) → 1 ≤ m → m ≤ 12 → 1800 ≤ (fields_of n).year → (fields_of n).year ≤ 2380 → (d : ℕ) × (date_of m g n ≡ given d)
unfolding date_of date_from
date_given m g n b e lo hi =
    let z = first_year (fields_of n).year g in
    let r = year_from (fields_of n).year g in
    let first = third_given z m (omega arith) (omega arith) b e in
    let o = or_given (leb n (third z m)) (third z m) _ _ (third_given (z + 10) m (omega arith) (omega arith) b e) in
    (o.0, sym (then_given (third_wednesday m z) (third z m) _ _ (sym first) (sym o.1)))

-- the answer lies at most nineteen years on
near_go : (m z d f : ℕ) (t : Bool) → third_wednesday m z ≡ given f → or_else t f (third_wednesday m (z + 10)) ≡ given d → (fields_of d).year ≤ z + 10
unfolding or_else
near_go m z d f true k j =
    let q : d ≡ f = cc in
    let x = third_is z m f k in
    let w : (fields_of d).year ≡ z = rw (q, x.day, third_fields z m (omega (arith, x.from_1800)) x.month x.twelve) refl in
    omega arith
near_go m z d f false k j =
    let x = third_is (z + 10) m d j in
    let w : (fields_of d).year ≡ z + 10 = rw (x.day, third_fields (z + 10) m (omega arith) x.month x.twelve) refl in
    omega arith

pub date_near : (m g n d : ℕ) → date_of m g n ≡ given d → (fields_of d).year ≤ (fields_of n).year + 19
unfolding date_of date_from
date_near m g n d h =
    let q = then_gives (third_wednesday m (first_year (fields_of n).year g)) _ d h in
    omega (arith, near_go m (first_year (fields_of n).year g) d q.0 (leb n q.0) q.1.0 q.1.1, (year_from (fields_of n).year g).1)

-- ---- the Rust starts from the year of the reference's decade, and for digit 0 up to 1909 from ten years on:
-- in the book both starts lead to the same date, and the definition above needs no such case
unfoldable pub decade_year : ℕ → ℕ → ℕ
decade_year y g = y - y % 10 + g

from_first : (m z n : ℕ) → 1800 ≤ z → z ≤ 2399 → 1 ≤ m → m ≤ 12 → n ≤ third z m → date_from m z n ≡ given (third z m)
unfolding date_from or_else
from_first m z n lo hi b e h =
    sym (then_given (third_wednesday m z) (third z m) _ _ (sym (third_given z m lo hi b e)) (simp (le-leb n (third z m) h)))

from_decade : (m z n : ℕ) → 1800 ≤ z → z ≤ 2389 → 1 ≤ m → m ≤ 12 → third z m < n → date_from m z n ≡ given (third (z + 10) m)
unfolding date_from or_else
from_decade m z n lo hi b e h =
    sym (then_given (third_wednesday m z) (third z m) _ _ (sym (third_given z m lo (omega arith) b e))
    (simp (lt-leb n (third z m) h) (third_given (z + 10) m (omega arith) (omega arith) b e)))

before_year : (m z n : ℕ) → 1 ≤ z → 1 ≤ m → m ≤ 12 → 1 ≤ n → z < (fields_of n).year → third z m < n
before_year m z n a b e p h =
    let f : (fields_of (third z m)).year ≡ z = rw (third_fields z m a b e) refl in
    let no : ¬ (n ≤ third z m) = λ l. omega (arith, f, year_le n (third z m) p l) in
    omega arith

after_year : (m z n : ℕ) → 1 ≤ z → 1 ≤ m → m ≤ 12 → (fields_of n).year < z → n ≤ third z m
unfolding in_cycle
after_year m z n a b e h =
    let f : (fields_of (third z m)).year ≡ z = rw (third_fields z m a b e) refl in
    let one : 1 ≤ third z m = imm_positive false _ (imm_parts false _ (third_imm false z m a b e refl)) in
    let no : ¬ (third z m < n) = λ l. omega (arith, f, year_le (third z m) n one (omega arith)) in
    omega arith

pub digit_0 : (m n : ℕ) → 1 ≤ m → m ≤ 12 → in_book n ≡ true → (fields_of n).year ≤ 1909 → date_from m (decade_year (fields_of n).year 0) n ≡ date_from m (decade_year (fields_of n).year 10) n
unfolding decade_year
digit_0 m n b e i h =
    let lo = (book_years n i).0 in
    let p : 1 ≤ n = omega (arith, book_from n i) in
    let old : (fields_of n).year - (fields_of n).year % 10 + 0 ≡ 1900 = omega arith in
    let new : (fields_of n).year - (fields_of n).year % 10 + 10 ≡ 1910 = omega arith in
    rw (old, new)
    (from_decade m 1900 n (omega arith) (omega arith) b e (before_year m 1900 n (omega arith) b e p (omega arith))
    ∙ sym (from_first m 1910 n (omega arith) (omega arith) b e (after_year m 1910 n (omega arith) b e (omega arith))))

-- and the start at the decade's year leads where the first year with that digit does
decade_go : (m g n : ℕ) (t : Bool) → ltb (decade_year (fields_of n).year g) (fields_of n).year ≡ t → g < 10 → 1 ≤ m → m ≤ 12 → in_book n ≡ true → date_from m (decade_year (fields_of n).year g) n ≡ date_of m g n
unfolding decade_year date_of first_year
decade_go m g n true x h b e i =
    let y = (fields_of n).year in
    let yr = book_years n i in
    let p : 1 ≤ n = omega (arith, book_from n i) in
    let less : y - y % 10 + g < y = ltb-true _ _ x in
    let same : y + (g + 10 - y % 10) % 10 ≡ y - y % 10 + g + 10 = omega arith in
    rw same
    (from_decade m (y - y % 10 + g) n (omega arith) (omega arith) b e (before_year m (y - y % 10 + g) n (omega arith) b e p less)
    ∙ sym (from_first m (y - y % 10 + g + 10) n (omega arith) (omega arith) b e (after_year m (y - y % 10 + g + 10) n (omega arith) b e (omega arith))))
decade_go m g n false x h b e i =
    let y = (fields_of n).year in
    let more : y ≤ y - y % 10 + g = ltb-false _ _ x in
    let same : y + (g + 10 - y % 10) % 10 ≡ y - y % 10 + g = omega arith in
    rw same refl

pub from_the_decade : (m g n : ℕ) → g < 10 → 1 ≤ m → m ≤ 12 → in_book n ≡ true → date_from m (decade_year (fields_of n).year g) n ≡ date_of m g n
from_the_decade m g n h b e i = decade_go m g n (ltb (decade_year (fields_of n).year g) (fields_of n).year) refl h b e i
