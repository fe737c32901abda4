-- What the code's ways through digits promise: two digits at a time, a day, a time.
-- Assumes nothing.
use Rattle.std.specs.Prelude.{ℕ, ◌+◌, ◌-◌, ◌*◌, ◌<◌, ◌≤◌, ◌≡◌, Bool, true, false, ◌&&◌, ◌||◌, Option, None, Some, Result, Ok, Err, [], ◌∷◌, eqb, leb, take, drop}
use Rattle.refusal.specs.declared.Refusal.{Refusal}
use Rattle.refusal.specs.Answer.{Answer, given, refused, answered, ICAL, ICALKIND}
use Rattle.date.specs.Civil.{day_number}
use Rattle.holidays.specs.declared.lines.Place.{Place}
use Rattle.holidays.specs.declared.parameters.Kind as code
use Rattle.holidays.specs.declared.parameters.Kind.TheVariants as kind-is
use Rattle.holidays.specs.Words.{Bytes, pick, spells}
use Rattle.holidays.specs.Content.{Kind, unsaid, date, date_time, strange}
use Rattle.holidays.specs.Dated.{Dated, all_day, timed, bad, exists, is_date, day_of, is_clock, by_kind}
use Rattle.holidays.specs.Inner.Along.{ahead, Inside}

-- ---- two digits; 100 where there are none
unfoldable pub pair_of : ℕ → ℕ → ℕ
pair_of a b = pick ((leb 48 a && leb a 57) && (leb 48 b && leb b 57)) ((a - 48) * 10 + (b - 48)) 100

-- the code's answers say none where the numbers say 100
unfoldable pub pair_number : Option ℕ → ℕ
pair_number None = 100
pair_number (Some n) = n

-- one digit
unfoldable pub IsDigitRead : ℕ → Option ℕ → Type 0
IsDigitRead b None = (leb 48 b && leb b 57) ≡ false
IsDigitRead b (Some n) = ((leb 48 b && leb b 57) ≡ true) × ((n ≡ b - 48) × (n ≤ 9))

pub record IsDigit (b : ℕ) (r : Option ℕ) : Type 0 where
  pub so : IsDigitRead b r

-- a number of two digits
unfoldable pub IsTwo : Option ℕ → Type 0
IsTwo None = Unit {0}
IsTwo (Some n) = n < 100

pub record Paired (a b : ℕ) (r : Option ℕ) : Type 0 where
  pub same : pair_number r ≡ pair_of a b
  pub few : IsTwo r

unfoldable pub pair_in : Bytes → ℕ
pair_in [] = 100
pair_in (a ∷ []) = 100
pair_in (a ∷ b ∷ s) = pair_of a b

pub record PairRead (file : Bytes) (at line n : ℕ) (p : Place) : Type 0 where
  pub value : n ≡ pair_in (ahead file at line)
  pub few : n < 100
  pub rest : ahead file p.at p.line ≡ drop 2 (ahead file at line)
  pub inside : Inside file at line p.at p.line

unfoldable pub IsPairRead : Bytes → ℕ → ℕ → Option (ℕ × Place) → Type 0
IsPairRead file at line None = pair_in (ahead file at line) ≡ 100
IsPairRead file at line (Some r) = PairRead file at line r.0 r.1

pub record ReadsPair (file : Bytes) (at line : ℕ) (r : Option (ℕ × Place)) : Type 0 where
  pub so : IsPairRead file at line r

-- ---- a day, counted as in Dated; 0 where there is none
unfoldable pub day_or_0 : Option ℕ → ℕ
day_or_0 None = 0
day_or_0 (Some n) = n

unfoldable pub IsSmall : Option ℕ → Type 0
IsSmall None = Unit {0}
IsSmall (Some n) = (1 ≤ n) × (n ≤ 5000000)

pub record Numbers (y m d : ℕ) (r : Option ℕ) : Type 0 where
  pub same : day_or_0 r ≡ pick (exists y m d) (day_number (y + 400) m d) 0
  pub few : IsSmall r

unfoldable pub day_in : Bytes → ℕ
day_in s = pick (is_date (take 8 s)) (day_of (take 8 s)) 0

pub record DayRead (file : Bytes) (at line n : ℕ) (p : Place) : Type 0 where
  pub number : n ≡ day_in (ahead file at line)
  pub some : 1 ≤ n
  pub few : n ≤ 5000000
  pub rest : ahead file p.at p.line ≡ drop 8 (ahead file at line)
  pub inside : Inside file at line p.at p.line

unfoldable pub IsDayRead : Bytes → ℕ → ℕ → Option (ℕ × Place) → Type 0
IsDayRead file at line None = day_in (ahead file at line) ≡ 0
IsDayRead file at line (Some r) = DayRead file at line r.0 r.1

pub record ReadsDay (file : Bytes) (at line : ℕ) (r : Option (ℕ × Place)) : Type 0 where
  pub so : IsDayRead file at line r

-- ---- a time
pub record ClockRead (file : Bytes) (at line : ℕ) (p : Place) : Type 0 where
  pub good : is_clock (take 6 (ahead file at line)) ≡ true
  pub rest : ahead file p.at p.line ≡ drop 6 (ahead file at line)
  pub inside : Inside file at line p.at p.line

unfoldable pub IsClockRead : Bytes → ℕ → ℕ → Option Place → Type 0
IsClockRead file at line None = is_clock (take 6 (ahead file at line)) ≡ false
IsClockRead file at line (Some p) = ClockRead file at line p

pub record ReadsClock (file : Bytes) (at line : ℕ) (r : Option Place) : Type 0 where
  pub so : IsClockRead file at line r

unfoldable pub zone_in : Bytes → Bool
zone_in s = spells s "" || spells s "Z"

unfoldable pub time_in : Bytes → Bool
time_in s = spells (take 1 s) "T" && (is_clock (take 6 (drop 1 s)) && zone_in (drop 7 s))

-- ---- a date by the parameter VALUE
unfoldable pub kind_is : code.Kind → Kind
kind_is kind-is.Unsaid = unsaid
kind_is kind-is.Date = date
kind_is kind-is.DateTime = date_time
kind_is kind-is.Strange = strange

-- what the code's result says of a date
unfoldable pub date_answer : Dated → Answer ℕ
date_answer (all_day n) = given n
date_answer timed = refused ICALKIND
date_answer bad = refused ICAL

unfoldable pub IsSmallDay : Result ℕ Refusal → Type 0
IsSmallDay (Ok n) = (1 ≤ n) × (n ≤ 5000000)
IsSmallDay (Err r) = Unit {0}

pub record SaysDate (kind : code.Kind) (s : Bytes) (r : Result ℕ Refusal) : Type 0 where
  pub same : answered r ≡ date_answer (by_kind (kind_is kind) s)
  pub few : IsSmallDay r
