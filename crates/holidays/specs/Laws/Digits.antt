-- Days and times by two digits at a time, and days 400 years on by those of 2000 to 2399.
-- Assumes nothing.
use Rattle.std.specs.Prelude.{ℕ, zero, suc, ◌+◌, ◌-◌, ◌*◌, ◌/◌, ◌%◌, ◌≤◌, ◌<◌, ◌≡◌, refl, Bool, true, false, ◌&&◌, [], ◌∷◌, eqb, ltb, length, take, drop}
use Rattle.std.proofs.Common.{sym, ap, ◌∙◌, add-zero, arith, length-drop, take_all, drop-drop}
use Rattle.std.proofs.lemmas.Bool.{false≢true}
use Rattle.std.proofs.Math.Dec.{leb}
use borrow.Author.Tests.{ltb-true, leb-true, le-leb, lt-ltb, eqb-true}
use Rattle.refusal.specs.Answer.{given, refused}
use Rattle.refusal.specs.Laws.Answers.{both, never_both}
use Rattle.date.specs.Civil.{leap, month_length, day_number}
use Rattle.date.specs.Date.{make_of}
use Rattle.date.specs.Laws.Made.{make_ok, made, made_within}
use Rattle.holidays.specs.Words.{Bytes, pick}
use Rattle.holidays.specs.Nesting.{is_blank}
use Rattle.holidays.specs.Dated.{are_digits, digits, number_from, spelled, exists, is_date, CYCLE, day_of, is_clock, is_date_time}
use Rattle.holidays.specs.Laws.Cycle.{leap_again, number_again}
use Rattle.holidays.specs.Inner.Digits.{pair_of, pair_in, day_in, zone_in, time_in}

-- ---- two digits
pub record Digits (a b : ℕ) : Type 0 where
  pub first : (leb 48 a && leb a 57) ≡ true
  pub second : (leb 48 b && leb b 57) ≡ true
  pub value : pair_of a b ≡ (a - 48) * 10 + (b - 48)

pub pair_digits : (a b : ℕ) → (pair_of a b ≡ 100 → ⊥) → Digits a b
unfolding pair_of pick
pair_digits a b h = go (leb 48 a && leb a 57) (leb 48 b && leb b 57) refl refl h
  where
    go : (x y : Bool) → (leb 48 a && leb a 57) ≡ x → (leb 48 b && leb b 57) ≡ y → (pick (x && y) ((a - 48) * 10 + (b - 48)) 100 ≡ 100 → ⊥) → Digits a b
    go true true p q i = record { first = p; second = q; value = rw (p, q) }
    go true false p q i = absurd (i refl)
    go false y p q i = absurd (i refl)

digit_le : (a : ℕ) → (leb 48 a && leb a 57) ≡ true → a - 48 ≤ 9
digit_le a h = let t = both (leb 48 a) (leb a 57) h in omega (arith, leb-true 48 a t.0, leb-true a 57 t.1)

pub no_hundred : (a b : ℕ) → (leb 48 a && leb a 57) ≡ true → (leb 48 b && leb b 57) ≡ true → pair_of a b ≡ 100 → ⊥
unfolding pair_of pick
no_hundred a b p q e =
    let v : (a - 48) * 10 + (b - 48) ≡ 100 = rw (p, q) at e in
    omega (arith, digit_le a p, digit_le b q)

-- two digits in front of so many more
record Front (n : ℕ) (s : Bytes) : Type 0 where
  some : pair_in s ≡ 100 → ⊥
  long : length (take n (drop 2 s)) ≡ n
  more : are_digits (take n (drop 2 s)) ≡ true

front : (n : ℕ) (s : Bytes) → length (take (suc (suc n)) s) ≡ suc (suc n) → are_digits (take (suc (suc n)) s) ≡ true → Front n s
unfolding are_digits pair_in
front n [] l h = let bad : ⊥ = omega (arith, l) in absurd bad
front n (a ∷ []) l h = let bad : ⊥ = omega (arith, l) in absurd bad
front n (a ∷ b ∷ s) l h =
    let t = both (leb 48 a && leb a 57) ((leb 48 b && leb b 57) && are_digits (take n s)) h in
    let u = both (leb 48 b && leb b 57) (are_digits (take n s)) t.1 in
    record { some = no_hundred a b t.0 u.0; long = omega (arith, l); more = u.1 }

digits_both : (n : ℕ) (s : Bytes) → digits n s ≡ true → (length s ≡ n) × (are_digits s ≡ true)
unfolding digits
digits_both n s h = let t = both (eqb (length s) n) (are_digits s) h in (eqb-true (length s) n t.0, t.1)

-- ---- a day of eight digits
pub record Eight (s : Bytes) : Type 0 where
  pub century : pair_in s ≡ 100 → ⊥
  pub year : pair_in (drop 2 s) ≡ 100 → ⊥
  pub month : pair_in (drop 4 s) ≡ 100 → ⊥
  pub day : pair_in (drop 6 s) ≡ 100 → ⊥

eight : (s : Bytes) → is_date (take 8 s) ≡ true → Eight s
unfolding is_date
eight s h =
    let t = both (digits 8 (take 8 s)) _ h in
    let d = digits_both 8 (take 8 s) t.0 in
    let a = front 6 s d.0 d.1 in
    let b = front 4 (drop 2 s) a.long a.more in
    let c = front 2 (drop 2 (drop 2 s)) b.long b.more in
    let e = front 0 (drop 2 (drop 2 (drop 2 s))) c.long c.more in
    let p : drop 2 (drop 2 s) ≡ drop 4 s = drop-drop 2 2 s in
    let q : drop 2 (drop 2 (drop 2 s)) ≡ drop 6 s = ap (drop 2) p ∙ drop-drop 2 4 s in
    record {
      century = a.some;
      year = b.some;
      month = λ z. c.some (ap pair_in p ∙ z);
      day = λ z. e.some (ap pair_in q ∙ z);
    }

not_date : (s : Bytes) → (is_date (take 8 s) ≡ true → ⊥) → day_in s ≡ 0
unfolding day_in pick
not_date s h = go (is_date (take 8 s)) refl
  where
    go : (x : Bool) → is_date (take 8 s) ≡ x → pick x (day_of (take 8 s)) 0 ≡ 0
    go true e = absurd (h e)
    go false e = refl

module _ (s : Bytes) where
  pub no_century : pair_in s ≡ 100 → day_in s ≡ 0
  no_century e = not_date s (λ h. (eight s h).century e)

  pub no_year : pair_in (drop 2 s) ≡ 100 → day_in s ≡ 0
  no_year e = not_date s (λ h. (eight s h).year e)

  pub no_month : pair_in (drop 4 s) ≡ 100 → day_in s ≡ 0
  no_month e = not_date s (λ h. (eight s h).month e)

  pub no_day : pair_in (drop 6 s) ≡ 100 → day_in s ≡ 0
  no_day e = not_date s (λ h. (eight s h).day e)

abbrev day_by : ℕ → ℕ → ℕ → ℕ
day_by y m d = pick (exists y m d) (day_number (y + 400) m d) 0

module _ (a b c d e f g h : ℕ) (s : Bytes) (p : Digits a b) (q : Digits c d) (r : Digits e f) (t : Digits g h) where
  abbrev eight_of : Bytes
  eight_of = a ∷ b ∷ c ∷ d ∷ e ∷ f ∷ g ∷ h ∷ []

  all_digits : digits 8 eight_of ≡ true
  unfolding digits are_digits
  all_digits = rw (p.first, p.second, q.first, q.second, r.first, r.second, t.first, t.second)

  year_is : spelled 0 4 eight_of ≡ pair_of a b * 100 + pair_of c d
  unfolding number_from
  year_is = omega (arith, p.value, q.value)

  month_is : spelled 4 2 eight_of ≡ pair_of e f
  unfolding number_from
  month_is = omega (arith, r.value)

  day_is : spelled 6 2 eight_of ≡ pair_of g h
  unfolding number_from
  day_is = omega (arith, t.value)

  eight_day : pick (is_date eight_of) (day_of eight_of) 0 ≡ day_by (pair_of a b * 100 + pair_of c d) (pair_of e f) (pair_of g h)
  unfolding is_date day_of
  eight_day = rw (all_digits, year_is, month_is, day_is)

pub day_of_pairs : (s : Bytes) → Eight s → day_in s ≡ day_by (pair_in s * 100 + pair_in (drop 2 s)) (pair_in (drop 4 s)) (pair_in (drop 6 s))
unfolding day_in pair_in
day_of_pairs [] k = absurd (k.century refl)
day_of_pairs (a ∷ []) k = absurd (k.century refl)
day_of_pairs (a ∷ b ∷ []) k = absurd (k.year refl)
day_of_pairs (a ∷ b ∷ c ∷ []) k = absurd (k.year refl)
day_of_pairs (a ∷ b ∷ c ∷ d ∷ []) k = absurd (k.month refl)
day_of_pairs (a ∷ b ∷ c ∷ d ∷ e ∷ []) k = absurd (k.month refl)
day_of_pairs (a ∷ b ∷ c ∷ d ∷ e ∷ f ∷ []) k = absurd (k.day refl)
day_of_pairs (a ∷ b ∷ c ∷ d ∷ e ∷ f ∷ g ∷ []) k = absurd (k.day refl)
day_of_pairs (a ∷ b ∷ c ∷ d ∷ e ∷ f ∷ g ∷ h ∷ s) k =
    eight_day a b c d e f g h s (pair_digits a b k.century) (pair_digits c d k.year) (pair_digits e f k.month) (pair_digits g h k.day)

-- ---- a time of six digits
record Six (s : Bytes) : Type 0 where
  hour : pair_in s ≡ 100 → ⊥
  minute : pair_in (drop 2 s) ≡ 100 → ⊥
  second : pair_in (drop 4 s) ≡ 100 → ⊥

six : (s : Bytes) → digits 6 (take 6 s) ≡ true → Six s
six s h =
    let d = digits_both 6 (take 6 s) h in
    let a = front 4 s d.0 d.1 in
    let b = front 2 (drop 2 s) a.long a.more in
    let c = front 0 (drop 2 (drop 2 s)) b.long b.more in
    let p : drop 2 (drop 2 s) ≡ drop 4 s = drop-drop 2 2 s in
    record { hour = a.some; minute = b.some; second = λ z. c.some (ap pair_in p ∙ z) }

module _ (a b c d e f : ℕ) (s : Bytes) (p : Digits a b) (q : Digits c d) (r : Digits e f) where
  abbrev six_of : Bytes
  six_of = a ∷ b ∷ c ∷ d ∷ e ∷ f ∷ []

  six_digits : digits 6 six_of ≡ true
  unfolding digits are_digits
  six_digits = rw (p.first, p.second, q.first, q.second, r.first, r.second)

  hour_is : spelled 0 2 six_of ≡ pair_of a b
  unfolding number_from
  hour_is = omega (arith, p.value)

  minute_is : spelled 2 2 six_of ≡ pair_of c d
  unfolding number_from
  minute_is = omega (arith, q.value)

  second_is : spelled 4 2 six_of ≡ pair_of e f
  unfolding number_from
  second_is = omega (arith, r.value)

  six_clock : is_clock six_of ≡ (ltb (pair_of a b) 24 && (ltb (pair_of c d) 60 && leb (pair_of e f) 60))
  unfolding is_clock
  six_clock = rw (six_digits, hour_is, minute_is, second_is)

clock_by : (s : Bytes) → Six s → is_clock (take 6 s) ≡ (ltb (pair_in s) 24 && (ltb (pair_in (drop 2 s)) 60 && leb (pair_in (drop 4 s)) 60))
unfolding pair_in
clock_by [] k = absurd (k.hour refl)
clock_by (a ∷ []) k = absurd (k.hour refl)
clock_by (a ∷ b ∷ []) k = absurd (k.minute refl)
clock_by (a ∷ b ∷ c ∷ []) k = absurd (k.minute refl)
clock_by (a ∷ b ∷ c ∷ d ∷ []) k = absurd (k.second refl)
clock_by (a ∷ b ∷ c ∷ d ∷ e ∷ []) k = absurd (k.second refl)
clock_by (a ∷ b ∷ c ∷ d ∷ e ∷ f ∷ s) k =
    six_clock a b c d e f s (pair_digits a b k.hour) (pair_digits c d k.minute) (pair_digits e f k.second)

-- a time has six digits
clock_six : (s : Bytes) → is_clock (take 6 s) ≡ true → Six s
unfolding is_clock
clock_six s h = six s (both (digits 6 (take 6 s)) _ h).0

record Within (s : Bytes) : Type 0 where
  hours : pair_in s < 24
  minutes : pair_in (drop 2 s) < 60
  seconds : pair_in (drop 4 s) ≤ 60

clock_within : (s : Bytes) → is_clock (take 6 s) ≡ true → Within s
clock_within s h =
    let k = clock_six s h in
    let t = both (ltb (pair_in s) 24) _ (sym (clock_by s k) ∙ h) in
    let u = both (ltb (pair_in (drop 2 s)) 60) (leb (pair_in (drop 4 s)) 60) t.1 in
    record {
      hours = ltb-true (pair_in s) 24 t.0;
      minutes = ltb-true (pair_in (drop 2 s)) 60 u.0;
      seconds = leb-true (pair_in (drop 4 s)) 60 u.1;
    }

not_so : (b : Bool) → (b ≡ true → ⊥) → b ≡ false
not_so true h = absurd (h refl)
not_so false h = refl

module _ (s : Bytes) where
  pub no_hour : 23 < pair_in s → is_clock (take 6 s) ≡ false
  no_hour h = not_so (is_clock (take 6 s)) (λ e. omega (arith, (clock_within s e).hours))

  pub no_minute : 59 < pair_in (drop 2 s) → is_clock (take 6 s) ≡ false
  no_minute h = not_so (is_clock (take 6 s)) (λ e. omega (arith, (clock_within s e).minutes))

  pub no_second : 60 < pair_in (drop 4 s) → is_clock (take 6 s) ≡ false
  no_second h = not_so (is_clock (take 6 s)) (λ e. omega (arith, (clock_within s e).seconds))

  pub clock_is : pair_in s < 24 → pair_in (drop 2 s) < 60 → pair_in (drop 4 s) ≤ 60 → is_clock (take 6 s) ≡ true
  clock_is h i j =
      clock_by s (record { hour = λ e. omega (arith, h, e); minute = λ e. omega (arith, i, e); second = λ e. omega (arith, j, e) })
      ∙ rw (lt-ltb (pair_in s) 24 h, lt-ltb (pair_in (drop 2 s)) 60 i, le-leb (pair_in (drop 4 s)) 60 j)

-- ---- a day, then nothing or a time
days_positive : (y m d : ℕ) → exists y m d ≡ true → 1 ≤ day_number (y + 400) m d
unfolding exists day_number
days_positive y m d h =
    let t = both (leb 1 m && leb m 12) (leb 1 d && leb d (month_length y m)) h in
    let u = both (leb 1 d) (leb d (month_length y m)) t.1 in
    omega (arith, leb-true 1 d u.0)

pub date_positive : (s : Bytes) → is_date s ≡ true → 1 ≤ day_of s
unfolding is_date day_of
date_positive s h = days_positive (spelled 0 4 s) (spelled 4 2 s) (spelled 6 2 s) (both (digits 8 s) _ h).1

-- what a day that is 0, or is not, says of the digits
pub no_date : (s : Bytes) → day_in s ≡ 0 → is_date (take 8 s) ≡ false
unfolding day_in pick
no_date s h = go (is_date (take 8 s)) refl h
  where
    go : (x : Bool) → is_date (take 8 s) ≡ x → pick x (day_of (take 8 s)) 0 ≡ 0 → x ≡ false
    go true e z = let bad : ⊥ = omega (arith, date_positive (take 8 s) e) in absurd bad
    go false e z = refl

pub some_date : (s : Bytes) → (day_in s ≡ 0 → ⊥) → (is_date (take 8 s) ≡ true) × (day_in s ≡ day_of (take 8 s))
unfolding day_in pick
some_date s h = go (is_date (take 8 s)) refl h
  where
    go : (x : Bool) → is_date (take 8 s) ≡ x → (pick x (day_of (take 8 s)) 0 ≡ 0 → ⊥) → (x ≡ true) × (pick x (day_of (take 8 s)) 0 ≡ day_of (take 8 s))
    go true e z = (refl, refl)
    go false e z = absurd (z refl)

-- a whole date is eight digits and nothing behind them
date_long : (s : Bytes) → is_date s ≡ true → length s ≡ 8
unfolding is_date
date_long s h = (digits_both 8 s (both (digits 8 s) _ h).0).0

pub whole : (s : Bytes) → drop 8 s ≡ [] → take 8 s ≡ s
whole s e = take_all 8 s (omega (arith, length-drop 8 s, ap length e))

pub no_whole : (s : Bytes) → is_date (take 8 s) ≡ false → is_date s ≡ false
no_whole s h =
    not_so (is_date s) (λ e. false≢true (sym h ∙ ap is_date (take_all 8 s (omega (arith, date_long s e))) ∙ e))

pub too_long : (s : Bytes) → is_blank (drop 8 s) ≡ false → is_date s ≡ false
unfolding is_blank
too_long s h = not_so (is_date s) (λ e. false≢true (sym h ∙ go (drop 8 s) (omega (arith, length-drop 8 s, date_long s e))))
  where
    go : (t : Bytes) → length t ≡ 0 → is_blank t ≡ true
    go [] z = refl
    go (b ∷ t) z = let bad : ⊥ = omega (arith, z) in absurd bad

pub time_behind : (s : Bytes) → is_date_time s ≡ (is_date (take 8 s) && time_in (drop 8 s))
unfolding is_date_time time_in zone_in
time_behind s =
    let p : drop 1 (drop 8 s) ≡ drop 9 s = drop-drop 1 8 s in
    let q : drop 7 (drop 8 s) ≡ drop 15 s = drop-drop 7 8 s in
    rw (p, q)

-- ---- 400 years
more_cycles : (y k : ℕ) → y + 400 * suc k ≡ y + 400 * k + 400
more_cycles y k = omega arith

leap_cycles : (y k : ℕ) → leap (y + 400 * k) ≡ leap y
leap_cycles y zero = ap leap (add-zero y)
leap_cycles y (suc k) = ap leap (more_cycles y k) ∙ leap_again (y + 400 * k) ∙ leap_cycles y k

number_cycles : (y m d k : ℕ) → 1 ≤ y → day_number (y + 400 * k) m d ≡ day_number y m d + CYCLE * k
number_cycles y m d zero h = ap (λ (x : ℕ). day_number x m d) (add-zero y) ∙ omega arith
number_cycles y m d (suc k) h =
    ap (λ (x : ℕ). day_number x m d) (more_cycles y k) ∙ number_again (y + 400 * k) m d (omega arith) ∙ omega (arith, number_cycles y m d k h)

module _ (y m d : ℕ) where
  abbrev made_year : ℕ
  made_year = 2000 + y % 400

  in_cycles : y % 400 + 400 * (y / 400) ≡ y
  in_cycles = omega arith

  made_leap : leap made_year ≡ leap y
  made_leap =
      let e : y % 400 + 400 * 5 ≡ made_year = omega arith in
      ap leap (sym e) ∙ leap_cycles (y % 400) 5 ∙ sym (leap_cycles (y % 400) (y / 400)) ∙ ap leap in_cycles

  made_exists : exists made_year m d ≡ exists y m d
  unfolding exists month_length
  made_exists = rw made_leap

  made_number : day_number (y + 400) m d ≡ day_number made_year m d + y / 400 * 146097 - 584388
  made_number =
      let z : ℕ = y % 400 + 400 in
      let e : z + 400 * 4 ≡ made_year = omega arith in
      let f : z + 400 * (y / 400) ≡ y + 400 = omega arith in
      let p : day_number made_year m d ≡ day_number z m d + CYCLE * 4 = ap (λ (x : ℕ). day_number x m d) (sym e) ∙ number_cycles z m d 4 (omega arith) in
      let q : day_number (y + 400) m d ≡ day_number z m d + CYCLE * (y / 400) = ap (λ (x : ℕ). day_number x m d) (sym f) ∙ number_cycles z m d (y / 400) (omega arith) in
      sums (day_number (y + 400) m d) (day_number made_year m d) (day_number z m d) (y / 400) p q
    where
      sums : (a b c k : ℕ) → b ≡ c + CYCLE * 4 → a ≡ c + CYCLE * k → a ≡ b + k * 146097 - 584388
      sums a b c k p q = omega arith

  exists_parts : (x : ℕ) → exists x m d ≡ true → ((1 ≤ m) × (m ≤ 12)) × ((1 ≤ d) × (d ≤ month_length x m))
  unfolding exists
  exists_parts x h =
      let t = both (leb 1 m && leb m 12) (leb 1 d && leb d (month_length x m)) h in
      let u = both (leb 1 m) (leb m 12) t.0 in
      let v = both (leb 1 d) (leb d (month_length x m)) t.1 in
      ((leb-true 1 m u.0, leb-true m 12 u.1), (leb-true 1 d v.0, leb-true d (month_length x m) v.1))

  parts_exist : (x : ℕ) → 1 ≤ m → m ≤ 12 → 1 ≤ d → d ≤ month_length x m → exists x m d ≡ true
  unfolding exists
  parts_exist x h i j k = rw (le-leb 1 m h, le-leb m 12 i, le-leb 1 d j, le-leb d (month_length x m) k)

  pub made_so : (n : ℕ) → make_of made_year m d ≡ given n → (exists y m d ≡ true) × ((day_number (y + 400) m d ≡ n + y / 400 * 146097 - 584388) × ((657072 ≤ n) × (n ≤ 876216)))
  made_so n e =
      let k = made made_year m d n e in
      let v = k.valid in
      let w = made_within made_year m d n k in (
        sym made_exists ∙ parts_exist made_year v.month v.twelve v.first v.last,
        (made_number ∙ ap (λ (x : ℕ). x + y / 400 * 146097 - 584388) (sym k.number), w),
      )

  pub made_not : (r : ℕ) → make_of made_year m d ≡ refused r → exists y m d ≡ false
  made_not r e = not_so (exists y m d) (λ h. no h)
    where
      no : exists y m d ≡ true → ⊥
      no h =
          let t = exists_parts made_year (made_exists ∙ h) in
          never_both (make_of made_year m d) (day_number made_year m d) r (sym (make_ok made_year m d (omega arith) (omega arith) t.0.0 t.0.1 t.1.0 t.1.1 (day_number made_year m d) refl)) e
