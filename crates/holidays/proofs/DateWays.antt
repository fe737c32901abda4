-- Laws of the ways through a date: one for each way through the code.
-- Assumes nothing.
use Prim.Native.Nat.{ℕ, ◌+◌, ◌-◌, ◌*◌, ◌/◌, ◌%◌, ◌≤◌, ◌<◌}
use mathlib.Core.Path.{◌≡◌, refl, sym, ap, ◌∙◌}
use mathlib.Core.Bool.{Bool, true, false, false≢true, ◌&&◌}
use mathlib.Core.List.{[], ◌∷◌}
use native.Mathlib.Omega.{arith}
use lib.Dec.{eqb, leb}
use lib.ListN.{take, drop}
use lib.Seq.{drop-drop}
use borrow.Author.Rules.{rules}
use borrow.Author.Tests.{eqb-true, eqb-false, le-leb, lt-leb}
use Rattle.refusal.specs.declared.Refusal.{Refusal}
use Rattle.refusal.specs.declared.Refusal.TheVariants.{Ical, IcalKind}
use Rattle.refusal.specs.Refusals.{number_of}
use Rattle.refusal.specs.Answer.{given}
use Rattle.date.specs.declared.Date.{Date}
use Rattle.date.specs.Date.{make_of, dated}
use Rattle.date.specs.Laws.Made.{given_day, refused_day}
use Rattle.std.specs.Prelude.{Option, None, Some, Result, Ok, Err}
use Rattle.holidays.specs.declared.lines.Place.{Place}
use Rattle.holidays.specs.declared.parameters.Kind.{Kind}
use Rattle.holidays.specs.declared.parameters.Kind.TheVariants as kind-is
use Rattle.holidays.specs.Words.{Bytes, pick, ascii, upper, uppers, equal, spells}
use Rattle.holidays.specs.Nesting.{is_blank}
use Rattle.holidays.specs.Dated.{timed, bad, is_date, day_of, is_clock, is_date_time, by_kind}
use Rattle.holidays.specs.Laws.Letters.{spelled_so, spelled_not}
use Rattle.holidays.specs.Laws.Digits.{Eight, no_century, no_year, no_month, no_day, day_of_pairs, no_hour, no_minute, no_second, clock_is, no_date, some_date, whole, no_whole, too_long, time_behind, made_so, made_not}
use Rattle.holidays.specs.Inner.Letters.{letter, pack, packs}
use Rattle.holidays.specs.Inner.Along.{ahead, Before, Steps}
use Rattle.holidays.specs.Inner.Digits.{pair_of, pair_number, IsDigitRead, IsDigit, IsTwo, Paired, pair_in, PairRead, IsPairRead, ReadsPair, day_or_0, IsSmall, Numbers, day_in, DayRead, IsDayRead, ReadsDay, ClockRead, IsClockRead, ReadsClock, zone_in, time_in, kind_is, date_answer, IsSmallDay, SaysDate}
use Rattle.holidays.proofs.WordWays.{taken, left, took, none_left, inside_on}

-- ---- two digits
low_digit : (a : ℕ) → a < 48 → (leb 48 a && leb a 57) ≡ false
low_digit a h = rw (lt-leb 48 a h)

high_digit : (a : ℕ) → 57 < a → (leb 48 a && leb a 57) ≡ false
high_digit a h = rw (lt-leb a 57 h, le-leb 48 a (omega arith))

is_digit : (a : ℕ) → 48 ≤ a → a ≤ 57 → (leb 48 a && leb a 57) ≡ true
is_digit a h i = rw (le-leb 48 a h, le-leb a 57 i)

pub digit_low : {a : ℕ} → a < 48 → IsDigit a None
unfolding IsDigitRead
digit_low {a} h = record { so = low_digit a h }

pub digit_high : {a : ℕ} → 57 < a → IsDigit a None
unfolding IsDigitRead
digit_high {a} h = record { so = high_digit a h }

pub digit_one : {a : ℕ} → 48 ≤ a → a ≤ 57 → IsDigit a (Some (a - 48))
unfolding IsDigitRead
digit_one {a} h i = record { so = (is_digit a h i, (refl, omega arith)) }

pub ruleset digits_of = (digit_low, digit_high, digit_one, rules)

module _ {a b : ℕ} {r : Option ℕ} (p : IsDigit a r) where
  no_pair : ((leb 48 a && leb a 57) && (leb 48 b && leb b 57)) ≡ false → Paired a b None
  unfolding pair_of pair_number IsTwo
  no_pair e = record { same = left _ _ _ e; few = tt }

  pub pair_not : r ≡ None → Paired a b None
  unfolding IsDigitRead
  pair_not e = let n : (leb 48 a && leb a 57) ≡ false = rw e at p.so in no_pair (rw n)

  module _ (m : ℕ) (e : r ≡ Some m) {t : Option ℕ} (q : IsDigit b t) where
    first_is : ((leb 48 a && leb a 57) ≡ true) × ((m ≡ a - 48) × (m ≤ 9))
    unfolding IsDigitRead
    first_is = rw e at p.so

    pub pair_then_not : t ≡ None → Paired a b None
    unfolding IsDigitRead
    pair_then_not f = let n : (leb 48 b && leb b 57) ≡ false = rw f at q.so in no_pair (rw (first_is.0, n))

    pub pair_is : (n : ℕ) → t ≡ Some n → Paired a b (Some (m * 10 + n))
    unfolding pair_of IsDigitRead pair_number IsTwo
    pair_is n f =
        let i : ((leb 48 b && leb b 57) ≡ true) × ((n ≡ b - 48) × (n ≤ 9)) = rw f at q.so in
        let v : m * 10 + n ≡ (a - 48) * 10 + (b - 48) = omega (arith, first_is.1.0, i.1.0) in
        record { same = v ∙ taken _ _ _ (rw (first_is.0, i.0)); few = omega (arith, first_is.1.1, i.1.1) }

    pub ten_fits : m * 10 ≤ 90
    ten_fits = omega (arith, first_is.1.1)

    pub pair_fits : (n : ℕ) → t ≡ Some n → m * 10 + n < 100
    unfolding IsDigitRead
    pair_fits n f =
        let i : ((leb 48 b && leb b 57) ≡ true) × ((n ≡ b - 48) × (n ≤ 9)) = rw f at q.so in
        omega (arith, first_is.1.1, i.1.1)

pub ruleset digit_pairs = (pair_not, pair_then_not, pair_is, ten_fits, pair_fits, rules)

-- ---- read from the line
pub took_before : {file : Bytes} {at line : ℕ} {r : Option (ℕ × Place)} (b : ℕ) (p : Place) → Steps file at line r → r ≡ Some (b, p) → Before file p.at p.line
took_before b p s e = (took b p s e).inside.before

module _ {file : Bytes} {at line : ℕ} {r : Option (ℕ × Place)} (s : Steps file at line r) where
  none_read : pair_in (ahead file at line) ≡ 100 → ReadsPair file at line None
  unfolding IsPairRead
  none_read e = record { so = e }

  pub pair_none : r ≡ None → ReadsPair file at line None
  unfolding pair_in
  pair_none e = none_read (ap pair_in (none_left s e))

  module _ (a : ℕ) (p : Place) (e : r ≡ Some (a, p)) {t : Option (ℕ × Place)} (u : Steps file p.at p.line t) where
    pub pair_one : t ≡ None → ReadsPair file at line None
    unfolding pair_in
    pair_one f = none_read (ap pair_in ((took a p s e).bytes ∙ ap (λ (x : Bytes). a ∷ x) (none_left u f)))

    module _ (b : ℕ) (q : Place) (f : t ≡ Some (b, q)) {v : Option ℕ} (d : Paired a b v) where
      both_bytes : ahead file at line ≡ a ∷ b ∷ ahead file q.at q.line
      both_bytes = (took a p s e).bytes ∙ ap (λ (w : Bytes). a ∷ w) (took b q u f).bytes

      pub pair_bad : v ≡ None → ReadsPair file at line None
      unfolding pair_in pair_number
      pair_bad z = none_read (ap pair_in both_bytes ∙ sym d.same ∙ ap pair_number z)

      pub pair_two : (n : ℕ) → v ≡ Some n → ReadsPair file at line (Some (n, q))
      unfolding pair_in IsPairRead pair_number IsTwo
      pair_two n z =
          record {
            so = record {
              value = sym (ap pair_number z) ∙ d.same ∙ sym (ap pair_in both_bytes);
              few = rw z at d.few;
              rest = sym (ap (drop 2) both_bytes);
              inside = inside_on (took a p s e).inside (took b q u f).inside;
            };
          }

pub ruleset pairs_of = (took_before, pair_none, pair_one, pair_bad, pair_two, rules)

-- ---- a day by its number
module _ (y m d : ℕ) {r : Result Date Refusal} (e : dated r ≡ make_of (2000 + y % 400) m d) where
  pub number_is : (x : Date) {n : ℕ} → r ≡ Ok x → y ≤ 10100 → n ≡ x.day + y / 400 * 146097 - 584388 → Numbers y m d (Some n)
  unfolding day_or_0 IsSmall
  number_is x {n} h low q =
      let t = made_so y m d x.day (given_day r x _ e h) in
      let k : y / 400 ≤ 25 = omega arith in
      let s = small x.day (y / 400) t.1.1.0 t.1.1.1 k in
      record { same = q ∙ sym t.1.0 ∙ taken _ _ _ t.0; few = (omega (arith, q, s.0), omega (arith, q, s.1)) }
    where
      small : (n k : ℕ) → 657072 ≤ n → n ≤ 876216 → k ≤ 25 → (1 ≤ n + k * 146097 - 584388) × (n + k * 146097 - 584388 ≤ 5000000)
      small n k l h i = (omega arith, omega arith)

  pub number_not : (n : Refusal) → r ≡ Err n → Numbers y m d None
  unfolding day_or_0 IsSmall
  number_not n h = record { same = left _ _ _ (made_not y m d (number_of n) (refused_day r n _ e h)); few = tt }

  pub number_low : (x : Date) → r ≡ Ok x → 657072 ≤ x.day
  number_low x h = (made_so y m d x.day (given_day r x _ e h)).1.1.0

  pub number_high : (x : Date) → r ≡ Ok x → x.day ≤ 876216
  number_high x h = (made_so y m d x.day (given_day r x _ e h)).1.1.1

pub ruleset number_ways = (number_is, number_not, number_low, number_high, rules)

-- ---- a day, two digits at a time
module _ {file : Bytes} {at line : ℕ} {r : Option (ℕ × Place)} (s : ReadsPair file at line r) where
  pub pair_not_read : r ≡ None → pair_in (ahead file at line) ≡ 100
  unfolding IsPairRead
  pair_not_read e = rw e at s.so

  pub pair_read : (n : ℕ) (p : Place) → r ≡ Some (n, p) → PairRead file at line n p
  unfolding IsPairRead
  pair_read n p e = rw e at s.so

  pub pair_few : (n : ℕ) (p : Place) → r ≡ Some (n, p) → n < 100
  pair_few n p e = (pair_read n p e).few

  pub pair_before : (n : ℕ) (p : Place) → r ≡ Some (n, p) → Before file p.at p.line
  pair_before n p e = (pair_read n p e).inside.before

module _ {file : Bytes} {at line : ℕ} where
  no_day_read : day_in (ahead file at line) ≡ 0 → ReadsDay file at line None
  unfolding IsDayRead
  no_day_read e = record { so = e }

  module _ {r : Option (ℕ × Place)} (s : ReadsPair file at line r) where
    pub day_no_century : r ≡ None → ReadsDay file at line None
    day_no_century e = no_day_read (no_century (ahead file at line) (pair_not_read s e))

    module _ (c : ℕ) (p : Place) (ce : r ≡ Some (c, p)) {t : Option (ℕ × Place)} (u : ReadsPair file p.at p.line t) where
      first : PairRead file at line c p
      first = pair_read s c p ce

      pub day_no_year : t ≡ None → ReadsDay file at line None
      day_no_year e = no_day_read (no_year (ahead file at line) (ap pair_in (sym first.rest) ∙ pair_not_read u e))

      module _ (y : ℕ) (q : Place) (ye : t ≡ Some (y, q)) {v : Option (ℕ × Place)} (w : ReadsPair file q.at q.line v) where
        second : PairRead file p.at p.line y q
        second = pair_read u y q ye

        behind_year : ahead file q.at q.line ≡ drop 4 (ahead file at line)
        behind_year = second.rest ∙ ap (drop 2) first.rest ∙ drop-drop 2 2 (ahead file at line)

        pub day_year : c * 100 + y ≤ 10100
        day_year = omega (arith, first.few, second.few)

        pub day_no_month : v ≡ None → ReadsDay file at line None
        day_no_month e = no_day_read (no_month (ahead file at line) (ap pair_in (sym behind_year) ∙ pair_not_read w e))

        module _ (m : ℕ) (o : Place) (me : v ≡ Some (m, o)) {x : Option (ℕ × Place)} (z : ReadsPair file o.at o.line x) where
          third : PairRead file q.at q.line m o
          third = pair_read w m o me

          behind_month : ahead file o.at o.line ≡ drop 6 (ahead file at line)
          behind_month = third.rest ∙ ap (drop 2) behind_year ∙ drop-drop 2 4 (ahead file at line)

          pub day_no_day : x ≡ None → ReadsDay file at line None
          day_no_day e = no_day_read (no_day (ahead file at line) (ap pair_in (sym behind_month) ∙ pair_not_read z e))

          module _ (d : ℕ) (i : Place) (de : x ≡ Some (d, i)) {g : Option ℕ} (k : Numbers (c * 100 + y) m d g) where
            fourth : PairRead file o.at o.line d i
            fourth = pair_read z d i de

            read_so : day_or_0 g ≡ day_in (ahead file at line)
            read_so =
                let s : Bytes = ahead file at line in
                let cv : c ≡ pair_in s = first.value in
                let yv : y ≡ pair_in (drop 2 s) = second.value ∙ ap pair_in first.rest in
                let mv : m ≡ pair_in (drop 4 s) = third.value ∙ ap pair_in behind_year in
                let dv : d ≡ pair_in (drop 6 s) = fourth.value ∙ ap pair_in behind_month in
                let all : Eight s =
                record {
                  century = λ e. omega (arith, first.few, cv, e);
                  year = λ e. omega (arith, second.few, yv, e);
                  month = λ e. omega (arith, third.few, mv, e);
                  day = λ e. omega (arith, fourth.few, dv, e);
                } in
                k.same ∙ rw (cv, yv, mv, dv) (sym (day_of_pairs s all))

            pub day_never : g ≡ None → ReadsDay file at line None
            unfolding day_or_0
            day_never e = no_day_read (sym read_so ∙ ap day_or_0 e)

            pub day_read : (n : ℕ) → g ≡ Some n → ReadsDay file at line (Some (n, i))
            unfolding day_or_0 IsSmall IsDayRead
            day_read n e =
                let l : (1 ≤ n) × (n ≤ 5000000) = rw e at k.few in
                record {
                  so = record {
                    number = sym (ap day_or_0 e) ∙ read_so;
                    some = l.0;
                    few = l.1;
                    rest = fourth.rest ∙ ap (drop 2) behind_month ∙ drop-drop 2 6 (ahead file at line);
                    inside = inside_on first.inside (inside_on second.inside (inside_on third.inside fourth.inside));
                  };
                }

pub ruleset day_ways = (pair_before, day_no_century, day_no_year, day_no_month, day_no_day, day_year, day_never, day_read, rules)

-- ---- a time
module _ {file : Bytes} {at line : ℕ} where
  no_clock : is_clock (take 6 (ahead file at line)) ≡ false → ReadsClock file at line None
  unfolding IsClockRead
  no_clock e = record { so = e }

  module _ {r : Option (ℕ × Place)} (s : ReadsPair file at line r) where
    pub clock_no_hour : r ≡ None → ReadsClock file at line None
    clock_no_hour e = no_clock (no_hour (ahead file at line) (omega (arith, pair_not_read s e)))

    module _ (h : ℕ) (p : Place) (he : r ≡ Some (h, p)) where
      hour_read : PairRead file at line h p
      hour_read = pair_read s h p he

      pub clock_late : 23 < h → ReadsClock file at line None
      clock_late l = no_clock (no_hour (ahead file at line) (omega (arith, hour_read.value, l)))

      module _ (lh : h ≤ 23) {t : Option (ℕ × Place)} (u : ReadsPair file p.at p.line t) where
        pub clock_no_minute : t ≡ None → ReadsClock file at line None
        clock_no_minute e = no_clock (no_minute (ahead file at line) (omega (arith, ap pair_in (sym hour_read.rest) ∙ pair_not_read u e)))

        module _ (m : ℕ) (q : Place) (me : t ≡ Some (m, q)) where
          minute_read : PairRead file p.at p.line m q
          minute_read = pair_read u m q me

          minute_in : m ≡ pair_in (drop 2 (ahead file at line))
          minute_in = minute_read.value ∙ ap pair_in hour_read.rest

          behind_minute : ahead file q.at q.line ≡ drop 4 (ahead file at line)
          behind_minute = minute_read.rest ∙ ap (drop 2) hour_read.rest ∙ drop-drop 2 2 (ahead file at line)

          pub clock_long : 59 < m → ReadsClock file at line None
          clock_long l = no_clock (no_minute (ahead file at line) (omega (arith, minute_in, l)))

          module _ (lm : m ≤ 59) {v : Option (ℕ × Place)} (w : ReadsPair file q.at q.line v) where
            pub clock_no_second : v ≡ None → ReadsClock file at line None
            clock_no_second e = no_clock (no_second (ahead file at line) (omega (arith, ap pair_in (sym behind_minute) ∙ pair_not_read w e)))

            module _ (n : ℕ) (o : Place) (ne : v ≡ Some (n, o)) where
              second_read : PairRead file q.at q.line n o
              second_read = pair_read w n o ne

              second_in : n ≡ pair_in (drop 4 (ahead file at line))
              second_in = second_read.value ∙ ap pair_in behind_minute

              pub clock_over : 60 < n → ReadsClock file at line None
              clock_over l = no_clock (no_second (ahead file at line) (omega (arith, second_in, l)))

              pub clock_read : n ≤ 60 → ReadsClock file at line (Some o)
              unfolding IsClockRead
              clock_read ls =
                  let u : Bytes = ahead file at line in
                  record {
                    so = record {
                      good = clock_is u (omega (arith, lh, hour_read.value)) (omega (arith, lm, minute_in)) (omega (arith, ls, second_in));
                      rest = second_read.rest ∙ ap (drop 2) behind_minute ∙ drop-drop 2 4 u;
                      inside = inside_on hour_read.inside (inside_on minute_read.inside second_read.inside);
                    };
                  }

pub ruleset clocks_of = (pair_before, clock_no_hour, clock_late, clock_no_minute, clock_long, clock_no_second, clock_over, clock_read, rules)

-- ---- T, a time, nothing or Z
number_t : packs 1 (ascii "T") ≡ 52
unfolding packs pack pick letter ascii
number_t = refl

number_z : packs 1 (ascii "Z") ≡ 58
unfolding packs pack pick letter ascii
number_z = refl

number_nothing : packs 1 (ascii "") ≡ 1
unfolding packs ascii
number_nothing = refl

same_t : uppers (ascii "T") ≡ ascii "T"
unfolding uppers upper pick ascii
same_t = refl

same_z : uppers (ascii "Z") ≡ ascii "Z"
unfolding uppers upper pick ascii
same_z = refl

same_nothing : uppers (ascii "") ≡ ascii ""
unfolding uppers ascii
same_nothing = refl

module _ (s : Bytes) {w : ℕ} (e : w ≡ packs 1 s) where
  pub zone_none : w ≡ 1 → true ≡ zone_in s
  unfolding zone_in
  zone_none h = rw (spelled_so s "" (λ z. omega (arith, number_nothing, z)) same_nothing (sym e ∙ h ∙ sym number_nothing))

  pub zone_z : (w ≡ 1 → ⊥) → eqb w 58 ≡ zone_in s
  unfolding zone_in
  zone_z n =
      rw (spelled_not s "" (λ z. omega (arith, number_nothing, z)) same_nothing (λ q. n (e ∙ q ∙ number_nothing))) (go (eqb w 58) refl)
    where
      go : (x : Bool) → eqb w 58 ≡ x → x ≡ spells s "Z"
      go true p = sym (spelled_so s "Z" (λ z. omega (arith, number_z, z)) same_z (sym e ∙ eqb-true w 58 p ∙ sym number_z))
      go false p = sym (spelled_not s "Z" (λ z. omega (arith, number_z, z)) same_z (λ q. eqb-false w 58 p (e ∙ q ∙ number_z)))

module _ {file : Bytes} {at line : ℕ} {r : Option (ℕ × Place)} (s : Steps file at line r) where
  pub time_none : r ≡ None → false ≡ time_in (ahead file at line)
  unfolding time_in spells uppers equal ascii
  time_none e = sym (ap time_in (none_left s e))

  module _ (b : ℕ) (i : Place) (e : r ≡ Some (b, i)) {k : ℕ} (p : k ≡ pack 1 b) where
    pub time_no_t : (k ≡ 52 → ⊥) → false ≡ time_in (ahead file at line)
    unfolding time_in packs
    time_no_t h =
        rw ((took b i s e).bytes, spelled_not (b ∷ []) "T" (λ z. omega (arith, number_t, z)) same_t (λ q. h (p ∙ q ∙ number_t)))

    module _ (h : k ≡ 52) {c : Option Place} (t : ReadsClock file i.at i.line c) where
      is_t : spells (b ∷ []) "T" ≡ true
      unfolding packs
      is_t = spelled_so (b ∷ []) "T" (λ z. omega (arith, number_t, z)) same_t (sym p ∙ h ∙ sym number_t)

      pub time_no_clock : c ≡ None → false ≡ time_in (ahead file at line)
      unfolding time_in IsClockRead
      time_no_clock g =
          let n : is_clock (take 6 (ahead file i.at i.line)) ≡ false = rw g at t.so in
          rw ((took b i s e).bytes, is_t, n)

      pub time_zone : (z : Place) {v : Bool} → c ≡ Some z → v ≡ zone_in (ahead file z.at z.line) → v ≡ time_in (ahead file at line)
      unfolding time_in IsClockRead
      time_zone z g q =
          let n : ClockRead file i.at i.line z = rw g at t.so in
          q ∙ ap zone_in n.rest ∙ rw ((took b i s e).bytes, is_t, n.good)

pub clock_before : {file : Bytes} {at line : ℕ} {r : Option Place} (p : Place) → ReadsClock file at line r → r ≡ Some p → Before file p.at p.line
unfolding IsClockRead
clock_before {file} {at} {line} p s e = let n : ClockRead file at line p = rw e at s.so in n.inside.before

pub ruleset time_ways = (took_before, clock_before, zone_none, zone_z, time_none, time_no_t, time_no_clock, time_zone, rules)

-- ---- a date
module _ {file : Bytes} {at line : ℕ} {r : Option (ℕ × Place)} (s : ReadsDay file at line r) where
  no_day_there : r ≡ None → day_in (ahead file at line) ≡ 0
  unfolding IsDayRead
  no_day_there e = rw e at s.so

  pub timed_no_day : r ≡ None → false ≡ is_date_time (ahead file at line)
  timed_no_day e =
      sym (time_behind (ahead file at line) ∙ ap (λ (x : Bool). x && time_in (drop 8 (ahead file at line))) (no_date (ahead file at line) (no_day_there e)))

  pub all_day_not : r ≡ None → SaysDate kind-is.Date (ahead file at line) (Err Ical)
  unfolding date_answer IsSmallDay kind_is by_kind pick
  all_day_not e =
      let s : Bytes = ahead file at line in
      record { same = rw (no_whole s (no_date s (no_day_there e))); few = tt }

  module _ (n : ℕ) (p : Place) (e : r ≡ Some (n, p)) where
    day_there : DayRead file at line n p
    unfolding IsDayRead
    day_there = rw e at s.so

    pub day_before : Before file p.at p.line
    day_before = day_there.inside.before

    is_day : (is_date (take 8 (ahead file at line)) ≡ true) × (day_in (ahead file at line) ≡ day_of (take 8 (ahead file at line)))
    is_day = some_date (ahead file at line) (λ z. omega (arith, day_there.number, day_there.some, z))

    pub timed_by : {v : Bool} → v ≡ time_in (ahead file p.at p.line) → v ≡ is_date_time (ahead file at line)
    timed_by q = q ∙ ap time_in day_there.rest ∙ sym (time_behind (ahead file at line) ∙ ap (λ (x : Bool). x && time_in (drop 8 (ahead file at line))) is_day.0)

    module _ {v : Bool} (q : v ≡ is_blank (ahead file p.at p.line)) where
      pub all_day_is : v ≡ true → SaysDate kind-is.Date (ahead file at line) (Ok n)
      unfolding date_answer IsSmallDay kind_is by_kind pick is_blank
      all_day_is t =
          let s : Bytes = ahead file at line in
          let w : take 8 s ≡ s = whole s (nothing_left (drop 8 s) (ap is_blank (sym day_there.rest) ∙ sym q ∙ t)) in
          let i : is_date s ≡ true = ap is_date (sym w) ∙ is_day.0 in
          let o : n ≡ day_of s = day_there.number ∙ is_day.1 ∙ ap day_of w in
          record {
            same = ap (λ (k : ℕ). given k) o ∙ rw i;
            few = (day_there.some, day_there.few);
          }
        where
          nothing_left : (u : Bytes) → is_blank u ≡ true → u ≡ []
          nothing_left [] e = refl
          nothing_left (b ∷ u) e = absurd (false≢true e)

      pub all_day_long : v ≡ false → SaysDate kind-is.Date (ahead file at line) (Err Ical)
      unfolding date_answer IsSmallDay kind_is by_kind pick
      all_day_long t =
          let s : Bytes = ahead file at line in
          record { same = rw (too_long s (ap is_blank (sym day_there.rest) ∙ sym q ∙ t)); few = tt }

pub ruleset said_ways = (day_before, timed_no_day, timed_by, all_day_is, all_day_long, all_day_not, rules)

module _ (s : Bytes) {k : Kind} where
  pub kind_date : {r : Result ℕ Refusal} → k ≡ kind-is.Date → SaysDate kind-is.Date s r → SaysDate k s r
  kind_date {r} e p = rw e p

  pub kind_strange : k ≡ kind-is.Strange → SaysDate k s (Err Ical)
  unfolding date_answer IsSmallDay kind_is by_kind pick
  kind_strange e = record { same = rw e; few = tt }

module _ (s : Bytes) (k : Kind) (no : k ≡ kind-is.Date → ⊥) (ns : k ≡ kind-is.Strange → ⊥) where
  with_time : by_kind (kind_is k) s ≡ pick (is_date_time s) timed bad
  unfolding kind_is by_kind pick
  with_time = go k no ns
    where
      go : (k : Kind) → (k ≡ kind-is.Date → ⊥) → (k ≡ kind-is.Strange → ⊥) → by_kind (kind_is k) s ≡ pick (is_date_time s) timed bad
      go kind-is.Unsaid n m = refl
      go kind-is.Date n m = absurd (n refl)
      go kind-is.DateTime n m = refl
      go kind-is.Strange n m = absurd (m refl)

  module _ {v : Bool} (q : v ≡ is_date_time s) where
    pub kind_timed : v ≡ true → SaysDate k s (Err IcalKind)
    unfolding date_answer IsSmallDay
    kind_timed t = record { same = ap date_answer (taken _ _ _ (sym q ∙ t) ∙ sym with_time); few = tt }

    pub kind_bad : v ≡ false → SaysDate k s (Err Ical)
    unfolding date_answer IsSmallDay
    kind_bad t = record { same = ap date_answer (left _ _ _ (sym q ∙ t) ∙ sym with_time); few = tt }

pub ruleset kind_ways = (kind_date, kind_strange, kind_timed, kind_bad, rules)
