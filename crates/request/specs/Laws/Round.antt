-- Decoding what was encoded gives it back.
-- Assumes nothing.
use Rattle.std.specs.Prelude.{ℕ, zero, suc, ◌+◌, ◌*◌, ◌-◌, ◌≤◌, ◌<◌, ◌/◌, ◌%◌, ◌≡◌, Bool, false, ◌&&◌, ltb, eqb, ℤ, pos, negsuc, take, drop}
use Rattle.std.proofs.Math.Path.{refl, ap, sym}
use Rattle.std.proofs.Common.{◌∙◌, div-add-mod', drop_at}
use Rattle.std.proofs.Math.Bool.{true}
use mathlib.Core.List.{List, [], ◌∷◌, ◌++◌}
use native.Mathlib.Omega.{arith}
use borrow.Author.Tests.{lt-ltb, le-ltb, le-leb, ne_eqb, leb-true}
use Rattle.std.proofs.Math.Dec.{leb}
use Rattle.std.proofs.Math.ListN.{length, length-append}
use Rattle.std.proofs.Math.Seq.{take-append_seam}
use Rattle.refusal.specs.Answer.{given}
use Rattle.refusal.specs.Laws.Answers.{holds, then_given, need_given, one_given, both}
use Rattle.period.specs.declared.Unit.{Unit}
use Rattle.period.specs.declared.Unit.TheVariants.{Days, Weeks, Months, Years}
use Rattle.calendar.specs.declared.Convention.{Convention}
use Rattle.calendar.specs.declared.Convention.TheVariants.{Unadjusted, Following, ModifiedFollowing, Preceding, ModifiedPreceding}
use Rattle.steps.specs.declared.Rule.{Rule}
use Rattle.steps.specs.declared.Rule.TheVariants.{Zero, Backward, Forward, Twentieth, TwentiethIMM, ThirdWednesday, ThirdWednesdayInclusive, OldCDS, CDS, CDS2015}
use Rattle.steps.specs.declared.Request.{Request}
use Rattle.steps.specs.Rules.{rules, rule_number}
use Rattle.request.specs.Format.{pick, two, four, signed16, is_date, is_letter, is_tenor, is_below, are_dates, body_ok, Field, size_in, cut_at, cut_of, last_tag, is_end, on_field, on_cut, fields_from, body_or, date_of, unit_of, tenor_of, rule_of, convention_of, dates_of, request_from, closed_from, asked_from, asked_in, decoded}
use Rattle.request.specs.Laws.Picks.{taken, left}
use Rattle.calendar.specs.Adjust.{conventions, convention_number}
use Rattle.request.specs.Encode.{bits16, letter_of, bit, tenor_body, dates_in, field, fields_in, spelt, written, bytes_of, fits16, sayable, encoded}

-- ---- bodies read back
four_back : (n : ℕ) → four (n / 256 / 256 / 256) (n / 256 / 256 % 256) (n / 256 % 256) (n % 256) ≡ n
four_back n = rw (div-add-mod' (n / 256 / 256) 256, div-add-mod' (n / 256) 256, div-add-mod' n 256)

two_back : (n : ℕ) → two (n / 256) (n % 256) ≡ n
two_back n = div-add-mod' n 256

signed_back : (z : ℤ) → fits16 z ≡ true → signed16 (bits16 z) ≡ z
unfolding fits16 signed16 bits16
signed_back (pos n) h = taken _ _ (lt-ltb n 32768 (omega (arith, leb-true n 32767 h)))
signed_back (negsuc n) h =
    let l : n ≤ 32767 = leb-true n 32767 (both _ _ h).0 in
    let e : 65536 - suc (65535 - n) ≡ n = omega (arith, l) in
    left _ _ (le-ltb (65535 - n) 32768 (omega (arith, l))) ∙ rw (lt-ltb (65535 - n) 65536 (omega (arith, l))) (ap negsuc e)

unit_back : (u : Unit) → unit_of (letter_of u) ≡ u
unfolding unit_of letter_of pick
unit_back Days = refl
unit_back Weeks = refl
unit_back Months = refl
unit_back Years = refl

letter_ok : (u : Unit) → is_letter (letter_of u) ≡ true
unfolding is_letter letter_of pick
letter_ok Days = refl
letter_ok Weeks = refl
letter_ok Months = refl
letter_ok Years = refl

rule_back : (r : Rule) → rule_of (rule_number r) ≡ r
unfolding rule_of rules rule_number
rule_back Zero = refl
rule_back Backward = refl
rule_back Forward = refl
rule_back Twentieth = refl
rule_back TwentiethIMM = refl
rule_back ThirdWednesday = refl
rule_back ThirdWednesdayInclusive = refl
rule_back OldCDS = refl
rule_back CDS = refl
rule_back CDS2015 = refl

rule_ok : (r : Rule) → ltb (rule_number r) (length rules) ≡ true
unfolding rules rule_number
rule_ok Zero = refl
rule_ok Backward = refl
rule_ok Forward = refl
rule_ok Twentieth = refl
rule_ok TwentiethIMM = refl
rule_ok ThirdWednesday = refl
rule_ok ThirdWednesdayInclusive = refl
rule_ok OldCDS = refl
rule_ok CDS = refl
rule_ok CDS2015 = refl

convention_back : (c : Convention) → convention_of (convention_number c) ≡ c
unfolding convention_of conventions convention_number
convention_back Unadjusted = refl
convention_back Following = refl
convention_back ModifiedFollowing = refl
convention_back Preceding = refl
convention_back ModifiedPreceding = refl

convention_ok : (c : Convention) → ltb (convention_number c) (length conventions) ≡ true
unfolding conventions convention_number
convention_ok Unadjusted = refl
convention_ok Following = refl
convention_ok ModifiedFollowing = refl
convention_ok Preceding = refl
convention_ok ModifiedPreceding = refl

bit_back : (b : Bool) → eqb (bit b) 1 ≡ b
unfolding bit
bit_back true = refl
bit_back false = refl

bit_ok : (b : Bool) → ltb (bit b) 2 ≡ true
unfolding bit
bit_ok true = refl
bit_ok false = refl

pub dates_long : (dates : List ℕ) → length (dates_in dates) ≡ length dates * 4
unfolding dates_in
dates_long [] = refl
dates_long (d ∷ ds) = let e : length (dates_in ds) ≡ length ds * 4 = dates_long ds in omega (arith, e)

dates_back : (dates : List ℕ) → dates_of (length dates) (dates_in dates) ≡ dates
unfolding dates_of dates_in
dates_back [] = refl
dates_back (d ∷ ds) = ap (λ (n : ℕ). n ∷ dates_of (length ds) (dates_in ds)) (four_back d) ∙ ap (λ (l : List ℕ). d ∷ l) (dates_back ds)

-- ---- a field that was written is taken off whole
cut_back : (f : Field) (rest : List ℕ) → cut_of (spelt f.tag f.body ++ rest) ≡ given (record { field = f; rest = rest })
unfolding cut_of
cut_back f rest =
    let n : two (length f.body / 256) (length f.body % 256) ≡ length f.body = two_back (length f.body) in
    let long : 3 + length f.body ≤ length (spelt f.tag f.body ++ rest) = omega (arith, length-append f.body rest) in
    let whole : given (cut_at (spelt f.tag f.body ++ rest)) ≡ cut_of (spelt f.tag f.body ++ rest) = holds 17 _ _ _ (le-leb 3 (length (spelt f.tag f.body ++ rest)) (omega arith)) (holds 17 _ _ _ (le-leb (3 + size_in (spelt f.tag f.body ++ rest)) (length (spelt f.tag f.body ++ rest)) (omega (arith, n, long))) refl) in
    let body : take (two (length f.body / 256) (length f.body % 256)) (f.body ++ rest) ≡ f.body = ap (λ (k : ℕ). take k (f.body ++ rest)) n ∙ take-append_seam f.body rest in
    let size : length (spelt f.tag f.body) ≡ 3 + two (length f.body / 256) (length f.body % 256) = omega (arith, n) in
    let after : drop (3 + two (length f.body / 256) (length f.body % 256)) (spelt f.tag f.body ++ rest) ≡ rest = drop_at (spelt f.tag f.body) rest (3 + two (length f.body / 256) (length f.body % 256)) size in
    sym whole ∙ (λ i. given (record { field = record { tag = f.tag; body = body i }; rest = after i }))

-- ---- fields in the order of their tags are read back, the latest first
pub record Good (last : ℕ) (f : Field) : Type 0 where
  pub up : last < f.tag
  pub low : f.tag < 255
  pub ok : body_ok f.tag f.body ≡ true

unfoldable pub IsRising : ℕ → List Field → Type 0
IsRising last [] = last < 255
IsRising last (f ∷ fs) = Good last f × IsRising f.tag fs

unfoldable pub onto : List Field → List Field → List Field
onto [] acc = acc
onto (f ∷ fs) acc = onto fs (f ∷ acc)

fields_back : (fs acc : List Field) (n : ℕ) → length fs < n → IsRising (last_tag acc) fs → fields_from n acc (written fs) ≡ given (onto fs acc)
unfolding IsRising onto written fields_from on_cut on_field is_end last_tag
fields_back fs acc zero l h = absurd (omega arith)
fields_back [] acc (suc n) l h =
    sym (then_given _ _ (on_cut acc (fields_from n)) _ (cut_back (field 255 []) []) (holds 17 _ _ _ (lt-ltb (last_tag acc) 255 h) (holds 17 true (given acc) _ refl refl)))
fields_back (f ∷ fs) acc (suc n) l h =
    let on : given (onto fs (f ∷ acc)) ≡ on_field (eqb f.tag 255) acc (record { field = f; rest = written fs }) (fields_from n) = holds 17 _ _ _ h.0.ok (sym (fields_back fs (f ∷ acc) n (omega arith) h.1)) ∙ sym (ap (λ (b : Bool). on_field b acc (record { field = f; rest = written fs }) (fields_from n)) (ne_eqb f.tag 255 (λ e. omega (arith, e, h.0.low)))) in
    sym (then_given _ _ (on_cut acc (fields_from n)) _ (cut_back f (written fs)) (holds 17 _ _ _ (lt-ltb (last_tag acc) f.tag h.0.up) on))

-- ---- every request that can be said
module _ (q : Request) (closed : List ℕ) (can : sayable q (length closed) ≡ true) where
  pub fits : fits16 q.tenor.length ≡ true
  unfolding sayable
  fits = (both _ _ can).0

  mask_ok : ltb q.mask 128 ≡ true
  unfolding sayable
  mask_ok = (both (ltb q.mask 128) (leb (length closed) 4096) (both (fits16 q.tenor.length) _ can).1).0

  pub few : length closed ≤ 4096
  unfolding sayable
  few = leb-true (length closed) 4096 (both (ltb q.mask 128) (leb (length closed) 4096) (both (fits16 q.tenor.length) _ can).1).1

  many : length (dates_in closed) ≡ length closed * 4
  many = dates_long closed

  fourth : length (dates_in closed) / 4 ≡ length closed
  fourth = omega (arith, many)

  dates_are_ok : are_dates (dates_in closed) ≡ true
  unfolding are_dates
  dates_are_ok =
      let l : leb (length (dates_in closed)) 16384 ≡ true = le-leb (length (dates_in closed)) 16384 (omega (arith, many, few)) in
      let f : length (dates_in closed) % 4 ≡ 0 = omega (arith, many) in
      rw (l, f) refl

  all_good : IsRising 0 (fields_in q closed)
  unfolding IsRising fields_in body_ok pick is_date is_tenor is_below
  all_good = (
    record { up = omega arith; low = omega arith; ok = refl },
    (
      record { up = omega arith; low = omega arith; ok = refl },
      (
        record { up = omega arith; low = omega arith; ok = letter_ok q.tenor.unit },
        (
          record { up = omega arith; low = omega arith; ok = rule_ok q.rule },
          (
            record { up = omega arith; low = omega arith; ok = convention_ok q.convention },
            (
              record { up = omega arith; low = omega arith; ok = convention_ok q.terminal },
              (
                record { up = omega arith; low = omega arith; ok = bit_ok q.monthend },
                (
                  record { up = omega arith; low = omega arith; ok = refl },
                  (
                    record { up = omega arith; low = omega arith; ok = refl },
                    (
                      record { up = omega arith; low = omega arith; ok = mask_ok },
                      (
                        record { up = omega arith; low = omega arith; ok = dates_are_ok },
                        omega arith,
                      ),
                    ),
                  ),
                ),
              ),
            ),
          ),
        ),
      ),
    ),
  )

  abbrev latest_first : List Field
  latest_first = onto (fields_in q closed) []

  tenor_back : tenor_of (tenor_body q.tenor) ≡ q.tenor
  unfolding tenor_of
  tenor_back = λ i. record { length = (ap signed16 (two_back (bits16 q.tenor.length)) ∙ signed_back q.tenor.length fits) i; unit = unit_back q.tenor.unit i }

  request_back : request_from (body_or latest_first) ≡ q
  unfolding request_from body_or onto fields_in pick date_of
  request_back =
      λ i. record {
        effective = record { day = four_back q.effective.day i };
        termination = record { day = four_back q.termination.day i };
        tenor = tenor_back i;
        rule = rule_back q.rule i;
        convention = convention_back q.convention i;
        terminal = convention_back q.terminal i;
        monthend = bit_back q.monthend i;
        first = record { day = four_back q.first.day i };
        penultimate = record { day = four_back q.penultimate.day i };
        mask = q.mask;
      }

  closed_back : closed_from (body_or latest_first) ≡ closed
  unfolding closed_from body_or onto fields_in pick
  closed_back = ap (λ (n : ℕ). dates_of n (dates_in closed)) fourth ∙ dates_back closed

  both_there : is_date (body_or latest_first [] 1) && is_date (body_or latest_first [] 2) ≡ true
  unfolding is_date body_or onto fields_in pick
  both_there = refl

  pub bytes_long : length (bytes_of q closed) ≡ 60 + length closed * 4
  unfolding bytes_of written fields_in
  bytes_long = omega (arith, length-append (dates_in closed) (spelt 255 []), many)

  few_fields : length (fields_in q closed) < suc (length (bytes_of q closed))
  unfolding fields_in
  few_fields = omega (arith, bytes_long)

  -- what was encoded decodes to the request and its closed dates, wherever there is room for them
  pub round_trip : (room : ℕ) → length closed ≤ room → decoded (bytes_of q closed) room ≡ given (record { request = q; closed = closed })
  unfolding decoded asked_in asked_from bytes_of last_tag
  round_trip room h =
      let short : length (bytes_of q closed) ≤ 20000 = omega (arith, bytes_long, few) in
      let back : fields_from (suc (length (bytes_of q closed))) [] (bytes_of q closed) ≡ given latest_first = fields_back (fields_in q closed) [] (suc (length (bytes_of q closed))) few_fields all_good in
      let fit : leb (length (closed_from (body_or latest_first))) room ≡ true = le-leb _ room (omega (arith, ap length closed_back, h)) in
      sym (holds 17 _ _ _ (le-leb (length (bytes_of q closed)) 20000 short) (then_given _ latest_first (asked_in room) _ back (holds 17 _ _ _ both_there (holds 14 _ _ _ fit refl))))
      ∙ (λ i. given (record { request = request_back i; closed = closed_back i }))

-- whatever `encode` gives, `decode` gives back
pub encoded_decodes : (q : Request) (closed bytes : List ℕ) (room lent : ℕ) → encoded q closed lent ≡ given bytes → length closed ≤ room → decoded bytes room ≡ given (record { request = q; closed = closed })
unfolding encoded
encoded_decodes q closed bytes room lent e h =
    let a = need_given 17 _ _ bytes e in
    let b = need_given 14 _ _ bytes a.1 in
    ap (λ (s : List ℕ). decoded s room) (one_given (given (bytes_of q closed)) bytes (bytes_of q closed) b.1 refl) ∙ round_trip q closed a.0 room h
