-- Document 01, "Request bytes and the program": which bytes are a request, and what they ask for.
-- Assumes nothing.
use Rattle.std.specs.Prelude.{ℕ, zero, suc, ◌+◌, ◌*◌, ◌/◌, ◌%◌, Bool, true, false, ◌&&◌, List, [], ◌∷◌, eqb, leb, ltb, ℤ, pos, length, take, drop, get_or}
use Rattle.std.proofs.Math.IntN.{sub_ℕ}
use Rattle.refusal.specs.Answer.{Answer, given, refused, need, then, ROOM, REQUEST}
use Rattle.period.specs.declared.Unit.{Unit}
use Rattle.period.specs.declared.Unit.TheVariants.{Days, Weeks, Months, Years}
use Rattle.period.specs.declared.Period.{Period}
use Rattle.calendar.specs.declared.Convention.{Convention}
use Rattle.calendar.specs.declared.Convention.TheVariants.{ModifiedPreceding}
use Rattle.calendar.specs.Adjust.{conventions}
use Rattle.steps.specs.declared.Rule.{Rule}
use Rattle.steps.specs.declared.Rule.TheVariants.{CDS2015}
use Rattle.steps.specs.declared.Request.{Request}
use Rattle.steps.specs.Rules.{rules}
use Rattle.request.specs.Tags.{EFFECTIVE, TERMINATION, TENOR, RULE, CONVENTION, TERMINAL, MONTHEND, FIRST, PENULTIMATE, MASK, CLOSED, END}

unfoldable pub pick : {A : Type 0} → Bool → A → A → A
pick true a b = a
pick false a b = b

-- ---- numbers, high byte first
abbrev pub two : ℕ → ℕ → ℕ
two a b = a * 256 + b

abbrev pub four : (a b c d : ℕ) → ℕ
four a b c d = ((a * 256 + b) * 256 + c) * 256 + d

unfoldable pub signed16 : ℕ → ℤ
signed16 n = pick (ltb n 32768) (pos n) (sub_ℕ n 65536)

-- ---- what a body may be: a date; a tenor; a byte of a list of so many; closed dates
unfoldable pub is_date : List ℕ → Bool
is_date s = eqb (length s) 4

unfoldable pub is_letter : ℕ → Bool
is_letter b = pick (eqb b 68) true (pick (eqb b 87) true (pick (eqb b 77) true (eqb b 89)))

unfoldable pub is_tenor : List ℕ → Bool
is_tenor s = eqb (length s) 3 && is_letter (get_or s 0 0)

unfoldable pub is_below : ℕ → List ℕ → Bool
is_below limit s = eqb (length s) 1 && ltb (get_or s 0 0) limit

unfoldable pub are_dates : List ℕ → Bool
are_dates s = leb (length s) 16384 && eqb (length s % 4) 0

-- the fields before the end; no other tag is one
unfoldable pub body_ok : ℕ → List ℕ → Bool
body_ok tag s =
    pick (eqb tag EFFECTIVE) (is_date s)
    (pick (eqb tag TERMINATION) (is_date s)
    (pick (eqb tag TENOR) (is_tenor s)
    (pick (eqb tag RULE) (is_below (length rules) s)
    (pick (eqb tag CONVENTION) (is_below (length conventions) s)
    (pick (eqb tag TERMINAL) (is_below (length conventions) s)
    (pick (eqb tag MONTHEND) (is_below 2 s)
    (pick (eqb tag FIRST) (is_date s)
    (pick (eqb tag PENULTIMATE) (is_date s)
    (pick (eqb tag MASK) (is_below 128 s)
    (pick (eqb tag CLOSED) (are_dates s)
    false))))))))))

-- ---- a field: one-byte tag, two-byte length, body
pub record Field : Type 0 where
  pub tag : ℕ
  pub body : List ℕ

-- a field taken off the front, and what is left
pub record Cut : Type 0 where
  pub field : Field
  pub rest : List ℕ

abbrev pub size_in : List ℕ → ℕ
size_in s = two (get_or s 1 0) (get_or s 2 0)

abbrev pub cut_at : List ℕ → Cut
cut_at s = record { field = record { tag = get_or s 0 0; body = take (size_in s) (drop 3 s) }; rest = drop (3 + size_in s) s }

unfoldable pub cut_of : List ℕ → Answer Cut
cut_of s = need REQUEST (leb 3 (length s)) (need REQUEST (leb (3 + size_in s) (length s)) (given (cut_at s)))

-- ---- the fields, the latest first: tags strictly ascending, and FF, of length 0, with nothing behind it
unfoldable pub last_tag : List Field → ℕ
last_tag [] = 0
last_tag (f ∷ fs) = f.tag

unfoldable pub is_end : Cut → Bool
is_end c = eqb (length c.field.body) 0 && eqb (length c.rest) 0

unfoldable pub on_field : Bool → List Field → Cut → (List Field → List ℕ → Answer (List Field)) → Answer (List Field)
on_field true fs c on = need REQUEST (is_end c) (given fs)
on_field false fs c on = need REQUEST (body_ok c.field.tag c.field.body) (on (c.field ∷ fs) c.rest)

unfoldable pub on_cut : List Field → (List Field → List ℕ → Answer (List Field)) → Cut → Answer (List Field)
on_cut fs on c = need REQUEST (ltb (last_tag fs) c.field.tag) (on_field (eqb c.field.tag END) fs c on)

-- each field takes three bytes at least, so that a request has fewer of them than bytes
unfoldable pub fields_from : ℕ → List Field → List ℕ → Answer (List Field)
fields_from zero fs s = refused REQUEST
fields_from (suc n) fs s = then (cut_of s) (on_cut fs (fields_from n))

-- ---- the body of the field with that tag, or what stands for it where it is left out
unfoldable pub body_or : List Field → List ℕ → ℕ → List ℕ
body_or [] left_out tag = left_out
body_or (f ∷ fs) left_out tag = pick (eqb f.tag tag) f.body (body_or fs left_out tag)

-- ---- what a body says
unfoldable pub date_of : List ℕ → ℕ
date_of s = four (get_or s 0 0) (get_or s 1 0) (get_or s 2 0) (get_or s 3 0)

abbrev pub byte_of : List ℕ → ℕ
byte_of s = get_or s 0 0

-- the letters D, W, M, Y
unfoldable pub unit_of : ℕ → Unit
unit_of b = pick (eqb b 68) Days (pick (eqb b 87) Weeks (pick (eqb b 77) Months Years))

unfoldable pub tenor_of : List ℕ → Period
tenor_of s = record { length = signed16 (two (get_or s 1 0) (get_or s 2 0)); unit = unit_of (get_or s 0 0) }

-- places in document 01's lists; the byte lies below the list's length
unfoldable pub rule_of : ℕ → Rule
rule_of b = get_or rules b CDS2015

unfoldable pub convention_of : ℕ → Convention
convention_of b = get_or conventions b ModifiedPreceding

-- closed dates, 4 bytes each
unfoldable pub dates_of : ℕ → List ℕ → List ℕ
dates_of zero s = []
dates_of (suc n) s = four (get_or s 0 0) (get_or s 1 0) (get_or s 2 0) (get_or s 3 0) ∷ dates_of n (drop 4 s)

-- ---- the request: left out are 0 days, Backward, Unadjusted, off, no anchor, always open
unfoldable pub request_from : (List ℕ → ℕ → List ℕ) → Request
request_from body =
    record {
      effective = record { day = date_of (body [] EFFECTIVE) };
      termination = record { day = date_of (body [] TERMINATION) };
      tenor = tenor_of (body (68 ∷ 0 ∷ 0 ∷ []) TENOR);
      rule = rule_of (byte_of (body (1 ∷ []) RULE));
      convention = convention_of (byte_of (body (0 ∷ []) CONVENTION));
      terminal = convention_of (byte_of (body (0 ∷ []) TERMINAL));
      monthend = eqb (byte_of (body (0 ∷ []) MONTHEND)) 1;
      first = record { day = date_of (body [] FIRST) };
      penultimate = record { day = date_of (body [] PENULTIMATE) };
      mask = byte_of (body (0 ∷ []) MASK);
    }

unfoldable pub closed_from : (List ℕ → ℕ → List ℕ) → List ℕ
closed_from body = dates_of (length (body [] CLOSED) / 4) (body [] CLOSED)

pub record Asked : Type 0 where
  pub request : Request
  pub closed : List ℕ

-- both dates needed; then room for the closed dates
unfoldable pub asked_from : ℕ → (List ℕ → ℕ → List ℕ) → Answer Asked
asked_from room body =
    need REQUEST (is_date (body [] EFFECTIVE) && is_date (body [] TERMINATION))
    (need ROOM (leb (length (closed_from body)) room)
    (given (record { request = request_from body; closed = closed_from body })))

unfoldable pub asked_in : ℕ → List Field → Answer Asked
asked_in room fs = asked_from room (body_or fs)

-- what the bytes, at most 20,000, ask for, where there is room for so many closed dates
unfoldable pub decoded : List ℕ → ℕ → Answer Asked
decoded s room =
    need REQUEST (leb (length s) 20000) (then (fields_from (suc (length s)) [] s) (asked_in room))
