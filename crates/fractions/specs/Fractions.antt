-- Request L12, "Year fractions": numerator and denominator of a period, and the fraction as a float. A period is two paid dates, which lie
-- from 1800 to 2399, in the book or not.
-- Assumes nothing.
use Rattle.std.specs.Prelude.{ℕ, ◌+◌, ◌-◌, ◌*◌, min, Bool, ◌&&◌, List, [], ◌∷◌, leb, pos, Float}
use Rattle.std.specs.Float.{binary64}
use Rattle.std.specs.Float.Ieee.{of_int, div}
use Rattle.refusal.specs.Answer.{Answer, given, refused, need, then, at_place, BOOK, REVERSED}
use Rattle.date.specs.Civil.{fields_of}
use Rattle.date.specs.Date.{SPAN_FIRST, SPAN_LAST}
use Rattle.fractions.specs.declared.Basis.{Basis}
use Rattle.fractions.specs.declared.Basis.TheVariants.{Actual360, Actual365, Thirty360}
use Rattle.fractions.specs.declared.Parts.{Parts}
use Rattle.fractions.specs.declared.Fraction.{Fraction}
use Rattle.fractions.specs.declared.Fraction.TheVariants as fraction-is

-- ---- what each case of a fraction says: its value, or the number of the refusal
unfoldable pub fraction : Fraction → Answer Float
fraction (fraction-is.Of x) = given x
fraction (fraction-is.Refused n) = refused n

-- the bases, in the request's order: a basis's number is its place
abbrev pub bases : List Basis
bases = Actual360 ∷ Actual365 ∷ Thirty360 ∷ []

abbrev pub basis_of : ℕ → Answer Basis
basis_of = at_place bases

-- ---- the parts of a period
unfoldable pub in_span : ℕ → Bool
in_span n = leb SPAN_FIRST n && leb n SPAN_LAST

-- 30E/360 (2006 ISDA Definitions, 4.16 (g)): months of 30 days; the 31st counts as the 30th, and February stands as it is
unfoldable pub place : ℕ → ℕ
place n = 360 * (fields_of n).year + 30 * (fields_of n).month + min (fields_of n).day 30

-- the days from day a to day b
unfoldable pub count : Basis → ℕ → ℕ → ℕ
count Actual360 a b = b - a
count Actual365 a b = b - a
count Thirty360 a b = place b - place a

-- the days of a year
unfoldable pub under : Basis → ℕ
under Actual360 = 360
under Actual365 = 365
under Thirty360 = 360

-- not reduced
abbrev pub parts_between : Basis → ℕ → ℕ → Parts
parts_between k a b = record { numerator = count k a b; denominator = under k }

-- 2 of both dates, then 26
unfoldable pub parts_of : Basis → ℕ → ℕ → Answer Parts
parts_of k a b = need BOOK (in_span a && in_span b) (need REVERSED (leb a b) (given (parts_between k a b)))

-- ---- the fraction: one division of the two parts, rounded once
unfoldable pub quotient : Parts → Float
quotient p = div binary64 (of_int binary64 (pos p.numerator)) (of_int binary64 (pos p.denominator))

unfoldable pub fraction_of : Basis → ℕ → ℕ → Answer Float
fraction_of k a b = then (parts_of k a b) (λ p. given (quotient p))
