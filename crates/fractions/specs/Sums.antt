-- Request L12's worked answers, computed: one list, one claim for the parts, one for the bits of the fractions, one for the reports.
-- Assumes nothing.
use Rattle.std.specs.Prelude.{ℕ, ◌≡◌, refl, List, [], ◌∷◌, Float}
use Rattle.std.specs.Float.{binary64}
use Rattle.std.specs.Float.Ieee.{to_bits, of_int, div, round, size, units, odd, span, climb}
use Rattle.refusal.specs.Answer.{Answer, given, refused, need, then}
use Rattle.date.specs.Civil.{leap, row_of, gone, guess, years_gone, sum_to, month_in, day_in, place_of, day_number, fields_at}
use Rattle.fractions.specs.declared.Basis.{Basis}
use Rattle.fractions.specs.declared.Basis.TheVariants.{Actual360, Actual365, Thirty360}
use Rattle.fractions.specs.declared.Parts.{Parts}
use Rattle.fractions.specs.declared.reports.Sums.{Sums}
use Rattle.fractions.specs.Fractions.{in_span, place, count, under, parts_of, quotient, fraction_of}
use Rattle.fractions.specs.Reports.{all_in, rises_from, rises, sum_from, sum_of, sums_of, report_of}

abbrev by : Basis → ℕ → ℕ → ℕ → ℕ → ℕ → ℕ → Answer Parts
by k y m d y' m' d' = parts_of k (day_number y m d) (day_number y' m' d')

infix 5 ◌over◌
abbrev ◌over◌ : ℕ → ℕ → Answer Parts
n over d = given (record { numerator = n; denominator = d })

parts : ◌≡◌ {A = List (Answer Parts)}
    -- 30E/360: February stands as it is, and the 31st counts as the 30th at either end by itself
    (by Thirty360 2025 2 28 2025 3 31 ∷ by Thirty360 2025 2 28 2025 3 1 ∷ by Thirty360 2024 2 29 2024 3 1 ∷ by Thirty360 2025 1 31 2025 2 28
    ∷ by Thirty360 2025 1 29 2025 3 31 ∷ by Thirty360 2025 1 30 2025 1 31
    -- not reduced, equal dates
    ∷ by Actual360 2025 1 15 2025 4 15 ∷ by Actual360 2025 1 15 2025 1 15 ∷ by Actual365 2025 1 15 2025 1 15 ∷ by Thirty360 2025 1 15 2025 1 15
    -- the span's ends, the order of the refusals
    ∷ parts_of Actual360 657072 693961 ∷ parts_of Actual360 657071 693961 ∷ parts_of Actual360 693961 876217 ∷ parts_of Actual360 0 693961
    ∷ parts_of Actual360 739252 0 ∷ by Thirty360 2025 1 31 2025 1 30 ∷ by Actual365 2024 1 1 2025 1 1 ∷ parts_of Thirty360 657072 876216 ∷ [])
    ((32 over 360) ∷ (3 over 360) ∷ (2 over 360) ∷ (28 over 360)
    ∷ (61 over 360) ∷ (0 over 360)
    ∷ (90 over 360) ∷ (0 over 360) ∷ (0 over 365) ∷ (0 over 360)
    ∷ (36889 over 360) ∷ refused 2 ∷ refused 2 ∷ refused 2
    ∷ refused 2 ∷ refused 26 ∷ (366 over 365) ∷ (215999 over 360) ∷ [])
unfolding leap row_of gone guess years_gone sum_to month_in day_in place_of day_number fields_at need then in_span place count under parts_of
parts = refl

-- the bits of a fraction
abbrev bits : Answer Float → Answer ℕ
bits a = then a (λ x. given (to_bits binary64 x))

fractions : ◌≡◌ {A = List (Answer ℕ)}
    (bits (fraction_of Actual360 739266 739356) ∷ bits (fraction_of Actual360 739266 739271) ∷ bits (fraction_of Actual365 739266 739269)
    ∷ bits (fraction_of Actual360 739266 739266) ∷ bits (fraction_of Actual365 738886 739252) ∷ bits (fraction_of Actual360 739266 739265) ∷ bits (fraction_of Actual360 657071 739265) ∷ [])
    (given 0x3fd0_0000_0000_0000 ∷ given 0x3f8c_71c7_1c71_c71c ∷ given 0x3f80_d537_6881_0d53
    ∷ given 0 ∷ given 0x3ff0_0b38_cf9b_00b4 ∷ refused 26 ∷ refused 2 ∷ [])
unfolding need then in_span count under parts_of quotient fraction_of to_bits of_int div round size units odd span climb
fractions = refl

abbrev sums : ℕ → ℕ → ℕ → Answer Sums
sums a b c = given (record { actual360 = a; actual365 = b; thirty360 = c })

reports : ◌≡◌ {A = List (Answer Sums)}
    (report_of (739266 ∷ 739330 ∷ 739422 ∷ 739514 ∷ 739605 ∷ [])
    ∷ report_of [] ∷ report_of (739266 ∷ []) ∷ report_of (657071 ∷ [])
    ∷ report_of (739261 ∷ 739260 ∷ 0 ∷ []) ∷ report_of (739252 ∷ 739311 ∷ 739283 ∷ 739403 ∷ [])
    ∷ report_of (739282 ∷ 739310 ∷ 739310 ∷ 739341 ∷ []) ∷ [])
    (sums 339 339 335
    ∷ sums 0 0 0 ∷ sums 0 0 0 ∷ refused 2
    ∷ refused 2 ∷ refused 26
    ∷ sums 59 59 60 ∷ [])
unfolding leap row_of gone guess years_gone sum_to month_in day_in place_of day_number fields_at need then in_span place count under all_in rises_from rises sum_from sum_of sums_of report_of
reports = refl
