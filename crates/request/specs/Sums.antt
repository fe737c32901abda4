-- Document 01's own request, and bytes that are none.
-- Assumes nothing.
use Rattle.std.specs.Prelude.{ℕ, ◌≡◌, refl, true, false, List, [], ◌∷◌, ◌++◌, map, length, ℤ, pos, negsuc}
use Rattle.refusal.specs.Answer.{given, refused, number, need, then}
use Rattle.period.specs.declared.Unit.{Unit}
use Rattle.period.specs.declared.Unit.TheVariants.{Days, Months, Weeks}
use Rattle.calendar.specs.declared.Convention.TheVariants.{Unadjusted, Preceding, ModifiedPreceding}
use Rattle.steps.specs.declared.Rule.TheVariants.{Backward, CDS2015}
use Rattle.steps.specs.declared.Request.{Request}
use Rattle.steps.specs.Rules.{rules, rule_number}
use Rattle.calendar.specs.Adjust.{conventions, convention_number}
use Rattle.request.specs.Encode.{bits16, letter_of, bit, dates_in, fields_in, written, bytes_of, fits16, sayable, encoded}
use Rattle.request.specs.Format.{pick, signed16, is_date, is_letter, is_tenor, is_below, are_dates, body_ok, cut_of, last_tag, is_end, on_field, on_cut, fields_from, body_or, date_of, unit_of, tenor_of, rule_of, convention_of, dates_of, request_from, closed_from, asked_from, asked_in, decoded}

abbrev from : List ℕ
from = 1 ∷ 0 ∷ 4 ∷ 0 ∷ 11 ∷ 67 ∷ 108 ∷ []

abbrev to : List ℕ
to = 2 ∷ 0 ∷ 4 ∷ 0 ∷ 11 ∷ 68 ∷ 3 ∷ []

abbrev monthly : List ℕ
monthly = 3 ∷ 0 ∷ 3 ∷ 77 ∷ 0 ∷ 1 ∷ []

abbrev end : List ℕ
end = 255 ∷ 0 ∷ 0 ∷ []

-- the request of these two dates, with a tenor
abbrev asking : ℤ → Unit → Request
asking length unit =
    record {
      effective = record { day = 738156 };
      termination = record { day = 738307 };
      tenor = record { length = length; unit = unit };
      rule = Backward;
      convention = Unadjusted;
      terminal = Unadjusted;
      monthend = false;
      first = record { day = 0 };
      penultimate = record { day = 0 };
      mask = 0;
    }

-- document 01's bytes, and what they ask for
pub sample : decoded (from ++ to ++ monthly ++ end) 0 ≡ given (record { request = asking (pos 1) Months; closed = [] })
unfolding need then pick signed16 is_date is_letter is_tenor is_below are_dates body_ok cut_of last_tag is_end on_field on_cut fields_from body_or date_of unit_of tenor_of rule_of rules convention_of conventions dates_of request_from closed_from asked_from asked_in decoded
sample = refl

-- a tenor of -2 weeks, every byte at the end of its list, two closed dates
abbrev far : List ℕ
far =
    from ++ to ++ (3 ∷ 0 ∷ 3 ∷ 87 ∷ 255 ∷ 254 ∷ 4 ∷ 0 ∷ 1 ∷ 9 ∷ 5 ∷ 0 ∷ 1 ∷ 4 ∷ 6 ∷ 0 ∷ 1 ∷ 3 ∷ 7 ∷ 0 ∷ 1 ∷ 1 ∷ [])
    ++ (8 ∷ 0 ∷ 4 ∷ 0 ∷ 11 ∷ 67 ∷ 110 ∷ 9 ∷ 0 ∷ 4 ∷ 255 ∷ 255 ∷ 255 ∷ 255 ∷ 10 ∷ 0 ∷ 1 ∷ 127 ∷ [])
    ++ (11 ∷ 0 ∷ 8 ∷ 0 ∷ 11 ∷ 67 ∷ 109 ∷ 0 ∷ 11 ∷ 67 ∷ 111 ∷ []) ++ end

pub furthest : decoded far 2 ≡ given (record {
  request = record {
    effective = record { day = 738156 };
    termination = record { day = 738307 };
    tenor = record { length = negsuc 1; unit = Weeks };
    rule = CDS2015;
    convention = ModifiedPreceding;
    terminal = Preceding;
    monthend = true;
    first = record { day = 738158 };
    penultimate = record { day = 4294967295 };
    mask = 127;
  };
  closed = 738157 ∷ 738159 ∷ [];
})
unfolding need then pick signed16 is_date is_letter is_tenor is_below are_dates body_ok cut_of last_tag is_end on_field on_cut fields_from body_or date_of unit_of tenor_of rule_of rules convention_of conventions dates_of request_from closed_from asked_from asked_in decoded
furthest = refl

-- a list with room for one of the two
pub no_room : decoded far 1 ≡ refused 14
unfolding need then pick signed16 is_date is_letter is_tenor is_below are_dates body_ok cut_of last_tag is_end on_field on_cut fields_from body_or date_of unit_of tenor_of rule_of rules convention_of conventions dates_of request_from closed_from asked_from asked_in decoded
no_room = refl

-- ---- bytes that are no request
abbrev bad : List (List ℕ)
bad =
    -- nothing
    [] ∷
    -- no dates
    end ∷
    -- one date
    (from ++ end) ∷
    -- out of order
    (to ++ from ++ end) ∷
    -- out of order, after both
    (from ++ to ++ (5 ∷ 0 ∷ 1 ∷ 0 ∷ 4 ∷ 0 ∷ 1 ∷ 0 ∷ []) ++ end) ∷
    -- repeated
    (from ++ to ++ to ++ end) ∷
    -- unknown tags
    (from ++ to ++ (12 ∷ 0 ∷ 0 ∷ []) ++ end) ∷
    ((0 ∷ 0 ∷ 0 ∷ []) ++ from ++ to ++ end) ∷
    -- a length that is too long, by one and by far
    (from ++ to ++ (3 ∷ 0 ∷ 4 ∷ 77 ∷ 0 ∷ 1 ∷ []) ++ end) ∷
    (from ++ to ++ (3 ∷ 0 ∷ 7 ∷ 77 ∷ 0 ∷ 1 ∷ []) ++ end) ∷
    -- too short
    (from ++ to ++ (3 ∷ 0 ∷ 2 ∷ 77 ∷ 0 ∷ 1 ∷ []) ++ end) ∷
    -- low byte first
    (from ++ to ++ (3 ∷ 3 ∷ 0 ∷ 77 ∷ 0 ∷ 1 ∷ []) ++ end) ∷
    -- a second FF, a byte behind it, a body in it, none, and one cut off
    (from ++ to ++ end ++ end) ∷
    (from ++ to ++ end ++ (0 ∷ [])) ∷
    (from ++ to ++ (255 ∷ 0 ∷ 1 ∷ 0 ∷ [])) ∷
    (from ++ to) ∷
    (from ++ to ++ (255 ∷ 0 ∷ [])) ∷
    -- a letter, a rule, conventions, end of month and a mask outside their lists
    (from ++ to ++ (3 ∷ 0 ∷ 3 ∷ 100 ∷ 0 ∷ 1 ∷ []) ++ end) ∷
    (from ++ to ++ (4 ∷ 0 ∷ 1 ∷ 10 ∷ []) ++ end) ∷
    (from ++ to ++ (5 ∷ 0 ∷ 1 ∷ 5 ∷ []) ++ end) ∷
    (from ++ to ++ (6 ∷ 0 ∷ 1 ∷ 5 ∷ []) ++ end) ∷
    (from ++ to ++ (7 ∷ 0 ∷ 1 ∷ 2 ∷ []) ++ end) ∷
    (from ++ to ++ (10 ∷ 0 ∷ 1 ∷ 128 ∷ []) ++ end) ∷
    -- closed dates not by fours
    (from ++ to ++ (11 ∷ 0 ∷ 5 ∷ 0 ∷ 11 ∷ 67 ∷ 109 ∷ 0 ∷ []) ++ end) ∷
    []

pub none : (map (λ s. number (decoded s 9)) bad) ≡ (17 ∷ 17 ∷ 17 ∷ 17 ∷ 17 ∷ 17 ∷ 17 ∷ 17 ∷ 17 ∷ 17 ∷ 17 ∷ 17 ∷ 17 ∷ 17 ∷ 17 ∷ 17 ∷ 17 ∷ 17 ∷ 17 ∷ 17 ∷ 17 ∷ 17 ∷ 17 ∷ 17 ∷ [])
unfolding need then pick signed16 is_date is_letter is_tenor is_below are_dates body_ok cut_of last_tag is_end on_field on_cut fields_from body_or date_of unit_of tenor_of rule_of rules convention_of conventions dates_of request_from closed_from asked_from asked_in decoded number
none = refl

-- ---- encoded: every field written, and the refusals
pub said : encoded (asking (pos 1) Months) (738157 ∷ []) 64 ≡ given (
    from ++ to ++ monthly ++ (4 ∷ 0 ∷ 1 ∷ 1 ∷ 5 ∷ 0 ∷ 1 ∷ 0 ∷ 6 ∷ 0 ∷ 1 ∷ 0 ∷ 7 ∷ 0 ∷ 1 ∷ 0 ∷ 8 ∷ 0 ∷ 4 ∷ 0 ∷ 0 ∷ 0 ∷ 0 ∷ [])
    ++ (9 ∷ 0 ∷ 4 ∷ 0 ∷ 0 ∷ 0 ∷ 0 ∷ 10 ∷ 0 ∷ 1 ∷ 0 ∷ 11 ∷ 0 ∷ 4 ∷ 0 ∷ 11 ∷ 67 ∷ 109 ∷ []) ++ end)
unfolding need bits16 letter_of convention_number bit dates_in fields_in written bytes_of fits16 sayable encoded rule_number
said = refl

pub no_room_to_say : encoded (asking (pos 1) Months) (738157 ∷ []) 63 ≡ refused 14
unfolding need bits16 letter_of convention_number bit dates_in fields_in written bytes_of fits16 sayable encoded rule_number
no_room_to_say = refl

pub too_long_to_say : encoded (asking (pos 32768) Months) [] 63 ≡ refused 17
unfolding need bits16 letter_of convention_number bit dates_in fields_in written bytes_of fits16 sayable encoded rule_number
too_long_to_say = refl

pub longest_said : length (bytes_of (asking (negsuc 32767) Days) []) ≡ 60
unfolding bits16 letter_of convention_number bit dates_in fields_in written bytes_of rule_number
longest_said = refl
