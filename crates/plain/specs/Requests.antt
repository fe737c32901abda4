-- Requests of worked answers: each field in a request's order, and dates of 2025.
-- Assumes nothing.
use Rattle.std.specs.Prelude.{ℕ, Bool, ℤ, pos}
use Rattle.period.specs.declared.Unit.{Unit}
use Rattle.date.specs.Civil.{day_number}
use Rattle.calendar.specs.declared.Convention.{Convention}
use Rattle.steps.specs.declared.Rule.{Rule}
use Rattle.steps.specs.declared.Request.{Request}

-- a date of 2025
abbrev pub on : ℕ → ℕ → ℕ
on month day = day_number 2025 month day

-- Saturdays and Sundays closed
abbrev pub weekends : ℕ
weekends = 96

abbrev pub request : (rule : Rule) (convention terminal : Convention) (monthend : Bool) (from to : ℕ) (length : ℤ) (unit : Unit) (first penultimate mask : ℕ) → Request
request rule convention terminal monthend from to length unit first penultimate mask =
    record {
      effective = record { day = from };
      termination = record { day = to };
      tenor = record { length = length; unit = unit };
      rule = rule;
      convention = convention;
      terminal = terminal;
      monthend = monthend;
      first = record { day = first };
      penultimate = record { day = penultimate };
      mask = mask;
    }

-- of a tenor that is not negative
abbrev pub asked : (rule : Rule) (convention terminal : Convention) (monthend : Bool) (from to length : ℕ) (unit : Unit) (first penultimate mask : ℕ) → Request
asked rule convention terminal monthend from to length unit first penultimate mask =
    request rule convention terminal monthend from to (pos length) unit first penultimate mask
