-- A request from numbers.
-- Assumes nothing.
use Rattle.std.specs.Prelude.{ℕ, ℤ}
use Rattle.refusal.specs.Answer.{Answer, given, then}
use Rattle.steps.specs.declared.Request.{Request}
use Rattle.crossing.specs.Numbers.{unit_of, rule_of, convention_of, flag_of}

-- the request with its bytes read; a byte outside its list is 17
unfoldable pub request_of : (effective termination : ℕ) (size : ℤ) (unit rule convention terminal monthend first penultimate mask : ℕ) → Answer Request
request_of effective termination size unit rule convention terminal monthend first penultimate mask =
    then (unit_of unit) (λ u.
    then (rule_of rule) (λ r.
    then (convention_of convention) (λ c.
    then (convention_of terminal) (λ t.
    then (flag_of monthend) (λ m.
    given (record {
      effective = record { day = effective };
      termination = record { day = termination };
      tenor = record { length = size; unit = u };
      rule = r;
      convention = c;
      terminal = t;
      monthend = m;
      first = record { day = first };
      penultimate = record { day = penultimate };
      mask = mask;
    }))))))
