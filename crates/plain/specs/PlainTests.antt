-- The tests of `is_plain`: all but that of the rule are those of a straight request.
-- Assumes nothing.
use Rattle.std.specs.Prelude.{Bool, true, false, not, ◌&&◌, eqb, ltb}
use Rattle.period.specs.Period.{is_positive}
use Rattle.calendar.specs.declared.Convention.{Convention}
use Rattle.calendar.specs.declared.Convention.TheVariants.{Unadjusted, Following, ModifiedFollowing, Preceding, ModifiedPreceding}
use Rattle.steps.specs.declared.Request.{Request}

unfoldable pub is_unadjusted : Convention → Bool
is_unadjusted Unadjusted = true
is_unadjusted Following = false
is_unadjusted ModifiedFollowing = false
is_unadjusted Preceding = false
is_unadjusted ModifiedPreceding = false

-- ---- no anchors, and effective before termination
abbrev pub is_unanchored : Request → Bool
is_unanchored q = eqb q.first.day 0 && (eqb q.penultimate.day 0 && ltb q.effective.day q.termination.day)

-- and positive tenor, both conventions Unadjusted, end of month off; under whatever rule
unfoldable pub is_straight : Request → Bool
is_straight q =
    is_positive q.tenor.length
    && (is_unadjusted q.convention && (is_unadjusted q.terminal && (not q.monthend && is_unanchored q)))
