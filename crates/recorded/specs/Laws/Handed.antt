-- What a build answered, handed on.
-- Assumes nothing.
use Rattle.std.specs.Prelude.{ℕ, ◌<◌, ◌≡◌, List, ℤ}
use Rattle.std.specs.Int.Signed.{mag}
use Rattle.std.specs.Int.{w64}
use Rattle.std.proofs.Common.{to_z, of_z}
use Rattle.refusal.specs.Answer.{Answer}
use Rattle.steps.specs.declared.Request.{Request}
use Rattle.crossing.specs.Laws.Calls.{handed}
use Rattle.recorded.specs.Builds.{Reported}

pub reported_as : {closed dates flags unadjusted answer dates' flags' unadjusted' answer' : List ℕ} {r : ℤ} (x y : Answer Request) → mag r < 9223372036854775808 → x ≡ y → Reported x closed r dates flags unadjusted answer dates' flags' unadjusted' answer' → Reported y closed (to_z w64 (of_z w64 r)) dates flags unadjusted answer dates' flags' unadjusted' answer'
reported_as {r = r} x y s e p =
    rw (← e) (record {
      count = handed r s p.count;
      dates_after_lem = p.dates_after_lem;
      flags_after_lem = p.flags_after_lem;
      unadjusted_after_lem = p.unadjusted_after_lem;
      answer_after = p.answer_after;
    })
