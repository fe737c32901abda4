-- A build from request bytes: a law for each way.
-- Assumes nothing.
use Prim.Native.Nat.{ℕ, ◌-◌, ◌≤◌}
use mathlib.Core.Path.{◌≡◌, refl, ap, sym, ◌∙◌}
use mathlib.Core.List.{List}
use native.Mathlib.Omega.{arith}
use lib.IntN.{ℤ}
use lib.ListN.{length, take, drop}
use Rattle.std.specs.Prelude.{Result, Ok, Err}
use Rattle.refusal.specs.declared.Refusal.{Refusal}
use Rattle.refusal.specs.Refusals.{number_of}
use Rattle.refusal.specs.Answer.{Answer, given, refused, then}
use Rattle.steps.specs.declared.Request.{Request}
use Rattle.request.specs.declared.Decoded.{Decoded}
use Rattle.request.specs.Format.{decoded}
use Rattle.request.specs.Decode.{Decodes}
use Rattle.request.specs.Laws.Held.{read_fits, held, unread, closed_part}
use Rattle.recorded.specs.Bytes.{request_in, closed_in}
use Rattle.recorded.specs.Builds.{outcome, Reported}

module _ (s old list : List ℕ) (r : Result Decoded Refusal) (d : Decodes (decoded s (length old)) r old list) where
  -- the part of the list that holds the closed dates
  pub part_fits : (a : Decoded) → r ≡ Ok a → length list ≡ length old → a.closed ≤ length list
  part_fits a e l =
      let h = held _ r a d.answer e in
      let f = read_fits s (length old) h.asked h.from in
      omega (arith, f, h.count, l)

  pub part_is : (a : Decoded) → r ≡ Ok a → take (a.closed - 0) (drop 0 list) ≡ closed_in (decoded s (length old))
  unfolding closed_in
  part_is a e =
      let h = held _ r a d.answer e in
      closed_part _ old list h.asked a.closed h.from d.dates h.count ∙ ap closed_in (sym h.from)

  pub request_is : (a : Decoded) → r ≡ Ok a → given a.request ≡ request_in (decoded s (length old))
  unfolding request_in
  request_is a e =
      let h = held _ r a d.answer e in
      rw h.from (ap given (sym h.request))

  pub refusal_is : (k : Refusal) → r ≡ Err k → refused (number_of k) ≡ request_in (decoded s (length old))
  unfolding request_in
  refusal_is k e = rw (unread _ r k d.answer e) refl

-- a refused request does not look at the closed dates
pub closed_unread : {closed closed' dates flags unadjusted answer dates' flags' unadjusted' answer' : List ℕ} {r : ℤ} (n : ℕ) → Reported (refused n) closed r dates flags unadjusted answer dates' flags' unadjusted' answer' → Reported (refused n) closed' r dates flags unadjusted answer dates' flags' unadjusted' answer'
unfolding outcome then
closed_unread n p =
    record {
      count = p.count;
      dates_after_lem = p.dates_after_lem;
      flags_after_lem = p.flags_after_lem;
      unadjusted_after_lem = p.unadjusted_after_lem;
      answer_after = p.answer_after;
    }

pub closed_as : {dates flags unadjusted answer dates' flags' unadjusted' answer' : List ℕ} {r : ℤ} (x : Answer Request) (c d : List ℕ) → c ≡ d → Reported x c r dates flags unadjusted answer dates' flags' unadjusted' answer' → Reported x d r dates flags unadjusted answer dates' flags' unadjusted' answer'
closed_as x c d e p = rw (← e) p
