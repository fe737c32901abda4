use Rattle.std.proofs.Common.{arith, ap, ◌≡◌, ◌+◌}
use Rattle.imm.proofs.Ways.{letter_place, place_bound}
use Rattle.imm.specs.Imm.{letters, month_of, place_in, upper}
use Rattle.imm.proofs.codes.month_of.Goals as goal

at : (c : goal.After-unwrap_or-place) → c.unwrap_or-place.result ≡ place_in (upper c.args.letter) letters
at c = letter_place _ _ _ _ c.to_ascii_uppercase.ensures.value c.place_of.ensures c.unwrap_or-place.ensures

pub overflow_cast-result : goal.overflow_cast-result
overflow_cast-result c = record { fits = omega (arith, at c, place_bound (upper c.args.letter)) }

pub overflow_add-result : goal.overflow_add-result
overflow_add-result c = record { fits = omega (arith, at c, place_bound (upper c.args.letter)) }

pub returns : goal.returns
unfolding month_of
returns c = ap (λ k. k + 1) (at c)
