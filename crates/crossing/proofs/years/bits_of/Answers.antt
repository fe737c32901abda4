use Rattle.std.proofs.Common.{arith, w64}
use Rattle.crossing.proofs.Laying.{no_nan}
use Rattle.fractions.specs.Laws.Floats.{bits_below}
use mir.Facts.{to_z_pos}
use Rattle.crossing.proofs.years.bits_of.Goals as goal

pub float_to_bits-result : goal.float_to_bits-result
float_to_bits-result c = no_nan c.args.x c.requires.1

pub overflow_cast-result : goal.overflow_cast-result
overflow_cast-result c = record { sfits = omega (arith, bits_below c.args.x c.requires.0 c.requires.1) }

pub returns : goal.returns
returns c = to_z_pos w64 (omega (arith, bits_below c.args.x c.requires.0 c.requires.1))
