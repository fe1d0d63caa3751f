use Rattle.std.proofs.Common.{rules}
use Rattle.std.proofs.lemmas.Float.Parse.{parse_float_on_literals}
use Rattle.std.specs.Float.Ieee.{of_bits}
use Rattle.clr_hints.proofs.laws.limits_of_hints.Goals as goal

pub returns-clause-likeness : goal.returns-clause-likeness
unfolding parse_float_on_literals of_bits
returns-clause-likeness c = search rules
