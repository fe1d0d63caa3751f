use Rattle.std.proofs.Common.{arith, refl}
use Rattle.clr_desk_command_line.proofs.OriginLemmas.{has_no_comma}
use Rattle.clr_desk_command_line.proofs.database_reading.place_in.Goals as goal

pub returns-in_default : goal.returns-in_default
returns-in_default c = rw (has_no_comma c.args.text.now (c.in_default.ensures.byte (omega arith) (λ w o found. found))) refl
