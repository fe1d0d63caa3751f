use Rattle.std.proofs.Common.{sym}
use Rattle.clr_desk.proofs.geographic.answer_geographic.Goals as goal

pub returns-in-Layer : goal.returns-in-Layer
returns-in-Layer c = rw c.in-Layer.is (rw (sym c.as_str-in-Layer.ensures) (rw (sym c.as_str-in-Layer-2.ensures) c.layer_of_text.ensures))
