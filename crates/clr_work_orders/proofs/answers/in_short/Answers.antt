use Rattle.std.proofs.Common.{◌∙◌, sym}
use Rattle.clr_work_orders.proofs.answers.in_short.Goals as goal

pub returns : goal.returns
returns c = record {
  found = sym c.is_out_of_memory.ensures ∙ c.if-is_out_of_memory.false;
  cleared = c.is_cleared.ensures;
  why = c.new.ensures ∙ c.in_ok-why.ensures;
}
