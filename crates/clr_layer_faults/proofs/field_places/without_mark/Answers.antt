use Rattle.std.proofs.Common.{◌∙◌, sym}
use Rattle.clr_hints.proofs.QuotedLemmas.{whole_rest}
use Rattle.clr_layer_faults.proofs.PlaceLemmas.{marked, unmarked}
use Rattle.clr_layer_faults.proofs.field_places.without_mark.Goals as goal

pub returns-then-has_byte_order_mark : goal.returns-then-has_byte_order_mark
returns-then-has_byte_order_mark c =
    whole_rest c.args.text.now 3 ∙ sym (marked c.args.text.now (sym c.has_byte_order_mark.ensures ∙ c.if-has_byte_order_mark.true))

pub returns-else-has_byte_order_mark : goal.returns-else-has_byte_order_mark
returns-else-has_byte_order_mark c = sym (unmarked c.args.text.now (sym c.has_byte_order_mark.ensures ∙ c.if-has_byte_order_mark.false))
