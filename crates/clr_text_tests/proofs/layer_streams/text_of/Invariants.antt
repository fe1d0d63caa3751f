use Rattle.clr_layer_streams.specs.Sources.{CanGoOn}
use Rattle.clr_text_tests.proofs.layer_streams.text_of.Given as goal

abbrev pub invariant-loop : goal.invariant-loop
invariant-loop g l = CanGoOn l.source
