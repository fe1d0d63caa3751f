use Rattle.std.proofs.Common.{◌∙◌, List, ap, arith, fold, sym}
use Rattle.std.proofs.lemmas.List.{drop_all}
use Rattle.std.specs.List.{flat_map}
use Rattle.clr_rows.specs.declared.rows.Value.{Value}
use Rattle.clr_spots.specs.SpotHash.{value_writes}
use Rattle.clr_spots.proofs.SpotLemmas.{next_written}
use Rattle.clr_spots.proofs.hashes.hash_values.Goals as goal

pub loop-i-preserved : goal.loop-i-preserved
loop-i-preserved g c =
    next_written g.H.Hasher.write value_writes c.loop-i.state c.hash_value.new.state c.args.values.now c.loop-i.i c.index-values-i.result
    c.loop-i-test.true c.index-values-i.is c.hash_value.ensures ∙ c.loop-i.invariant

pub returns : goal.returns
returns g c =
    ap (λ (vs : List Value). fold g.H.Hasher.write c.loop-i.state (flat_map value_writes vs))
    (sym (drop_all c.loop-i.i c.args.values.now (omega arith))) ∙ c.loop-i.invariant
