use Rattle.std.proofs.Common.{refl}
use Rattle.clr_explanations.proofs.Values.{json_told}
use Rattle.clr_explanations.proofs.offices.remark_on_json.Goals as goal

pub returns-clause-said : goal.returns-clause-said
returns-clause-said c =
    json_told c.args.text.now c.args.line c.args.column c.json_fault-fault.result _ c.json_fault-fault.ensures.fault c.new.ensures.bytes refl
    c.in_ok-sentence.ensures.ok c.in_ok-hint.ensures
