use Rattle.std.proofs.lemmas.Bool.{both_ways}
use Rattle.serde_json.specs.View.{view}
use Rattle.clr_faults.proofs.Values.{no_value}
use Rattle.clr_explanations.proofs.Values.{said_in, said_of_no_value, value_is}
use Rattle.clr_explanations.proofs.offices.remark_on.Goals as goal

pub returns-in_ok-remark-in-Ok : goal.returns-in_ok-remark-in-Ok
returns-in_ok-remark-in-Ok c = record {
  within = c.in_ok-remark-in-Ok.ensures.within;
  said =
      said_in c.args.text.now (view c.in-Ok.json) c.args.found.fault c.args.found.spot _
      (value_is c.args.text.now (view c.in-Ok.json) c.in-Ok.ensures.ok.0 c.in-Ok.ensures.ok.1)
      c.in_ok-remark-in-Ok.ensures.said;
}

pub returns-in_ok-bare-in-Err : goal.returns-in_ok-bare-in-Err
returns-in_ok-bare-in-Err c = record {
  within = c.in_ok-bare-in-Err.ensures.within;
  said =
      said_of_no_value c.args.text.now c.args.found.fault c.args.found.spot _
      (no_value c.args.text.now (c.in-Err.ensures.err (λ memory. both_ways _ c.if-is_memory.false (c.is_memory.ensures.1 memory))))
      c.in_ok-bare-in-Err.ensures.said;
}
