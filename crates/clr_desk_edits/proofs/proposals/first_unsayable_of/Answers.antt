use Rattle.std.proofs.Common.{◌≤◌, ◌∙◌, ap, length, map, rules, sym}
use Rattle.std.proofs.lemmas.List.{drop_all}
use Rattle.clr_deltas.specs.NamedDeltas.{stored_delta}
use Rattle.clr_desk_edits.specs.Proposals.{first_unsayable_of}
use Rattle.clr_desk_edits.proofs.Firsts.{design_here, designs_behind, no_design}
use Rattle.clr_desk_edits.proofs.proposals.first_unsayable_of.Goals as goal

pub returns-in-Some : goal.returns-in-Some
returns-in-Some c =
    sym (design_here c.args.designs.now c.loop-design.design-index c.design-item.result c.loop-design-test.true c.design-item.is c.in-Some.cell
    (sym c.first_unsayable_row.ensures ∙ c.in-Some.is)) ∙ c.loop-design.invariant

pub loop-design-preserved : goal.loop-design-preserved
loop-design-preserved c =
    sym (designs_behind c.args.designs.now c.loop-design.design-index c.design-item.result c.loop-design-test.true c.design-item.is
    (sym c.first_unsayable_row.ensures ∙ c.in_default.is)) ∙ c.loop-design.invariant

pub returns : goal.returns
returns c =
    let designs = c.args.designs.now in
    let past : length designs ≤ c.loop-design.design-index = search rules in
    sym (ap (λ ds. first_unsayable_of (map stored_delta ds)) (drop_all c.loop-design.design-index designs past) ∙ no_design) ∙ c.loop-design.invariant
