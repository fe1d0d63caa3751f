use Rattle.std.proofs.Common.{◌∙◌, ◌++◌, ◌∷◌, [], sym}
use Rattle.clr_steps.specs.Readings.{changes_in}
use Rattle.clr_merge_sets.proofs.MergeSetLemmas.{map_more}
use Rattle.clr_merge_sets.proofs.member_changes.read_changes.Goals as goal

pub loop-at-preserved : goal.loop-at-preserved
loop-at-preserved g c =
    let names = g.N.NameList.names c.args.names.now in
    c.in_ok-push.ensures.items ∙ (λ i. c.loop-at.invariant i ++ c.in_ok-changes_of.ensures i ∷ [])
    ∙ sym (map_more (changes_in c.args.office.now) names c.loop-at.at c.name_at.result.now c.name_at.ensures)
