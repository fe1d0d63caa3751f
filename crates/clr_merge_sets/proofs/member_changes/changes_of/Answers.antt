use Rattle.std.proofs.Common.{◌∙◌, sym}
use Rattle.clr_steps.specs.Readings.{changes_in}
use Rattle.clr_merge_sets.proofs.NameLemmas.{unshown}
use Rattle.clr_merge_sets.proofs.MergeSetLemmas.{unchanged}
use Rattle.clr_merge_sets.proofs.member_changes.changes_of.Goals as goal

pub returns-in-None : goal.returns-in-None
returns-in-None c =
    let o = c.args.office.now in
    let name = c.args.name.now in
    c.new.ensures ∙ unchanged o name (unshown o name (changes_in o name) (sym c.in-None.is ∙ c.in_ok-set.ensures))
