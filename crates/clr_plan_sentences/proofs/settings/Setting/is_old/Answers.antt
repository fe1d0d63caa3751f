use Rattle.std.proofs.Common.{◌∙◌, subst, sym}
use Rattle.std.specs.List.Sorted.{IsStrictlySortedBy}
use Rattle.clr_rules.specs.Needs.{broken_cmp}
use Rattle.clr_rules.proofs.BrokenLemmas.{broken_rises}
use Rattle.clr_steps.specs.Offices.{content_of}
use Rattle.clr_plan_sentences.proofs.settings.Setting.is_old.Goals as goal

pub is_among-requires : goal.is_among-requires
unfolding broken_cmp
is_among-requires c =
    let o = c.args.self.now.office.now in
    subst (IsStrictlySortedBy broken_cmp) (sym (c.as_slice.ensures.value ∙ c.in_ok-errors.ensures))
    (broken_rises o.book (content_of o c.args.self.now.members.now.root.now))
