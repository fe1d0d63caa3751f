use Rattle.std.proofs.Common.{List, ap, map, subst, sym}
use Rattle.clr_merge_sets.specs.MemberChanges.{set_of}
use Rattle.clr_plan_page.specs.Designs.{AreDesigns}
use Rattle.clr_page_parts.specs.Shown.{Shown, shown}
use Rattle.clr_plan_page.proofs.ReasonLemmas.{designs_whole}
use Rattle.clr_plan_page.proofs.reports.designs_of.Goals as goal

pub returns : goal.returns
returns c =
    let o = c.args.setting.office.now in
    let m = c.args.setting.members.now in
    subst (λ (blocks : List Shown). AreDesigns o (set_of m) blocks) (sym c.into_section.ensures)
    (designs_whole o (set_of m) m.changes.items _ _ _ _ c.requires.changes (ap (map shown) c.new-section.ensures) c.in_ok-add_heading.ensures
    c.in_ok-add_designs.ensures c.in_ok-add_clashes.ensures)
