use Rattle.std.proofs.Common.{None, false, get_or, pos}
use Rattle.clr_foot.specs.Scenes.{model_of, setting_of}
use Rattle.clr_needs.specs.declared.needs.Need.{Need}
use Rattle.clr_needs.specs.declared.needs.VersionId.{VersionId}
use Rattle.clr_needs.proofs.BreakLaws.{touched_possible}
use Rattle.clr_needs.proofs.Reading.{read_of}
use Rattle.clr_scene_tests.proofs.lines.need_lines.Goals as goal

-- what a read past the end would give
abbrev no_version : VersionId
no_version = record { cell = record { table = 0; key = pos 0 }; fresh = false }

abbrev no_need : Need
no_need = record { rule = 0; first = no_version; second = None; first_part = 0; second_part = 0 }

pub need_line-requires-clause-possible : goal.need_line-requires-clause-possible
need_line-requires-clause-possible g c =
    let needs = c.in_ok-needs.needs.items in
    let read = c.deref-need-items.result.now in
    let k = c.loop-need.need-index in
    touched_possible (setting_of (model_of g.V.RowView.content c.args.scene.now)) (get_or read k no_need) needs c.in_ok-needs.ensures
    (read_of read needs k no_need c.deref-need-items.ensures.value c.loop-need-test.true)
