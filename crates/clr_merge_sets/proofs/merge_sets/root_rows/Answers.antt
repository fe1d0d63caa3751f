use Rattle.std.proofs.Common.{◌∙◌, sym, subst}
use Rattle.clr_merge_sets.proofs.RootLemmas.{IsOfRows, finder_is, finder_there, kept_stands, position_is, rows_are, rows_there}
use Rattle.clr_merge_sets.proofs.merge_sets.root_rows.Goals as goal

pub unwrap-position-requires : goal.unwrap-position-requires
unwrap-position-requires c = c.find.ensures.stands ∙ kept_stands c.args.office.now c.args.root.now c.requires

pub unwrap-rows-requires : goal.unwrap-rows-requires
unwrap-rows-requires c =
    let o = c.args.office.now in
    let name = c.args.root.now in
    rows_there o name c.unwrap-position.result c.view.result (position_is o name c.find.result c.unwrap-position.result c.find.ensures.found
    c.unwrap-position.ensures) c.view.ensures

pub unwrap-finder-requires : goal.unwrap-finder-requires
unwrap-finder-requires c =
    let o = c.args.office.now in
    let name = c.args.root.now in
    let at = position_is o name c.find.result c.unwrap-position.result c.find.ensures.found c.unwrap-position.ensures in
    finder_there o name c.requires c.finder.result (finder_is o name c.requires c.unwrap-position.result c.finder.result at c.finder.ensures)

pub returns-clause-rows : goal.returns-clause-rows
returns-clause-rows c =
    let o = c.args.office.now in
    let name = c.args.root.now in
    let at = position_is o name c.find.result c.unwrap-position.result c.find.ensures.found c.unwrap-position.ensures in
    rows_are o name c.unwrap-position.result c.unwrap-rows.result at (sym c.unwrap-rows.ensures ∙ c.view.ensures)

pub returns-clause-filed : goal.returns-clause-filed
returns-clause-filed c =
    let o = c.args.office.now in
    let name = c.args.root.now in
    let at = position_is o name c.find.result c.unwrap-position.result c.find.ensures.found c.unwrap-position.ensures in
    subst (IsOfRows o name c.requires) c.unwrap-finder.ensures (finder_is o name c.requires c.unwrap-position.result c.finder.result at c.finder.ensures)
