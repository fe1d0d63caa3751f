use Rattle.std.proofs.Common.{unwrap_or, ap, sym, ◌∙◌}
use Rattle.std.specs.declared.option.Option.{Option}
use Rattle.std.specs.Option.{option_copied}
use Rattle.clr_rows.specs.declared.rows.Row.{Row}
use Rattle.clr_rows.specs.Contents.{row_at}
use Rattle.clr_deltas.specs.Deltas.{wholes}
use Rattle.clr_workspaces.specs.Workspaces.{workspace_at}
use Rattle.clr_contents.proofs.MarkLemmas.{row-saved, saved_stored}
use Rattle.clr_contents.proofs.reads.saved_row_of.Goals as goal

pub difference_at-requires-clause-marked : goal.difference_at-requires-clause-marked
difference_at-requires-clause-marked c = saved_stored c.args.live.now c.args.map.now c.args.at c.requires.child c.requires.within c.args.mark c.requires.saved

pub returns-in-Some : goal.returns-in-Some
returns-in-Some c =
    let base = (workspace_at (wholes c.args.live.now c.args.map.now) c.args.at).base in
    let found = sym c.difference_at.ensures ∙ ap option_copied c.in-Some.is in
    c.as_ref.ensures.value
    ∙ sym (row-saved c.args.live.now c.args.map.now c.args.at c.requires.child c.requires.within c.args.mark c.requires.saved c.args.cell
    ∙ ap (λ (o : Option (Option Row)). unwrap_or o (row_at base c.args.cell)) found)

pub returns : goal.returns
returns c =
    let base = (workspace_at (wholes c.args.live.now c.args.map.now) c.args.at).base in
    let none = sym c.difference_at.ensures ∙ ap option_copied c.in_default.is in
    c.base_row_of.ensures
    ∙ sym (row-saved c.args.live.now c.args.map.now c.args.at c.requires.child c.requires.within c.args.mark c.requires.saved c.args.cell
    ∙ ap (λ (o : Option (Option Row)). unwrap_or o (row_at base c.args.cell)) none)
