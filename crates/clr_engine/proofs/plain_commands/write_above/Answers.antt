use Rattle.std.proofs.Common.{ap, sym, subst, ◌∙◌, List}
use Rattle.clr_workspaces.specs.Workspaces.{Workspace, children_of, workspace_at}
use Rattle.clr_grid.specs.Finders.{AreFinders}
use Rattle.clr_judges.specs.KeptContents.{kept_contents}
use Rattle.clr_judges.proofs.Kept.{after_merging}
use Rattle.clr_engine.proofs.Positions.{leaf_after_merge}
use Rattle.clr_judges.proofs.Prepared.{forgotten, settled}
use Rattle.clr_engine.proofs.plain_commands.write_above.Goals as goal

pub take_away-requires-clause-leaf : goal.take_away-requires-clause-leaf
take_away-requires-clause-leaf c =
    ap (λ (ws : List Workspace). children_of ws (workspace_at ws c.args.at).name) c.in-Ok.ensures.ok ∙ leaf_after_merge c.args.tree.now.list c.args.at
    ∙ c.requires.leaf c.if-remove.true

pub returns-then-remove-clause-finders : goal.returns-then-remove-clause-finders
returns-then-remove-clause-finders c = λ book prepared. c.take_away.ensures.finders book
    (subst (λ (ws : List Workspace). AreFinders book (kept_contents ws) c.settle.new.self) (sym c.in-Ok.ensures.ok)
    (subst (λ cs. AreFinders book cs c.settle.new.self) (sym (after_merging c.args.tree.now.list c.args.at c.args.above c.requires.parent))
    (settled book c.args.tree.now.list c.args.above _ c.args.finders.now prepared c.settle.new.self c.settle.ensures)))

pub returns-else-remove-clause-finders : goal.returns-else-remove-clause-finders
returns-else-remove-clause-finders c = λ book prepared.
    subst (λ (ws : List Workspace). AreFinders book (kept_contents ws) c.settle.new.self) (sym c.in-Ok.ensures.ok)
    (subst (λ cs. AreFinders book cs c.settle.new.self) (sym (after_merging c.args.tree.now.list c.args.at c.args.above c.requires.parent))
    (settled book c.args.tree.now.list c.args.above _ c.args.finders.now prepared c.settle.new.self c.settle.ensures))

pub returns-in-Err-clause-finders : goal.returns-in-Err-clause-finders
returns-in-Err-clause-finders c = λ book prepared.
    subst (λ (ws : List Workspace). AreFinders book (kept_contents ws) c.forget.new.self) (sym c.in-Err.ensures.err)
    (forgotten book c.args.tree.now.list c.args.above _ c.args.finders.now prepared c.forget.new.self c.forget.ensures)
