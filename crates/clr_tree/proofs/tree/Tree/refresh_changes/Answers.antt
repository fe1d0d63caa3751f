use Rattle.clr_workspaces.specs.declared.rebases.Rebase.TheVariants as rebase
use Rattle.clr_tree.proofs.ModelLemmas.{within_tree}
use Rattle.clr_tree.proofs.RebaseLemmas.{list_rebased, list_stays, rebased_sound}
use Rattle.clr_tree.proofs.tree.Tree.refresh_changes.Goals as goal

pub refresh_changes-requires-clause-within : goal.refresh_changes-requires-clause-within
refresh_changes-requires-clause-within c = within_tree c.self.inside.live c.self.inside.map c.args.self.now c.args.at c.self.view_is c.requires.within

pub invariant_of-self : goal.invariant_of-self
invariant_of-self c =
    let sound = rebased_sound c.refresh_changes.result c.self.inside.live c.self.inside.live c.self.inside.map c.refresh_changes.new.map c.args.self.now
    c.self.view_is c.args.at rebase.Refresh in (
      sound c.requires.within c.requires.child c.self.invariant.0 c.refresh_changes.ensures.ok c.refresh_changes.ensures.err,
      λ flag.
          c.refresh_changes.ensures.lean (c.self.invariant.1 flag),
    )

pub returns-clause-ok : goal.returns-clause-ok
returns-clause-ok c = list_rebased c.refresh_changes.result c.self.inside.live c.self.inside.live c.self.inside.map c.refresh_changes.new.map c.args.self.now
    c.self.view_is c.args.at rebase.Refresh c.refresh_changes.ensures.ok

pub returns-clause-err : goal.returns-clause-err
returns-clause-err c = list_stays c.refresh_changes.result c.self.inside.live c.self.inside.live c.self.inside.map c.refresh_changes.new.map c.args.self.now
    c.self.view_is c.args.at rebase.Refresh c.refresh_changes.ensures.err
