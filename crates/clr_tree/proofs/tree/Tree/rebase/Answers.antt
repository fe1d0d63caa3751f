use Rattle.clr_tree.proofs.ModelLemmas.{within_tree}
use Rattle.clr_tree.proofs.RebaseLemmas.{list_rebased, list_stays, rebased_sound}
use Rattle.clr_tree.proofs.tree.Tree.rebase.Goals as goal

pub rebase-requires-clause-within : goal.rebase-requires-clause-within
rebase-requires-clause-within c = within_tree c.self.inside.live c.self.inside.map c.args.self.now c.args.at c.self.view_is c.requires.within

pub invariant_of-self : goal.invariant_of-self
invariant_of-self c =
    let sound = rebased_sound c.rebase.result c.self.inside.live c.rebase.new.live c.self.inside.map c.rebase.new.map c.args.self.now c.self.view_is c.args.at
    c.args.how in (
      sound c.requires.within c.requires.child c.self.invariant.0 c.rebase.ensures.ok c.rebase.ensures.err,
      λ flag. c.rebase.ensures.lean
          (c.self.invariant.1 flag),
    )

pub returns-clause-ok : goal.returns-clause-ok
returns-clause-ok c = list_rebased c.rebase.result c.self.inside.live c.rebase.new.live c.self.inside.map c.rebase.new.map c.args.self.now c.self.view_is
    c.args.at c.args.how c.rebase.ensures.ok

pub returns-clause-err : goal.returns-clause-err
returns-clause-err c = list_stays c.rebase.result c.self.inside.live c.rebase.new.live c.self.inside.map c.rebase.new.map c.args.self.now c.self.view_is
    c.args.at c.args.how c.rebase.ensures.err
