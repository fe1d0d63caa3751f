use Rattle.clr_tree.proofs.LiveLemmas.{first_marks, marks_in}
use Rattle.clr_tree.proofs.ModelLemmas.{within_tree}
use Rattle.clr_tree.proofs.tree.Tree.stored_marks.Goals as goal

pub marks-requires : goal.marks-requires
marks-requires c = within_tree c.self.inside.live c.self.inside.map c.args.self.now c.args.at c.self.view_is c.requires

pub returns-then-at-eq0 : goal.returns-then-at-eq0
returns-then-at-eq0 c = first_marks c.self.inside.live c.self.inside.map c.args.self.now c.args.at c.self.view_is c.self.invariant.0 c.if-at-eq0.true

pub returns : goal.returns
returns c =
    marks_in c.self.inside.live c.self.inside.map c.args.self.now c.args.at c.self.view_is c.self.invariant.0 _ c.if-at-eq0.false c.requires c.marks.ensures
