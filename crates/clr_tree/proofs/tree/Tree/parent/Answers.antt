use Rattle.std.proofs.Common.{◌≡◌, ap, sym, ◌∙◌}
use Rattle.clr_deltas.specs.Deltas.{find_delta, wholes}
use Rattle.clr_workspaces.specs.Workspaces.{parent_of}
use Rattle.clr_tree.specs.Trees.{Tree}
use Rattle.clr_contents.proofs.ReadLemmas.{parent_here, within_wholes}
use Rattle.clr_workspaces.proofs.RootLemmas.{parent_earlier, parent_found}
use Rattle.clr_tree.proofs.ModelLemmas.{within_tree}
use Rattle.clr_tree.proofs.tree.Tree.parent.Goals as goal

pub parent_name-requires : goal.parent_name-requires
parent_name-requires c = within_tree c.self.inside.live c.self.inside.map c.args.self.now c.args.at c.self.view_is c.requires

pub returns-clause-found : goal.returns-clause-found
returns-clause-found c = c.find.ensures.found ∙ ap (find_delta c.self.inside.map) c.parent_name.ensures
    ∙ sym (parent_here c.self.inside.live c.self.inside.map c.args.at) ∙ ap (λ (t : Tree). parent_of t.list c.args.at) c.self.view_is

pub returns-clause-earlier : goal.returns-clause-earlier
returns-clause-earlier c =
    let ws = wholes c.self.inside.live c.self.inside.map in
    let found : c.find.result ≡ parent_of ws c.args.at = c.find.ensures.found ∙ ap (find_delta c.self.inside.map) c.parent_name.ensures
    ∙ sym (parent_here c.self.inside.live c.self.inside.map c.args.at) in
    rw found (parent_earlier ws c.args.at c.self.invariant.0.rooted (within_wholes c.self.inside.live c.self.inside.map c.args.at
    (within_tree c.self.inside.live c.self.inside.map c.args.self.now c.args.at c.self.view_is c.requires)))

pub returns-clause-child : goal.returns-clause-child
returns-clause-child c =
    let ws = wholes c.self.inside.live c.self.inside.map in
    let found : c.find.result ≡ parent_of ws c.args.at = c.find.ensures.found ∙ ap (find_delta c.self.inside.map) c.parent_name.ensures
    ∙ sym (parent_here c.self.inside.live c.self.inside.map c.args.at) in
    rw found (parent_found ws c.args.at c.self.invariant.0.rooted (within_wholes c.self.inside.live c.self.inside.map c.args.at
    (within_tree c.self.inside.live c.self.inside.map c.args.self.now c.args.at c.self.view_is c.requires)))
