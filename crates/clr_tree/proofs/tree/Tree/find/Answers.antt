use Rattle.std.proofs.Common.{◌<◌, ap, sym, subst, ◌∙◌, length}
use Rattle.std.specs.Prelude.{IfSome}
use Rattle.clr_workspaces.specs.Workspaces.{find}
use Rattle.clr_deltas.proofs.Meaning.{length-wholes, find-wholes}
use Rattle.clr_tree.specs.Trees.{Tree}
use Rattle.clr_tree.proofs.tree.Tree.find.Goals as goal

pub returns-clause-found : goal.returns-clause-found
returns-clause-found c = c.find.ensures.found ∙ sym (find-wholes c.self.inside.live c.self.inside.map c.args.name.now)
    ∙ ap (λ (t : Tree). find t.list c.args.name.now) c.self.view_is

pub returns-clause-within : goal.returns-clause-within
returns-clause-within c =
    subst (λ (t : Tree). IfSome c.find.result (λ at. at < length t.list)) c.self.view_is
    (subst (λ n. IfSome c.find.result (λ at. at < n)) (sym (length-wholes c.self.inside.live c.self.inside.map)) c.find.ensures.within)
