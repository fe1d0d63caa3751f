use Rattle.std.proofs.Common.{ℕ, refl, sym, subst, ap, ◌∙◌, Option, Some}
use Rattle.std.specs.Prelude.{IsSome}
use Rattle.clr_workspaces.specs.Workspaces.{workspace_at}
use Rattle.clr_rows.specs.Contents.{conflicts}
use Rattle.clr_steps.specs.Readings.{conflicts_in}
use Rattle.clr_engine.proofs.Readings.{conflicts_is, live_is, no_conflicts_is, seen_in, shown, unknown, zero_of}
use Rattle.clr_engine.proofs.offices.Office.conflicts.Goals as goal

pub returns-in_default : goal.returns-in_default
returns-in_default c =
    let o = c.args.self.now in
    let ws = c.self.inside.tree.list in
    let seen = seen_in c.self.inside.schema c.self.inside.judge ws o c.find.ensures.sound c.self.view_is c.args.ws.now in
    unknown o ws c.args.ws.now seen (conflicts_in o c.args.ws.now) (sym c.find.ensures.found ∙ c.in_default.is)

pub returns-in_default-parent : goal.returns-in_default-parent
returns-in_default-parent c =
    let o = c.args.self.now in
    let ws = c.self.inside.tree.list in
    let seen = seen_in c.self.inside.schema c.self.inside.judge ws o c.find.ensures.sound c.self.view_is c.args.ws.now in
    let e = sym c.find.ensures.found ∙ c.in-Some.is ∙ ap Some (zero_of c.in-Some.at c.parent.result c.in_default-parent.is c.parent.ensures.child.1) in
    shown o ws c.args.ws.now seen 0 c.new.result.items (conflicts_in o c.args.ws.now) e (c.new.ensures.items
    ∙ no_conflicts_is o ws c.args.ws.now seen (live_is o ws c.args.ws.now seen e))

pub returns : goal.returns
returns c =
    let o = c.args.self.now in
    let ws = c.self.inside.tree.list in
    let seen = seen_in c.self.inside.schema c.self.inside.judge ws o c.find.ensures.sound c.self.view_is c.args.ws.now in
    let e = sym c.find.ensures.found ∙ c.in-Some.is in
    let some = c.parent.ensures.child.0 (subst (λ (r : Option ℕ). IsSome r) (sym c.in-Some-parent.is) refl) in
    let above = seen_in c.self.inside.schema c.self.inside.judge ws o c.find.ensures.sound c.self.view_is (workspace_at ws c.in-Some.at).parent in
    shown o ws c.args.ws.now seen c.in-Some.at c.in_ok-cells.cells.items (conflicts_in o c.args.ws.now) e
    (c.in_ok-cells.ensures ∙ (λ i. conflicts (c.view.ensures i) (c.in_ok-changed.ensures i))
    ∙ conflicts_is o ws c.args.ws.now seen c.in-Some.at c.in-Some-parent.above some e (sym c.in-Some-parent.ensures.found) above)
