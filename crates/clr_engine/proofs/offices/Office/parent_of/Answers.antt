use Rattle.std.proofs.Common.{ℕ, refl, sym, subst, ap, ◌∙◌, Option, Some}
use Rattle.std.specs.Prelude.{IsSome}
use Rattle.clr_engine.proofs.Readings.{live_is, no_parent_is, none_is, parent_is, seen_in, zero_of}
use Rattle.clr_engine.proofs.offices.Office.parent_of.Goals as goal

pub returns-in-Some-parent : goal.returns-in-Some-parent
returns-in-Some-parent c =
    let o = c.args.self.now in
    let ws = c.self.inside.tree.list in
    let seen = seen_in c.self.inside.schema c.self.inside.judge ws o c.find.ensures.sound c.self.view_is c.args.ws.now in
    let e = sym c.find.ensures.found ∙ c.in-Some.is in
    parent_is o ws c.args.ws.now seen c.in-Some.at c.in-Some-parent.above c.name_at.result.now
    (c.parent.ensures.child.0 (subst (λ (r : Option ℕ). IsSome r) (sym c.in-Some-parent.is) refl)) e (sym c.in-Some-parent.ensures.found) c.name_at.ensures

pub returns-in-None-parent : goal.returns-in-None-parent
returns-in-None-parent c =
    let o = c.args.self.now in
    let ws = c.self.inside.tree.list in
    let seen = seen_in c.self.inside.schema c.self.inside.judge ws o c.find.ensures.sound c.self.view_is c.args.ws.now in
    let e = sym c.find.ensures.found ∙ c.in-Some.is ∙ ap Some (zero_of c.in-Some.at c.parent.result c.in-None-parent.is c.parent.ensures.child.1) in
    no_parent_is o ws c.args.ws.now seen (live_is o ws c.args.ws.now seen e)

pub returns-in-None : goal.returns-in-None
returns-in-None c =
    let o = c.args.self.now in
    let ws = c.self.inside.tree.list in
    let seen = seen_in c.self.inside.schema c.self.inside.judge ws o c.find.ensures.sound c.self.view_is c.args.ws.now in
    let e = sym c.find.ensures.found ∙ c.in-None.is in
    no_parent_is o ws c.args.ws.now seen (none_is o ws c.args.ws.now seen e)
