use Rattle.std.proofs.Common.{◌∙◌, subst, sym}
use Rattle.clr_foot.specs.Scenes.{model_of, setting_of}
use Rattle.clr_needs.specs.Settings.{With, Without}
use Rattle.clr_needs.specs.Witnesses.{IsLeastPassing, has_life_at}
use Rattle.clr_listed_covers.proofs.PairCovers.{no_coming_pair, no_leaving_pair, server_comes_first, servers_take_turns}
use Rattle.clr_listed_covers.proofs.covers.cover_of_coming.Goals as goal

pub returns-in_default : goal.returns-in_default
returns-in_default g c =
    let s = setting_of (model_of g.V.RowView.content c.args.scene.now) in
    no_coming_pair s c.args.need.now c.args.servers.now c.requires.servers c.args.pair c.requires.staying
    (subst (IsLeastPassing (has_life_at (With c.args.pair.earlier) s) c.args.servers.now) c.in_default.is c.least_with.ensures)

pub returns-then-has_subject_with : goal.returns-then-has_subject_with
returns-then-has_subject_with g c =
    let s = setting_of (model_of g.V.RowView.content c.args.scene.now) in
    server_comes_first s c.args.need.now c.args.servers.now c.requires.servers c.args.pair (sym c.has_subject_with.ensures ∙ c.if-has_subject_with.true)
    c.in-Some.new (subst (IsLeastPassing (has_life_at (With c.args.pair.earlier) s) c.args.servers.now) c.in-Some.is c.least_with.ensures)

pub returns-in-None : goal.returns-in-None
returns-in-None g c =
    let s = setting_of (model_of g.V.RowView.content c.args.scene.now) in
    no_leaving_pair s c.args.need.now c.args.servers.now c.requires.servers c.args.pair (sym c.has_subject_with.ensures ∙ c.if-has_subject_with.false)
    (subst (IsLeastPassing (has_life_at (Without c.args.pair.later) s) c.args.servers.now) c.in-None.is c.least_with-2.ensures)

pub returns-in-Some-least_with : goal.returns-in-Some-least_with
returns-in-Some-least_with g c =
    let s = setting_of (model_of g.V.RowView.content c.args.scene.now) in
    servers_take_turns s c.args.need.now c.args.servers.now c.requires.servers c.args.pair c.in-Some.new c.in-Some-least_with.old
    (subst (IsLeastPassing (has_life_at (With c.args.pair.earlier) s) c.args.servers.now) c.in-Some.is c.least_with.ensures)
    (subst (IsLeastPassing (has_life_at (Without c.args.pair.later) s) c.args.servers.now) c.in-Some-least_with.is c.least_with-2.ensures)
