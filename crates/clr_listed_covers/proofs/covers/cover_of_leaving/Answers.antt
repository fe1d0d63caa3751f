use Rattle.std.proofs.Common.{◌∙◌, subst, sym}
use Rattle.clr_foot.specs.Scenes.{model_of, setting_of}
use Rattle.clr_needs.specs.Settings.{Without}
use Rattle.clr_needs.specs.Witnesses.{IsLeastPassing, has_life_at}
use Rattle.clr_listed_covers.proofs.PairCovers.{no_leaving_pair, server_outlasts, subjects_leave_and_come}
use Rattle.clr_listed_covers.proofs.covers.cover_of_leaving.Goals as goal

pub returns-then-has_subject_with : goal.returns-then-has_subject_with
returns-then-has_subject_with g c =
    subjects_leave_and_come (setting_of (model_of g.V.RowView.content c.args.scene.now)) c.args.need.now c.args.servers.now c.requires.servers c.args.pair
    c.requires.leaving (sym c.has_subject_with.ensures ∙ c.if-has_subject_with.true)

pub returns-in-None : goal.returns-in-None
returns-in-None g c =
    let s = setting_of (model_of g.V.RowView.content c.args.scene.now) in
    no_leaving_pair s c.args.need.now c.args.servers.now c.requires.servers c.args.pair (sym c.has_subject_with.ensures ∙ c.if-has_subject_with.false)
    (subst (IsLeastPassing (has_life_at (Without c.args.pair.later) s) c.args.servers.now) c.in-None.is c.least_with.ensures)

pub returns-in-Some : goal.returns-in-Some
returns-in-Some g c =
    let s = setting_of (model_of g.V.RowView.content c.args.scene.now) in
    server_outlasts s c.args.need.now c.args.servers.now c.requires.servers c.args.pair c.requires.leaving c.in-Some.old
    (subst (IsLeastPassing (has_life_at (Without c.args.pair.later) s) c.args.servers.now) c.in-Some.is c.least_with.ensures)
