use Rattle.std.proofs.Common.{◌∙◌, ap, length, refl, sym, true}
use Rattle.std.proofs.lemmas.Option.{slice_get_read}
use Rattle.clr_finders.proofs.NextLemmas.{next_as}
use Rattle.clr_grid.specs.Filing.{is_filed_by}
use Rattle.clr_grid.specs.Gains.{IsFoundFor}
use Rattle.clr_grid.specs.NextCells.{IsServerFoundFor}
use Rattle.clr_grid.proofs.rule_index.next_server_near.Goals as goal

pub returns-in-Some : goal.returns-in-Some
returns-in-Some c =
    let there = slice_get_read c.args.rules.now (length c.args.rules.now) c.args.rule c.in-Some.index.now refl c.in-Some.ensures.lookup.3.0
    c.in-Some.ensures.lookup.1 in
    next_as c.args.after (IsFoundFor c.in-Some.index.now.servers c.args.spots.now) (IsServerFoundFor c.args.rules.now c.args.rule c.args.spots.now)
    c.next_near.result
    (λ q w. (w.0, w.1, ap (λ o. is_filed_by o true w.0 q) (sym there) ∙ w.2)) c.next_near.ensures
