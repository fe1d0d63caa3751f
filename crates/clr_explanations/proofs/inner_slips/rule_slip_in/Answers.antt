use Rattle.std.proofs.Common.{◌≡◌, Ok}
use Rattle.std.proofs.lemmas.Option.{MatchOption-at_some}
use Rattle.std.specs.Prelude.{IsErr}
use Rattle.serde_json.specs.View.{view}
use Rattle.clr_explanations.specs.Readings.{tables_in}
use Rattle.clr_item_explanations.specs.Slips.{said}
use Rattle.clr_explanations.proofs.NamedFaults.{names_bad_rule}
use Rattle.clr_explanations.proofs.inner_slips.rule_slip_in.Goals as goal

pub returns-in_ok-slip-in-Some : goal.returns-in_ok-slip-in-Some
returns-in_ok-slip-in-Some c =
    let meant = tables_in (view c.args.json.now) in
    names_bad_rule (view c.args.json.now) c.args.spot (said c.in_ok-slip-in-Some.slip) c.args.format c.in-Some.schema c.requires
    (MatchOption-at_some (IsErr meant) (λ tables. meant ≡ Ok tables) c.in-Some.schema c.in-Some.is c.in_ok-schema.ensures) c.in_ok-slip-in-Some.ensures
