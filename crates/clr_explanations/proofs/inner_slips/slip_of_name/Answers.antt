use Rattle.std.proofs.Common.{◌≡◌, Ok}
use Rattle.std.proofs.lemmas.Option.{MatchOption-at_some}
use Rattle.std.specs.Prelude.{IsErr}
use Rattle.serde_json.specs.View.{view}
use Rattle.clr_explanations.specs.Items.{item_at_spot}
use Rattle.clr_item_explanations.specs.Slips.{said}
use Rattle.clr_explanations.proofs.NamedFaults.{names_told}
use Rattle.clr_explanations.proofs.inner_slips.slip_of_name.Goals as goal

pub returns-in_ok-slip-in-Some : goal.returns-in_ok-slip-in-Some
returns-in_ok-slip-in-Some c =
    let meant = item_at_spot c.args.spot (view c.args.json.now) in
    names_told c.args.schema.now (view c.args.json.now) (view c.in-Some.rule.now) c.args.spot (said c.in_ok-slip-in-Some.slip)
    (MatchOption-at_some (IsErr meant) (λ v. meant ≡ Ok (view v.now)) c.in-Some.rule c.in-Some.is c.in_ok-rule.ensures) c.in_ok-slip-in-Some.ensures
