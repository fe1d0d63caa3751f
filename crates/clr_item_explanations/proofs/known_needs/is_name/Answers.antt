use Rattle.std.proofs.Common.{◌≡◌, Some, map}
use Rattle.serde_json.specs.Find.{as_array}
use Rattle.serde_json.specs.View.{items_of, view}
use Rattle.clr_item_explanations.proofs.NeedLemmas.{is_name_by}
use Rattle.clr_item_explanations.proofs.known_needs.is_name.Goals as goal

pub returns-in-Some : goal.returns-in-Some
returns-in-Some c =
    let listed : Some (items_of (map view c.as_slice.result.now)) ≡ as_array (view c.args.json.now) = cc (c.in-Some.ensures, c.as_slice.ensures.value) in
    is_name_by c.args.kind.now (view c.args.json.now) c.as_slice.result.now c.are_numbers.result listed c.are_numbers.ensures
