use Rattle.std.proofs.Common.{◌≡◌, ◌∙◌, Some, ap, length, map, refl}
use Rattle.std.specs.Prelude.{slice_get}
use Rattle.std.specs.Option.{option_map}
use Rattle.std.proofs.lemmas.Option.{slice_get-map, slice_get_read}
use Rattle.std.proofs.lemmas.Result.{IfOk-weaker}
use Rattle.clr_merge_clashes.specs.Laws.{merge_set_of_part}
use Rattle.clr_merge_sets.specs.MergeSetNames.{merge_set}
use Rattle.clr_work_orders.proofs.TrialLemmas.{other_told}
use Rattle.clr_work_orders.proofs.split_trials.try_piece.Goals as goal

pub returns-in-Some-clause-told : goal.returns-in-Some-clause-told
returns-in-Some-clause-told c =
    let names = c.args.names.now in
    let o = c.args.office.now in
    let s = merge_set c.args.root.now (map (λ name. name.now) names) in
    let piece = c.args.piece.now in
    let (some, item, stands, at, d) = c.in-Some.ensures.lookup in
    let there : slice_get names piece.member ≡ Some c.in-Some.ws.now = slice_get_read names (length names) piece.member c.in-Some.ws.now refl at.0 item in
    let named : slice_get (map (λ name. name.now) names) piece.member ≡ Some c.in-Some.ws.now.now =
    slice_get-map (λ name. name.now) names piece.member ∙ ap (option_map (λ name. name.now)) there in
    IfOk-weaker c.try_edits.result _ _ (other_told o s (merge_set_of_part s c.args.order.now) piece c.in-Some.ws.now.now named) c.try_edits.ensures.told
