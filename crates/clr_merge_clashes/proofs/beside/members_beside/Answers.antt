use Rattle.std.proofs.Common.{◌≡◌, ◌∙◌, IfOk, List, ℕ, ap, filter, map, slice_get, subst, sym}
use Rattle.std.specs.List.{filter_map, range_with_len}
use Rattle.std.proofs.lemmas.List.{length-map}
use Rattle.clr_merge_clashes.specs.Beside.{is_beside}
use Rattle.clr_merge_clashes.proofs.beside.members_beside.Goals as goal

pub returns : goal.returns
returns c =
    let members = c.args.members.now in
    let given = c.as_slice.ensures.value ∙ c.in_ok-positions.ensures
    ∙ ap (λ n. filter (is_beside c.args.looked.now) (range_with_len 0 n)) (sym (length-map members (λ name. name.now))) in
    subst (λ (ps : List ℕ). IfOk c.names_at.result (λ list. map (λ name. name.now) list.items ≡ filter_map (slice_get (map (λ name. name.now) members)) ps))
    given c.names_at.ensures
