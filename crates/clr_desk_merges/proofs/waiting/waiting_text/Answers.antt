use Rattle.std.proofs.Common.{◌≡◌, ◌∙◌, IfOk, List, Option, Some, ap, length, map, option_map, refl, slice_get, subst, sym}
use Rattle.std.specs.Prelude.{option_and_then}
use Rattle.std.proofs.lemmas.Option.{slice_get-map, slice_get_read}
use Rattle.clr_merge_sets.specs.Certificates.{ordered_merge_set_of}
use Rattle.clr_workspaces.specs.Marks.{Name}
use Rattle.clr_desk_merges.specs.Waiting.{done_names, first_awaited, waiting_line}
use Rattle.clr_desk_merges.proofs.waiting.waiting_text.Goals as goal

pub returns : goal.returns
returns c =
    let ordered = ordered_merge_set_of c.args.certificate.now in
    let names = c.args.names.now in
    let replies = c.args.replies.now in
    let texts = c.as_slice-names.result.now in
    let k = length replies in
    let name = c.in-Some.name in
    let given : map (λ n. n.now) texts ≡ names = ap (map (λ n. n.now)) c.as_slice-names.ensures.value ∙ c.in_ok-names.ensures in
    let read : slice_get texts k ≡ Some name.now =
    slice_get_read texts (length texts) k name.now refl c.in-Some.ensures.lookup.3.0 (c.in-Some.ensures.lookup.3.1 name.now) in
    let named : slice_get names k ≡ Some name.now.now =
    ap (λ (ns : List Name). slice_get ns k) (sym given) ∙ slice_get-map (λ n. n.now) texts k ∙ ap (option_map (λ n. n.now)) read in
    let done : map (λ n. n.now) c.as_slice.result.now ≡ done_names names replies =
    ap (map (λ n. n.now)) c.as_slice.ensures.value ∙ c.in_ok-done.ensures ∙ ap (λ (ns : List Name). done_names ns replies) given in
    let first : option_map (λ n. n.now) c.first_awaited.result ≡ first_awaited ordered (done_names names replies) name.now.now =
    c.first_awaited.ensures ∙ ap (λ (ds : List Name). first_awaited ordered ds name.now.now) done in
    subst (λ (w : Option Name). IfOk c.waiting_line.result (λ line. line.items ≡ waiting_line w))
    (first ∙ sym (ap (option_and_then (first_awaited ordered (done_names names replies))) named)) c.waiting_line.ensures
