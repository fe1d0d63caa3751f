use Rattle.std.proofs.Common.{◌≡◌, ◌∙◌, ◌<◌, ◌∷◌, [], ap, arith, length, map, option_map, suc, sym}
use Rattle.std.proofs.lemmas.List.{length-map, map-append}
use Rattle.std.proofs.lemmas.Option.{none-some, slice_get-get_or}
use Rattle.clr_office.specs.NameHints.{workspace_names}
use Rattle.clr_office.proofs.HintLemmas.{more_names, name_read}
use Rattle.clr_office.proofs.name_hints.names_of_workspaces.Goals.{in-Some+in_ok-push, in_default}
use Rattle.clr_office.proofs.name_hints.names_of_workspaces.Goals as goal

pub loop-at-preserved : goal.loop-at-preserved
loop-at-preserved c =
    let o = c.args.office.now in
    let all = workspace_names o in
    let at = c.loop-at.at in
    let test = c.loop-at-test.true in
    let end = c.loop-at.auto.at-end in
    let count = c.len-at-end.ensures.count in
    let size : length all ≡ suc (length o.workspaces) = ap suc (length-map o.workspaces (λ w. w.name)) in
    let less : at < length all = omega (arith, test, end, count, size) in
    elim c.match-name_at.branch [
      | in-Some+in_ok-push w ↦ more_names all at w.in-Some.name.now (map (λ name. name.now) c.loop-at.names.items) _
          (sym (name_read o at) ∙ sym c.name_at.ensures ∙ ap (option_map (λ name. name.now)) w.in-Some.is) c.loop-at.invariant
          (ap (λ names. map (λ name. name.now) names.items) w.names-is ∙ ap (map (λ name. name.now)) w.in_ok-push.ensures.items
          ∙ map-append (λ name. name.now) c.loop-at.names.items (w.in-Some.name ∷ []))
      | in_default w ↦ absurd (none-some _ (ap (option_map (λ name. name.now)) (sym w.in_default.is) ∙ c.name_at.ensures ∙ name_read o at
          ∙ slice_get-get_or all at [] less))
    ]
