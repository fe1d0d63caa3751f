use Rattle.std.proofs.Common.{◌≡◌, ◌++◌, ◌∷◌, [], ap, sym, ◌∙◌, arith}
use Rattle.clr_deltas.specs.NamedDeltas.{delta_of, delta_under, stored_delta}
use Rattle.clr_deltas.specs.Deltas.{Delta, find_delta, wholes}
use Rattle.clr_workspaces.specs.Marks.{Name}
use Rattle.clr_deltas.proofs.Meaning.{find-wholes, length-wholes}
use Rattle.clr_deltas.proofs.Places.{wholes-push}
use Rattle.clr_workspace_parts.specs.Parts.{place_fault}
use Rattle.clr_workspace_parts.proofs.BuildLemmas.{is_fault}
use Rattle.clr_workspace_parts.proofs.delta_builds.push_delta.Goals as goal

pub push-requires : goal.push-requires
push-requires c =
    let name = c.into_string.ensures ∙ sym c.as_str.ensures in
    ap (find_delta c.args.map.now) name ∙ sym (find-wholes c.args.live.now c.args.map.now c.as_str.result.now) ∙ c.in_default.ensures.absent

pub returns-in-Err-clause-refused : goal.returns-in-Err-clause-refused
returns-in-Err-clause-refused c =
    is_fault _ c.in-Err.fault
    ((λ i. place_fault (wholes c.args.live.now c.args.map.now) (sym c.as_str.ensures i) (sym c.as_str-2.ensures i)) ∙ c.in-Err.ensures.refused)

pub returns-in-Ok-clause-ok : goal.returns-in-Ok-clause-ok
returns-in-Ok-clause-ok c =
    let live = c.args.live.now in
    let ls = c.args.map.now in
    let delta : delta_of (c.into_string.result, c.args.part.delta) ≡ stored_delta c.args.part =
    ap (λ (name : Name). delta_under name c.args.part.delta) c.into_string.ensures in
    ap (wholes live) c.in-Ok.ensures.ok ∙ ap (λ (l : Delta). wholes live (ls ++ l ∷ [])) delta
    ∙ wholes-push live ls (stored_delta c.args.part) (let some = c.requires.filled in let same = length-wholes live ls in omega (arith, some, same))
