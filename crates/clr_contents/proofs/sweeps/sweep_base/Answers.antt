use Rattle.std.proofs.Common.{◌≡◌, List, refl, ap, sym, subst, ◌∙◌, slice_set}
use Rattle.clr_deltas.specs.Differences.{Differences, without_neutral}
use Rattle.clr_deltas.specs.Deltas.{Delta, delta_at, delta_changed, wholes}
use Rattle.clr_workspaces.specs.Workspaces.{workspace_at}
use Rattle.clr_workspaces.specs.Roots.{IsRooted}
use Rattle.clr_contents.specs.Lean.{content_of_parent}
use Rattle.clr_contents.proofs.SweepLemmas.{rooted_still, set_again, parent_stays}
use Rattle.clr_contents.proofs.sweeps.sweep_base.Goals as goal

pub new-requires-clause-rooted : goal.new-requires-clause-rooted
new-requires-clause-rooted c =
    let live = c.args.live.now in
    let ls = c.args.map.now in
    let out : Delta = record (delta_at ls c.args.at) { base = c.new-none.result } in
    subst (λ (ms : List Delta). IsRooted (wholes live ms)) (sym c.replace_base-base.ensures.new)
    (rooted_still ls c.args.at out refl refl live c.requires.rooted)

pub returns : goal.returns
returns c =
    let live = c.args.live.now in
    let ls = c.args.map.now in
    let at = c.args.at in
    let stored = delta_at ls at in
    let out : Delta = record stored { base = c.new-none.result } in
    let above = content_of_parent (wholes live ls) at in
    let seen : c.new.result ≡ above =
    c.new.ensures ∙ ap (λ (ms : List Delta). (workspace_at (wholes live ms) c.parent_of-above.result).current) c.replace_base-base.ensures.new
    ∙ parent_stays live ls at c.requires.rooted c.requires.child c.requires.within c.new-none.result c.parent_of-above.result c.parent_of-above.ensures.found
    c.parent_of-above.ensures.earlier in
    let is : c.sweep.new.self ≡ without_neutral above stored.base = c.sweep.ensures ∙ (λ i. without_neutral (seen i) (c.replace_base-base.ensures.before i)) in
    c.replace_base-none.ensures.new
    ∙ ap (λ (ms : List Delta). delta_changed ms at (λ l. record l { base = c.sweep.new.self })) c.replace_base-base.ensures.new
    ∙ set_again ls at out c.requires.within (λ l. record l { base = c.sweep.new.self })
    ∙ ap (λ (d : Differences). let l : Delta = record stored { base = d } in slice_set ls at l) is
