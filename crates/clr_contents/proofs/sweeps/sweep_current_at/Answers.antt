use Rattle.std.proofs.Common.{◌≡◌, List, refl, ap, sym, subst, ◌∙◌, slice_set}
use Rattle.clr_deltas.specs.Differences.{Differences, swept_at}
use Rattle.clr_deltas.specs.Deltas.{Delta, delta_at, delta_changed, wholes}
use Rattle.clr_workspaces.specs.Workspaces.{workspace_at}
use Rattle.clr_workspaces.specs.Roots.{IsRooted}
use Rattle.clr_contents.proofs.SweepLemmas.{rooted_still, set_again, base_stays}
use Rattle.clr_contents.proofs.sweeps.sweep_current_at.Goals as goal

pub new-requires-clause-rooted : goal.new-requires-clause-rooted
new-requires-clause-rooted c =
    let live = c.args.live.now in
    let ls = c.args.map.now in
    let out : Delta = record (delta_at ls c.args.at) { current = c.new-none.result } in
    subst (λ (ms : List Delta). IsRooted (wholes live ms)) (sym c.replace_current-current.ensures.new)
    (rooted_still ls c.args.at out refl refl live c.requires.rooted)

pub returns : goal.returns
returns c =
    let live = c.args.live.now in
    let ls = c.args.map.now in
    let at = c.args.at in
    let stored = delta_at ls at in
    let out : Delta = record stored { current = c.new-none.result } in
    let base = (workspace_at (wholes live ls) at).base in
    let seen : c.new.result ≡ base =
    c.new.ensures ∙ ap (λ (ms : List Delta). (workspace_at (wholes live ms) at).base) c.replace_current-current.ensures.new
    ∙ base_stays live ls at c.requires.rooted c.requires.child c.requires.within out refl refl in
    let is : c.sweep_at.new.self ≡ swept_at base c.args.cells.now stored.current = c.sweep_at.ensures
    ∙ (λ i. swept_at (seen i) c.args.cells.now (c.replace_current-current.ensures.before i)) in
    c.replace_current-none.ensures.new
    ∙ ap (λ (ms : List Delta). delta_changed ms at (λ l. record l { current = c.sweep_at.new.self })) c.replace_current-current.ensures.new
    ∙ set_again ls at out c.requires.within (λ l. record l { current = c.sweep_at.new.self })
    ∙ ap (λ (d : Differences). let l : Delta = record stored { current = d } in slice_set ls at l) is
