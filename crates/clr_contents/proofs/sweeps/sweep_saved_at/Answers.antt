use Rattle.std.proofs.Common.{◌≡◌, List, refl, ap, sym, subst, ◌∙◌, slice_set}
use Rattle.clr_deltas.specs.Deltas.{Delta, delta_at, delta_changed, wholes}
use Rattle.clr_workspaces.specs.Workspaces.{workspace_at}
use Rattle.clr_deltas.specs.declared.stored_marks.StoredMark.{StoredMark}
use Rattle.clr_contents.specs.Lean.{swept_marks_at}
use Rattle.clr_workspaces.specs.Roots.{IsRooted}
use Rattle.clr_contents.proofs.SweepLemmas.{rooted_still, set_again, base_stays}
use Rattle.clr_contents.proofs.sweeps.sweep_saved_at.Goals as goal

pub new-requires-clause-rooted : goal.new-requires-clause-rooted
new-requires-clause-rooted c =
    let live = c.args.live.now in
    let ls = c.args.map.now in
    let out : Delta = record (delta_at ls c.args.at) { marks = c.new-none.result.items } in
    subst (λ (ms : List Delta). IsRooted (wholes live ms)) (sym c.replace_marks-marks.ensures.new)
    (rooted_still ls c.args.at out refl refl live c.requires.rooted)

pub returns : goal.returns
returns c =
    let live = c.args.live.now in
    let ls = c.args.map.now in
    let at = c.args.at in
    let stored = delta_at ls at in
    let out : Delta = record stored { marks = c.new-none.result.items } in
    let base = (workspace_at (wholes live ls) at).base in
    let seen : c.new.result ≡ base =
    c.new.ensures ∙ ap (λ (ms : List Delta). (workspace_at (wholes live ms) at).base) c.replace_marks-marks.ensures.new
    ∙ base_stays live ls at c.requires.rooted c.requires.child c.requires.within out refl refl in
    let is : c.sweep_each_at.new.marks.items ≡ swept_marks_at base c.args.cells.now stored.marks = c.sweep_each_at.ensures
    ∙ (λ i. swept_marks_at (seen i) c.args.cells.now (c.replace_marks-marks.ensures.before i)) in
    c.replace_marks-none.ensures.new
    ∙ ap (λ (ms : List Delta). delta_changed ms at (λ l. record l { marks = c.sweep_each_at.new.marks.items })) c.replace_marks-marks.ensures.new
    ∙ set_again ls at out c.requires.within (λ l. record l { marks = c.sweep_each_at.new.marks.items })
    ∙ ap (λ (ms : List StoredMark). let l : Delta = record stored { marks = ms } in slice_set ls at l) is
