use Rattle.std.proofs.Common.{◌≡◌, ◌∙◌, ◌++◌, ◌∷◌, [], List, map, Bor, ap, sym, subst}
use Rattle.clr_change.specs.declared.change_sets.ChangeSet.{ChangeSet}
use Rattle.clr_workspaces.specs.Workspaces.{workspace_at}
use Rattle.clr_finders.specs.RowMaps.{FiledRows}
use Rattle.clr_foot.specs.Scenes.{IsReady, SceneModel}
use Rattle.clr_needs.specs.Settings.{DoChange}
use Rattle.clr_foot.specs.Scenes.{setting_of}
use Rattle.clr_judges.proofs.Scenes.{changing, fits_scene, listed, ready}
use Rattle.clr_judges.proofs.judges.Judge.first_broken_after.Goals as goal

one_set : (sets new : List (Bor ChangeSet)) (changed : Bor ChangeSet) → sets ≡ [] → new ≡ sets ++ changed ∷ [] → map (λ s. s.now) new ≡ changed.now ∷ []
one_set sets new changed none e = ap (map (λ s. s.now)) (e ∙ ap (λ ss. ss ++ changed ∷ []) none)

pub new-requires-clause-fit : goal.new-requires-clause-fit
new-requires-clause-fit c =
    let current = (workspace_at c.args.tree.now.list c.args.at).current in
    fits_scene c.args.self.now _ current _ c.args.changed.now _ c.requires.fit c.self.view_is c.view-root.ensures
    (one_set c.new-sets.result.items c.push.new.self.items c.args.changed c.new-sets.ensures.items c.in_ok-push.ensures.items)

pub first_broken-requires-clause-ready : goal.first_broken-requires-clause-ready
first_broken-requires-clause-ready c =
    let current = (workspace_at c.args.tree.now.list c.args.at).current in
    subst (λ (m : SceneModel FiledRows). IsReady {F = FiledRows} (λ f. f.settled) m) (sym c.in-Ok.ensures.model)
    (ready c.args.self.now _ current _ c.args.changed.now _ c.requires.fit c.self.view_is c.view-root.ensures
    (one_set c.new-sets.result.items c.push.new.self.items c.args.changed c.new-sets.ensures.items c.in_ok-push.ensures.items) c.args.finder.now
    c.requires.finder)

pub first_broken-requires-clause-changes : goal.first_broken-requires-clause-changes
first_broken-requires-clause-changes c =
    let current = (workspace_at c.args.tree.now.list c.args.at).current in
    subst (λ (m : SceneModel FiledRows). DoChange (setting_of m)) (sym c.in-Ok.ensures.model)
    (changing c.args.self.now _ current _ c.args.changed.now _ c.requires.fit c.self.view_is c.view-root.ensures
    (one_set c.new-sets.result.items c.push.new.self.items c.args.changed c.new-sets.ensures.items c.in_ok-push.ensures.items) c.requires.changes)

pub returns-in-Ok : goal.returns-in-Ok
returns-in-Ok c =
    let current = (workspace_at c.args.tree.now.list c.args.at).current in
    listed c.args.self.now _ current _ c.args.changed.now _ c.requires.fit c.self.view_is c.view-root.ensures
    (one_set c.new-sets.result.items c.push.new.self.items c.args.changed c.new-sets.ensures.items c.in_ok-push.ensures.items) _ c.args.finder.now
    c.in-Ok.ensures.model c.first_broken.result c.first_broken.ensures
