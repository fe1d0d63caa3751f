-- The model of a scene: rules, the rows of a root, change sets in their order, and a finder.
use Rattle.std.specs.Prelude.{ℕ, List, map}
use Rattle.clr_rows.specs.Contents.{Changes, Content}
use Rattle.clr_rules.specs.declared.rules.Rule.{Rule}
use Rattle.clr_finders.specs.declared.finders.RowFinder.{Ghosts}
use Rattle.clr_finders.specs.Sharing.{IsSettledFor, Settled}
use Rattle.clr_foot.specs.declared.scenes.Scene.{Scene}
use Rattle.clr_needs.specs.Members.{setting}
use Rattle.clr_needs.specs.Parts.{sets_at}
use Rattle.clr_needs.specs.Settings.{Setting}
use Rattle.clr_row_versions.specs.Versions.{FitsSetting}

pub record SceneModel (F : Type 0) : Type 0 where
  pub rules : List Rule
  pub root : Content
  pub sets : List Changes
  pub finder : F

-- a scene by its own parts, its root by the content that such roots are seen as
abbrev pub model_of : {V F : Type 0} {finder : Ghosts F} → (V → Content) → Scene V F finder → SceneModel F
model_of content scene = record {
  rules = scene.book.now;
  root = content scene.root.now;
  sets = map (λ s. s.now) scene.members.sets.items;
  finder = scene.finder.now;
}

-- the root with the changes of each set over it
abbrev pub setting_of : {F : Type 0} → SceneModel F → Setting ℕ
setting_of m = setting m.rules m.root m.sets

-- the setting of a scene, by the scene's own parts
abbrev pub setting_in : {V F : Type 0} {finder : Ghosts F} → (V → Content) → Scene V F finder → Setting ℕ
setting_in content scene = setting_of (model_of content scene)

-- the rules and rows of a scene fit one schema, and its finder has settled the root's rows
pub record IsReady {F : Type 0} (settled : F → Settled) (m : SceneModel F) : Type 0 where
  pub fit : FitsSetting (setting_of m)
  pub is_settled : IsSettledFor (settled m.finder) m.rules m.root

-- the scene with the rules, root and finder of another, and those of its change sets that stand at some positions
abbrev pub model_at : {F : Type 0} → SceneModel F → List ℕ → SceneModel F
model_at m positions = record {
  rules = m.rules;
  root = m.root;
  sets = sets_at m.sets positions;
  finder = m.finder;
}
