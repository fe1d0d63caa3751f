-- The scenes of groups.
use Rattle.std.specs.Prelude.{ℕ, List, map}
use Rattle.clr_foot.specs.Scenes.{model_at, SceneModel}

-- the scene of each group
abbrev pub models_at : {F : Type 0} → SceneModel F → List (List ℕ) → List (SceneModel F)
models_at m groups = map (model_at m) groups
