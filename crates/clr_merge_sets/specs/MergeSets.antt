-- What is read of a merge set in an office, and the scene that it makes.
use Rattle.std.specs.Prelude.{◌≡◌, true, List, None, map}
use Rattle.clr_rows.specs.Contents.{Content, conflicts}
use Rattle.clr_finders.specs.Sharing.{IsSettledFor, Settled}
use Rattle.clr_workspaces.specs.Marks.{Name}
use Rattle.clr_needs.specs.Members.{AreApart}
use Rattle.clr_foot.specs.Scenes.{IsReady, SceneModel, setting_of}
use Rattle.clr_steps.specs.Names.{has}
use Rattle.clr_steps.specs.Offices.{Office}
use Rattle.clr_steps.specs.Quiet.{MergeSet, root_content}
use Rattle.clr_steps.specs.Readings.{changes_in, conflicts_in}
use Rattle.clr_clearance.specs.MergeSets.{change_sets, setting_by_position}
use Rattle.clr_clearance.specs.Verdicts.{member_fault}
use Rattle.clr_merge_sets.specs.declared.merge_set_parts.MergeSetParts.{MergeSetParts}

-- what each of some workspaces has in conflict with its parent is what its changes have in conflict with these rows
abbrev pub AreRowsAbove : Office → List Name → Content → Type 0
AreRowsAbove o names rows = (name : Name) → has names name ≡ true → conflicts_in o name ≡ conflicts rows (changes_in o name)

-- no test of members fails, and these are the root's rows, filed by their spots, and what each member changed
pub record AreParts (o : Office) (s : MergeSet) (parts : MergeSetParts) : Type 0 where
  pub free : member_fault o s ≡ None
  pub rows : parts.rows ≡ root_content o s
  pub filed : IsSettledFor parts.finder.now.settled o.book parts.rows
  pub sets : map (λ set. set.now) parts.sets.items ≡ change_sets o s

-- the parts of a merge set
abbrev pub AreOfMergeSet : Office → MergeSetParts → Type 0
AreOfMergeSet o parts = (s : MergeSet) × AreParts o s parts

-- a scene of the root's rows and of the changes of each member by position, ready for its calls; no cell is changed by two
pub record IsSceneOf {F : Type 0} (settled : F → Settled) (o : Office) (s : MergeSet) (m : SceneModel F) : Type 0 where
  pub setting : setting_of m ≡ setting_by_position o s
  pub ready : IsReady settled m
  pub apart : AreApart (change_sets o s)
