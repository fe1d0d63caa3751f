-- The content of a name and whether it is kept, by what is found in the list of workspaces.
use Rattle.std.proofs.Common.{◌≡◌, Bool, true, false, ◌||◌, cond, refl, ap, Option, Some, None}
use Rattle.std.specs.Option.{option_map, option_map_or}
use Rattle.std.proofs.lemmas.Bool.{true≢false}
use Rattle.clr_rows.specs.Contents.{Content, no_rows}
use Rattle.clr_workspaces.specs.Marks.{Name}
use Rattle.clr_workspaces.specs.Workspaces.{Workspace}
use Rattle.clr_steps.specs.Names.{is_live}
use Rattle.clr_steps.specs.Offices.{Office, find_name, workspace, content_of, current_of, is_kept}
use Rattle.clr_steps.proofs.FindLemmas.{seen_by}

pub or_false : (a b : Bool) → (a || b) ≡ true → a ≡ false → b ≡ true
or_false true b h e = absurd (true≢false e)
or_false false b h e = h

-- a workspace that may be a root: its content, and whether it is kept
pub record Root : Type 0 where
  pub current : Content
  pub kept : Bool

abbrev pub root_of : Workspace → Root
root_of w = record { current = w.current; kept = w.kept }

-- the content of a name, and whether it is kept, by what is seen
pub content_seen : (o : Office) (n : Name) → content_of o n
    ≡ cond (is_live n) o.live (option_map_or (λ (r : Root). r.current) (seen_by root_of n o.workspaces) no_rows)
unfolding content_of
content_seen o n = ap (cond (is_live n) o.live) (by (find_name n o.workspaces))
  where
    by : (r : Option Workspace) → current_of r ≡ option_map_or (λ (r : Root). r.current) (option_map root_of r) no_rows
    by None = refl
    by (Some w) = refl

pub kept_seen : (o : Office) (n : Name) → is_kept o n ≡ (is_live n || option_map_or (λ (r : Root). r.kept) (seen_by root_of n o.workspaces) false)
unfolding is_kept workspace
kept_seen o n = by (is_live n) (find_name n o.workspaces)
  where
    by : (b : Bool) (r : Option Workspace) → (b || option_map_or (λ (w : Workspace). w.kept) (cond b None r) false)
        ≡ (b || option_map_or (λ (r : Root). r.kept) (option_map root_of r) false)
    by true r = refl
    by false None = refl
    by false (Some w) = refl
