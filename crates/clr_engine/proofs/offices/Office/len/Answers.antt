use Rattle.std.proofs.Common.{subst, arith}
use Rattle.std.specs.Prelude.{◌≡◌, List, [], ◌∷◌}
use Rattle.clr_workspaces.specs.Workspaces.{Workspace, live_workspace, workspace_at}
use Rattle.clr_workspaces.specs.Soundness.{IsSound}
use Rattle.clr_steps.specs.Offices.{Office, below_live}
use Rattle.clr_engine.proofs.offices.Office.len.Goals as goal

-- the workspaces of a sound list are LIVE and those below it
whole : (ws : List Workspace) → IsSound ws → ws ≡ live_workspace (workspace_at ws 0).current ∷ below_live ws
whole [] h = absurd (let some = h.rooted.filled in omega (arith, some))
whole (w ∷ ws) h = (λ i. record { name = h.rooted.live i; parent = h.rooted.top i; base = h.base i; current = w.current; marks = h.bare i; kept = h.held i }
    ∷ ws)

pub returns-clause-sound : goal.returns-clause-sound
returns-clause-sound c =
    subst (λ (o : Office). IsSound (live_workspace o.live ∷ o.workspaces)) c.self.view_is
    (subst IsSound (whole c.self.inside.tree.list c.len.ensures.sound) c.len.ensures.sound)
