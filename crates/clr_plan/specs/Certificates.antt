-- The certificate of a cleared plan has a text, which is read as the certificate.
use Rattle.std.specs.Prelude.{◌≡◌, ◌∷◌, None, Ok}
use Rattle.clr_rows.specs.Schemas.{schema_fault}
use Rattle.clr_workspaces.specs.Soundness.{IsSound}
use Rattle.clr_workspaces.specs.Workspaces.{live_workspace}
use Rattle.clr_steps.specs.Offices.{Office}
use Rattle.clr_steps.specs.Quiet.{MergeSet}
use Rattle.clr_engine.specs.Fitting.{IsAdmitted}
use Rattle.clr_cert.specs.declared.certificates.Certificate.{Certificate}
use Rattle.clr_cert.specs.Certificates.{certificate_in}
use Rattle.clr_cert.specs.Texts.{IsWellFormed, certificate_text}
use Rattle.clr_merge_sets.specs.declared.plans.Plan.{Plan}
use Rattle.clr_merge_sets.specs.declared.plans.Plan.TheVariants as plan
use Rattle.clr_plan.specs.Plans.{IsPlan}

-- what is so of every office: its tables make a schema, rules and rows fit it, and its workspaces form a tree
pub record IsWhole (o : Office) : Type 0 where
  pub tables : schema_fault o.schema ≡ None
  pub admitted : IsAdmitted o
  pub tree : IsSound (live_workspace o.live ∷ o.workspaces)

-- the names are good, the schema names each cell, and parts are parts of paths; and the text is read as the certificate
pub record IsReadable (o : Office) (c : Certificate) : Type 0 where
  pub well_formed : IsWellFormed o.schema c
  pub read_back : certificate_in o.schema (certificate_text o.schema c) ≡ Ok c

-- the certificate of a plan that is cleared can be read
abbrev pub IsReadableWhereCleared : Office → Plan → Type 0
IsReadableWhereCleared o p = (c : Certificate) → p ≡ plan.Cleared c → IsReadable o c

-- in every office the certificate of a plan that is cleared can be read
abbrev pub ReadablePlanLaw : Type 0
ReadablePlanLaw = (o : Office) (s : MergeSet) (p : Plan) → IsWhole o → IsPlan o s p → IsReadableWhereCleared o p
