-- Hints at names that no workspace has: at each, the name of a workspace that may be meant by it.
use Rattle.std.specs.Prelude.{◌≡◌, ◌≢◌, ◌++◌, ◌⊎◌, ℕ, false, List, [], ◌∷◌, Option, None, Some, Result, Ok, Err, codes, map}
use Rattle.clr_streams.specs.Shown.{shown}
use Rattle.clr_rows.specs.Names.{live_name}
use Rattle.clr_workspaces.specs.Marks.{Name}
use Rattle.clr_steps.specs.Offices.{Office}
use Rattle.clr_steps.specs.Readings.{parent_in}
use Rattle.clr_hints.specs.Names.{IsNearest}
use Rattle.clr_rules.specs.declared.needs.Broken.{Broken}
use Rattle.clr_office_texts.specs.Drafts.{Opened, opened_in}
use Rattle.clr_check.specs.Cases.{Case, case_of}
use Rattle.clr_command_line.specs.declared.asks.Ask.{Ask}
use Rattle.clr_command_line.specs.declared.asks.Ask.TheVariants as ask

-- a name, and the one that may be meant by it
pub record NameHint : Type 0 where
  pub name : Name
  pub near : Name

-- the names of all workspaces, that of LIVE first
abbrev pub workspace_names : Office → List Name
workspace_names o = live_name ∷ map (λ w. w.name) o.workspaces

-- no workspace has the name, and it isn't that of LIVE
abbrev pub IsNobody : Office → Name → Type 0
IsNobody o name = (parent_in o name ≡ None) × (name ≢ live_name)

-- the name that may be meant by one: the nearest name of a workspace where no workspace has it, if that is like enough, and else none
abbrev pub IsMeant : Office → Name → Option Name → Type 0
IsMeant o name near = (IsNobody o name × IsNearest name (workspace_names o) near) ⊎ (¬ (IsNobody o name) × (near ≡ None))

-- the name that no workspace has, on one line and as a terminal shows it
abbrev pub hint_text : NameHint → List ℕ
hint_text hint = codes "hint: no workspace is named '" ++ shown false hint.name ++ codes "'; did you mean '" ++ hint.near ++ codes "'?\n"

-- the line of a hint, if there is one
abbrev pub hint_at : Name → Option Name → List ℕ
hint_at name None = []
hint_at name (Some near) = hint_text (record { name = name; near = near })

-- what is said at a name
abbrev pub IsHintAt : Office → Name → List ℕ → Type 0
IsHintAt o name line = (near : Option Name) × IsMeant o name near × (line ≡ hint_at name near)

-- what is said at names, one after another
abbrev pub AreNameHints : Office → List Name → List ℕ → Type 0
AreNameHints o [] lines = lines ≡ []
AreNameHints o (name ∷ names) lines = (line : List ℕ) × (rest : List ℕ) × IsHintAt o name line × AreNameHints o names rest × (lines ≡ line ++ rest)

-- what is said at a name is added to lines
abbrev pub AddsHint : Office → Name → List ℕ → List ℕ → Type 0
AddsHint o name old new = (line : List ℕ) × IsHintAt o name line × (new ≡ old ++ line)

-- what is said at names of an office in which every rule holds; nothing where one doesn't
abbrev pub AreHintsWhereHeld : List Name → Office → Option (ℕ × Broken) → List ℕ → Type 0
AreHintsWhereHeld names o (Some unheld) lines = lines ≡ []
AreHintsWhereHeld names o None lines = AreNameHints o names lines

-- what is said at names of the office of a text, and nothing where there is none
abbrev pub AreHintsIn : List Name → Opened → List ℕ → Type 0
AreHintsIn names (Err e) lines = lines ≡ []
AreHintsIn names (Ok (o, unheld)) lines = AreHintsWhereHeld names o unheld lines

-- what is said at the root of a certificate and at names, where two texts give an office and a certificate
abbrev pub AreHintsOfCase : List Name → Case → List ℕ → Type 0
AreHintsOfCase names (Err why) lines = lines ≡ []
AreHintsOfCase names (Ok given) lines = AreNameHints given.0 (given.1.root ∷ names) lines

-- what is said at the names that are asked for: the root and the members of a plan, and the workspaces of merges
abbrev pub AreHintsTo : Ask → List ℕ → List ℕ → List ℕ → Type 0
AreHintsTo (ask.Plan orders names) office second lines = AreHintsIn (live_name ∷ names) (opened_in office) lines
AreHintsTo (ask.PlanUnder orders root names) office second lines = AreHintsIn (root ∷ names) (opened_in office) lines
AreHintsTo (ask.Merge names) office second lines = AreHintsOfCase names (case_of office second) lines
AreHintsTo _ office second lines = lines ≡ []
