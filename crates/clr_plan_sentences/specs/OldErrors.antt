-- What is said of a need that is broken already: an old error, which a design touches.
use Rattle.std.specs.Prelude.{ℕ, ◌==◌, Bool, List, [], ◌∷◌, ◌++◌, codes, length, Option, Some, None, option_map, if◌then◌else◌}
use Rattle.clr_rows.specs.declared.tables.TableDef.{TableDef}
use Rattle.clr_rows.specs.Contents.{Changes}
use Rattle.clr_audit.specs.Unknown.{is_known}
use Rattle.clr_rules.specs.declared.needs.Broken.{Broken}
use Rattle.clr_rules.specs.Needs.{broken_needs}
use Rattle.clr_needs.specs.declared.needs.Need.{Need}
use Rattle.clr_needs.specs.declared.needs.VersionId.{VersionId}
use Rattle.clr_workspaces.specs.Marks.{Name}
use Rattle.clr_steps.specs.Offices.{Office, content_of}
use Rattle.clr_steps.specs.Quiet.{MergeSet}
use Rattle.clr_phrases.specs.Lists.{names_text}
use Rattle.clr_plan_sentences.specs.Changers.{changer_name}
use Rattle.clr_plan_sentences.specs.Labels.{cell_label}

-- a need by the cells of its rows, whichever versions of them it has
abbrev pub need_at : Need → Broken
need_at need = record {
  rule = need.rule;
  first = need.first.cell;
  second = option_map (λ v. v.cell) need.second;
  first_part = need.first_part;
  second_part = need.second_part;
}

-- the root breaks the need too, by the rows that it has at these cells
abbrev pub is_old : Office → Name → Need → Bool
is_old o root need = is_known (broken_needs o.book (content_of o root)) (need_at need)

-- who changes a row of the need, if a member does
abbrev pub change_words : List TableDef → List Name → List Changes → VersionId → List (List ℕ)
change_words tables members sets v =
    if v.fresh then (changer_name members sets v.cell ++ codes " changes " ++ cell_label tables v.cell) ∷ [] else []

abbrev pub second_change_words : List TableDef → List Name → List Changes → Option VersionId → List (List ℕ)
second_change_words tables members sets None = []
second_change_words tables members sets (Some v) = change_words tables members sets v

-- who changes which rows of the need
abbrev pub changed_rows : List TableDef → List Name → List Changes → Need → List (List ℕ)
changed_rows tables members sets need = change_words tables members sets need.first ++ second_change_words tables members sets need.second

abbrev pub left_words : ℕ → List ℕ
left_words count = if count == 1 then codes "that row as it is" else codes "those rows as they are"

-- an old error is asked anew, since rows of it are changed; and nothing where none is
abbrev pub asked_anew : List (List ℕ) → List ℕ
asked_anew changes =
    if length changes == 0 then []
    else codes "This error is old; " ++ names_text changes ++ codes ", so it is asked anew: mend it, or leave " ++ left_words (length changes) ++ codes ".\n"

-- what is said of a need that members touch, if it is an old error
abbrev pub old_text : Office → MergeSet → List Changes → Need → List ℕ
old_text o s sets need = if is_old o s.root need then asked_anew (changed_rows o.schema s.members sets need) else []
