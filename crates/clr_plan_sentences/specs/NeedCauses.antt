-- A need that nothing serves in words: its rule, its rows, where they meet or how far apart they are, and what stands there, goes and comes.
use Rattle.std.specs.Prelude.{◌≡◌, ℕ, ◌==◌, Bool, true, false, List, [], ◌∷◌, ◌++◌, codes, flat_map, length, Option, Some, None, if◌then◌else◌}
use Rattle.std.specs.Fmt.{decimal}
use Rattle.std.specs.Option.{option_and_then}
use Rattle.clr_rows.specs.declared.places.Place.{Place}
use Rattle.clr_rows.specs.declared.rows.Row.{Row}
use Rattle.clr_rows.specs.declared.tables.TableDef.{TableDef}
use Rattle.clr_rows.specs.Contents.{Changes}
use Rattle.clr_rules.specs.declared.columns.Col.{Col}
use Rattle.clr_rules.specs.declared.rules.Rule.{Rule}
use Rattle.clr_rules.specs.declared.rules.Rule.TheVariants.{EndNode, Unique}
use Rattle.clr_rules.specs.declared.sides.Side.{Side}
use Rattle.clr_rules.specs.Sides.{sides}
use Rattle.clr_needs.specs.declared.needs.Need.{Need}
use Rattle.clr_needs.specs.declared.needs.VersionId.{VersionId}
use Rattle.clr_workspaces.specs.Marks.{Name}
use Rattle.clr_steps.specs.Offices.{Office}
use Rattle.clr_steps.specs.Quiet.{MergeSet}
use Rattle.clr_member_changes.specs.Names.{member_name}
use Rattle.clr_phrases.specs.declared.meetings.Meeting.{Meeting}
use Rattle.clr_phrases.specs.declared.meetings.Meeting.TheVariants as meeting
use Rattle.clr_phrases.specs.Lists.{names_text}
use Rattle.clr_phrases.specs.Places.{place_text}
use Rattle.clr_phrases.specs.Rules.{fields_text, rule_sentence, rule_title, side_text}
use Rattle.clr_plan_sentences.specs.declared.told_rows.CauseWords.{CauseWords}
use Rattle.clr_serving_rows.specs.declared.servers.ServerChange.{ServerChange}
use Rattle.clr_plan_sentences.specs.Labels.{cell_label}
use Rattle.clr_plan_sentences.specs.OldErrors.{old_text}
use Rattle.clr_serving_rows.specs.Servers.{server_changes}
use Rattle.clr_whereabouts.specs.declared.needs.Whereabouts.{Whereabouts}
use Rattle.clr_whereabouts.specs.Whereabouts.{IsWhereabouts}
use Rattle.clr_whereabouts.specs.Words.{gap_text, near_text}
use Rattle.clr_plan_sentences.specs.ToldRows.{row_of_second, row_of_version}
use Rattle.clr_merge_sets.specs.MemberChanges.{row_in}

-- its rule and its rows -----------------------------------------------------------------------------

-- a rule by its number and what it is about
abbrev pub numbered_text : ℕ → List ℕ → List ℕ
numbered_text number title = codes "Rule " ++ decimal number ++ codes ", " ++ title

-- a rule as a sentence, behind its number and what it is about
abbrev pub rule_reason : List TableDef → ℕ → Rule → List ℕ
rule_reason tables number rule = numbered_text number (rule_title rule) ++ codes ". " ++ rule_sentence tables rule ++ codes "\n"

-- where its rows meet -------------------------------------------------------------------------------

abbrev pub place_front : Rule → List ℕ
place_front (EndNode subject tip server) = codes "  That end is at "
place_front _ = codes "  They meet at "

-- rows meet between whole millimetres
abbrev pub between_text : Option Place → List ℕ
between_text near =
    codes "  They meet " ++ near_text near ++ codes "at no whole millimetre, where no row can stand: give both a vertex or an end at one place.\n"

-- where the rows of a need meet, or where the end of its row is
abbrev pub meeting_text : Rule → Meeting → Option Place → List ℕ
meeting_text rule (meeting.Whole p) near = place_front rule ++ place_text p ++ codes ".\n"
meeting_text rule meeting.Between near = between_text near
meeting_text rule meeting.Overlap near = codes "  They overlap, and no row can serve parts that do.\n"
meeting_text rule meeting.Apart near = []
meeting_text rule meeting.NoParts near = []

-- no row can stand where the need asks for one
abbrev pub is_hopeless : Meeting → Bool
is_hopeless meeting.Between = true
is_hopeless meeting.Overlap = true
is_hopeless _ = false

-- what stands there, goes and comes -----------------------------------------------------------------

-- what the rows of a need have in common, if the first of them stands
abbrev pub common_text : List TableDef → Need → Side → List Col → Option Row → List ℕ
common_text tables need subject columns None = []
common_text tables need subject columns (Some row) =
    codes "  Both have " ++ fields_text tables subject (need.first.cell, row) columns ++ codes ".\n"

-- the word for the rows of a need
abbrev pub rows_word : Option VersionId → List ℕ
rows_word None = codes "it"
rows_word (Some second) = codes "them"

-- the row of a change, and the member that makes it
abbrev pub change_label : List TableDef → List Name → ServerChange → List ℕ
change_label tables members e = cell_label tables e.cell ++ codes " (" ++ member_name members e.member ++ codes ")"

-- the row of a change that takes away a row which serves, or of one that brings such a row, and nothing of another
abbrev pub label_if : List TableDef → List Name → Bool → ServerChange → List (List ℕ)
label_if tables members true e = if e.leaves then change_label tables members e ∷ [] else []
label_if tables members false e = if e.leaves then [] else change_label tables members e ∷ []

abbrev pub change_front : Option VersionId → Bool → List ℕ
change_front second true = codes "  What serves " ++ rows_word second ++ codes " now goes: "
change_front second false = codes "  What would serve " ++ rows_word second ++ codes " comes, perhaps later: "

-- names behind some words, and nothing where there are no names
abbrev pub listed_text : List ℕ → List (List ℕ) → List ℕ
listed_text front names = if length names == 0 then [] else front ++ names_text names ++ codes ".\n"

-- the rows that some changes take away, or those that they bring
abbrev pub changed_text : List TableDef → List Name → Option VersionId → List ServerChange → Bool → List ℕ
changed_text tables members second changes leaves =
    listed_text (change_front second leaves) (flat_map (label_if tables members leaves) changes)

-- no row of a side stands at a place that is known, or anywhere
abbrev pub no_server_text : List TableDef → Name → Side → Meeting → List ℕ
no_server_text tables root server (meeting.Whole p) =
    codes "  No " ++ side_text tables server ++ codes " stands there, in " ++ root ++ codes " or in one of these designs.\n"
no_server_text tables root server _ =
    codes "  No such " ++ side_text tables server ++ codes " stands in " ++ root ++ codes " or in one of these designs.\n"

-- of some changes of rows that serve a need, which go and which come; where there are none, that no such row stands
abbrev pub told_changes : Office → MergeSet → Need → Meeting → Side → List ServerChange → List ℕ
told_changes o s need place server changes =
    if length changes == 0 then no_server_text o.schema s.root server place
    else changed_text o.schema s.members need.second changes true ++ changed_text o.schema s.members need.second changes false

-- which rows that serve a need go and which come; nothing where no row can serve it
abbrev pub servers_text : Office → MergeSet → Need → Meeting → List ServerChange → Option Side → List ℕ
servers_text o s need place changes None = []
servers_text o s need place changes (Some server) = if is_hopeless place then [] else told_changes o s need place server changes

-- two rows that are alike: what they have in common; any other need: which rows that serve it go and which come
abbrev pub serving_text : Office → MergeSet → Need → Meeting → Option Row → List ServerChange → Rule → List ℕ
serving_text o s need place first changes (Unique subject columns) = common_text o.schema need subject columns first
serving_text o s need place first changes rule = servers_text o s need place changes (sides rule).server

-- the whole -----------------------------------------------------------------------------------------

-- nothing is told
abbrev pub no_cause : CauseWords
no_cause = record { reason = []; rows = []; place = [] }

-- where the rows of a need meet or how far apart they are, and what stands there, goes and comes
abbrev pub whereabouts_text : Office → MergeSet → Need → Rule → Whereabouts → Option Row → List ServerChange → List ℕ
whereabouts_text o s need rule places first changes =
    meeting_text rule places.meeting places.near ++ gap_text places.gap ++ serving_text o s need places.meeting first changes rule

-- a need that nothing serves under a rule: of rows that are there, and changes of rows that would serve
abbrev pub told_cause : Office → MergeSet → List Changes → Need → Rule → Whereabouts → Option Row → Option Row → List ServerChange → CauseWords
told_cause o s sets need rule places first second changes = record {
  reason = rule_reason o.schema need.rule rule ++ old_text o s sets need;
  rows = row_of_version o s sets need.first first ∷ row_of_second o s sets need.second second;
  place = whereabouts_text o s need rule places first changes;
}

-- a need that nothing serves under a rule, whose rows are there
abbrev pub need_cause : Office → MergeSet → List Changes → Need → Rule → Whereabouts → CauseWords
need_cause o s sets need rule places =
    told_cause o s sets need rule places (row_in o s need.first) (option_and_then (row_in o s) need.second) (server_changes o s need)

-- a need that nothing serves; nothing is told where the book doesn't have its rule
abbrev pub IsNeedCause : Office → MergeSet → List Changes → Need → Option Rule → CauseWords → Type 0
IsNeedCause o s sets need None cause = cause ≡ no_cause
IsNeedCause o s sets need (Some rule) cause =
    (places : Whereabouts) × IsWhereabouts o s need places × (cause ≡ need_cause o s sets need rule places)
