-- A plan in sentences.
use Rattle.std.specs.Prelude.{◌≡◌, ℕ, ◌-◌, ◌==◌, ◌^◌, List, [], ◌++◌, codes, length, nat_lt, take, if◌then◌else◌}
use Rattle.std.specs.Fmt.{decimal, format_spec, padded}
use Rattle.std.specs.List.{enumerate_from, flat_map}
use Rattle.clr_rows.specs.Contents.{Changes}
use Rattle.clr_cert.specs.declared.certificates.Entry.{Entry}
use Rattle.clr_workspaces.specs.Marks.{Name}
use Rattle.clr_steps.specs.Offices.{Office}
use Rattle.clr_steps.specs.Quiet.{MergeSet}
use Rattle.clr_clearance.specs.declared.verdicts.Verdict.{Verdict}
use Rattle.clr_clearance.specs.MergeSets.{change_sets}
use Rattle.clr_member_changes.specs.Names.{member_name}
use Rattle.clr_merge_sets.specs.declared.plans.Plan.{Plan}
use Rattle.clr_merge_sets.specs.declared.plans.Plan.TheVariants as plan
use Rattle.clr_member_changes.specs.declared.counts.Counts.{Counts}
use Rattle.clr_plan_sentences.specs.declared.served_needs.NeedWords.{NeedWords}
use Rattle.clr_plan_sentences.specs.declared.told_rows.CauseWords.{CauseWords}
use Rattle.clr_plan_sentences.specs.declared.told_rows.RowWords.{RowWords}
use Rattle.clr_plan_answers.specs.Answers.{answer_text}
use Rattle.clr_plan_sentences.specs.Causes.{IsCause}
use Rattle.clr_member_changes.specs.Counts.{counts_of}
use Rattle.clr_plan_sentences.specs.ServedNeeds.{told_need}

-- the first words of a plan
abbrev pub verdict_text : Plan → List ℕ
verdict_text (plan.Cleared certificate) = codes "CLEARED. "
verdict_text (plan.Blocked order cause) = codes "NOT CLEARED. "
verdict_text (plan.Unfit v) = codes "NOT LOOKED AT. "
verdict_text plan.OutOfMemory = []

-- a text with blanks behind it, up to 14 characters
abbrev pub filled : List ℕ → List ℕ
filled text = padded (format_spec 32 1 0 14 (2 ^ 64 - 1)) text

-- a cause ---------------------------------------------------------------------------------------------

-- a row of a cause on two lines: its table and key, where it stands, and its values and its place
abbrev pub row_lines : RowWords → List ℕ
row_lines row =
    codes "  " ++ filled row.label ++ codes " " ++ row.standing ++ codes "\n                 " ++ row.words ++ codes "\n"

-- why, the rows of the cause, and where they meet
abbrev pub cause_lines : CauseWords → List ℕ
cause_lines cause = codes "\n" ++ cause.reason ++ flat_map row_lines cause.rows ++ cause.place

-- the lines of the cause of a no
abbrev pub AreCauseLines : Office → MergeSet → List Changes → Verdict → List ℕ → Type 0
AreCauseLines o s sets v text = (cause : CauseWords) × IsCause o s sets v cause × (text ≡ cause_lines cause)

-- what is cleared -------------------------------------------------------------------------------------

-- how many rows are added, changed and removed
abbrev pub counts_text : Counts → List ℕ
counts_text counts =
    decimal counts.added ++ codes " added, " ++ decimal counts.changed ++ codes " changed, " ++ decimal counts.removed ++ codes " removed\n"

abbrev pub member_line : List Name → ℕ × Changes → List ℕ
member_line members e = codes "  " ++ filled (member_name members e.0) ++ codes " " ++ counts_text (counts_of e.1)

-- what each member changes, a line each
abbrev pub members_text : List Name → List Changes → List ℕ
members_text members sets = flat_map (member_line members) (enumerate_from 0 sets)

-- a need, and what serves it
abbrev pub need_line : NeedWords → List ℕ
need_line need = codes "  " ++ need.rule ++ codes ": " ++ need.rows ++ codes ", by " ++ need.servers ++ codes "\n"

abbrev pub entry_line : Office → List Name → List Changes → Entry → List ℕ
entry_line o members sets entry = need_line (told_need o members sets entry)

-- the first twelve needs of a certificate, a line each
abbrev pub entry_lines : Office → List Name → List Changes → List Entry → List ℕ
entry_lines o members sets entries = flat_map (entry_line o members sets) (take 12 entries)

-- how many of so many needs aren't told one by one
abbrev pub more_text : ℕ → List ℕ
more_text count = if nat_lt 12 count then codes "  and " ++ decimal (count - 12) ++ codes " more\n" else []

-- how many needs are touched, the lines of those that are told one by one, and how many more there are
abbrev pub some_needs_text : List ℕ → ℕ → List ℕ
some_needs_text lines count =
    codes "\nTouched needs: " ++ decimal count ++ codes ". Each is served, whatever is merged first:\n" ++ lines ++ more_text count

abbrev pub needs_text : List ℕ → ℕ → List ℕ
needs_text lines count = if count == 0 then codes "\nNo rule is touched.\n" else some_needs_text lines count

-- what each member changes, and what serves the needs
abbrev pub told_details : Office → List Name → List Changes → List Entry → List ℕ
told_details o members sets entries =
    codes "\n" ++ members_text members sets ++ needs_text (entry_lines o members sets entries) (length entries)

-- the same, and nothing where there are no members
abbrev pub cleared_details : Office → List Name → List Changes → List Entry → List ℕ
cleared_details o members sets entries = if length members == 0 then [] else told_details o members sets entries

-- the whole -------------------------------------------------------------------------------------------

-- what stands behind the answer of a plan of members that make these changes: what each of them changes and what serves the needs, or the cause
abbrev pub AreDetails : Office → MergeSet → List Changes → Plan → List ℕ → Type 0
AreDetails o s sets (plan.Cleared c) text = text ≡ cleared_details o s.members sets c.entries
AreDetails o s sets (plan.Blocked order v) text = AreCauseLines o s sets v text
AreDetails o s sets _ text = text ≡ []

-- the first words of a plan, what it answers, and its details
abbrev pub IsSentences : Office → MergeSet → Plan → List ℕ → Type 0
IsSentences o s p text =
    (details : List ℕ) × AreDetails o s (change_sets o s) p details × (text ≡ verdict_text p ++ answer_text s p ++ details)
