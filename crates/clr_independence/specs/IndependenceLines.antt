-- The lines of the independence of members.
use Rattle.std.specs.Prelude.{◌≡◌, ◌++◌, ℕ, Bool, true, false, List, codes}
use Rattle.std.specs.List.{flat_map}
use Rattle.clr_rows.specs.declared.tables.TableDef.{TableDef}
use Rattle.clr_workspaces.specs.Marks.{Name}
use Rattle.clr_steps.specs.Offices.{Office}
use Rattle.clr_steps.specs.Quiet.{MergeSet}
use Rattle.clr_lines.specs.Verdicts.{verdict_text}
use Rattle.clr_member_changes.specs.Names.{member_name}
use Rattle.clr_independence.specs.declared.independent_members.Independence.{Independence}
use Rattle.clr_independence.specs.declared.independent_members.Independence.TheVariants as said
use Rattle.clr_independence.specs.declared.member_pairs.MemberPair.{MemberPair}
use Rattle.clr_independence.specs.Independences.{IsIndependenceOf}

abbrev pub word_of : Bool → List ℕ
word_of true = codes "independent "
word_of false = codes "dependent "

-- the line of a pair: the word, and both names
abbrev pub independence_line : List Name → MemberPair → List ℕ
independence_line members p = word_of p.independent ++ member_name members p.first ++ codes " " ++ member_name members p.second ++ codes "\n"

-- the lines of what is said of members of a root
unfoldable pub independence_text : List TableDef → List Name → Name → Independence → List ℕ
independence_text tables members root (said.Unfit v) = codes "unfit " ++ verdict_text tables members root v
independence_text tables members root (said.Pairs pairs) = flat_map (independence_line members) pairs.items

-- the lines of the members of a merge set in an office
abbrev pub AreIndependenceLines : Office → MergeSet → List ℕ → Type 0
AreIndependenceLines o s lines = (value : Independence) × IsIndependenceOf o s value × (lines ≡ independence_text o.schema s.members s.root value)
