-- What a plan answers, in sentences.
use Rattle.std.specs.Prelude.{ℕ, ◌==◌, List, [], ◌∷◌, ◌++◌, codes, length, if◌then◌else◌}
use Rattle.std.specs.List.{flat_map}
use Rattle.clr_workspaces.specs.Marks.{Name}
use Rattle.clr_steps.specs.Quiet.{MergeSet}
use Rattle.clr_clearance.specs.declared.verdicts.Verdict.{Verdict}
use Rattle.clr_clearance.specs.declared.verdicts.Verdict.TheVariants as verdict
use Rattle.clr_member_changes.specs.Names.{member_name}
use Rattle.clr_merge_sets.specs.declared.plans.Plan.{Plan}
use Rattle.clr_merge_sets.specs.declared.plans.Plan.TheVariants as plan
use Rattle.clr_phrases.specs.Lists.{names_text}

abbrev pub then_text : List Name → ℕ → List ℕ
then_text members at = codes ", then " ++ member_name members at

-- members one after another, by their positions
abbrev pub order_text : List Name → List ℕ → List ℕ
order_text members [] = []
order_text members (first ∷ others) = member_name members first ++ flat_map (then_text members) others

-- what becomes of so many merges
abbrev pub refused_text : ℕ → List ℕ
refused_text count = if count == 1 then codes ": the merge is refused.\n" else codes ", in this order: one of these merges is refused.\n"

-- in which order a merge is refused
abbrev pub order_sentence : List Name → List ℕ → List ℕ
order_sentence members order = codes "Merge " ++ order_text members order ++ refused_text (length order)

-- what so many members can't, or can
abbrev pub every_order_text : ℕ → List ℕ
every_order_text count = if count == 1 then codes ".\n" else codes " in every order.\n"

abbrev pub all_or_some_text : ℕ → List ℕ
all_or_some_text count = if count == 1 then codes ".\n" else codes " in every order, all or some of them.\n"

-- the members are blocked, and in which order a merge is refused
abbrev pub blocked_text : MergeSet → List ℕ → List ℕ
blocked_text s order =
    names_text s.members ++ codes " can't be merged into " ++ s.root ++ every_order_text (length s.members) ++ order_sentence s.members order

-- the members can be merged in every order
abbrev pub mergeable_text : MergeSet → List ℕ
mergeable_text s = names_text s.members ++ codes " can be merged into " ++ s.root ++ all_or_some_text (length s.members)

-- how so many members may be changed meanwhile
abbrev pub untouched_text : ℕ → List ℕ
untouched_text count =
    if count == 1 then codes " or this design, other than by merging or refreshing it.\n"
    else codes " or one of these designs, other than by merging or refreshing them.\n"

-- how long this lasts
abbrev pub lasting_text : MergeSet → List ℕ
lasting_text s = codes "This lasts while nobody edits " ++ s.root ++ untouched_text (length s.members)

abbrev pub cleared_text : MergeSet → List ℕ
cleared_text s = if length s.members == 0 then codes "Nothing is to be merged.\n" else mergeable_text s ++ lasting_text s

-- what is wrong with a name
abbrev pub name_fault_text : MergeSet → Verdict → List ℕ
name_fault_text s verdict.NotKept = s.root ++ codes " isn't a workspace in which every rule is kept.\n"
name_fault_text s (verdict.RepeatedMember at) = member_name s.members at ++ codes " stands twice among the designs.\n"
name_fault_text s (verdict.NoWorkspace at) = codes "No workspace is named " ++ member_name s.members at ++ codes ".\n"
name_fault_text s (verdict.NotUnderRoot at) = member_name s.members at ++ codes " wasn't made from " ++ s.root ++ codes ".\n"
name_fault_text s _ = []

abbrev pub unfit_text : MergeSet → Verdict → List ℕ
unfit_text s v = codes "A name has to be mended first.\n" ++ name_fault_text s v

-- whether the members can be merged, and in which order a merge is refused; or which name has to be mended
abbrev pub answer_text : MergeSet → Plan → List ℕ
answer_text s (plan.Cleared c) = cleared_text s
answer_text s (plan.Blocked order cause) = blocked_text s order.items
answer_text s (plan.Unfit v) = unfit_text s v
answer_text s plan.OutOfMemory = []
