use Rattle.std.proofs.Common.{◌≡◌, take}
use Rattle.std.specs.List.{flat_map}
use Rattle.clr_plan_sentences.specs.NeedCauses.{label_if}
use Rattle.clr_merge_sets.specs.MemberChanges.{set_of}
use Rattle.clr_plan_sentences.proofs.server_words.change_labels.Given as goal

-- the labels of the changes so far
abbrev pub invariant-loop-change : goal.invariant-loop-change
invariant-loop-change l = l.labels.items ≡ flat_map (label_if l.schema (set_of l.members).members l.leaves) (take l.change-index l.changes)
