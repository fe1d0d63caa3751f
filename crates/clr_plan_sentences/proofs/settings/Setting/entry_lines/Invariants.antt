use Rattle.std.proofs.Common.{◌≡◌, string_bytes, take}
use Rattle.std.specs.List.{flat_map}
use Rattle.clr_plan_sentences.specs.Sentences.{entry_line}
use Rattle.clr_merge_sets.specs.MemberChanges.{set_of}
use Rattle.clr_plan_sentences.proofs.settings.Setting.entry_lines.Given as goal

-- the lines of the needs so far
abbrev pub invariant-loop-entry : goal.invariant-loop-entry
invariant-loop-entry l =
    string_bytes l.text ≡ flat_map (entry_line l.self.office.now (set_of l.self.members.now).members l.self.members.now.changes.items)
    (take l.entry-index l.told)
