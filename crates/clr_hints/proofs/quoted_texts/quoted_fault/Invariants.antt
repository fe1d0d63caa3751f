use Rattle.std.proofs.Common.{◌≡◌, ◌≤◌, drop, length}
use Rattle.clr_hints.specs.QuotedTexts.{quoted_fault_from}
use Rattle.clr_hints.proofs.quoted_texts.quoted_fault.Given as goal

-- what is found from here on is what is found from the start on
abbrev pub invariant-loop-at : goal.invariant-loop-at
invariant-loop-at l = (quoted_fault_from l.at l.skipped (drop l.at l.text) ≡ quoted_fault_from l.start 0 (drop l.start l.text)) × (l.at ≤ length l.text)
