use Rattle.std.proofs.Common.{◌≡◌, map}
use Rattle.std.specs.List.{range_with_len}
use Rattle.clr_finders.specs.Sharing.{rule_spots}
use Rattle.clr_finders.proofs.row_spots.RowSpots.new.Given as goal

-- the spots under the rules so far
abbrev pub invariant-loop-rule : goal.invariant-loop-rule
invariant-loop-rule l = l.list.items ≡ map (λ number. rule_spots l.book number (l.held.cell, l.held.row.now)) (range_with_len 0 l.rule)
