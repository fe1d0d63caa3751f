use Rattle.std.proofs.Common.{◌≡◌, fold}
use Rattle.clr_map_marks.specs.Lines.{kinds_of_lines, lines_drawn, with_change_at}
use Rattle.clr_map_marks.proofs.line_marks.lines_of.Given as goal

-- the lines so far, with those of the changes that are left, are all of the design
abbrev pub invariant-loop-change : goal.invariant-loop-change
invariant-loop-change l = fold (with_change_at l.view) (kinds_of_lines l.lines) l.change-iterator ≡ lines_drawn l.view l.set
