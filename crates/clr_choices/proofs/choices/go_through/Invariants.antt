use Rattle.std.proofs.Common.{take}
use Rattle.clr_choices.specs.Progress.{IsProgress}
use Rattle.clr_choices.proofs.choices.go_through.Given as goal

-- the names so far are tried
abbrev pub invariant-loop-name : goal.invariant-loop-name
invariant-loop-name l = IsProgress l.office l.root (take l.name-index l.names) l.progress
