use Rattle.std.proofs.Common.{inl, inr}
use Rattle.std.proofs.lemmas.Result.{IfOk-weaker}
use Rattle.clr_desk_board.specs.Boards.{of_names}
use Rattle.clr_desk_board.proofs.boards.fault_print.Goals as goal

pub returns-in_default : goal.returns-in_default
returns-in_default c = elim c.requires [
  | inl named ↦ IfOk-weaker c.plan_print.result _ _ (λ print is. of_names c.args.fault named is) c.plan_print.ensures
  | inr lost ↦ absurd (c.in_default.not-OutOfMemory lost)
]
