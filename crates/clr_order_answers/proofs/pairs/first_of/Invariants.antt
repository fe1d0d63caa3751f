use Rattle.std.proofs.Common.{◌≡◌, ℕ, ◌<◌, false, Some, slice_get}
use Rattle.clr_order_search.specs.OpenNeeds.{has}
use Rattle.clr_order_answers.proofs.pairs.first_of.Given as goal

-- none so far is one of the members
abbrev pub invariant-loop-at : goal.invariant-loop-at
invariant-loop-at l = (j x : ℕ) → j < l.at → slice_get l.order j ≡ Some x → has l.members x ≡ false
