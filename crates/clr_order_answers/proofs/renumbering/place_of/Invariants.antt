use Rattle.std.proofs.Common.{◌≡◌, false, take}
use Rattle.clr_order_search.specs.OpenNeeds.{has}
use Rattle.clr_order_answers.proofs.renumbering.place_of.Given as goal

-- the member doesn't stand in the places so far
abbrev pub invariant-loop-place : goal.invariant-loop-place
invariant-loop-place l = has (take l.place l.list) l.member ≡ false
