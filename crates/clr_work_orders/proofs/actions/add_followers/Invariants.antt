use Rattle.std.proofs.Common.{◌≡◌, ◌++◌, map, string_bytes, take}
use Rattle.std.specs.List.{flat_map}
use Rattle.clr_plan_answers.specs.Answers.{then_text}
use Rattle.clr_work_orders.proofs.actions.add_followers.Given as goal

-- the members so far
abbrev pub invariant-loop-member : goal.invariant-loop-member
invariant-loop-member l =
    string_bytes l.text ≡ string_bytes l.fn.text ++ flat_map (then_text (map (λ name. name.now) l.names)) (take l.member-index l.order)
