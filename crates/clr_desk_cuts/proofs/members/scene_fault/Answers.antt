use Rattle.std.proofs.Common.{inr, map}
use Rattle.clr_desk_cuts.specs.Members.{live_set}
use Rattle.clr_desk_cuts.proofs.members.scene_fault.Goals as goal

pub scene-requires : goal.scene-requires
scene-requires c = (live_set (map (λ name. name.now) c.args.names.now), c.requires)

pub returns-in-Ok : goal.returns-in-Ok
returns-in-Ok c =
    let of = c.in-Ok.ensures.scene (live_set (map (λ name. name.now) c.args.names.now)) c.requires in
    record { free = c.requires.free; apart = of.apart }

pub returns : goal.returns
returns c =
    inr (c.in-Err.fault, c.in-Err.ensures.shared (live_set (map (λ name. name.now) c.args.names.now)) c.requires, c.verdict_of.ensures)
