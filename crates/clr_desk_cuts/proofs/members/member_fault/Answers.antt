use Rattle.std.proofs.Common.{inl}
use Rattle.clr_desk_cuts.proofs.members.member_fault.Goals as goal

pub returns-in-Err : goal.returns-in-Err
returns-in-Err c = inl c.in-Err.ensures.fault
