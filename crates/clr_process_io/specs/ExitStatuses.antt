-- The exit status of a run.
use Rattle.std.specs.Prelude.{ℕ, Bool, true, Result, Ok, Err}
use Rattle.clr_process_io.specs.declared.faults.RunFault.{RunFault}
use Rattle.clr_process_io.specs.declared.faults.RunFault.TheVariants as run_fault

-- the exit status of a run that ended without an answer: 3 for want of memory, else 2
abbrev pub exit_status : RunFault → ℕ
exit_status run_fault.OutOfMemory = 3
exit_status e = 2

-- the exit status of a run that ended so, where `closed` says whether nobody reads what it prints any more: then a write that fails is no fault, and
-- the status is the one that a shell gives of a program which the system ends for that
abbrev pub end_status : Bool → Result ℕ RunFault → ℕ
end_status closed (Ok status) = status
end_status true (Err run_fault.WriteFailed) = 141
end_status closed (Err e) = exit_status e
