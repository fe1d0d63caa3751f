use Rattle.std.proofs.Common.{◌≡◌, All, map, take}
use Rattle.clr_listed_errors.specs.ListedErrors.{IsListed}
use Rattle.clr_listed_errors.proofs.listed_errors.list_beside.Given as goal

-- the needs so far are listed
abbrev pub invariant-loop-need : goal.invariant-loop-need
invariant-loop-need l = record {
  needs : map (λ e. e.need) l.errors.items ≡ take l.need-index l.needs;
  told : All (IsListed l.office l.known) l.errors.items;
}
