-- How each member of a merge set stands: by the smallest sets that can't be merged in every order, and by who helps these.
use Rattle.std.specs.Prelude.{◌==◌, ℕ, Bool, true, false, List, [], Option, None, Some, find, length, if◌then◌else◌}
use Rattle.std.specs.List.{list_any}
use Rattle.clr_clearance.specs.declared.verdicts.Verdict.{Verdict}
use Rattle.clr_clearance.specs.declared.verdicts.Verdict.TheVariants as verdict
use Rattle.clr_clash_helpers.specs.declared.helped.HelpedClash.{HelpedClash}
use Rattle.clr_board.specs.declared.states.DesignState.{DesignState}
use Rattle.clr_board.specs.declared.states.DesignState.TheVariants.{Free, Waiting, Unaided, Conflicted, Clashing}

-- a set has the member at a position
abbrev pub has_member : ℕ → HelpedClash → Bool
has_member at h = list_any (λ x. x == at) h.clash.now.members.items

-- a member that can't be merged even alone: it is in conflict with the root, or breaks a need that so many members help
abbrev pub state_alone : Verdict → ℕ → DesignState
state_alone (verdict.Conflict member q count) helpers = Conflicted
state_alone _ helpers = if helpers == 0 then Unaided else Waiting

-- a member of a set: the set has no other member, or it has
abbrev pub state_within : HelpedClash → DesignState
state_within h = if length h.clash.now.members.items == 1 then state_alone h.clash.now.cause (length h.helpers.items) else Clashing

-- a member that is in no set is free
abbrev pub state_by : Option HelpedClash → DesignState
state_by None = Free
state_by (Some h) = state_within h

-- by the first set that has the member; a member that is a set by itself is in no other
abbrev pub state_of : List HelpedClash → ℕ → DesignState
state_of helped at = state_by (find (has_member at) helped)

-- a member waits for one that helps it
abbrev pub is_waiting : DesignState → Bool
is_waiting Free = false
is_waiting Waiting = true
is_waiting Unaided = false
is_waiting Conflicted = false
is_waiting Clashing = false

-- those that help a set, if there is one
abbrev pub helpers_in : Option HelpedClash → List ℕ
helpers_in None = []
helpers_in (Some h) = h.helpers.items

-- those that help the first set which has the member
abbrev pub helpers_of : List HelpedClash → ℕ → List ℕ
helpers_of helped at = helpers_in (find (has_member at) helped)

-- a member can be merged now, or after others that help it
abbrev pub goes : DesignState → Bool
goes Free = true
goes Waiting = true
goes Unaided = false
goes Conflicted = false
goes Clashing = false
