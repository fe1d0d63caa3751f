use Rattle.std.proofs.Common.{◌≡◌}
use Rattle.std.specs.List.{list_any}
use Rattle.clr_small_maps.specs.SmallMaps.{changes_somewhere, set_is_somewhere}
use Rattle.clr_small_maps.proofs.somewhere.set_is_somewhere.Given as goal

-- none of the changes so far stands somewhere
abbrev pub invariant-loop-change : goal.invariant-loop-change
invariant-loop-change l = list_any (λ e. changes_somewhere e.1) l.change-iterator ≡ set_is_somewhere l.set
