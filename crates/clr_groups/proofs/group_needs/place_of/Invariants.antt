use Rattle.std.proofs.Common.{◌≡◌, ◌<◌, ℕ, Global, List, Vec, Some, Contains, map}
use Rattle.std.specs.Prelude.{slice_get}
use Rattle.clr_groups.proofs.group_needs.place_of.Given as goal

-- no group so far has the member
abbrev pub invariant-loop-place : goal.invariant-loop-place
invariant-loop-place l = (i : ℕ) (g : List ℕ) → i < l.place → slice_get (map (λ (v : Vec ℕ Global). v.items) l.groups) i ≡ Some g → ¬ (Contains g l.member)
