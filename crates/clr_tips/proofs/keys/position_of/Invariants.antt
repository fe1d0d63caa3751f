use Rattle.std.proofs.Common.{◌≡◌, ◌<◌, ℕ, [], false, get_or, map}
use Rattle.std.specs.Str.{bytes_eq}
use Rattle.clr_tips.proofs.keys.position_of.Given as goal

-- none of the names so far is the name
abbrev pub invariant-loop-at : goal.invariant-loop-at
invariant-loop-at l = (k : ℕ) → k < l.at → bytes_eq (get_or (map (λ other. other.now) l.names) k []) l.name ≡ false
