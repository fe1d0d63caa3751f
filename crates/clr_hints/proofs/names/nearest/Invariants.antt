use Rattle.std.proofs.Common.{IfSome, ◌≡◌, length, map, take}
use Rattle.std.specs.List.{Contains}
use Rattle.std.specs.Option.{option_map}
use Rattle.clr_hints.specs.Names.{IsNearest}
use Rattle.clr_hints.proofs.NearestLemmas.{bar}
use Rattle.clr_hints.proofs.names.nearest.Given as goal

-- the nearest of the names so far, and how alike it is
abbrev pub invariant-loop-other : goal.invariant-loop-other
invariant-loop-other l = record {
  same : l.names ≡ l.fn.names;
  whole : l.other-index-end ≡ length l.fn.names;
  listed : IfSome l.best (λ other. Contains l.fn.names other);
  nearest : IsNearest l.name (map (λ other. other.now) (take l.other-index l.fn.names)) (option_map (λ other. other.now) l.best);
  most : l.most ≡ bar l.name (option_map (λ other. other.now) l.best);
}
