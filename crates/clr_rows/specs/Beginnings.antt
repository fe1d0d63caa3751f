-- Lists to which something is added, as lines of a text or fields of a record, and what stands in them where the addition stops on the way.
use Rattle.std.specs.Prelude.{◌≡◌, List, ◌++◌, length, take}

-- what stood in a list still stands there, and behind it a beginning of what was to be added: none of it, some of it, or all
pub record IsBegun {A : Type 0} (old more new : List A) : Type 0 where
  pub stands : take (length old) new ≡ old
  pub beginning : take (length new) (old ++ more) ≡ new
