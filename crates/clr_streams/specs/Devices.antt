-- What contracts see of a page and of a port.
use Rattle.std.specs.Prelude.{ℕ, Bool, List}

-- a page: what was put on it, how many bytes it has room for, and whether a put has failed
pub record PageState : Type 0 where
  pub contents : List ℕ
  pub room : ℕ
  pub failed : Bool

-- a port: its reader or writer, whether a call of it has failed, and whether the last that failed was a write of what nobody reads any more
pub record PortState (T : Type 0) : Type 0 where
  pub inner : T
  pub failed : Bool
  pub closed : Bool
