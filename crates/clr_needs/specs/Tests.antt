-- What a test tells of a fact.
use Rattle.std.specs.Prelude.{Bool, true, false}

-- the answer of a test is true exactly where the statement holds
abbrev pub IsTestOf : Bool → Type 0 → Type 0
IsTestOf true P = P
IsTestOf false P = ¬ P
