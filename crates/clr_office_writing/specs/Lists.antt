-- What calls at elements write.
use Rattle.std.specs.Prelude.{◌≡◌, ◌++◌, List, Result, OnOk}
use Rattle.std.specs.Borrow.{Bor, MutBor}
use Rattle.json.specs.Token.{Token}
use Rattle.serde_json.specs.Data.{Data}
use Rattle.clr_office_writing.specs.Tokens.{tokens_of}

-- a call at an element, if it is Ok, adds the tokens of what f makes of the element
abbrev pub Writes : {X R E : Type 0} → (MutBor (List Token) → Bor X → Result R E → MutBor (List Token) → Type 0) → (X → Data) → Type 0
Writes answers f = (text : _) (x : _) (r : _) (longer : _) → answers text x r longer → OnOk r (longer.now ≡ text.now ++ tokens_of (f x.now))
