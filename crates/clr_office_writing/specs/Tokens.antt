-- The tokens of JSON values.
use Rattle.std.specs.Prelude.{List, map}
use Rattle.json.specs.Token.{Token}
use Rattle.json.specs.Tree.{json_tokens, items_tokens}
use Rattle.serde_json.specs.Data.{Data}
use Rattle.serde_json.specs.View.{items_of}
use Rattle.serde_json.specs.Written.{outline, items_outline}

-- the tokens of a value, which has no float
abbrev pub tokens_of : Data → List Token
tokens_of d = json_tokens (outline d)

-- the tokens of the elements of a list, with the bracket that closes it
abbrev pub list_tokens : {A : Type 0} → (A → Data) → List A → List Token
list_tokens f xs = items_tokens (items_outline (items_of (map f xs)))
