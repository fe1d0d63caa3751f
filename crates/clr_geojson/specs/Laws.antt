-- What is written as a string of JSON is read as the same.
use Rattle.std.specs.Prelude.{◌≡◌, ℕ, List, Some}
use Rattle.json.specs.Json.{document, string}
use Rattle.json.specs.Print.{quoted}

-- a text as a string is a value of JSON, which is this text
abbrev pub TextsAreReadBack : Type 0
TextsAreReadBack = (text : List ℕ) → document (quoted text) ≡ Some (string text)
