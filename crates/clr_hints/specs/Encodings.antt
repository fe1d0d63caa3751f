-- Where a text stops being UTF-8.
use Rattle.std.specs.Prelude.{ℕ, Bool, nat_eq, List, Option, Some, None}
use Rattle.std.specs.List.{starts_with}
use Rattle.std.specs.Str.{IsUtf8, IsValidUpTo}
use Rattle.clr_hints.specs.declared.encodings.TheConstants.{BYTE_ORDER_MARK}

abbrev pub has_mark : List ℕ → Bool
has_mark text = starts_with nat_eq text BYTE_ORDER_MARK.now

-- none where the text is UTF-8, and else the length of its longest front that is
abbrev pub IsEncodingFault : List ℕ → Option ℕ → Type 0
IsEncodingFault text None = IsUtf8 text
IsEncodingFault text (Some offset) = IsValidUpTo text offset
