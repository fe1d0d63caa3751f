-- What is wrong in a text in double quotes of JSON.
use Rattle.std.specs.Prelude.{ℕ, zero, suc, ◌+◌, ◌==◌, nat_le, nat_lt, Bool, not, ◌&&◌, ◌||◌, List, [], ◌∷◌, get_or, codes}
use Rattle.std.specs.Prelude.{Option, Some, None, if◌then◌else◌}
use Rattle.clr_hints.specs.declared.quoted_texts.QuotedFault.{QuotedFault}
use Rattle.clr_hints.specs.declared.quoted_texts.QuotedFault.TheVariants as fault
use Rattle.clr_hints.specs.declared.quoted_texts.QuotedStep.{QuotedStep}
use Rattle.clr_hints.specs.declared.quoted_texts.QuotedStep.TheVariants as step

-- escapes ------------------------------------------------------------------------------------

abbrev pub is_hex : ℕ → Bool
is_hex byte = (nat_le 48 byte && nat_le byte 57) || (nat_le 65 byte && nat_le byte 70) || (nat_le 97 byte && nat_le byte 102)

-- four hexadecimal digits stand from a place on
abbrev pub has_unit : List ℕ → ℕ → Bool
has_unit text at = is_hex (get_or text at 0) && is_hex (get_or text (at + 1) 0) && is_hex (get_or text (at + 2) 0) && is_hex (get_or text (at + 3) 0)

abbrev pub is_digit_d : ℕ → Bool
is_digit_d byte = byte == 68 || byte == 100

-- the second digit of the first half of a surrogate pair: 8, 9, A or B
abbrev pub is_first_half : ℕ → Bool
is_first_half byte = byte == 56 || byte == 57 || byte == 65 || byte == 66 || byte == 97 || byte == 98

-- the second digit of its second half: C, D, E or F
abbrev pub is_second_half : ℕ → Bool
is_second_half byte = (nat_le 67 byte && nat_le byte 70) || (nat_le 99 byte && nat_le byte 102)

-- half of a surrogate pair, by its four digits from a place on
abbrev pub is_half : List ℕ → ℕ → Bool
is_half text at = is_digit_d (get_or text at 0) && (is_first_half (get_or text (at + 1) 0) || is_second_half (get_or text (at + 1) 0))

-- both halves of a surrogate pair behind `u`, the second one as `\u` and four digits
abbrev pub is_pair : List ℕ → Bool
is_pair text =
    is_first_half (get_or text 2 0) && get_or text 5 0 == 92 && get_or text 6 0 == 117 && has_unit text 7 && is_digit_d (get_or text 7 0)
    && is_second_half (get_or text 8 0)

-- behind a backslash a double quote, a backslash, a slash, or one of b, f, n, r and t
abbrev pub is_short_escape : ℕ → Bool
is_short_escape byte = byte == 34 || byte == 92 || byte == 47 || byte == 98 || byte == 102 || byte == 110 || byte == 114 || byte == 116

-- how many bytes an escape has behind its backslash; none where no escape begins
abbrev pub escape_length : List ℕ → Option ℕ
escape_length text =
    if is_short_escape (get_or text 0 0) then Some 1
    else (if not (get_or text 0 0 == 117 && has_unit text 1) then None
    else (if not (is_half text 1) then Some 5
    else (if is_pair text then Some 11
    else None)))

-- the first fault ----------------------------------------------------------------------------

-- a byte below 32, which stands in a text only as an escape
abbrev pub raw_fault : ℕ → QuotedFault
raw_fault byte = if byte == 9 then fault.Tab else (if byte == 10 || byte == 13 then fault.LineEnd else fault.Control)

abbrev pub escape_step : Option ℕ → QuotedStep
escape_step None = step.Stops fault.Escape
escape_step (Some count) = step.Passes count

-- what a byte is that belongs to no escape before it, by what stands behind it
abbrev pub quoted_step : ℕ → List ℕ → QuotedStep
quoted_step byte behind =
    if byte == 34 then step.Ends
    else (if byte == 92 then escape_step (escape_length behind)
    else (if nat_lt byte 32 then step.Stops (raw_fault byte)
    else step.Passes 0))

abbrev pub by_step : ℕ → QuotedStep → (ℕ → Option (ℕ × QuotedFault)) → Option (ℕ × QuotedFault)
by_step at step.Ends next = None
by_step at (step.Stops fault) next = Some (at, fault)
by_step at (step.Passes count) next = next count

-- the place of the first byte that can't stand in a text in quotes, and why, or that the text ends before its closing quote; none where that comes
-- first. The bytes are counted from `at`, and the first `skipped` ones belong to an escape
unfoldable pub quoted_fault_from : ℕ → ℕ → List ℕ → Option (ℕ × QuotedFault)
quoted_fault_from at skipped [] = Some (at, fault.NoEnd)
quoted_fault_from at (suc skipped) (byte ∷ behind) = quoted_fault_from (suc at) skipped behind
quoted_fault_from at zero (byte ∷ behind) = by_step at (quoted_step byte behind) (λ count. quoted_fault_from (suc at) count behind)

-- in words -----------------------------------------------------------------------------------

abbrev pub quoted_sentence : QuotedFault → List ℕ
quoted_sentence fault.Tab = codes "a raw tab can't stand in a text in quotes"
quoted_sentence fault.LineEnd = codes "a line end can't stand in a text in quotes"
quoted_sentence fault.Control = codes "a control character can't stand in a text in quotes"
quoted_sentence fault.Escape = codes "no escape begins with this backslash"
quoted_sentence fault.NoEnd = codes "the file ends here, and a text in quotes hasn't ended"

abbrev pub quoted_hint : QuotedFault → List ℕ
quoted_hint fault.Tab = codes "write \\t for a tab"
quoted_hint fault.LineEnd = codes "is the closing quote missing? a line end within a text is written \\n"
quoted_hint fault.Control = codes "write \\u and four hexadecimal digits"
quoted_hint fault.Escape = codes "a backslash itself is written \\\\"
quoted_hint fault.NoEnd = codes "is a closing quote missing?"
