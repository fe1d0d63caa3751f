-- Where a text stops being JSON, and what is said there.
use Rattle.std.specs.Prelude.{◌≡◌, ℕ, zero, suc, ◌+◌, ◌-◌, ◌==◌, min, nat_le, Bool, true, false, not, ◌&&◌, ◌||◌, MatchBool}
use Rattle.std.specs.Prelude.{List, length, take, drop, filter, Option, Some, None, slice_get, codes, if◌then◌else◌}
use Rattle.std.specs.List.{last_or}
use Rattle.std.specs.Option.{option_map}
use Rattle.clr_text_positions.specs.Places.{next_line_length}
use Rattle.clr_hints.specs.declared.json_faults.JsonFault.{JsonFault}
use Rattle.clr_hints.specs.Encodings.{IsEncodingFault, has_mark}
use Rattle.clr_hints.specs.QuotedTexts.{quoted_fault_from, quoted_hint, quoted_sentence}
use Rattle.clr_hints.specs.declared.quoted_texts.QuotedFault.{QuotedFault}

-- what stands behind a number of line ends, nothing where there are fewer
unfoldable pub behind_line_ends : ℕ → List ℕ → List ℕ
behind_line_ends zero text = text
behind_line_ends (suc count) text = behind_line_ends count (drop (next_line_length text + 1) text)

-- the offset of the byte at a line and a column of bytes, both counted from 1: where the line is shorter its end, and where the text has no such
-- line its end
abbrev pub offset_at : List ℕ → ℕ → ℕ → ℕ
offset_at text line column =
    let rest = behind_line_ends (line - 1) text in
    length text - length rest + min (column - 1) (next_line_length rest)

-- white space of JSON: a space, a tab, a line feed or a carriage return
abbrev pub is_space : ℕ → Bool
is_space byte = byte == 32 || byte == 9 || byte == 10 || byte == 13

-- the last byte of a text that is no white space
abbrev pub last_byte : List ℕ → Option ℕ
last_byte text = last_or None (filter (λ byte. not (is_space byte)) text)

abbrev pub is_comma : Option ℕ → Bool
is_comma None = false
is_comma (Some byte) = byte == 44

-- a byte with which a value begins: a double quote, an opening bracket, a digit or a minus
abbrev pub begins_value : ℕ → Bool
begins_value byte = byte == 34 || byte == 123 || byte == 91 || (nat_le 48 byte && nat_le byte 57) || byte == 45

-- what is said of a byte at which JSON stops, by the last byte before it that is no white space: of a closing bracket behind a comma, of what may
-- begin a value, of a single quote (39), and of all else
abbrev pub sentence_of : Option ℕ → ℕ → List ℕ
sentence_of before byte =
    if is_comma before && byte == 93 then codes "a value was expected (the comma before ] is one too many)"
    else (if is_comma before && byte == 125 then codes "a key was expected (the comma before } is one too many)"
    else (if begins_value byte then codes "a comma or a closing bracket was expected"
    else (if byte == 39 then codes "a text stands in double quotes"
    else codes "no JSON can stand here")))

abbrev pub sentence_by : Option ℕ → Option ℕ → List ℕ
sentence_by before None = codes "the text ends here, and the JSON value hasn't ended"
sentence_by before (Some byte) = sentence_of before byte

-- what is said where JSON stops at an offset
abbrev pub sentence_at : List ℕ → ℕ → List ℕ
sentence_at text offset = sentence_by (last_byte (take offset text)) (slice_get text offset)

-- the parts of a fault, as texts
pub record Told : Type 0 where
  pub offset : ℕ
  pub sentence : List ℕ
  pub hint : Option (List ℕ)

abbrev pub told : JsonFault → Told
told fault = record { offset = fault.offset; sentence = fault.sentence.now; hint = option_map (λ hint. hint.now) fault.hint }

abbrev pub told_of_mark : Told
told_of_mark = record { offset = 0; sentence = codes "a byte order mark stands before the text"; hint = Some (codes "save the file as UTF-8 without BOM") }

-- behind white space, a text in quotes may begin where nothing stands before it, or an opening bracket, a comma or a colon
abbrev pub may_begin_quoted : Option ℕ → Bool
may_begin_quoted None = true
may_begin_quoted (Some byte) = byte == 91 || byte == 123 || byte == 44 || byte == 58

abbrev pub is_quote : Option ℕ → Bool
is_quote None = false
is_quote (Some byte) = byte == 34

-- why the text in quotes that begins at an offset can't be read, and at which byte; none where none may begin there, or it can be read
abbrev pub quoted_fault_at : List ℕ → ℕ → Option (ℕ × QuotedFault)
quoted_fault_at text offset =
    if is_quote (slice_get text offset) && may_begin_quoted (last_byte (take offset text)) then quoted_fault_from (offset + 1) 0 (drop (offset + 1) text)
    else None

-- what is told where JSON stops at an offset: where it stops within a text in quotes, what is wrong in that
abbrev pub told_by : List ℕ → ℕ → Option (ℕ × QuotedFault) → Told
told_by text offset None = record { offset = offset; sentence = sentence_at text offset; hint = None }
told_by text offset (Some found) = record { offset = found.0; sentence = quoted_sentence found.1; hint = Some (quoted_hint found.1) }

abbrev pub told_at : List ℕ → ℕ → Told
told_at text offset = told_by text offset (quoted_fault_at text offset)

-- what is told of a text without a byte order mark, by where it stops being UTF-8
abbrev pub told_without_mark : List ℕ → ℕ → ℕ → Option ℕ → Told
told_without_mark text line column None = told_at text (offset_at text line column)
told_without_mark text line column (Some offset) =
    record { offset = offset; sentence = codes "a byte that isn't UTF-8"; hint = Some (codes "save the file as UTF-8") }

-- what is told of a text that stops being JSON at a line and a column
abbrev pub IsJsonFault : List ℕ → ℕ → ℕ → Told → Type 0
IsJsonFault text line column fault =
    MatchBool (has_mark text) (fault ≡ told_of_mark)
    ((encoding : Option ℕ) × IsEncodingFault text encoding × (fault ≡ told_without_mark text line column encoding))
