-- A text in lines: its first line, and the cut at the separator line by line.
use Rattle.std.proofs.Common.{◌≡◌, ℕ, suc, ◌+◌, ◌==◌, ◌<◌, ◌≤◌, Bool, true, false, cond, ltb, List, [], ◌∷◌, ◌++◌, length, take, drop, Option, Some, None}
use Rattle.std.proofs.Common.{option_map, refl, sym, ap, ◌∙◌, arith, append_assoc, append-nil, take-add, drop-drop, lt-ltb, le-ltb, ltb-true, ltb-false}
use Rattle.std.proofs.Common.{length-drop, one-add, add-one}
use Rattle.std.proofs.lemmas.List.{drop_all}
use Rattle.std.specs.List.{concat, position, position_or_len}
use Rattle.std.specs.Io.BufRead.{take_through}
use Rattle.clr_streams.specs.Separator.{lines_of, onto_first, is_separator, around_line, around_separator}

-- how long a text's first line is
abbrev pub line_size : List ℕ → ℕ
line_size text = length (take_through 10 text)

size_by : (newline : Bool) (byte : ℕ) (rest : List ℕ) → (byte == 10) ≡ newline → line_size rest ≤ length rest → (0 < line_size (byte ∷ rest))
    × (line_size (byte ∷ rest) ≤ length (byte ∷ rest))
size_by true byte rest is within = rw is (omega arith, omega arith)
size_by false byte rest is within = rw is (omega arith, omega (arith, within))

pub size_within : (text : List ℕ) → line_size text ≤ length text
size_within [] = omega arith
size_within (byte ∷ rest) = (size_by (byte == 10) byte rest refl (size_within rest)).1

size_some : (text : List ℕ) → 0 < length text → 0 < line_size text
size_some [] some = some
size_some (byte ∷ rest) some = (size_by (byte == 10) byte rest refl (size_within rest)).0

-- the first line of what follows the first i bytes is not empty, and stands in the text
pub size_inside : (text : List ℕ) (i : ℕ) → i < length text → (0 < line_size (drop i text)) × (i + line_size (drop i text) ≤ length text)
size_inside text i below =
    let left : 0 < length (drop i text) = omega (arith, below, length-drop i text) in
    (size_some (drop i text) left, omega (arith, below, length-drop i text, size_within (drop i text)))

-- a text begins with its first line
begins_by : (newline : Bool) (byte : ℕ) (rest : List ℕ) → (byte == 10) ≡ newline → take (line_size rest) rest ≡ take_through 10 rest
    → take (line_size (byte ∷ rest)) (byte ∷ rest) ≡ take_through 10 (byte ∷ rest)
begins_by true byte rest is later = rw is refl
begins_by false byte rest is later = rw is (ap (λ xs. byte ∷ xs) later)

begins : (text : List ℕ) → take (line_size text) text ≡ take_through 10 text
begins [] = refl
begins (byte ∷ rest) = begins_by (byte == 10) byte rest refl (begins rest)

-- the lines of a text are its first line and the lines of what follows
first_by : (newline : Bool) (byte : ℕ) (rest : List ℕ) → (byte == 10) ≡ newline
    → lines_of (byte ∷ rest) ≡ take_through 10 (byte ∷ rest) ∷ lines_of (drop (line_size (byte ∷ rest)) (byte ∷ rest))
first_by true byte rest is = rw is refl
first_by false byte [] is = rw is refl
first_by false byte (next ∷ rest) is = rw is (ap (onto_first byte) (first_by (next == 10) next rest refl))

first_line : (text : List ℕ) → 0 < length text → lines_of text ≡ take (line_size text) text ∷ lines_of (drop (line_size text) text)
first_line [] some = absurd (omega (arith, some))
first_line (byte ∷ rest) some = rw (begins (byte ∷ rest)) (first_by (byte == 10) byte rest refl)

-- the lines in a row are the text
joined_by : (newline : Bool) (byte : ℕ) (rest : List ℕ) (lines : List (List ℕ)) → concat lines ≡ rest
    → concat (cond newline ((byte ∷ []) ∷ lines) (onto_first byte lines)) ≡ byte ∷ rest
joined_by true byte rest lines is = ap (λ xs. byte ∷ xs) is
joined_by false byte rest [] is = ap (λ xs. byte ∷ xs) is
joined_by false byte rest (line ∷ lines) is = ap (λ xs. byte ∷ xs) is

pub joined : (text : List ℕ) → concat (lines_of text) ≡ text
joined [] = refl
joined (byte ∷ rest) = joined_by (byte == 10) byte rest (lines_of rest) (joined rest)

-- what was passed, and what a cut finds in the rest
abbrev pub with_front : List ℕ → Option (List ℕ × List ℕ) → Option (List ℕ × List ℕ)
with_front front found = option_map (λ parts. (front ++ parts.0, parts.1)) found

abbrev cut_lines : List (List ℕ) → Option (List ℕ × List ℕ)
cut_lines lines = option_map (around_line lines) (position is_separator lines)

found : (line : List ℕ) (lines : List (List ℕ)) → is_separator line ≡ true → cut_lines (line ∷ lines) ≡ Some ([], concat lines)
found line lines is = rw (is, lt-ltb 0 (suc (length lines)) (omega arith)) refl

passed_by : (later : Bool) (line : List ℕ) (lines : List (List ℕ)) → is_separator line ≡ false → ltb (position_or_len is_separator lines) (length lines) ≡ later
    → cut_lines (line ∷ lines) ≡ with_front line (cut_lines lines)
passed_by true line lines is e =
    let below = ltb-true (position_or_len is_separator lines) (length lines) e in
    let place = position_or_len is_separator lines in
    rw (is, e, lt-ltb (1 + place) (suc (length lines)) (omega (arith, below)), one-add place, add-one place, add-one (suc place)) refl
passed_by false line lines is e =
    let past = ltb-false (position_or_len is_separator lines) (length lines) e in
    rw (is, e, le-ltb (1 + position_or_len is_separator lines) (suc (length lines)) (omega (arith, past))) refl

passed : (line : List ℕ) (lines : List (List ℕ)) → is_separator line ≡ false → cut_lines (line ∷ lines) ≡ with_front line (cut_lines lines)
passed line lines is = passed_by (ltb (position_or_len is_separator lines) (length lines)) line lines is refl

regroup : (front line : List ℕ) (rest : Option (List ℕ × List ℕ)) → with_front front (with_front line rest) ≡ with_front (front ++ line) rest
regroup front line None = refl
regroup front line (Some parts) = rw append_assoc refl

-- the separator is the first line from i on
pub found_at : (text : List ℕ) (i : ℕ) (whole : Option (List ℕ × List ℕ)) → i < length text → is_separator (take (line_size (drop i text)) (drop i text)) ≡ true
    → with_front (take i text) (around_separator (drop i text)) ≡ whole → Some (take i text, drop (line_size (drop i text)) (drop i text)) ≡ whole
unfolding around_separator
found_at text i whole below is so_far =
    let rest = drop i text in
    let left : 0 < length rest = omega (arith, below, length-drop i text) in
    let after = drop (line_size rest) rest in
    let here : around_separator rest ≡ Some ([], after) = ap cut_lines (first_line rest left) ∙ found (take (line_size rest) rest) (lines_of after) is
    ∙ ap (λ xs. Some ([], xs)) (joined after) in
    sym (ap (with_front (take i text)) here ∙ ap (λ front. Some (front, after)) (append-nil (take i text))) ∙ so_far

-- the first line from i on is passed
pub passed_at : (text : List ℕ) (i : ℕ) (whole : Option (List ℕ × List ℕ)) → i < length text → is_separator (take (line_size (drop i text)) (drop i text))
    ≡ false
    → with_front (take i text) (around_separator (drop i text)) ≡ whole
    → with_front (take (i + line_size (drop i text)) text) (around_separator (drop (i + line_size (drop i text)) text)) ≡ whole
unfolding around_separator
passed_at text i whole below is so_far =
    let rest = drop i text in
    let left : 0 < length rest = omega (arith, below, length-drop i text) in
    let size = line_size rest in
    let line = take size rest in
    let after = drop size rest in
    let here : around_separator rest ≡ with_front line (around_separator after) = ap cut_lines (first_line rest left) ∙ passed line (lines_of after) is in
    rw (take-add i size text, ← drop-drop size i text) (sym (regroup (take i text) line (around_separator after)) ∙ sym (ap (with_front (take i text)) here)
    ∙ so_far)

-- all lines were passed
pub none_left : (text : List ℕ) (i : ℕ) (whole : Option (List ℕ × List ℕ)) → length text ≤ i → with_front (take i text) (around_separator (drop i text)) ≡ whole
    → whole ≡ None
unfolding around_separator
none_left text i whole past so_far = sym so_far ∙ rw (drop_all i text past) refl
