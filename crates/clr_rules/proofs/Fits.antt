-- Rows that fit a book's schema, and parts of them.
use Rattle.std.proofs.Common.{◌≡◌, ◌<◌, inl, inr, refl, sym, ℕ, length, map, List, [], ◌∷◌, All}
use Rattle.std.proofs.lemmas.List.Elements.{All-nil, All-cons, All-contains}
use Rattle.std.specs.List.{slice_index_or}
use Rattle.clr_rows.specs.declared.cells.Held.{Held as Borrowed}
use Rattle.clr_rows.specs.Held.{Held, held_of}
use Rattle.clr_rules.specs.declared.rules.Rule.{Rule}
use Rattle.clr_rules.specs.Books.{FitsCell, FitTogether}
use Rattle.clr_rules.proofs.Elements.{Among, among, contained, mapped_among}

-- each of a part of the rows is one of the rows
abbrev pub AreAmong : List Held → List Held → Type 0
AreAmong part rows = (s : Held) → Among s part → Among s rows

all_part : (P : Held → Type 0) (part rows : List Held) → All P rows → AreAmong part rows → All P part
all_part P [] rows all h = All-nil P
all_part P (s ∷ part) rows all h = All-cons P s part (All-contains P rows s all (contained s rows (h s (inl refl))))
    (all_part P part rows all (λ r k. h r (inr k)))

pub fit_part : (rules : List Rule) (part rows : List Held) → FitTogether rules rows → AreAmong part rows → FitTogether rules part
fit_part rules part rows fit h = record { tables = fit.tables; book = fit.book; each = all_part (FitsCell fit.tables) part rows fit.each h }

-- a row that stands at a place of held rows
pub held_among : (rows : List Borrowed) (k : ℕ) (row : Borrowed) → k < length rows → row ≡ slice_index_or rows k row → Among (held_of row) (map held_of rows)
held_among rows k row less is = mapped_among held_of row rows (among row rows (k, less, sym is))
