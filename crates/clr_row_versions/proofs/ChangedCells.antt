-- The list of the cells that members change, read one set at a time.
use Rattle.std.proofs.Common.{◌≡◌, ◌∙◌, ◌<◌, ◌≤◌, ◌+◌, ℕ, List, [], ◌∷◌, ◌++◌, Bor, drop, length, map, refl, sym, ap, append-nil, append_assoc}
use Rattle.std.specs.FinMap as finite
use Rattle.std.specs.Prelude.{Result, Ok, Err, OnErr}
use Rattle.std.specs.List.{slice_index_or}
use Rattle.std.proofs.Math.ListN.{drop_of_length-le}
use Rattle.std.proofs.lemmas.List.{drop_more}
use Rattle.clr_rows.specs.declared.cells.CellId.{CellId}
use Rattle.clr_rows.specs.declared.cells.Change.{Change}
use Rattle.clr_rows.specs.Contents.{Changes}
use Rattle.clr_rows.specs.Beginnings.{IsBegun}
use Rattle.clr_rows.proofs.BeginningLaws.{some_begun}
use Rattle.clr_needs.specs.Members.{changed_cells}
use Rattle.clr_row_versions.proofs.Searches.{sets_of}

-- the cells of changes
abbrev pub cells_of : List (CellId × Change) → List CellId
cells_of changes = map (λ e. e.0) changes

-- the cell of a change goes from those that are left to those that were read
pub cell_moves : (cells : List CellId) (e : CellId × Change) (left : List (CellId × Change)) → (cells ++ e.0 ∷ []) ++ cells_of left ≡ cells
    ++ cells_of (e ∷ left)
cell_moves cells e left = append_assoc cells (e.0 ∷ []) (cells_of left)

-- the first of some cells stand behind a list, and those of the changes that are left follow
abbrev pub AreReadTo : List CellId → List CellId → List CellId → List (CellId × Change) → Type 0
AreReadTo old all cells left = (read : List CellId) × (cells ≡ old ++ read) × (read ++ cells_of left ≡ all)

pub none_read : (old : List CellId) (left : List (CellId × Change)) → AreReadTo old (cells_of left) old left
none_read old left = ([], sym (append-nil old), refl)

pub one_read : (old all cells new : List CellId) (e : CellId × Change) (left : List (CellId × Change)) → new ≡ cells ++ e.0 ∷ []
    → AreReadTo old all cells (e ∷ left) → AreReadTo old all new left
one_read old all cells new e left put (read, is, whole) = (
  read ++ e.0 ∷ [],
  put ∙ ap (λ qs. qs ++ e.0 ∷ []) is ∙ append_assoc old read (e.0 ∷ []),
  cell_moves read e left ∙ whole,
)

pub all_read : (old all cells : List CellId) → AreReadTo old all cells [] → cells ≡ old ++ all
all_read old all cells (read, is, whole) = is ∙ ap (λ qs. old ++ qs) (sym (append-nil read) ∙ whole)

pub some_read : {T E : Type 0} (r : Result T E) (old all cells new : List CellId) (left : List (CellId × Change)) → new ≡ cells
    → AreReadTo old all cells left → OnErr r (IsBegun old all new)
some_read (Ok x) old all cells new left same reads = tt
some_read (Err e) old all cells new left same (read, is, whole) = some_begun old all new read (cells_of left) (same ∙ is) (sym whole)

-- the cells of the sets from a position on
abbrev pub cells_left : List (Bor Changes) → ℕ → List CellId
cells_left refs k = changed_cells (sets_of (drop k refs))

next_left : (refs : List (Bor Changes)) (k : ℕ) (ref : Bor Changes) → k < length refs → ref ≡ slice_index_or refs k ref → drop k refs ≡ ref ∷ drop (k + 1) refs
next_left refs k ref less read = drop_more refs k ref less ∙ ap (λ r. r ∷ drop (k + 1) refs) (sym read)

pub all_left : (refs : List (Bor Changes)) → cells_left refs 0 ≡ changed_cells (sets_of refs)
all_left refs = refl

-- the cells of a set go from those that are left to those that were read
pub cells_move : (refs : List (Bor Changes)) (k : ℕ) (ref : Bor Changes) (cells : List CellId) → k < length refs → ref ≡ slice_index_or refs k ref
    → (cells ++ finite.keys ref.now) ++ cells_left refs (k + 1) ≡ cells ++ cells_left refs k
unfolding changed_cells
cells_move refs k ref cells less read =
    append_assoc cells (finite.keys ref.now) (cells_left refs (k + 1))
    ∙ ap (λ rs. cells ++ changed_cells (sets_of rs)) (sym (next_left refs k ref less read))

pub cells_read : (refs : List (Bor Changes)) (k : ℕ) (cells : List CellId) → length refs ≤ k → cells ++ cells_left refs k ≡ cells
unfolding changed_cells
cells_read refs k cells past = ap (λ rs. cells ++ changed_cells (sets_of rs)) (drop_of_length-le refs past) ∙ append-nil cells
