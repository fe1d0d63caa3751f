-- What a small map shows of the changes of designs.
use Rattle.std.specs.Prelude.{◌≡◌, ◌||◌, ℕ, Bool, true, false, List, [], ◌∷◌, ◌++◌, Option, Some, None}
use Rattle.std.specs.FinMap as finite
use Rattle.std.specs.List.{list_any}
use Rattle.clr_rows.specs.declared.cells.Change.{Change}
use Rattle.clr_rows.specs.declared.places.Shape.{Shape}
use Rattle.clr_rows.specs.declared.places.Shape.TheVariants as shape
use Rattle.clr_rows.specs.declared.rows.Row.{Row}
use Rattle.clr_rows.specs.Contents.{Changes}
use Rattle.clr_svg.specs.declared.pages.Layer.{Layer}
use Rattle.clr_svg.specs.declared.pages.SvgPage.{SvgPage}
use Rattle.clr_svg.specs.Pages.{page_text}
use Rattle.clr_map_scenes.specs.declared.scenes.MapScene.{MapScene}
use Rattle.clr_map_scenes.specs.Designs.{sets_of}
use Rattle.clr_map_marks.specs.LineMarks.{DrawsLineMarks}

-- a shape that stands somewhere
abbrev pub is_somewhere : Shape → Bool
is_somewhere shape.Bare = false
is_somewhere (shape.At place) = true
is_somewhere (shape.Line from to) = true
is_somewhere (shape.Chain vertices) = true

abbrev pub stands_somewhere : Option Row → Bool
stands_somewhere None = false
stands_somewhere (Some row) = is_somewhere row.shape

-- a row that is added, changed or removed stands somewhere, before or after
abbrev pub changes_somewhere : Change → Bool
changes_somewhere change = stands_somewhere change.before || stands_somewhere change.after

abbrev pub set_is_somewhere : Changes → Bool
set_is_somewhere set = list_any (λ e. changes_somewhere e.1) (finite.entries set)

abbrev pub is_any_somewhere : List Changes → Bool
is_any_somewhere sets = list_any set_is_somewhere sets

-- each line that designs add, change or remove is drawn, in the ink of what becomes of it
abbrev pub DrawsLinesOf : List Changes → Layer → Type 0
DrawsLinesOf sets layer = (scene : MapScene) × (sets_of scene.field.designs.now ≡ sets) × DrawsLineMarks scene [] layer.elements.items

-- one of some layers does that
abbrev pub ShowsLines : List Changes → List Layer → Type 0
ShowsLines sets layers = (below : List Layer) × (lines : Layer) × (over : List Layer) × (layers ≡ below ++ lines ∷ over) × DrawsLinesOf sets lines

-- a page with this title and this description that shows these changes
pub record IsSmallPage (name words : List ℕ) (sets : List Changes) (page : SvgPage) : Type 0 where
  pub title : page.title.items ≡ name
  pub description : page.description.items ≡ words
  pub lines : ShowsLines sets page.layers.items

-- the text of such a page; nothing where no change stands anywhere
abbrev pub IsSmallMap : List ℕ → List ℕ → List Changes → Option (List ℕ) → Type 0
IsSmallMap title words sets None = is_any_somewhere sets ≡ false
IsSmallMap title words sets (Some text) = (is_any_somewhere sets ≡ true) × (page : SvgPage) × IsSmallPage title words sets page × (text ≡ page_text page)
