-- The rows of two contents.
use Rattle.std.proofs.Common.{◌≡◌, ◌∙◌, Option, Some, None, unwrap_or, ap, refl, sym}
use Rattle.std.specs.FinMap as finite
use Rattle.std.specs.Option.{option_map}
use Rattle.clr_rows.specs.declared.rows.Row.{Row}
use Rattle.clr_rows.specs.Contents.{Content, row_at}
use Rattle.clr_rows.specs.Sheets.{with_rows}
use Rattle.clr_rows.proofs.ChangeLemmas.{apart_from_sorted, find-map, row-over, same_content, sorted-map}
use Rattle.clr_layer_changes.specs.Wanted.{united}

-- a content with its own rows is the same
pub united_itself : (content : Content) → united content content ≡ content
united_itself content = same_content _ _ (λ q.
    row-over content (with_rows (finite.entries content)) q
    (apart_from_sorted _ (sorted-map Some (finite.entries content) (finite.entries_sorted content)))
    ∙ ap (λ (found : Option (Option Row)). unwrap_or found (row_at content q)) (find-map Some (finite.entries content) q
    ∙ ap (option_map Some) (sym (finite.get-entries content q)))
    ∙ by (row_at content q))
  where
    by : (found : Option Row) → unwrap_or (option_map Some found) found ≡ found
    by None = refl
    by (Some row) = refl
