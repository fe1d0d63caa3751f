use Rattle.std.proofs.Common.{◌≡◌}
use Rattle.std.specs.List.{All}
use Rattle.std.proofs.lemmas.List.Elements.{All-from_recursion}
use Rattle.clr_layer_text.specs.Layers.{layer_text}
use Rattle.clr_layer_text.specs.ReadBack.{HasTexts, IsLayer}
use Rattle.clr_layer_text.specs.TableRows.{rows_of_table}
use Rattle.clr_layer_text.proofs.LayerAgain.{layer_again}
use Rattle.clr_layer_text.proofs.TableLemmas.{FitsAt, table_fits}
use Rattle.clr_layer_text.proofs.table_rows.layer_of_rows.Goals as goal

pub returns : goal.returns
returns c =
    let tables = c.args.schema.now in
    let at = c.args.table in
    let found = c.args.found.now in
    let rows = rows_of_table c.args.content.now at in
    let given : c.as_slice.result.now ≡ rows = rw c.as_slice.ensures.value c.in_ok-rows.ensures in
    let bytes : c.in_ok-text.text.items ≡ layer_text found rows = rw given at c.in_ok-text.ensures.written in
    let texts : All HasTexts rows = rw given at c.in_ok-text.ensures.texts in
    let fits = All-from_recursion (FitsAt tables at) rows (table_fits tables at c.args.content.now c.requires.fits) in
    let is : IsLayer tables at found rows = record {
      sound = c.requires.sound;
      stands = c.requires.stands;
      names = c.requires.can;
      each = λ k d lt. record { fits = fits k d lt; texts = texts k d lt };
    } in
    record { stands = c.requires.stands; bytes = bytes; again = λ rounded. rw bytes (layer_again tables at found rows rounded is) }
