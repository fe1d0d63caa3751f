-- The text of a transaction is that of its parts, one behind another.
use Rattle.std.proofs.Common.{◌≡◌, ◌++◌, ◌∙◌, ℕ, List, [], ◌∷◌, ap, append_assoc, refl}
use Rattle.std.specs.List.{flat_map}
use Rattle.std.proofs.lemmas.Grind.{flat_map-append}
use Rattle.clr_rows.specs.declared.tables.TableDef.{TableDef}
use Rattle.clr_rows.specs.Contents.{Content, changes}
use Rattle.clr_sql.specs.declared.targets.Target.{Target}
use Rattle.clr_guarded_edits.specs.SqlTexts.{beginning, count_table_text, ending, pass_text, sql_text, statement_text}
use Rattle.clr_guarded_edits.specs.Statements.{Statement}
use Rattle.clr_guarded_edits.specs.Statements.{free_cells_demanded, guarded_edits, passes_over, rows_after_demanded, rows_demanded, statements_between}

five : (text : Statement → List ℕ) (a b c d e : List Statement) → flat_map text (a ++ b ++ c ++ d ++ e)
    ≡ flat_map text a ++ flat_map text b ++ flat_map text c ++ flat_map text d ++ flat_map text e
five text a b c d e = simp flat_map-append

-- the passes are told of tables
passes_are : (target : Target) (tables all : List TableDef) → flat_map (statement_text target all) (passes_over tables) ≡ flat_map (pass_text target) tables
passes_are target [] all = refl
passes_are target (table ∷ tables) all = ap (λ t. pass_text target table ++ t) (passes_are target tables all)

-- six texts behind a first one, added one after another
in_turn : (s a b c d e f g : List ℕ) → ((((((s ++ a) ++ b) ++ c) ++ d) ++ e) ++ f) ++ g ≡ s ++ a ++ (b ++ c ++ d ++ e ++ f) ++ g
in_turn s a b c d e f g = simp append_assoc

pub texts_in_turn : (target : Target) (tables : List TableDef) (old new : Content) →
    let text = statement_text target tables in
    let changed = changes old new in
    ((((((beginning target.dialect tables ++ count_table_text) ++ flat_map (pass_text target) tables) ++ flat_map text (rows_demanded old))
    ++ flat_map text (free_cells_demanded changed)) ++ flat_map text (guarded_edits changed)) ++ flat_map text (rows_after_demanded changed)) ++ ending
    ≡ sql_text target tables old new
unfolding statements_between
texts_in_turn target tables old new =
    let text = statement_text target tables in
    let changed = changes old new in
    in_turn (beginning target.dialect tables) count_table_text (flat_map (pass_text target) tables) (flat_map text (rows_demanded old))
    (flat_map text (free_cells_demanded changed)) (flat_map text (guarded_edits changed)) (flat_map text (rows_after_demanded changed)) ending
    ∙ rw (
      ← passes_are target tables tables,
      five text (passes_over tables) (rows_demanded old) (free_cells_demanded changed) (guarded_edits changed) (rows_after_demanded changed),
    ) refl
