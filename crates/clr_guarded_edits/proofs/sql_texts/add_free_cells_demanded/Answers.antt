use Rattle.std.proofs.Common.{◌≡◌, ◌++◌, ◌∷◌, ◌∙◌, ℕ, List, ap, append_assoc, sym}
use Rattle.std.specs.List.{flat_map}
use Rattle.std.specs.Map.Iter.{deref_pair}
use Rattle.std.proofs.lemmas.Grind.{flat_map-append}
use Rattle.std.proofs.lemmas.Map.Iter.{rest_more}
use Rattle.clr_rows.specs.declared.cells.CellId.{CellId}
use Rattle.clr_rows.specs.declared.cells.Change.{Change}
use Rattle.clr_guarded_edits.specs.SqlTexts.{statement_text}
use Rattle.clr_guarded_edits.specs.Statements.{Statement, if_free}
use Rattle.clr_guarded_edits.proofs.sql_texts.add_free_cells_demanded.Goals as goal

-- the texts of the demands of one change, and those of the others
one_more : (text : Statement → List ℕ) (front : List ℕ) (e : CellId × Change) (left all : List (CellId × Change)) → all ≡ e ∷ left
    → (front ++ flat_map text (if_free e.0 e.1.before)) ++ flat_map text (flat_map (λ x. if_free x.0 x.1.before) left)
    ≡ front ++ flat_map text (flat_map (λ x. if_free x.0 x.1.before) all)
one_more text front e left all is =
    append_assoc front (flat_map text (if_free e.0 e.1.before)) _
    ∙ ap (λ t. front ++ t) (sym (flat_map-append text (if_free e.0 e.1.before) (flat_map (λ x. if_free x.0 x.1.before) left)))
    ∙ ap (λ (es : List (CellId × Change)). front ++ flat_map text (flat_map (λ x. if_free x.0 x.1.before) es)) (sym is)

pub loop-cell-preserved : goal.loop-cell-preserved
loop-cell-preserved c =
    let left = c.next.new.self in
    let text = statement_text c.args.target.now c.args.schema.now in
    let rest = rest_more deref_pair c.loop-cell.cell-iterator left c.next.result (c.in-Some.cell, c.in-Some.change) c.in-Some.is c.next.ensures.steps in
    let added : c.add_if_free.new.text.items ≡ c.loop-cell.text.items ++ flat_map text (if_free c.in-Some.cell.now c.in-Some.change.now.before) =
    c.in_ok-add_if_free.ensures ∙ ap (λ before. c.loop-cell.text.items ++ flat_map text (if_free c.in-Some.cell.now before)) c.as_ref.ensures.value in
    ap (λ t. t ++ flat_map text (flat_map (λ x. if_free x.0 x.1.before) left)) added
    ∙ one_more text c.loop-cell.text.items (c.in-Some.cell.now, c.in-Some.change.now) left c.loop-cell.cell-iterator rest
    ∙ c.loop-cell.invariant
