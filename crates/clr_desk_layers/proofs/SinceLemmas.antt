-- The draft of an office text with one more design, which took over a copied content.
use Rattle.std.proofs.Common.{◌≡◌, ◌∷◌, ◌++◌, [], ℕ, zero, suc, List, Ok, false, map, length, ap, arith, refl, subst, sym, ◌∙◌}
use Rattle.std.specs.Prelude.{◌<◌}
use Rattle.std.proofs.lemmas.List.{map-append}
use Rattle.clr_rows.specs.Contents.{Content}
use Rattle.clr_rows.specs.Names.{live_name}
use Rattle.clr_rows.specs.Schemas.{FitsSchema}
use Rattle.clr_rows.specs.declared.tables.TableDef.{TableDef}
use Rattle.clr_rules.specs.declared.needs.Broken.{Broken}
use Rattle.clr_rules.specs.declared.rules.Rule.{Rule}
use Rattle.clr_workspaces.specs.Marks.{Name}
use Rattle.clr_workspaces.specs.Workspaces.{Workspace, live_workspace, workspace_at}
use Rattle.clr_deltas.specs.Deltas.{Delta, above_in, content_by_name, grow, leaf, top, whole_mark, whole_of, wholes, workspaces_over}
use Rattle.clr_deltas.specs.Differences.{seen_over}
use Rattle.clr_deltas.specs.NamedDeltas.{stored_delta}
use Rattle.clr_deltas.specs.declared.stored_parts.StoredPart.{StoredPart}
use Rattle.clr_deltas.proofs.Places.{wholes-push}
use Rattle.clr_workspace_parts.specs.Parts.{spaces_of}
use Rattle.clr_steps.specs.Invariants.{WorkspaceFits}
use Rattle.clr_steps.specs.Offices.{Office, below_live, office_of}
use Rattle.clr_steps.proofs.FitLemmas.{none_fits}
use Rattle.clr_engine.specs.Fitting.{IsFitting}
use Rattle.clr_designs.specs.Designs.{design_of, with_design_over}
use Rattle.clr_office_reading.specs.Offices.{OfficeText, office_in}
use Rattle.clr_office_texts.specs.Drafts.{draft_in}
use Rattle.clr_desk_layers.proofs.RelaidLemmas.{draft_read}

-- a design under LIVE, told of what is stored of it
pub whole_design : (live copied content : Content) (name : Name) (l : Delta) → l.name ≡ name → l.parent ≡ live_name → seen_over live l.base ≡ copied
    → seen_over copied l.current ≡ content → l.marks ≡ [] → l.kept ≡ false → whole_of live l ≡ design_of name copied content
unfolding whole_of
whole_design live copied content name l named parent base current marks kept =
    let seen = ap (λ (m : Content). seen_over m l.current) base ∙ current in
    let all = ap (map (whole_mark (seen_over live l.base))) marks in
    λ i. record { name = named i; parent = parent i; base = base i; current = seen i; marks = all i; kept = kept i }

-- the content under a delta of LIVE
above_live : (live : Content) (ws : List Workspace) (l : Delta) → l.parent ≡ live_name → above_in (live_workspace live ∷ ws) l ≡ live
unfolding content_by_name
above_live live ws l under = rw under refl

-- deltas under LIVE, with one more behind them
one_more : (live : Content) (ls : List Delta) (l : Delta) → l.parent ≡ live_name
    → workspaces_over live (ls ++ l ∷ []) ≡ workspaces_over live ls ++ whole_of live l ∷ []
unfolding wholes top
one_more live ls l under =
    let root = leaf live_name [] in
    ap below_live (wholes-push live (root ∷ ls) l (omega arith))
    ∙ ap (λ (above : Content). workspaces_over live ls ++ whole_of above l ∷ []) (above_live live (workspaces_over live ls) l under)

-- the workspaces that parts give, with that of a design behind them
pub spaces_more : (live : Content) (parts all : List StoredPart) (part : StoredPart) (w : Workspace) → all ≡ parts ++ part ∷ []
    → part.delta.parent ≡ live_name → whole_of live (stored_delta part) ≡ w → spaces_of live all ≡ spaces_of live parts ++ w ∷ []
spaces_more live parts all part w are under whole =
    ap (spaces_of live) are ∙ ap (workspaces_over live) (map-append stored_delta parts (part ∷ [])) ∙ one_more live (map stored_delta parts) (stored_delta part) under
    ∙ ap (λ (v : Workspace). workspaces_over live (map stored_delta parts) ++ v ∷ []) whole

-- workspaces that fit, with one more behind them
each_more : (tables : List TableDef) (ws : List Workspace) (w : Workspace) → ((i : ℕ) → WorkspaceFits tables (workspace_at ws i)) → WorkspaceFits tables w
    → (i : ℕ) → WorkspaceFits tables (workspace_at (ws ++ w ∷ []) i)
each_more tables [] w each last zero = last
each_more tables [] w each last (suc i) = each 0
each_more tables (v ∷ ws) w each last zero = each 0
each_more tables (v ∷ ws) w each last (suc i) = each_more tables ws w (λ j. each (suc j)) last i

-- an office with a design fits the schema, where the contents do
pub since_fits : (o : Office) (name : Name) (copied content : Content) → IsFitting o → FitsSchema o.schema copied → FitsSchema o.schema content
    → IsFitting (with_design_over o name copied content)
since_fits o name copied content fit copied_fits fits =
    let design : WorkspaceFits o.schema (design_of name copied content) = record { base = copied_fits; current = fits; saved = λ i. none_fits o.schema } in
    record {
      book = fit.book;
      rows = record { live = fit.rows.live; workspaces = each_more o.schema o.workspaces (design_of name copied content) fit.rows.workspaces design };
    }

-- what is read of an office text, with one more part, is the office with the design
module _ (text : List ℕ) (o : Office) (is : draft_in text ≡ Ok o) (schema : List TableDef) (book : List Rule) (known : List Broken) (live : Content)
    (parts : List StoredPart)
    (read : office_in text ≡ Ok (record { schema = schema; book = book; known = known; live = live; deltas = map stored_delta parts })) where
  pub with_part : (all : List StoredPart) (part : StoredPart) (name : Name) (copied content : Content) (list : List Workspace)
      → list ≡ live_workspace live ∷ spaces_of live all → all ≡ parts ++ part ∷ [] → part.delta.parent ≡ live_name
      → whole_of live (stored_delta part) ≡ design_of name copied content → office_of schema book list ≡ with_design_over o name copied content
  with_part all part name copied content list made are under whole =
      let written : OfficeText = record { schema = schema; book = book; known = known; live = live; deltas = map stored_delta parts } in
      ap (office_of schema book) made
      ∙ ap (λ (ws : List Workspace). office_of schema book (live_workspace live ∷ ws)) (spaces_more live parts all part (design_of name copied content) are under whole)
      ∙ ap (λ (p : Office). with_design_over p name copied content) (draft_read text o written is read)
