-- The script of a design, told of what is written of the office that has it.
use Rattle.std.proofs.Common.{◌≡◌, ℕ, List, Ok, subst, ◌∙◌}
use Rattle.std.specs.List.{All}
use Rattle.clr_rows.specs.Contents.{Content}
use Rattle.clr_rows.specs.Names.{live_name}
use Rattle.clr_rows.specs.Schemas.{FitsSchema}
use Rattle.clr_rows.specs.declared.tables.TableDef.{TableDef}
use Rattle.clr_change.specs.declared.edits.Edit.{Edit}
use Rattle.clr_workspaces.specs.Marks.{Name}
use Rattle.clr_steps.specs.Offices.{Office}
use Rattle.clr_scripts.specs.Scripts.{script_in_text}
use Rattle.clr_layer_changes.specs.Changes.{edits_between}
use Rattle.clr_designs.specs.ReadBack.{Fits}
use Rattle.clr_designs.specs.Scripts.{design_script, design_steps}
use Rattle.clr_designs.specs.Designs.{AreDone, with_design}
use Rattle.clr_designs.proofs.EditLemmas.{edits_fit}
use Rattle.clr_desk_layers.specs.Designs.{IsDesignScript}

module _ (o : Office) (name : Name) (content : Content) where
  abbrev all : List Edit
  all = edits_between o.live content

  pub script_is : (tables : List TableDef) (edits : List Edit) (text : List ℕ) → tables ≡ o.schema → edits ≡ edits_between o.live content
      → text ≡ design_script tables name live_name edits → (All (Fits tables) edits → script_in_text tables text ≡ Ok (design_steps name live_name edits))
      → FitsSchema o.schema o.live → FitsSchema o.schema content → AreDone o name content (with_design o name content) → IsDesignScript name o content text
  script_is tables edits text schema same written back live_fits content_fits done =
      let of_edits = subst (λ (es : List Edit). All (Fits tables) es → script_in_text tables text ≡ Ok (design_steps name live_name es)) same back in
      let of_schema = subst (λ (ts : List TableDef). All (Fits ts) all → script_in_text ts text ≡ Ok (design_steps name live_name all)) schema of_edits in
      record {
        bytes = written ∙ (λ i. design_script (schema i) name live_name (same i));
        steps = of_schema (edits_fit o.schema o.live content live_fits content_fits);
        done = done;
      }
