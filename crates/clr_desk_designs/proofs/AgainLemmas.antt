-- The script of a design that is brought again; and what is printed behind a command.
use Rattle.std.proofs.Common.{◌≡◌, ◌∙◌, ℕ, Bool, true, false, cond, List, Option, Some, None, Ok, Result, IfOk, ap, refl, subst, sym}
use Rattle.std.proofs.lemmas.Option.{none-some}
use Rattle.std.proofs.lemmas.Result.{IfOk-weaker}
use Rattle.std.specs.List.{All}
use Rattle.clr_rows.specs.Contents.{Content}
use Rattle.clr_rows.specs.Schemas.{FitsSchema}
use Rattle.clr_rows.specs.declared.tables.TableDef.{TableDef}
use Rattle.clr_change.specs.declared.edits.Edit.{Edit}
use Rattle.clr_workspaces.specs.Marks.{Name}
use Rattle.clr_workspaces.specs.Operations.{with_current}
use Rattle.clr_steps.specs.declared.commands.Command.{Command}
use Rattle.clr_steps.specs.declared.commands.Reply.{Reply}
use Rattle.clr_steps.specs.Names.{is_live}
use Rattle.clr_steps.specs.Offices.{Office, content_of, modify, set_content, with_workspaces}
use Rattle.clr_steps.specs.Readings.{parent_in}
use Rattle.clr_steps.proofs.FirstLemmas.{some_is}
use Rattle.clr_scripts.specs.Scripts.{script_in_text}
use Rattle.clr_layer_changes.specs.Changes.{edits_between}
use Rattle.clr_designs.specs.Again.{IsPerformed, is_elsewhere}
use Rattle.clr_designs.specs.ReadBack.{Fits}
use Rattle.clr_designs.specs.Scripts.{again_script, again_steps}
use Rattle.clr_designs.proofs.EditLemmas.{edits_fit}
use Rattle.clr_desk_prints.specs.declared.prints.Print.{Print}
use Rattle.clr_desk_prints.specs.Printing.{PrintoutOrFault, printed}
use Rattle.clr_desk_layers.specs.Designs.{refusal_print}
use Rattle.clr_desk_layers.specs.Layers.{unfit_print}
use Rattle.clr_desk_designs.specs.Again.{IsAgainScript, IsPrintBehind, elsewhere_word, of_elsewhere, of_next, of_refused}

-- another content changes no table
pub same_schema : (o : Office) (name : Name) (content : Content) → (set_content o name content).schema ≡ o.schema
unfolding set_content
same_schema o name content = by (is_live name)
  where
    by : (live : Bool)
        → (cond live (record o { live = content }) (with_workspaces o (modify name (with_current content) o.workspaces))).schema ≡ o.schema
    by true = refl
    by false = refl

-- a content that is there is that of the name
pub given_content : (there : Bool) (rows content : Content) → Some rows ≡ cond there (Some content) None → rows ≡ content
given_content true rows content e = some_is rows content e
given_content false rows content e = absurd (none-some rows (sym e))

module _ (o : Office) (name : Name) (content : Content) where
  abbrev all : List Edit
  all = edits_between (content_of o name) content

  pub script_is : (tables : List TableDef) (edits : List Edit) (text : List ℕ) → tables ≡ o.schema → edits ≡ edits_between (content_of o name) content
      → text ≡ again_script tables name edits → (All (Fits tables) edits → script_in_text tables text ≡ Ok (again_steps name edits))
      → FitsSchema o.schema (content_of o name) → FitsSchema o.schema content → IsAgainScript name o content text
  script_is tables edits text schema same written back seen_fits content_fits =
      let of_edits = subst (λ (es : List Edit). All (Fits tables) es → script_in_text tables text ≡ Ok (again_steps name es)) same back in
      let of_schema = subst (λ (ts : List TableDef). All (Fits ts) all → script_in_text ts text ≡ Ok (again_steps name all)) schema of_edits in
      record {
        bytes = written ∙ (λ i. again_script (schema i) name (same i));
        steps = of_schema (edits_fit o.schema (content_of o name) content seen_fits content_fits);
      }

-- what is printed behind a command ---------------------------------------------------------------

module _ {E : Type 0} (command : Command) (name : Name) (IsPrint : Office → PrintoutOrFault → Type 0) (o : Office) (result : Result Print E) where
  pub elsewhere_is_printed : is_elsewhere (parent_in o name) ≡ true → IfOk result (λ p. printed p ≡ unfit_print elsewhere_word name)
      → IfOk result (λ p. IsPrintBehind command name IsPrint o (printed p))
  elsewhere_is_printed away made =
      IfOk-weaker result (λ p. printed p ≡ unfit_print elsewhere_word name) (λ p. IsPrintBehind command name IsPrint o (printed p))
      (λ p is. of_elsewhere away is) made

  pub refusal_is_printed : (tables : List TableDef) (reply : Reply) (refused : Option Reply) (left : Office) → is_elsewhere (parent_in o name) ≡ false
      → refused ≡ Some reply → IsPerformed o command refused left → tables ≡ left.schema → IfOk result (λ p. printed p ≡ refusal_print tables reply)
      → IfOk result (λ p. IsPrintBehind command name IsPrint o (printed p))
  refusal_is_printed tables reply refused left here is performed schema made =
      let why = subst (λ (r : Option Reply). IsPerformed o command r left) is performed in
      let same = schema ∙ ap (λ (next : Office). next.schema) why.1 in
      IfOk-weaker result (λ p. printed p ≡ refusal_print tables reply) (λ p. IsPrintBehind command name IsPrint o (printed p))
      (λ p h. of_refused reply here why.0 (h ∙ ap (λ (ts : List TableDef). refusal_print ts reply) same)) made

  pub next_is_printed : (refused : Option Reply) (left : Office) → is_elsewhere (parent_in o name) ≡ false → refused ≡ None
      → IsPerformed o command refused left → IfOk result (λ p. IsPrint left (printed p))
      → IfOk result (λ p. IsPrintBehind command name IsPrint o (printed p))
  next_is_printed refused left here is performed made =
      let done = subst (λ (r : Option Reply). IsPerformed o command r left) is performed in
      IfOk-weaker result (λ p. IsPrint left (printed p)) (λ p. IsPrintBehind command name IsPrint o (printed p))
      (λ p h. of_next here done.0 (subst (λ (next : Office). IsPrint next (printed p)) done.1 h)) made
