use Rattle.std.proofs.Common.{◌≡◌, ◌∙◌, Bool, true, false, Result, Ok, Err, Some, None, cond, refl, sym, subst}
use Rattle.std.specs.Prelude.{IfOk}
use Rattle.clr_rows.specs.Contents.{Content}
use Rattle.clr_rows.specs.Schemas.{FitsSchema, table_named}
use Rattle.clr_steps.specs.Offices.{content_of, stands}
use Rattle.clr_steps.proofs.FirstLemmas.{some_is}
use Rattle.clr_steps.proofs.FitLemmas.{fits_content_of}
use Rattle.clr_desk_layers.specs.Layers.{IsPrintOfTable, of_no_workspace, of_table}
use Rattle.clr_desk_prints.specs.Printing.{printed}
use Rattle.clr_desk_layers.proofs.layers.layer_print.Goals as goal

-- a content that is there is that of a name which stands
given : (there : Bool) (rows content : Content) → Some rows ≡ cond there (Some content) None → (there ≡ true) × (rows ≡ content)
given true rows content e = (refl, some_is rows content e)
given false rows content e = absurd (cc)

missing : (there : Bool) (content : Content) → cond there (Some content) None ≡ None → there ≡ false
missing true content e = absurd (cc)
missing false content e = refl

if_ok : {T E : Type 0} (r : Result T E) (P Q : T → Type 0) → ((x : T) → P x → Q x) → IfOk r P → IfOk r Q
if_ok (Ok x) P Q so h = so x h
if_ok (Err e) P Q so h = tt

pub returns-in_default-2 : goal.returns-in_default-2
returns-in_default-2 c =
    let o = c.args.office.now in
    let workspace = c.args.workspace.now in
    let named : table_named o.schema c.args.table.now ≡ Some c.in-Some.at = cc in
    let nobody = missing (stands o workspace) (content_of o workspace) (sym c.in_ok-content.ensures ∙ c.in_default-2.is) in
    if_ok c.no_workspace.result _ _ (λ p is. of_no_workspace c.in-Some.at named nobody is) c.no_workspace.ensures

pub print_of_table-requires : goal.print_of_table-requires
print_of_table-requires c =
    let o = c.args.office.now in
    let workspace = c.args.workspace.now in
    let is = given (stands o workspace) c.in-Some-2.content (content_of o workspace) (sym c.in-Some-2.is ∙ c.in_ok-content.ensures) in
    let fits = subst (FitsSchema o.schema) (sym is.1) (fits_content_of o c.schema-schema.ensures.admitted.fit.rows workspace) in
    subst (λ tables. FitsSchema tables c.in-Some-2.content) (sym c.schema-schema.ensures.value) fits

pub returns : goal.returns
returns c =
    let o = c.args.office.now in
    let table = c.args.table.now in
    let workspace = c.args.workspace.now in
    let at = c.in-Some.at in
    let named : table_named o.schema table ≡ Some at = cc in
    let is = given (stands o workspace) c.in-Some-2.content (content_of o workspace) (sym c.in-Some-2.is ∙ c.in_ok-content.ensures) in
    if_ok c.print_of_table.result _ _
    (λ p print. of_table at named is.0 (subst (λ tables. IsPrintOfTable tables at table (content_of o workspace) (printed p)) c.schema-schema.ensures.value
    (subst (λ content. IsPrintOfTable c.schema-schema.result.now at table content (printed p)) is.1 print)))
    c.print_of_table.ensures
