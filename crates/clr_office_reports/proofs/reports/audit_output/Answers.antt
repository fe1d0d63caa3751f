use Rattle.std.proofs.Common.{◌≡◌, Bool, true, false, cond, Some, None, sym, subst, ◌∙◌}
use Rattle.clr_rows.specs.Contents.{Content}
use Rattle.clr_rows.specs.Schemas.{FitsSchema}
use Rattle.clr_rules.specs.Books.{FitsBook}
use Rattle.clr_steps.specs.Offices.{content_of, stands}
use Rattle.clr_steps.proofs.FirstLemmas.{some_is}
use Rattle.clr_steps.proofs.FitLemmas.{fits_content_of}
use Rattle.clr_office_reports.proofs.reports.audit_output.Goals as goal

given : (there : Bool) (rows content : Content) → Some rows ≡ cond there (Some content) None → rows ≡ content
given true rows content e = some_is rows content e
given false rows content e = absurd (cc)

pub audit-requires : goal.audit-requires
audit-requires c =
    let o = c.args.office.now in
    let name = c.args.name.now in
    let fit = c.book.ensures.admitted.fit in
    let is = given (stands o name) c.in-Some.rows (content_of o name) (sym c.in-Some.is ∙ c.in_ok-rows.ensures) in
    record {
      tables = o.schema;
      book = subst (FitsBook o.schema) (sym c.book.ensures.value) fit.book;
      rows = subst (FitsSchema o.schema) (sym is) (fits_content_of o fit.rows name);
    }
