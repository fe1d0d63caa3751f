use Rattle.std.proofs.Common.{◌≡◌, ◌∙◌, Bool, true, false, cond, ◌||◌, Option, Some, None, ap₂, is_some, refl, subst, sym, unwrap_or}
use Rattle.clr_rows.specs.Contents.{no_rows}
use Rattle.clr_rows.specs.Schemas.{FitsSchema}
use Rattle.clr_rules.specs.Books.{FitsBook}
use Rattle.clr_rules.specs.Needs.{broken_needs}
use Rattle.clr_workspaces.specs.Marks.{Name}
use Rattle.clr_workspaces.specs.Workspaces.{Workspace}
use Rattle.clr_steps.specs.Names.{is_live}
use Rattle.clr_steps.specs.Offices.{Office, content_of, current_of, find_name, stands}
use Rattle.clr_steps.proofs.FitLemmas.{fits_content_of}
use Rattle.clr_merge_sets.specs.MemberChanges.{rows_of_root}
use Rattle.clr_plan_sentences.proofs.settings.Setting.old_errors.Goals as goal

-- the rows of a root are what it sees, and none where there is no such root
rows_are : (o : Office) (root : Name) → rows_of_root o root ≡ content_of o root
unfolding stands content_of
rows_are o root = by (is_live root) (find_name root o.workspaces)
  where
    by : (live : Bool) (found : Option Workspace)
        → unwrap_or (cond (live || is_some found) (Some (cond live o.live (current_of found))) None) no_rows ≡ cond live o.live (current_of found)
    by true found = refl
    by false (Some w) = refl
    by false None = refl

pub audit-requires : goal.audit-requires
audit-requires c =
    let o = c.args.self.now.office.now in
    let root = c.args.self.now.members.now.root.now in
    let fit = c.book.ensures.admitted.fit in
    record {
      tables = o.schema;
      book = subst (FitsBook o.schema) (sym c.book.ensures.value) fit.book;
      rows = subst (FitsSchema o.schema) (sym (c.in_ok-rows.ensures ∙ rows_are o root)) (fits_content_of o fit.rows root);
    }

pub returns : goal.returns
returns c =
    let o = c.args.self.now.office.now in
    let rows = c.in_ok-rows.ensures ∙ rows_are o c.args.self.now.members.now.root.now in
    c.in_ok-list.ensures.list ∙ ap₂ broken_needs c.book.ensures.value rows
