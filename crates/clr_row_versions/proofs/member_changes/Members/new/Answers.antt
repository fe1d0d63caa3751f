use Rattle.std.proofs.Common.{◌∙◌, List, Bor, ap, length, subst, sym}
use Rattle.std.proofs.lemmas.List.{length-map}
use Rattle.clr_rows.specs.Contents.{Changes}
use Rattle.clr_row_versions.specs.Changers.{AreChangersAt, noted_changers}
use Rattle.clr_needs.specs.Members.{changed_cells}
use Rattle.clr_row_versions.proofs.ChangerSteps.{changers_exact}
use Rattle.clr_row_versions.proofs.Searches.{sets_of}
use Rattle.clr_row_versions.proofs.member_changes.Members.new.Goals as goal

pub invariant_of-result : goal.invariant_of-result
invariant_of-result c =
    let refs = c.args.sets.items in
    let changers = c.in_ok-changers.changers in
    record {
      few = c.requires;
      all = c.in_ok-cells.ensures ∙ ap (λ (rs : List (Bor Changes)). changed_cells (sets_of rs)) c.as_slice.ensures.value;
      changed_by = λ q. changers_exact (sets_of refs) q (noted_changers changers q)
          (subst (λ n. AreChangersAt (sets_of refs) n q (noted_changers changers q)) (sym (length-map refs (λ s. s.now)))
          (subst (λ (rs : List (Bor Changes)). AreChangersAt (sets_of rs) (length rs) q (noted_changers changers q)) c.as_slice-2.ensures.value
          (c.in_ok-changers.ensures q)));
    }
