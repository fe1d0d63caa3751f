use Rattle.std.proofs.Common.{◌≡◌, ◌≢◌, ⊎_elim, ◌∙◌, sym, subst, arith}
use Rattle.std.proofs.lemmas.Bool.{cases_eq}
use Rattle.clr_deltas.specs.Differences.{HasDifferences}
use Rattle.clr_deltas.proofs.DifferenceLemmas.{differences_keep}
use Rattle.clr_deltas.specs.Deltas.{delta_at, IsUnder}
use Rattle.clr_contents.proofs.SeenRowLemmas.{extends_both, but_children_both}
use Rattle.clr_contents.proofs.seen_rows.store_rows_of_children.Goals as goal

pub loop-k-preserved : goal.loop-k-preserved
loop-k-preserved c =
    let old = c.loop-k.map in
    let new = c.store_rows_of_child.new.map in
    let e = c.in_ok-store_rows_of_child.ensures in
    let i = c.loop-k.invariant in
    let k = c.loop-k.k in
    let name = (delta_at c.args.map.now c.args.at).name in
    record {
      seen = e.seen ∙ i.seen;
      extends = extends_both _ old new i.extends e.extends;
      elsewhere = but_children_both c.args.at c.args.cells.now c.args.map.now old new i.extends i.elsewhere e.elsewhere;
      is_stored = λ j some lt under. ⊎_elim
          (λ (same : j ≡ k).
          subst (λ n. HasDifferences (delta_at new n).base c.args.cells.now) (sym same)
          (e.is_stored (subst (λ n. IsUnder n (delta_at new k)) (sym (i.extends.each c.args.at).name) (subst (λ n. IsUnder name (delta_at new n)) same under))))
          (λ (other : j ≢ k).
          let more = e.extends.each j in
          differences_keep (delta_at old j).base (delta_at new j).base _ more.base
          (i.is_stored j some (omega arith) (subst (λ n. IsUnder name (record (delta_at old j) { parent = n })) more.parent under)))
          (cases_eq j k);
    }

pub returns-in_err-store_rows_of_child-clause-elsewhere : goal.returns-in_err-store_rows_of_child-clause-elsewhere
returns-in_err-store_rows_of_child-clause-elsewhere c =
    but_children_both c.args.at c.args.cells.now c.args.map.now c.loop-k.map c.store_rows_of_child.new.map c.loop-k.invariant.extends c.loop-k.invariant.elsewhere
    c.store_rows_of_child.ensures.elsewhere
