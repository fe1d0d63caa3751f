use Rattle.std.proofs.Common.{◌∙◌, ◌++◌, ◌∷◌, [], List, ℕ, ap, filter, sym}
use Rattle.std.specs.List.{range_with_len}
use Rattle.clr_merge_clashes.specs.MergeClashes.{is_looked_at}
use Rattle.clr_merge_clashes.proofs.Lists.{filter_last, numbers_more}
use Rattle.clr_merge_clashes.proofs.looked.looked_of.Goals as goal

pub loop-at-preserved : goal.loop-at-preserved
loop-at-preserved c =
    let test = is_looked_at c.args.causes.now c.args.together.now in
    let at = c.loop-at.at in
    c.in_ok-add_looked.ensures ∙ ap (λ (ks : List ℕ). ks ++ filter test (at ∷ [])) c.loop-at.invariant
    ∙ sym (ap (filter test) (numbers_more at) ∙ filter_last test (range_with_len 0 at) at)
