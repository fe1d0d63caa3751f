use Rattle.std.proofs.Common.{◌∙◌, ◌++◌, ◌∷◌, [], ap, filter, sym}
use Rattle.clr_merge_clashes.specs.Beside.{is_beside}
use Rattle.clr_merge_clashes.proofs.Lists.{kept_more}
use Rattle.clr_merge_clashes.proofs.beside.positions_beside.Goals as goal

pub loop-at-preserved : goal.loop-at-preserved
loop-at-preserved c =
    c.in_ok-add_beside.ensures ∙ ap (λ ks. ks ++ filter (is_beside c.args.looked.now) (c.loop-at.at ∷ [])) c.loop-at.invariant
    ∙ sym (kept_more (is_beside c.args.looked.now) c.loop-at.at)
