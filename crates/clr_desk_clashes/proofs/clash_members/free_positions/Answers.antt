use Rattle.std.proofs.Common.{◌∙◌, ◌++◌, ◌∷◌, [], ap, filter, sym}
use Rattle.clr_merge_clashes.proofs.Lists.{kept_more}
use Rattle.clr_desk_clashes.specs.Clashes.{is_in_no_set}
use Rattle.clr_desk_clashes.proofs.clash_members.free_positions.Goals as goal

pub loop-at-preserved : goal.loop-at-preserved
loop-at-preserved c =
    c.in_ok-add_free.ensures ∙ ap (λ ks. ks ++ filter (is_in_no_set c.args.clashes.now) (c.loop-at.at ∷ [])) c.loop-at.invariant
    ∙ sym (kept_more (is_in_no_set c.args.clashes.now) c.loop-at.at)
