use Rattle.std.proofs.Common.{◌∙◌, ◌++◌, ◌∷◌, [], ap, filter, sym}
use Rattle.clr_merge_clashes.proofs.Lists.{kept_more}
use Rattle.clr_desk_merges.specs.Waiting.{is_done_at}
use Rattle.clr_desk_merges.proofs.waiting.done_positions.Goals as goal

pub loop-at-preserved : goal.loop-at-preserved
loop-at-preserved c =
    c.in_ok-add_done.ensures ∙ ap (λ ks. ks ++ filter (is_done_at c.args.replies.now) (c.loop-at.at ∷ [])) c.loop-at.invariant
    ∙ sym (kept_more (is_done_at c.args.replies.now) c.loop-at.at)
