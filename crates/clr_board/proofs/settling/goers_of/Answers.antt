use Rattle.std.proofs.Common.{◌∙◌, ◌++◌, ◌∷◌, [], ap, filter, sym}
use Rattle.clr_board.specs.Settling.{goes_at}
use Rattle.clr_merge_clashes.proofs.Lists.{kept_more}
use Rattle.clr_board.proofs.settling.goers_of.Goals as goal

pub loop-at-preserved : goal.loop-at-preserved
loop-at-preserved c =
    c.in_ok-add_goer.ensures ∙ ap (λ ks. ks ++ filter (goes_at c.args.helped.now) (c.loop-at.at ∷ [])) c.loop-at.invariant
    ∙ sym (kept_more (goes_at c.args.helped.now) c.loop-at.at)
