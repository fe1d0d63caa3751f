use Rattle.std.proofs.Common.{◌==◌, not, rules}
use Rattle.std.proofs.lemmas.Fn.{filter_same}
use Rattle.clr_board.proofs.settling.drop_goer.Goals as goal

pub returns : goal.returns
returns c = filter_same _ (λ x. not (x == c.args.at)) _ (λ x b g call. search rules) _ _ c.retain.ensures.filtered
