use Rattle.std.proofs.Common.{map}
use Rattle.std.specs.Char.{to_ascii_lowercase}
use Rattle.std.specs.Cmp.{both_ways}
use Rattle.std.proofs.lemmas.Slice.Eq.{bytes_eq-Decides}
use Rattle.clr_layer_reports.proofs.sentences.same_letters.Goals as goal

pub returns : goal.returns
returns c =
    let same = bytes_eq-Decides (map to_ascii_lowercase c.args.name.now) (map to_ascii_lowercase c.args.other.now) in
    both_ways _ _ (λ e. same.1 (c.eq_ignore_ascii_case.ensures.test.0 e)) (λ e. c.eq_ignore_ascii_case.ensures.test.1 (same.0 e))
