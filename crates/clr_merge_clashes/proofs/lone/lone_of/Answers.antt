use Rattle.std.proofs.Common.{◌∙◌, ◌++◌, ◌∷◌, [], List, ℕ, ap, filter, option_to_list, sym}
use Rattle.std.specs.List.{filter_map, range_with_len}
use Rattle.clr_merge_clashes.specs.Lone.{is_free, lone_clash}
use Rattle.clr_merge_clashes.specs.ClashSets.{MergeClash}
use Rattle.clr_merge_sets.proofs.ListLemmas.{filter_map_last}
use Rattle.clr_merge_clashes.proofs.Lists.{filter_last, numbers_more}
use Rattle.clr_merge_clashes.proofs.lone.lone_of.Goals as goal

pub loop-at-preserved : goal.loop-at-preserved
loop-at-preserved c =
    let causes = c.args.causes.now in
    let at = c.loop-at.at in (
      c.in_ok-add_member.ensures.clashes ∙ ap (λ (ks : List MergeClash). ks ++ option_to_list (lone_clash causes at)) c.loop-at.invariant.0
          ∙ sym (ap (filter_map (lone_clash causes)) (numbers_more at) ∙ filter_map_last (lone_clash causes) (range_with_len 0 at) at),
      c.in_ok-add_member.ensures.free ∙ ap (λ (ks : List ℕ). ks ++ filter (is_free causes) (at ∷ [])) c.loop-at.invariant.1
          ∙ sym (ap (filter (is_free causes)) (numbers_more at) ∙ filter_last (is_free causes) (range_with_len 0 at) at),
    )
