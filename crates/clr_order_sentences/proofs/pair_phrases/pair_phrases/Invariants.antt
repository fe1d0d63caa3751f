use Rattle.std.proofs.Common.{◌≡◌, ◌++◌, codes, map, take}
use Rattle.clr_merge_sets.specs.MemberChanges.{set_of}
use Rattle.clr_order_sentences.specs.OrderSentences.{pair_phrase}
use Rattle.clr_order_sentences.proofs.pair_phrases.pair_phrases.Given as goal

-- the first pair, and the others so far
abbrev pub invariant-loop-pair : goal.invariant-loop-pair
invariant-loop-pair l = l.phrases.items
    ≡ l.initial.phrases.items ++ map (pair_phrase (set_of l.members).members (codes " before ")) (take l.pair-index l.others)
