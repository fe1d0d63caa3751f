use Rattle.std.proofs.Common.{◌≡◌, map, take}
use Rattle.clr_plan_sentences.proofs.server_words.texts_of.Given as goal

-- the texts so far
abbrev pub invariant-loop-word : goal.invariant-loop-word
invariant-loop-word l = map (λ text. text.now) l.texts.items ≡ take l.word-index l.words
