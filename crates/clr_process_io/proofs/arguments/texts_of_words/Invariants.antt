use Rattle.std.proofs.Common.{◌≡◌, map, string_bytes, take}
use Rattle.clr_process_io.proofs.arguments.texts_of_words.Given as goal

-- the words so far
abbrev pub invariant-loop-word : goal.invariant-loop-word
invariant-loop-word l = map (λ text. text.now) l.texts.items ≡ map string_bytes (take l.word-index l.words)
