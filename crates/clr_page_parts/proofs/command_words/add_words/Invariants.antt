use Rattle.std.proofs.Common.{◌≡◌, ◌++◌, map, take}
use Rattle.clr_page_parts.specs.Commands.{words_text}
use Rattle.clr_page_parts.proofs.command_words.add_words.Given as goal

-- the words so far are added
abbrev pub invariant-loop-word : goal.invariant-loop-word
invariant-loop-word l = l.text.items ≡ l.initial.text.items ++ words_text (map (λ word. word.now) (take l.word-index l.words))
