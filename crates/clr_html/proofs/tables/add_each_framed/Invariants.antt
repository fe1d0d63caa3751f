use Rattle.std.proofs.Common.{◌≡◌, ◌++◌, take}
use Rattle.clr_html.specs.Tables.{framed_texts}
use Rattle.clr_html.proofs.tables.add_each_framed.Given as goal

-- the texts so far are added
abbrev pub invariant-loop-text : goal.invariant-loop-text
invariant-loop-text l = l.page.items ≡ l.initial.page.items ++ framed_texts l.begin l.end (take l.text-index l.texts)
