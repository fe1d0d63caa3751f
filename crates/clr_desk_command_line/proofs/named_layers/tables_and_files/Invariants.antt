use Rattle.std.proofs.Common.{◌≡◌, map, take, true}
use Rattle.std.specs.List.{list_all}
use Rattle.clr_desk_command_line.specs.Asks.{file_in, is_layer, table_in}
use Rattle.clr_desk_command_line.proofs.named_layers.tables_and_files.Given as goal

-- each word so far names a layer, whose table and file are taken
abbrev pub invariant-loop-word : goal.invariant-loop-word
invariant-loop-word l = record {
  layers : list_all (λ word. is_layer word.now) (take l.word-index l.words) ≡ true;
  tables : l.tables.items ≡ map (λ word. table_in word.now) (take l.word-index l.words);
  files : l.files.items ≡ map (λ word. file_in word.now) (take l.word-index l.words);
}
