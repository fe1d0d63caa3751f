use Rattle.std.proofs.Common.{◌≡◌, ◌<◌, ◌≤◌, All, length, None, IfSome}
use Rattle.clr_process_io.specs.declared.reading.TheConstants.{MOST_INPUT_BYTES}
use Rattle.clr_process_io.proofs.files.read_files.Given as goal

-- a text for each file so far, unless one was too long
abbrev pub invariant-loop-file : goal.invariant-loop-file
invariant-loop-file l = record {
  each : l.too_long ≡ None → length l.texts.items ≡ l.file;
  within : All (λ text. length text.items ≤ MOST_INPUT_BYTES) l.texts.items;
  told : IfSome l.too_long (λ file. file < length l.files);
}
