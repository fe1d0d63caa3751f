-- What a run reads of its input.
use Rattle.std.specs.Prelude.{◌≡◌, ℕ, ◌≤◌, ◌<◌, List, [], ◌++◌, length, codes, Bool, true, false, Option}
use Rattle.std.specs.Io.KnownBytes.{Consumes, IsAtEnd}
use Rattle.clr_streams.specs.Shown.{shown}
use Rattle.clr_process_io.specs.declared.faults.FileFault.{FileFault}
use Rattle.clr_process_io.specs.declared.faults.RunFault.{RunFault}
use Rattle.clr_process_io.specs.declared.faults.RunFault.TheVariants as fault
use Rattle.clr_process_io.specs.declared.reading.TheConstants.{MOST_INPUT_BYTES}

-- the reader gave this text and is at its end, and the text is within the limit
abbrev pub GivesInput : Option (List ℕ) → Option (List ℕ) → List ℕ → Type 0
GivesInput before after text = Consumes before after text × IsAtEnd after × (length text ≤ MOST_INPUT_BYTES)

-- the reader gave more than the limit
abbrev pub GivesTooMuch : Option (List ℕ) → Option (List ℕ) → Type 0
GivesTooMuch before after = (text : List ℕ) × Consumes before after text × (MOST_INPUT_BYTES < length text)

-- why the whole input was not read, where `failed` says whether the reader failed
abbrev pub IsReadFault : Option (List ℕ) → Option (List ℕ) → Bool → RunFault → Type 0
IsReadFault before after failed fault.ReadFailed = failed ≡ true
IsReadFault before after failed fault.TooLong = GivesTooMuch before after × (failed ≡ false)
IsReadFault before after failed fault.OutOfMemory = failed ≡ false
IsReadFault before after failed fault.WriteFailed = ⊥
IsReadFault before after failed fault.NoSeparator = ⊥
IsReadFault before after failed (fault.BadOffice e) = ⊥
IsReadFault before after failed (fault.BadScript number e) = ⊥
IsReadFault before after failed (fault.BadCertificate number e) = ⊥

-- what is said of an input behind the line of a fault, by its name: that it can't be read, or how many bytes it may have
abbrev pub input_remark : List ℕ → RunFault → List ℕ
input_remark name fault.ReadFailed = shown false name ++ codes ": it can't be opened or read\n"
input_remark name fault.TooLong = shown false name ++ codes ": it has more than 67,108,864 bytes\n"
input_remark name _ = []

-- a fault that a file may have, or want of memory
abbrev pub IsFaultOfFile : RunFault → Type 0
IsFaultOfFile fault.ReadFailed = Unit {0}
IsFaultOfFile fault.TooLong = Unit {0}
IsFaultOfFile fault.OutOfMemory = Unit {0}
IsFaultOfFile _ = ⊥

-- why some files give no texts: one of them, by its position, can't be read or is too long, or no memory was found
abbrev pub IsFileFault : ℕ → FileFault → Type 0
IsFileFault count e = (e.file < count) × IsFaultOfFile e.fault
