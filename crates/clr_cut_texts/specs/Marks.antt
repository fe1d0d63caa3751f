-- Which texts are marked as cuts.
use Rattle.std.specs.Prelude.{ℕ, ℤ, pos, Bool, false, List, ◌&&◌, codes, Result, Ok, Err, if◌then◌else◌, option_and_then, unwrap_or}
use Rattle.std.specs.Option.{option_map_or}
use Rattle.std.specs.Ordering.{int_eq}
use Rattle.std.specs.Str.{is_utf8}
use Rattle.serde_json.specs.Data.{Data}
use Rattle.serde_json.specs.Find.{as_bool, get}
use Rattle.serde_json.specs.Read.{read}
use Rattle.clr_rule_text.specs.declared.faults.TextFault.{TextFault}
use Rattle.clr_rule_text.specs.Fields.{number_at}
use Rattle.clr_cut_texts.specs.declared.marks.TheConstants.{MARK}

abbrev pub is_four : Result ℤ TextFault → Bool
is_four (Ok n) = int_eq n (pos 4)
is_four (Err e) = false

-- the mark stands where it is `true`
abbrev pub has_mark : Data → Bool
has_mark d = unwrap_or (option_and_then as_bool (get MARK.now d)) false

-- it is looked at only in format 4
abbrev pub is_marked : Data → Bool
is_marked d = is_four (number_at (codes "format") d) && has_mark d

-- the text is JSON with the mark; whether it is an office isn't looked at
abbrev pub is_cut_text : List ℕ → Bool
is_cut_text bytes = if is_utf8 bytes then option_map_or is_marked (read bytes) false else false
