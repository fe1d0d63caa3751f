-- What is printed of layers that are asked about: all that is wrong with them.
use Rattle.std.specs.Prelude.{◌≡◌, ℕ, ◌==◌, List, [], ◌++◌, codes, length, Result, Ok, Err, if◌then◌else◌}
use Rattle.clr_rows.specs.declared.tables.TableDef.{TableDef}
use Rattle.clr_steps.specs.Offices.{Office}
use Rattle.clr_office_texts.specs.Drafts.{draft_in}
use Rattle.clr_rule_text.specs.declared.faults.TextFault.{TextFault}
use Rattle.clr_layer_changes.specs.declared.options.GivenLayer.{GivenLayer}
use Rattle.clr_desk_command_line.specs.declared.asks.LayersAsk.{LayersAsk}
use Rattle.clr_desk_command_line.specs.declared.asks.TextKind.TheVariants as kind
use Rattle.clr_desk_prints.specs.Printing.{Printout, PrintoutOrFault}
use Rattle.clr_desk_faults.specs.LayerFaults.{AreReports, degrees_lines}
use Rattle.clr_desk_faults.specs.Whys.{IsWhyPrint}

-- status 2 where something is wrong with a layer, and 0 where nothing is; behind it stands which layers look like degrees
abbrev pub reports_printout : List ℕ → List ℕ → Printout
reports_printout lines degrees =
    if length lines == 0 then record { text = codes "no fault\n" ++ degrees; notes = []; status = 0 }
    else record { text = lines ++ degrees; notes = []; status = 2 }

-- what is wrong with layers over tables, in the words in which it is said where they are refused
abbrev pub IsPrintOfLayers : List TableDef → LayersAsk → List GivenLayer → PrintoutOrFault → Type 0
IsPrintOfLayers tables asked layers print =
    (lines : List ℕ) × AreReports tables asked.is_rounded asked.files 0 layers 0 layers lines
    × (print ≡ Ok (reports_printout lines (degrees_lines asked.files 0 layers)))

-- over the tables of an office; and where the text is none, what is printed of its own fault
abbrev pub IsLayersWhyOver : LayersAsk → List ℕ → List GivenLayer → PrintoutOrFault → Result Office TextFault → Type 0
IsLayersWhyOver asked office layers print (Ok o) = IsPrintOfLayers o.schema asked layers print
IsLayersWhyOver asked office layers print (Err e) = IsWhyPrint kind.Office office [] print

abbrev pub IsLayersWhy : LayersAsk → List ℕ → List GivenLayer → PrintoutOrFault → Type 0
IsLayersWhy asked office layers print = IsLayersWhyOver asked office layers print (draft_in office)
