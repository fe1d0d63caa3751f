-- The known needs that aren't broken any more.
use Rattle.std.specs.Prelude.{◌≡◌, ◌↔◌, ℕ, List, [], ◌++◌, codes, Contains, false, length}
use Rattle.std.specs.List.{flat_map}
use Rattle.std.specs.List.Sorted.{IsStrictlySortedBy}
use Rattle.clr_rows.specs.declared.tables.TableDef.{TableDef}
use Rattle.clr_rules.specs.declared.needs.Broken.{Broken}
use Rattle.clr_rules.specs.Needs.{broken_cmp}
use Rattle.clr_steps.specs.Offices.{Office}
use Rattle.clr_engine.specs.BrokenNow.{IsBrokenNow}
use Rattle.clr_lines.specs.Reports.{count_line, need_line}
use Rattle.clr_desk_prints.specs.Printing.{PrintoutOrFault, printout_of}

-- just the known needs that neither LIVE nor a kept workspace breaks, ascending, each once
pub record AreMended (o : Office) (known list : List Broken) : Type 0 where
  pub ascending : IsStrictlySortedBy broken_cmp list
  pub exactly : (need : Broken) → Contains list need ↔ (Contains known need × ¬ (IsBrokenNow o need))

-- how many needs are mended, and then each of them, as an audit has them
unfoldable pub mended_text : List TableDef → List Broken → List ℕ
mended_text tables needs = count_line (codes "mended") (length needs) ++ flat_map (need_line tables) needs

abbrev pub IsMendedPrint : List Broken → Office → PrintoutOrFault → Type 0
IsMendedPrint known o print = (list : List Broken) × AreMended o known list × (print ≡ printout_of (mended_text o.schema list) [] false false)
