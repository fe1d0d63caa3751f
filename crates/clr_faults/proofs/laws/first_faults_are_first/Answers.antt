use Rattle.std.proofs.Common.{List}
use Rattle.clr_rows.specs.Contents.{Content}
use Rattle.clr_deltas.specs.Differences.{Differences}
use Rattle.clr_deltas.specs.Deltas.{Delta}
use Rattle.clr_faults.proofs.FirstLaws.{first_alone, first_left}
use Rattle.clr_faults.proofs.laws.first_faults_are_first.Goals as goal

pub returns : goal.returns
returns c = record { alone = first_alone; rows = first_left Content; cells = first_left Differences; workspaces = first_left (List Delta) }
