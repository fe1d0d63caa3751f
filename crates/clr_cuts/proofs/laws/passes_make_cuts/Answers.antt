use Rattle.clr_cuts.proofs.PassLaws.{changed_root, in_parts, pass, three_passes}
use Rattle.clr_cuts.proofs.laws.passes_make_cuts.Goals as goal

pub returns : goal.returns
returns c = record {
  none = λ s rows test list are part takes none. pass s rows test list are part takes none;
  three = λ s list start first second third are part one two three. three_passes s list are start first second third part one two three;
  split = λ s rows test one other. in_parts s rows test one other;
  change = λ s rows other test news reach takes part came none. changed_root s rows other test news reach takes part came none;
}
