-- Known needs that are mended.
use Rattle.std.proofs.Common.{◌↔◌, Contains, List}
use Rattle.std.specs.List.Sorted.{IsStrictlySortedBy}
use Rattle.clr_rules.specs.declared.needs.Broken.{Broken}
use Rattle.clr_rules.specs.Needs.{broken_cmp}
use Rattle.clr_steps.specs.Offices.{Office}
use Rattle.clr_engine.specs.BrokenNow.{AreBrokenNow}
use Rattle.clr_desk_errors.specs.Mended.{AreMended}

-- the known needs beside those that are broken are those that are mended
pub are_mended : (o : Office) (known needs list : List Broken) → AreBrokenNow o needs → IsStrictlySortedBy broken_cmp list
    → ((need : Broken) → Contains list need ↔ (Contains known need × ¬ (Contains needs need))) → AreMended o known list
are_mended o known needs list are ascending exactly = record {
  ascending = ascending;
  exactly = λ need. (
    λ there. (let parts = (exactly need).0 there in (parts.0, λ broken. parts.1 ((are.exactly need).1 broken))),
    λ parts. (exactly need).1 (parts.0, λ there. parts.1 ((are.exactly need).0 there)),
  );
}
