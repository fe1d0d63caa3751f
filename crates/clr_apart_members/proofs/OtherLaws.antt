-- Members beside those of a cut, by a test that takes each row found for groups.
use Rattle.std.proofs.Common.{◌∙◌, inr, sym}
use Rattle.std.proofs.lemmas.Bool.{false≢true}
use Rattle.clr_needs.specs.Settings.{held_row}
use Rattle.clr_cuts.specs.Cuts.{with_root}
use Rattle.clr_cuts.specs.Laws.{OthersLaw}
use Rattle.clr_cuts.specs.Others.{with_members}
use Rattle.clr_reach.specs.Laws.{FoundForGroupsLaw}
use Rattle.clr_apart_members.specs.Laws as apart

-- none of the others' rows is of a tie, since it would be found
pub others : OthersLaw → FoundForGroupsLaw → apart.OthersLaw
others independent found c rows chosen test cut takes none x y is_x is_y =
    independent c rows chosen (record {
      changed = cut.changed;
      tied = cut.tied;
      none = λ v l z is names other tie.
          false≢true (sym (none v l (record { is = is; member = z; names = names; other = other }))
          ∙ takes (held_row v l) (found (with_root (with_members c chosen) rows) (held_row v l) cut.fits (inr tie)));
    }) x y is_x is_y
