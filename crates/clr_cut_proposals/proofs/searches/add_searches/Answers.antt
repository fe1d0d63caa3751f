use Rattle.std.proofs.Common.{map}
use Rattle.std.specs.List.{flat_map}
use Rattle.clr_cut_proposals.specs.RoleModels.{role_of, table_of}
use Rattle.clr_cut_proposals.specs.Searches.{search_text}
use Rattle.clr_cut_proposals.proofs.Pieces.{text_of_mapped}
use Rattle.clr_cut_proposals.proofs.searches.add_searches.Goals as goal

pub loop-version-preserved : goal.loop-version-preserved
loop-version-preserved c =
    text_of_mapped (λ v. flat_map (search_text c.args.target.now c.args.schema.now (table_of c.args.versions) v) (map role_of c.args.rows.now)) role_of
    c.args.from.now c.loop-version.version-index c.version-item.result _ _ _ c.loop-version-test.true c.version-item.is c.loop-version.invariant
    c.in_ok-add_searches_from.ensures
