use Rattle.std.proofs.Common.{◌≤◌, length, map, refl, arith}
use Rattle.std.proofs.lemmas.List.{length-map}
use Rattle.clr_deltas.specs.NamedDeltas.{stored_delta}
use Rattle.clr_workspaces.specs.declared.limits.TheConstants.{MOST_WORKSPACES}
use Rattle.clr_office_reading.specs.Offices.{office_read}
use Rattle.clr_office_texts.specs.Drafts.{whole_office}
use Rattle.clr_office_texts.proofs.Standing.{too_many}
use Rattle.clr_office_texts.proofs.WholeFits.{all_fit}
use Rattle.clr_office_texts.proofs.reading.draft_text.Goals as goal

pub returns-then-len-ge-MOST_WORKSPACES-clause-draft : goal.returns-then-len-ge-MOST_WORKSPACES-clause-draft
returns-then-len-ge-MOST_WORKSPACES-clause-draft c =
    let deltas = map stored_delta c.args.read.workspaces.items in
    let count = length-map c.args.read.workspaces.items stored_delta in
    let many : MOST_WORKSPACES ≤ length deltas = omega (arith, count, c.len.ensures, c.if-len-ge-MOST_WORKSPACES.true) in
    too_many (whole_office (office_read c.args.read)) c.args.read.live deltas refl refl many

pub draft_of_deltas-requires : goal.draft_of_deltas-requires
draft_of_deltas-requires c =
    record {
      book = c.requires.book;
      rows = record {
        live = c.requires.live;
        workspaces = all_fit c.args.read.schema c.args.read.live (map stored_delta c.args.read.workspaces.items)
            c.requires.live c.requires.deltas;
      };
    }
