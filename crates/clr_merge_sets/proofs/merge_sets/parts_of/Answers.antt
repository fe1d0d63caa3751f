use Rattle.std.proofs.Common.{◌∙◌, ap, arith, length, subst, sym}
use Rattle.std.proofs.lemmas.List.{length-map}
use Rattle.clr_finders.specs.Sharing.{IsSettledFor}
use Rattle.clr_steps.specs.Quiet.{root_content}
use Rattle.clr_steps.specs.Readings.{changes_in}
use Rattle.clr_merge_sets.specs.MergeSetNames.{merge_set}
use Rattle.clr_merge_sets.proofs.MemberLemmas.{few_members}
use Rattle.clr_merge_sets.proofs.MergeSetLemmas.{kept_root, no_fault, rows_above}
use Rattle.clr_merge_sets.proofs.merge_sets.parts_of.Goals as goal

pub root_rows-rows-requires : goal.root_rows-rows-requires
root_rows-rows-requires g c =
    kept_root c.args.office.now (merge_set c.args.root.now (g.N.NameList.names c.args.members.now)) c.requires.named

pub first_in_conflict-requires-clause-above : goal.first_in_conflict-requires-clause-above
first_in_conflict-requires-clause-above g c =
    let s = merge_set c.args.root.now (g.N.NameList.names c.args.members.now) in
    rows_above c.args.office.now s c.requires.named c.root_rows-rows.result.0 c.root_rows-rows.ensures.rows

pub invariant_of-result : goal.invariant_of-result
invariant_of-result g c =
    let o = c.args.office.now in
    let names = g.N.NameList.names c.args.members.now in
    let s = merge_set c.args.root.now names in
    let few = few_members o s (no_fault o s c.requires.named c.in_default.ensures) c.len-sound.ensures.sound in
    let long = sym (length-map c.args.sets.items (λ set. set.now)) ∙ ap length c.requires.changed ∙ length-map names (changes_in o) in
    record { few = omega (arith, few, long) }

pub returns-clause-parts : goal.returns-clause-parts
unfolding root_content
returns-clause-parts g c =
    let o = c.args.office.now in
    record {
      free = no_fault o (merge_set c.args.root.now (g.N.NameList.names c.args.members.now)) c.requires.named c.in_default.ensures;
      rows = c.root_rows-rows.ensures.rows;
      filed = subst (IsSettledFor c.root_rows-rows.result.1.now.settled o.book) (sym c.root_rows-rows.ensures.rows) c.root_rows-rows.ensures.filed;
      sets = c.requires.changed;
    }
