use Rattle.std.proofs.Common.{◌∙◌, ap, arith, length, map, refl, sym}
use Rattle.std.specs.Option.{option_map}
use Rattle.std.proofs.lemmas.List.{length-map}
use Rattle.std.proofs.lemmas.Option.{slice_get-map, slice_get_read}
use Rattle.clr_rows.specs.Contents.{least_and_count}
use Rattle.clr_steps.specs.Readings.{changes_in}
use Rattle.clr_merge_sets.proofs.MergeSetLemmas.{conflict_found, conflict_later, conflict_nowhere, conflicts_are, named_at}
use Rattle.clr_merge_sets.proofs.merge_sets.first_in_conflict.Goals as goal

pub returns-in-Some : goal.returns-in-Some
returns-in-Some g c =
    let o = c.args.office.now in
    let names = g.N.NameList.names c.args.members.now in
    let sets = c.args.sets.now in
    let at = c.loop-member.member in
    let set = c.index-sets-member.result in
    let read = slice_get-map (λ s. s.now) sets at ∙ ap (option_map (λ s. s.now)) (slice_get_read sets (length sets) at set refl c.loop-member-test.true
    c.index-sets-member.is) in
    let found = named_at o names (map (λ s. s.now) sets) at set.now c.requires.changed read in
    conflict_found o names at found.0 (c.in-Some.cell, c.in-Some.count) found.1
    (c.in-Some.ensures ∙ ap least_and_count (conflicts_are o names c.args.rows.now at found.0 set.now c.requires.above found.1 found.2))
    c.loop-member.invariant

pub loop-member-preserved : goal.loop-member-preserved
loop-member-preserved g c =
    let o = c.args.office.now in
    let names = g.N.NameList.names c.args.members.now in
    let sets = c.args.sets.now in
    let at = c.loop-member.member in
    let set = c.index-sets-member.result in
    let read = slice_get-map (λ s. s.now) sets at ∙ ap (option_map (λ s. s.now)) (slice_get_read sets (length sets) at set refl c.loop-member-test.true
    c.index-sets-member.is) in
    let found = named_at o names (map (λ s. s.now) sets) at set.now c.requires.changed read in
    conflict_later o names at found.0 found.1
    (c.in_default.ensures ∙ ap least_and_count (conflicts_are o names c.args.rows.now at found.0 set.now c.requires.above found.1 found.2))
    c.loop-member.invariant

pub returns : goal.returns
returns g c =
    let o = c.args.office.now in
    let names = g.N.NameList.names c.args.members.now in
    let long = sym (length-map c.args.sets.now (λ s. s.now)) ∙ ap length c.requires.changed ∙ length-map names (changes_in o) in
    conflict_nowhere o names c.loop-member.member (omega (arith, long, c.loop-member-test.false)) c.loop-member.invariant
