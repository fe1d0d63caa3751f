-- The merge set that a certificate names, who goes before whom in it, and the entries that it has.
use Rattle.std.specs.Prelude.{List, map}
use Rattle.clr_cert.specs.declared.certificates.Certificate.{Certificate}
use Rattle.clr_cert.specs.declared.certificates.Entry.{Entry}
use Rattle.clr_cert.specs.declared.certificates.Precedence.{Precedence}
use Rattle.clr_needs.specs.Covers.{Entry as Witnesses}
use Rattle.clr_workspaces.specs.Marks.{Name}
use Rattle.clr_steps.specs.Quiet.{MergeSet}
use Rattle.clr_ordered_clearance.specs.MergeSets.{OrderedMergeSet}

abbrev pub merge_set_of : Certificate → MergeSet
merge_set_of c = record { root = c.root; members = c.members }

-- the names of precedences, of each pair of which the first goes before the second
abbrev pub pairs_in : List Precedence → List (Name × Name)
pairs_in before = map (λ (p : Precedence). (p.earlier, p.later)) before

-- the merge set of a certificate, with who goes before whom
abbrev pub ordered_merge_set_of : Certificate → OrderedMergeSet
ordered_merge_set_of c = record { merge_set = merge_set_of c; before = pairs_in c.before }

-- a need with the versions that are to cover it
abbrev pub witnesses_of : Entry → Witnesses
witnesses_of e = (e.need, e.one, e.two)

abbrev pub entries_in : List Entry → List Witnesses
entries_in entries = map witnesses_of entries
