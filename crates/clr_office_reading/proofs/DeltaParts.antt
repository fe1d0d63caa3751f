-- A workspace is its head and its contents.
use Rattle.std.proofs.Common.{◌≡◌, List, Result, Ok, Err, refl, sym}
use Rattle.serde_json.specs.Data.{Data}
use Rattle.clr_rows.specs.declared.tables.TableDef.{TableDef}
use Rattle.clr_deltas.specs.Differences.{Differences}
use Rattle.clr_deltas.specs.Deltas.{Delta}
use Rattle.clr_deltas.specs.declared.stored_marks.StoredMark.{StoredMark}
use Rattle.clr_rule_text.specs.declared.faults.TextFault.{TextFault}
use Rattle.clr_readings.specs.Readings.{◌>>=◌, Fails}
use Rattle.clr_rule_text.specs.Fields.{text_lacks_memory}
use Rattle.clr_readings.proofs.FaultTurns.{fails_with}
use Rattle.clr_rule_text.specs.declared.formats.Format.{Format}
use Rattle.clr_office_reading.specs.declared.workspaces.Head.{Head}
use Rattle.clr_office_reading.specs.Workspaces.{contents_of, head_of, delta_of, marks_of, under_one_of}
use Rattle.clr_office_reading.specs.Patches.{differences_at}

-- the delta of a head and of contents
abbrev pub joined : Head → Differences × Differences × List StoredMark → Delta
joined head c = record { name = head.name; parent = head.parent; base = c.0; current = c.1; marks = c.2; kept = head.kept }

regrouped : (head : Head) (base rows : Result Differences TextFault) (marks : Result (List StoredMark) TextFault)
    → base >>= (λ b. rows >>= λ r. marks >>= λ m. Ok (joined head (b, r, m)))
    ≡ (base >>= λ b. rows >>= λ r. marks >>= λ m. Ok (b, r, m)) >>= λ c. Ok (joined head c)
regrouped head (Err e) rows marks = refl
regrouped head (Ok b) (Err e) marks = refl
regrouped head (Ok b) (Ok r) (Err e) = refl
regrouped head (Ok b) (Ok r) (Ok m) = refl

-- behind its head a workspace has its contents
pub behind_head : (format : Format) (tables : List TableDef) (earlier : List Delta) (d : Data) (read head : Head) → head_of format d ≡ Ok read
    → under_one_of earlier read ≡ Ok head
    → delta_of format tables earlier d ≡ contents_of tables d >>= λ c. Ok (joined head c)
unfolding delta_of contents_of
behind_head format tables earlier d read head read_is head_is =
    rw (read_is, head_is) (regrouped head (differences_at _ tables d) (differences_at _ tables d) (marks_of tables d))

pub fails_behind : (e : TextFault) (format : Format) (tables : List TableDef) (earlier : List Delta) (d : Data) (read head : Head) → head_of format d ≡ Ok read
    → under_one_of earlier read ≡ Ok head
    → Fails text_lacks_memory e (contents_of tables d) → Fails text_lacks_memory e (delta_of format tables earlier d)
fails_behind e format tables earlier d read head read_is head_is failed =
    fails_with text_lacks_memory e (contents_of tables d) (λ c. Ok (joined head c)) _ failed
    (sym (behind_head format tables earlier d read head read_is head_is))
