-- What is said of the place of a record.
use Rattle.std.proofs.Common.{◌≡◌, ◌≢◌, ℕ, suc, ◌+◌, List, [], Bool, Option, Some, None, sym, subst, arith}
use Rattle.std.specs.Prelude.{MatchOption, slice_get}
use Rattle.std.specs.Option.{option_and_then}
use Rattle.clr_rows.specs.declared.tables.TableDef.{TableDef}
use Rattle.clr_records.specs.Records.{records_in}
use Rattle.clr_cert.specs.declared.faults.CertFault.{CertFault}
use Rattle.clr_scripts.specs.declared.faults.RecordFault.{RecordFault}
use Rattle.clr_record_explanations.specs.declared.roles.Role.{Role}
use Rattle.clr_record_explanations.specs.declared.roles.Role.TheVariants.{Text, Step, Edit, ShortApply}
use Rattle.clr_record_explanations.specs.CertificateFaults.{IsFaultOfCertificate}
use Rattle.clr_record_explanations.specs.ScriptFaults.{IsFaultAs, IsFaultOfScript}
use Rattle.clr_record_explanations.specs.FirstFaults.{RecordFields, record_in, record_numbered}
use Rattle.clr_record_explanations.specs.RecordRemarks.{IsRecordPlace, record_place}

abbrev record_of : Option (List RecordFields) → ℕ → Option RecordFields
record_of rows number = option_and_then (λ r. record_numbered r number) rows

numbered_in : (rows : Option (List RecordFields)) (number : ℕ) (fields : RecordFields) (said : List ℕ) → Some fields ≡ record_of rows number →
    said ≡ record_place number → MatchOption rows (said ≡ []) (λ r. said ≡ record_place number)
numbered_in None number fields said is told = absurd cc
numbered_in (Some rows) number fields said is told = told

-- a record that the text has is told by its number
pub numbered : (text : List ℕ) (number : ℕ) (fields : RecordFields) (said : List ℕ) → Some fields ≡ record_in text number → said ≡ record_place number →
    IsRecordPlace text number said
numbered text = numbered_in (records_in text)

-- a record at a place has its fields
there : (rows : List RecordFields) (at number : ℕ) (fields : RecordFields) → number ≡ at + 1 → slice_get rows at ≡ Some fields →
    record_numbered rows number ≢ None
there rows at number fields is found none =
    let next : number ≡ suc at = omega arith in
    let read : slice_get rows at ≡ None = subst (λ n. record_numbered rows n ≡ None) next none in
    absurd cc

-- certificates -------------------------------------------------------------------------------

unnumbered_in : (tables : List TableDef) (rows : Option (List RecordFields)) (rooted : Bool) (number : ℕ) (e : CertFault) (said : List ℕ)
    → None ≡ record_of rows number → IsFaultOfCertificate tables rows rooted number e → said ≡ []
    → MatchOption rows (said ≡ []) (λ r. said ≡ record_place number)
unnumbered_in tables None rooted number e said is fault told = told
unnumbered_in tables (Some rows) rooted number e said is (at, next, root, first) told =
    absurd (there rows at number first.there.0 next first.there.1 (sym is))

pub unnumbered_entry : (tables : List TableDef) (text : List ℕ) (rooted : Bool) (number : ℕ) (e : CertFault) (said : List ℕ)
    → None ≡ record_in text number → IsFaultOfCertificate tables (records_in text) rooted number e → said ≡ [] → IsRecordPlace text number said
unnumbered_entry tables text = unnumbered_in tables (records_in text)

-- scripts ------------------------------------------------------------------------------------

at_record : (tables : List TableDef) (rows : List RecordFields) (at number : ℕ) (role : Role) (e : RecordFault) → number ≡ at + 1 →
    IsFaultAs role tables rows at e → record_numbered rows number ≢ None
at_record tables rows at number Text e next fault = absurd fault
at_record tables rows at number Step e next fault = there rows at number fault.1.there.0 next fault.1.there.1
at_record tables rows at number Edit e next fault = there rows at number fault.1.there.0 next fault.1.there.1
at_record tables rows at number ShortApply e next fault = there rows at number fault.1.there.0 next fault.1.there.1

step_unnumbered_in : (tables : List TableDef) (rows : Option (List RecordFields)) (role : Role) (number : ℕ) (e : RecordFault) (said : List ℕ)
    → None ≡ record_of rows number → IsFaultOfScript tables rows role number e → said ≡ [] → MatchOption rows (said ≡ []) (λ r. said ≡ record_place number)
step_unnumbered_in tables None role number e said is fault told = told
step_unnumbered_in tables (Some rows) role number e said is (at, next, fault) told = absurd (at_record tables rows at number role e next fault (sym is))

pub unnumbered_step : (tables : List TableDef) (text : List ℕ) (role : Role) (number : ℕ) (e : RecordFault) (said : List ℕ)
    → None ≡ record_in text number → IsFaultOfScript tables (records_in text) role number e → said ≡ [] → IsRecordPlace text number said
unnumbered_step tables text = step_unnumbered_in tables (records_in text)
