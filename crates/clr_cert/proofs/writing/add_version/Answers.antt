use Rattle.std.proofs.Common.{rules, ◌≡◌, ◌++◌, codes, append_assoc}
use Rattle.std.specs.Fmt.{signed_decimal}
use Rattle.clr_rows.specs.Schemas.{name_of_table}
use Rattle.clr_rows.proofs.BeginningLaws.{last_begun, some_begun}
use Rattle.clr_cert.specs.Texts.{fresh_word}
use Rattle.clr_cert.proofs.writing.add_version.Goals as goal

pub returns-in_err-extend_from_slice-4-clause-begun : goal.returns-in_err-extend_from_slice-4-clause-begun
returns-in_err-extend_from_slice-4-clause-begun c =
    let cell = c.args.version.cell in
    let name = name_of_table c.args.schema.now cell.table in
    let front = name ++ (codes "/" ++ signed_decimal cell.key) in
    let named : c.as_bytes.result.now ≡ name = search rules in
    let digits : c.as_bytes-2.result.now ≡ signed_decimal cell.key = search rules in
    let is : c.extend_from_slice-4.new.self.items ≡ c.args.text.now.items ++ front =
    rw (
      c.in_err-extend_from_slice-4.ensures.items,
      c.in_ok-extend_from_slice-3.ensures.items,
      c.in_ok-extend_from_slice-2.ensures.items,
      c.in_ok-extend_from_slice.ensures.items,
      named,
      digits,
    ) (simp append_assoc) in
    some_begun _ _ _ front (codes "/" ++ fresh_word c.args.version.fresh) is (simp append_assoc)

pub returns-clause-begun : goal.returns-clause-begun
returns-clause-begun c =
    let cell = c.args.version.cell in
    let name = name_of_table c.args.schema.now cell.table in
    let word = fresh_word c.args.version.fresh in
    let front = name ++ (codes "/" ++ (signed_decimal cell.key ++ codes "/")) in
    let named : c.as_bytes.result.now ≡ name = search rules in
    let digits : c.as_bytes-2.result.now ≡ signed_decimal cell.key = search rules in
    let worded : c.as_bytes-3.result.now ≡ word = search rules in
    let before : c.extend_from_slice-4.new.self.items ≡ c.args.text.now.items ++ front =
    rw (
      c.in_ok-extend_from_slice-4.ensures.items,
      c.in_ok-extend_from_slice-3.ensures.items,
      c.in_ok-extend_from_slice-2.ensures.items,
      c.in_ok-extend_from_slice.ensures.items,
      named,
      digits,
    ) (simp append_assoc) in
    last_begun _ _ _ c.extend_from_slice-4.new.self.items _ front word (rw worded at c.extend_from_slice-5.ensures.items) before (simp append_assoc)
