-- What is said of a text by the value that it is, or where it is none.
use Rattle.std.proofs.Common.{◌≡◌, ℕ, List, [], Some, None, refl, string_bytes, subst, sym}
use Rattle.std.proofs.lemmas.Str.{is_utf8-from_IsUtf8}
use Rattle.std.specs.Str.{IsUtf8}
use Rattle.std.specs.Prelude.{MatchOption, option_map}
use Rattle.serde_json.specs.Data.{Data}
use Rattle.serde_json.specs.Read.{read}
use Rattle.clr_rule_text.specs.declared.faults.TextFault.{TextFault}
use Rattle.clr_hints.specs.JsonFaults.{IsJsonFault, told}
use Rattle.clr_hints.specs.declared.json_faults.JsonFault.{JsonFault}
use Rattle.clr_faults.specs.Spots.{value_in}
use Rattle.clr_faults.specs.declared.spots.FaultyItem.{FaultyItem}
use Rattle.clr_text_positions.specs.declared.remarks.Remark.{Remark}
use Rattle.clr_explanations.specs.Remarks.{IsJsonRemark, IsRemarkIn, told_in}

pub said_in : (text : List ℕ) (d : Data) (e : TextFault) (at : FaultyItem) (remark : Remark) → value_in text ≡ Some d → IsRemarkIn text d e at remark →
    MatchOption (value_in text) (IsJsonRemark text remark) (λ x. IsRemarkIn text x e at remark)
said_in text d e at remark is said = subst (λ o. MatchOption o (IsJsonRemark text remark) (λ x. IsRemarkIn text x e at remark)) (sym is) said

pub said_of_no_value : (text : List ℕ) (e : TextFault) (at : FaultyItem) (remark : Remark) → value_in text ≡ None → IsJsonRemark text remark →
    MatchOption (value_in text) (IsJsonRemark text remark) (λ x. IsRemarkIn text x e at remark)
said_of_no_value text e at remark is said = subst (λ o. MatchOption o (IsJsonRemark text remark) (λ x. IsRemarkIn text x e at remark)) (sym is) said

parts_told : (fault : JsonFault) (remark : Remark) → remark.offset ≡ fault.offset → string_bytes remark.sentence ≡ fault.sentence.now
    → option_map string_bytes remark.hint ≡ option_map (λ hint. hint.now) fault.hint → told fault ≡ told_in remark
parts_told fault remark offset sentence hint = rw (offset, sentence, hint) refl

-- a remark of these parts says where a text stops being JSON
pub json_told : (text : List ℕ) (line column : ℕ) (fault : JsonFault) (remark : Remark) → IsJsonFault text line column (told fault)
    → string_bytes remark.place ≡ [] → remark.offset ≡ fault.offset → string_bytes remark.sentence ≡ fault.sentence.now
    → option_map string_bytes remark.hint ≡ option_map (λ hint. hint.now) fault.hint → IsJsonRemark text remark
json_told text line column fault remark is bare offset sentence hint = record {
  place = bare;
  line = line;
  column = column;
  told = subst (λ t. IsJsonFault text line column t) (parts_told fault remark offset sentence hint) is;
}

pub value_is : (text : List ℕ) (d : Data) → IsUtf8 text → read text ≡ Some d → value_in text ≡ Some d
unfolding value_in
value_is text d utf8 is = rw (is_utf8-from_IsUtf8 text utf8, is) refl
