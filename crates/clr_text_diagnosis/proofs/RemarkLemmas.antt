-- A remark stands within its text.
use Rattle.std.proofs.Common.{◌≤◌, ℕ, List, length, inl, inr}
use Rattle.clr_rule_text.specs.declared.faults.TextFault.{TextFault}
use Rattle.clr_text_positions.specs.declared.remarks.Remark.{Remark}
use Rattle.clr_text_diagnosis.specs.Whys.{IsRemark, IsRemarkedOfficeFault}

within : (text : List ℕ) (e : TextFault) (remark : Remark) → IsRemark text e remark → remark.offset ≤ length text
within text e remark (inl (read, (at, found, is))) = is.within
within text e remark (inr is) = is.within

pub is_within : (text : List ℕ) (e : TextFault) (remark : Remark) → IsRemarkedOfficeFault text e remark → remark.offset ≤ length text
is_within text e remark is = within text e remark is.1
