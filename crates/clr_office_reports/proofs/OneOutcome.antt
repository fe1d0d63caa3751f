-- What is asked of an office has one outcome alone, memory aside.
use Rattle.std.proofs.Common.{◌≡◌, ◌∙◌, Bool, false, sym}
use Rattle.clr_office_reports.specs.Outcomes.{Outcome}

-- two outcomes in which memory was found are one
abbrev pub IsOne : (Outcome → Type 0) → Type 0
IsOne Is = (all other : Outcome) → Is all → Is other → all.lost ≡ false → other.lost ≡ false → all ≡ other

abbrev pub lost_of : Outcome → Bool
lost_of all = all.lost

pub one_equal : (value : Outcome) → IsOne (λ all. all ≡ value)
one_equal value all other one two found found_other = one ∙ sym two
