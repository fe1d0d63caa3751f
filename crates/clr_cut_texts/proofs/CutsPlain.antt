-- The text of a cut nests little, has no floats, and is marked.
use Rattle.std.proofs.Common.{◌≡◌, ◌≤◌, true, false, List, [], ◌∷◌, arith, refl}
use Rattle.serde_json.specs.Data.{depth}
use Rattle.serde_json.specs.Written.{has_float}
use Rattle.clr_rules.specs.declared.needs.Broken.{Broken}
use Rattle.clr_office_reading.specs.Offices.{OfficeText}
use Rattle.clr_office_writing.specs.OfficeData.{office_data}
use Rattle.clr_office_writing.proofs.Plainness.{plain}
use Rattle.clr_cut_texts.specs.CutTexts.{cut_data}
use Rattle.clr_cut_texts.specs.Laws.{IsPlain, MarkLaw}
use Rattle.clr_cut_texts.specs.Marks.{is_marked}

-- a text of an office is a text of a cut but for its mark and its format, neither of which nests or is a float
cut_depth : (o : OfficeText) → depth (cut_data o) ≤ depth (office_data o)
unfolding cut_data office_data
cut_depth o = omega arith

cut_float : (o : OfficeText) → has_float (cut_data o) ≡ has_float (office_data o)
unfolding cut_data office_data
cut_float o = by o.known
  where
    by : (known : List Broken) → has_float (cut_data (record o { known = known })) ≡ has_float (office_data (record o { known = known }))
    by [] = refl
    by (b ∷ bs) = refl

pub cuts_plain : IsPlain
cuts_plain o = let office = plain o in (omega (arith, cut_depth o, office.0), rw (cut_float o) office.1)

office_is_unmarked : (o : OfficeText) → is_marked (office_data o) ≡ false
unfolding office_data
office_is_unmarked o = by o.known
  where
    by : (known : List Broken) → is_marked (office_data (record o { known = known })) ≡ false
    by [] = refl
    by (b ∷ bs) = refl

cut_is_marked : (o : OfficeText) → is_marked (cut_data o) ≡ true
unfolding cut_data
cut_is_marked o = refl

pub cuts_marked : MarkLaw
cuts_marked o = (cut_is_marked o, office_is_unmarked o)
