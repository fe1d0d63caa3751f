-- The text that is written of an office: compact JSON of format 3, or of format 4 where it breaks a need, told of contents and not of how they are kept.
use Rattle.std.specs.Prelude.{ℕ, List, map}
use Rattle.serde_json.specs.Written.{compact_text}
use Rattle.clr_rules.specs.declared.needs.Broken.{Broken}
use Rattle.clr_steps.specs.Offices.{Office}
use Rattle.clr_engine.specs.Drafts.{delta_in}
use Rattle.clr_office_reading.specs.Offices.{OfficeText}
use Rattle.clr_office_writing.specs.OfficeData.{office_data}
use Rattle.clr_office_texts.specs.BrokenNow.{broken_now}

-- the text of an office that names some needs as known
abbrev pub text_naming : List Broken → Office → OfficeText
text_naming known o = record { schema = o.schema; book = o.book; known = known; live = o.live; deltas = map (delta_in o) o.workspaces }

-- the text that names just the needs that are broken
abbrev pub text_of : Office → OfficeText
text_of o = text_naming (broken_now o) o

-- the bytes of the text
abbrev pub bytes_of : Office → List ℕ
bytes_of o = compact_text (office_data (text_of o))
