use Rattle.std.proofs.Common.{inl}
use Rattle.clr_text_diagnosis.proofs.texts.why_script.Goals as goal

pub returns-in_ok-lines-in-Err : goal.returns-in_ok-lines-in-Err
returns-in_ok-lines-in-Err c = record { why = inl c.in_ok-lines-in-Err.ensures }
