use Rattle.clr_cut_streams.proofs.PassLaws.{both_told, nothing_shown}
use Rattle.clr_cut_streams.proofs.laws.passes_show_a_cut.Goals as goal

pub returns : goal.returns
returns c = record {
  tables = λ aim rules root sets listed tables whole passes less fits rows apart told nothing.
      nothing_shown aim rules root sets listed tables whole passes less fits rows apart told nothing;
  parts = λ aim s listed tables table one other text more_text notes more_notes a b apart first second.
      both_told aim s table listed tables one other text more_text notes more_notes a b apart first second;
}
