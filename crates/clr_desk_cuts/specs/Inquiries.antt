-- What is asked by an inquiry.
use Rattle.std.specs.Prelude.{map}
use Rattle.clr_desk_cuts.specs.declared.inquiries.Inquiry.{Inquiry}
use Rattle.clr_desk_cuts.specs.Reach.{Asked}

abbrev pub asked_by : Inquiry → Asked
asked_by inquiry = record {
  office = inquiry.opened.now.office;
  listed = inquiry.opened.now.listed;
  options = inquiry.options;
  members = map (λ name. name.now) inquiry.names.now;
  table = inquiry.table;
}
