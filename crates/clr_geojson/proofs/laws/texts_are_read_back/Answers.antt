use Rattle.std.proofs.Common.{ap, ◌∙◌, sym, append-nil, arith}
use Rattle.json.specs.Json.{document, string}
use Rattle.json.specs.Print.{print_from, quoted}
use Rattle.json.proofs.Printed.Trees.{document-print}
use Rattle.clr_geojson.proofs.laws.texts_are_read_back.Goals as goal

pub returns : goal.returns
unfolding print_from
returns c = λ text. ap document (sym (append-nil (quoted text))) ∙ document-print (string text) tt (omega arith)
