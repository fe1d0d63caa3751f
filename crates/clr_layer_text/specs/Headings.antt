-- Where the fields of rows stand, as a clause sees it.
use Rattle.clr_layer_text.specs.declared.headings.Headings.{Headings}
use Rattle.clr_layer_text.specs.Layers.{Fields}

abbrev pub seen_headings : Headings → Fields
seen_headings h = record { width = h.width; key = h.key; columns = h.columns.items; shape = h.shape }
