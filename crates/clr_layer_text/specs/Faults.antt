-- Which fault of a layer says that memory ran out.
use Rattle.std.specs.Prelude.{Bool, true, false}
use Rattle.clr_layer_text.specs.declared.faults.LayerFault.{LayerFault}
use Rattle.clr_layer_text.specs.declared.faults.LayerFault.TheVariants.{OutOfMemory}

abbrev pub layer_lacks_memory : LayerFault → Bool
layer_lacks_memory OutOfMemory = true
layer_lacks_memory e = false
