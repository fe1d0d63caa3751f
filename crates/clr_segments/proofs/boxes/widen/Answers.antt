use Rattle.clr_segments.proofs.boxes.widen.Goals as goal

pub returns : goal.returns
returns c = λ i. record { least = (c.box_of.ensures.value i).least; most = (c.box_of-2.ensures.value i).most }
