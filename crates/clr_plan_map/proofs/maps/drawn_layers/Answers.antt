use Rattle.clr_plan_map.proofs.maps.drawn_layers.Goals as goal

pub returns : goal.returns
returns c = (c.push-4.new.self.items, c.in_ok-turns.turns, c.in_ok-turns.ensures, c.in_ok-push-5.ensures.items)
