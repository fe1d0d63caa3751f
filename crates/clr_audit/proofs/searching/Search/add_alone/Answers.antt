use Rattle.clr_rows.specs.Held.{held_of}
use Rattle.clr_audit.proofs.NeedLaws.{alone_gains}
use Rattle.clr_audit.proofs.searching.Search.add_alone.Goals as goal

pub returns-clause-ok : goal.returns-clause-ok
returns-clause-ok c = alone_gains c.args.self.now c.in_ok-spots.spots (held_of c.args.first) c.args.list.now.items c.add_one_if_broken.new.list.items
    (record { fit = c.requires.fit; filed = c.requires.filed; list = c.in_ok-spots.ensures.list; wide = c.in_ok-spots.ensures.wide }) c.requires.one
    c.in_ok-add_one_if_broken.ensures.ok
