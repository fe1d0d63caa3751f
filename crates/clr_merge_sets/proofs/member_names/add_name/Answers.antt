use Rattle.std.proofs.Common.{map, slice_get}
use Rattle.clr_merge_sets.proofs.ListLemmas.{none_added, one_added, read_at, read_past}
use Rattle.clr_merge_sets.proofs.member_names.add_name.Goals as goal

pub returns-in_default : goal.returns-in_default
returns-in_default c =
    none_added (map (λ name. name.now) c.args.list.now.items) (slice_get (map (λ name. name.now) c.args.names.now) c.args.position)
    (read_past c.args.names.now c.args.position c.in_default.ensures.lookup.3)

pub returns : goal.returns
returns c =
    let name = c.in-Some.name.now in
    one_added (λ name. name.now) c.args.list.now.items c.push.new.self.items name (slice_get (map (λ name. name.now) c.args.names.now) c.args.position)
    c.in_ok-push.ensures.items (read_at c.args.names.now c.args.position name c.in-Some.ensures.lookup.3.0 (c.in-Some.ensures.lookup.3.1 name))
