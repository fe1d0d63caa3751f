use Rattle.std.proofs.Common.{ap, sym, subst, refl, ◌∙◌, List, map}
use Rattle.std.proofs.lemmas.List.{get_or-set_same}
use Rattle.clr_deltas.specs.declared.stored_marks.StoredMark.{StoredMark}
use Rattle.clr_deltas.specs.Deltas.{Delta, no_delta, delta_at, delta_changed, whole_mark, EachMarkStores, AreOwnOver}
use Rattle.clr_deltas.proofs.Answered.{on_ok}
use Rattle.clr_deltas.proofs.NamedDeltaLemmas.{changed, named_at}
use Rattle.clr_deltas.proofs.workspace_maps.WorkspaceMap.store_saved_rows.Goals as goal

pub returns-clause-others : goal.returns-clause-others
returns-clause-others c =
    let k = c.pair_mut-delta.result.0.now in let v = c.pair_mut-delta.result.1.now in
    let new = c.store_in_each.new.marks.items in
    let set = changed c.self.inside.map.entries c.args.self.now c.args.at k v _ (λ (l : Delta). record l { marks = new }) c.self.view_is
    c.pair_mut-delta.ensures.value refl in
    let is = ap (λ (ls : List Delta). (delta_at ls c.args.at).marks) set
    ∙ ap (λ (l : Delta). l.marks) (get_or-set_same c.args.self.now c.args.at _ no_delta c.requires) in
    set ∙ ap (λ (ms : List StoredMark). delta_changed c.args.self.now c.args.at (λ l. record l { marks = ms })) (sym is)

pub returns-clause-seen : goal.returns-clause-seen
returns-clause-seen c = λ base row.
    let k = c.pair_mut-delta.result.0.now in let v = c.pair_mut-delta.result.1.now in
    let new = c.store_in_each.new.marks.items in
    let set = changed c.self.inside.map.entries c.args.self.now c.args.at k v _ (λ (l : Delta). record l { marks = new }) c.self.view_is
    c.pair_mut-delta.ensures.value refl in
    let is = ap (λ (ls : List Delta). (delta_at ls c.args.at).marks) set
    ∙ ap (λ (l : Delta). l.marks) (get_or-set_same c.args.self.now c.args.at _ no_delta c.requires) in
    let was = ap (λ (l : Delta). l.marks) (named_at c.self.inside.map.entries c.args.self.now c.args.at (k, v) c.self.view_is c.pair_mut-delta.ensures.value) in
    ap (map (whole_mark base)) is ∙ c.store_in_each.ensures.seen base row ∙ ap (map (whole_mark base)) (sym was)

pub returns-clause-is_stored : goal.returns-clause-is_stored
returns-clause-is_stored c =
    let k = c.pair_mut-delta.result.0.now in let v = c.pair_mut-delta.result.1.now in
    let new = c.store_in_each.new.marks.items in
    let set = changed c.self.inside.map.entries c.args.self.now c.args.at k v _ (λ (l : Delta). record l { marks = new }) c.self.view_is
    c.pair_mut-delta.ensures.value refl in
    let is = ap (λ (ls : List Delta). (delta_at ls c.args.at).marks) set
    ∙ ap (λ (l : Delta). l.marks) (get_or-set_same c.args.self.now c.args.at _ no_delta c.requires) in
    on_ok c.store_in_each.result _ _ (λ is_stored. subst (λ (ms : List StoredMark). EachMarkStores ms c.args.cell) (sym is) is_stored) c.store_in_each.ensures.is_stored

pub returns-clause-elsewhere : goal.returns-clause-elsewhere
returns-clause-elsewhere c = λ q apart base own.
    let k = c.pair_mut-delta.result.0.now in let v = c.pair_mut-delta.result.1.now in
    let new = c.store_in_each.new.marks.items in
    let set = changed c.self.inside.map.entries c.args.self.now c.args.at k v _ (λ (l : Delta). record l { marks = new }) c.self.view_is
    c.pair_mut-delta.ensures.value refl in
    let is = ap (λ (ls : List Delta). (delta_at ls c.args.at).marks) set
    ∙ ap (λ (l : Delta). l.marks) (get_or-set_same c.args.self.now c.args.at _ no_delta c.requires) in
    let was = ap (λ (l : Delta). l.marks) (named_at c.self.inside.map.entries c.args.self.now c.args.at (k, v) c.self.view_is c.pair_mut-delta.ensures.value) in
    subst (AreOwnOver base q) (sym is) (c.store_in_each.ensures.others q apart base (subst (AreOwnOver base q) was own))
