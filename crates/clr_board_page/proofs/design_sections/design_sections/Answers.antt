use Rattle.std.proofs.Common.{◌≡◌, ◌∙◌, ◌+◌, ◌<◌, ◌∷◌, [], ◌++◌, ℕ, List, Some, Bor, ap, arith, get_or, length, map, refl, subst, sym, take}
use Rattle.std.specs.List.{enumerate_from}
use Rattle.std.specs.Option.{option_map}
use Rattle.std.proofs.lemmas.List.{length-map, length-take-le, map-append}
use Rattle.std.proofs.lemmas.Option.{slice_get-get_or, slice_get-map, slice_get_read}
use Rattle.clr_workspaces.specs.Marks.{Name}
use Rattle.clr_steps.specs.Readings.{changes_in}
use Rattle.clr_merge_sets.proofs.MergeSetLemmas.{map_more, named_at}
use Rattle.clr_page_parts.specs.Shown.{Shown, section_shown}
use Rattle.clr_board_page.specs.Designs.{AreDesignSections}
use Rattle.clr_board_page.specs.Said.{said_in}
use Rattle.clr_board_page.proofs.Each.{one_section_more}
use Rattle.clr_board_page.proofs.Numbers.{numbered_more}
use Rattle.clr_board_page.proofs.design_sections.design_sections.Goals as goal

pub design_section-requires : goal.design_section-requires
design_section-requires c =
    let o = c.args.office.now in
    let at = c.loop-at.at in
    let names = c.args.names.now in
    let none : Bor Name = record { ref_ptr = (0, 0); now = [] } in
    let name = get_or names at none in
    let sets = c.args.sets.now in
    let set = c.index-sets-at.result in
    let long = ap length c.requires ∙ length-map (map (λ (n : Bor Name). n.now) names) (changes_in o) ∙ length-map names (λ (n : Bor Name). n.now) in
    let less : at < length sets = omega (arith, long, c.loop-at-test.true) in
    let named = slice_get-map (λ (n : Bor Name). n.now) names at ∙ ap (option_map (λ (n : Bor Name). n.now)) (slice_get-get_or names at none
    c.loop-at-test.true) in
    let found = named_at o (map (λ (n : Bor Name). n.now) names) sets at set c.requires
    (slice_get_read sets (length sets) at set refl less c.index-sets-at.is) in
    let both : Some name.now ≡ Some found.0 = sym named ∙ found.1 in
    let same : name.now ≡ found.0 = cc in
    found.2 ∙ ap (changes_in o) (sym same)

pub loop-at-preserved : goal.loop-at-preserved
loop-at-preserved c =
    let o = c.args.office.now in
    let said = said_in c.args.told in
    let names = c.args.names.now in
    let k = c.loop-at.at in
    let none : Bor Name = record { ref_ptr = (0, 0); now = [] } in
    let name = get_or names k none in
    let seen : List Name = map (λ (n : Bor Name). n.now) (take k names) in
    let counted : length seen ≡ k = length-map (take k names) (λ (n : Bor Name). n.now) ∙ length-take-le k names (omega (arith, c.loop-at-test.true)) in
    let long : 0 + length seen ≡ k = omega (arith, counted) in
    let more : map (λ (n : Bor Name). n.now) (take (k + 1) names) ≡ seen ++ name.now ∷ [] =
    map_more (λ (n : Bor Name). n.now) names k name (slice_get-get_or names k none c.loop-at-test.true) in
    let numbered : enumerate_from 0 (map (λ (n : Bor Name). n.now) (take (k + 1) names)) ≡ enumerate_from 0 seen ++ (k, name.now) ∷ [] =
    ap (enumerate_from 0) more ∙ numbered_more 0 seen name.now ∙ ap (λ (n : ℕ). enumerate_from 0 seen ++ (n, name.now) ∷ []) long in
    let told = map section_shown c.loop-at.sections.items in
    let all = one_section_more o said (enumerate_from 0 seen) told (k, name.now) (section_shown c.in_ok-section.section) c.loop-at.invariant
    c.in_ok-section.ensures in
    let sections : map section_shown c.push.new.self.items ≡ told ++ section_shown c.in_ok-section.section ∷ [] =
    ap (map section_shown) c.in_ok-push.ensures.items ∙ map-append section_shown c.loop-at.sections.items (c.in_ok-section.section ∷ []) in
    subst (λ (es : List (ℕ × Name)). AreDesignSections o said es (map section_shown c.push.new.self.items)) (sym numbered)
    (subst (λ (blocks : List (List Shown)). AreDesignSections o said (enumerate_from 0 seen ++ (k, name.now) ∷ []) blocks) (sym sections) all)
