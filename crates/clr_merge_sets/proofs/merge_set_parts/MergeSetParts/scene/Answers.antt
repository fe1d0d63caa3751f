use Rattle.std.proofs.Common.{◌≡◌, ◌∙◌, ap, map, subst, sym}
use Rattle.clr_finders.specs.Sharing.{IsSettledFor}
use Rattle.clr_needs.specs.Members.{AreApart, setting}
use Rattle.clr_foot.specs.Scenes.{IsReady, setting_of}
use Rattle.clr_row_versions.specs.Versions.{FitsSetting}
use Rattle.clr_steps.specs.Quiet.{root_content}
use Rattle.clr_clearance.specs.MergeSets.{setting_by_position}
use Rattle.clr_merge_sets.proofs.MergeSetLemmas.{made_with, merge_set_fits}
use Rattle.clr_merge_sets.proofs.merge_set_parts.MergeSetParts.scene.Goals as goal

pub new-requires-clause-fit : goal.new-requires-clause-fit
unfolding root_content
new-requires-clause-fit c =
    let o = c.args.office.now in
    let s = c.requires.0 in
    let parts = c.requires.1 in
    let sets = ap (map (λ set. set.now)) (c.in_ok-sets.ensures.items ∙ c.as_slice.ensures.value) ∙ parts.sets in
    subst FitsSetting (sym (λ i. setting (c.book.ensures.value i) (parts.rows i) (sets i))) (merge_set_fits o c.book.ensures.admitted s)

pub returns-clause-scene : goal.returns-clause-scene
returns-clause-scene c =
    let o = c.args.office.now in
    made_with _ _ _ _ c.new.result c.new.ensures.model c.new.ensures.apart (λ scene model apart s parts.
    (let sets = ap (map (λ set. set.now)) (c.in_ok-sets.ensures.items ∙ c.as_slice.ensures.value) ∙ parts.sets in
    let whole : setting c.book.result.now c.args.self.now.rows _ ≡ setting_by_position o s = λ i. setting (c.book.ensures.value i) (parts.rows i) (sets i) in
    record {
      setting = ap setting_of model ∙ whole;
      ready = subst (IsReady (λ finder. finder.settled)) (sym model) (record {
        fit = subst FitsSetting (sym whole) (merge_set_fits o c.book.ensures.admitted s);
        is_settled = subst (λ book. IsSettledFor c.args.self.now.finder.now.settled book c.args.self.now.rows) (sym c.book.ensures.value) parts.filed;
      });
      apart = subst AreApart (ap (λ m. m.sets) model ∙ sets) apart;
    }))
