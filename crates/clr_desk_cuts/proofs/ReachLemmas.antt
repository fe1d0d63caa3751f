-- What follows of tables by name, and of LIVE's finder.
use Rattle.std.proofs.Common.{◌≡◌, ◌∙◌, ℕ, Bor, List, [], ◌∷◌, Option, Some, None, get_or, refl, sym}
use Rattle.std.specs.Prelude.{slice_get}
use Rattle.std.specs.Option.{IsSome, option_copied}
use Rattle.std.specs.Str.{bytes_eq}
use Rattle.std.proofs.lemmas.List.Quantifiers.{position-Some}
use Rattle.std.proofs.lemmas.Option.{slice_get-get_or}
use Rattle.clr_rows.specs.declared.tables.TableDef.{TableDef}
use Rattle.clr_workspaces.specs.Marks.{Name}
use Rattle.clr_steps.specs.Names.{is_live}
use Rattle.clr_steps.specs.Offices.{Office, content_of}
use Rattle.clr_steps.specs.Quiet.{root_content}
use Rattle.clr_rows.specs.Contents.{Content}
use Rattle.clr_rows.specs.Schemas.{table_named}
use Rattle.clr_rules.specs.declared.rules.Rule.{Rule}
use Rattle.clr_finders.specs.RowMaps.{FiledRows}
use Rattle.clr_finders.specs.Sharing.{IsSettledFor}
use Rattle.clr_grid.specs.Finders.{IsFinderAt}
use Rattle.clr_desk_cuts.specs.Members.{live_set}

-- a table that is found by its name is there
pub table_stands : (tables : List TableDef) (name : List ℕ) (at : ℕ) → table_named tables name ≡ Some at → slice_get tables at ≡ None → ⊥
table_stands [] name at e none = cc
table_stands (t ∷ ts) name at e none =
    let within = (position-Some (λ (u : TableDef). bytes_eq u.name name) (t ∷ ts) at t e).0 in
    let there : None ≡ Some (get_or (t ∷ ts) at t) = sym none ∙ slice_get-get_or (t ∷ ts) at t within in
    cc

-- the root of a merge set of LIVE has LIVE's rows
pub live_root : (o : Office) (names : List Name) → root_content o (live_set names) ≡ o.live
unfolding root_content content_of is_live
live_root o names = refl

-- where there is a content, there is a finder of its rows
pub finder_there : (book : List Rule) (content : Content) (finder : Option (Bor FiledRows)) → IsFinderAt book (Some content) (option_copied finder) → IsSome finder
finder_there book content None h = absurd h
finder_there book content (Some f) h = refl

pub finder_settled : (book : List Rule) (content : Content) (f : Bor FiledRows) → IsFinderAt book (Some content) (option_copied (Some f))
    → IsSettledFor f.now.settled book content
finder_settled book content f h = h.0
