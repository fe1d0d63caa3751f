-- The columns of a table in a sentence.
use Rattle.std.proofs.Common.{◌≡◌, ◌≢◌, ◌∙◌, ℕ, List, [], ◌∷◌, ◌++◌, codes, length, map, Bor, Option, Some, None, refl, sym, ap}
use Rattle.std.specs.List.{join_by}
use Rattle.clr_hints.proofs.SentenceLemmas.{joined_lent}
use Rattle.clr_rows.specs.declared.tables.TableDef.{TableDef}
use Rattle.std.specs.Option.{option_map_or}
use Rattle.std.specs.Prelude.{slice_get}
use Rattle.serde_json.specs.Data.{Data}
use Rattle.clr_rows.specs.declared.faults.RowFault.{RowFault}
use Rattle.clr_rows.specs.declared.tables.Kind.{Kind}
use Rattle.clr_item_explanations.specs.declared.slips.Slip.{Slip}
use Rattle.clr_schema_explanations.specs.RowFaults.{columns_text, of_other_kind, wrong_in_column, wrong_in_table}
use Rattle.clr_item_explanations.specs.Slips.{said}
use Rattle.clr_item_explanations.specs.Tellings.{Tells, TellsIfAny, Wrong}
use Rattle.clr_item_explanations.proofs.TellingLemmas.{nothing}

pub no_columns : (table : TableDef) (lent : List (Bor (List ℕ))) (names : List (List ℕ)) → map (λ (name : Bor (List ℕ)). name.now) lent ≡ names → lent ≡ []
    → columns_text table names ≡ codes "table " ++ table.name ++ codes " has no columns"
no_columns table lent names are none = rw (sym are ∙ ap (map (λ (name : Bor (List ℕ)). name.now)) none) refl

pub some_columns : (table : TableDef) (lent : List (Bor (List ℕ))) (names : List (List ℕ)) → map (λ (name : Bor (List ℕ)). name.now) lent ≡ names
    → length lent ≢ 0
    → columns_text table names ≡ codes "the columns of table " ++ table.name ++ codes " are " ++ join_by (λ (name : Bor (List ℕ)). name.now) (codes ", ") lent
some_columns table [] names are some = absurd (some refl)
some_columns table (name ∷ lent) names are some =
    rw (← are) (ap (λ joined. codes "the columns of table " ++ table.name ++ codes " are " ++ joined) (joined_lent (codes ", ") (name ∷ lent)))

-- a column and the value there ---------------------------------------------------------------------

pub column_there : (table : TableDef) (value : ℕ × Data) (column : List ℕ × Kind) (slip : Option Slip) → Some column ≡ slice_get table.columns value.0
    → TellsIfAny (of_other_kind column value) slip → TellsIfAny (wrong_in_column table value) slip
unfolding wrong_in_column
column_there table value column slip is told = rw (← is) told

pub no_column_there : (table : TableDef) (value : ℕ × Data) → None ≡ slice_get table.columns value.0 → TellsIfAny (wrong_in_column table value) None
unfolding wrong_in_column
no_column_there table value is = rw (← is) (nothing None refl)

-- what is told --------------------------------------------------------------------------------------

pub told_of_some : {A : Type 0} (of : A → Wrong) (otherwise : Wrong) (found : Option A) (x : A) (slip : Slip) → Some x ≡ found → Tells (of x) (said slip)
    → Tells (option_map_or of found otherwise) (said slip)
told_of_some of otherwise found x slip is told = rw (← is) told

pub told_of_none : {A : Type 0} (of : A → Wrong) (otherwise : Wrong) (found : Option A) (slip : Slip) → None ≡ found → Tells otherwise (said slip)
    → Tells (option_map_or of found otherwise) (said slip)
told_of_none of otherwise found slip is told = rw (← is) told

pub told_of_table : (f : RowFault) (d : Data) (otherwise : Wrong) (found : Option TableDef) (table : TableDef) (slip : Slip) → Some table ≡ found
    → Tells (wrong_in_table f table d) (said slip) → Tells (option_map_or (λ t. wrong_in_table f t d) found otherwise) (said slip)
told_of_table f d otherwise found table slip is told = rw (← is) told

pub told_of_no_table : (f : RowFault) (d : Data) (otherwise : Wrong) (found : Option TableDef) (slip : Slip) → None ≡ found → Tells otherwise (said slip)
    → Tells (option_map_or (λ t. wrong_in_table f t d) found otherwise) (said slip)
told_of_no_table f d otherwise found slip is told = rw (← is) told
