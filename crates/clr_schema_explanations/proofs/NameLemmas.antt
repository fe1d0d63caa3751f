-- What is told of the names of a rule.
use Rattle.std.proofs.Common.{◌≡◌, ℕ, suc, ◌+◌, ◌<◌, Bool, true, false, List, [], ◌∷◌, ◌++◌, codes, map, drop, length, get_or, drop-cons, add-one}
use Rattle.std.proofs.Common.{append_assoc, Option, Some, None, Result, Ok, Err, refl, subst, sym, ◌∙◌, ap}
use Rattle.std.proofs.lemmas.Bool.{OnFalse_at}
use Rattle.std.proofs.lemmas.List.{map-append}
use Rattle.std.specs.List.{enumerate_from, find}
use Rattle.std.specs.Prelude.{IsErr, unwrap_or}
use Rattle.serde_json.specs.Data.{Data}
use Rattle.clr_rows.specs.declared.tables.TableDef.{TableDef}
use Rattle.clr_rows.specs.Schemas.{names_of}
use Rattle.clr_hints.specs.Names.{IsHintAtName}
use Rattle.clr_readings.specs.Readings.{Fails}
use Rattle.clr_rule_text.specs.declared.faults.TextFault.{TextFault}
use Rattle.clr_rule_text.specs.declared.named_rules.NamedRule.{NamedRule}
use Rattle.clr_rule_text.specs.Fields.{text_lacks_memory}
use Rattle.clr_rule_text.specs.Rules.{named_rule_of}
use Rattle.clr_text_positions.specs.declared.paths.PathStep.{PathStep}
use Rattle.clr_schema_explanations.specs.Names.{NameInRule, NamesAreKnown, TellsFirstUnknown, TellsNoColumn, TellsNoTable, TellsUnknownIn, TellsUnknownName}
use Rattle.clr_schema_explanations.specs.Names.{is_unknown, name_in_rule, names_of_rule}
use Rattle.clr_schema_explanations.specs.declared.rule_names.RuleName.{RuleName}

pub unread : {A : Type 0} (e : TextFault) (r : Result A TextFault) → text_lacks_memory e ≡ false → Fails text_lacks_memory e r → IsErr r
unread e r kept failed = let is : r ≡ Err e = OnFalse_at kept failed in rw is refl

pub table_told : (tables : List TableDef) (names : List (List ℕ)) (name sentence : List ℕ) (hint : Option (List ℕ)) → names ≡ map (λ table. table.name) tables
    → sentence ≡ codes "NoTable: no table is called '" ++ name ++ codes "'" → IsHintAtName name names hint → TellsNoTable tables name sentence hint
table_told tables names name sentence hint are told near = record { told = told; near = subst (λ all. IsHintAtName name all hint) are near }

pub column_told : (table : TableDef) (names : List (List ℕ)) (name sentence : List ℕ) (hint : Option (List ℕ)) → names ≡ names_of table.columns
    → sentence ≡ codes "NoColumn: table " ++ table.name ++ codes " has no column '" ++ name ++ codes "'" → IsHintAtName name names hint
    → TellsNoColumn table name sentence hint
column_told table names name sentence hint are told near = record { told = told; near = subst (λ all. IsHintAtName name all hint) are near }

pub no_table_told : (found : Option TableDef) (tables : List TableDef) (name : NameInRule) (sentence : List ℕ) (hint : Option (List ℕ)) → None ≡ found →
    TellsNoTable tables name.table sentence hint → TellsUnknownIn found tables name sentence hint
no_table_told None tables name sentence hint is told = told
no_table_told (Some table) tables name sentence hint is told = absurd cc

pub no_column_told : (found : Option TableDef) (table : TableDef) (tables : List TableDef) (name : NameInRule) (sentence : List ℕ) (hint : Option (List ℕ))
    → Some table ≡ found → TellsNoColumn table (unwrap_or name.column []) sentence hint → TellsUnknownIn found tables name sentence hint
no_column_told None table tables name sentence hint is told = absurd cc
no_column_told (Some other) table tables name sentence hint is told = let same : other ≡ table = cc in rw same told

-- the first of the names of a rule that can be read
pub first_told : (tables : List TableDef) (item : Data) (rule : NamedRule) (name : NameInRule) (names : List NameInRule) (steps : List PathStep)
    (sentence : List ℕ) (hint : Option (List ℕ)) → named_rule_of item ≡ Ok rule → names ≡ names_of_rule rule → Some name ≡ find (is_unknown tables) names
    → TellsUnknownName tables name steps sentence hint → TellsFirstUnknown tables item steps sentence hint
first_told tables item rule name names steps sentence hint read are first told = record {
  rule = rule;
  read = read;
  name = name;
  first = ap (find (is_unknown tables)) (sym are) ∙ sym first;
  told = told;
}

pub all_known : (tables : List TableDef) (item : Data) (rule : NamedRule) (names : List NameInRule) → named_rule_of item ≡ Ok rule
    → names ≡ names_of_rule rule → None ≡ find (is_unknown tables) names → NamesAreKnown tables item
all_known tables item rule names read are none = λ other again.
    let same : other ≡ rule = cc in
    ap (λ r. find (is_unknown tables) (names_of_rule r)) same ∙ ap (find (is_unknown tables)) (sym are) ∙ sym none

unread_is : (tables : List TableDef) (item : Data) (r : Result NamedRule TextFault) → named_rule_of item ≡ r → IsErr r → NamesAreKnown tables item
unread_is tables item (Ok rule) is failed = absurd cc
unread_is tables item (Err e) is failed = λ rule read. absurd cc

pub none_read : (tables : List TableDef) (item : Data) → IsErr (named_rule_of item) → NamesAreKnown tables item
none_read tables item failed = unread_is tables item (named_rule_of item) refl failed

-- lists of names -------------------------------------------------------------------------------

-- with the name of one more element, and those of the elements that are left, the names are the same
pub one_more_name : {A : Type 0} (f : ℕ × A → NameInRule) (names more : List RuleName) (new : RuleName) (listed : List A) (i : ℕ) (x : A)
    (all : List NameInRule) → i < length listed → x ≡ get_or listed i x → more ≡ names ++ new ∷ [] → name_in_rule new ≡ f (i, x)
    → map name_in_rule names ++ map f (enumerate_from i (drop i listed)) ≡ all
    → map name_in_rule more ++ map f (enumerate_from (i + 1) (drop (i + 1) listed)) ≡ all
one_more_name f names more new listed i x all within there pushed named so =
    let rest : List NameInRule = map f (enumerate_from (i + 1) (drop (i + 1) listed)) in
    let left : drop i listed ≡ x ∷ drop (i + 1) listed =
    drop-cons listed i x within ∙ ap (λ y. y ∷ drop (suc i) listed) (sym there) ∙ ap (λ k. x ∷ drop k listed) (sym (add-one i)) in
    ap (λ l. map name_in_rule l ++ rest) pushed
    ∙ ap (λ l. l ++ rest) (map-append name_in_rule names (new ∷ []))
    ∙ append_assoc (map name_in_rule names) (name_in_rule new ∷ []) rest
    ∙ ap (λ n. map name_in_rule names ++ n ∷ rest) named
    ∙ ap (λ l. map name_in_rule names ++ map f (enumerate_from i l)) (sym left)
    ∙ so

-- the first of names that passes a test is not one that fails it
pub not_this_name : (p : NameInRule → Bool) (names : List RuleName) (i : ℕ) (d : RuleName) (all : Option NameInRule) → i < length names
    → p (name_in_rule (get_or names i d)) ≡ false → find p (map name_in_rule (drop i names)) ≡ all → find p (map name_in_rule (drop (i + 1) names)) ≡ all
not_this_name p names i d all within fails so =
    let behind : find p (map name_in_rule (get_or names i d ∷ drop (suc i) names)) ≡ find p (map name_in_rule (drop (suc i) names)) = rw fails refl in
    ap (λ k. find p (map name_in_rule (drop k names))) (add-one i) ∙ sym behind
    ∙ ap (λ l. find p (map name_in_rule l)) (sym (drop-cons names i d within)) ∙ so

pub this_name : (p : NameInRule → Bool) (names : List RuleName) (i : ℕ) (d : RuleName) (all : Option NameInRule) → i < length names
    → p (name_in_rule (get_or names i d)) ≡ true → find p (map name_in_rule (drop i names)) ≡ all → Some (name_in_rule (get_or names i d)) ≡ all
this_name p names i d all within passes so =
    let here : find p (map name_in_rule (get_or names i d ∷ drop (suc i) names)) ≡ Some (name_in_rule (get_or names i d)) = rw passes refl in
    sym here ∙ ap (λ l. find p (map name_in_rule l)) (sym (drop-cons names i d within)) ∙ so
