-- What is seen of JSON values over the text that they stand in.
use Rattle.std.proofs.Common.{◌≡◌, ℕ, Vec, Bool, true, false, cond, List, [], ◌∷◌, Option, Some, None, Result, Ok, Err, true≢false, refl, sym, ap, subst, ◌∙◌}
use Rattle.std.specs.Prelude.{is_some, option_map, option_and_then, ◌&&◌}
use Rattle.std.specs.Borrow.{Bor}
use Rattle.std.specs.Str.{bytes_eq}
use Rattle.std.proofs.lemmas.Bool.{and_parts, false≢true}
use Rattle.std.specs.Cmp.Lexicographic.{bytes_decides}
use Rattle.std.specs.declared.alloc.Global.{Global}
use Rattle.json.specs.Json as json
use Rattle.json.specs.Lex.{tokens}
use Rattle.json.specs.Token.{Token}
use Rattle.json.specs.Find as find
use Rattle.json.specs.Value.{value_view, items_view}
use Rattle.json.specs.declared.value.Value.{Value, Array}
use Rattle.json.proofs.Trees.{view-Array}
use Rattle.serde_json.specs.Data.{Data, Num, number, array, object, item, Members, no_members, put}
use Rattle.serde_json.specs.Find.{as_array, get, get_member}
use Rattle.serde_json.specs.Read.{number_of, of_json, of_items, of_members, read}
use Rattle.serde_json.proofs.Views.{get_member-put, get_member-put_other}
use Rattle.clr_rule_text.specs.declared.faults.TextFault.{TextFault}
use Rattle.clr_rule_text.specs.declared.faults.TextFault.TheVariants.{NotJson}
use Rattle.clr_rule_text.specs.Seen.{data_of, has_numbers, items_data, items_have_numbers, items_seen, members_data, members_have_numbers, number_or_null, seen}
use Rattle.clr_rule_text.specs.Seen.{value_if_read}

-- looked into ---------------------------------------------------------------------------------

-- nothing else is seen in a number
no_member : (name : List ℕ) (o : Option Num) → get name (number_or_null o) ≡ None
no_member name None = refl
no_member name (Some n) = refl

-- what a later member of a name leaves of what stood there before
abbrev pick : Option json.Json → Option Data → Option Data
pick None before = before
pick (Some j) before = Some (data_of j)

pick-later : (last one : Option json.Json) (before : Option Data) → pick last (pick one before) ≡ pick (find.later_or last one) before
pick-later None one before = refl
pick-later (Some j) one before = refl

pick-alone : (last : Option json.Json) → option_map data_of last ≡ pick last None
pick-alone None = refl
pick-alone (Some j) = refl

member-put : (name k : List ℕ) (j : json.Json) (found : Members) → get_member name (put k (data_of j) found)
    ≡ pick (cond (bytes_eq k name) (Some j) None) (get_member name found)
member-put name k j found = by (bytes_eq k name) refl
  where
    by : (b : Bool) → bytes_eq k name ≡ b → get_member name (put k (data_of j) found) ≡ pick (cond b (Some j) None) (get_member name found)
    by true e = let same : k ≡ name = (bytes_decides k name).0 e in subst (λ n. get_member n (put k (data_of j) found)
        ≡ Some (data_of j)) same (get_member-put k (data_of j) found)
    by false e = get_member-put_other name k (data_of j) found (λ same. true≢false (sym ((bytes_decides k name).1 (sym same)) ∙ e))

members-found : (name : List ℕ) (ms : json.Members) (found : Members) → get_member name (members_data ms found)
    ≡ pick (find.get_member name ms) (get_member name found)
members-found name json.no_members found = refl
members-found name (json.member k j ms) found =
    members-found name ms (put k (data_of j) found) ∙ ap (pick (find.get_member name ms)) (member-put name k j found)
    ∙ pick-later (find.get_member name ms) (cond (bytes_eq k name) (Some j) None) (get_member name found)

member-data : (name : List ℕ) (j : json.Json) → option_map data_of (find.get name j) ≡ get name (data_of j)
member-data name json.null = refl
member-data name (json.boolean b) = refl
member-data name (json.number s) = sym (no_member name (number_of s))
member-data name (json.string s) = refl
member-data name (json.array js) = refl
member-data name (json.object ms) = pick-alone (find.get_member name ms) ∙ sym (members-found name ms no_members)

-- what calls find
seen_twice : (r : Option (Bor (Value Global))) → option_map (λ v. seen v.now) r ≡ option_map data_of (option_map (λ v. value_view v.now) r)
seen_twice None = refl
seen_twice (Some v) = refl

pub member_seen : (v : Value Global) (name : List ℕ) (r : Option (Bor (Value Global))) → option_map (λ v. value_view v.now) r ≡ find.get name (value_view v)
    → option_map (λ v. seen v.now) r ≡ get name (seen v)
member_seen v name r e = seen_twice r ∙ ap (option_map data_of) e ∙ member-data name (value_view v)

items_again : (vs : List (Value Global)) → items_data (items_view vs) ≡ items_seen seen vs
items_again [] = refl
items_again (v ∷ vs) = ap (item (seen v)) (items_again vs)

pub array_seen : (v : Value Global) (list : Vec (Value Global) Global) → v ≡ Array list → Some (items_seen seen list.items) ≡ as_array (seen v)
array_seen v list is = ap Some (sym (items_again list.items)) ∙ ap (λ j. as_array (data_of j)) (sym (ap value_view is ∙ view-Array list))

-- a number that is read at all
read_number : (o : Option Num) → is_some o ≡ true → option_map number o ≡ Some (number_or_null o)
read_number None h = absurd (false≢true h)
read_number (Some n) h = refl

no_number : (o : Option Num) → is_some o ≡ false → option_map number o ≡ None
no_number None h = refl
no_number (Some n) h = absurd (true≢false h)

-- read --------------------------------------------------------------------------------------

mutual
  pub data-read : (j : json.Json) → has_numbers j ≡ true → of_json j ≡ Some (data_of j)
  data-read json.null h = refl
  data-read (json.boolean b) h = refl
  data-read (json.number s) h = read_number (number_of s) h
  data-read (json.string s) h = refl
  data-read (json.array js) h = ap (option_map array) (items-read js h)
  data-read (json.object ms) h = ap (option_map object) (members-read ms no_members h)

  items-read : (js : json.Items) → items_have_numbers js ≡ true → of_items js ≡ Some (items_data js)
  items-read json.no_items h = refl
  items-read (json.item j js) h = let a = and_parts (has_numbers j) (items_have_numbers js) h in rw (data-read j a.0, items-read js a.1) refl

  members-read : (ms : json.Members) (found : Members) → members_have_numbers ms ≡ true → of_members ms found ≡ Some (members_data ms found)
  members-read json.no_members found h = refl
  members-read (json.member k j ms) found h = let a = and_parts (has_numbers j) (members_have_numbers ms) h in rw (data-read j a.0)
      (members-read ms (put k (data_of j) found) a.1)

-- the one is false, or else the other
one_false : (a b : Bool) (P : Type 0) → (a && b) ≡ false → (a ≡ false → P) → (a ≡ true → b ≡ false → P) → P
one_false true b P h f g = g refl h
one_false false b P h f g = f refl

mutual
  pub data-refused : (j : json.Json) → has_numbers j ≡ false → of_json j ≡ None
  data-refused json.null h = absurd (true≢false h)
  data-refused (json.boolean b) h = absurd (true≢false h)
  data-refused (json.number s) h = no_number (number_of s) h
  data-refused (json.string s) h = absurd (true≢false h)
  data-refused (json.array js) h = ap (option_map array) (items-refused js h)
  data-refused (json.object ms) h = ap (option_map object) (members-refused ms no_members h)

  items-refused : (js : json.Items) → items_have_numbers js ≡ false → of_items js ≡ None
  items-refused json.no_items h = absurd (true≢false h)
  items-refused (json.item j js) h =
      one_false (has_numbers j) (items_have_numbers js) (of_items (json.item j js) ≡ None) h (λ e. rw (data-refused j e) refl)
      (λ t e. rw (data-read j t, items-refused js e) refl)

  members-refused : (ms : json.Members) (found : Members) → members_have_numbers ms ≡ false → of_members ms found ≡ None
  members-refused json.no_members found h = absurd (true≢false h)
  members-refused (json.member k j ms) found h =
      one_false (has_numbers j) (members_have_numbers ms) (of_members (json.member k j ms) found ≡ None) h (λ e. rw (data-refused j e) refl)
      (λ t e. rw (data-read j t) (members-refused ms (put k (data_of j) found) e))

-- a whole text ----------------------------------------------------------------------------------

-- what is said of a text, by what its tokens give
abbrev said_of : Option (json.Json × List Token) → Result Data TextFault
said_of r = value_if_read (option_and_then of_json (option_and_then (λ p. json.if_last p.0 p.1) r))

pub value_read : (text : List ℕ) (j : json.Json) → json.value 127 (tokens text) ≡ Some (j, []) → has_numbers j ≡ true → value_if_read (read text)
    ≡ Ok (data_of j)
value_read text j parsed all = ap said_of parsed ∙ ap value_if_read (data-read j all)

pub value_refused : (text : List ℕ) (j : json.Json) → json.value 127 (tokens text) ≡ Some (j, []) → has_numbers j ≡ false → value_if_read (read text)
    ≡ Err NotJson
value_refused text j parsed some = ap said_of parsed ∙ ap value_if_read (data-refused j some)
