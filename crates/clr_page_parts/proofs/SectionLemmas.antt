-- What is shown of sections that are made of blocks, one after another.
use Rattle.std.proofs.Common.{◌≡◌, ◌∙◌, ℕ, Bool, false, true, List, [], ◌∷◌, ◌++◌, ap, append_assoc, cond, map, sym}
use Rattle.std.proofs.lemmas.List.{map-append}
use Rattle.clr_html.specs.declared.pages.Section.{Section}
use Rattle.clr_html.specs.declared.tables.Table.{Table as Stored}
use Rattle.clr_page_parts.specs.Shown.{Shown, Table, heads_of, rows_of, section_shown}

-- behind one block what is shown first, and then what is shown last
pub in_a_row : (none one two all : List Shown) (b : Shown) (first more : List Shown) → none ≡ [] → one ≡ none ++ b ∷ [] → two ≡ one ++ first
    → all ≡ two ++ more → all ≡ b ∷ (first ++ more)
in_a_row none one two all b first more nothing e f g =
    g ∙ ap (λ (blocks : List Shown). blocks ++ more)
    (f ∙ ap (λ (blocks : List Shown). blocks ++ first) (e ∙ ap (λ (blocks : List Shown). blocks ++ b ∷ []) nothing))

-- a block and a table
pub table_behind : (old one new : List Shown) (b : Shown) (table : Stored) (heads : List (List ℕ)) (rows : List (List (List ℕ)))
    → one ≡ old ++ b ∷ [] → heads_of table ≡ heads → rows_of table ≡ rows → new ≡ one ++ Table (heads_of table) (rows_of table) ∷ []
    → new ≡ old ++ (b ∷ Table heads rows ∷ [])
table_behind old one new b table heads rows e headed told f =
    f ∙ ap (λ (blocks : List Shown). blocks ++ Table (heads_of table) (rows_of table) ∷ []) e
    ∙ append_assoc old (b ∷ []) (Table (heads_of table) (rows_of table) ∷ [])
    ∙ ap (λ (hs : List (List ℕ)). old ++ (b ∷ Table hs (rows_of table) ∷ [])) headed
    ∙ ap (λ (rs : List (List (List ℕ))). old ++ (b ∷ Table heads rs ∷ [])) told

-- a block, some words, and a table
pub table_behind_words : (old one two new : List Shown) (b : Shown) (words : List Shown) (table : Stored) (heads : List (List ℕ))
    (rows : List (List (List ℕ)))
    → one ≡ old ++ b ∷ [] → two ≡ one ++ words → heads_of table ≡ heads → rows_of table ≡ rows
    → new ≡ two ++ Table (heads_of table) (rows_of table) ∷ [] → new ≡ old ++ (b ∷ (words ++ Table heads rows ∷ []))
table_behind_words old one two new b words table heads rows e g headed told f =
    f
    ∙ ap (λ (blocks : List Shown). blocks ++ Table (heads_of table) (rows_of table) ∷ [])
    (g ∙ ap (λ (blocks : List Shown). blocks ++ words) e ∙ append_assoc old (b ∷ []) words)
    ∙ append_assoc old (b ∷ words) (Table (heads_of table) (rows_of table) ∷ [])
    ∙ ap (λ (hs : List (List ℕ)). old ++ (b ∷ (words ++ Table hs (rows_of table) ∷ []))) headed
    ∙ ap (λ (rs : List (List (List ℕ))). old ++ (b ∷ (words ++ Table heads rs ∷ []))) told

-- more behind two blocks
pub more_behind : (old two new : List Shown) (a b : Shown) (more : List Shown) → two ≡ old ++ (a ∷ b ∷ []) → new ≡ two ++ more
    → new ≡ old ++ (a ∷ b ∷ more)
more_behind old two new a b more e f = f ∙ ap (λ (blocks : List Shown). blocks ++ more) e ∙ append_assoc old (a ∷ b ∷ []) more

-- of two choices the second
pub added_else : (is : Bool) (old new first second : List Shown) → is ≡ false → new ≡ old ++ second → new ≡ old ++ cond is first second
added_else is old new first second isnt e = e ∙ ap (λ (b : Bool). old ++ cond b first second) (sym isnt)

-- of two choices of one block the first
pub one_added_then : (is : Bool) (old new : List Shown) (first second : Shown) → is ≡ true → new ≡ old ++ first ∷ []
    → new ≡ old ++ cond is first second ∷ []
one_added_then is old new first second holds e = e ∙ ap (λ (b : Bool). old ++ cond b first second ∷ []) (sym holds)

-- a head, what stands between, and a foot
pub page_sections : (all between : List Section) (head foot : Section) (begin end : List Shown) → all ≡ head ∷ between ++ foot ∷ []
    → section_shown head ≡ begin → section_shown foot ≡ end → map section_shown all ≡ begin ∷ (map section_shown between ++ end ∷ [])
page_sections all between head foot begin end whole begins ends =
    ap (map section_shown) whole
    ∙ ap (λ (more : List (List Shown)). section_shown head ∷ more) (map-append section_shown between (foot ∷ []))
    ∙ ap (λ (first : List Shown). first ∷ (map section_shown between ++ section_shown foot ∷ [])) begins
    ∙ ap (λ (last : List Shown). begin ∷ (map section_shown between ++ last ∷ [])) ends
