-- A rule that is written with its known needs, where it has a list of these, or without.
use Rattle.std.proofs.Common.{◌≡◌, ◌++◌, codes, List, [], ◌∷◌, Option, Some, None, refl}
use Rattle.json.specs.Token.{begin_object, end_object, key}
use Rattle.serde_json.specs.Data.{Data, string, object, member, no_members}
use Rattle.clr_rules.specs.declared.needs.Broken.{Broken}
use Rattle.clr_office_writing.specs.KnownData.{known_tokens, with_known}
use Rattle.clr_office_writing.specs.Tokens.{tokens_of}

pub unique_written : (known : Option (List Broken)) (columns subject : Data)
    → begin_object ∷ key (codes "columns") ∷ (tokens_of columns ++ key (codes "kind") ∷ (tokens_of (string (codes "UNIQUE"))
    ++ (known_tokens known ++ key (codes "subject") ∷ (tokens_of subject ++ end_object ∷ []))))
    ≡ tokens_of (object (member (codes "columns") columns (member (codes "kind") (string (codes "UNIQUE"))
    (with_known known (member (codes "subject") subject no_members)))))
unique_written None columns subject = refl
unique_written (Some needs) columns subject = refl

pub partner_written : (known : Option (List Broken)) (columns server server_columns subject : Data)
    → begin_object ∷ key (codes "columns") ∷ (tokens_of columns ++ key (codes "kind") ∷ (tokens_of (string (codes "PARTNER"))
    ++ (known_tokens known ++ key (codes "server") ∷ (tokens_of server ++ key (codes "server_columns") ∷ (tokens_of server_columns
    ++ key (codes "subject") ∷ (tokens_of subject ++ end_object ∷ []))))))
    ≡ tokens_of (object (member (codes "columns") columns (member (codes "kind") (string (codes "PARTNER"))
    (with_known known (member (codes "server") server (member (codes "server_columns") server_columns (member (codes "subject") subject no_members)))))))
partner_written None columns server server_columns subject = refl
partner_written (Some needs) columns server server_columns subject = refl

pub end_node_written : (known : Option (List Broken)) (server subject tip : Data)
    → begin_object ∷ key (codes "kind") ∷ (tokens_of (string (codes "ENDNODE")) ++ (known_tokens known ++ key (codes "server") ∷ (tokens_of server
    ++ key (codes "subject") ∷ (tokens_of subject ++ key (codes "tip") ∷ (tokens_of tip ++ end_object ∷ [])))))
    ≡ tokens_of (object (member (codes "kind") (string (codes "ENDNODE"))
    (with_known known (member (codes "server") server (member (codes "subject") subject (member (codes "tip") tip no_members))))))
end_node_written None server subject tip = refl
end_node_written (Some needs) server subject tip = refl

pub crossing_written : (known : Option (List Broken)) (a b server : Data)
    → begin_object ∷ key (codes "a") ∷ (tokens_of a ++ key (codes "b") ∷ (tokens_of b ++ key (codes "kind") ∷ (tokens_of (string (codes "CROSSING"))
    ++ (known_tokens known ++ key (codes "server") ∷ (tokens_of server ++ end_object ∷ [])))))
    ≡ tokens_of (object (member (codes "a") a (member (codes "b") b (member (codes "kind") (string (codes "CROSSING"))
    (with_known known (member (codes "server") server no_members))))))
crossing_written None a b server = refl
crossing_written (Some needs) a b server = refl

pub near_written : (known : Option (List Broken)) (a b d : Data)
    → begin_object ∷ key (codes "a") ∷ (tokens_of a ++ key (codes "b") ∷ (tokens_of b ++ key (codes "d") ∷ (tokens_of d
    ++ key (codes "kind") ∷ (tokens_of (string (codes "NEAR")) ++ (known_tokens known ++ end_object ∷ [])))))
    ≡ tokens_of (object (member (codes "a") a (member (codes "b") b (member (codes "d") d (member (codes "kind") (string (codes "NEAR"))
    (with_known known no_members))))))
near_written None a b d = refl
near_written (Some needs) a b d = refl
