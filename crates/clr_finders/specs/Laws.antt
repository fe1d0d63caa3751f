-- What finders give, by the definitions of sharing.
use Rattle.std.specs.Prelude.{◌≡◌, ◌<◌, ℕ, false, true, List, length}
use Rattle.clr_rows.specs.Contents.{Content}
use Rattle.clr_rows.specs.Held.{Held}
use Rattle.clr_rules.specs.declared.rules.Rule.{Rule}
use Rattle.clr_finders.specs.Sharing.{Settled, IsSettledFor, found_cells, rule_spots, sharing, sharing_servers}

-- a finder that has settled a content finds exactly the rows that share with a row
abbrev pub FindsSharing : Type 0
FindsSharing = (rules : List Rule) (content : Content) (settled : Settled) (number : ℕ) (s : Held)
    → IsSettledFor settled rules content
    → number < length rules
    → found_cells false settled number (rule_spots rules number s) ≡ sharing rules number content s

-- the servers that a finder finds are exactly those rows that share with a row and are of the side that serves
abbrev pub FindsServers : Type 0
FindsServers = (rules : List Rule) (content : Content) (settled : Settled) (number : ℕ) (s : Held)
    → IsSettledFor settled rules content
    → number < length rules
    → found_cells true settled number (rule_spots rules number s) ≡ sharing_servers rules number content s
