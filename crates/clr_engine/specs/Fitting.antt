-- Offices that fit their schema.
use Rattle.clr_rules.specs.Books.{FitsBook}
use Rattle.clr_steps.specs.Invariants.{OfficeFits}
use Rattle.clr_steps.specs.Offices.{Office}

-- the rules and each row fit the schema
pub record IsFitting (o : Office) : Type 0 where
  pub book : FitsBook o.schema o.book
  pub rows : OfficeFits o

-- what offices keep: the rules and each row fit the schema. Rules may be broken; no command breaks more
pub record IsAdmitted (o : Office) : Type 0 where
  pub fit : IsFitting o
