use Rattle.clr_sql.proofs.QuotingLemmas.{quoting}
use Rattle.clr_sql.proofs.laws.quoted_texts_are_read_back.Goals as goal

pub returns : goal.returns
returns c = quoting
