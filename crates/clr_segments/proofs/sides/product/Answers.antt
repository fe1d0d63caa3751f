use Rattle.clr_segments.proofs.Words64.{product_in_word, product_bound}
use Rattle.clr_segments.proofs.sides.product.Goals as goal

pub returns-clause-value : goal.returns-clause-value
returns-clause-value c = product_in_word c.args.m c.args.n c.requires.m_in c.requires.n_in

pub returns-clause-bound : goal.returns-clause-bound
returns-clause-bound c = rw (product_in_word c.args.m c.args.n c.requires.m_in c.requires.n_in)
    (product_bound c.args.m c.args.n c.requires.m_in c.requires.n_in)
