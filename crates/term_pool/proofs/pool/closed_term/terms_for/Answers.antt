use Rattle.term_pool.proofs.pool.closed_term.terms_for.Goals as goal

pub index-requires : goal.index-requires
index-requires c = c.requires c.loop-sort.sort-index (record { 0 = 0 }) c.loop-sort-test.true
