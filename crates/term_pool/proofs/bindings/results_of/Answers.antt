use Rattle.term_pool.proofs.bindings.results_of.Goals as goal

pub index-requires : goal.index-requires
index-requires c = c.requires c.loop-term.term-index (record { 0 = 0 }) c.loop-term-test.true
