use Rattle.sort_checker.proofs.wished_terms.condition_term.Goals as goal

pub typed_term-requires-clause-typed : goal.typed_term-requires-clause-typed
typed_term-requires-clause-typed c = let t = c.requires.typed in record { vocabulary = t.vocabulary; scope = t.scope; sees = t.sees; term = t.term; is = t.checks }
