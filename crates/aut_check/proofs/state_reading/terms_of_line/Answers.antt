use Rattle.std.proofs.Common.{[], map, sym, subst, ap}
use Rattle.std.specs.List.{AllByRecursion}
use Rattle.lps_core.specs.PlainLinears.{plain_next}
use Rattle.mcrl2_syntax.specs.DataTrees.{plain_data}
use Rattle.mcrl2_syntax.specs.TreeWords.{IsDataOfWords}
use Rattle.trace_replay.proofs.DataWords.{tuples_are_of_words}
use Rattle.aut_check.specs.ReadSystems.{AreReadTerms}
use Rattle.aut_check.proofs.ReadStates.{no_tuple, terms_spelled}
use Rattle.aut_check.proofs.state_reading.terms_of_line.Goals as goal

pub terms_of_trees-requires-clause-words : goal.terms_of_trees-requires-clause-words
terms_of_trees-requires-clause-words c =
    let line = c.in-Ok.ensures.found in
    subst (λ z. AllByRecursion IsDataOfWords (map plain_data z)) (sym c.as_slice.ensures.value) (tuples_are_of_words c.args.line.now (map plain_data c.in-Ok.trees.items) line.tokens [] line.has_tokens line.spelled)

pub returns-in_ok-terms-in-Ok-clause-terms : goal.returns-in_ok-terms-in-Ok-clause-terms
returns-in_ok-terms-in-Ok-clause-terms c =
    terms_spelled c.args.sig.now c.terms_of_trees.new.pool.trees c.args.sorts.now c.args.line.now (map plain_data c.in-Ok.trees.items) (plain_next c.in_ok-terms-in-Ok.terms) c.in-Ok.ensures.found c.in-Ok.ensures.single
    (subst (λ z. AreReadTerms c.args.sig.now c.terms_of_trees.new.pool.trees c.args.sorts.now z (plain_next c.in_ok-terms-in-Ok.terms)) (ap (map plain_data) c.as_slice.ensures.value) c.in_ok-terms-in-Ok.ensures.terms)

pub returns-in-Err-NotATerm-clause-terms : goal.returns-in-Err-NotATerm-clause-terms
returns-in-Err-NotATerm-clause-terms c = no_tuple c.args.sig.now c.args.pool.now.trees c.args.sorts.now c.args.line.now (c.in-Err-NotATerm.ensures.not_a_term (cc))
