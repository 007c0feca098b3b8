use Rattle.std.proofs.Common.{◌∙◌, ◌++◌, map, sym, ap, subst}
use Rattle.std.specs.List.{All}
use Rattle.process_terms.specs.PlainProcesses.{plain_action}
use Rattle.data_rewriter.specs.Standing.{term_at, IsTerm}
use Rattle.trace_replay.proofs.EqualityTerms.{equalities_are, ok_then, sorts_inside}
use Rattle.trace_replay.proofs.ways.add_equalities.Goals as goal

pub add_term_equalities-requires-clause-sorts : goal.add_term_equalities-requires-clause-sorts
add_term_equalities-requires-clause-sorts c = sorts_inside c.args.sig.now c.signature_stands.ensures c.args.pool.now.trees (plain_action c.args.left.now) c.requires.left.0 c.requires.left.1 c.sorts_of-sorts.result.now c.sorts_of-sorts.ensures

pub add_term_equalities-requires-clause-firsts : goal.add_term_equalities-requires-clause-firsts
add_term_equalities-requires-clause-firsts c = subst (All (IsTerm c.args.sig.now c.args.pool.now.trees)) (sym c.as_slice-firsts.ensures.value) c.requires.left.1.over

pub add_term_equalities-requires-clause-seconds : goal.add_term_equalities-requires-clause-seconds
add_term_equalities-requires-clause-seconds c = subst (All (IsTerm c.args.sig.now c.args.pool.now.trees)) (sym c.as_slice-seconds.ensures.value) c.requires.right.1.over

pub returns-clause-added : goal.returns-clause-added
returns-clause-added c = ok_then c.add_term_equalities.result (λ added. λ a b h k.
    added
    ∙ ap (λ z. map (term_at c.args.sig.now c.args.pool.now.trees) c.args.conditions.now.items ++ z)
    (equalities_are c.args.sig.now c.args.pool.now.trees (plain_action c.args.left.now) (plain_action c.args.right.now) a b h k c.sorts_of-sorts.result.now c.as_slice-firsts.result.now c.as_slice-seconds.result.now c.sorts_of-sorts.ensures c.as_slice-firsts.ensures.value c.as_slice-seconds.ensures.value))
    c.add_term_equalities.ensures.added
