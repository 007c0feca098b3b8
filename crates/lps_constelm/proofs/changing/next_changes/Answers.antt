use Rattle.std.proofs.Common.{◌≡◌}
use Rattle.std.specs.Prelude.{MatchBool}
use Rattle.data_theory.specs.IdTrees.{put_tree}
use Rattle.term_pool.specs.Bindings.{listed}
use Rattle.term_pool.specs.HeadTrees.{tree_at}
use Rattle.lps_core.specs.PlainLinears.{plain_next}
use Rattle.lps_parelm.proofs.WholeElimination.{if_ok}
use Rattle.lps_constelm.specs.Putting.{NextChangesBy, NextStaysBy}
use Rattle.lps_constelm.proofs.ChangingSteps.{next_elsewhere}
use Rattle.lps_constelm.proofs.changing.next_changes.Goals as goal

pub returns-in-Some-clause-changes : goal.returns-in-Some-clause-changes
returns-in-Some-clause-changes c =
    let ts = c.args.pool.now.trees in
    let e = listed ts c.args.by.now in
    let init = c.args.init in
    let next = c.args.next.now in
    let term = c.index.result.now in
    if_ok c.goes_elsewhere.result (λ b. MatchBool b (¬ (put_tree e (tree_at ts term) ≡ tree_at ts init)) (put_tree e (tree_at ts term) ≡ tree_at ts init)) (λ b. MatchBool b (NextChangesBy e ts c.args.place init (plain_next next)) (NextStaysBy e ts c.args.place init (plain_next next)))
    (λ b h. next_elsewhere e ts c.args.place init next c.in-Some.terms term c.in-Some.is c.requires.place c.index.ensures b h) c.goes_elsewhere.ensures.elsewhere
