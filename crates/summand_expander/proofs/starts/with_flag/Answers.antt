use Rattle.std.proofs.Common.{map, sym, subst}
use Rattle.std.specs.List.{All}
use Rattle.std.proofs.lemmas.List.Elements.{All-weaker}
use Rattle.lps_core.specs.PlainLinears.{plain_linear, plain_summand}
use Rattle.lps_core.specs.TreeSummands.{IsSummandIn}
use Rattle.lps_core.proofs.KeptSummands.{summand_in_kept}
use Rattle.summand_expander.specs.StartedProducts.{start_of}
use Rattle.summand_expander.specs.StartedTrees.{AreStarted}
use Rattle.summand_expander.proofs.StartingLoops.{with_flag_made}
use Rattle.summand_expander.proofs.starts.with_flag.Goals as goal

pub start_all-requires-clause-within : goal.start_all-requires-clause-within
start_all-requires-clause-within c =
    let ts = c.args.pool.now.trees in
    let us = c.flag_terms.new.pool.trees in
    subst (λ z. All (IsSummandIn us) (map plain_summand z)) (sym c.as_slice-summands.ensures.value)
    (All-weaker (IsSummandIn ts) (IsSummandIn us) (λ s i. summand_in_kept ts us c.flag_terms.ensures.kept s i) (map plain_summand c.args.product.summands.items) c.requires.within)

pub returns-clause-started : goal.returns-clause-started
returns-clause-started c =
    with_flag_made c.args.pool.now.trees c.flag_terms.new.pool.trees c.start_all.new.pool.trees c.intern.new.self.trees c.in_ok-flag.flag c.args.var (start_of c.args.start) c.args.lefts c.args.rights (plain_linear c.args.product) _ c.in_ok-set.set c.flag_terms.ensures.kept
    c.start_all.ensures.kept c.intern.ensures.kept c.requires.within c.in_ok-flag.ensures.variable c.in_ok-flag.ensures.terms c.in_ok-push.ensures.items c.in_ok-push-2.ensures.items c.in_ok-set.ensures.within c.in_ok-set.ensures.tree
    (subst (λ z. AreStarted c.flag_terms.new.pool.trees c.start_all.new.pool.trees c.in_ok-flag.flag (start_of c.args.start) c.args.lefts c.args.rights (map plain_summand z) (map plain_summand c.in_ok-summands.summands.items)) c.as_slice-summands.ensures.value c.in_ok-summands.ensures.started)
