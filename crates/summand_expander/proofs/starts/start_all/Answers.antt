use Rattle.std.proofs.Common.{map, not, refl, ap, ◌++◌, ◌∙◌}
use Rattle.std.proofs.lemmas.List.Elements.{All-weaker}
use Rattle.lps_core.proofs.PoolTrees.{extends_on}
use Rattle.lps_core.specs.PlainLinears.{plain_summand}
use Rattle.lps_core.specs.TreeSummands.{IsSummandIn}
use Rattle.lps_core.proofs.KeptSummands.{summand_in_kept}
use Rattle.summand_expander.specs.StartedProducts.{start_of}
use Rattle.summand_expander.proofs.StartingLoops.{all_groups, back_in, front_in}
use Rattle.summand_expander.proofs.starts.start_all.Goals as goal

pub start_group-requires-clause-within : goal.start_group-requires-clause-within
start_group-requires-clause-within c = front_in c.args.pool.now.trees c.args.summands.now c.split_at.result.0.now c.args.lefts c.split_at.ensures.front c.requires.within

pub start_group-requires-2-clause-within : goal.start_group-requires-2-clause-within
start_group-requires-2-clause-within c =
    let ts = c.args.pool.now.trees in
    let us = c.start_group.new.pool.trees in
    All-weaker (IsSummandIn ts) (IsSummandIn us) (λ s i. summand_in_kept ts us c.start_group.ensures.kept s i) (map plain_summand c.split_at-2.result.0.now)
    (front_in ts c.split_at.result.1.now c.split_at-2.result.0.now c.args.rights c.split_at-2.ensures.front (back_in ts c.args.summands.now c.split_at.result.1.now c.args.lefts c.split_at.ensures.back c.requires.within))

pub start_group-requires-3-clause-within : goal.start_group-requires-3-clause-within
start_group-requires-3-clause-within c =
    let ts = c.args.pool.now.trees in
    let us = c.start_group-2.new.pool.trees in
    All-weaker (IsSummandIn ts) (IsSummandIn us) (λ s i. summand_in_kept ts us (extends_on ts c.start_group.new.pool.trees us c.start_group.ensures.kept c.start_group-2.ensures.kept) s i) (map plain_summand c.split_at-2.result.1.now)
    (back_in ts c.split_at.result.1.now c.split_at-2.result.1.now c.args.rights c.split_at-2.ensures.back (back_in ts c.args.summands.now c.split_at.result.1.now c.args.lefts c.split_at.ensures.back c.requires.within))

pub returns-clause-started : goal.returns-clause-started
returns-clause-started c =
    all_groups c.args.pool.now.trees c.start_group.new.pool.trees c.start_group-2.new.pool.trees c.start_group-3.new.pool.trees c.args.flag.now (start_of c.args.start) c.is_left_alone-left_first.result (not c.is_left_alone-left_first.result) c.args.lefts c.args.rights c.args.summands.now
    c.split_at.result.0.now c.split_at.result.1.now c.split_at-2.result.0.now c.split_at-2.result.1.now c.in_ok-made.made.items c.in_ok-of_right.of_right.items c.in_ok-of_both.of_both.items c.append-2.new.self.items c.start_group.ensures.kept c.start_group-2.ensures.kept
    c.start_group-3.ensures.kept c.requires.within c.split_at.ensures.front c.split_at.ensures.back c.split_at-2.ensures.front c.split_at-2.ensures.back c.is_left_alone-left_first.ensures refl c.in_ok-made.ensures.started c.in_ok-of_right.ensures.started c.in_ok-of_both.ensures.started
    (c.in_ok-append-2.ensures.items ∙ ap (λ z. z ++ c.in_ok-of_both.of_both.items) c.in_ok-append.ensures.items)
