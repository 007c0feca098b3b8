use Rattle.eqn_check.specs.Comparisons.{meant_reading}
use Rattle.eqn_check.proofs.ComparisonLemmas.{never_contrary, turned_contrary, out_of_order, same_contrary}
use Rattle.eqn_check.proofs.exclusion.are_contrary_comparisons.Goals as goal

pub returns-then-not-contradict_turned : goal.returns-then-not-contradict_turned
returns-then-not-contradict_turned c =
    never_contrary (meant_reading c.args.sig.now c.args.pool.now.trees c.args.opposites.now c.args.said) (meant_reading c.args.sig.now c.args.pool.now.trees c.args.opposites.now c.args.also)
    c.args.said.relation c.args.also.relation c.contradict_turned.result c.contradict_turned.ensures c.if-not-contradict_turned.true

pub returns-then-turned : goal.returns-then-turned
returns-then-turned c =
    turned_contrary (meant_reading c.args.sig.now c.args.pool.now.trees c.args.opposites.now c.args.said) (meant_reading c.args.sig.now c.args.pool.now.trees c.args.opposites.now c.args.also)
    c.args.said.relation c.args.also.relation c.contradict_turned.result c.contradict_turned.ensures c.if-not-contradict_turned.false
    c.in_ok-turned.turned c.in_ok-turned.ensures c.if-turned.true

pub returns-then-not-contradict_in_order : goal.returns-then-not-contradict_in_order
returns-then-not-contradict_in_order c =
    out_of_order (meant_reading c.args.sig.now c.args.pool.now.trees c.args.opposites.now c.args.said) (meant_reading c.args.sig.now c.args.pool.now.trees c.args.opposites.now c.args.also)
    c.args.said.relation c.args.also.relation c.contradict_turned.result c.contradict_turned.ensures c.if-not-contradict_turned.false
    c.in_ok-turned.turned c.in_ok-turned.ensures c.if-turned.false c.contradict_in_order.result c.contradict_in_order.ensures c.if-not-contradict_in_order.true

pub returns : goal.returns
returns c =
    same_contrary (meant_reading c.args.sig.now c.args.pool.now.trees c.args.opposites.now c.args.said) (meant_reading c.args.sig.now c.args.pool.now.trees c.args.opposites.now c.args.also)
    c.args.said.relation c.args.also.relation c.contradict_turned.result c.contradict_turned.ensures c.if-not-contradict_turned.false
    c.in_ok-turned.turned c.in_ok-turned.ensures c.if-turned.false c.contradict_in_order.result c.contradict_in_order.ensures c.if-not-contradict_in_order.false
    c.in_ok-same.same c.in_ok-same.ensures
