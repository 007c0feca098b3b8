use Rattle.std.proofs.Common.{◌<◌, ◌≤◌, get_or, length, sym, ap, ◌∙◌, subst, rules, arith}
use Rattle.data_theory.specs.Terms.{Terms}
use Rattle.data_theory.specs.Equations.{equals, trueᵗ}
use Rattle.data_rewriter.specs.Standing.{StandsFor}
use Rattle.data_theory.specs.Equations as equations
use Rattle.data_rewriter.proofs.Standings.{arguments_are, at_place, past_places, all_arguments, at_slice}
use Rattle.data_rewriter.proofs.lines.argument_at.Goals as goal

pub returns-then-place-args : goal.returns-then-place-args
returns-then-place-args c = λ sig f us term is.
    let all = all_arguments sig c.args.pool.now.trees c.args.term c.node.result.now.head c.node.result.now.args.items _ us c.node.ensures.tree c.node.ensures.below term is in
    let same = arguments_are sig c.args.pool.now.trees c.args.term c.node.result.now.head c.node.result.now.args.items _ us c.node.ensures.tree is in
    let less : c.args.place < length c.node.result.now.args.items = let a = c.if-place-args.true in search (rules, arith, a, c.as_slice-args.ensures.value) in
    let found = at_place sig c.args.pool.now.trees c.node.result.now.args.items c.args.place _ less (at_slice c.args.place c.node.result.now.args.items c.as_slice-args.result.now c.as_slice-args.ensures.value less) all in
    subst (λ (vs : Terms). StandsFor sig c.args.pool.now.trees (get_or c.as_slice-args.result.now c.args.place (record { 0 = 0 })) (equations.term_at vs c.args.place)) (sym same) found

pub returns-else-place-args : goal.returns-else-place-args
returns-else-place-args c = λ sig f us term is.
    let same = arguments_are sig c.args.pool.now.trees c.args.term c.node.result.now.head c.node.result.now.args.items _ us c.node.ensures.tree is in
    let less : length c.node.result.now.args.items ≤ c.args.place = let a = c.if-place-args.false in search (rules, arith, a, c.as_slice-args.ensures.value) in
    ap (λ (vs : Terms). equations.term_at vs c.args.place) same ∙ past_places sig c.args.pool.now.trees c.node.result.now.args.items c.args.place less
