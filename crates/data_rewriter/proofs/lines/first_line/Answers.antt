use Rattle.std.proofs.Common.{List, sym, ap, ◌∙◌, subst}
use Rattle.data_theory.specs.Terms.{application}
use Rattle.data_theory.specs.IdTerms.{symbol_under}
use Rattle.data_theory.specs.IdData.{data_meant}
use Rattle.data_theory.specs.declared.ids.TermId.{TermId}
use Rattle.data_rewriter.specs.Standing.{IsTerm, listed_at, terms_of}
use Rattle.data_rewriter.specs.Signs.{sign_at}
use Rattle.data_rewriter.specs.FirstLines.{LineAt, IsFirstLine}
use Rattle.std.specs.List.{All}
use Rattle.data_rewriter.proofs.Standings.{call_at}
use Rattle.data_rewriter.proofs.Arities.{at_one, at_two, at_three, at_none, at_atom}
use Rattle.data_rewriter.proofs.lines.first_line.Goals as goal

pub returns-in_default : goal.returns-in_default
returns-in_default g c = λ sig t root i d r b.
    at_atom sig c.args.pool.now.trees c.args.root c.node-node.result.now.head _ c.in_default.not-Fun c.node-node.ensures.tree i d r b

pub returns-then-args-eq1 : goal.returns-then-args-eq1
returns-then-args-eq1 g c = λ sig t root.
    let call = call_at sig c.args.pool.now.trees c.args.root c.in-Fun.fun c.node-node.result.now.head c.node-node.result.now.args.items c.in-Fun.is c.node-node.ensures.tree c.node-node.ensures.below root in
    let all : All (IsTerm sig c.args.pool.now.trees) c.as_slice-args.result.now = subst (All (IsTerm sig c.args.pool.now.trees)) (sym c.as_slice-args.ensures.value) call.arguments in
    let first = at_one sig c.args.pool.now.trees (symbol_under sig c.in-Fun.fun) c.line_of_one.result c.as_slice-args.result.now c.if-args-eq1.true all (λ x. c.line_of_one.ensures sig t call.inside x) in
    let is = call.is ∙ ap (λ (ids : List TermId). application (symbol_under sig c.in-Fun.fun) (terms_of (listed_at sig c.args.pool.now.trees ids))) (sym c.as_slice-args.ensures.value) in
    subst (λ u. IsFirstLine sig c.args.pool.now.trees u c.line_of_one.result) (sym is) first

pub returns-then-args-eq2 : goal.returns-then-args-eq2
returns-then-args-eq2 g c = λ sig t root.
    let call = call_at sig c.args.pool.now.trees c.args.root c.in-Fun.fun c.node-node.result.now.head c.node-node.result.now.args.items c.in-Fun.is c.node-node.ensures.tree c.node-node.ensures.below root in
    let all : All (IsTerm sig c.args.pool.now.trees) c.as_slice-args.result.now = subst (All (IsTerm sig c.args.pool.now.trees)) (sym c.as_slice-args.ensures.value) call.arguments in
    let first = at_two sig c.args.pool.now.trees (symbol_under sig c.in-Fun.fun) c.line_of_two.result c.as_slice-args.result.now c.if-args-eq2.true all (λ x y. c.line_of_two.ensures sig t call.inside x y) in
    let is = call.is ∙ ap (λ (ids : List TermId). application (symbol_under sig c.in-Fun.fun) (terms_of (listed_at sig c.args.pool.now.trees ids))) (sym c.as_slice-args.ensures.value) in
    subst (λ u. IsFirstLine sig c.args.pool.now.trees u c.line_of_two.result) (sym is) first

pub returns-then-args-eq3 : goal.returns-then-args-eq3
returns-then-args-eq3 g c = λ sig t root.
    let call = call_at sig c.args.pool.now.trees c.args.root c.in-Fun.fun c.node-node.result.now.head c.node-node.result.now.args.items c.in-Fun.is c.node-node.ensures.tree c.node-node.ensures.below root in
    let all : All (IsTerm sig c.args.pool.now.trees) c.as_slice-args.result.now = subst (All (IsTerm sig c.args.pool.now.trees)) (sym c.as_slice-args.ensures.value) call.arguments in
    let first = at_three sig c.args.pool.now.trees (symbol_under sig c.in-Fun.fun) c.line_of_three.result c.as_slice-args.result.now c.if-args-eq3.true all (λ x y z. c.line_of_three.ensures sig t call.inside x y z) in
    let is = call.is ∙ ap (λ (ids : List TermId). application (symbol_under sig c.in-Fun.fun) (terms_of (listed_at sig c.args.pool.now.trees ids))) (sym c.as_slice-args.ensures.value) in
    subst (λ u. IsFirstLine sig c.args.pool.now.trees u c.line_of_three.result) (sym is) first

pub returns : goal.returns
returns g c = λ sig t root i d r b.
    let call = call_at sig c.args.pool.now.trees c.args.root c.in-Fun.fun c.node-node.result.now.head c.node-node.result.now.args.items c.in-Fun.is c.node-node.ensures.tree c.node-node.ensures.below root in
    let is = call.is ∙ ap (λ (ids : List TermId). application (symbol_under sig c.in-Fun.fun) (terms_of (listed_at sig c.args.pool.now.trees ids))) (sym c.as_slice-args.ensures.value) in
    at_none sig c.args.pool.now.trees (symbol_under sig c.in-Fun.fun) (sign_at c.args.tables.now.signs.items c.in-Fun.fun) c.as_slice-args.result.now (t.signs c.in-Fun.fun call.inside) c.if-args-eq1.false c.if-args-eq2.false c.if-args-eq3.false i d r (subst (λ u. LineAt (data_meant sig) i u d r) is b)
