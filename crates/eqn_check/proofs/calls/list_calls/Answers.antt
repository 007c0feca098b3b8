use Rattle.std.proofs.Common.{rules, arith}
use Rattle.eqn_check.specs.CallTables.{ListsEquationCalls}
use Rattle.eqn_check.proofs.FallingLemmas.{zip_more, zip_all}
use Rattle.eqn_check.proofs.calls.list_calls.Goals as goal

pub loop-number-preserved : goal.loop-number-preserved
loop-number-preserved c =
    zip_more (ListsEquationCalls c.args.sig.now c.args.pool.now.trees) c.args.theory.now.equations.items c.loop-number.number c.index.result.now c.loop-number.lists.items c.in_ok-equation_calls.field-0 (search rules) c.index.ensures
    c.loop-number.invariant c.in_ok-equation_calls.ensures c.push.new.self.items c.in_ok-push.ensures.items

pub returns : goal.returns
returns c = zip_all (ListsEquationCalls c.args.sig.now c.args.pool.now.trees) c.args.theory.now.equations.items c.loop-number.number c.loop-number.lists.items (let n = c.loop-number-test.false in search (rules, arith, n)) c.loop-number.invariant
