use Rattle.data_rewriter.proofs.Deciding.{told, denied, falsum}
use Rattle.data_rewriter.proofs.machine.first_decides.Goals as goal

pub returns-then-looks_first : goal.returns-then-looks_first
returns-then-looks_first c = λ sig own all inside term rest.
    let looks = told (c.looks_first.ensures sig own c.args.pool.now.trees all inside) c.if-looks_first.true in
    let value = c.is_truth_value.ensures sig own all term in
    ((λ b. (looks, value.0 b)), (λ d. value.1 d.1))

pub returns : goal.returns
returns c = λ sig own all inside term rest. ((λ b. absurd (falsum b)), (λ d. absurd (denied (c.looks_first.ensures sig own c.args.pool.now.trees all inside) c.if-looks_first.false d.0)))
