use Rattle.std.proofs.Common.{◌≡◌, ℕ, length, drop, map, subst, arith}
use Rattle.lps_printer.specs.Adding.{Adds}
use Rattle.lps_printer.specs.SummandLayout.{print_variables}
use Rattle.lps_printer.specs.TextWordings.{variable_by}
use Rattle.lps_printer.proofs.CodeSorts.{first_variable, variables_step, variables_end}
use Rattle.lps_printer.proofs.sorts.push_further_variables.Goals as goal

pub loop-var-preserved : goal.loop-var-preserved
loop-var-preserved c = λ n k v final a.
    c.loop-var.invariant n k v final (variables_step c.args.sig.now n c.args.vars.now c.loop-var.var-index first_variable (omega arith) c.in_ok-push_token.ensures (c.in_ok-push_variable.ensures n k v) a)

pub returns : goal.returns
returns c = λ n k v.
    let end : length c.args.vars.now ≡ c.loop-var.var-index = omega arith in
    let out = c.loop-var.out.items in
    c.loop-var.invariant n k v out (subst (λ (i : ℕ). Adds out out (λ rest. print_variables (map (variable_by c.args.sig.now n) (drop i c.args.vars.now)) rest)) end (variables_end c.args.sig.now n c.args.vars.now out))
