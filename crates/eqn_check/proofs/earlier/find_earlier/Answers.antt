use Rattle.std.proofs.Common.{length, sym, ap, ◌∙◌}
use Rattle.eqn_check.specs.Earlier.{IsStartOf, IsOpenOf}
use Rattle.eqn_check.proofs.JudgedLemmas.{as_long}
use Rattle.eqn_check.proofs.earlier.find_earlier.Goals as goal

pub previous_ones-requires-3 : goal.previous_ones-requires-3
previous_ones-requires-3 c =
    ap length c.as_slice-5.ensures.value
    ∙ (sym (as_long (IsStartOf c.args.pool.now.trees c.fun_count-count.result) c.args.theory.now.equations.items c.in_ok-starts.starts.items c.in_ok-starts.ensures)
    ∙ (as_long (IsOpenOf c.args.pool.now.trees c.fun_count-count.result) c.args.theory.now.equations.items c.in_ok-opens.opens.items c.in_ok-opens.ensures ∙ ap length (sym c.as_slice-6.ensures.value)))
