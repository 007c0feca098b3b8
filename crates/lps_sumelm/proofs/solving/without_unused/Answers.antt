use Rattle.std.proofs.Common.{ap, subst, ◌∙◌}
use Rattle.std.specs.List.{Contains}
use Rattle.lps_core.specs.PlainLinears.{plain_summand}
use Rattle.lps_sumelm.specs.SummandsInCode.{sums_in}
use Rattle.lps_sumelm.proofs.Loops.{in_among}
use Rattle.lps_sumelm.proofs.UsedInCode.{used_means}
use Rattle.lps_sumelm.proofs.solving.without_unused.Goals as goal

pub returns-clause-used : goal.returns-clause-used
returns-clause-used c = λ g.
    used_means g c.args.pool.now.trees (plain_summand c.args.summand) c.in_ok-set.set.keys c.in_ok-sums.sums.items c.in_ok-set.ensures (c.in_ok-sums.ensures ∙ ap (sums_in c.in_ok-set.set.keys) c.as_slice.ensures.value)

pub returns-clause-among : goal.returns-clause-among
returns-clause-among c = λ v i.
    in_among c.in_ok-set.set.keys c.args.summand.sums.items v (subst (λ z. Contains z v) (c.in_ok-sums.ensures ∙ ap (sums_in c.in_ok-set.set.keys) c.as_slice.ensures.value) i)
