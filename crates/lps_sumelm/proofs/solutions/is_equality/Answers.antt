use Rattle.std.proofs.Common.{arith}
use Rattle.lps_sumelm.proofs.Equalities.{not_two}
use Rattle.lps_sumelm.proofs.solutions.is_equality.Goals as goal

pub returns-in_default : goal.returns-in_default
returns-in_default c = let k = c.in_default.len_below in not_two c.args.sig.now c.signature_stands.ensures c.args.fun c.args_of.result.now c.requires c.args_of.ensures (λ l. omega (arith, k, l))

pub returns-in_default-2 : goal.returns-in_default-2
returns-in_default-2 c = let k = c.in_default.len_at_least in not_two c.args.sig.now c.signature_stands.ensures c.args.fun c.args_of.result.now c.requires c.args_of.ensures (λ l. omega (arith, k, l))
