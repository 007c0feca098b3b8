use Rattle.std.proofs.Common.{◌≡◌, ◌≤◌, ◌^◌, ap, length, arith}
use Rattle.data_theory.specs.Signature.{Sig}
use Rattle.data_theory.proofs.FreshLemmas.{taken_few, one_more_taken}
use Rattle.data_theory.proofs.signature.Signature.fresh.Goals as goal

pub loop-number-preserved : goal.loop-number-preserved
loop-number-preserved c = record {
  same = c.loop-number.invariant.same;
  taken = one_more_taken c.args.self.now c.loop-number.self c.args.base.now c.loop-number.number _ c.as_str.result.now c.is_taken.result c.loop-number.invariant.same c.loop-number.invariant.taken c.in_ok-text.ensures c.as_str.ensures.value c.is_taken.ensures c.if-not-is_taken.false;
}

pub unreachable-requires : goal.unreachable-requires
unreachable-requires c =
    let names : length c.self.inside.taken.keys ≡ length c.args.self.now.taken = ap (λ (s : Sig). length s.taken) c.self.view_is in
    let fits : c.loop-number.number ≤ 2 ^ 64 = omega (arith, c.loop-number.auto.number-end, c.len-number-end.ensures.small) in
    omega (arith, taken_few c.args.self.now c.args.base.now c.loop-number.number fits c.loop-number.invariant.taken, names, c.len-number-end.ensures.len)
