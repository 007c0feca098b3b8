use Rattle.std.proofs.Common.{◌<◌, sym, subst, length, rules}
use Rattle.greibach.proofs.ListedTerms.{paired_pushed}
use Rattle.greibach.proofs.environments.bound_to.Goals as goal

pub loop-number-preserved : goal.loop-number-preserved
loop-number-preserved c =
    let l : c.loop-number.number < length c.args.vars.now = search rules in
    paired_pushed c.args.vars.now c.args.terms.now c.loop-number.number _ _ c.loop-number.by.items c.push.new.self.items l (subst (λ n. c.loop-number.number < n) (sym c.requires) l) c.loop-number.invariant c.in_ok-push.ensures.items
