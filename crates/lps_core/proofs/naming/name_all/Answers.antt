use Rattle.std.proofs.Common.{◌+◌, ◌≤◌, length, arith, ap, subst, sym, ◌∙◌}
use Rattle.std.specs.List.{Contains}
use Rattle.data_theory.specs.Taken.{with_name}
use Rattle.lps_core.proofs.NamedSums.{names_then, variable_kept}
use Rattle.lps_core.proofs.NamingLoops.{IsNamingSums, naming_no_sums, naming_one_sum, naming_all_sums, named_variable, name_is}
use Rattle.lps_core.proofs.naming.name_all.Goals as goal

pub loop-sum-init : goal.loop-sum-init
loop-sum-init c =
    subst (λ z. IsNamingSums (λ n. Contains c.args.used.now.keys n) c.args.sig.now c.args.sums.now 0 c.args.sig.now c.new-named.result.items z) (sym c.new-mine.ensures.empty)
    (subst (λ z. IsNamingSums (λ n. Contains c.args.used.now.keys n) c.args.sig.now c.args.sums.now 0 c.args.sig.now z _) (sym c.new-named.ensures.items) (naming_no_sums _ _ _ c.requires.stands))

pub returns-in_err-new-clause-grown : goal.returns-in_err-new-clause-grown
returns-in_err-new-clause-grown c = names_then _ _ _ c.loop-sum.invariant.on c.name_sum.ensures.grown

pub var_name-requires : goal.var_name-requires
var_name-requires c =
    named_variable _ c.loop-sum.sig _ c.name_sum.new.sig c.in_ok-new.new (variable_kept c.args.sig.now c.loop-sum.sig _ c.loop-sum.invariant.on.grown (c.requires.variables c.loop-sum.sum-index _ c.loop-sum-test.true)) c.in_ok-new.ensures.named

pub returns-in_err-insert-clause-grown : goal.returns-in_err-insert-clause-grown
returns-in_err-insert-clause-grown c = names_then _ _ _ c.loop-sum.invariant.on c.name_sum.ensures.grown

pub returns-in_err-push-clause-grown : goal.returns-in_err-push-clause-grown
returns-in_err-push-clause-grown c = names_then _ _ _ c.loop-sum.invariant.on c.name_sum.ensures.grown

pub loop-sum-preserved : goal.loop-sum-preserved
loop-sum-preserved c =
    let there = named_variable _ c.loop-sum.sig _ c.name_sum.new.sig c.in_ok-new.new (variable_kept c.args.sig.now c.loop-sum.sig _ c.loop-sum.invariant.on.grown (c.requires.variables c.loop-sum.sum-index _ c.loop-sum-test.true)) c.in_ok-new.ensures.named in
    subst (λ z. IsNamingSums (λ n. Contains c.args.used.now.keys n) c.args.sig.now c.args.sums.now (c.loop-sum.sum-index + 1) c.name_sum.new.sig z c.insert.new.self.keys) (sym c.in_ok-push.ensures.items)
    (naming_one_sum (λ n. Contains c.args.used.now.keys n) c.args.sig.now c.args.sums.now c.loop-sum.sum-index c.loop-sum.sig c.loop-sum.named.items c.loop-sum.mine.keys (record { 0 = 0 }) c.loop-sum.invariant c.loop-sum-test.true c.requires.variables
    c.name_sum.new.sig c.in_ok-new.new c.insert.new.self.keys c.name_sum.ensures.grown c.in_ok-new.ensures.named
    (c.in_ok-insert.ensures.keys ∙ ap (with_name c.loop-sum.mine.keys) (sym (name_is c.name_sum.new.sig c.in_ok-new.new c.var_name.result there c.var_name.ensures))))

pub returns-clause-named : goal.returns-clause-named
returns-clause-named c =
    let n = c.loop-sum-test.false in
    let l : length c.args.sums.now ≤ c.loop-sum.sum-index = omega (arith, n) in
    naming_all_sums (λ n. Contains c.args.used.now.keys n) c.args.sig.now c.args.sums.now c.loop-sum.sum-index c.loop-sum.sig c.loop-sum.named.items c.loop-sum.mine.keys c.loop-sum.invariant l
