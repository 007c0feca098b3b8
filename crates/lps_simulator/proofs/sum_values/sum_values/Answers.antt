use Rattle.std.proofs.Common.{get_or}
use Rattle.std.proofs.lemmas.List.Elements.{All-get_or}
use Rattle.lps_core.specs.Fitting.{IsVariable, sort_of_variable}
use Rattle.lps_core.proofs.PoolTrees.{extends_on}
use Rattle.lps_simulator.proofs.SumListing.{sort_read, sort_inside, sums_none, sums_more, sums_all}
use Rattle.lps_simulator.proofs.sum_values.sum_values.Goals as goal

pub var_sort-requires : goal.var_sort-requires
var_sort-requires c = All-get_or (IsVariable c.args.sig.now) c.args.sums.now c.loop-sum.sum-index (record { 0 = 0 }) c.loop-sum-test.true c.requires

pub values-requires : goal.values-requires
values-requires c = sort_inside c.args.sig.now c.signature_stands.ensures (get_or c.args.sums.now c.loop-sum.sum-index (record { 0 = 0 })) c.var_sort.result (All-get_or (IsVariable c.args.sig.now) c.args.sums.now c.loop-sum.sum-index (record { 0 = 0 }) c.loop-sum-test.true c.requires) c.var_sort.ensures

pub returns-in_err-found-clause-kept : goal.returns-in_err-found-clause-kept
returns-in_err-found-clause-kept c = extends_on c.args.pool.now.trees c.loop-sum.pool.trees c.values.new.pool.trees c.loop-sum.invariant.kept c.values.ensures.kept

pub returns-in_err-push-clause-kept : goal.returns-in_err-push-clause-kept
returns-in_err-push-clause-kept c = extends_on c.args.pool.now.trees c.loop-sum.pool.trees c.values.new.pool.trees c.loop-sum.invariant.kept c.values.ensures.kept

pub loop-sum-preserved : goal.loop-sum-preserved
loop-sum-preserved c =
    let x = get_or c.args.sums.now c.loop-sum.sum-index (record { 0 = 0 }) in
    let declared = All-get_or (IsVariable c.args.sig.now) c.args.sums.now c.loop-sum.sum-index (record { 0 = 0 }) c.loop-sum-test.true c.requires in
    record {
      kept = extends_on c.args.pool.now.trees c.loop-sum.pool.trees c.values.new.pool.trees c.loop-sum.invariant.kept c.values.ensures.kept;
      listed = sums_more c.args.sig.now c.signature_stands.ensures c.args.bound c.loop-sum.pool.trees c.values.new.pool.trees c.values.ensures.kept c.args.sums.now c.loop-sum.sum-index (record { 0 = 0 }) c.var_sort.result c.loop-sum.lists.items c.push.new.self.items c.loop-sum.cut c.is_cut-cut.result c.in_ok-found.found
          c.loop-sum-test.true (sort_read c.args.sig.now x c.var_sort.result declared c.var_sort.ensures) c.loop-sum.invariant.listed c.in_ok-found.ensures.listed c.in_ok-push.ensures.items c.is_cut-cut.ensures;
    }

pub returns-clause-listed : goal.returns-clause-listed
returns-clause-listed c = sums_all c.args.sig.now c.args.bound c.loop-sum.pool.trees c.args.sums.now c.loop-sum.sum-index _ c.loop-sum.cut c.loop-sum-test.false c.loop-sum.invariant.listed
