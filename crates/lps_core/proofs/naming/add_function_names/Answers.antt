use Rattle.std.proofs.Common.{◌<◌, ◌≤◌, length, arith, ap, sym, ◌∙◌}
use Rattle.data_theory.specs.Functions.{Function}
use Rattle.data_theory.specs.Taken.{with_name}
use Rattle.lps_core.proofs.NamingLoops.{adding_none, adding_more, adding_all, function_name_is}
use Rattle.lps_core.proofs.naming.add_function_names.Goals as goal

pub loop-fun-init : goal.loop-fun-init
loop-fun-init c = adding_none (λ (f : Function). f.name) c.args.sig.now.functions c.args.names.now.keys

pub loop-fun-preserved : goal.loop-fun-preserved
loop-fun-preserved c =
    let l = c.loop-fun-test.true in
    let e = c.fun_count-fun-end.ensures in
    let w : c.loop-fun.fun < length c.args.sig.now.functions = omega (arith, l, e) in
    let d = function_name_is c.args.sig.now c.loop-fun.fun c.fun_name_id.result w c.fun_name_id.ensures in
    adding_more (λ (f : Function). f.name) c.args.sig.now.functions c.args.names.now.keys c.loop-fun.fun c.loop-fun.names.keys c.insert.new.self.keys d.0 c.loop-fun.invariant w
    (c.in_ok-insert.ensures.keys ∙ ap (with_name c.loop-fun.names.keys) (sym d.1))

pub returns : goal.returns
returns c =
    let n = c.loop-fun-test.false in
    let e = c.fun_count-fun-end.ensures in
    let l : length c.args.sig.now.functions ≤ c.loop-fun.fun = omega (arith, n, e) in
    adding_all (λ (f : Function). f.name) c.args.sig.now.functions c.args.names.now.keys c.loop-fun.fun c.loop-fun.names.keys c.loop-fun.invariant l
