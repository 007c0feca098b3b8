use Rattle.std.proofs.Common.{◌≤◌, length, arith, ap, sym, ◌∙◌}
use Rattle.data_theory.specs.Taken.{with_name}
use Rattle.lps_core.specs.Naming.{name_of}
use Rattle.lps_core.proofs.NamingLoops.{adding_none, adding_more, adding_all, name_is}
use Rattle.lps_core.proofs.naming.add_variable_names.Goals as goal

pub loop-var-init : goal.loop-var-init
loop-var-init c = adding_none (name_of c.args.sig.now) c.args.vars.now c.args.names.now.keys

pub loop-var-preserved : goal.loop-var-preserved
loop-var-preserved c =
    adding_more (name_of c.args.sig.now) c.args.vars.now c.args.names.now.keys c.loop-var.var-index c.loop-var.names.keys c.insert.new.self.keys (record { 0 = 0 }) c.loop-var.invariant c.loop-var-test.true
    (c.in_ok-insert.ensures.keys ∙ ap (with_name c.loop-var.names.keys) (sym (name_is c.args.sig.now _ _ (c.requires c.loop-var.var-index _ c.loop-var-test.true) c.var_name.ensures)))

pub returns : goal.returns
returns c =
    let n = c.loop-var-test.false in
    let l : length c.args.vars.now ≤ c.loop-var.var-index = omega (arith, n) in
    adding_all (name_of c.args.sig.now) c.args.vars.now c.args.names.now.keys c.loop-var.var-index c.loop-var.names.keys c.loop-var.invariant l
