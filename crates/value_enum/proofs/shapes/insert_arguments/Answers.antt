use Rattle.std.proofs.Common.{take, sym, subst}
use Rattle.std.specs.Prelude.{get_or}
use Rattle.std.proofs.lemmas.List.{take_all, take_more}
use Rattle.data_theory.specs.declared.ids.FunId.{FunId}
use Rattle.value_enum.specs.Shapes.{AddsArguments}
use Rattle.value_enum.proofs.SortsUnder.{adds_no_arguments, adds_arguments_of}
use Rattle.value_enum.proofs.shapes.insert_arguments.Goals as goal

pub loop-fun-init : goal.loop-fun-init
loop-fun-init c = adds_no_arguments c.args.sig.now c.args.sorts.now.keys

pub args_of-arguments-requires : goal.args_of-arguments-requires
args_of-arguments-requires c = c.requires c.loop-fun.fun-index (record { 0 = 0 }) c.loop-fun-test.true

pub loop-fun-preserved : goal.loop-fun-preserved
loop-fun-preserved c =
    let i = c.loop-fun.fun-index in
    let d : FunId = record { 0 = 0 } in
    subst (λ fs. AddsArguments c.args.sig.now fs c.args.sorts.now.keys c.insert_all.new.sorts.keys) (sym (take_more c.args.funs.now i d c.loop-fun-test.true))
    (adds_arguments_of c.args.sig.now (take i c.args.funs.now) (get_or c.args.funs.now i d) c.args_of-arguments.result.now c.args.sorts.now.keys c.loop-fun.sorts.keys c.insert_all.new.sorts.keys c.args_of-arguments.ensures (c.requires i d c.loop-fun-test.true) c.loop-fun.invariant c.in_ok-insert_all.ensures)

pub returns : goal.returns
returns c = subst (λ fs. AddsArguments c.args.sig.now fs c.args.sorts.now.keys c.loop-fun.sorts.keys) (take_all c.loop-fun.fun-index c.args.funs.now c.loop-fun-test.false) c.loop-fun.invariant
