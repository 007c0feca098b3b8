use Rattle.std.proofs.Common.{◌≡◌, ◌<◌, arith, length, refl}
use Rattle.data_theory.proofs.IdGrowthLemmas.{growth_after_growth_is_growth}
use Rattle.stack_encoder.specs.Frames.{plain_symbols}
use Rattle.stack_encoder.proofs.FreshWords.{stack_sort_there, counted, stack_declared}
use Rattle.stack_encoder.proofs.symbols.add_stack.Goals as goal

pub overflow_sub-first-2 : goal.overflow_sub-first-2
overflow_sub-first-2 c =
    let e = counted c.args.sig.now c.args.kinds.now.keys c.add_sort.new.sig c.in_ok-sort.sort c.in_ok-sort.ensures.added in
    let n : c.len-columns.result ≡ length c.args.kinds.now.keys = c.len-columns.ensures.len in
    let f = c.fun_count.ensures in
    omega (arith, e, n, f)

pub add_parameter-requires : goal.add_parameter-requires
add_parameter-requires c = stack_sort_there c.args.sig.now c.args.kinds.now.keys c.add_sort.new.sig c.in_ok-sort.sort c.in_ok-sort.ensures.added

pub symbols_behind-requires : goal.symbols_behind-requires
symbols_behind-requires c =
    let e = counted c.args.sig.now c.args.kinds.now.keys c.add_sort.new.sig c.in_ok-sort.sort c.in_ok-sort.ensures.added in
    let n : c.len-columns.result ≡ length c.args.kinds.now.keys = c.len-columns.ensures.len in
    let f = c.fun_count.ensures in
    let l : c.fun_count.result < 18446744073709551616 = c.fun_count.type_inv in
    omega (arith, e, n, f, l)

pub returns-clause-added : goal.returns-clause-added
returns-clause-added c =
    stack_declared c.args.sig.now c.args.kinds.now.keys c.add_sort.new.sig c.add_parameter.new.sig c.in_ok-sort.sort _ c.len-columns.result c.fun_count.result c.in_ok-stack.stack c.in_ok-made.made.stack (plain_symbols c.in_ok-made.made)
    c.in_ok-sort.ensures.added c.in_ok-stack.ensures.added c.len-columns.ensures.len c.fun_count.ensures refl c.in_ok-made.ensures.symbols c.in_ok-made.ensures.stack

pub returns-clause-grown : goal.returns-clause-grown
returns-clause-grown c = growth_after_growth_is_growth c.args.sig.now c.add_sort.new.sig c.add_parameter.new.sig c.add_sort.ensures.grown c.add_parameter.ensures.grown.grown
