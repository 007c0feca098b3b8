use Rattle.std.proofs.Common.{◌∙◌, ◌<◌, length, ◌++◌, ◌∷◌, [], subst}
use Rattle.data_theory.specs.Functions.{Function}
use Rattle.lps_printer.specs.SignatureNames.{is_function_once}
use Rattle.lps_printer.proofs.NameTables.{one_more, entry_told}
use Rattle.lps_printer.proofs.tables.once_functions.Goals as goal

pub loop-number-preserved : goal.loop-number-preserved
loop-number-preserved c =
    let g = c.args.sig.now in
    let F = λ (f : Function). is_function_once g f.name in
    let within : c.loop-number.number < length g.functions = subst (λ n. c.loop-number.number < n) c.fun_count-number-end.ensures c.loop-number-test.true in
    let told = entry_told F c.in_ok-is_function_once.field-0 g.functions c.loop-number.number within c.in_ok-is_function_once.ensures in
    c.in_ok-push.ensures.items ∙ (λ i. c.loop-number.invariant i ++ told.2 i ∷ []) ∙ one_more F g.functions c.loop-number.number told.0 within told.1
