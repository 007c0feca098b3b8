use Rattle.std.proofs.Common.{sym, ◌∙◌}
use Rattle.std.proofs.lemmas.List.Folds.{list_all-map, list_all_at}
use Rattle.sort_checker.specs.declared.parameter_tables.Parameter.{Parameter}
use Rattle.sort_checker.specs.ParameterTables.{parameter_of}
use Rattle.sort_checker.specs.TypedTrees.{value_checks}
use Rattle.sort_checker.proofs.typed_parts.values_check.Goals as goal

pub returns-then-not-branch : goal.returns-then-not-branch
returns-then-not-branch c = λ ctx s ds sig has.
    sym (list_all-map (value_checks ctx s ds) (parameter_of c.args.sig.now) c.args.parameters.now
    ∙ list_all_at (λ (p : Parameter). value_checks ctx s ds (parameter_of c.args.sig.now p)) c.args.parameters.now c.loop-parameter.parameter-index _ c.loop-parameter-test.true (sym (c.in_ok-value_checks.ensures ctx s ds sig has) ∙ c.if-not-branch.true))
