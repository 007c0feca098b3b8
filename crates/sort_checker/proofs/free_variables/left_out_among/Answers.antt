use Rattle.std.proofs.Common.{List, sym, ap, ◌∙◌}
use Rattle.std.specs.Prelude.{Some}
use Rattle.std.proofs.lemmas.List.{take_all}
use Rattle.sort_table.specs.SignatureVocabularies.{vocabulary_of}
use Rattle.sort_checker.specs.declared.parameter_tables.Parameter.{Parameter}
use Rattle.sort_checker.specs.FreeTrees.{assigned, is_left_out, left_out_among}
use Rattle.sort_checker.specs.ParameterTables.{parameters_of}
use Rattle.sort_checker.specs.Scopes.{scope_of}
use Rattle.sort_checker.proofs.FreeParts.{parameter_here, parameter_not_here}
use Rattle.sort_checker.proofs.free_variables.left_out_among.Goals as goal

pub returns-then-is_left_out : goal.returns-then-is_left_out
returns-then-is_left_out c = λ xs ds inside has.
    ap (λ n. Some n) c.parameter_name.ensures
    ∙ sym (parameter_here (is_left_out (scope_of (vocabulary_of c.args.sig.now) xs) (assigned ds)) c.args.sig.now c.args.parameters.now c.loop-parameter.parameter-index _ c.loop-parameter-test.true (c.loop-parameter.invariant xs ds inside has) (sym (c.is_left_out.ensures xs ds inside has) ∙ c.if-is_left_out.true))

pub loop-parameter-preserved : goal.loop-parameter-preserved
loop-parameter-preserved c = λ xs ds inside has.
    parameter_not_here (is_left_out (scope_of (vocabulary_of c.args.sig.now) xs) (assigned ds)) c.args.sig.now c.args.parameters.now c.loop-parameter.parameter-index _ c.loop-parameter-test.true (c.loop-parameter.invariant xs ds inside has) (sym (c.is_left_out.ensures xs ds inside has) ∙ c.if-is_left_out.false)

pub returns : goal.returns
returns c = λ xs ds inside has.
    sym (ap (λ (ps : List Parameter). left_out_among (scope_of (vocabulary_of c.args.sig.now) xs) (assigned ds) (parameters_of c.args.sig.now ps)) (sym (take_all c.loop-parameter.parameter-index c.args.parameters.now c.loop-parameter-test.false)) ∙ c.loop-parameter.invariant xs ds inside has)
