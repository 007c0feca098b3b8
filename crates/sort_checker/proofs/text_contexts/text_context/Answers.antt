use Rattle.mcrl2_syntax.specs.Declarations.{spec_of}
use Rattle.sort_table.specs.BareDeclarations.{bare_sections}
use Rattle.sort_checker.proofs.ParameterLists.{told_over}
use Rattle.sort_checker.proofs.text_contexts.text_context.Goals as goal

pub returns-clause-over : goal.returns-clause-over
returns-clause-over c = λ v over. record {
  declared = over.declared;
  processes = told_over c.args.sig.now (bare_sections (spec_of c.args.spec.now)) v c.in_ok-processes.processes over c.in_ok-processes.ensures;
}
