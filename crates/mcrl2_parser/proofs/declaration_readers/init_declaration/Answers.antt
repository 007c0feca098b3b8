use Rattle.std.proofs.Common.{ap, ◌∙◌}
use Rattle.mcrl2_syntax.specs.declared.process_tree.ProcTree.{ProcTree}
use Rattle.mcrl2_syntax.specs.ProcessTrees.{plain_process, process_span}
use Rattle.mcrl2_parser.proofs.DeclarationCases.{by_init}
use Rattle.mcrl2_parser.proofs.declaration_readers.init_declaration.Goals as goal

pub returns-clause-found : goal.returns-clause-found
returns-clause-found c = by_init c.init_at.ensures (c.span.ensures ∙ ap (λ (p : ProcTree). process_span (plain_process p)) c.deref.ensures) c.in_ok-body.ensures.found
