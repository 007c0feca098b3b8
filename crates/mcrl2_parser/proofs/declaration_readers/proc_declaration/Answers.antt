use Rattle.std.proofs.Common.{refl, sym, ap, ◌∙◌, ◌∷◌}
use Rattle.mcrl2_lexer.specs.declared.kind.Kind.TheVariants.{Equals, LeftParen}
use Rattle.mcrl2_syntax.specs.declared.process_tree.ProcTree.{ProcTree}
use Rattle.mcrl2_syntax.specs.ProcessTrees.{plain_process, process_span}
use Rattle.mcrl2_syntax.proofs.LabelsOnce.{no_other}
use Rattle.mcrl2_syntax.proofs.DeclarationsOnce.{decl_once, process_from}
use Rattle.mcrl2_parser.proofs.Exits.{passes, begins}
use Rattle.mcrl2_parser.proofs.DeclarationCases.{same_tail, by_proc, proc_case, proc_begins}
use Rattle.mcrl2_parser.proofs.declaration_readers.proc_declaration.Goals as goal

pub returns-in_err-first-clause-only : goal.returns-in_err-first-clause-only
returns-in_err-first-clause-only c = λ d s. absurd (c.in_err-first.ensures.none refl (proc_begins s))

pub returns-in_err-parameters-clause-only : goal.returns-in_err-parameters-clause-only
returns-in_err-parameters-clause-only c = λ d s. proc_case c.in_ok-first.ensures.found.0 s (λ gs p e vs a equals b. passes _ _ c.from_residual-in_err-parameters.ensures.1 (c.in_err-parameters.ensures.only gs (e ∷ vs) a (no_other Equals LeftParen e vs equals (λ x. cc))))

pub returns-in_err-rest-clause-only : goal.returns-in_err-rest-clause-only
returns-in_err-rest-clause-only c = λ d s. proc_case c.in_ok-first.ensures.found.0 s (λ gs p e vs a equals b. let same = c.in_ok-parameters.ensures.only gs (e ∷ vs) a (no_other Equals LeftParen e vs equals (λ x. cc)) in absurd (c.in_err-rest.ensures.none refl (begins Equals same.1 equals)))

pub returns-in_err-body-clause-only : goal.returns-in_err-body-clause-only
returns-in_err-body-clause-only c = λ d s. proc_case c.in_ok-first.ensures.found.0 s (λ gs p e vs a equals b. let same = c.in_ok-parameters.ensures.only gs (e ∷ vs) a (no_other Equals LeftParen e vs equals (λ x. cc)) in passes _ _ c.from_residual-in_err-body.ensures.1 (c.in_err-body.ensures.only p (process_from (same_tail (sym c.in_ok-rest.ensures.found.0 ∙ same.1)) b)))

pub returns-clause-found : goal.returns-clause-found
returns-clause-found c = by_proc c.proc_at.ensures c.joined_spans-span.ensures (c.span.ensures ∙ ap (λ (p : ProcTree). process_span (plain_process p)) c.deref.ensures) c.in_ok-name.ensures.found c.in_ok-first.ensures.found.0 c.in_ok-first.ensures.found.1 c.in_ok-parameters.ensures.found c.in_ok-rest.ensures.found.0 c.in_ok-rest.ensures.found.1 c.in_ok-body.ensures.found

pub returns-clause-only : goal.returns-clause-only
returns-clause-only c = λ d s. decl_once (by_proc c.proc_at.ensures c.joined_spans-span.ensures (c.span.ensures ∙ ap (λ (p : ProcTree). process_span (plain_process p)) c.deref.ensures) c.in_ok-name.ensures.found c.in_ok-first.ensures.found.0 c.in_ok-first.ensures.found.1 c.in_ok-parameters.ensures.found c.in_ok-rest.ensures.found.0 c.in_ok-rest.ensures.found.1 c.in_ok-body.ensures.found) s
