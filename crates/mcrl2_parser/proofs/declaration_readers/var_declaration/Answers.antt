use Rattle.std.proofs.Common.{refl, ap, ◌∙◌, [], map}
use Rattle.mcrl2_syntax.proofs.DeclarationsOnce.{decl_once}
use Rattle.mcrl2_syntax.specs.Words.{spanned}
use Rattle.mcrl2_syntax.specs.ProcessParts.{var_group_of}
use Rattle.mcrl2_syntax.specs.SpelledDeclarations.{group_span}
use Rattle.mcrl2_parser.proofs.Exits.{passes}
use Rattle.mcrl2_parser.proofs.DeclarationCases.{by_vars, vars_case}
use Rattle.mcrl2_parser.proofs.declaration_readers.var_declaration.Goals as goal

pub returns-in_err-groups-clause-only : goal.returns-in_err-groups-clause-only
returns-in_err-groups-clause-only c = λ d s. vars_case s (λ gs a. passes _ _ c.from_residual.ensures.1 (c.in_err-groups.ensures.only gs [] a (λ f. f)))

pub returns-in_err-end-clause-only : goal.returns-in_err-end-clause-only
returns-in_err-end-clause-only c = λ d s. vars_case s (λ gs a. absurd (c.in_err-end.ensures.none refl (c.in_ok-groups.ensures.only gs [] a (λ f. f)).1))

pub returns-clause-found : goal.returns-clause-found
returns-clause-found c = by_vars c.vars_at.ensures (c.groups_span.ensures ∙ ap (λ xs. spanned group_span (map var_group_of xs)) c.deref.ensures.value) c.in_ok-groups.ensures.found c.in_ok-end.ensures.found

pub returns-clause-only : goal.returns-clause-only
returns-clause-only c = λ d s. decl_once (by_vars c.vars_at.ensures (c.groups_span.ensures ∙ ap (λ xs. spanned group_span (map var_group_of xs)) c.deref.ensures.value) c.in_ok-groups.ensures.found c.in_ok-end.ensures.found) s
