use Rattle.std.proofs.Common.{refl, ap, map, [], ◌∙◌}
use Rattle.mcrl2_syntax.proofs.DeclarationsOnce.{decl_once}
use Rattle.mcrl2_syntax.specs.Words.{word_of, word_span, spanned}
use Rattle.mcrl2_parser.proofs.Exits.{passes}
use Rattle.mcrl2_parser.proofs.DeclarationCases.{by_sorts, names_case}
use Rattle.mcrl2_parser.proofs.declaration_readers.sort_names.Goals as goal

pub returns-in_err-names-clause-only : goal.returns-in_err-names-clause-only
returns-in_err-names-clause-only c = λ d s none. names_case s none (λ names e a. passes _ _ c.from_residual.ensures.1 (c.in_err-names.ensures.only names [] a (λ f. f)))

pub returns-in_err-end-clause-only : goal.returns-in_err-end-clause-only
returns-in_err-end-clause-only c = λ d s none. names_case s none (λ names e a. absurd (c.in_err-end.ensures.none refl (c.in_ok-names.ensures.only names [] a (λ f. f)).1))

pub returns-clause-found : goal.returns-clause-found
returns-clause-found c = by_sorts c.sorts_at.ensures (c.names_span.ensures ∙ ap (λ xs. spanned word_span (map word_of xs)) c.as_slice.ensures.value) c.in_ok-names.ensures.found c.in_ok-end.ensures.found

pub returns-clause-only : goal.returns-clause-only
returns-clause-only c = λ d s none. decl_once (by_sorts c.sorts_at.ensures (c.names_span.ensures ∙ ap (λ xs. spanned word_span (map word_of xs)) c.as_slice.ensures.value) c.in_ok-names.ensures.found c.in_ok-end.ensures.found) s
