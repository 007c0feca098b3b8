use Rattle.std.proofs.Common.{ap, ◌∙◌, map}
use Rattle.mcrl2_syntax.proofs.DeclarationsOnce.{decl_once}
use Rattle.mcrl2_syntax.specs.Words.{word_of, word_span, spanned}
use Rattle.mcrl2_parser.proofs.Exits.{passes}
use Rattle.mcrl2_parser.proofs.DeclarationCases.{by_map, map_case}
use Rattle.mcrl2_parser.proofs.declaration_readers.map_declaration.Goals as goal

pub returns-in_err-names-clause-only : goal.returns-in_err-names-clause-only
returns-in_err-names-clause-only c = λ d s. map_case s (λ ws ss o a. passes _ _ c.from_residual.ensures.1 (c.in_err-names.ensures.only ws ss o a))

pub returns-clause-found : goal.returns-clause-found
returns-clause-found c = by_map c.in_ok-tree.ensures c.joined_spans-span.ensures (c.names_span.ensures ∙ ap (λ xs. spanned word_span (map word_of xs)) c.as_slice.ensures.value) c.span.ensures c.in_ok-names.ensures.found

pub returns-clause-only : goal.returns-clause-only
returns-clause-only c = λ d s. decl_once (by_map c.in_ok-tree.ensures c.joined_spans-span.ensures (c.names_span.ensures ∙ ap (λ xs. spanned word_span (map word_of xs)) c.as_slice.ensures.value) c.span.ensures c.in_ok-names.ensures.found) s
