use Rattle.std.proofs.Common.{refl, ap, ◌∙◌, [], map}
use Rattle.mcrl2_syntax.specs.Words.{word_of, word_span, spanned}
use Rattle.mcrl2_syntax.specs.SortTrees.{plain_sort, sort_span}
use Rattle.mcrl2_syntax.proofs.DeclarationsOnce.{decl_once}
use Rattle.mcrl2_parser.proofs.Exits.{passes}
use Rattle.mcrl2_parser.proofs.DeclarationCases.{by_acts, by_acts_over, acts_case, bare_acts_case, act_domain_case}
use Rattle.mcrl2_parser.proofs.declaration_readers.act_declaration.Goals as goal

pub returns-in_err-names-clause-only : goal.returns-in_err-names-clause-only
returns-in_err-names-clause-only c = λ d s. acts_case s (λ ws r a stops. passes _ _ c.from_residual.ensures.1 (c.in_err-names.ensures.only ws r a stops))

pub returns-in_default-clause-found : goal.returns-in_default-clause-found
returns-in_default-clause-found c = by_acts c.act_at.ensures (ap (map plain_sort) c.new.ensures.items) (c.names_span.ensures ∙ ap (λ xs. spanned word_span (map word_of xs)) c.as_slice.ensures.value) c.in_ok-names.ensures.found c.in_ok-end.ensures.found

pub returns-in_default-clause-only : goal.returns-in_default-clause-only
returns-in_default-clause-only c = λ d s. decl_once (by_acts c.act_at.ensures (ap (map plain_sort) c.new.ensures.items) (c.names_span.ensures ∙ ap (λ xs. spanned word_span (map word_of xs)) c.as_slice.ensures.value) c.in_ok-names.ensures.found c.in_ok-end.ensures.found) s

pub returns-in_err-end-clause-only : goal.returns-in_err-end-clause-only
returns-in_err-end-clause-only c = λ d s. absurd (c.in_err-end.ensures.none refl (bare_acts_case c.in_ok-names.ensures.only s (c.in_default.ensures.none refl)))

pub returns-in_err-domain-clause-only : goal.returns-in_err-domain-clause-only
returns-in_err-domain-clause-only c = λ d s. act_domain_case c.in_ok-names.ensures.only s c.in-Ok.ensures.found.0 (λ ss a. passes _ _ c.from_residual-in_err-domain.ensures.1 (c.in_err-domain.ensures.only ss [] a (λ f. f)))

pub returns-in_err-end-2-clause-only : goal.returns-in_err-end-2-clause-only
returns-in_err-end-2-clause-only c = λ d s. act_domain_case c.in_ok-names.ensures.only s c.in-Ok.ensures.found.0 (λ ss a. absurd (c.in_err-end-2.ensures.none refl (c.in_ok-domain.ensures.only ss [] a (λ f. f)).1))

pub returns-clause-found : goal.returns-clause-found
returns-clause-found c = by_acts_over c.act_at-2.ensures c.joined_spans-span.ensures (c.names_span-2.ensures ∙ ap (λ xs. spanned word_span (map word_of xs)) c.as_slice-2.ensures.value) (c.sorts_span.ensures ∙ ap (λ xs. spanned sort_span (map plain_sort xs)) c.deref.ensures.value) c.in_ok-names.ensures.found c.in-Ok.ensures.found.0 c.in-Ok.ensures.found.1 c.in_ok-domain.ensures.found c.in_ok-end-2.ensures.found

pub returns-clause-only : goal.returns-clause-only
returns-clause-only c = λ d s. decl_once (by_acts_over c.act_at-2.ensures c.joined_spans-span.ensures (c.names_span-2.ensures ∙ ap (λ xs. spanned word_span (map word_of xs)) c.as_slice-2.ensures.value) (c.sorts_span.ensures ∙ ap (λ xs. spanned sort_span (map plain_sort xs)) c.deref.ensures.value) c.in_ok-names.ensures.found c.in-Ok.ensures.found.0 c.in-Ok.ensures.found.1 c.in_ok-domain.ensures.found c.in_ok-end-2.ensures.found) s
