use Rattle.std.proofs.Common.{map, []}
use Rattle.mcrl2_syntax.specs.Declarations.{constructor_of}
use Rattle.mcrl2_syntax.specs.SpelledDeclarations.{constructor_span}
use Rattle.mcrl2_lexer.specs.declared.kind.Kind.TheVariants.{Bar, LeftParen, Question}
use Rattle.mcrl2_syntax.proofs.LabelsOnce.{no_other}
use Rattle.std.proofs.Common.{refl, ap, ◌∙◌}
use Rattle.mcrl2_syntax.proofs.DeclarationsOnce.{decl_once}
use Rattle.mcrl2_syntax.specs.Words.{spanned}
use Rattle.mcrl2_parser.proofs.Exits.{passes}
use Rattle.mcrl2_parser.proofs.DeclarationCases.{by_alias, alias_case, by_struct, struct_case}
use Rattle.mcrl2_parser.proofs.declaration_readers.sort_definition.Goals as goal

pub list-requires : goal.list-requires
list-requires c = λ sign r is. (no_other Bar LeftParen sign r is (λ e. cc), no_other Bar Question sign r is (λ e. cc))

pub returns-in_err-sort-clause-only : goal.returns-in_err-sort-clause-only
returns-in_err-sort-clause-only c = λ whole d b s. alias_case b s (c.in_default.ensures.none refl) (λ o e a. passes _ _ c.from_residual-in_err-sort.ensures.1 (c.in_err-sort.ensures.only o a))

pub returns-in_default-clause-found : goal.returns-in_default-clause-found
returns-in_default-clause-found c = λ whole b. by_alias c.in_ok-tree.ensures c.joined_spans-span.ensures c.span.ensures c.in_ok-name.ensures.found b c.in_ok-sort.ensures.found

pub returns-in_default-clause-only : goal.returns-in_default-clause-only
returns-in_default-clause-only c = λ whole d b s. decl_once (by_alias c.in_ok-tree.ensures c.joined_spans-span.ensures c.span.ensures c.in_ok-name.ensures.found b c.in_ok-sort.ensures.found) s

pub returns-in_err-constructors-clause-only : goal.returns-in_err-constructors-clause-only
returns-in_err-constructors-clause-only c = λ whole d b s. struct_case b c.in-Ok.ensures.found.0 c.in-Ok.ensures.found.1 s (λ ks e a. passes _ _ c.from_residual-in_err-constructors.ensures.1 (c.in_err-constructors.ensures.only ks [] a (λ f. f, λ f. f) (λ f. f)))

pub returns-in_err-end-clause-only : goal.returns-in_err-end-clause-only
returns-in_err-end-clause-only c = λ whole d b s. struct_case b c.in-Ok.ensures.found.0 c.in-Ok.ensures.found.1 s (λ ks e a. absurd (c.in_err-end.ensures.none refl (c.in_ok-constructors.ensures.only ks [] a (λ f. f, λ f. f) (λ f. f)).1))

pub returns-clause-found : goal.returns-clause-found
returns-clause-found c = λ whole b. by_struct c.struct_at.ensures c.joined_spans-span-2.ensures (c.constructors_span.ensures ∙ ap (λ xs. spanned constructor_span (map constructor_of xs)) c.deref.ensures.value) c.in_ok-name.ensures.found b c.in-Ok.ensures.found.0 c.in-Ok.ensures.found.1 c.in_ok-constructors.ensures.found c.in_ok-end.ensures.found

pub returns-clause-only : goal.returns-clause-only
returns-clause-only c = λ whole d b s. decl_once (by_struct c.struct_at.ensures c.joined_spans-span-2.ensures (c.constructors_span.ensures ∙ ap (λ xs. spanned constructor_span (map constructor_of xs)) c.deref.ensures.value) c.in_ok-name.ensures.found b c.in-Ok.ensures.found.0 c.in-Ok.ensures.found.1 c.in_ok-constructors.ensures.found c.in_ok-end.ensures.found) s
