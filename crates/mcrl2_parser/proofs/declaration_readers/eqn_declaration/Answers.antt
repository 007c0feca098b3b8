use Rattle.std.proofs.Common.{refl, sym, ap, ◌∙◌, ◌∷◌}
use Rattle.std.specs.Prelude.{Some}
use Rattle.mcrl2_lexer.specs.declared.kind.Kind.TheVariants.{Equals}
use Rattle.mcrl2_syntax.specs.declared.data_tree.DataTree.{DataTree}
use Rattle.mcrl2_syntax.specs.DataTrees.{plain_data}
use Rattle.mcrl2_syntax.specs.Declarations.{equation_decl}
use Rattle.mcrl2_syntax.proofs.DeclarationsOnce.{decl_once, stop_equals, data_from}
use Rattle.mcrl2_parser.proofs.Exits.{passes, begins}
use Rattle.mcrl2_parser.proofs.DeclarationCases.{same_tail, by_equation, by_conditional, data_case, equation_case, right_case, conditional_case}
use Rattle.mcrl2_parser.proofs.declaration_readers.eqn_declaration.Goals as goal

pub returns-in_err-first-clause-only : goal.returns-in_err-first-clause-only
returns-in_err-first-clause-only c = λ d s. data_case s (λ x r a stops. passes _ _ c.from_residual.ensures.1 (c.in_err-first.ensures.only x r a stops))

pub returns-in_err-rest-clause-only : goal.returns-in_err-rest-clause-only
returns-in_err-rest-clause-only c = λ d s. absurd (c.in_err-rest.ensures.none refl (equation_case c.in_ok-first.ensures.only s (c.in_default.ensures.none refl)))

pub returns-in_err-right-clause-only : goal.returns-in_err-right-clause-only
returns-in_err-right-clause-only c = λ d s. right_case c.in_ok-first.ensures.only s (c.in_default.ensures.none refl) c.in_ok-rest.ensures.found.0 (λ y a. passes _ _ c.from_residual-in_err-right.ensures.1 (c.in_err-right.ensures.only y a))

pub returns-in_default-clause-found : goal.returns-in_default-clause-found
returns-in_default-clause-found c = by_equation c.equation_at.ensures c.joined_spans-span.ensures c.span.ensures c.span-in_default.ensures c.in_ok-first.ensures.found c.in_ok-rest.ensures.found.0 c.in_ok-rest.ensures.found.1 c.in_ok-right.ensures.found

pub returns-in_default-clause-only : goal.returns-in_default-clause-only
returns-in_default-clause-only c = λ d s. decl_once (by_equation c.equation_at.ensures c.joined_spans-span.ensures c.span.ensures c.span-in_default.ensures c.in_ok-first.ensures.found c.in_ok-rest.ensures.found.0 c.in_ok-rest.ensures.found.1 c.in_ok-right.ensures.found) s

pub returns-in_err-left-clause-only : goal.returns-in_err-left-clause-only
returns-in_err-left-clause-only c = λ d s. conditional_case c.in_ok-first.ensures.only s c.in-Ok.ensures.found.0 c.in-Ok.ensures.found.1 (λ x y e vs a equals b. passes _ _ c.from_residual-in_err-left.ensures.1 (c.in_err-left.ensures.only x (e ∷ vs) a (stop_equals e vs equals)))

pub returns-in_err-rest-2-clause-only : goal.returns-in_err-rest-2-clause-only
returns-in_err-rest-2-clause-only c = λ d s. conditional_case c.in_ok-first.ensures.only s c.in-Ok.ensures.found.0 c.in-Ok.ensures.found.1 (λ x y e vs a equals b. let same = c.in_ok-left.ensures.only x (e ∷ vs) a (stop_equals e vs equals) in absurd (c.in_err-rest-2.ensures.none refl (begins Equals same.1 equals)))

pub returns-in_err-right-2-clause-only : goal.returns-in_err-right-2-clause-only
returns-in_err-right-2-clause-only c = λ d s. conditional_case c.in_ok-first.ensures.only s c.in-Ok.ensures.found.0 c.in-Ok.ensures.found.1 (λ x y e vs a equals b. let same = c.in_ok-left.ensures.only x (e ∷ vs) a (stop_equals e vs equals) in passes _ _ c.from_residual-in_err-right-2.ensures.1 (c.in_err-right-2.ensures.only y (data_from (same_tail (sym c.in_ok-rest-2.ensures.found.0 ∙ same.1)) b)))

pub returns-clause-found : goal.returns-clause-found
returns-clause-found c = by_conditional (c.equation_at-2.ensures ∙ ap (λ (d : DataTree). equation_decl c.joined_spans-span-2.result (Some (plain_data d)) (plain_data c.in_ok-left.left) (plain_data c.in_ok-right-2.right)) c.in_ok-condition.ensures.ok) c.joined_spans-span-2.ensures c.span-2.ensures c.span-3.ensures c.in_ok-first.ensures.found c.in-Ok.ensures.found.0 c.in-Ok.ensures.found.1 c.in_ok-left.ensures.found c.in_ok-rest-2.ensures.found.0 c.in_ok-rest-2.ensures.found.1 c.in_ok-right-2.ensures.found

pub returns-clause-only : goal.returns-clause-only
returns-clause-only c = λ d s. decl_once (by_conditional (c.equation_at-2.ensures ∙ ap (λ (d : DataTree). equation_decl c.joined_spans-span-2.result (Some (plain_data d)) (plain_data c.in_ok-left.left) (plain_data c.in_ok-right-2.right)) c.in_ok-condition.ensures.ok) c.joined_spans-span-2.ensures c.span-2.ensures c.span-3.ensures c.in_ok-first.ensures.found c.in-Ok.ensures.found.0 c.in-Ok.ensures.found.1 c.in_ok-left.ensures.found c.in_ok-rest-2.ensures.found.0 c.in_ok-rest-2.ensures.found.1 c.in_ok-right-2.ensures.found) s
