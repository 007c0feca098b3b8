use Rattle.std.proofs.Common.{refl, sym, ap, map, ◌∙◌, ◌∷◌}
use Rattle.mcrl2_lexer.specs.declared.kind.Kind.TheVariants.{Comma, Colon}
use Rattle.mcrl2_syntax.specs.SortTrees.{plain_sort}
use Rattle.mcrl2_syntax.proofs.LabelsOnce.{no_other}
use Rattle.mcrl2_parser.proofs.Exits.{passes, begins}
use Rattle.mcrl2_syntax.proofs.DeclarationsOnce.{signature_once}
use Rattle.mcrl2_parser.proofs.DeclarationCases.{same_tail, signature_case, function_from, domain_case, constant_case, function_case, by_constants, by_functions}
use Rattle.mcrl2_parser.proofs.signature_readers.signature.Goals as goal

pub returns-in_err-rest-clause-only : goal.returns-in_err-rest-clause-only
returns-in_err-rest-clause-only c = λ ws ss s d. signature_case d (λ t us a colon f. let same = c.in_ok-names.ensures.only ws (t ∷ us) a (no_other Colon Comma t us colon (λ e. cc)) in absurd (c.in_err-rest.ensures.none refl (begins Colon same.1 colon)))

pub returns-in_err-sorts-clause-only : goal.returns-in_err-sorts-clause-only
returns-in_err-sorts-clause-only c = λ ws ss s d. signature_case d (λ t us a colon f. let same = c.in_ok-names.ensures.only ws (t ∷ us) a (no_other Colon Comma t us colon (λ e. cc)) in let here = function_from (same_tail (sym c.in_ok-rest.ensures.found.0 ∙ same.1)) f in domain_case here (λ ds r b hash. passes _ _ c.from_residual-in_err-sorts.ensures.1 (c.in_err-sorts.ensures.only ds r b hash)))

pub returns-in_err-end-clause-only : goal.returns-in_err-end-clause-only
returns-in_err-end-clause-only c = λ ws ss s d. signature_case d (λ t us a colon f. let same = c.in_ok-names.ensures.only ws (t ∷ us) a (no_other Colon Comma t us colon (λ e. cc)) in let here = function_from (same_tail (sym c.in_ok-rest.ensures.found.0 ∙ same.1)) f in let one = constant_case c.in_ok-sorts.ensures.only here (c.in_default.ensures.none refl) in absurd (c.in_err-end.ensures.none refl one.1))

pub returns-in_err-sort-clause-only : goal.returns-in_err-sort-clause-only
returns-in_err-sort-clause-only c = λ ws ss s d. signature_case d (λ t us a colon f. let same = c.in_ok-names.ensures.only ws (t ∷ us) a (no_other Colon Comma t us colon (λ e. cc)) in let here = function_from (same_tail (sym c.in_ok-rest.ensures.found.0 ∙ same.1)) f in let one = constant_case c.in_ok-sorts.ensures.only here (c.in_default.ensures.none refl) in absurd (c.in_err-sort.ensures.none refl s one.0))

pub returns-in_default-clause-found : goal.returns-in_default-clause-found
returns-in_default-clause-found c = rw c.new.ensures.items (by_constants c.in_ok-names.ensures.found c.in_ok-rest.ensures.found.0 c.in_ok-rest.ensures.found.1 c.in_ok-sorts.ensures.found c.in_ok-end.ensures.found c.in_ok-sort.ensures.found)

pub returns-in_default-clause-only : goal.returns-in_default-clause-only
returns-in_default-clause-only c = λ ws ss s d. let same = signature_once (by_constants c.in_ok-names.ensures.found c.in_ok-rest.ensures.found.0 c.in_ok-rest.ensures.found.1 c.in_ok-sorts.ensures.found c.in_ok-end.ensures.found c.in_ok-sort.ensures.found) d in (same.names, ap (map plain_sort) c.new.ensures.items ∙ same.domain, same.sort)

pub returns-in_err-sort-2-clause-only : goal.returns-in_err-sort-2-clause-only
returns-in_err-sort-2-clause-only c = λ ws ss s d. signature_case d (λ t us a colon f. let same = c.in_ok-names.ensures.only ws (t ∷ us) a (no_other Colon Comma t us colon (λ e. cc)) in let here = function_from (same_tail (sym c.in_ok-rest.ensures.found.0 ∙ same.1)) f in passes _ _ c.from_residual-in_err-sort-2.ensures.1 (c.in_err-sort-2.ensures.only s (function_case c.in_ok-sorts.ensures.only here c.in-Ok.ensures.found.0)))

pub returns-clause-found : goal.returns-clause-found
returns-clause-found c = by_functions c.in_ok-names.ensures.found c.in_ok-rest.ensures.found.0 c.in_ok-rest.ensures.found.1 c.in_ok-sorts.ensures.found c.in-Ok.ensures.found.0 c.in-Ok.ensures.found.1 c.in_ok-sort-2.ensures.found

pub returns-clause-only : goal.returns-clause-only
returns-clause-only c = λ ws ss s d. let same = signature_once (by_functions c.in_ok-names.ensures.found c.in_ok-rest.ensures.found.0 c.in_ok-rest.ensures.found.1 c.in_ok-sorts.ensures.found c.in-Ok.ensures.found.0 c.in-Ok.ensures.found.1 c.in_ok-sort-2.ensures.found) d in (same.names, same.domain, same.sort)
