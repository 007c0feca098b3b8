use Rattle.std.proofs.Common.{refl, sym, ap, map, ◌∙◌, ◌∷◌}
use Rattle.mcrl2_syntax.specs.ProcessParts.{var_group_of}
use Rattle.mcrl2_lexer.specs.declared.kind.Kind.TheVariants.{Comma, RightParen}
use Rattle.mcrl2_syntax.proofs.LabelsOnce.{no_other}
use Rattle.mcrl2_parser.specs.DeclarationParts.{no_parameters}
use Rattle.mcrl2_parser.proofs.Exits.{passes, begins}
use Rattle.mcrl2_parser.proofs.DeclarationCases.{same_tail, by_parameters, no_parameters_case, parameters_case}
use Rattle.mcrl2_parser.proofs.signature_readers.parameters.Goals as goal

pub returns-in_default-clause-found : goal.returns-in_default-clause-found
returns-in_default-clause-found c = rw c.new.ensures.items no_parameters

pub returns-in_default-clause-only : goal.returns-in_default-clause-only
returns-in_default-clause-only c = λ gs r d stops. let none = no_parameters_case (c.in_default.ensures.none refl) d in (ap (map var_group_of) c.new.ensures.items ∙ none.0, none.1)

pub returns-in_err-groups-clause-only : goal.returns-in_err-groups-clause-only
returns-in_err-groups-clause-only c = λ gs r d stops. parameters_case c.in-Ok.ensures.found.0 c.in-Ok.ensures.found.1 d stops (λ v a close. passes _ _ c.from_residual.ensures.1 (c.in_err-groups.ensures.only gs (v ∷ r) a (no_other RightParen Comma v r close (λ e. cc))))

pub returns-in_err-rest-clause-only : goal.returns-in_err-rest-clause-only
returns-in_err-rest-clause-only c = λ gs r d stops. parameters_case c.in-Ok.ensures.found.0 c.in-Ok.ensures.found.1 d stops (λ v a close. let same = c.in_ok-groups.ensures.only gs (v ∷ r) a (no_other RightParen Comma v r close (λ e. cc)) in absurd (c.in_err-rest.ensures.none refl (begins RightParen same.1 close)))

pub returns-clause-found : goal.returns-clause-found
returns-clause-found c = by_parameters c.in-Ok.ensures.found.0 c.in-Ok.ensures.found.1 c.in_ok-groups.ensures.found c.in_ok-rest.ensures.found.0 c.in_ok-rest.ensures.found.1

pub returns-clause-only : goal.returns-clause-only
returns-clause-only c = λ gs r d stops. parameters_case c.in-Ok.ensures.found.0 c.in-Ok.ensures.found.1 d stops (λ v a close. let same = c.in_ok-groups.ensures.only gs (v ∷ r) a (no_other RightParen Comma v r close (λ e. cc)) in (same.0, same_tail (sym c.in_ok-rest.ensures.found.0 ∙ same.1)))
