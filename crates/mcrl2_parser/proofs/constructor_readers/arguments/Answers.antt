use Rattle.std.proofs.Common.{refl, ap, ◌∙◌, map, ◌∷◌}
use Rattle.mcrl2_lexer.specs.declared.kind.Kind.TheVariants.{RightParen, Colon, Comma}
use Rattle.mcrl2_syntax.specs.Declarations.{field_of}
use Rattle.mcrl2_syntax.specs.SpelledDeclarations.{no_fields}
use Rattle.mcrl2_syntax.proofs.DeclarationsOnce.{comma_colon}
use Rattle.mcrl2_parser.proofs.Exits.{passes, begins}
use Rattle.mcrl2_syntax.proofs.LabelsOnce.{no_other}
use Rattle.mcrl2_parser.proofs.ConstructorCases.{by_fields, no_fields_case, fields_case, fields_same}
use Rattle.mcrl2_parser.proofs.constructor_readers.arguments.Goals as goal

pub list-requires : goal.list-requires
list-requires c = comma_colon

pub returns-in_default-clause-found : goal.returns-in_default-clause-found
returns-in_default-clause-found c = rw c.new.ensures.items no_fields

pub returns-in_default-clause-only : goal.returns-in_default-clause-only
returns-in_default-clause-only c = λ fs v r d stops. let none = no_fields_case (c.in_default.ensures.none refl) d in (ap (map field_of) c.new.ensures.items ∙ none.0, none.1, none.2)

pub returns-in_err-fields-clause-only : goal.returns-in_err-fields-clause-only
returns-in_err-fields-clause-only c = λ fs v r d stops. fields_case c.in-Ok.ensures.found.0 c.in-Ok.ensures.found.1 d stops (λ a close. passes _ _ c.from_residual.ensures.1 (c.in_err-fields.ensures.only fs (v ∷ r) a (no_other RightParen Colon v r close (λ e. cc)) (no_other RightParen Comma v r close (λ e. cc))))

pub returns-in_err-close-clause-only : goal.returns-in_err-close-clause-only
returns-in_err-close-clause-only c = λ fs v r d stops. fields_case c.in-Ok.ensures.found.0 c.in-Ok.ensures.found.1 d stops (λ a close. let same = c.in_ok-fields.ensures.only fs (v ∷ r) a (no_other RightParen Colon v r close (λ e. cc)) (no_other RightParen Comma v r close (λ e. cc)) in absurd (c.in_err-close.ensures.none refl (begins RightParen same.1 close)))

pub returns-clause-found : goal.returns-clause-found
returns-clause-found c = by_fields c.in-Ok.ensures.found.0 c.in-Ok.ensures.found.1 c.in_ok-fields.ensures.found c.in_ok-close.ensures.found.0 c.in_ok-close.ensures.found.1

pub returns-clause-only : goal.returns-clause-only
returns-clause-only c = λ fs v r d stops. fields_case c.in-Ok.ensures.found.0 c.in-Ok.ensures.found.1 d stops (λ a close. let same = c.in_ok-fields.ensures.only fs (v ∷ r) a (no_other RightParen Colon v r close (λ e. cc)) (no_other RightParen Comma v r close (λ e. cc)) in fields_same same.0 c.in_ok-close.ensures.found.0 same.1)
