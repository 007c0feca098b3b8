use Rattle.std.proofs.Common.{refl}
use Rattle.mcrl2_lexer.specs.declared.kind.Kind.TheVariants.{Identifier}
use Rattle.mcrl2_syntax.specs.SpelledDeclarations.{no_recogniser}
use Rattle.mcrl2_parser.proofs.Exits.{begins}
use Rattle.mcrl2_parser.proofs.ConstructorCases.{by_recogniser, no_recogniser_case, recogniser_case, recogniser_same}
use Rattle.mcrl2_parser.proofs.constructor_readers.recogniser.Goals as goal

pub returns-in_default-clause-found : goal.returns-in_default-clause-found
returns-in_default-clause-found c = no_recogniser

pub returns-in_default-clause-only : goal.returns-in_default-clause-only
returns-in_default-clause-only c = λ o v r d stops. no_recogniser_case (c.in_default.ensures.none refl) d

pub returns-in_err-name-clause-only : goal.returns-in_err-name-clause-only
returns-in_err-name-clause-only c = λ o v r d stops. recogniser_case c.in-Ok.ensures.found.0 c.in-Ok.ensures.found.1 d stops (λ is kind same. absurd (c.in_err-name.ensures.none refl (begins Identifier is kind)))

pub returns-clause-found : goal.returns-clause-found
returns-clause-found c = by_recogniser refl c.in_ok-word.ensures.found c.in-Ok.ensures.found.0 c.in-Ok.ensures.found.1 c.in_ok-name.ensures.found.0 c.in_ok-name.ensures.found.1

pub returns-clause-only : goal.returns-clause-only
returns-clause-only c = λ o v r d stops. recogniser_case c.in-Ok.ensures.found.0 c.in-Ok.ensures.found.1 d stops (λ is kind same. recogniser_same c.args.text.now c.in_ok-word.ensures.found c.in_ok-name.ensures.found.0 is same)
