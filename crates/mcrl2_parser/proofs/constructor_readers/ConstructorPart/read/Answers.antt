use Rattle.mcrl2_parser.proofs.Exits.{passes}
use Rattle.mcrl2_syntax.proofs.DeclarationsOnce.{recogniser_paren, recogniser_from}
use Rattle.mcrl2_parser.proofs.ConstructorCases.{by_constructor, constructor_case, constructor_same}
use Rattle.mcrl2_parser.proofs.constructor_readers.ConstructorPart.read.Goals as goal

pub returns-in_err-fields-clause-only : goal.returns-in_err-fields-clause-only
returns-in_err-fields-clause-only c = λ k r d stops. constructor_case c.in_ok-first.ensures.found.0 d (λ u v f o vs a b e. passes _ _ c.from_residual-in_err-fields.ensures.1 (c.in_err-fields.ensures.only f u vs a (recogniser_paren b stops.0)))

pub returns-in_err-recogniser-clause-only : goal.returns-in_err-recogniser-clause-only
returns-in_err-recogniser-clause-only c = λ k r d stops. constructor_case c.in_ok-first.ensures.found.0 d (λ u v f o vs a b e. let same = c.in_ok-fields.ensures.only f u vs a (recogniser_paren b stops.0) in passes _ _ c.from_residual-in_err-recogniser.ensures.1 (c.in_err-recogniser.ensures.only o v r (recogniser_from same.1 same.2 b) stops.1))

pub returns-clause-found : goal.returns-clause-found
returns-clause-found c = by_constructor c.new.ensures c.token_span-span.ensures c.in_ok-name.ensures.found c.in_ok-first.ensures.found.0 c.in_ok-first.ensures.found.1 c.in_ok-fields.ensures.found c.in_ok-recogniser.ensures.found

pub returns-clause-only : goal.returns-clause-only
returns-clause-only c = λ k r d stops. constructor_case c.in_ok-first.ensures.found.0 d (λ u v f o vs a b e. let same = c.in_ok-fields.ensures.only f u vs a (recogniser_paren b stops.0) in let last = c.in_ok-recogniser.ensures.only o v r (recogniser_from same.1 same.2 b) stops.1 in
    (constructor_same c.args.text.now c.in_ok-first.first.now c.new.ensures c.token_span-span.ensures c.in_ok-name.ensures.found same.0 last.0 last.1 e, last.2))
