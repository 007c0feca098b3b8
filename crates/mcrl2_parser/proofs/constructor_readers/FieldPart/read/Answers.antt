use Rattle.std.proofs.Common.{refl}
use Rattle.mcrl2_parser.proofs.Exits.{passes}
use Rattle.mcrl2_parser.proofs.ConstructorCases.{by_bare, bare_case, bare_same, named_made, by_named_field, named_case, named_same, named_shorter}
use Rattle.mcrl2_parser.proofs.constructor_readers.FieldPart.read.Goals as goal

pub returns-in_err-sort-clause-only : goal.returns-in_err-sort-clause-only
returns-in_err-sort-clause-only c = λ f r d stops. bare_case (c.in_default.ensures.none refl) d (λ s e a. passes _ _ c.from_residual.ensures.1 (c.in_err-sort.ensures.only s r a tt))

pub returns-in_default-clause-found : goal.returns-in_default-clause-found
returns-in_default-clause-found c = by_bare c.new.ensures c.span.ensures c.in_ok-sort.ensures.found

pub returns-in_default-clause-only : goal.returns-in_default-clause-only
returns-in_default-clause-only c = λ f r d stops. bare_case (c.in_default.ensures.none refl) d (λ s e a. let same = c.in_ok-sort.ensures.only s r a tt in (bare_same c.new.ensures c.span.ensures same.0 e, same.1))

pub returns-in_err-sort-2-clause-only : goal.returns-in_err-sort-2-clause-only
returns-in_err-sort-2-clause-only c = λ f r d stops. named_case c.in-Some.ensures.found d stops (λ s e a. passes _ _ c.from_residual-in_err-sort-2.ensures.1 (c.in_err-sort-2.ensures.only s r a tt))

pub returns-clause-shorter : goal.returns-clause-shorter
returns-clause-shorter c = named_shorter _ c.in-Some.ensures.found c.in_ok-sort-2.ensures.shorter

pub returns-clause-found : goal.returns-clause-found
returns-clause-found c = by_named_field c.in-Some.token.now (named_made c.args.text.now c.in-Some.token.now c.new-2.ensures c.joined_spans-span.ensures c.span-2.ensures c.in_ok-name.ensures.found) c.in-Some.ensures.found c.in_ok-sort-2.ensures.found

pub returns-clause-only : goal.returns-clause-only
returns-clause-only c = λ f r d stops. named_case c.in-Some.ensures.found d stops (λ s e a. let same = c.in_ok-sort-2.ensures.only s r a tt in
    (named_same c.args.text.now c.in-Some.token.now (named_made c.args.text.now c.in-Some.token.now c.new-2.ensures c.joined_spans-span.ensures c.span-2.ensures c.in_ok-name.ensures.found) same.0 e, same.1))
