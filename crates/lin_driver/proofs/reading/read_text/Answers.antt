use Rattle.std.proofs.Common.{◌≡◌, List, ℕ, sym, subst}
use Rattle.mcrl2_lexer.specs.Lexing.{HasTokens}
use Rattle.mcrl2_syntax.specs.Declarations.{PlainSpec, spec_of}
use Rattle.mcrl2_syntax.specs.TreeWords.{IsSpecOfWords}
use Rattle.mcrl2_syntax.proofs.WordsOfTokens.{specs_are_of_words}
use Rattle.sort_table.proofs.SpelledPlaces.{spelled_specs_are_placed}
use Rattle.sort_table.proofs.WordNames.{identifiers_are_text}
use Rattle.lin_driver.proofs.OneStart.{has_one_start}
use Rattle.lin_driver.proofs.ReadTexts.{parsed_as}
use Rattle.lin_driver.proofs.Refused.{lex_refused, parse_refused, sort_refused}
use Rattle.lin_driver.proofs.UpToRecursion.{lex_of_the_text, parse_of_the_text, sort_of_the_text}
use Rattle.lin_driver.proofs.reading.read_text.Goals as goal

pub build-requires-clause-placed : goal.build-requires-clause-placed
build-requires-clause-placed c = spelled_specs_are_placed c.in_ok-tokens.tokens.text (spec_of c.in_ok-spec.spec) c.in_ok-tokens.tokens.list c.in_ok-spec.ensures.spelled

pub build-requires-clause-text : goal.build-requires-clause-text
build-requires-clause-text c =
    let t = c.in_ok-tokens.tokens in
    let cut : HasTokens t.text t.list = subst (λ (x : List ℕ). HasTokens x t.list) (sym c.in_ok-tokens.ensures.text) c.in_ok-tokens.ensures.tokens in
    identifiers_are_text (spec_of c.in_ok-spec.spec) (specs_are_of_words t.text (spec_of c.in_ok-spec.spec) t.list cut c.in_ok-spec.ensures.spelled)

pub returns-clause-parsed : goal.returns-clause-parsed
returns-clause-parsed c =
    let t = c.in_ok-tokens.tokens in
    parsed_as c.args.text.now t.text (spec_of c.in_ok-spec.spec) t.list c.in_ok-tokens.ensures.text c.in_ok-tokens.ensures.tokens c.in_ok-spec.ensures.spelled c.in_ok-spec.ensures.sound c.in_ok-spec.ensures.one_init

pub returns-clause-words : goal.returns-clause-words
returns-clause-words c =
    let t = c.in_ok-tokens.tokens in
    let cut : HasTokens t.text t.list = subst (λ (x : List ℕ). HasTokens x t.list) (sym c.in_ok-tokens.ensures.text) c.in_ok-tokens.ensures.tokens in
    specs_are_of_words t.text (spec_of c.in_ok-spec.spec) t.list cut c.in_ok-spec.ensures.spelled

pub returns-clause-start : goal.returns-clause-start
returns-clause-start c = has_one_start c.in_ok-tokens.tokens.text (spec_of c.in_ok-spec.spec) c.in_ok-tokens.tokens.list c.in_ok-spec.ensures.spelled c.in_ok-spec.ensures.sound c.in_ok-spec.ensures.one_init

pub returns-in_err-tokens-clause-refused : goal.returns-in_err-tokens-clause-refused
returns-in_err-tokens-clause-refused c = lex_refused c.from_residual.result c.args.text.now c.args.names.now c.in_err-tokens.field-0.0 c.in_err-tokens.ensures.fault c.from_residual.ensures.1

pub returns-in_err-tokens-clause-of_the_text : goal.returns-in_err-tokens-clause-of_the_text
returns-in_err-tokens-clause-of_the_text c = lex_of_the_text c.from_residual.result c.in_err-tokens.field-0.0 c.from_residual.ensures.1
