use Rattle.std.proofs.Common.{refl}
use Rattle.mcrl2_parser.proofs.Sorts.{by_list, no_list, no_open, no_brackets, no_sort}
use Rattle.mcrl2_parser.proofs.reading.+sort_front.Goals as goal

pub returns-in_err-rest-in-ListWord-clause-none : goal.returns-in_err-rest-in-ListWord-clause-none
returns-in_err-rest-in-ListWord-clause-none t c =
    λ e s r d. no_open c.in_ok-token.ensures.found c.in-ListWord.is (c.in_err-rest-in-ListWord.ensures.none refl) d

pub returns-in_err-close-in-ListWord-clause-none :
    goal.returns-in_err-close-in-ListWord-clause-none
returns-in_err-close-in-ListWord-clause-none t c =
    λ e s r d. no_list c.in_ok-token.ensures.found c.in-ListWord.is c.in_ok-rest-in-ListWord.ensures.found.0 c.in_ok-element-in-ListWord.ensures.found (c.in_err-close-in-ListWord.ensures.none refl) d

pub returns-in_err-close-in-LeftParen-clause-none :
    goal.returns-in_err-close-in-LeftParen-clause-none
returns-in_err-close-in-LeftParen-clause-none t c =
    λ e s r d. no_brackets c.in_ok-token.ensures.found c.in-LeftParen.is c.in_ok-inner-in-LeftParen.ensures.found (c.in_err-close-in-LeftParen.ensures.none refl) d

pub returns-in_ok-tree-in-ListWord-clause-found : goal.returns-in_ok-tree-in-ListWord-clause-found
returns-in_ok-tree-in-ListWord-clause-found t c =
    by_list c.in_ok-tree-in-ListWord.ensures c.token_span-in-ListWord.ensures c.in_ok-token.ensures.found c.in-ListWord.is c.in_ok-rest-in-ListWord.ensures.found.0 c.in_ok-rest-in-ListWord.ensures.found.1
    c.in_ok-element-in-ListWord.ensures.found c.in_ok-close-in-ListWord.ensures.found.0 c.in_ok-close-in-ListWord.ensures.found.1

pub returns-in_default : goal.returns-in_default
returns-in_default t c = record {
  found = tt;
  none = λ e s r d. no_sort c.in_ok-token.ensures.found c.in_default.not-BoolWord c.in_default.not-PosWord c.in_default.not-NatWord c.in_default.not-IntWord c.in_default.not-ListWord c.in_default.not-Identifier c.in_default.not-LeftParen d;
}
