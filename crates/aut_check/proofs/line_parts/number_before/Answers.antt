use Rattle.std.proofs.Common.{◌∙◌, ◌-◌, [], ◌∷◌, List, ℕ, drop, length, sym, subst, take}
use Rattle.std.proofs.lemmas.List.{take_rest}
use Rattle.mcrl2_lexer.specs.Tokens.{AreDigits}
use Rattle.aut_check.specs.SystemTexts.{IsFirstPart, IsNumber}
use Rattle.aut_check.proofs.PartLemmas.{front_digits, number_cut, number_there}
use Rattle.aut_check.proofs.line_parts.number_before.Goals as goal

pub number_of-requires : goal.number_of-requires
number_of-requires c =
    let text : List ℕ = take (length c.args.text.now - c.front_len.result) (drop c.front_len.result c.args.text.now) in
    subst AreDigits (sym c.split_at.ensures.front) (front_digits text c.front_len-2.result c.front_len-2.ensures.size)

pub returns-in_err-number : goal.returns-in_err-number
returns-in_err-number c =
    let text : List ℕ = take (length c.args.text.now - c.front_len.result) (drop c.front_len.result c.args.text.now) in
    rw c.from_residual.ensures
    (λ n rest f.
    let same = number_cut c.args.text.now text c.front_len.result c.front_len-2.result c.front_len.ensures.size (take_rest c.args.text.now c.front_len.result) c.front_len-2.ensures.size c.requires.no_digit f in
    c.in_err-number.ensures n (subst (λ (z : List ℕ). IsNumber z n) (sym (c.split_at.ensures.front ∙ same.front)) f.number))

pub returns-in_err-rest : goal.returns-in_err-rest
returns-in_err-rest c =
    let text : List ℕ = take (length c.args.text.now - c.front_len.result) (drop c.front_len.result c.args.text.now) in
    rw c.from_residual-in_err-rest.ensures
    (λ n rest f.
    let same = number_cut c.args.text.now text c.front_len.result c.front_len-2.result c.front_len.ensures.size (take_rest c.args.text.now c.front_len.result) c.front_len-2.ensures.size c.requires.no_digit f in
    c.in_err-rest.ensures rest (subst (λ (z : List ℕ). IsFirstPart z (c.args.sign ∷ []) rest) (sym (c.split_at.ensures.back ∙ same.rest)) f.second))

pub returns : goal.returns
returns c =
    let text : List ℕ = take (length c.args.text.now - c.front_len.result) (drop c.front_len.result c.args.text.now) in
    number_there c.args.text.now text c.front_len.result c.front_len-2.result c.front_len.ensures.size (take_rest c.args.text.now c.front_len.result)
    (subst (λ (z : List ℕ). IsNumber z c.in_ok-number.number) c.split_at.ensures.front c.in_ok-number.ensures)
    (subst (λ (z : List ℕ). IsFirstPart z (c.args.sign ∷ []) c.in_ok-rest.rest.now) c.split_at.ensures.back c.in_ok-rest.ensures)
