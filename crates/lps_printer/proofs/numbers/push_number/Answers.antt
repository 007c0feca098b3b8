use Rattle.std.proofs.Common.{sym, ◌∙◌, ap}
use Rattle.std.specs.Prelude.{option_map}
use Rattle.std.proofs.lemmas.Result.{on_ok_weaker}
use Rattle.mcrl2_lexer.specs.declared.kind.Kind.TheVariants.{Minus, Numeral}
use Rattle.lps_printer.specs.WordForms.{with_cast}
use Rattle.lps_printer.proofs.AddingPieces.{adds_both, adds_equal}
use Rattle.lps_printer.proofs.NumeralPieces.{negative_worded, placed_worded, opened_worded, placed_at}
use Rattle.lps_printer.proofs.numbers.push_number.Goals as goal

pub returns-then-num : goal.returns-then-num
returns-then-num c =
    on_ok_weaker c.push_digits.result (λ p. adds_equal c.args.gap.now (sym (negative_worded c.args.placed c.args.sort.0 c.args.num c.if-num.true)) (adds_both (c.in_ok-push_token.ensures Minus) (p Numeral))) c.push_digits.ensures

pub returns-then-placed : goal.returns-then-placed
returns-then-placed c =
    on_ok_weaker c.push_digits-then-placed.result (λ p. adds_equal c.args.gap.now (sym (placed_at c.args.placed c.args.sort.0 c.args.num c.if-placed.true ∙ placed_worded c.args.sort.0 c.args.num c.if-num.false)) (p Numeral)) c.push_digits-then-placed.ensures

pub returns-in-Some : goal.returns-in-Some
returns-in-Some c =
    on_ok_weaker c.push_cast.result (λ p. adds_equal c.args.gap.now
    (sym (placed_at c.args.placed c.args.sort.0 c.args.num c.if-placed.false ∙ opened_worded c.args.sort.0 c.args.num c.if-num.false ∙ ap (λ o. with_cast o c.args.num.magnitude) (sym c.cast_of.ensures ∙ ap (option_map (λ text. text.now)) c.in-Some.is))) p) c.push_cast.ensures

pub returns-in-None : goal.returns-in-None
returns-in-None c =
    on_ok_weaker c.push_digits-in-None.result (λ p. adds_equal c.args.gap.now
    (sym (placed_at c.args.placed c.args.sort.0 c.args.num c.if-placed.false ∙ opened_worded c.args.sort.0 c.args.num c.if-num.false ∙ ap (λ o. with_cast o c.args.num.magnitude) (sym c.cast_of.ensures ∙ ap (option_map (λ text. text.now)) c.in-None.is))) (p Numeral)) c.push_digits-in-None.ensures
