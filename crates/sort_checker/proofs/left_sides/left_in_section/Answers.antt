use Rattle.std.proofs.Common.{ℕ, ◌+◌, ap, sym, ◌∙◌}
use Rattle.std.specs.Prelude.{Some, option_map}
use Rattle.sort_checker.proofs.LeftSides.{section_told}
use Rattle.sort_checker.proofs.left_sides.left_in_section.Goals as goal

pub returns-in-Some : goal.returns-in-Some
returns-in-Some c =
    ap (λ (n : ℕ). Some n) c.in_ok-number_behind-in-Some.ensures
    ∙ sym (section_told c.in_ok-names.names c.args.before.now c.args.declarations.now c.args.number c.in_ok-names.ensures ∙ ap (option_map (λ (n : ℕ). c.args.number + n)) (sym c.left_place.ensures ∙ c.in-Some.is))

pub returns : goal.returns
returns c = sym (section_told c.in_ok-names.names c.args.before.now c.args.declarations.now c.args.number c.in_ok-names.ensures ∙ ap (option_map (λ (n : ℕ). c.args.number + n)) (sym c.left_place.ensures ∙ c.in-None.is))
