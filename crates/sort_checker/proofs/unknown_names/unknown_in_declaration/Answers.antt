use Rattle.std.proofs.Common.{List, ap, sym, ◌∙◌}
use Rattle.mcrl2_syntax.specs.declared.declaration.Decl.{Decl}
use Rattle.sort_table.specs.Expressions.{Name}
use Rattle.sort_table.specs.DeclarationTrees.{declaration_of}
use Rattle.sort_checker.specs.UnknownTrees.{unknown_in_equation, unknown_in}
use Rattle.sort_checker.proofs.Firsts.{or_none}
use Rattle.sort_checker.proofs.UnknownParts.{equation_unknown}
use Rattle.sort_checker.proofs.unknown_names.unknown_in_declaration.Goals as goal

pub returns-in-Equation : goal.returns-in-Equation
returns-in-Equation c = λ v xs known scope.
    c.unknown_in_equation.ensures
    ∙ (ap (λ (sc : List Name). unknown_in_equation c.args.known.now sc c.in-Equation.equation) scope
    ∙ (equation_unknown v xs c.args.known.now known c.in-Equation.equation
    ∙ (sym (or_none _) ∙ ap (λ (d : Decl). unknown_in v (record { variables = xs; declaration = declaration_of d })) (sym c.in-Equation.is))))
