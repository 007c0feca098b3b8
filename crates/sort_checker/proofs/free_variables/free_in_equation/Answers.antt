use Rattle.std.proofs.Common.{◌∙◌}
use Rattle.mcrl2_syntax.specs.DataTrees.{plain_data}
use Rattle.mcrl2_syntax.specs.Declarations.{some_data}
use Rattle.sort_table.specs.Identifiers.{in_data, in_condition}
use Rattle.sort_checker.specs.FreeTrees.{first_free}
use Rattle.sort_checker.proofs.Firsts.{ok_then}
use Rattle.sort_checker.proofs.FreeWords.{equation_is_free}
use Rattle.sort_checker.proofs.NameLists.{found_front, found_back}
use Rattle.sort_checker.proofs.free_variables.free_in_equation.Goals as goal

pub returns-in-Some : goal.returns-in-Some
returns-in-Some c = λ v xs has names.
    found_front (first_free c.args.variables.now c.in_ok-left.left (in_condition (some_data c.args.equation.now.condition))) (first_free c.args.variables.now c.in_ok-left.left (in_data (plain_data c.args.equation.now.right))) c.in_ok-name.field-0 c.in-Some.name c.in_ok-name.ensures c.in-Some.is
    ∙ equation_is_free xs names c.args.variables.now c.in_ok-left.left has (plain_data c.args.equation.now.left) c.in_ok-left.ensures (some_data c.args.equation.now.condition) (plain_data c.args.equation.now.right)

pub returns : goal.returns
returns c =
    ok_then c.free_in_data.result c.free_in_data.ensures
    (λ found told v xs has names.
    found_back (first_free c.args.variables.now c.in_ok-left.left (in_condition (some_data c.args.equation.now.condition))) (first_free c.args.variables.now c.in_ok-left.left (in_data (plain_data c.args.equation.now.right))) c.in_ok-name.field-0 found c.in_ok-name.ensures c.in-None.is told
    ∙ equation_is_free xs names c.args.variables.now c.in_ok-left.left has (plain_data c.args.equation.now.left) c.in_ok-left.ensures (some_data c.args.equation.now.condition) (plain_data c.args.equation.now.right))
