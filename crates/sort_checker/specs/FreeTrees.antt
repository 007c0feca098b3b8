-- Free variables of trees, and how assignments are looked up.
use Rattle.std.specs.Prelude.{◌≡◌, ◌&&◌, Bool, not, List, map, Option, option_map, is_some, is_none}
use Rattle.std.specs.List.{AllByRecursion, find}
use Rattle.mcrl2_lexer.specs.declared.kind.Kind.TheVariants.{Identifier}
use Rattle.mcrl2_lexer.specs.Tokens.{IsToken}
use Rattle.mcrl2_syntax.specs.declared.declaration.EquationTree.{EquationTree}
use Rattle.mcrl2_syntax.specs.declared.process_tree.Assignment.{Assignment}
use Rattle.mcrl2_syntax.specs.Declarations.{some_data}
use Rattle.mcrl2_syntax.specs.DataTrees.{plain_data}
use Rattle.mcrl2_syntax.specs.ProcessParts.{PlainAssignment, assignment_of}
use Rattle.data_theory.specs.Terms.{Sort}
use Rattle.sort_table.specs.Expressions.{Name, Expression}
use Rattle.sort_table.specs.BareData.{bare_data}
use Rattle.sort_table.specs.BareDeclarations.{bare_condition}
use Rattle.sort_table.specs.BareProcesses.{Variables}
use Rattle.sort_table.specs.BareSorts.{SortExpression}
use Rattle.sort_table.specs.NamedLists.{first_named}
use Rattle.data_typing.specs.Typings.{first_of}
use Rattle.data_typing.specs.Meanings.{Scope}
use Rattle.sort_checker.specs.declared.name_numbers.NameNumbers.{NameNumbers}
use Rattle.sort_checker.specs.NameNumbers.{has_name}
use Rattle.sort_checker.specs.FullVocabularies.{Parameters, FullVocabulary}
use Rattle.sort_checker.specs.Operators.{stands_in}
use Rattle.sort_checker.specs.Parts.{Part, an_equation, ScopedDeclaration, parts_of}
use Rattle.sort_checker.specs.Faults.{names_of_variables, free_variable}
use Rattle.sort_checker.specs.PartTypings.{left_out}

-- ---- equations
-- a variable that isn't one of the left side
abbrev pub is_free : NameNumbers → NameNumbers → Name → Bool
is_free variables left x = has_name variables x && not (has_name left x)

abbrev pub first_free : NameNumbers → NameNumbers → List Name → Option Name
first_free variables left words = find (is_free variables left) words

abbrev pub equation_part : EquationTree → Part
equation_part q = an_equation (bare_condition (some_data q.condition)) (bare_data (plain_data q.left)) (bare_data (plain_data q.right))

-- the names of these variables are identifiers
abbrev pub AreVariableNames : Variables → Type 0
AreVariableNames xs = AllByRecursion (λ (x : Name × SortExpression). IsToken x.0 Identifier) xs

-- these names are known
abbrev pub HasNamesOf : Variables → NameNumbers → Type 0
HasNamesOf xs m = (n : Name) → has_name m n ≡ stands_in n (names_of_variables xs)

-- ---- calls by assignment
abbrev pub assigned : List Assignment → List (Name × Expression)
assigned xs = map (λ (d : PlainAssignment). (d.name.bytes, bare_data d.value)) (map assignment_of xs)

-- a parameter of this name is assigned
abbrev pub HasAssigned : List Assignment → NameNumbers → Type 0
HasAssigned ds m = (n : Name) → has_name m n ≡ is_some (first_named n (assigned ds))

-- nothing is assigned to the parameter, and it isn't in scope with its sort
abbrev pub is_left_out : Scope → List (Name × Expression) → Name × Sort → Bool
is_left_out scope ds p = is_none (first_named p.0 ds) && is_none (left_out scope p)

-- the first of these parameters that is left out, and isn't in scope with its sort
abbrev pub left_out_among : Scope → List (Name × Expression) → Parameters → Option Name
left_out_among scope ds ps = option_map (λ (p : Name × Sort). p.0) (find (is_left_out scope ds) ps)

-- what is answered for a declaration
abbrev pub free_in : FullVocabulary → ScopedDeclaration → Option Name
free_in v d = first_of (free_variable v) (parts_of d)
