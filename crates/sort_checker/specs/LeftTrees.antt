-- The left sides of equations, and the names of variables in trees.
use Rattle.std.specs.Prelude.{ℕ, Bool, false, List, map, Option, Some, None}
use Rattle.mcrl2_syntax.specs.declared.word.Word.{Word}
use Rattle.mcrl2_syntax.specs.declared.declaration.Decl.{Decl}
use Rattle.mcrl2_syntax.specs.declared.process_tree.VarGroup.{VarGroup}
use Rattle.mcrl2_syntax.specs.ProcessParts.{var_group_of}
use Rattle.sort_table.specs.Expressions.{Name, Expression, word, none}
use Rattle.sort_table.specs.BareProcesses.{bare_variables}
use Rattle.sort_table.specs.BareDeclarations.{Declaration, equation}
use Rattle.sort_table.specs.DeclarationTrees.{declaration_of}
use Rattle.sort_checker.specs.Parts.{ScopedDeclaration, variables_by}
use Rattle.sort_checker.specs.Faults.{names_of_variables, has_variable_left}
use Rattle.sort_checker.specs.Refusals.{number_from}
use Rattle.sort_checker.specs.ScopedTrees.{variables_under}

-- the word that an expression is, where it is one without arguments
abbrev pub lone_word : Expression → Option Name
lone_word (word x none) = Some x
lone_word _ = None

abbrev pub passes : (Name → Bool) → Option Name → Bool
passes test None = false
passes test (Some x) = test x

-- an equation whose left side is a word that passes a test
abbrev pub is_left_word : (Name → Bool) → Declaration → Bool
is_left_word test (equation c l r) = passes test (lone_word l)
is_left_word test _ = false

abbrev pub left_from : ℕ → List ScopedDeclaration → Option ℕ
left_from k ds = number_from has_variable_left k ds

abbrev pub names_of_words : List Word → List Name
names_of_words ws = map (λ (w : Word). w.bytes.items) ws

abbrev pub names_of_groups : List VarGroup → List Name
names_of_groups gs = names_of_variables (bare_variables (map var_group_of gs))

-- the names of the variables of a declaration, and of declarations
abbrev pub names_by : Decl → List Name
names_by d = names_of_variables (variables_by (declaration_of d))

abbrev pub names_before : List Decl → List Name
names_before ds = names_of_variables (variables_under ds)
