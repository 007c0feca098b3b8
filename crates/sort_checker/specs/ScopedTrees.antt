-- The declarations that trees are, with the variables in scope.
use Rattle.std.specs.Prelude.{List, map}
use Rattle.std.specs.List.{flat_map}
use Rattle.mcrl2_syntax.specs.declared.declaration.Decl.{Decl}
use Rattle.sort_table.specs.BareProcesses.{Variables}
use Rattle.sort_table.specs.DeclarationTrees.{declaration_of}
use Rattle.sort_checker.specs.declared.scoped_declarations.ScopedDecl.{ScopedDecl}
use Rattle.sort_checker.specs.Parts.{ScopedDeclaration, variables_by}

-- the variables of these declarations
abbrev pub variables_under : List Decl → Variables
variables_under ds = flat_map variables_by (map declaration_of ds)

abbrev pub scoped_under : List Decl → List Decl → List ScopedDeclaration
scoped_under before ds = map (λ (d : Decl). record { variables = variables_under before; declaration = declaration_of d }) ds

abbrev pub scoped_item : ScopedDecl → ScopedDeclaration
scoped_item d = record { variables = variables_under d.before.now; declaration = declaration_of d.declaration.now }

abbrev pub scoped_items : List ScopedDecl → List ScopedDeclaration
scoped_items ds = map scoped_item ds
