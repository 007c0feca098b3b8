-- The parts of declarations in which names are used and data typed, with the variables in scope.
use Rattle.std.specs.Prelude.{List, [], ◌∷◌, ◌++◌, map, Option}
use Rattle.std.specs.List.{flat_map}
use Rattle.process_terms.specs.Processes.{Around, allow, block, hide, rename, comm}
use Rattle.sort_table.specs.Expressions.{Name, Expression}
use Rattle.sort_table.specs.BareSorts.{SortExpression}
use Rattle.sort_table.specs.BareProcesses as bare
use Rattle.sort_table.specs.BareProcesses.{Variables, Action, Process, Processes}
use Rattle.sort_table.specs.BareDeclarations.{Declaration, constructors, variables, equation, process, initial, Section}
use Rattle.sort_checker.specs.Operators.{renaming_of, rule_of}

-- Actions and calls with arguments in order, alone or with `|` between them; a call by assignment; the condition of a process; an operator; an equation with
-- its condition and sides; the result of a `cons`.
pub data Part : Type 0 where
  a_label : List Action → Part
  a_call : Name → List (Name × Expression) → Part
  a_condition : Expression → Part
  an_operator : Around → Part
  an_equation : Option Expression → Expression → Expression → Part
  a_result : SortExpression → Part

-- a part with the variables in scope, the outermost first
pub record ScopedPart : Type 0 where
  pub variables : Variables
  pub part : Part

abbrev pub scoped : Variables → Part → ScopedPart
scoped xs part = record { variables = xs; part = part }

-- the parts of a process term, in the order of the text
abbrev mutual
  pub parts_in : Variables → Process → List ScopedPart
  parts_in xs bare.delta = []
  parts_in xs (bare.acts as_) = scoped xs (a_label as_) ∷ []
  parts_in xs (bare.call p ds) = scoped xs (a_call p ds) ∷ []
  parts_in xs (bare.allow sets p) = scoped xs (an_operator (allow sets)) ∷ parts_in xs p
  parts_in xs (bare.block ns p) = scoped xs (an_operator (block ns)) ∷ parts_in xs p
  parts_in xs (bare.hide ns p) = scoped xs (an_operator (hide ns)) ∷ parts_in xs p
  parts_in xs (bare.rename rs p) = scoped xs (an_operator (rename (map renaming_of rs))) ∷ parts_in xs p
  parts_in xs (bare.comm cs p) = scoped xs (an_operator (comm (map rule_of cs))) ∷ parts_in xs p
  parts_in xs (bare.sequence ps) = parts_in_all xs ps
  parts_in xs (bare.sum ys p) = parts_in (xs ++ ys) p
  parts_in xs (bare.when e p) = scoped xs (a_condition e) ∷ parts_in xs p
  parts_in xs (bare.either e p q) = scoped xs (a_condition e) ∷ parts_in xs p ++ parts_in xs q
  parts_in xs (bare.sync ps) = parts_in_all xs ps
  parts_in xs (bare.left_merge p q) = parts_in xs p ++ parts_in xs q
  parts_in xs (bare.parallel ps) = parts_in_all xs ps
  parts_in xs (bare.choice ps) = parts_in_all xs ps

  pub parts_in_all : Variables → Processes → List ScopedPart
  parts_in_all xs bare.none = []
  parts_in_all xs (bare.more p ps) = parts_in xs p ++ parts_in_all xs ps

-- ---- declarations
-- a declaration with the variables of the `var` section in front of its section
pub record ScopedDeclaration : Type 0 where
  pub variables : Variables
  pub declaration : Declaration

abbrev pub variables_by : Declaration → Variables
variables_by (variables xs) = xs
variables_by _ = []

-- The variables of a section are in scope in the next one, and nowhere else.
abbrev pub scoped_behind : Variables → List Section → List ScopedDeclaration
scoped_behind xs [] = []
scoped_behind xs (s ∷ ss) = map (λ d. record { variables = xs; declaration = d }) s.declarations ++ scoped_behind (flat_map variables_by s.declarations) ss

-- the declarations of a text; only equations use the variables of a `var` section
abbrev pub scoped_declarations : List Section → List ScopedDeclaration
scoped_declarations ss = scoped_behind [] ss

abbrev pub parts_under : Variables → Declaration → List ScopedPart
parts_under xs (constructors fs es to) = scoped [] (a_result to) ∷ []
parts_under xs (equation c l r) = scoped xs (an_equation c l r) ∷ []
parts_under xs (process n ys p) = parts_in ys p
parts_under xs (initial p) = parts_in [] p
parts_under xs _ = []

abbrev pub parts_of : ScopedDeclaration → List ScopedPart
parts_of d = parts_under d.variables d.declaration
