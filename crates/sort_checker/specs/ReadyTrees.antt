-- What is read along a process term: variables that come into scope, and data. It is ready to be read where it is made of words and
-- the table of texts has the names of the variables.
use Rattle.std.specs.Prelude.{List, [], ◌∷◌, ◌++◌, map}
use Rattle.std.specs.List.{AllByRecursion, Contains, flat_map}
use Rattle.mcrl2_syntax.specs.declared.declaration.Decl.{Decl}
use Rattle.mcrl2_syntax.specs.declared.declaration.Section.{Section}
use Rattle.mcrl2_syntax.specs.Words.{PlainWord}
use Rattle.mcrl2_syntax.specs.DataTrees.{PlainData, plain_data}
use Rattle.mcrl2_syntax.specs.ProcessParts.{PlainAction, tau_action, named_action, PlainAssignment, PlainVarGroup, plain_action, assignment_of, var_group_of}
use Rattle.mcrl2_syntax.specs.ProcessTrees as processes
use Rattle.mcrl2_syntax.specs.ProcessTrees.{PlainProcess, PlainProcesses, no_processes, more_processes}
use Rattle.mcrl2_syntax.specs.Declarations.{PlainDecl, plain_decl}
use Rattle.mcrl2_syntax.specs.TreeWords.{IsDataOfWords, IsGroupOfWords, IsDeclarationOfWords}
use Rattle.sort_table.specs.Expressions.{Name}
use Rattle.sort_table.specs.Identifiers.{in_declaration}
use Rattle.sort_checker.specs.declared.stops.PartTree.{PartTree}
use Rattle.sort_checker.specs.declared.stops.PartTree.TheVariants as parts
use Rattle.sort_checker.specs.declared.stops.StopTree.{StopTree}
use Rattle.sort_checker.specs.declared.stops.StopTree.TheVariants as stops

-- variables of a sort, or an expression
pub data Leaf : Type 0 where
  some_variables : PlainVarGroup → Leaf
  an_expression : PlainData → Leaf

abbrev pub leaves_of_data : List PlainData → List Leaf
leaves_of_data ds = map an_expression ds

abbrev pub leaves_of_action : PlainAction → List Leaf
leaves_of_action (tau_action span) = []
leaves_of_action (named_action span a ds) = leaves_of_data ds

abbrev pub leaves_of_values : List PlainAssignment → List Leaf
leaves_of_values xs = map (λ (x : PlainAssignment). an_expression x.value) xs

-- in the order of the text
abbrev mutual
  pub leaves_in : PlainProcess → List Leaf
  leaves_in (processes.delta span) = []
  leaves_in (processes.acts a) = leaves_of_action a
  leaves_in (processes.multi span as_) = flat_map leaves_of_action as_
  leaves_in (processes.sync span ps) = leaves_in_all ps
  leaves_in (processes.call span p xs) = leaves_of_values xs
  leaves_in (processes.within span p) = leaves_in p
  leaves_in (processes.allow span sets p) = leaves_in p
  leaves_in (processes.block span ns p) = leaves_in p
  leaves_in (processes.hide span ns p) = leaves_in p
  leaves_in (processes.rename span rs p) = leaves_in p
  leaves_in (processes.comm span rs p) = leaves_in p
  leaves_in (processes.sequence span ps) = leaves_in_all ps
  leaves_in (processes.sum span gs p) = map some_variables gs ++ leaves_in p
  leaves_in (processes.when span d p) = an_expression d ∷ leaves_in p
  leaves_in (processes.either span d p q) = an_expression d ∷ (leaves_in p ++ leaves_in q)
  leaves_in (processes.left_merge span p q) = leaves_in p ++ leaves_in q
  leaves_in (processes.parallel span ps) = leaves_in_all ps
  leaves_in (processes.choice span ps) = leaves_in_all ps

  pub leaves_in_all : PlainProcesses → List Leaf
  leaves_in_all no_processes = []
  leaves_in_all (more_processes p ps) = leaves_in p ++ leaves_in_all ps

-- ---- of a part, and of a stop
abbrev pub leaves_of_part : PartTree → List Leaf
leaves_of_part (parts.Action a) = leaves_of_action (plain_action a.now)
leaves_of_part (parts.Multi as_) = flat_map leaves_of_action (map plain_action as_.now)
leaves_of_part (parts.Call w xs) = leaves_of_values (map assignment_of xs.now)
leaves_of_part (parts.Condition d) = an_expression (plain_data d.now) ∷ []
leaves_of_part _ = []

abbrev pub leaves_at : StopTree → List Leaf
leaves_at (stops.Enter gs) = map some_variables (map var_group_of gs.now)
leaves_at (stops.Leave gs) = []
leaves_at (stops.At p) = leaves_of_part p

abbrev pub leaves_along : List StopTree → List Leaf
leaves_along ss = flat_map leaves_at ss

-- ---- ready to be read, where these are the texts
abbrev pub IsReadyGroup : List Name → PlainVarGroup → Type 0
IsReadyGroup texts g = IsGroupOfWords g × AllByRecursion (λ (w : PlainWord). Contains texts w.bytes) g.names

abbrev pub IsReadyLeaf : List Name → Leaf → Type 0
IsReadyLeaf texts (some_variables g) = IsReadyGroup texts g
IsReadyLeaf texts (an_expression d) = IsDataOfWords d

abbrev pub AreReadyGroups : List Name → List PlainVarGroup → Type 0
AreReadyGroups texts gs = AllByRecursion (IsReadyGroup texts) gs

abbrev pub AreReadyLeaves : List Name → List Leaf → Type 0
AreReadyLeaves texts ls = AllByRecursion (IsReadyLeaf texts) ls

-- a declaration of words whose identifiers are all among the texts
abbrev pub IsReadyDeclaration : List Name → PlainDecl → Type 0
IsReadyDeclaration texts d = IsDeclarationOfWords d × AllByRecursion (Contains texts) (in_declaration d)

abbrev pub AreReadyDeclarations : List Name → List Decl → Type 0
AreReadyDeclarations texts ds = AllByRecursion (IsReadyDeclaration texts) (map plain_decl ds)

abbrev pub AreReadySections : List Name → List Section → Type 0
AreReadySections texts ss = AllByRecursion (λ (s : Section). AreReadyDeclarations texts s.declarations.items) ss
