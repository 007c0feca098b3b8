-- Declarations, without where they stand.
use Rattle.std.specs.Prelude.{List, map, Option, Some, None}
use Rattle.std.specs.List.{flat_map}
use Rattle.mcrl2_syntax.specs.declared.declaration.SectionWord.{SectionWord}
use Rattle.mcrl2_syntax.specs.Words.{PlainWord}
use Rattle.mcrl2_syntax.specs.DataTrees.{PlainData}
use Rattle.mcrl2_syntax.specs.Declarations as trees
use Rattle.mcrl2_syntax.specs.Declarations.{PlainField, PlainConstructor, PlainDecl, PlainSection, PlainSpec}
use Rattle.sort_table.specs.Expressions.{Name, Expression}
use Rattle.sort_table.specs.BareData.{bare_data}
use Rattle.sort_table.specs.BareSorts.{SortExpression, bare_sort}
use Rattle.sort_table.specs.BareProcesses.{Variables, bare_names, bare_variables, Process, bare_process}

pub record Field : Type 0 where
  pub name : Option Name
  pub sort : SortExpression

pub record Constructor : Type 0 where
  pub name : Name
  pub fields : List Field
  pub recogniser : Option Name

pub data Declaration : Type 0 where
  sorts : List Name → Declaration
  alias : Name → SortExpression → Declaration
  struct : Name → List Constructor → Declaration
  constructors : List Name → List SortExpression → SortExpression → Declaration
  mappings : List Name → List SortExpression → SortExpression → Declaration
  variables : Variables → Declaration
  equation : Option Expression → Expression → Expression → Declaration
  actions : List Name → List SortExpression → Declaration
  process : Name → Variables → Process → Declaration
  initial : Process → Declaration

abbrev pub bare_word : Option PlainWord → Option Name
bare_word None = None
bare_word (Some w) = Some w.bytes

abbrev pub bare_condition : Option PlainData → Option Expression
bare_condition None = None
bare_condition (Some d) = Some (bare_data d)

abbrev pub bare_field : PlainField → Field
bare_field f = record { name = bare_word f.name; sort = bare_sort f.sort }

abbrev pub bare_constructor : PlainConstructor → Constructor
bare_constructor c = record { name = c.name.bytes; fields = map bare_field c.fields; recogniser = bare_word c.recogniser }

abbrev pub bare_declaration : PlainDecl → Declaration
bare_declaration (trees.sorts_decl span ns) = sorts (bare_names ns)
bare_declaration (trees.alias_decl span n s) = alias n.bytes (bare_sort s)
bare_declaration (trees.struct_decl span n cs) = struct n.bytes (map bare_constructor cs)
bare_declaration (trees.cons_decl span ns ss to) = constructors (bare_names ns) (map bare_sort ss) (bare_sort to)
bare_declaration (trees.map_decl span ns ss to) = mappings (bare_names ns) (map bare_sort ss) (bare_sort to)
bare_declaration (trees.vars_decl span gs) = variables (bare_variables gs)
bare_declaration (trees.equation_decl span c l r) = equation (bare_condition c) (bare_data l) (bare_data r)
bare_declaration (trees.act_decl span ns ss) = actions (bare_names ns) (map bare_sort ss)
bare_declaration (trees.proc_decl span n gs p) = process n.bytes (bare_variables gs) (bare_process p)
bare_declaration (trees.init_decl span p) = initial (bare_process p)

pub record Section : Type 0 where
  pub word : SectionWord
  pub declarations : List Declaration

abbrev pub bare_section : PlainSection → Section
bare_section s = record { word = s.word; declarations = map bare_declaration s.declarations }

abbrev pub bare_sections : PlainSpec → List Section
bare_sections spec = map bare_section spec.sections

-- the declarations of a text; the first one has the number 1
abbrev pub declarations_in : List Section → List Declaration
declarations_in ss = flat_map (λ (s : Section). s.declarations) ss
