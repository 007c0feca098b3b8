-- Declarations, sections and specifications as plain data.
use Rattle.std.specs.Prelude.{List, map, Option, Some, None}
use Rattle.std.specs.Global.{Box}
use Rattle.mcrl2_syntax.specs.declared.word.Span.{Span}
use Rattle.mcrl2_syntax.specs.declared.word.Word.{Word}
use Rattle.mcrl2_syntax.specs.declared.data_tree.DataTree.{DataTree}
use Rattle.mcrl2_syntax.specs.declared.declaration.SectionWord.{SectionWord}
use Rattle.mcrl2_syntax.specs.declared.declaration.Field.{Field}
use Rattle.mcrl2_syntax.specs.declared.declaration.Constructor.{Constructor}
use Rattle.mcrl2_syntax.specs.declared.declaration.Decl.{Decl}
use Rattle.mcrl2_syntax.specs.declared.declaration.Decl.TheVariants as decl
use Rattle.mcrl2_syntax.specs.declared.declaration.Section.{Section}
use Rattle.mcrl2_syntax.specs.declared.declaration.Spec.{Spec}
use Rattle.mcrl2_syntax.specs.Words.{PlainWord, word_of}
use Rattle.mcrl2_syntax.specs.SortTrees.{PlainSort, plain_sort}
use Rattle.mcrl2_syntax.specs.DataTrees.{PlainData, plain_data}
use Rattle.mcrl2_syntax.specs.ProcessParts.{PlainVarGroup, var_group_of}
use Rattle.mcrl2_syntax.specs.ProcessTrees.{PlainProcess, plain_process}

abbrev pub some_word : Option Word → Option PlainWord
some_word None = None
some_word (Some word) = Some (word_of word)

abbrev pub some_data : Option (Box DataTree) → Option PlainData
some_data None = None
some_data (Some tree) = Some (plain_data tree.value)

-- an argument of a constructor, as `p: S` or `S`
pub record PlainField : Type 0 where
  pub span : Span
  pub name : Option PlainWord
  pub sort : PlainSort

abbrev pub field_of : Field → PlainField
field_of x = record { span = x.span; name = some_word x.name; sort = plain_sort x.sort }

-- a constructor of a structured sort, as `c(p: S)?r`
pub record PlainConstructor : Type 0 where
  pub span : Span
  pub name : PlainWord
  pub fields : List PlainField
  pub recogniser : Option PlainWord

abbrev pub constructor_of : Constructor → PlainConstructor
constructor_of x = record { span = x.span; name = word_of x.name; fields = map field_of x.fields.items; recogniser = some_word x.recogniser }

-- a declaration, without where it lies in memory
pub data PlainDecl : Type 0 where
  sorts_decl : Span → List PlainWord → PlainDecl
  alias_decl : Span → PlainWord → PlainSort → PlainDecl
  struct_decl : Span → PlainWord → List PlainConstructor → PlainDecl
  cons_decl : Span → List PlainWord → List PlainSort → PlainSort → PlainDecl
  map_decl : Span → List PlainWord → List PlainSort → PlainSort → PlainDecl
  vars_decl : Span → List PlainVarGroup → PlainDecl
  equation_decl : Span → Option PlainData → PlainData → PlainData → PlainDecl
  act_decl : Span → List PlainWord → List PlainSort → PlainDecl
  proc_decl : Span → PlainWord → List PlainVarGroup → PlainProcess → PlainDecl
  init_decl : Span → PlainProcess → PlainDecl

abbrev pub plain_decl : Decl → PlainDecl
plain_decl (decl.Sorts span names) = sorts_decl span (map word_of names.items)
plain_decl (decl.Alias span name sort) = alias_decl span (word_of name) (plain_sort sort.value)
plain_decl (decl.Struct span name constructors) = struct_decl span (word_of name) (map constructor_of constructors.items)
plain_decl (decl.Cons span names domain sort) = cons_decl span (map word_of names.items) (map plain_sort domain.items) (plain_sort sort.value)
plain_decl (decl.Map span names domain sort) = map_decl span (map word_of names.items) (map plain_sort domain.items) (plain_sort sort.value)
plain_decl (decl.Vars span groups) = vars_decl span (map var_group_of groups.items)
plain_decl (decl.Equation span equation) = equation_decl span (some_data equation.condition) (plain_data equation.left) (plain_data equation.right)
plain_decl (decl.Act span names domain) = act_decl span (map word_of names.items) (map plain_sort domain.items)
plain_decl (decl.Proc span name parameters body) = proc_decl span (word_of name) (map var_group_of parameters.items) (plain_process body.value)
plain_decl (decl.Init span body) = init_decl span (plain_process body.value)

-- where the declaration stands
abbrev pub decl_span : PlainDecl → Span
decl_span (sorts_decl span names) = span
decl_span (alias_decl span name sort) = span
decl_span (struct_decl span name constructors) = span
decl_span (cons_decl span names domain sort) = span
decl_span (map_decl span names domain sort) = span
decl_span (vars_decl span groups) = span
decl_span (equation_decl span condition left right) = span
decl_span (act_decl span names domain) = span
decl_span (proc_decl span name parameters body) = span
decl_span (init_decl span body) = span

-- a section: its word, where that stands, and its declarations
pub record PlainSection : Type 0 where
  pub span : Span
  pub word : SectionWord
  pub declarations : List PlainDecl

abbrev pub section_of : Section → PlainSection
section_of x = record { span = x.span; word = x.word; declarations = map plain_decl x.declarations.items }

-- a specification
pub record PlainSpec : Type 0 where
  pub sections : List PlainSection

abbrev pub spec_of : Spec → PlainSpec
spec_of x = record { sections = map section_of x.sections.items }
