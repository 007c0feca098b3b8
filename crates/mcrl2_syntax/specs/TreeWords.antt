-- That the identifiers and numerals of a tree are words that tokens can be.
use Rattle.std.specs.Prelude.{◌<◌, ◌^◌, ℕ, List, Option, Some, None}
use Rattle.std.specs.List.{AllByRecursion}
use Rattle.mcrl2_lexer.specs.declared.kind.Kind.TheVariants.{Identifier, Numeral}
use Rattle.mcrl2_lexer.specs.declared.token.Token.{Token}
use Rattle.mcrl2_lexer.specs.Tokens.{IsToken}
use Rattle.mcrl2_lexer.specs.Lexing.{HasTokens}
use Rattle.mcrl2_lexer.specs.Words.{decimal}
use Rattle.mcrl2_syntax.specs.Words.{PlainWord}
use Rattle.mcrl2_syntax.specs.SortTrees as sorts
use Rattle.mcrl2_syntax.specs.SortTrees.{PlainSort}
use Rattle.mcrl2_syntax.specs.DataTrees as datas
use Rattle.mcrl2_syntax.specs.DataTrees.{PlainData, PlainDatas, no_datas, more_datas, PlainOperands, no_operands, more_operands}
use Rattle.mcrl2_syntax.specs.ProcessParts.{PlainAction, tau_action, named_action, PlainAssignment, PlainNameSet, PlainRenaming, PlainCommRule, PlainVarGroup, PlainLabel}
use Rattle.mcrl2_syntax.specs.ProcessTrees as processes
use Rattle.mcrl2_syntax.specs.ProcessTrees.{PlainProcess, PlainProcesses, no_processes, more_processes}
use Rattle.mcrl2_syntax.specs.Declarations as trees
use Rattle.mcrl2_syntax.specs.Declarations.{PlainField, PlainConstructor, PlainDecl, PlainSection, PlainSpec}
use Rattle.mcrl2_syntax.specs.SpelledLabels.{SpellsLabel}
use Rattle.mcrl2_syntax.specs.SpelledDeclarations.{SpellsSpec}

-- an identifier
abbrev pub IsName : PlainWord → Type 0
IsName w = IsToken w.bytes Identifier

abbrev pub AreNames : List PlainWord → Type 0
AreNames = AllByRecursion IsName

abbrev pub IsOptionalName : Option PlainWord → Type 0
IsOptionalName None = Unit {0}
IsOptionalName (Some w) = IsName w

-- a numeral up to 2^128 - 1
pub record IsNumeral (w : PlainWord) : Type 0 where
  pub token : IsToken w.bytes Numeral
  pub fits : decimal w.bytes < 2 ^ 128

-- ---- sorts and data
abbrev pub IsSortOfWords : PlainSort → Type 0
IsSortOfWords (sorts.bool_sort span) = Unit {0}
IsSortOfWords (sorts.pos_sort span) = Unit {0}
IsSortOfWords (sorts.nat_sort span) = Unit {0}
IsSortOfWords (sorts.int_sort span) = Unit {0}
IsSortOfWords (sorts.list_sort span s) = IsSortOfWords s
IsSortOfWords (sorts.named_sort w) = IsName w
IsSortOfWords (sorts.brackets_sort span s) = IsSortOfWords s

abbrev mutual
  pub IsDataOfWords : PlainData → Type 0
  IsDataOfWords (datas.named w) = IsName w
  IsDataOfWords (datas.numeral w) = IsNumeral w
  IsDataOfWords (datas.true_data span) = Unit {0}
  IsDataOfWords (datas.false_data span) = Unit {0}
  IsDataOfWords (datas.listed span ds) = AreDatasOfWords ds
  IsDataOfWords (datas.applied span f ds) = IsName f × AreDatasOfWords ds
  IsDataOfWords (datas.brackets span d) = IsDataOfWords d
  IsDataOfWords (datas.prefix span sign d) = IsDataOfWords d
  IsDataOfWords (datas.binary span sign d e) = IsDataOfWords d × IsDataOfWords e
  IsDataOfWords (datas.sum_chain span d os) = IsDataOfWords d × AreOperandsOfWords os
  IsDataOfWords (datas.product_chain span d os) = IsDataOfWords d × AreOperandsOfWords os
  IsDataOfWords (datas.and_chain span ds) = AreDatasOfWords ds
  IsDataOfWords (datas.or_chain span ds) = AreDatasOfWords ds

  pub AreDatasOfWords : PlainDatas → Type 0
  AreDatasOfWords no_datas = Unit {0}
  AreDatasOfWords (more_datas d ds) = IsDataOfWords d × AreDatasOfWords ds

  pub AreOperandsOfWords : PlainOperands → Type 0
  AreOperandsOfWords no_operands = Unit {0}
  AreOperandsOfWords (more_operands sign d os) = IsDataOfWords d × AreOperandsOfWords os

abbrev pub IsConditionOfWords : Option PlainData → Type 0
IsConditionOfWords None = Unit {0}
IsConditionOfWords (Some d) = IsDataOfWords d

-- ---- processes
abbrev pub IsActionOfWords : PlainAction → Type 0
IsActionOfWords (tau_action span) = Unit {0}
IsActionOfWords (named_action span a ds) = IsName a × AllByRecursion IsDataOfWords ds

abbrev pub IsLabelOfWords : PlainLabel → Type 0
IsLabelOfWords l = AllByRecursion IsActionOfWords l.actions

abbrev pub IsAssignmentOfWords : PlainAssignment → Type 0
IsAssignmentOfWords x = IsName x.name × IsDataOfWords x.value

abbrev pub IsNameSetOfWords : PlainNameSet → Type 0
IsNameSetOfWords s = AreNames s.names

abbrev pub IsRenamingOfWords : PlainRenaming → Type 0
IsRenamingOfWords r = IsName r.old × IsName r.renamed

abbrev pub IsRuleOfWords : PlainCommRule → Type 0
IsRuleOfWords r = AreNames r.names × IsName r.outcome

abbrev pub IsGroupOfWords : PlainVarGroup → Type 0
IsGroupOfWords g = AreNames g.names × IsSortOfWords g.sort

abbrev mutual
  pub IsProcessOfWords : PlainProcess → Type 0
  IsProcessOfWords (processes.delta span) = Unit {0}
  IsProcessOfWords (processes.acts a) = IsActionOfWords a
  IsProcessOfWords (processes.multi span as_) = AllByRecursion IsActionOfWords as_
  IsProcessOfWords (processes.sync span ps) = AreProcessesOfWords ps
  IsProcessOfWords (processes.call span p xs) = IsName p × AllByRecursion IsAssignmentOfWords xs
  IsProcessOfWords (processes.within span p) = IsProcessOfWords p
  IsProcessOfWords (processes.allow span sets p) = AllByRecursion IsNameSetOfWords sets × IsProcessOfWords p
  IsProcessOfWords (processes.block span ns p) = AreNames ns × IsProcessOfWords p
  IsProcessOfWords (processes.hide span ns p) = AreNames ns × IsProcessOfWords p
  IsProcessOfWords (processes.rename span rs p) = AllByRecursion IsRenamingOfWords rs × IsProcessOfWords p
  IsProcessOfWords (processes.comm span rs p) = AllByRecursion IsRuleOfWords rs × IsProcessOfWords p
  IsProcessOfWords (processes.sequence span ps) = AreProcessesOfWords ps
  IsProcessOfWords (processes.sum span gs p) = AllByRecursion IsGroupOfWords gs × IsProcessOfWords p
  IsProcessOfWords (processes.when span d p) = IsDataOfWords d × IsProcessOfWords p
  IsProcessOfWords (processes.either span d p q) = IsDataOfWords d × IsProcessOfWords p × IsProcessOfWords q
  IsProcessOfWords (processes.left_merge span p q) = IsProcessOfWords p × IsProcessOfWords q
  IsProcessOfWords (processes.parallel span ps) = AreProcessesOfWords ps
  IsProcessOfWords (processes.choice span ps) = AreProcessesOfWords ps

  pub AreProcessesOfWords : PlainProcesses → Type 0
  AreProcessesOfWords no_processes = Unit {0}
  AreProcessesOfWords (more_processes p ps) = IsProcessOfWords p × AreProcessesOfWords ps

-- ---- declarations
abbrev pub IsFieldOfWords : PlainField → Type 0
IsFieldOfWords f = IsOptionalName f.name × IsSortOfWords f.sort

abbrev pub IsConstructorOfWords : PlainConstructor → Type 0
IsConstructorOfWords c = IsName c.name × AllByRecursion IsFieldOfWords c.fields × IsOptionalName c.recogniser

abbrev pub IsDeclarationOfWords : PlainDecl → Type 0
IsDeclarationOfWords (trees.sorts_decl span ns) = AreNames ns
IsDeclarationOfWords (trees.alias_decl span n s) = IsName n × IsSortOfWords s
IsDeclarationOfWords (trees.struct_decl span n cs) = IsName n × AllByRecursion IsConstructorOfWords cs
IsDeclarationOfWords (trees.cons_decl span ns ss to) = AreNames ns × AllByRecursion IsSortOfWords ss × IsSortOfWords to
IsDeclarationOfWords (trees.map_decl span ns ss to) = AreNames ns × AllByRecursion IsSortOfWords ss × IsSortOfWords to
IsDeclarationOfWords (trees.vars_decl span gs) = AllByRecursion IsGroupOfWords gs
IsDeclarationOfWords (trees.equation_decl span c l r) = IsConditionOfWords c × IsDataOfWords l × IsDataOfWords r
IsDeclarationOfWords (trees.act_decl span ns ss) = AreNames ns × AllByRecursion IsSortOfWords ss
IsDeclarationOfWords (trees.proc_decl span p gs body) = IsName p × AllByRecursion IsGroupOfWords gs × IsProcessOfWords body
IsDeclarationOfWords (trees.init_decl span body) = IsProcessOfWords body

abbrev pub IsSectionOfWords : PlainSection → Type 0
IsSectionOfWords s = AllByRecursion IsDeclarationOfWords s.declarations

abbrev pub IsSpecOfWords : PlainSpec → Type 0
IsSpecOfWords spec = AllByRecursion IsSectionOfWords spec.sections

-- ---- what tokens spell
-- what the tokens of a text spell is made of words
abbrev pub SpecsAreOfWords : Type 0
SpecsAreOfWords = (text : List ℕ) (spec : PlainSpec) (tokens : List Token) → HasTokens text tokens → SpellsSpec text spec tokens → IsSpecOfWords spec

abbrev pub LabelsAreOfWords : Type 0
LabelsAreOfWords = (text : List ℕ) (label : PlainLabel) (tokens rest : List Token) → HasTokens text tokens → SpellsLabel text label tokens rest → IsLabelOfWords label
