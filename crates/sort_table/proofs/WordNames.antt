-- The identifiers of a tree that is made of words are text.
use Rattle.std.specs.Prelude.{List, [], ◌∷◌, ◌++◌, Option, Some, None}
use Rattle.std.specs.List.{AllByRecursion, flat_map}
use Rattle.std.specs.Str.{IsUtf8}
use Rattle.mcrl2_lexer.proofs.NameTokens.{identifier_is_text}
use Rattle.mcrl2_syntax.specs.Words.{PlainWord}
use Rattle.mcrl2_syntax.specs.SortTrees as sorts
use Rattle.mcrl2_syntax.specs.SortTrees.{PlainSort}
use Rattle.mcrl2_syntax.specs.DataTrees as datas
use Rattle.mcrl2_syntax.specs.DataTrees.{PlainData, PlainDatas, PlainOperands, no_datas, more_datas, no_operands, more_operands}
use Rattle.mcrl2_syntax.specs.ProcessParts.{PlainAction, tau_action, named_action, PlainVarGroup, PlainAssignment, PlainNameSet, PlainRenaming, PlainCommRule}
use Rattle.mcrl2_syntax.specs.ProcessTrees as processes
use Rattle.mcrl2_syntax.specs.ProcessTrees.{PlainProcess, PlainProcesses, no_processes, more_processes}
use Rattle.mcrl2_syntax.specs.Declarations as trees
use Rattle.mcrl2_syntax.specs.Declarations.{PlainField, PlainConstructor, PlainDecl, PlainSection, PlainSpec}
use Rattle.mcrl2_syntax.specs.TreeWords.{IsName, AreNames, IsOptionalName, IsSortOfWords, IsDataOfWords, AreDatasOfWords, AreOperandsOfWords, IsConditionOfWords, IsActionOfWords, IsAssignmentOfWords, IsNameSetOfWords, IsRenamingOfWords, IsRuleOfWords, IsGroupOfWords, IsProcessOfWords, AreProcessesOfWords, IsFieldOfWords, IsConstructorOfWords, IsDeclarationOfWords, IsSectionOfWords, IsSpecOfWords}
use Rattle.mcrl2_syntax.proofs.Lists.{all_both}
use Rattle.sort_table.specs.Expressions.{Name}
use Rattle.sort_table.specs.BareProcesses.{bare_names}
use Rattle.sort_table.specs.Identifiers.{name_where, in_sort, in_sorts, in_data, in_datas, in_operands, in_condition, in_group, in_action, in_assignment, in_renaming, in_rule, in_process, in_processes, in_field, in_constructor, in_declaration, in_section, identifiers_in}

abbrev AreText : List Name → Type 0
AreText = AllByRecursion IsUtf8

-- what holds of the names in each part holds of those in all
in_each : {Part : Type 0} (IsGood : Part → Type 0) (names : Part → List Name) → ((p : Part) → IsGood p → AreText (names p)) → (ps : List Part) → AllByRecursion IsGood ps → AreText (flat_map names ps)
in_each IsGood names each [] all = tt
in_each IsGood names each (p ∷ ps) all = all_both IsUtf8 (names p) (flat_map names ps) (each p all.0) (in_each IsGood names each ps all.1)

of_name : (w : PlainWord) → IsName w → AreText (w.bytes ∷ [])
of_name w is = (identifier_is_text is, tt)

of_names : (ws : List PlainWord) → AreNames ws → AreText (bare_names ws)
of_names [] all = tt
of_names (w ∷ ws) all = (identifier_is_text all.0, of_names ws all.1)

of_optional : (o : Option PlainWord) → IsOptionalName o → AreText (name_where o)
of_optional None is = tt
of_optional (Some w) is = of_name w is

-- ---- sorts and data
of_sort : (s : PlainSort) → IsSortOfWords s → AreText (in_sort s)
of_sort (sorts.bool_sort span) is = tt
of_sort (sorts.pos_sort span) is = tt
of_sort (sorts.nat_sort span) is = tt
of_sort (sorts.int_sort span) is = tt
of_sort (sorts.list_sort span s) is = of_sort s is
of_sort (sorts.named_sort w) is = of_name w is
of_sort (sorts.brackets_sort span s) is = of_sort s is

of_sorts : (ss : List PlainSort) → AllByRecursion IsSortOfWords ss → AreText (in_sorts ss)
of_sorts = in_each IsSortOfWords in_sort of_sort

mutual
  of_data : (d : PlainData) → IsDataOfWords d → AreText (in_data d)
  of_data (datas.named w) is = of_name w is
  of_data (datas.numeral w) is = tt
  of_data (datas.true_data span) is = tt
  of_data (datas.false_data span) is = tt
  of_data (datas.listed span ds) is = of_datas ds is
  of_data (datas.applied span f ds) is = (identifier_is_text is.0, of_datas ds is.1)
  of_data (datas.brackets span d) is = of_data d is
  of_data (datas.prefix span sign d) is = of_data d is
  of_data (datas.binary span sign d e) is = all_both IsUtf8 (in_data d) (in_data e) (of_data d is.0) (of_data e is.1)
  of_data (datas.sum_chain span d os) is = all_both IsUtf8 (in_data d) (in_operands os) (of_data d is.0) (of_operands os is.1)
  of_data (datas.product_chain span d os) is = all_both IsUtf8 (in_data d) (in_operands os) (of_data d is.0) (of_operands os is.1)
  of_data (datas.and_chain span ds) is = of_datas ds is
  of_data (datas.or_chain span ds) is = of_datas ds is

  of_datas : (ds : PlainDatas) → AreDatasOfWords ds → AreText (in_datas ds)
  of_datas no_datas all = tt
  of_datas (more_datas d ds) all = all_both IsUtf8 (in_data d) (in_datas ds) (of_data d all.0) (of_datas ds all.1)

  of_operands : (os : PlainOperands) → AreOperandsOfWords os → AreText (in_operands os)
  of_operands no_operands all = tt
  of_operands (more_operands sign d os) all = all_both IsUtf8 (in_data d) (in_operands os) (of_data d all.0) (of_operands os all.1)

of_condition : (c : Option PlainData) → IsConditionOfWords c → AreText (in_condition c)
of_condition None is = tt
of_condition (Some d) is = of_data d is

-- ---- processes
of_group : (g : PlainVarGroup) → IsGroupOfWords g → AreText (in_group g)
of_group g is = all_both IsUtf8 (bare_names g.names) (in_sort g.sort) (of_names g.names is.0) (of_sort g.sort is.1)

of_groups : (gs : List PlainVarGroup) → AllByRecursion IsGroupOfWords gs → AreText (flat_map in_group gs)
of_groups = in_each IsGroupOfWords in_group of_group

of_action : (a : PlainAction) → IsActionOfWords a → AreText (in_action a)
of_action (tau_action span) is = tt
of_action (named_action span a ds) is = (identifier_is_text is.0, in_each IsDataOfWords in_data of_data ds is.1)

of_assignment : (x : PlainAssignment) → IsAssignmentOfWords x → AreText (in_assignment x)
of_assignment x is = (identifier_is_text is.0, of_data x.value is.1)

of_renaming : (r : PlainRenaming) → IsRenamingOfWords r → AreText (in_renaming r)
of_renaming r is = (identifier_is_text is.0, (identifier_is_text is.1, tt))

of_rule : (r : PlainCommRule) → IsRuleOfWords r → AreText (in_rule r)
of_rule r is = all_both IsUtf8 (bare_names r.names) (r.outcome.bytes ∷ []) (of_names r.names is.0) (of_name r.outcome is.1)

of_set : (s : PlainNameSet) → IsNameSetOfWords s → AreText (bare_names s.names)
of_set s is = of_names s.names is

mutual
  of_process : (p : PlainProcess) → IsProcessOfWords p → AreText (in_process p)
  of_process (processes.delta span) is = tt
  of_process (processes.acts a) is = of_action a is
  of_process (processes.multi span as_) is = in_each IsActionOfWords in_action of_action as_ is
  of_process (processes.sync span ps) is = of_processes ps is
  of_process (processes.call span p xs) is = (identifier_is_text is.0, in_each IsAssignmentOfWords in_assignment of_assignment xs is.1)
  of_process (processes.within span p) is = of_process p is
  of_process (processes.allow span sets p) is =
      all_both IsUtf8 (flat_map (λ (s : PlainNameSet). bare_names s.names) sets) (in_process p) (in_each IsNameSetOfWords (λ (s : PlainNameSet). bare_names s.names) of_set sets is.0) (of_process p is.1)
  of_process (processes.block span ns p) is = all_both IsUtf8 (bare_names ns) (in_process p) (of_names ns is.0) (of_process p is.1)
  of_process (processes.hide span ns p) is = all_both IsUtf8 (bare_names ns) (in_process p) (of_names ns is.0) (of_process p is.1)
  of_process (processes.rename span rs p) is = all_both IsUtf8 (flat_map in_renaming rs) (in_process p) (in_each IsRenamingOfWords in_renaming of_renaming rs is.0) (of_process p is.1)
  of_process (processes.comm span rs p) is = all_both IsUtf8 (flat_map in_rule rs) (in_process p) (in_each IsRuleOfWords in_rule of_rule rs is.0) (of_process p is.1)
  of_process (processes.sequence span ps) is = of_processes ps is
  of_process (processes.sum span gs p) is = all_both IsUtf8 (flat_map in_group gs) (in_process p) (of_groups gs is.0) (of_process p is.1)
  of_process (processes.when span d p) is = all_both IsUtf8 (in_data d) (in_process p) (of_data d is.0) (of_process p is.1)
  of_process (processes.either span d p q) is =
      all_both IsUtf8 (in_data d) (in_process p ++ in_process q) (of_data d is.0) (all_both IsUtf8 (in_process p) (in_process q) (of_process p is.1) (of_process q is.2))
  of_process (processes.left_merge span p q) is = all_both IsUtf8 (in_process p) (in_process q) (of_process p is.0) (of_process q is.1)
  of_process (processes.parallel span ps) is = of_processes ps is
  of_process (processes.choice span ps) is = of_processes ps is

  of_processes : (ps : PlainProcesses) → AreProcessesOfWords ps → AreText (in_processes ps)
  of_processes no_processes all = tt
  of_processes (more_processes p ps) all = all_both IsUtf8 (in_process p) (in_processes ps) (of_process p all.0) (of_processes ps all.1)

-- ---- declarations
of_field : (f : PlainField) → IsFieldOfWords f → AreText (in_field f)
of_field f is = all_both IsUtf8 (name_where f.name) (in_sort f.sort) (of_optional f.name is.0) (of_sort f.sort is.1)

of_constructor : (c : PlainConstructor) → IsConstructorOfWords c → AreText (in_constructor c)
of_constructor c is =
    (identifier_is_text is.0, all_both IsUtf8 (flat_map in_field c.fields) (name_where c.recogniser) (in_each IsFieldOfWords in_field of_field c.fields is.1) (of_optional c.recogniser is.2))

of_signature : (ns : List PlainWord) (ss : List PlainSort) (to : PlainSort) → AreNames ns → AllByRecursion IsSortOfWords ss → IsSortOfWords to
    → AreText (bare_names ns ++ (in_sorts ss ++ in_sort to))
of_signature ns ss to names domain sort = all_both IsUtf8 (bare_names ns) (in_sorts ss ++ in_sort to) (of_names ns names) (all_both IsUtf8 (in_sorts ss) (in_sort to) (of_sorts ss domain) (of_sort to sort))

of_declaration : (d : PlainDecl) → IsDeclarationOfWords d → AreText (in_declaration d)
of_declaration (trees.sorts_decl span ns) is = of_names ns is
of_declaration (trees.alias_decl span n s) is = (identifier_is_text is.0, of_sort s is.1)
of_declaration (trees.struct_decl span n cs) is = (identifier_is_text is.0, in_each IsConstructorOfWords in_constructor of_constructor cs is.1)
of_declaration (trees.cons_decl span ns ss to) is = of_signature ns ss to is.0 is.1 is.2
of_declaration (trees.map_decl span ns ss to) is = of_signature ns ss to is.0 is.1 is.2
of_declaration (trees.vars_decl span gs) is = of_groups gs is
of_declaration (trees.equation_decl span c l r) is =
    all_both IsUtf8 (in_condition c) (in_data l ++ in_data r) (of_condition c is.0) (all_both IsUtf8 (in_data l) (in_data r) (of_data l is.1) (of_data r is.2))
of_declaration (trees.act_decl span ns ss) is = all_both IsUtf8 (bare_names ns) (in_sorts ss) (of_names ns is.0) (of_sorts ss is.1)
of_declaration (trees.proc_decl span p gs body) is = (identifier_is_text is.0, all_both IsUtf8 (flat_map in_group gs) (in_process body) (of_groups gs is.1) (of_process body is.2))
of_declaration (trees.init_decl span body) is = of_process body is

of_section : (s : PlainSection) → IsSectionOfWords s → AreText (in_section s)
of_section s is = in_each IsDeclarationOfWords in_declaration of_declaration s.declarations is

pub identifiers_are_text : (spec : PlainSpec) → IsSpecOfWords spec → AllByRecursion IsUtf8 (identifiers_in spec)
identifiers_are_text spec is = in_each IsSectionOfWords in_section of_section spec.sections is
