-- The identifiers that stand in trees, in the order of the text.
use Rattle.std.specs.Prelude.{List, [], ◌∷◌, ◌++◌, cond, Option, Some, None}
use Rattle.std.specs.List.{flat_map}
use Rattle.mcrl2_syntax.specs.Words.{PlainWord}
use Rattle.mcrl2_syntax.specs.SortTrees as sorts
use Rattle.mcrl2_syntax.specs.SortTrees.{PlainSort}
use Rattle.mcrl2_syntax.specs.DataTrees as datas
use Rattle.mcrl2_syntax.specs.DataTrees.{PlainData, PlainDatas, PlainOperands, no_datas, more_datas, no_operands, more_operands}
use Rattle.mcrl2_syntax.specs.ProcessParts.{PlainAction, tau_action, named_action, PlainVarGroup, PlainAssignment, PlainNameSet, PlainRenaming, PlainCommRule}
use Rattle.mcrl2_syntax.specs.ProcessTrees as processes
use Rattle.mcrl2_syntax.specs.ProcessTrees.{PlainProcess, PlainProcesses, no_processes, more_processes}
use Rattle.mcrl2_syntax.specs.Declarations as trees
use Rattle.mcrl2_syntax.specs.Declarations.{PlainField, PlainConstructor, PlainDecl, PlainSection, PlainSpec}
use Rattle.mcrl2_syntax.specs.Copied.{is_copied}
use Rattle.sort_table.specs.Expressions.{Name}
use Rattle.sort_table.specs.BareProcesses.{bare_names}

abbrev pub name_where : Option PlainWord → List Name
name_where None = []
name_where (Some w) = w.bytes ∷ []

abbrev pub in_sort : PlainSort → List Name
in_sort (sorts.bool_sort span) = []
in_sort (sorts.pos_sort span) = []
in_sort (sorts.nat_sort span) = []
in_sort (sorts.int_sort span) = []
in_sort (sorts.list_sort span s) = in_sort s
in_sort (sorts.named_sort w) = w.bytes ∷ []
in_sort (sorts.brackets_sort span s) = in_sort s

abbrev pub in_sorts : List PlainSort → List Name
in_sorts ss = flat_map in_sort ss

-- ---- data
abbrev mutual
  pub in_data : PlainData → List Name
  in_data (datas.named w) = w.bytes ∷ []
  in_data (datas.numeral w) = []
  in_data (datas.true_data span) = []
  in_data (datas.false_data span) = []
  in_data (datas.listed span ds) = in_datas ds
  in_data (datas.applied span f ds) = f.bytes ∷ in_datas ds
  in_data (datas.brackets span d) = in_data d
  in_data (datas.prefix span sign d) = in_data d
  in_data (datas.binary span sign d e) = in_data d ++ in_data e
  in_data (datas.sum_chain span d os) = in_data d ++ in_operands os
  in_data (datas.product_chain span d os) = in_data d ++ in_operands os
  in_data (datas.and_chain span ds) = in_datas ds
  in_data (datas.or_chain span ds) = in_datas ds

  pub in_datas : PlainDatas → List Name
  in_datas no_datas = []
  in_datas (more_datas d ds) = in_data d ++ in_datas ds

  pub in_operands : PlainOperands → List Name
  in_operands no_operands = []
  in_operands (more_operands sign d os) = in_data d ++ in_operands os

abbrev pub in_condition : Option PlainData → List Name
in_condition None = []
in_condition (Some d) = in_data d

-- ---- processes
abbrev pub in_group : PlainVarGroup → List Name
in_group g = bare_names g.names ++ in_sort g.sort

abbrev pub in_action : PlainAction → List Name
in_action (tau_action span) = []
in_action (named_action span a ds) = a.bytes ∷ flat_map in_data ds

abbrev pub in_assignment : PlainAssignment → List Name
in_assignment x = x.name.bytes ∷ in_data x.value

abbrev pub in_set : PlainNameSet → List Name
in_set s = bare_names s.names

abbrev pub in_renaming : PlainRenaming → List Name
in_renaming r = r.old.bytes ∷ r.renamed.bytes ∷ []

abbrev pub in_rule : PlainCommRule → List Name
in_rule r = bare_names r.names ++ r.outcome.bytes ∷ []

abbrev mutual
  pub in_process : PlainProcess → List Name
  in_process (processes.delta span) = []
  in_process (processes.acts a) = in_action a
  in_process (processes.multi span as_) = flat_map in_action as_
  in_process (processes.sync span ps) = in_processes ps
  in_process (processes.call span p xs) = p.bytes ∷ flat_map in_assignment xs
  in_process (processes.within span p) = in_process p
  in_process (processes.allow span sets p) = flat_map in_set sets ++ in_process p
  in_process (processes.block span ns p) = bare_names ns ++ in_process p
  in_process (processes.hide span ns p) = bare_names ns ++ in_process p
  in_process (processes.rename span rs p) = flat_map in_renaming rs ++ in_process p
  in_process (processes.comm span rs p) = flat_map in_rule rs ++ in_process p
  in_process (processes.sequence span ps) = in_processes ps
  in_process (processes.sum span gs p) = flat_map in_group gs ++ in_process p
  in_process (processes.when span d p) = in_data d ++ in_process p
  in_process (processes.either span d p q) = in_data d ++ (in_process p ++ in_process q)
  in_process (processes.left_merge span p q) = in_process p ++ in_process q
  in_process (processes.parallel span ps) = in_processes ps
  in_process (processes.choice span ps) = in_processes ps

  pub in_processes : PlainProcesses → List Name
  in_processes no_processes = []
  in_processes (more_processes p ps) = in_process p ++ in_processes ps

-- ---- declarations
abbrev pub in_field : PlainField → List Name
in_field f = name_where f.name ++ in_sort f.sort

abbrev pub in_constructor : PlainConstructor → List Name
in_constructor c = c.name.bytes ∷ (flat_map in_field c.fields ++ name_where c.recogniser)

abbrev pub in_declaration : PlainDecl → List Name
in_declaration (trees.sorts_decl span ns) = bare_names ns
in_declaration (trees.alias_decl span n s) = n.bytes ∷ in_sort s
in_declaration (trees.struct_decl span n cs) = n.bytes ∷ flat_map in_constructor cs
in_declaration (trees.cons_decl span ns ss to) = bare_names ns ++ (in_sorts ss ++ in_sort to)
in_declaration (trees.map_decl span ns ss to) = bare_names ns ++ (in_sorts ss ++ in_sort to)
in_declaration (trees.vars_decl span gs) = flat_map in_group gs
in_declaration (trees.equation_decl span c l r) = in_condition c ++ (in_data l ++ in_data r)
in_declaration (trees.act_decl span ns ss) = bare_names ns ++ in_sorts ss
in_declaration (trees.proc_decl span p gs body) = p.bytes ∷ (flat_map in_group gs ++ in_process body)
in_declaration (trees.init_decl span body) = in_process body

abbrev pub in_section : PlainSection → List Name
in_section s = flat_map in_declaration s.declarations

-- all identifiers of a specification
abbrev pub identifiers_in : PlainSpec → List Name
identifiers_in spec = flat_map in_section spec.sections

-- those of the sections that are copied
abbrev pub copied_in : List PlainSection → List Name
copied_in [] = []
copied_in (s ∷ ss) = cond (is_copied (s ∷ ss)) (in_section s ++ copied_in ss) (copied_in ss)

abbrev pub copied_identifiers : PlainSpec → List Name
copied_identifiers spec = copied_in spec.sections
