-- The parts of process terms as plain data.
use Rattle.std.specs.Prelude.{List, map}
use Rattle.mcrl2_syntax.specs.declared.word.Span.{Span}
use Rattle.mcrl2_syntax.specs.declared.process_tree.ActionTree.{ActionTree}
use Rattle.mcrl2_syntax.specs.declared.process_tree.ActionTree.TheVariants.{Tau, Named}
use Rattle.mcrl2_syntax.specs.declared.process_tree.Assignment.{Assignment}
use Rattle.mcrl2_syntax.specs.declared.process_tree.NameSet.{NameSet}
use Rattle.mcrl2_syntax.specs.declared.process_tree.Renaming.{Renaming}
use Rattle.mcrl2_syntax.specs.declared.process_tree.CommRule.{CommRule}
use Rattle.mcrl2_syntax.specs.declared.process_tree.VarGroup.{VarGroup}
use Rattle.mcrl2_syntax.specs.declared.process_tree.LabelTree.{LabelTree}
use Rattle.mcrl2_syntax.specs.Words.{PlainWord, word_of}
use Rattle.mcrl2_syntax.specs.SortTrees.{PlainSort, plain_sort}
use Rattle.mcrl2_syntax.specs.DataTrees.{PlainData, plain_data}

-- an action, without where it lies in memory
pub data PlainAction : Type 0 where
  tau_action : Span → PlainAction
  named_action : Span → PlainWord → List PlainData → PlainAction

abbrev pub plain_action : ActionTree → PlainAction
plain_action (Tau span) = tau_action span
plain_action (Named end name arguments) = named_action (record { start = name.span.start; end = end }) (word_of name) (map plain_data arguments.items)

-- where the action stands
abbrev pub action_span : PlainAction → Span
action_span (tau_action span) = span
action_span (named_action span name arguments) = span

-- a parameter and its value, as `x = d`
pub record PlainAssignment : Type 0 where
  pub span : Span
  pub name : PlainWord
  pub value : PlainData

abbrev pub assignment_of : Assignment → PlainAssignment
assignment_of x = record { span = x.span; name = word_of x.name; value = plain_data x.value }

-- names that act together, as `a|b`
pub record PlainNameSet : Type 0 where
  pub span : Span
  pub names : List PlainWord

abbrev pub name_set_of : NameSet → PlainNameSet
name_set_of x = record { span = x.span; names = map word_of x.names.items }

-- a name and its new name, as `a -> b`
pub record PlainRenaming : Type 0 where
  pub span : Span
  pub old : PlainWord
  pub renamed : PlainWord

abbrev pub renaming_of : Renaming → PlainRenaming
renaming_of x = record { span = x.span; old = word_of x.old; renamed = word_of x.renamed }

-- names that communicate, and their result, as `a|b -> c`
pub record PlainCommRule : Type 0 where
  pub span : Span
  pub names : List PlainWord
  pub outcome : PlainWord

abbrev pub comm_rule_of : CommRule → PlainCommRule
comm_rule_of x = record { span = x.span; names = map word_of x.names.items; outcome = word_of x.outcome }

-- variables of a sort, as `x, y: S`
pub record PlainVarGroup : Type 0 where
  pub span : Span
  pub names : List PlainWord
  pub sort : PlainSort

abbrev pub var_group_of : VarGroup → PlainVarGroup
var_group_of x = record { span = x.span; names = map word_of x.names.items; sort = plain_sort x.sort }

-- the label of a step, as `a(1)|b`
pub record PlainLabel : Type 0 where
  pub span : Span
  pub actions : List PlainAction

abbrev pub label_of : LabelTree → PlainLabel
label_of x = record { span = x.span; actions = map plain_action x.actions.items }
