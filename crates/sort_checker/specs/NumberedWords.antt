-- Names of operators as numbers of texts.
use Rattle.std.specs.Prelude.{◌≡◌, List, [], ◌∷◌, ◌++◌, map, slice_get, Some}
use Rattle.std.specs.List.{AllByRecursion, Contains}
use Rattle.mcrl2_syntax.specs.declared.process_tree.NameSet.{NameSet}
use Rattle.mcrl2_syntax.specs.declared.process_tree.Renaming as code
use Rattle.mcrl2_syntax.specs.declared.process_tree.CommRule.{CommRule}
use Rattle.mcrl2_syntax.specs.Words.{word_of}
use Rattle.data_theory.specs.declared.ids.NameId.{NameId}
use Rattle.data_theory.specs.Signature.{Sig}
use Rattle.process_terms.specs.Communication.{Rule}
use Rattle.process_terms.specs.Processes.{Renaming}
use Rattle.process_terms.specs.PlainProcesses.{PlainRule}
use Rattle.sort_table.specs.Expressions.{Name}
use Rattle.sort_table.specs.BareProcesses.{bare_names}
use Rattle.sort_table.specs.Vocabularies.{EachPair}

-- ---- the names of trees
abbrev pub set_names : NameSet → List Name
set_names s = bare_names (map word_of s.names.items)

abbrev pub written_renaming : code.Renaming → Renaming
written_renaming r = record { from = r.old.bytes.items; to = r.renamed.bytes.items }

abbrev pub renaming_pair : code.Renaming → Name × Name
renaming_pair r = (r.old.bytes.items, r.renamed.bytes.items)

abbrev pub rule_pair : CommRule → List Name × Name
rule_pair r = (bare_names (map word_of r.names.items), r.outcome.bytes.items)

abbrev pub renaming_names : code.Renaming → List Name
renaming_names r = r.old.bytes.items ∷ r.renamed.bytes.items ∷ []

abbrev pub rule_names : CommRule → List Name
rule_names r = bare_names (map word_of r.names.items) ++ r.outcome.bytes.items ∷ []

-- ---- numbers
-- the names stand among the texts
abbrev pub StandIn : Sig → List Name → Type 0
StandIn g xs = AllByRecursion (Contains g.texts) xs

-- the number is that of the name
abbrev pub IsNumberOf : Sig → Name → NameId → Type 0
IsNumberOf g x n = slice_get g.texts n.0 ≡ Some x

abbrev pub AreNumbersOf : Sig → List Name → List NameId → Type 0
AreNumbersOf g xs ns = EachPair (IsNumberOf g) xs ns

abbrev pub AreSetsOf : Sig → List (List Name) → List (List NameId) → Type 0
AreSetsOf g names sets = EachPair (AreNumbersOf g) names sets

abbrev pub IsRenamingOf : Sig → Renaming → NameId × NameId → Type 0
IsRenamingOf g x r = IsNumberOf g x.from r.0 × IsNumberOf g x.to r.1

abbrev pub AreRenamingsOf : Sig → List Renaming → List (NameId × NameId) → Type 0
AreRenamingsOf g xs rs = EachPair (IsRenamingOf g) xs rs

abbrev pub IsRuleOf : Sig → Rule → PlainRule → Type 0
IsRuleOf g x c = AreNumbersOf g x.left c.left × IsNumberOf g x.result c.result

abbrev pub AreRulesOf : Sig → List Rule → List PlainRule → Type 0
AreRulesOf g xs cs = EachPair (IsRuleOf g) xs cs
