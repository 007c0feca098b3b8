-- What the sides of a product in code mean, and its summands.
use Rattle.std.specs.Prelude.{◌≡◌, List, map, is_none, option_map, Option, IfSome}
use Rattle.std.specs.List.{All, AllZip}
use Rattle.data_theory.specs.declared.ids.VarId.{VarId}
use Rattle.data_theory.specs.declared.ids.TermId.{TermId}
use Rattle.data_theory.specs.Terms.{variable}
use Rattle.data_theory.specs.IdTrees.{Tree}
use Rattle.term_pool.specs.HeadTrees.{tree_at, trees_at, IsIn, AreIn}
use Rattle.process_terms.specs.PlainProcesses.{PlainAction}
use Rattle.process_terms.specs.Communication.{conjunction_of}
use Rattle.process_terms.specs.Meanings.{Entries, bound_at, term_at, label_of}
use Rattle.bisim_laws.specs.LinearProcesses as theory
use Rattle.bisim_laws.specs.BaseStates.{Side}
use Rattle.lps_core.specs.Columns.{as_terms}
use Rattle.lps_core.specs.Conditions.{parts, without_true}
use Rattle.lps_core.specs.PlainLinears.{PlainSummand}
use Rattle.lps_core.specs.TreeConditions.{conjunction_tree}
use Rattle.lps_core.specs.TreeSummands.{IsActionIn}
use Rattle.summand_expander.specs.Product.{columns, running_part, onward}
use Rattle.summand_expander.specs.Drafts.{PlainMove, PlainSide, PlainDraft}

-- a summand of a side, with the parts of its condition and the columns after it
pub record MoveMeans (g : Entries) (a : Side) (m : PlainMove) (s : theory.Summand) : Type 0 where
  pub sums : map (bound_at g) m.sums ≡ s.sums
  pub parts : map (term_at g) m.parts ≡ without_true (parts s.condition)
  pub label : label_of g m.label ≡ s.label
  pub onward : map (term_at g) m.onward ≡ onward a s.next
  pub ends : m.ends ≡ is_none s.next

pub record SideMeans (g : Entries) (x : PlainSide) (a : Side) : Type 0 where
  pub columns : map (term_at g) x.columns ≡ as_terms (columns a)
  pub running : map (term_at g) x.running ≡ running_part a.flag
  pub flag : option_map (term_at g) x.flag ≡ option_map variable a.flag
  pub moves : AllZip (MoveMeans g a) x.moves a.process.summands

-- ---- the numbers are those of the pool
pub record IsMoveIn (ts : List Tree) (m : PlainMove) : Type 0 where
  pub parts : AreIn ts m.parts
  pub label : All (IsActionIn ts) m.label
  pub onward : AreIn ts m.onward

pub record IsSideIn (ts : List Tree) (x : PlainSide) : Type 0 where
  pub columns : AreIn ts x.columns
  pub running : AreIn ts x.running
  pub flag : IfSome x.flag (IsIn ts)
  pub moves : All (IsMoveIn ts) x.moves

pub record IsDraftIn (ts : List Tree) (d : PlainDraft) : Type 0 where
  pub parts : AreIn ts d.parts
  pub label : All (IsActionIn ts) d.label
  pub next : IfSome d.next (AreIn ts)

-- ---- conditions are joined
pub record Joined : Type 0 where
  pub sums : List VarId
  pub condition : Tree
  pub label : List PlainAction
  pub next : Option (List TermId)

abbrev pub joined_draft : List Tree → PlainDraft → Joined
joined_draft ts d = record { sums = d.sums; condition = conjunction_tree (trees_at ts d.parts); label = d.label; next = d.next }

abbrev pub joined_summand : List Tree → PlainSummand → Joined
joined_summand ts s = record { sums = s.sums; condition = tree_at ts s.condition; label = s.label; next = s.next }

abbrev pub IsConditionIn : List Tree → PlainSummand → Type 0
IsConditionIn ts s = IsIn ts s.condition

-- the summands of these drafts, whose parts are numbers of an older pool
pub record AreJoined (ts : List Tree) (ds : List PlainDraft) (us : List Tree) (ss : List PlainSummand) : Type 0 where
  pub conditions : All (IsConditionIn us) ss
  pub same : map (joined_summand us) ss ≡ map (joined_draft ts) ds

-- ---- what a draft means
abbrev pub summand_of_draft : Entries → PlainDraft → theory.Summand
summand_of_draft g d = record { sums = map (bound_at g) d.sums; condition = conjunction_of (map (term_at g) d.parts); label = label_of g d.label; next = option_map (map (term_at g)) d.next }
