-- Labels and summands over the trees of a pool.
use Rattle.std.specs.Prelude.{◌==◌, ℕ, List, [], ◌∷◌, map, cond, option_map, Option, IfSome}
use Rattle.std.specs.List.{All}
use Rattle.data_theory.specs.declared.ids.ActId.{ActId}
use Rattle.data_theory.specs.declared.ids.VarId.{VarId}
use Rattle.data_theory.specs.Signature.{Sig}
use Rattle.data_theory.specs.IdTrees.{Tree, variable, put_tree}
use Rattle.data_theory.specs.IdTerms.{term_under}
use Rattle.term_pool.specs.HeadTrees.{tree_at, trees_at, IsIn, AreIn}
use Rattle.process_terms.specs.PlainProcesses.{PlainAction}
use Rattle.process_terms.specs.Labels.{Action}
use Rattle.process_terms.specs.Meanings.{action_at, bound_at}
use Rattle.process_terms.specs.SignatureEntries.{entries_of}
use Rattle.bisim_laws.specs.LinearProcesses.{Summand}
use Rattle.lps_core.specs.PlainLinears.{PlainSummand}

pub record TreeAction : Type 0 where
  pub act : ActId
  pub args : List Tree

pub record TreeSummand : Type 0 where
  pub sums : List VarId
  pub condition : Tree
  pub label : List TreeAction
  pub next : Option (List Tree)

abbrev pub trees_of_action : List Tree → PlainAction → TreeAction
trees_of_action ts a = record { act = a.act; args = trees_at ts a.args }

abbrev pub trees_of_label : List Tree → List PlainAction → List TreeAction
trees_of_label ts m = map (trees_of_action ts) m

abbrev pub trees_of_summand : List Tree → PlainSummand → TreeSummand
trees_of_summand ts s = record { sums = s.sums; condition = tree_at ts s.condition; label = trees_of_label ts s.label; next = option_map (trees_at ts) s.next }

-- the numbers are those of the pool
abbrev pub IsActionIn : List Tree → PlainAction → Type 0
IsActionIn ts a = AreIn ts a.args

pub record IsSummandIn (ts : List Tree) (s : PlainSummand) : Type 0 where
  pub condition : IsIn ts s.condition
  pub label : All (IsActionIn ts) s.label
  pub next : IfSome s.next (AreIn ts)

-- ---- putting in
abbrev pub put_in_action : (VarId → Tree) → TreeAction → TreeAction
put_in_action e a = record { act = a.act; args = map (put_tree e) a.args }

abbrev pub put_actions : (VarId → Tree) → List TreeAction → List TreeAction
put_actions e m = map (put_in_action e) m

-- with other sum variables
abbrev pub put_in_summand : (VarId → Tree) → List VarId → TreeSummand → TreeSummand
put_in_summand e ys s = record { sums = ys; condition = put_tree e s.condition; label = put_actions e s.label; next = option_map (map (put_tree e)) s.next }

-- variables with trees, place by place; the others stand for themselves
abbrev pub bound_tree : List VarId → List Tree → VarId → Tree
bound_tree [] us x = variable x
bound_tree (p ∷ ps) [] x = variable x
bound_tree (p ∷ ps) (u ∷ us) x = cond (p.0 == x.0) u (bound_tree ps us x)

-- other variables in place of these
abbrev pub renaming_tree : List VarId → List VarId → VarId → Tree
renaming_tree xs ys = bound_tree xs (map variable ys)

-- ---- what they mean
abbrev pub numbers_of : List VarId → List ℕ
numbers_of xs = map (λ (x : VarId). x.0) xs

abbrev pub meant_action : Sig → TreeAction → Action
meant_action g a = record { name = (action_at (entries_of g []) a.act).name; sorts = (action_at (entries_of g []) a.act).sorts; args = map (term_under g) a.args }

abbrev pub meant_summand : Sig → TreeSummand → Summand
meant_summand g s = record { sums = map (bound_at (entries_of g [])) s.sums; condition = term_under g s.condition; label = map (meant_action g) s.label; next = option_map (map (term_under g)) s.next }
