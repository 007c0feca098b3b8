-- The terms of a side's parameters and of its flag, and the side's summands over them.
use Rattle.std.specs.Prelude.{◌≡◌, List, [], ◌∷◌, ◌++◌, is_none, Option, Some, None}
use Rattle.data_theory.specs.declared.ids.FunId.{FunId}
use Rattle.data_theory.specs.declared.ids.VarId.{VarId}
use Rattle.data_theory.specs.declared.ids.TermId.{TermId}
use Rattle.data_theory.specs.IdTrees.{Tree, variable, function, none, more}
use Rattle.term_pool.specs.HeadTrees.{tree_at, trees_at, AreIn}
use Rattle.lps_core.specs.PlainLinears.{PlainSummand}
use Rattle.lps_core.specs.TreeConditions.{tree_parts, trees_without_true, true_tree}
use Rattle.summand_expander.specs.declared.sides.Frame.{Frame}
use Rattle.summand_expander.specs.Drafts.{PlainMove}

pub record PlainFrame : Type 0 where
  pub params : List TermId
  pub flag : Option TermId
  pub own : List TermId
  pub running : List TermId
  pub set : List TermId

abbrev pub plain_frame : Frame → PlainFrame
plain_frame f = record { params = f.params.items; flag = f.flag; own = f.own.items; running = f.running.items; set = f.set.items }

-- `!` by its number in the table of built-in functions
abbrev pub not_function : FunId
not_function = record { 0 = 8 }

abbrev pub not_tree : Tree → Tree
not_tree t = function not_function (more t none)

-- a term of the flag where there is one
abbrev pub of_flag : (VarId → Tree) → Option VarId → List Tree
of_flag f None = []
of_flag f (Some x) = f x ∷ []

abbrev pub in_list : Option TermId → List TermId
in_list None = []
in_list (Some t) = t ∷ []

pub record IsFrame (ts params : List Tree) (flag : Option VarId) (f : PlainFrame) : Type 0 where
  pub params_in : AreIn ts f.params
  pub own_in : AreIn ts f.own
  pub running_in : AreIn ts f.running
  pub set_in : AreIn ts f.set
  pub params_are : trees_at ts f.params ≡ params
  pub own_is : trees_at ts f.own ≡ of_flag variable flag
  pub running_is : trees_at ts f.running ≡ of_flag (λ x. not_tree (variable x)) flag
  pub set_is : trees_at ts f.set ≡ of_flag (λ x. true_tree) flag
  pub flag_is : f.own ≡ in_list f.flag

abbrev pub columns_after : PlainFrame → Option (List TermId) → List TermId
columns_after f (Some ts) = ts ++ f.own
columns_after f None = f.params ++ f.set

pub record IsMoveOf (ts : List Tree) (f : PlainFrame) (m : PlainMove) (s : PlainSummand) : Type 0 where
  pub sums : m.sums ≡ s.sums
  pub parts_in : AreIn ts m.parts
  pub parts : trees_at ts m.parts ≡ trees_without_true (tree_parts (tree_at ts s.condition))
  pub label : m.label ≡ s.label
  pub onward : m.onward ≡ columns_after f s.next
  pub ends : m.ends ≡ is_none s.next
