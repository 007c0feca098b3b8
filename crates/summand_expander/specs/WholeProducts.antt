-- The product of two linear processes in code.
use Rattle.std.specs.Prelude.{◌≡◌, ◌++◌, ◌∷◌, ℕ, List, [], map, option_map, option_to_list, Option, Some, None}
use Rattle.std.specs.List.{All}
use Rattle.data_theory.specs.declared.ids.TermId.{TermId}
use Rattle.data_theory.specs.declared.ids.VarId.{VarId}
use Rattle.data_theory.specs.Signature.{Sig}
use Rattle.data_theory.specs.IdTrees.{Tree, function, none}
use Rattle.term_pool.specs.HeadTrees.{tree_at, IsIn}
use Rattle.process_terms.specs.Meanings.{Entries}
use Rattle.process_terms.specs.Processes.{merge}
use Rattle.process_terms.specs.SignatureEntries.{entries_of}
use Rattle.bisim_laws.specs.LinearProcesses.{Linear}
use Rattle.bisim_laws.specs.BaseStates.{Side}
use Rattle.bisim_laws.specs.Links.{Product}
use Rattle.data_theory.specs.Environments.{AreDistinct}
use Rattle.data_theory.specs.declared.ids.NameId.{NameId}
use Rattle.lps_core.specs.Naming.{names_of}
use Rattle.lps_core.specs.GoingOn.{IsGoodOver}
use Rattle.lps_core.specs.PlainLinears.{PlainSummand, PlainLinear, can_end, summand_of, linear_of, initial_of, linear_state}
use Rattle.summand_expander.specs.Product.{product, first_columns}
use Rattle.summand_expander.specs.Renewing.{renewed}
use Rattle.summand_expander.specs.SideFits.{FitsWithNames}
use Rattle.summand_expander.specs.Renewals.{IsFlag, GivesWay, renewed_variable}

-- new variables in the place of old ones, by their numbers
abbrev pub renewed_number : List VarId → List VarId → ℕ → ℕ
renewed_number olds news v = (renewed_variable olds news (record { 0 = v })).0

-- a linear process with its flag, and one with new variables
abbrev pub side_of_linear : Entries → PlainLinear → Option VarId → Side
side_of_linear e l flag = record { process = linear_of e l; flag = option_map (λ (v : VarId). v.0) flag }

abbrev pub renewed_side : Entries → List VarId → List VarId → PlainLinear → Option VarId → Side
renewed_side e olds news l flag = record { process = renewed (renewed_number olds news) (linear_of e l); flag = option_map (λ (v : VarId). v.0) flag }

-- summands over the columns of both sides that are those of the linear process that f says
pub record AreSummandsOf (f : Side → Side → Linear) (g : Sig) (us : List Tree) (l : PlainLinear) (left_flag : Option VarId) (r : PlainLinear) (right_flag : Option VarId) (ss : List PlainSummand) : Type 0 where
  pub fit : All (FitsWithNames g us ((l.params ++ option_to_list left_flag) ++ (r.params ++ option_to_list right_flag))) ss
  pub mean : map (summand_of (entries_of g us)) ss ≡ (f (side_of_linear (entries_of g us) l left_flag) (side_of_linear (entries_of g us) r right_flag)).summands

-- those of the product
abbrev pub AreProductSummands : Sig → List Tree → PlainLinear → Option VarId → PlainLinear → Option VarId → List PlainSummand → Type 0
AreProductSummands = AreSummandsOf product

-- the initial terms of both sides; a flag has the term of `false`
abbrev pub first_flag_id : TermId → Option VarId → List TermId
first_flag_id unset None = []
first_flag_id unset (Some f) = unset ∷ []

pub record AreFirstTerms (us : List Tree) (left : List TermId) (left_flag : Option VarId) (right : List TermId) (right_flag : Option VarId) (all : List TermId) : Type 0 where
  pub unset : TermId
  pub within : IsIn us unset
  pub is_false : tree_at us unset ≡ function (record { 0 = 7 }) none
  pub terms : all ≡ (left ++ first_flag_id unset left_flag) ++ (right ++ first_flag_id unset right_flag)

-- How a linear process is made of two, from the signature g to h, where f says what it is of two sides. The left flag is named first, then
-- the right variables that give way, then the right flag. The parameters and the summands are those that f says, in its order, and no flag
-- is set at first.
pub record IsMadeOfSides (f : Side → Side → Linear) (g h : Sig) (us : List Tree) (l r k : PlainLinear) : Type 0 where
  pub with_left_flag : Sig
  pub left_flag : Option VarId
  pub left : IsFlag g (can_end l) with_left_flag left_flag
  pub with_new : Sig
  pub olds : List VarId
  pub news : List VarId
  pub gives_way : GivesWay with_left_flag l r with_new olds news
  pub right_flag : Option VarId
  pub right : IsFlag with_new (can_end r) h right_flag
  pub linear : linear_of (entries_of h us) k ≡ f (side_of_linear (entries_of h us) l left_flag) (renewed_side (entries_of h us) olds news r right_flag)
  pub initial :
      initial_of (entries_of h us) k
      ≡ first_columns (side_of_linear (entries_of h us) l left_flag) (initial_of (entries_of h us) l) ++ first_columns (renewed_side (entries_of h us) olds news r right_flag) (initial_of (entries_of h us) r)

-- how the product is made
abbrev pub IsProduct : Sig → Sig → List Tree → PlainLinear → PlainLinear → PlainLinear → Type 0
IsProduct = IsMadeOfSides product

-- no two of these variables have one name
abbrev pub HaveDifferentNames : Sig → List VarId → Type 0
HaveDifferentNames g xs = AreDistinct (map (λ (n : NameId). n.0) (names_of g xs))

-- over every theory that goes on from the signature, `Product` is good for both side by side and the product
pub record IsGoodProduct (h : Sig) (us : List Tree) (l r k : PlainLinear) : Type 0 where
  pub left : Side
  pub right : Side
  pub good : IsGoodOver h (Product left right (linear_of (entries_of h us) k)) (merge (linear_state (entries_of h us) l) (linear_state (entries_of h us) r)) (linear_state (entries_of h us) k)
