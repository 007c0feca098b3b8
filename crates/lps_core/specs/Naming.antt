-- The names of the sums of a linear process.
use Rattle.std.specs.Prelude.{◌≡◌, ◌⊎◌, ℕ, List, [], ◌∷◌, ◌++◌, map, length, get_or, slice_get, Some}
use Rattle.std.specs.List.{All, AllZip, Contains}
use Rattle.data_theory.specs.declared.ids.NameId.{NameId}
use Rattle.data_theory.specs.declared.ids.VarId.{VarId}
use Rattle.data_theory.specs.declared.words.ListWord.{ListWord}
use Rattle.data_theory.specs.declared.words.ListWord.TheVariants as lists
use Rattle.data_theory.specs.Words.{list_text}
use Rattle.data_theory.specs.Names.{place_in}
use Rattle.data_theory.specs.Functions.{Function}
use Rattle.data_theory.specs.Signature.{Sig, with_variable}
use Rattle.data_theory.specs.Fresh.{IsFreshIn}
use Rattle.data_theory.specs.IdTrees.{Tree}
use Rattle.data_theory.specs.IdTerms.{IsGrown}
use Rattle.data_theory.specs.WholeSignatures.{IsSignature}
use Rattle.lps_core.specs.Fitting.{sort_of_variable}
use Rattle.lps_core.specs.PlainLinears.{PlainSummand, PlainLinear, linear_of, linear_state}
use Rattle.lps_core.specs.TreeSummands.{trees_of_summand, put_in_summand, renaming_tree, IsSummandIn}
use Rattle.lps_core.specs.GoingOn.{IsGoodOver}
use Rattle.lps_core.specs.Moving.{all_kept}
use Rattle.process_terms.specs.SignatureEntries.{entries_of}
use Rattle.bisim_laws.specs.Links.{Dropped}
use Rattle.data_theory.specs.Environments.{AreDistinct}

abbrev pub name_of : Sig → VarId → NameId
name_of g x = (get_or g.variables x.0 (record { name = record { 0 = 0 }; sort = record { 0 = 0 } })).name

abbrev pub names_of : Sig → List VarId → List NameId
names_of g xs = map (name_of g) xs

-- the functions over lists that have an identifier as their name
unfoldable pub list_words : List ListWord
list_words = lists.Head ∷ lists.Rhead ∷ lists.Tail ∷ lists.Rtail ∷ []

-- their names, which are in the table of texts from the start
abbrev pub list_names : List (List ℕ) → List NameId
list_names texts = map (λ w. place_in texts (list_text w)) list_words

-- the names of the functions in the table
abbrev pub table_names : Sig → List NameId
table_names g = map (λ (f : Function). f.name) g.functions

-- All names of functions. Those over lists are in the table once there is a list sort, and their names count before that, too.
abbrev pub function_names : Sig → List NameId
function_names g = list_names g.texts ++ table_names g

-- no sum may have the name of a parameter or of a function
abbrev pub IsUsed : Sig → List VarId → NameId → Type 0
IsUsed g params n = Contains (names_of g params) n ⊎ Contains (function_names g) n

-- texts, names that are taken and variables come behind the old ones, and nothing else is new
pub record GrowsByNames (g h : Sig) : Type 0 where
  pub stands : IsSignature h
  pub grown : IsGrown g h
  pub functions : h.functions ≡ g.functions
  pub sorts : h.sorts ≡ g.sorts
  pub sort_names : h.sort_names ≡ g.sort_names
  pub actions : h.actions ≡ g.actions
  pub taken : (n : NameId) → Contains g.taken n → Contains h.taken n

-- A sum keeps its name where that isn't one of these. Else a variable of its sort with a fresh name takes its place, and its own
-- name is the base.
pub data IsNamed (IsOne : NameId → Type 0) (g : Sig) (x : VarId) : Sig → VarId → Type 0 where
  it_stays : ¬ (IsOne (name_of g x)) → IsNamed IsOne g x g x
  it_is_new : {h : Sig} {base : List ℕ} {name : NameId} → IsOne (name_of g x) → slice_get g.texts (name_of g x).0 ≡ Some base → IsFreshIn g base name h
      → IsNamed IsOne g x (with_variable h (record { name = name; sort = sort_of_variable g x })) (record { 0 = length h.variables })

-- the sums of a summand from the left: none may have an earlier one's name, either
pub data AreNamed (IsOne : NameId → Type 0) (g : Sig) : List VarId → Sig → List VarId → Type 0 where
  no_sum : AreNamed IsOne g [] g []
  one_more_sum : {xs ys : List VarId} {h k : Sig} {x y : VarId} → AreNamed IsOne g xs h ys → IsNamed (λ n. IsOne n ⊎ Contains (names_of h ys) n) h x k y
      → AreNamed IsOne g (xs ++ x ∷ []) k (ys ++ y ∷ [])

-- the summands in their order
pub data SummandsAreNamed (IsOne : NameId → Type 0) (g : Sig) : List (List VarId) → Sig → List (List VarId) → Type 0 where
  no_summand : SummandsAreNamed IsOne g [] g []
  one_more_summand : {xss yss : List (List VarId)} {h k : Sig} {xs ys : List VarId} → SummandsAreNamed IsOne g xss h yss → AreNamed IsOne h xs k ys
      → SummandsAreNamed IsOne g (xss ++ xs ∷ []) k (yss ++ ys ∷ [])

-- the same summand with these sums in place of its own
abbrev pub HasOtherSums : List Tree → List Tree → PlainSummand → PlainSummand → Type 0
HasOtherSums ts us s t = trees_of_summand us t ≡ put_in_summand (renaming_tree s.sums t.sums) t.sums (trees_of_summand ts s)

pub record NamesSummands (IsOne : NameId → Type 0) (g h : Sig) (ts us : List Tree) (ss made : List PlainSummand) : Type 0 where
  pub names : SummandsAreNamed IsOne g (map (λ s. s.sums) ss) h (map (λ s. s.sums) made)
  pub summands : AllZip (HasOtherSums ts us) ss made
  pub within : All (IsSummandIn us) made

-- nothing but the names of the sums changes
pub record SumsAreNamed (g h : Sig) (ts us : List Tree) (l k : PlainLinear) : Type 0 where
  pub params : k.params ≡ l.params
  pub init : k.init ≡ l.init
  pub names : SummandsAreNamed (IsUsed g l.params) g (map (λ s. s.sums) l.summands) h (map (λ s. s.sums) k.summands)
  pub summands : AllZip (HasOtherSums ts us) l.summands k.summands

-- ---- what holds then
-- no sum has the name of a parameter, of a function, or of another sum of its summand
abbrev pub HasOwnNames : Sig → List VarId → PlainSummand → Type 0
HasOwnNames g params s = All (λ x. ¬ (IsUsed g params (name_of g x))) s.sums × AreDistinct (map (λ n. n.0) (names_of g s.sums))

abbrev pub HaveOwnNames : Sig → PlainLinear → Type 0
HaveOwnNames g l = All (HasOwnNames g l.params) l.summands

-- the names of the parameters differ, and none is a function's
pub record ParamsHaveOwnNames (g : Sig) (xs : List VarId) : Type 0 where
  pub differ : AreDistinct (map (λ n. n.0) (names_of g xs))
  pub unused : All (λ x. ¬ (Contains (function_names g) (name_of g x))) xs

-- over every theory that goes on from the signature, nothing was dropped
abbrev pub NamingIsGood : Sig → List Tree → PlainLinear → PlainLinear → Type 0
NamingIsGood g ts l k =
    IsGoodOver g (Dropped (all_kept (linear_of (entries_of g ts) l).params) (linear_of (entries_of g ts) l) (linear_of (entries_of g ts) k)) (linear_state (entries_of g ts) l) (linear_state (entries_of g ts) k)
