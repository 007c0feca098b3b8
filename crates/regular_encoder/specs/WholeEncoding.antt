-- The whole encoding: over each theory that goes on from a signature, and as what the code makes means.
use Rattle.std.specs.Prelude.{◌≡◌, ◌++◌, ℕ, suc, List, [], ◌∷◌, map, Some, slice_get}
use Rattle.std.specs.List.{All, AllByRecursion}
use Rattle.data_theory.specs.declared.ids.VarId.{VarId}
use Rattle.data_theory.specs.Terms.{Sort, Term}
use Rattle.data_theory.specs.Declarations.{HaveSorts}
use Rattle.data_theory.specs.Environments.{terms_of}
use Rattle.data_theory.specs.Signature.{Sig}
use Rattle.data_theory.specs.Complete.{IsComplete}
use Rattle.data_theory.specs.IdTables.{IsTable}
use Rattle.data_theory.specs.IdData.{data_meant}
use Rattle.data_theory.specs.IdTrees.{Tree, variable, put_tree}
use Rattle.data_theory.specs.IdTerms.{IsTreeWithin}
use Rattle.term_pool.specs.HeadTrees.{tree_at}
use Rattle.process_terms.specs.Processes.{call}
use Rattle.process_terms.specs.SignatureEntries.{entries_of}
use Rattle.process_terms.specs.Meanings.{bound_at}
use Rattle.bisim_laws.specs.LinearProcesses.{sorts, state_of, AreDeclared, HaveDataSorts}
use Rattle.bisim_laws.specs.BaseStates.{Columns}
use Rattle.bisim_laws.specs.Links.{Regular}
use Rattle.lps_core.specs.GoingOn.{IsGoodOver}
use Rattle.lps_core.specs.declared.linears.Summand.{Summand}
use Rattle.lps_core.specs.PlainLinears.{plain_summand, PlainLinear, linear_of}
use Rattle.greibach.specs.PlainForms.{PlainEquation, PlainFormSummand, PlainForm, form_of}
use Rattle.greibach.specs.Forms.{FormEquation, Form, form_table, IsForm, IsTail, FormIsSorted}
use Rattle.lps_core.specs.TreeSummands.{TreeSummand, trees_of_summand, IsSummandIn, bound_tree}
use Rattle.regular_encoder.specs.Encoding.{encoded_params, encoded, first_terms, IsLayout}
use Rattle.regular_encoder.specs.TreeEncoding.{PlainLayout, place_at, tree_encoded, IsFormSummandIn}
use Rattle.regular_encoder.specs.MeantEncoding.{MeansColumns}

-- in each consistent theory that goes on from the signature's data, the link is good for the form's call and the encoding
abbrev pub EncodedIsGoodOver : Type 0
EncodedIsGoodOver =
    (g : Sig) (vs : List Sort) (c : Columns) (v : ℕ) (form : Form) (q : FormEquation) (init : List Term) → IsForm form → IsTail form → FormIsSorted (data_meant g) vs form
    → IsLayout c v form → AreDeclared vs (encoded_params c v) → HaveDataSorts (data_meant g) (encoded_params c v) → slice_get form 0 ≡ Some q
    → HaveSorts (data_meant g) [] (terms_of init) (sorts q.params) → HaveSorts (data_meant g) [] (terms_of c.defaults) (sorts c.columns)
    → IsGoodOver g (Regular (form_table form) c (encoded c v form)) (call (form_table form) 0 init) (state_of (encoded c v form) (first_terms c init))

-- ---- what the code makes
abbrev pub moves_of : PlainLayout → ℕ → PlainEquation → VarId → Tree
moves_of l i q = bound_tree q.params (map variable (place_at l i))

-- the trees of an equation's encoded summands
abbrev pub equation_encoded : PlainLayout → ℕ → List Tree → PlainEquation → List TreeSummand
equation_encoded l i ts q = map (tree_encoded l i (moves_of l i q) ts) q.summands

-- the trees of summands in code
abbrev pub trees_of_summands : List Tree → List Summand → List TreeSummand
trees_of_summands ts ss = map (trees_of_summand ts) (map plain_summand ss)

-- the summands of the equations from number i on; equations count from 1
abbrev pub trees_encoded_from : PlainLayout → ℕ → List Tree → List PlainEquation → List TreeSummand
trees_encoded_from l i ts [] = []
trees_encoded_from l i ts (q ∷ qs) = equation_encoded l i ts q ++ trees_encoded_from l (suc i) ts qs

-- the numbers of an equation's summands are the pool's, and its conditions stay within the signature
abbrev pub AreEquationsIn : Sig → List Tree → PlainLayout → ℕ → List PlainEquation → Type 0
AreEquationsIn g ts l i [] = Unit {0}
AreEquationsIn g ts l i (q ∷ qs) =
    AllByRecursion (λ (s : PlainFormSummand). IsFormSummandIn ts l s × IsTreeWithin g (put_tree (moves_of l i q) (tree_at ts s.condition))) q.summands × AreEquationsIn g ts l (suc i) qs

-- what has these trees means the encoding
abbrev pub WhatIsMadeMeansTheEncoding : Type 0
WhatIsMadeMeansTheEncoding =
    (g : Sig) (ts : List Tree) (l : PlainLayout) (c : Columns) (v : ℕ) (f : PlainForm) (made : PlainLinear) → IsTable g → IsComplete g → MeansColumns l c v → AreEquationsIn g ts l 1 f.equations
    → map (bound_at (entries_of g ts)) made.params ≡ encoded_params c v → All (IsSummandIn ts) made.summands
    → map (trees_of_summand ts) made.summands ≡ trees_encoded_from l 1 ts f.equations
    → linear_of (entries_of g ts) made ≡ encoded c v (form_of (entries_of g ts) f)
