-- What an encoding over trees means.
use Rattle.std.specs.Prelude.{◌≡◌, ◌≤◌, ◌-◌, ℕ, Bool, true, false, List, map, Option, Some, None}
use Rattle.data_theory.specs.declared.ids.VarId.{VarId}
use Rattle.data_theory.specs.Signature.{Sig}
use Rattle.data_theory.specs.Complete.{IsComplete}
use Rattle.data_theory.specs.IdTables.{IsTable}
use Rattle.data_theory.specs.IdTrees.{Tree, variable, put_tree}
use Rattle.data_theory.specs.IdTerms.{IsTreeWithin}
use Rattle.term_pool.specs.HeadTrees.{tree_at}
use Rattle.process_terms.specs.SignatureEntries.{entries_of}
use Rattle.bisim_laws.specs.LinearProcesses.{variables}
use Rattle.bisim_laws.specs.BaseStates.{Columns}
use Rattle.greibach.specs.PlainForms.{PlainFormSummand, form_summand_of}
use Rattle.greibach.specs.Forms.{FormEquation}
use Rattle.lps_core.specs.TreeSummands.{bound_tree, numbers_of, meant_summand}
use Rattle.regular_encoder.specs.Encoding.{encoded_summand}
use Rattle.regular_encoder.specs.TreeEncoding.{PlainLayout, place_at, tree_encoded, IsFormSummandIn}

-- the columns in code are these
abbrev pub HasControl : Option VarId → Bool → ℕ → Type 0
HasControl None b v = b ≡ false
HasControl (Some x) b v = (b ≡ true) × (v ≡ x.0)

pub record MeansColumns (l : PlainLayout) (c : Columns) (v : ℕ) : Type 0 where
  pub columns : variables c.columns ≡ numbers_of l.columns
  pub places : c.places ≡ map numbers_of l.places
  pub control : HasControl l.control c.control v

-- a summand over trees means the encoded summand
abbrev pub EncodedTreesMean : Type 0
EncodedTreesMean =
    (g : Sig) (l : PlainLayout) (c : Columns) (v i : ℕ) (params : List VarId) (q : FormEquation) (ts : List Tree) (s : PlainFormSummand) → IsTable g → IsComplete g → MeansColumns l c v → 1 ≤ i
    → variables q.params ≡ numbers_of params → IsFormSummandIn ts l s
    → IsTreeWithin g (put_tree (bound_tree params (map variable (place_at l i))) (tree_at ts s.condition))
    → meant_summand g (tree_encoded l i (bound_tree params (map variable (place_at l i))) ts s) ≡ encoded_summand c v (i - 1) q (form_summand_of (entries_of g ts) s)
