-- What plans mean over a pool, and when they fit it.
use Rattle.std.specs.Prelude.{◌≡◌, ◌<◌, List, ◌++◌, map, length}
use Rattle.std.specs.List.{All}
use Rattle.data_theory.specs.declared.ids.TermId.{TermId}
use Rattle.data_theory.specs.Table.{bool_sort}
use Rattle.data_theory.specs.Terms.{Term}
use Rattle.data_theory.specs.Equations.{equals, !ᵗ◌}
use Rattle.data_theory.specs.Signature.{Sig}
use Rattle.data_theory.specs.IdTrees.{Tree}
use Rattle.data_theory.specs.IdTerms.{sort_under, term_under}
use Rattle.term_pool.specs.HeadTrees.{tree_at}
use Rattle.process_terms.specs.Communication.{conjunction_of}
use Rattle.lps_core.specs.Conditions.{parts, conjoined}
use Rattle.lps_core.specs.Fitting.{IsTermOf}
use Rattle.communication.specs.declared.plans.Equality.{Equality}
use Rattle.communication.specs.Plans.{PlainPlan}

abbrev pub equality_of : Sig → List Tree → Equality → Term
equality_of g ts e = equals (sort_under g e.sort) (term_under g (tree_at ts e.left)) (term_under g (tree_at ts e.right))

-- not all of these hold
abbrev pub against : Sig → List Tree → List Equality → Term
against g ts es = !ᵗ (conjunction_of (map (equality_of g ts) es))

-- a condition, and behind it what a plan asks
abbrev pub planned_condition : Sig → List Tree → Term → PlainPlan → Term
planned_condition g ts c p = conjoined (parts c ++ (map (equality_of g ts) p.equal ++ map (against g ts) p.further))

-- the sides are terms of the pool with the sort
pub record EqualityFits (g : Sig) (ts : List Tree) (e : Equality) : Type 0 where
  pub sort : e.sort.0 < length g.sorts
  pub left : IsTermOf g ts e.sort e.left
  pub right : IsTermOf g ts e.sort e.right

abbrev pub AreFitting : Sig → List Tree → List Equality → Type 0
AreFitting g ts es = All (EqualityFits g ts) es

pub record PlanFits (g : Sig) (ts : List Tree) (p : PlainPlan) : Type 0 where
  pub equal : AreFitting g ts p.equal
  pub further : All (AreFitting g ts) p.further

-- a condition in the pool that means a term
pub record IsPart (g : Sig) (ts : List Tree) (id : TermId) (c : Term) : Type 0 where
  pub fits : IsTermOf g ts bool_sort id
  pub means : term_under g (tree_at ts id) ≡ c
