-- What an elimination does to a linear process, and what is left of it.
use Rattle.std.specs.Prelude.{◌≡◌, List, map}
use Rattle.std.specs.List.{All, AllZip}
use Rattle.data_theory.specs.IdTrees.{Tree}
use Rattle.data_theory.specs.Provable.{Equation}
use Rattle.data_theory.specs.Signature.{Sig}
use Rattle.data_theory.specs.Terms.{Term}
use Rattle.data_rewriter.specs.Simplifying.{AreWellFormed, IsSimpleWith}
use Rattle.data_rewriter.specs.Written.{IsRule, AreEquationsOf, rules_of}
use Rattle.term_pool.specs.declared.terms.Theory.{Theory}
use Rattle.term_pool.specs.Pools.{Extends}
use Rattle.process_terms.specs.Meanings.{equation_of}
use Rattle.process_terms.specs.PlainProcesses.{PlainEquation, plain_equation}
use Rattle.process_terms.specs.SignatureEntries.{entries_of}
use Rattle.lps_core.specs.Fitting.{Fits}
use Rattle.lps_core.specs.PlainLinears.{PlainLinear, linear_of}
use Rattle.lps_parelm.specs.Needed.{IsWithoutTheUnneeded}
use Rattle.lps_constelm.specs.Eliminating.{IsWithoutConstants}
use Rattle.lps_sumelm.specs.Simplified.{EachTermIs, IsAnswer}
use Rattle.lps_sumelm.specs.SolvedLinears.{SolvingIsGood}
use Rattle.lps_sumelm.specs.Solving.{IsSolvedSummand}
use Rattle.lps_sumelm.specs.SolvingLaws.{HasNoSolution, HasNoUnused}
use Rattle.lin_driver.specs.declared.eliminations.Elimination.{Elimination}
use Rattle.lin_driver.specs.declared.eliminations.Elimination.TheVariants.{Constants, Parameters, Sums}

-- ---- the effect
-- Summand by summand, the sums that a part of the condition gives were put in, and those that don't occur left out: no such part and no such sum is left,
-- and each term is simple. Over every theory that goes on from the signature and has the written equations, nothing else was changed.
pub record IsWithoutSums (g : Sig) (own : List Equation) (IsSimple : Term → Type 0) (ts : List Tree) (l k : PlainLinear) : Type 0 where
  pub params : k.params ≡ l.params
  pub init : k.init ≡ l.init
  pub summands : AllZip (IsSolvedSummand (IsAnswer g own IsSimple)) (linear_of (entries_of g ts) l).summands (linear_of (entries_of g ts) k).summands
  pub solved : All HasNoSolution (linear_of (entries_of g ts) k).summands
  pub used : All HasNoUnused (linear_of (entries_of g ts) k).summands
  pub simple : All (EachTermIs IsSimple) (linear_of (entries_of g ts) k).summands
  pub bisimilar : SolvingIsGood g own ts ts l k

-- the effect of each elimination; simple is a term that is normal, or from which a chain of more uses than the fuel starts
abbrev pub HasEffect : Elimination → Sig → List Equation → List Tree → PlainLinear → PlainLinear → Type 0
HasEffect (Constants fuel) g own ts l k = IsWithoutConstants g own (IsSimpleWith g own fuel) ts l k
HasEffect Parameters g own ts l k = IsWithoutTheUnneeded g ts l k
HasEffect (Sums fuel) g own ts l k = IsWithoutSums g own (IsSimpleWith g own fuel) ts l k

-- ---- in code
-- what the written equations mean
abbrev pub equations_at : Sig → List Tree → List PlainEquation → List Equation
equations_at g ts qs = map (equation_of (entries_of g ts)) qs

abbrev pub equations_in : Sig → List Tree → Theory → List Equation
equations_in g ts theory = equations_at g ts (map plain_equation theory.equations.items)

-- Terms can be rewritten by them: they are over the signature and the pool, and well formed.
pub record CanRewrite (g : Sig) (ts : List Tree) (theory : Theory) : Type 0 where
  pub rules : All (IsRule g ts) (rules_of theory)
  pub equations : AreEquationsOf g ts (rules_of theory) (equations_in g ts theory)
  pub well_formed : AreWellFormed g (equations_in g ts theory)

-- what an elimination leaves, where the pool grows
pub record IsLeft (e : Elimination) (g : Sig) (own : List Equation) (ts us : List Tree) (l k : PlainLinear) : Type 0 where
  pub kept : Extends ts us
  pub fits : Fits g us k
  pub effect : HasEffect e g own us l k
