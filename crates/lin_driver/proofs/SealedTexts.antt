-- The linear process of a text that was sealed.
use Rattle.std.proofs.Common.{◌≡◌, ℕ, List, map}
use Rattle.data_theory.specs.declared.ids.NameId.{NameId}
use Rattle.data_theory.specs.IdTerms.{IsGrown}
use Rattle.data_theory.specs.IdTrees.{Tree}
use Rattle.data_theory.specs.Signature.{Sig}
use Rattle.data_theory.specs.WholeSignatures.{IsSignature}
use Rattle.mcrl2_syntax.specs.Declarations.{PlainSpec}
use Rattle.sort_table.specs.BareDeclarations.{bare_sections, declarations_in}
use Rattle.term_pool.specs.Pools.{PoolContents, Extends}
use Rattle.process_terms.specs.PlainProcesses.{PlainEquation}
use Rattle.process_terms.specs.SignatureEntries.{entries_of}
use Rattle.bisim_laws.specs.Terminations.{terminate_name}
use Rattle.lps_core.specs.Fitting.{Fits}
use Rattle.lps_core.specs.PlainLinears.{PlainLinear, linear_of}
use Rattle.lps_core.specs.SealedTrees.{IsNoAction, IsSealed, SealingIsGood}
use Rattle.lps_core.specs.Sealing.{NeverEnds}
use Rattle.lps_printer.proofs.GrowingByAdditions.{same_actions}
use Rattle.lin_driver.specs.Headline.{LeavesTerminate}
use Rattle.lin_driver.specs.Linearised.{IsMadeFor, it_is_sealed}
use Rattle.lin_driver.specs.LinearOfTexts.{IsLinearOf, IsMadeBy}
use Rattle.lin_driver.specs.PlainlyMade.{written_in_model}
use Rattle.lin_driver.specs.Refusals.{IsParsedAs}
use Rattle.lin_driver.specs.SealedLinears.{SealsLinear}
use Rattle.lin_driver.specs.declared.ending.Ending.TheVariants.{Terminate}
use Rattle.lin_driver.specs.declared.methods.Method.{Method}
use Rattle.lin_driver.proofs.SealedConditions.{sealed_conditions_have_no_needless_true}
use Rattle.lin_driver.proofs.SealedNames.{sealed_params_have_own_names, sealed_sums_have_own_names}
use Rattle.lin_driver.proofs.SealedPlainly.{sealed_linears_are_plain}
use Rattle.lin_driver.proofs.UndeclaredActions.{no_action_of_it}

-- what is made of a specification without an action `Terminate` has none
pub made_without_terminate : (spec : PlainSpec) (g : Sig) (ts : List Tree) (equations : List PlainEquation) (x : NameId) (l : PlainLinear) → IsMadeFor spec g ts equations x l → LeavesTerminate Terminate spec → IsNoAction g terminate_name
made_without_terminate spec g ts equations x l made leaves =
    no_action_of_it (declarations_in (bare_sections spec)) made.signature g terminate_name made.declares.vocabulary made.stands made.grow.signature (same_actions made.signature made.stands made.leads.grows made.leads.no_actions) leaves

module _ (method : Method) (spec : PlainSpec) (g h : Sig) (p q : PoolContents) (equations : List PlainEquation) (x : NameId) (l k : PlainLinear) (components : ℕ) (by : IsMadeBy method spec g p equations x l components)
    (new : IsSignature h) (grown : IsGrown g h) (kept : Extends p.trees q.trees) (fits : Fits h q.trees k) (absent : IsNoAction g terminate_name) (sealed : IsSealed g p.trees l h q.trees k) (never : NeverEnds (linear_of (entries_of h q.trees) k))
    (good : SealingIsGood g p.trees l h q.trees k) where
  abbrev seals : SealsLinear g h p.trees q.trees l k
  seals = record { old = by.made.leads.stands; new = new; grown = grown; kept = kept; fits = by.made.leads.fits; made_fits = fits; absent = absent; sealed = sealed }

  pub sealed_linear : (text : List ℕ) → IsParsedAs text spec → LeavesTerminate Terminate spec → IsLinearOf Terminate method text spec h q equations x k components
  sealed_linear text parsed leaves = record {
    tokens = parsed.tokens;
    cut = parsed.has_tokens;
    spelled = parsed.spelled;
    leaves_terminate = leaves;
    signature = g;
    pool = p;
    linear = l;
    by = by;
    ended = it_is_sealed seals never good;
    plain = sealed_linears_are_plain by.made.signature g h p q (written_in_model (entries_of g p.trees) by.made.model) l k seals by.made.grow.signature by.plain;
    conditions = sealed_conditions_have_no_needless_true g h p q l k seals by.conditions;
    parameters = sealed_params_have_own_names g h p q l k seals by.parameters;
    sums = sealed_sums_have_own_names g h p q l k seals by.sums;
  }
