-- The written equations of a model, as those that are judged.
use Rattle.std.proofs.Common.{◌≡◌, ◌<◌, ℕ, List, [], ◌∷◌, map, Result, Ok, Err, subst}
use Rattle.std.specs.Prelude.{IfOk}
use Rattle.std.specs.List.{All, AllZip}
use Rattle.std.proofs.lemmas.List.{length-map}
use Rattle.std.proofs.lemmas.List.Elements.{All-cons, All-head, All-nil, All-tail}
use Rattle.data_theory.specs.declared.ids.TermId.{TermId}
use Rattle.data_theory.specs.IdTerms.{IsTreeWithin, term_under}
use Rattle.data_theory.specs.IdTrees.{Tree}
use Rattle.data_theory.specs.Signature.{Sig}
use Rattle.mcrl2_syntax.specs.Declarations.{PlainSpec}
use Rattle.term_pool.specs.HeadTrees.{no_tree, IsIn}
use Rattle.term_pool.specs.declared.terms.Equation.{Equation as Written}
use Rattle.process_terms.specs.Meanings.{equation_of, HasEquation, HasTerm}
use Rattle.process_terms.specs.PlainProcesses.{plain_equation, PlainEquation}
use Rattle.process_terms.specs.SignatureEntries.{entries_of}
use Rattle.lps_core.proofs.Staying.{term_is}
use Rattle.eqn_check.specs.Judged.{IsEquationOf, IsEquationOver, IsTerm}
use Rattle.eqn_check.specs.declared.answers.Answer.{Answer}
use Rattle.lin_driver.specs.JudgedTexts.{IsJudged, IsJudgedFor}
use Rattle.lin_driver.specs.Refusals.{IsParsedAs}
use Rattle.lin_driver.specs.declared.fault.LinFault.{LinFault}

module _ (g : Sig) (ts : List Tree) (within : All (IsTreeWithin g) ts) where
  there : (id : TermId) → HasTerm (entries_of g ts) id → IsIn ts id
  there id has = subst (λ n. id.0 < n) (length-map ts (term_under g)) has

  is_term : (id : TermId) → HasTerm (entries_of g ts) id → IsTerm g ts id
  is_term id has = let inside = there id has in record { inside = inside; within = within id.0 no_tree inside }

  over : (e : Written) → HasEquation (entries_of g ts) (plain_equation e) → IsEquationOver g ts e
  over e has = record { condition = is_term e.cond has.1; left = is_term e.left has.2; right = is_term e.right has.3 }

  pub all_over : (es : List Written) → All (HasEquation (entries_of g ts)) (map plain_equation es) → All (IsEquationOver g ts) es
  all_over [] all = All-nil (IsEquationOver g ts)
  all_over (e ∷ es) all =
      let P = HasEquation (entries_of g ts) in
      All-cons (IsEquationOver g ts) e es (over e (All-head P (plain_equation e) (map plain_equation es) all)) (all_over es (All-tail P (plain_equation e) (map plain_equation es) all))

  is_of : (e : Written) → HasEquation (entries_of g ts) (plain_equation e) → IsEquationOf g ts e (equation_of (entries_of g ts) (plain_equation e))
  is_of e has = record { condition = term_is g ts e.cond (there e.cond has.1); left = term_is g ts e.left (there e.left has.2); right = term_is g ts e.right (there e.right has.3) }

  pub all_of : (es : List Written) → All (HasEquation (entries_of g ts)) (map plain_equation es) → AllZip (IsEquationOf g ts) es (map (equation_of (entries_of g ts)) (map plain_equation es))
  all_of [] all = tt
  all_of (e ∷ es) all =
      let P = HasEquation (entries_of g ts) in
      (is_of e (All-head P (plain_equation e) (map plain_equation es) all), all_of es (All-tail P (plain_equation e) (map plain_equation es) all))

pub judged_text : (r : Result Answer LinFault) (text : List ℕ) (spec : PlainSpec) → IsParsedAs text spec → IfOk r (IsJudgedFor spec) → IfOk r (IsJudged text)
judged_text (Ok answer) text spec parsed judged = record { tokens = parsed.tokens; cut = parsed.has_tokens; spec = spec; spelled = parsed.spelled; judged = judged }
judged_text (Err fault) text spec parsed judged = tt
