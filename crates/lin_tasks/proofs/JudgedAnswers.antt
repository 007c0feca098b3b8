-- What is answered of a condition in code, and why it is refused.
use Rattle.std.proofs.Common.{◌≡◌, ◌≤◌, ◌∙◌, ℕ, List, Option, Result, Ok, Err, IfSome, IsErrAnd, length, sym, subst}
use Rattle.std.specs.Prelude.{IsErrOf}
use Rattle.data_theory.specs.declared.ids.NameId.{NameId}
use Rattle.data_theory.specs.declared.ids.VarId.{VarId}
use Rattle.data_theory.specs.Signature.{Sig}
use Rattle.data_theory.specs.Terms.{Term}
use Rattle.mcrl2_parser.specs.declared.term_text.TermFault.{TermFault}
use Rattle.mcrl2_parser.specs.declared.term_text.TermFault.TheVariants.{NotATerm}
use Rattle.mcrl2_syntax.specs.Declarations.{PlainSpec}
use Rattle.mcrl2_text.specs.declared.loading.TheConstants.{MAX_TEXT_LEN}
use Rattle.term_pool.specs.Pools.{PoolContents}
use Rattle.process_terms.specs.PlainProcesses.{PlainEquation}
use Rattle.data_rewriter.specs.Simplifying.{AreWellFormed}
use Rattle.lps_core.specs.PlainLinears.{PlainLinear}
use Rattle.lin_driver.specs.Eliminations.{equations_at}
use Rattle.lin_driver.specs.LinearOfTexts.{IsLinearOf, is_made}
use Rattle.lin_driver.specs.Linearised.{IsLinearised}
use Rattle.lin_driver.specs.declared.ending.Ending.{Ending}
use Rattle.lin_driver.specs.declared.methods.Method.{Method}
use Rattle.lin_driver.proofs.LeftTexts.{linearised}
use Rattle.lin_answers.specs.declared.status.Status.{Status}
use Rattle.lin_refusals.specs.BadTerms.{IsBadTermAsTold, SpellsCondition}
use Rattle.lps_core.proofs.PoolTrees.{extends_itself}
use Rattle.lin_tasks.specs.JudgedConditions.{ShowsJudgement}
use Rattle.lin_tasks.specs.ShownInvariants.{IsJudgedAsTold}
use Rattle.lin_tasks.proofs.HeldConditions.{shows_that_it_holds}

-- a fault that was passed on is the one that was there
pub fault_is : {A : Type 0} (r : Result A TermFault) (fault v : TermFault) → IsErrAnd r (λ given. given ≡ fault) → IsErrOf r v → fault ≡ v
fault_is (Ok x) fault v same is = absurd same
fault_is (Err given) fault v same is = let e : given ≡ v = cc in sym same ∙ e

-- ---- the condition that was read
module _ (ending : Ending) (method : Method) (text : List ℕ) (spec : PlainSpec) (g : Sig) (q : PoolContents) (equations : List PlainEquation) (x : NameId) (l : PlainLinear) (components : ℕ) (is_linear : IsLinearOf ending method text spec g q equations x l components)
    (told : Option (List ℕ)) (condition : List ℕ) (is_told : IfSome told (λ t. condition ≡ t)) (short : length condition ≤ MAX_TEXT_LEN) where
  abbrev its : IsLinearised ending text spec g q.trees l
  its = linearised ending text spec g q.trees q.trees equations x l (is_made is_linear) (extends_itself q.trees)

  pub judged_as_told : AreWellFormed g (equations_at g q.trees equations) → (fuel : ℕ) (status : Status) (shown : List ℕ) → ShowsJudgement spec g (equations_at g q.trees equations) fuel q.trees x l condition status shown → IsJudgedAsTold ending method fuel text told status shown
  judged_as_told fine fuel status shown s = record {
    condition = condition;
    is_told = is_told;
    short = short;
    judged = record {
      spec = spec;
      signature = g;
      pool = q;
      equations = equations;
      name = x;
      linear = l;
      components = components;
      is_linear = is_linear;
      answer = s;
      holds = shows_that_it_holds spec g (equations_at g q.trees equations) fuel q.trees x l condition its.stands fine its.fits status shown s;
    };
  }

  pub bad_term_as_told : ((t : Term) → ¬ (SpellsCondition g l.params condition t)) → IsBadTermAsTold ending method text told
  bad_term_as_told bad = record {
    condition = condition;
    is_told = is_told;
    short = short;
    bad = record { spec = spec; signature = g; pool = q; equations = equations; name = x; linear = l; components = components; is_linear = is_linear; bad = bad };
  }
