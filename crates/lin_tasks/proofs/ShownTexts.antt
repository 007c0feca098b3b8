-- What is shown of what was made of a text.
use Rattle.std.proofs.Common.{◌≡◌, ◌∙◌, ℕ, List, map, sym, subst, Result, Ok, Err}
use Rattle.std.specs.Prelude.{IfErr}
use Rattle.data_theory.specs.declared.ids.NameId.{NameId}
use Rattle.data_theory.specs.IdTrees.{Tree}
use Rattle.data_theory.specs.Provable.{Equation}
use Rattle.data_theory.specs.Signature.{Sig}
use Rattle.mcrl2_syntax.specs.Declarations.{PlainSpec}
use Rattle.term_pool.specs.declared.terms.Theory.{Theory}
use Rattle.term_pool.specs.Pools.{PoolContents}
use Rattle.process_terms.specs.PlainProcesses.{PlainEquation, plain_equation}
use Rattle.lps_core.specs.Fitting.{Fits}
use Rattle.lps_core.specs.PlainLinears.{PlainLinear}
use Rattle.lin_driver.specs.Eliminations.{equations_at, CanRewrite}
use Rattle.lin_driver.specs.Faults.{IsFaultBy}
use Rattle.lin_driver.specs.Linearised.{IsLinearised, IsMadeOf}
use Rattle.lin_driver.specs.LinearOfTexts.{IsLinearOf, is_made}
use Rattle.lin_driver.specs.declared.fault.LinFault.{LinFault}
use Rattle.lin_driver.specs.declared.fault.LinFault.TheVariants.{NoMemory}
use Rattle.lin_driver.specs.declared.ending.Ending.{Ending}
use Rattle.lin_driver.specs.declared.methods.Method.{Method}
use Rattle.lin_driver.proofs.LinearisedTexts.{made_stands_for, made_has_equations}
use Rattle.lin_driver.proofs.RewritableEquations.{can_rewrite, made_equations_are, model_below}
use Rattle.lin_tasks.specs.Shown.{ShowsOptions}
use Rattle.lin_tasks.specs.ShownTexts.{AreShownSteps, IsShownWalk}
use Rattle.lin_tasks.specs.Walks.{ShowsWalk}
use Rattle.lin_answers.specs.declared.status.Status.{Status}
use Rattle.lin_answers.specs.declared.plan.Plan.{Plan}
use Rattle.lin_tasks.proofs.ShownSteps.{shown_causes, shown_run, shown_steps, shown_whole}

-- want of memory is no fault by a method
pub no_fault_by : {T : Type 0} (r : Result T LinFault) (ending : Ending) (method : Method) → IfErr r (λ fault. fault ≡ NoMemory) → IfErr r (IsFaultBy ending method)
no_fault_by (Ok x) ending method none = tt
no_fault_by (Err e) ending method none = subst (IsFaultBy ending method) (sym none) tt

module _ (ending : Ending) (text : List ℕ) (spec : PlainSpec) (g : Sig) (ts : List Tree) (equations : List PlainEquation) (x : NameId) (l : PlainLinear) (made : IsMadeOf ending text spec g ts equations x l) where
  abbrev from : IsLinearised ending text spec g ts l
  from = made_stands_for ending text spec g ts equations x l made

  -- the equations in code are those of the text
  pub own_are : from.theory.equations ≡ equations_at g ts equations
  own_are = made_has_equations ending text spec g ts equations x l made ∙ sym (made_equations_are ending text spec g ts equations x l made)

  -- it fits
  pub made_fits : Fits g ts l
  made_fits = from.fits

-- terms can be rewritten by them
pub made_rewrites : (ending : Ending) (text : List ℕ) (spec : PlainSpec) (g : Sig) (ts : List Tree) (theory : Theory) (x : NameId) (l : PlainLinear) → IsMadeOf ending text spec g ts (map plain_equation theory.equations.items) x l → CanRewrite g ts theory
made_rewrites ending text spec g ts theory x l made = can_rewrite spec g ts theory (model_below ending text spec g ts (map plain_equation theory.equations.items) x l made)

module _ (ending : Ending) (method : Method) (text : List ℕ) (spec : PlainSpec) (g : Sig) (q : PoolContents) (equations : List PlainEquation) (x : NameId) (l : PlainLinear) (components : ℕ) (is : IsLinearOf ending method text spec g q equations x l components) where
  abbrev its : IsLinearised ending text spec g q.trees l
  its = made_stands_for ending text spec g q.trees equations x l (is_made is)

  same : its.theory.equations ≡ equations_at g q.trees equations
  same = own_are ending text spec g q.trees equations x l (is_made is)

  pub made_steps : (fuel bound : ℕ) (status : Status) (shown : List ℕ) → ShowsOptions g (equations_at g q.trees equations) fuel bound q.trees l status shown → AreShownSteps ending method fuel bound text status shown
  made_steps fuel bound status shown o =
      let options : ShowsOptions g its.theory.equations fuel bound q.trees l status shown = subst (λ (qs : List Equation). ShowsOptions g qs fuel bound q.trees l status shown) (sym same) o in
      record {
        spec = spec;
        signature = g;
        pool = q;
        equations = equations;
        name = x;
        linear = l;
        components = components;
        is_linear = is;
        linearised = its;
        options = options;
        causes = shown_causes ending g its.theory.equations q.trees l its.link its.process its.bisimilar fuel bound status shown options;
        steps = shown_steps ending g its.theory.equations q.trees l its.link its.process its.bisimilar fuel bound status shown options;
        whole = shown_whole ending g its.theory.equations q.trees l its.link its.process its.bisimilar fuel bound status shown options;
      }

  pub made_walk : (plan : Plan) (status : Status) (shown : List ℕ) → ShowsWalk g (equations_at g q.trees equations) plan q.trees l status shown → IsShownWalk ending method plan text status shown
  made_walk plan status shown w =
      let walk : ShowsWalk g its.theory.equations plan q.trees l status shown = subst (λ (qs : List Equation). ShowsWalk g qs plan q.trees l status shown) (sym same) w in
      record {
        spec = spec;
        signature = g;
        pool = q;
        equations = equations;
        name = x;
        linear = l;
        components = components;
        is_linear = is;
        linearised = its;
        walk = walk;
        run = shown_run ending g its.theory.equations q.trees l its.link its.process its.bisimilar plan status shown walk;
      }
