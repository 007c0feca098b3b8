-- How a method encodes a form.
use Rattle.std.specs.Prelude.{◌≡◌, List, map, []}
use Rattle.data_theory.specs.Signature.{Sig}
use Rattle.data_theory.specs.IdTrees.{Tree}
use Rattle.term_pool.specs.Pools.{PoolContents}
use Rattle.process_terms.specs.Processes.{call}
use Rattle.process_terms.specs.Meanings.{term_at}
use Rattle.process_terms.specs.SignatureEntries.{entries_of}
use Rattle.bisim_laws.specs.Links.{Link}
use Rattle.lps_core.specs.Fitting.{Fits}
use Rattle.lps_core.specs.GoingOn.{IsGoodOver}
use Rattle.lps_core.specs.PlainLinears.{PlainLinear, linear_state}
use Rattle.lps_core.specs.Naming.{ParamsHaveOwnNames}
use Rattle.greibach.specs.Forms.{form_table}
use Rattle.greibach.specs.PlainForms.{PlainForm, form_of}
use Rattle.greibach.specs.Surroundings.{HasUsableNames}
use Rattle.greibach.specs.Tails.{HasTails}
use Rattle.regular_encoder.specs.EncodedForms.{IsEncodedForm}
use Rattle.regular_encoder.specs.Refusals.{IsFirstWithTwoCalls}
use Rattle.regular_encoder.specs.declared.faults.EncodeFault.{EncodeFault}
use Rattle.regular_encoder.specs.declared.faults.EncodeFault.TheVariants.{NotTail, NoMemory}
use Rattle.stack_encoder.specs.StackedForms.{IsStackedForm}
use Rattle.lps_printer.specs.GrowingByAdditions.{GrowsByAdditions, added_actions}
use Rattle.lin_driver.specs.declared.methods.Method.{Method}
use Rattle.lin_driver.specs.declared.methods.Method.TheVariants.{Auto, Regular, Stack}

-- which forms a method encodes with a stack: none, all, or those that aren't tail
abbrev pub UsesStack : Method → PlainForm → Type 0
UsesStack Auto f = ¬ (HasTails f)
UsesStack Regular f = ⊥
UsesStack Stack f = Unit {0}

-- a method that has no stack asks for a tail form
abbrev pub IsTailFor : Method → PlainForm → Type 0
IsTailFor m f = m ≡ Regular → HasTails f

-- the linear process is that of the regular encoder, or that of the stack encoder
pub data IsEncodedBy (m : Method) (g : Sig) (p : PoolContents) (h : Sig) (q : PoolContents) (f : PlainForm) (l : PlainLinear) : Type 0 where
  by_columns : ¬ (UsesStack m f) → IsEncodedForm g p h q f l → IsEncodedBy m g p h q f l
  by_stack : UsesStack m f → IsStackedForm g p h q f l → IsEncodedBy m g p h q f l

-- From the form's start a link leads to the linear process, over every theory that goes on from the signature at the end. Structs and
-- constants were declared meanwhile. The names of variables are taken and are identifiers, and the parameters have names of their own.
pub record LeadsFromForm (g h : Sig) (us : List Tree) (f : PlainForm) (l : PlainLinear) : Type 0 where
  pub grows : GrowsByAdditions g h
  pub no_actions : added_actions grows ≡ []
  pub fits : Fits h us l
  pub names : HasUsableNames h
  pub params : ParamsHaveOwnNames h l.params
  pub link : Link
  pub bisimilar : IsGoodOver h link (call (form_table (form_of (entries_of h us) f)) 0 (map (term_at (entries_of h us)) f.init)) (linear_state (entries_of h us) l)

-- Why there is none: the method is `Regular`, and the form isn't tail. Want of memory has no cause here.
abbrev pub IsMethodFaultOf : Method → PlainForm → EncodeFault → Type 0
IsMethodFaultOf m f (NotTail k) = (m ≡ Regular) × IsFirstWithTwoCalls f k
IsMethodFaultOf m f NoMemory = Unit {0}
