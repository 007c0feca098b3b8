-- What is plainly conditioned stays so as a signature and a pool grow.
use Rattle.std.specs.Prelude.{List}
use Rattle.data_theory.specs.Signature.{Sig}
use Rattle.data_theory.specs.WholeSignatures.{IsSignature}
use Rattle.term_pool.specs.Pools.{PoolContents}
use Rattle.process_terms.specs.Processes.{Bound}
use Rattle.process_terms.specs.SignatureEntries.{BothGrow}
use Rattle.lps_core.specs.Fitting.{Fits}
use Rattle.lps_core.specs.MadeTerms.{Written, StackSort, IsPlain}
use Rattle.lps_core.specs.PlainLinears.{PlainLinear}
use Rattle.greibach.specs.FittingForms.{FormFits}
use Rattle.greibach.specs.PlainForms.{PlainForm}
use Rattle.greibach.specs.PlainTerms.{FormIsPlain}

abbrev pub PlainFormsStayPlain : Type 0
PlainFormsStayPlain =
    (g h : Sig) (p q : PoolContents) (w : Written) (stacks : List StackSort) (f : PlainForm) → IsSignature g → IsSignature h → BothGrow g h p.trees q.trees → FormFits g p.trees f → FormIsPlain g p w stacks f → FormIsPlain h q w stacks f

abbrev pub PlainLinearsStayPlain : Type 0
PlainLinearsStayPlain =
    (g h : Sig) (p q : PoolContents) (w : Written) (stacks : List StackSort) (added : List Bound) (l : PlainLinear) → IsSignature g → IsSignature h → BothGrow g h p.trees q.trees → Fits g p.trees l → IsPlain g p w stacks added l
    → IsPlain h q w stacks added l
