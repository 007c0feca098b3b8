-- The laws of forms.
use Rattle.std.specs.Prelude.{◌≡◌, ℕ, List, Some, slice_get}
use Rattle.data_theory.specs.Terms.{Term}
use Rattle.process_terms.specs.Theories.{Theory}
use Rattle.process_terms.specs.Labels.{Label}
use Rattle.process_terms.specs.Processes.{call}
use Rattle.process_terms.specs.Steps.{Outcome, Step}
use Rattle.process_terms.specs.Meanings.{Entries}
use Rattle.greibach.specs.Forms.{FormEquation, Form, form_table, IsFormEquation, IsTail, FormFires}
use Rattle.greibach.specs.PlainForms.{PlainForm, form_of}
use Rattle.greibach.specs.Tails.{HasTails}

abbrev pub FormStepsAreFirings : Type 0
FormStepsAreFirings =
    (th : Theory) (form : Form) (i : ℕ) (q : FormEquation) (ts : List Term) (m : Label) (r : Outcome) → slice_get form i ≡ Some q → IsFormEquation form q
    → Step th (call (form_table form) i ts) m r → FormFires th form q ts m r

abbrev pub FormFiringsAreSteps : Type 0
FormFiringsAreSteps =
    (th : Theory) (form : Form) (i : ℕ) (q : FormEquation) (ts : List Term) (m : Label) (r : Outcome) → slice_get form i ≡ Some q → IsFormEquation form q
    → FormFires th form q ts m r → Step th (call (form_table form) i ts) m r

abbrev pub TailFormsMeanTails : Type 0
TailFormsMeanTails = (g : Entries) (f : PlainForm) → HasTails f → IsTail (form_of g f)
