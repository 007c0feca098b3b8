-- What a component writes, and that its form is plainly conditioned.
use Rattle.data_theory.specs.Signature.{Sig}
use Rattle.data_theory.specs.Complete.{IsComplete}
use Rattle.data_theory.specs.IdTables.{IsTable}
use Rattle.term_pool.specs.Pools.{PoolContents}
use Rattle.process_terms.specs.PlainProcesses.{PlainModel, PlainComponent}
use Rattle.process_terms.specs.Meanings.{Entries, table_of, component_body}
use Rattle.process_terms.specs.SignatureEntries.{entries_of}
use Rattle.lps_core.specs.MadeTerms.{Written, written_by}
use Rattle.greibach.specs.PlainForms.{PlainForm}
use Rattle.greibach.specs.PlainTerms.{FormIsPlain}
use Rattle.greibach.specs.FittingForms.{FormFits}
use Rattle.greibach.specs.ComponentForms.{IsFormOf}
use Rattle.std.specs.Prelude.{[]}

-- what the definitions of a specification write, and the component itself
abbrev pub written_from : Entries → PlainModel → PlainComponent → Written
written_from e m c = written_by (table_of e m.definitions) (component_body e c)

-- the form is plainly conditioned for these, without any stack
abbrev pub IsPlainForm : Sig → PoolContents → PlainModel → PlainComponent → PlainForm → Type 0
IsPlainForm g q m c f = FormIsPlain g q (written_from (entries_of g q.trees) m c) [] f

-- the law: a component's form is
abbrev pub FormsOfComponentsArePlain : Type 0
FormsOfComponentsArePlain = (g : Sig) (q : PoolContents) (m : PlainModel) (c : PlainComponent) (f : PlainForm) → IsTable g → IsComplete g → FormFits g q.trees f → IsFormOf g q.trees m c f → IsPlainForm g q m c f
