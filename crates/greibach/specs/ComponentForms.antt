-- The form of a component: the text that it unfolds, and from where.
use Rattle.std.specs.Prelude.{◌≡◌, ℕ, zero, suc, List, [], ◌∷◌, ◌++◌, map, Bool, true, false, not, ◌&&◌, ◌||◌, ◌==◌, Some, slice_get, Contains}
use Rattle.std.specs.List.{filter, list_any}
use Rattle.data_theory.specs.Terms.{Term, Terms, variable, numeral, unknown, application, none, more}
use Rattle.data_theory.specs.Declarations.{HaveSorts}
use Rattle.data_theory.specs.Environments.{terms_of}
use Rattle.data_theory.specs.declared.ids.TermId.{TermId}
use Rattle.data_theory.specs.Signature.{Sig}
use Rattle.data_theory.specs.IdData.{data_meant}
use Rattle.data_theory.specs.IdTrees.{Tree}
use Rattle.process_terms.specs.Labels.{Action, Label}
use Rattle.process_terms.specs.PlainProcesses.{PlainDefinition, PlainModel, PlainComponent, call_of, term_of}
use Rattle.process_terms.specs.Processes.{Bound, Body, written_delta, written_act, written_choice, written_seq, written_cond, written_sum, written_call, written_merge, written_starting, written_around, call, close, seq_of}
use Rattle.process_terms.specs.Meanings.{Entries, bound_at, term_at, body_of, table_of, component_body}
use Rattle.process_terms.specs.SignatureEntries.{entries_of}
use Rattle.bisim_laws.specs.LinearProcesses.{sorts}
use Rattle.bisim_laws.specs.BaseStates.{Piece}
use Rattle.bisim_laws.specs.Links.{Form}
use Rattle.lps_core.specs.GoingOn.{IsGoodOver}
use Rattle.greibach.specs.Forms.{form_table}
use Rattle.greibach.specs.PlainForms.{PlainForm, form_of}
use Rattle.greibach.specs.Places.{Path, Place, whole, Factor, bodies, Text, body_of_owner, factors_at}
use Rattle.greibach.specs.UnfoldedForms.{UnfoldedEquation, HasDefinitions, form_with}
use Rattle.greibach.specs.MeetingOrder.{Collects, number_in}

-- ---- free variables
abbrev mutual
  pub occurs : ℕ → Term → Bool
  occurs v (variable x) = x == v
  occurs v (numeral a z) = false
  occurs v (unknown d k) = false
  occurs v (application f ts) = occurs_in v ts

  pub occurs_in : ℕ → Terms → Bool
  occurs_in v none = false
  occurs_in v (more t ts) = occurs v t || occurs_in v ts

abbrev pub occurs_in_label : ℕ → Label → Bool
occurs_in_label v m = list_any (λ (a : Action). occurs_in v (terms_of a.args)) m

abbrev pub occurs_free : ℕ → Body → Bool
occurs_free v written_delta = false
occurs_free v (written_act m) = occurs_in_label v m
occurs_free v (written_choice p q) = occurs_free v p || occurs_free v q
occurs_free v (written_seq p q) = occurs_free v p || occurs_free v q
occurs_free v (written_cond c p q) = occurs v c || (occurs_free v p || occurs_free v q)
occurs_free v (written_sum x p) = not (x.var == v) && occurs_free v p
occurs_free v (written_call x ts) = occurs_in v (terms_of ts)
occurs_free v (written_merge p q) = occurs_free v p || occurs_free v q
occurs_free v (written_starting start p q) = occurs_free v p || occurs_free v q
occurs_free v (written_around o p) = occurs_free v p

-- the variables in scope at a path, in the order of their binding
abbrev pub scope_at : List Bound → Body → Path → List Bound
scope_at xs b [] = xs
scope_at xs (written_sum x p) (step ∷ down) = scope_at (xs ++ x ∷ []) p down
scope_at xs (written_choice p q) (false ∷ down) = scope_at xs p down
scope_at xs (written_choice p q) (true ∷ down) = scope_at xs q down
scope_at xs (written_seq p q) (false ∷ down) = scope_at xs p down
scope_at xs (written_seq p q) (true ∷ down) = scope_at xs q down
scope_at xs (written_cond c p q) (false ∷ down) = scope_at xs p down
scope_at xs (written_cond c p q) (true ∷ down) = scope_at xs q down
scope_at xs b (step ∷ down) = xs

-- those of them that occur free in these factors
abbrev pub free_in : List Factor → List Bound → List Bound
free_in fs xs = filter (λ (x : Bound). list_any (λ (f : Factor). occurs_free x.var f.body) fs) xs

-- ---- what a place stands for
abbrev pub params_among : List Piece → ℕ → List Bound
params_among [] x = []
params_among (f ∷ fs) zero = f.params
params_among (f ∷ fs) (suc x) = params_among fs x

abbrev pub params_of_owner : Text → ℕ → List Bound
params_of_owner t zero = []
params_of_owner t (suc x) = params_among t.definitions x

-- a whole place stands for the definition, another one for what stands there over the variables that occur free in it
abbrev pub piece_from : Text → ℕ → Path → Piece
piece_from t o [] = record { params = params_of_owner t o; body = body_of_owner t o }
piece_from t o (step ∷ down) =
    let place : Place = record { owner = o; path = step ∷ down } in
    record { params = free_in (factors_at t place) (scope_at (params_of_owner t o) (body_of_owner t o) (step ∷ down)); body = seq_of (bodies (factors_at t place)) }

-- ---- the text of a component
abbrev pub piece_of : Entries → PlainDefinition → Piece
piece_of g d = record { params = map (bound_at g) d.params; body = body_of g d.body }

-- its own term; a component that is a call has none
abbrev pub own_body : Entries → PlainComponent → Body
own_body g (call_of x ids) = written_delta
own_body g (term_of p) = body_of g p

abbrev pub bare_text : Entries → List PlainDefinition → List ℕ → PlainComponent → Text
bare_text g ds reached c = record { definitions = map (piece_of g) ds; start = own_body g c; variables = g.variables; reached = reached; piece = λ place. record { params = []; body = written_delta } }

abbrev pub text_of : Entries → List PlainDefinition → List ℕ → PlainComponent → Text
text_of g ds reached c =
    let t : Text = bare_text g ds reached c in
    record { definitions = t.definitions; start = t.start; variables = t.variables; reached = reached; piece = λ place. piece_from t place.owner place.path }

-- where it starts, and with which arguments
abbrev pub start_of : PlainComponent → Place
start_of (call_of x ids) = whole x.0
start_of (term_of p) = record { owner = 0; path = [] }

abbrev pub arguments_of : PlainComponent → List TermId
arguments_of (call_of x ids) = ids
arguments_of (term_of p) = []

-- a call has closed arguments of the sorts of a reached definition
abbrev pub StartFits : Sig → List Tree → List PlainDefinition → List ℕ → PlainComponent → Type 0
StartFits g ts ds reached (call_of x ids) =
    (d : PlainDefinition) × (slice_get ds x.0 ≡ Some d) × HaveSorts (data_meant g) [] (terms_of (map (term_at (entries_of g ts)) ids)) (sorts (map (bound_at (entries_of g ts)) d.params)) × Contains reached x.0
StartFits g ts ds reached (term_of p) = Unit {0}

-- ---- its form
-- The form is collected from the component's start: so it unfolds the component, and its equations have the order in which they
-- are met. It starts with the component's arguments.
pub record IsFormOf (g : Sig) (ts : List Tree) (m : PlainModel) (c : PlainComponent) (f : PlainForm) : Type 0 where
  pub reached : List ℕ
  pub equations : List UnfoldedEquation
  pub last : List Place
  pub definitions : HasDefinitions (data_meant g) (text_of (entries_of g ts) m.definitions reached c)
  pub start : StartFits g ts m.definitions reached c
  pub collects : Collects (data_meant g) (text_of (entries_of g ts) m.definitions reached c) (start_of c ∷ []) 0 equations last
  pub form : form_of (entries_of g ts) f ≡ form_with (number_in last) equations
  pub init : f.init ≡ arguments_of c

-- `Form` is good for the component and the call of equation 1, in each consistent theory whose data go on from those of the signature
abbrev pub IsBisimilarForm : Sig → List Tree → PlainModel → PlainComponent → PlainForm → Type 0
IsBisimilarForm g ts m c f =
    (pieces : List Piece)
    × IsGoodOver g (Form (table_of (entries_of g ts) m.definitions) pieces (form_table (form_of (entries_of g ts) f)))
    (close (table_of (entries_of g ts) m.definitions) [] (component_body (entries_of g ts) c))
    (call (form_table (form_of (entries_of g ts) f)) 0 (map (term_at (entries_of g ts)) f.init))

-- the law: a component's form is bisimilar to it
abbrev pub FormsOfComponentsAreGood : Type 0
FormsOfComponentsAreGood = (g : Sig) (ts : List Tree) (m : PlainModel) (c : PlainComponent) (f : PlainForm) → IsFormOf g ts m c f → IsBisimilarForm g ts m c f
