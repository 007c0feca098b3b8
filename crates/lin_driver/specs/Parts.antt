-- The linear processes of the leaves of a network, and what is composed of them.
use Rattle.std.specs.Prelude.{◌≡◌, ◌++◌, List, []}
use Rattle.std.specs.List.{AllZip}
use Rattle.data_theory.specs.Signature.{Sig}
use Rattle.data_theory.specs.WholeSignatures.{IsSignature}
use Rattle.data_theory.specs.IdTrees.{Tree}
use Rattle.data_theory.specs.IdTerms.{IsGrown}
use Rattle.process_terms.specs.PlainProcesses.{PlainModel, PlainComponent}
use Rattle.process_terms.specs.Processes.{Body, Process, close}
use Rattle.process_terms.specs.Meanings.{Entries, table_of, component_body}
use Rattle.process_terms.specs.SignatureEntries.{entries_of}
use Rattle.bisim_laws.specs.Links.{Link}
use Rattle.bisim_laws.specs.Scopes.{Scope}
use Rattle.lps_core.specs.Fitting.{Fits}
use Rattle.lps_core.specs.GoingOn.{IsGoodOver, IsGoodOverWithin}
use Rattle.lps_core.specs.PlainLinears.{PlainLinear, linear_state}
use Rattle.lps_core.specs.Naming.{ParamsHaveOwnNames}
use Rattle.proc_unfold.specs.Networks.{PlainNetwork, network_body}
use Rattle.lin_driver.specs.FittingOperators.{NetworkFits}
use Rattle.lin_driver.specs.Leaves.{leaves}
use Rattle.lin_driver.specs.NetworkScopes.{PlainScope, scope_meant, ScopeFits, PlainSign, between, around_sign}
use Rattle.lin_driver.specs.TakenNames.{HaveIdentifiers}

-- It fits, its parameters have names of their own, and from the process a link leads to it, over every theory that goes on.
pub record IsLinearFor (g : Sig) (ts : List Tree) (p : Process) (l : PlainLinear) : Type 0 where
  pub fits : Fits g ts l
  pub params : ParamsHaveOwnNames g l.params
  pub link : Link
  pub bisimilar : IsGoodOver g link p (linear_state (entries_of g ts) l)

-- the same for the labels that matter
pub record IsLinearWithin (w : Scope) (g : Sig) (ts : List Tree) (p : Process) (l : PlainLinear) : Type 0 where
  pub fits : Fits g ts l
  pub params : ParamsHaveOwnNames g l.params
  pub link : Link
  pub bisimilar : IsGoodOverWithin g w link p (linear_state (entries_of g ts) l)

-- ---- networks of a specification
-- a specification with the signature and the trees over which its network was opened
pub record Origin : Type 0 where
  pub signature : Sig
  pub trees : List Tree
  pub model : PlainModel

abbrev pub entries_in : Origin → Entries
entries_in o = entries_of o.signature o.trees

-- what is written, under its definitions
abbrev pub closed_in : Origin → Body → Process
closed_in o b = close (table_of (entries_in o) o.model.definitions) [] b

abbrev pub component_in : Origin → PlainComponent → Process
component_in o c = closed_in o (component_body (entries_in o) c)

abbrev pub network_in : Origin → PlainNetwork → Process
network_in o n = closed_in o (network_body (entries_in o) n)

-- the actions stayed
pub record HasGrownFrom (o : Origin) (g : Sig) : Type 0 where
  pub stands : IsSignature o.signature
  pub grown : IsGrown o.signature g
  pub actions : g.actions ≡ o.signature.actions

-- ---- linear processes one after another
-- The first of them are those of the components, one for each and in their order; behind them stand the rest.
pub record HasParts (o : Origin) (g : Sig) (ts : List Tree) (cs : List PlainComponent) (queue rest : List PlainLinear) : Type 0 where
  pub parts : List PlainLinear
  pub are : AllZip (λ c l. IsLinearFor g ts (component_in o c) l) cs parts
  pub first : queue ≡ parts ++ rest

-- those of the leaves of a network are the first, its operators fit, and so do the labels that matter around it
pub record CanBeComposed (o : Origin) (w : PlainScope) (g : Sig) (ts : List Tree) (n : PlainNetwork) (queue rest : List PlainLinear) : Type 0 where
  pub since : HasGrownFrom o g
  pub identifiers : HaveIdentifiers g
  pub operators : NetworkFits o.signature n
  pub scope : ScopeFits o.signature w
  pub parts : HasParts o g ts (leaves n) queue rest

-- the linear process is that of the whole, for the labels that matter, and the rest is left
pub record IsComposed (w : Scope) (whole : Process) (g : Sig) (ts : List Tree) (left rest : List PlainLinear) (l : PlainLinear) : Type 0 where
  pub identifiers : HaveIdentifiers g
  pub linear : IsLinearWithin w g ts whole l
  pub is_left : left ≡ rest

-- so it is for some specification, with some rest
abbrev pub HasItsParts : PlainScope → Sig → List Tree → PlainNetwork → List PlainLinear → Type 0
HasItsParts w g ts n queue = (o : Origin) × (rest : List PlainLinear) × CanBeComposed o w g ts n queue rest

-- and for whatever specification and rest it is, the linear process is that of the network, and the rest is left
abbrev pub Composes : PlainScope → Sig → List Tree → PlainNetwork → List PlainLinear → Sig → List Tree → List PlainLinear → PlainLinear → Type 0
Composes w g ts n queue h us left l = (o : Origin) (rest : List PlainLinear) → CanBeComposed o w g ts n queue rest → IsComposed (scope_meant (entries_in o) w) (network_in o n) h us left rest l

-- ---- two with a sign between them
-- whatever links lead to the two for these labels, one leads to the joint one
abbrev pub LeadsWithin : Scope → PlainSign → Sig → List Tree → PlainLinear → PlainLinear → PlainLinear → Type 0
LeadsWithin w b h us l r k =
    (i j : Link) (p q : Process) → IsGoodOverWithin h w i p (linear_state (entries_of h us) l) → IsGoodOverWithin h w j q (linear_state (entries_of h us) r)
    → (link : Link) × IsGoodOverWithin h w link (between b p q) (linear_state (entries_of h us) k)

-- so for the labels that matter around the sign
abbrev pub LeadsBeside : PlainSign → Sig → List Tree → PlainLinear → PlainLinear → PlainLinear → Type 0
LeadsBeside b h us l r k = LeadsWithin (scope_meant (entries_of h us) (around_sign b)) b h us l r k
