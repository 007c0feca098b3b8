-- What the laws of links that are good within some labels say.
use Rattle.std.specs.Prelude.{List, []}
use Rattle.process_terms.specs.Names.{Name}
use Rattle.process_terms.specs.Theories.{Theory}
use Rattle.process_terms.specs.Labels.{Label, names, Permuted}
use Rattle.process_terms.specs.Communication.{Rule}
use Rattle.process_terms.specs.Processes.{Around, allow, comm, Process, merge, around}
use Rattle.process_terms.specs.Steps.{Passes}
use Rattle.bisim_laws.specs.LinearProcesses.{Linear}
use Rattle.bisim_laws.specs.BaseStates.{Side}
use Rattle.bisim_laws.specs.Links.{Link, Then, Product, Beside, Wrapped, Under, IsGood}
use Rattle.bisim_laws.specs.Within.{IsGoodWithin, GoesToParts, ComeFrom}
use Rattle.bisim_laws.specs.Completable.{Opened}
use Rattle.bisim_laws.specs.Scopes.{Scope, everything, allowed, completable, Matters}

abbrev pub GoodIsGoodWithin : Type 0
GoodIsGoodWithin = (th : Theory) (w : Scope) (l : Link) (p q : Process) → IsGood th l p q → IsGoodWithin th (Matters w) l p q

abbrev pub WithinAllIsGood : Type 0
WithinAllIsGood = (th : Theory) (w : Scope) → ((ns : List Name) → Matters w ns) → (l : Link) (p q : Process) → IsGoodWithin th (Matters w) l p q → IsGood th l p q

abbrev pub ThenIsGoodWithin : Type 0
ThenIsGoodWithin = (th : Theory) (w : Scope) (k l : Link) (p z q : Process) → IsGoodWithin th (Matters w) k p z → IsGoodWithin th (Matters w) l z q → IsGoodWithin th (Matters w) (Then k l) p q

abbrev pub BesideIsGoodWithin : Type 0
BesideIsGoodWithin =
    (th : Theory) (w : Scope) → GoesToParts (Matters w) → (a b : Side) (l : Linear) (j k : Link) (p x q y r : Process)
    → IsGoodWithin th (Matters w) j p x → IsGoodWithin th (Matters w) k q y → IsGoodWithin th (Matters w) (Product a b l) (merge x y) r → IsGoodWithin th (Matters w) (Beside a b l j k) (merge p q) r

abbrev pub UnderIsGoodWithin : Type 0
UnderIsGoodWithin =
    (th : Theory) (o : Around) (v w : Scope) → ComeFrom th o (Matters v) (Matters w) → (l k : Linear) (j : Link) (p x r : Process)
    → IsGoodWithin th (Matters w) j p x → IsGoodWithin th (Matters v) (Wrapped o l k) (around o x) r → IsGoodWithin th (Matters v) (Under o l k j) (around o p) r

-- ---- which labels matter below
-- a label's names come from what the names after the communication open to
pub record ComesFromOpened (rules : List Rule) (m n : Label) : Type 0 where
  pub opened : List Name
  pub opens : Opened rules (names n) opened
  pub same : Permuted (names m) opened

abbrev pub CommunicationComesFromOpened : Type 0
CommunicationComesFromOpened = (th : Theory) (rules : List Rule) (m n : Label) → Passes th (comm rules) m n → ComesFromOpened rules m n

-- what can be completed goes to parts
abbrev pub CompletableGoesToParts : Type 0
CompletableGoesToParts = (rules : List Rule) (sets : List (List Name)) → GoesToParts (Matters (completable rules sets))

-- under an `allow` what it keeps matters, and without a `comm` that can be completed; under a `comm` what can be completed matters
abbrev pub AllowedMatterUnderAllow : Type 0
AllowedMatterUnderAllow = (th : Theory) (sets : List (List Name)) → ComeFrom th (allow sets) (Matters everything) (Matters (allowed sets))

abbrev pub CompletableMatterUnderAllow : Type 0
CompletableMatterUnderAllow = (th : Theory) (sets : List (List Name)) → ComeFrom th (allow sets) (Matters everything) (Matters (completable [] sets))

abbrev pub CompletableMatterUnderComm : Type 0
CompletableMatterUnderComm = (th : Theory) (rules : List Rule) (sets : List (List Name)) → ComeFrom th (comm rules) (Matters (allowed sets)) (Matters (completable rules sets))
