-- Options in code, as plain data, and what they mean.
use Rattle.std.specs.Prelude.{◌≡◌, ℕ, List, [], map, option_map, Option, Some, None, IfSome}
use Rattle.std.specs.List.{All, AllZip}
use Rattle.data_theory.specs.declared.ids.VarId.{VarId}
use Rattle.data_theory.specs.declared.ids.TermId.{TermId}
use Rattle.data_theory.specs.Terms.{Term}
use Rattle.data_theory.specs.Declarations.{HaveSorts}
use Rattle.data_theory.specs.Environments.{terms_of}
use Rattle.data_theory.specs.Provable.{Equation}
use Rattle.data_theory.specs.Signature.{Sig}
use Rattle.data_theory.specs.IdData.{data_meant}
use Rattle.data_theory.specs.IdTrees.{Tree}
use Rattle.process_terms.specs.PlainProcesses.{PlainAction, plain_label}
use Rattle.process_terms.specs.Meanings.{bound_at, term_at, label_of}
use Rattle.process_terms.specs.SignatureEntries.{entries_of}
use Rattle.bisim_laws.specs.LinearProcesses.{sorts, LabelIsSorted}
use Rattle.lps_core.specs.Fitting.{AreTermsOf, IsActionOf, sort_of_variable}
use Rattle.lps_core.specs.PlainLinears.{PlainSummand, PlainLinear, plain_next, summand_of, linear_of}
use Rattle.lps_simulator.specs.declared.options.Move.{Move}
use Rattle.lps_simulator.specs.declared.options.Open.{Open}
use Rattle.lps_simulator.specs.declared.options.Options.{Options}
use Rattle.lps_simulator.specs.Options.{TermMove, Tried, IsTried, moves_from, opens_from, cuts_from}

pub record PlainMove : Type 0 where
  pub summand : ℕ
  pub label : List PlainAction
  pub next : Option (List TermId)

pub record PlainOptions : Type 0 where
  pub moves : List PlainMove
  pub undecided : List Open
  pub cut : List ℕ

abbrev pub no_options : PlainOptions
no_options = record { moves = []; undecided = []; cut = [] }

abbrev pub plain_move : Move → PlainMove
plain_move m = record { summand = m.summand; label = plain_label m.label; next = plain_next m.next }

abbrev pub plain_options : Options → PlainOptions
plain_options o = record { moves = map plain_move o.moves.items; undecided = o.undecided.items; cut = o.cut.items }

-- ---- states and moves that stand in a pool
-- the terms of a state
abbrev pub terms_at : Sig → List Tree → List TermId → List Term
terms_at g ts ids = map (term_at (entries_of g ts)) ids

-- closed terms of the parameters' sorts
pub record IsState (g : Sig) (ts : List Tree) (params : List VarId) (state : List TermId) : Type 0 where
  pub terms : AreTermsOf g ts (map (sort_of_variable g) params) state
  pub closed : HaveSorts (data_meant g) [] (terms_of (terms_at g ts state)) (sorts (map (bound_at (entries_of g ts)) params))

-- a label with closed arguments, and a state
pub record IsMove (g : Sig) (ts : List Tree) (params : List VarId) (m : PlainMove) : Type 0 where
  pub label : All (IsActionOf g ts) m.label
  pub closed : LabelIsSorted (data_meant g) [] (label_of (entries_of g ts) m.label)
  pub next : IfSome m.next (IsState g ts params)

-- what a move means
abbrev pub meant_move : Sig → List Tree → PlainMove → TermMove
meant_move g ts m = record { summand = m.summand; label = label_of (entries_of g ts) m.label; next = option_map (terms_at g ts) m.next }

-- ---- the options of a state
-- the summand is tried in this state
abbrev pub IsTriedAt : Sig → List Equation → ℕ → ℕ → List Tree → PlainLinear → List TermId → PlainSummand → Tried → Type 0
IsTriedAt g own fuel bound ts l state s t = IsTried g own fuel bound (linear_of (entries_of g ts) l) (terms_at g ts state) s.sums (summand_of (entries_of g ts) s) t

-- The moves are those of the combinations that are decided Yes, summand by summand, the undecided summands those with a combination that
-- isn't decided, and those in the cut have a sum with other values than the listed ones. Summands count from 1. The process and the state
-- are over the first trees, what they can do over the second ones.
pub record AreOptions (g : Sig) (own : List Equation) (fuel bound : ℕ) (ts us : List Tree) (l : PlainLinear) (state : List TermId) (found : PlainOptions) : Type 0 where
  pub tried : List Tried
  pub each : AllZip (IsTriedAt g own fuel bound ts l state) l.summands tried
  pub moves : map (meant_move g us) found.moves ≡ moves_from 1 tried
  pub undecided : found.undecided ≡ opens_from 1 tried
  pub cut : found.cut ≡ cuts_from 1 tried

-- a session that has ended has none
abbrev pub AreOptionsAt : Sig → List Equation → ℕ → ℕ → List Tree → List Tree → PlainLinear → Option (List TermId) → PlainOptions → Type 0
AreOptionsAt g own fuel bound ts us l None found = found ≡ no_options
AreOptionsAt g own fuel bound ts us l (Some state) found = AreOptions g own fuel bound ts us l state found
