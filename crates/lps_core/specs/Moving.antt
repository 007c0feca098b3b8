-- Environments side by side, and terms that are moved from the variables of one to those of another.
use Rattle.std.specs.Prelude.{◌≡◌, ℕ, List, [], ◌∷◌, ◌++◌, map, Contains}
use Rattle.data_theory.specs.Terms.{Sort, variable, put}
use Rattle.data_theory.specs.Declarations.{Data}
use Rattle.data_theory.specs.Environments.{Environment, term_in, bound, Apart, AreDistinct}
use Rattle.process_terms.specs.Theories.{Theory}
use Rattle.process_terms.specs.Processes.{Bound}
use Rattle.process_terms.specs.Labels.{put_label}
use Rattle.bisim_laws.specs.Bisimulations.{Bisimulation}
use Rattle.bisim_laws.specs.LinearProcesses.{Summand, Linear, variables, reading, put_next, IsLinear, IsWellSorted, AreDeclared}
use Rattle.bisim_laws.specs.BaseStates.{Fate, kept}
use Rattle.bisim_laws.specs.Links.{Dropped, Pairs}

-- what r puts in and d then reads is what e reads, for these variables
abbrev pub Through : List ℕ → Environment → Environment → Environment → Type 0
Through xs r d e = (v : ℕ) → Contains xs v → put (term_in d) (term_in r v) ≡ term_in e v

-- some variables read by e, in front of d
abbrev pub beside_reading : Environment → List ℕ → Environment → Environment
beside_reading e xs d = bound xs (reading e xs) ++ d

-- other variables in place of these
abbrev pub renaming_to : List ℕ → List ℕ → Environment
renaming_to xs ys = bound xs (map variable ys)

-- a summand with other sum variables, and what r puts in
abbrev pub moved : Environment → List Bound → Summand → Summand
moved r ys s = record { sums = ys; condition = put (term_in r) s.condition; label = put_label r s.label; next = put_next r s.next }

-- as many variables, of the same sorts
pub data SameSorts : List Bound → List Bound → Type 0 where
  no_more : SameSorts [] []
  one_more : {x y : Bound} {xs ys : List Bound} → x.sort ≡ y.sort → SameSorts xs ys → SameSorts (x ∷ xs) (y ∷ ys)

abbrev pub with_sums : List Bound → Summand → Summand
with_sums ys s = moved (renaming_to (variables s.sums) (variables ys)) ys s

-- each summand with other sum variables
pub data HaveOtherSums : List Summand → List Summand → Type 0 where
  no_summand : HaveOtherSums [] []
  one_summand : {s : Summand} {ss ts : List Summand} (ys : List Bound) → SameSorts s.sums ys → HaveOtherSums ss ts → HaveOtherSums (s ∷ ss) (with_sums ys s ∷ ts)

pub record RenewsSums (l k : Linear) : Type 0 where
  pub params : k.params ≡ l.params
  pub summands : HaveOtherSums l.summands k.summands

-- the fates where no parameter is dropped
abbrev pub all_kept : List Bound → List Fate
all_kept [] = []
all_kept (x ∷ xs) = kept ∷ all_kept xs

-- ---- laws
-- other ids for the sums are a link that drops no parameter
abbrev pub RenewedSumsAreGood : Type 0
RenewedSumsAreGood =
    (th : Theory) (vs : List Sort) (l k : Linear) → IsLinear l → IsLinear k → IsWellSorted th.declared vs l → IsWellSorted th.declared vs k → RenewsSums l k
    → Bisimulation th (Pairs th (Dropped (all_kept l.params) l k))

-- the sums of a summand differ from one another and from the parameters
abbrev pub HasOwnSums : List Bound → Summand → Type 0
HasOwnSums params s = Apart (variables s.sums) (variables params) × AreDistinct (variables s.sums)

abbrev pub RenewedSumsAreLinear : Type 0
RenewedSumsAreLinear = (l k : Linear) → IsLinear l → RenewsSums l k → ((s : Summand) → Contains k.summands s → HasOwnSums k.params s) → IsLinear k

abbrev pub RenewedSumsAreSorted : Type 0
RenewedSumsAreSorted =
    (g : Data) (vs : List Sort) (l k : Linear) → IsWellSorted g vs l → RenewsSums l k → ((s : Summand) → Contains k.summands s → AreDeclared vs s.sums) → IsWellSorted g vs k
