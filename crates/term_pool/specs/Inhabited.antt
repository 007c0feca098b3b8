-- The sorts that have a value, and the search for them.
use Rattle.std.specs.Prelude.{◌≡◌, ◌<◌, ◌↔◌, ◌⊎◌, Bool, true, false, not, cond, ℕ, zero, suc, List, [], ◌∷◌, ◌++◌, length, map, Some, set, slice_get, slice_index_or, sum_by}
use Rattle.std.specs.List.{Contains, flat_map}
use Rattle.std.specs.Global.{Vec}
use Rattle.data_theory.specs.declared.ids.SortId.{SortId}
use Rattle.data_theory.specs.declared.ids.FunId.{FunId}
use Rattle.data_theory.specs.Functions.{Function, arguments_of}
use Rattle.data_theory.specs.Sorts.{Kind, SortInfo, booleans, positives, naturals, integers, lists_over, without_constructors, by_declarations, structured}
use Rattle.data_theory.specs.Signature.{Sig}
use Rattle.data_theory.specs.IdData.{constructors_of}
use Rattle.term_pool.specs.declared.inhabited.Candidate.{Candidate}
use Rattle.term_pool.specs.ConstructorValues.{IsConstructorAt, HasValue}

-- the sort with this number is marked; none behind the last mark is
abbrev pub IsMarked : List Bool → ℕ → Type 0
IsMarked marks k = slice_index_or marks k false ≡ true

-- exactly the sorts that have a value are marked
pub record AreInhabited (g : Sig) (marks : List Bool) : Type 0 where
  pub size : length marks ≡ length g.sorts
  pub exact : (s : SortId) → IsMarked marks s.0 ↔ HasValue g s

-- ---- while they are searched
-- a sort with declared constructors
abbrev pub is_made : Kind → Bool
is_made booleans = false
is_made positives = false
is_made naturals = false
is_made integers = false
is_made (lists_over e) = false
is_made without_constructors = false
is_made (by_declarations fs) = true
is_made (structured fs) = true

abbrev pub marks_at_once : List SortInfo → List Bool
marks_at_once ss = map (λ (s : SortInfo). not (is_made s.kind)) ss

abbrev pub from_start : FunId → Candidate
from_start f = record { fun = f; known = 0 }

abbrev pub candidates_in : List SortInfo → List Candidate
candidates_in ss = flat_map (λ (s : SortInfo). map from_start (constructors_of s.kind)) ss

abbrev pub unmarked_count : List Bool → ℕ
unmarked_count marks = sum_by (λ mark. cond mark 0 1) marks

-- the candidates that wait for the sort with this number
abbrev pub waiting_at : List (Vec Candidate) → ℕ → List Candidate
waiting_at [] k = []
waiting_at (v ∷ vs) zero = v.items
waiting_at (v ∷ vs) (suc k) = waiting_at vs k

-- the sorts in front of this place are marked
abbrev pub AreMarkedUpTo : List Bool → List SortId → ℕ → Type 0
AreMarkedUpTo marks sorts n = (k : ℕ) (s : SortId) → k < n → slice_get sorts k ≡ Some s → IsMarked marks s.0

abbrev pub AreAllMarked : List Bool → List SortId → Type 0
AreAllMarked marks sorts = (k : ℕ) (s : SortId) → slice_get sorts k ≡ Some s → IsMarked marks s.0

-- the sorts in front of the place are marked, and the one there isn't
abbrev pub IsFirstUnmarked : List Bool → List SortId → ℕ → Type 0
IsFirstUnmarked marks sorts n = AreMarkedUpTo marks sorts n × ((s : SortId) × (slice_get sorts n ≡ Some s) × ¬ (IsMarked marks s.0))

-- the sort is marked now, and ready where it wasn't
abbrev pub IsMarkedToo : SortId → List Bool → List SortId → List Bool → List SortId → Type 0
IsMarkedToo s marks ready marks' ready' =
    (IsMarked marks s.0 × (marks' ≡ marks) × (ready' ≡ ready)) ⊎ (¬ (IsMarked marks s.0) × (marks' ≡ set marks s.0 true) × (ready' ≡ ready ++ s ∷ []))

-- a constructor of a sort, whose first arguments have marked sorts
pub record IsCandidate (g : Sig) (marks : List Bool) (c : Candidate) : Type 0 where
  pub entry : Function
  pub at : slice_get g.functions c.fun.0 ≡ Some entry
  pub place : ℕ
  pub constructs : IsConstructorAt g entry.result place c.fun
  pub known : AreMarkedUpTo marks (arguments_of entry) c.known

abbrev pub IsAmong : List Candidate → FunId → Type 0
IsAmong cs f = (c : Candidate) × Contains cs c × (c.fun ≡ f)

-- the constructor waits for the sort of an argument
abbrev pub Waits : Sig → List (Vec Candidate) → FunId → Type 0
Waits g waiting f = (e : Function) × (a : SortId) × (slice_get g.functions f.0 ≡ Some e) × Contains (arguments_of e) a × IsAmong (waiting_at waiting a.0) f

-- Marked sorts have a value. Each constructor of a sort that isn't marked is left or waits for the sort of an argument, and none waits for
-- a marked sort that isn't ready.
pub record IsSearch (g : Sig) (marks : List Bool) (ready : List SortId) (waiting : List (Vec Candidate)) (left : List Candidate) : Type 0 where
  pub size : length marks ≡ length g.sorts
  pub lists : length waiting ≡ length g.sorts
  pub sound : (s : SortId) → IsMarked marks s.0 → HasValue g s
  pub at_once : (s : SortId) (i : SortInfo) → slice_get g.sorts s.0 ≡ Some i → is_made i.kind ≡ false → IsMarked marks s.0
  pub ready_marked : (s : SortId) → Contains ready s → IsMarked marks s.0
  pub waits : (k : ℕ) (c : Candidate) → Contains (waiting_at waiting k) c → IsCandidate g marks c
  pub candidates : (c : Candidate) → Contains left c → IsCandidate g marks c
  pub seen : (s : SortId) → IsMarked marks s.0 → Contains ready s ⊎ (waiting_at waiting s.0 ≡ [])
  pub complete : (f : FunId) (e : Function) (k : ℕ) → slice_get g.functions f.0 ≡ Some e → IsConstructorAt g e.result k f → IsMarked marks e.result.0 ⊎ (IsAmong left f ⊎ Waits g waiting f)
