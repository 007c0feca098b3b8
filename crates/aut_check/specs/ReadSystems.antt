-- What is read of the two texts of a transition system.
use Rattle.std.specs.Prelude.{◌≡◌, ◌<◌, ℕ, suc, Bool, true, false, List, [], ◌∷◌, ◌++◌, length, map, Option, Some, None}
use Rattle.std.specs.List.{AllZip}
use Rattle.data_theory.specs.IdData.{data_meant}
use Rattle.data_theory.specs.IdTrees.{Tree}
use Rattle.data_theory.specs.Signature.{Sig}
use Rattle.data_theory.specs.Terms.{Term}
use Rattle.data_theory.specs.declared.ids.SortId.{SortId}
use Rattle.data_theory.specs.declared.ids.TermId.{TermId}
use Rattle.data_theory.specs.declared.ids.VarId.{VarId}
use Rattle.data_rewriter.specs.Standing.{term_at}
use Rattle.lps_core.specs.Fitting.{sort_of_variable}
use Rattle.mcrl2_parser.specs.TermTexts.{IsTupleLine}
use Rattle.mcrl2_syntax.specs.DataTrees.{PlainData}
use Rattle.sort_checker.specs.TypedData.{IsTypedData}
use Rattle.trace_replay.specs.Pairings.{IsClosedLabel}
use Rattle.trace_replay.specs.Traces.{SpellsLabel}
use Rattle.trace_replay.specs.Ways.{LabelIs}
use Rattle.aut_check.specs.declared.reading.AutFault.{AutFault}
use Rattle.aut_check.specs.declared.reading.AutFault.TheVariants.{BadAut, BadStates, NoMemory}
use Rattle.aut_check.specs.Comparing.{AreClosed}
use Rattle.aut_check.specs.PlainSystems.{PlainEdge, PlainSystem, meant_system, IsSystem}
use Rattle.aut_check.specs.Systems.{Edge, FileState}
use Rattle.aut_check.specs.SystemTexts.{Counts, AreEdgeLines, AreStates, IsAut, IsBadAut, IsBadEdge, IsBadStates, IsEdgeLine, IsHeaderLine, IsStateLine, IsWhite}

-- ---- terms of a line
-- the trees are closed, typed terms of these sorts, one for each
pub data AreTypedTerms (g : Sig) : List SortId → List PlainData → List Term → Type 0 where
  no_terms : AreTypedTerms g [] [] []
  term_then : {s : SortId} {ss : List SortId} {d : PlainData} {ds : List PlainData} {t : Term} {ts : List Term} → IsTypedData g [] s d t → AreTypedTerms g ss ds ts → AreTypedTerms g (s ∷ ss) (d ∷ ds) (t ∷ ts)

-- the line spells trees in brackets, which are closed, typed terms of these sorts
pub record SpellsTerms (g : Sig) (ss : List SortId) (line : List ℕ) (ts : List Term) : Type 0 where
  pub trees : List PlainData
  pub spelled : IsTupleLine line trees
  pub typed : AreTypedTerms g ss trees ts

abbrev pub sorts_of_parameters : Sig → List VarId → List SortId
sorts_of_parameters g params = map (sort_of_variable g) params

-- ---- both texts
-- the system has the first state, the edges and the states that the texts tell, and can be compared
pub record IsReadSystem (g : Sig) (ts : List Tree) (params : List VarId) (aut listed : List ℕ) (f : PlainSystem) : Type 0 where
  pub counts : Counts
  pub first : f.first ≡ counts.first
  pub edges : IsAut (SpellsLabel g) aut counts (meant_system g ts f).edges
  pub states : AreStates (SpellsTerms g (sorts_of_parameters g params)) listed counts.states (meant_system g ts f).states
  pub system : IsSystem g ts params f

-- the text of states has this first bad line, where the other text tells how many states there are
pub record IsBadBehind (g : Sig) (ss : List SortId) (aut listed : List ℕ) (k : ℕ) : Type 0 where
  pub counts : Counts
  pub edges : List Edge
  pub is_aut : IsAut (SpellsLabel g) aut counts edges
  pub bad : IsBadStates (SpellsTerms g ss) listed counts.states k

-- the line with this number is the first bad one; want of memory is free
abbrev pub IsSystemFault : Sig → List VarId → List ℕ → List ℕ → AutFault → Type 0
IsSystemFault g params aut listed (BadAut k) = IsBadAut (SpellsLabel g) aut k
IsSystemFault g params aut listed (BadStates k) = IsBadBehind g (sorts_of_parameters g params) aut listed k
IsSystemFault g params aut listed NoMemory = Unit {0}

-- ---- the header in code
-- Behind white lines comes a header with these counts. Lines count from a number on, and those from another number on are left.
pub data HasHeader : ℕ → List (List ℕ) → Counts → ℕ → List (List ℕ) → Type 0 where
  header_here : {k : ℕ} {line : List ℕ} {lines : List (List ℕ)} {c : Counts} → IsHeaderLine line c → HasHeader k (line ∷ lines) c (suc k) lines
  header_behind : {k n : ℕ} {line : List ℕ} {lines left : List (List ℕ)} {c : Counts} → IsWhite line → HasHeader (suc k) lines c n left → HasHeader k (line ∷ lines) c n left

-- the line with this number is the first that is neither white nor a header, or no line is left there
pub data HasNoHeader : ℕ → List (List ℕ) → ℕ → Type 0 where
  no_line_left : {k : ℕ} → HasNoHeader k [] k
  other_line : {k : ℕ} {line : List ℕ} {lines : List (List ℕ)} → ¬ (IsWhite line) → ((c : Counts) → ¬ (IsHeaderLine line c)) → HasNoHeader k (line ∷ lines) k
  other_behind : {k n : ℕ} {line : List ℕ} {lines : List (List ℕ)} → IsWhite line → HasNoHeader (suc k) lines n → HasNoHeader k (line ∷ lines) n

abbrev pub IsHeaderFault : List (List ℕ) → AutFault → Type 0
IsHeaderFault lines (BadAut k) = HasNoHeader 1 lines k
IsHeaderFault lines (BadStates k) = ⊥
IsHeaderFault lines NoMemory = ⊥

-- ---- edges in code
-- an edge in code over a pool, which is this one with a closed label
pub record EdgeIs (g : Sig) (ts : List Tree) (x : PlainEdge) (e : Edge) : Type 0 where
  pub from : x.from ≡ e.from
  pub to : x.to ≡ e.to
  pub label : LabelIs g ts x.label e.label
  pub closed : IsClosedLabel (data_meant g) e.label

abbrev pub EdgesAre : Sig → List Tree → List PlainEdge → List Edge → Type 0
EdgesAre g ts xs es = AllZip (EdgeIs g ts) xs es

-- the edge of a line, or nothing where the line is none
abbrev pub IsReadEdge : Sig → List Tree → Counts → List ℕ → Option PlainEdge → Type 0
IsReadEdge g ts c line None = (e : Edge) → ¬ (IsEdgeLine (SpellsLabel g) c line e)
IsReadEdge g ts c line (Some x) = (e : Edge) × EdgeIs g ts x e × IsEdgeLine (SpellsLabel g) c line e

-- The edge of a line is put behind others, where the line isn't white, and it is told whether the line is good.
pub data AddsEdge (g : Sig) (ts : List Tree) (c : Counts) (line : List ℕ) (old new : List PlainEdge) (good : Bool) : Type 0 where
  no_edge_told : IsWhite line → new ≡ old → good ≡ true → AddsEdge g ts c line old new good
  edge_told : (x : PlainEdge) (e : Edge) → length old < c.edges → EdgeIs g ts x e → IsEdgeLine (SpellsLabel g) c line e → new ≡ old ++ x ∷ [] → good ≡ true → AddsEdge g ts c line old new good
  edge_beyond : ¬ (IsWhite line) → length old ≡ c.edges → good ≡ false → AddsEdge g ts c line old new good
  no_edge_there : ¬ (IsWhite line) → length old < c.edges → ((e : Edge) → ¬ (IsEdgeLine (SpellsLabel g) c line e)) → good ≡ false → AddsEdge g ts c line old new good

-- all edges of these lines
pub record AreReadEdges (g : Sig) (ts : List Tree) (c : Counts) (lines : List (List ℕ)) (xs : List PlainEdge) : Type 0 where
  pub edges : List Edge
  pub lines_are : AreEdgeLines (SpellsLabel g) c c.edges lines edges
  pub are : EdgesAre g ts xs edges

abbrev pub IsEdgesFault : Sig → Counts → ℕ → List (List ℕ) → AutFault → Type 0
IsEdgesFault g c k lines (BadAut n) = IsBadEdge (SpellsLabel g) c k c.edges lines n
IsEdgesFault g c k lines (BadStates n) = ⊥
IsEdgesFault g c k lines NoMemory = Unit {0}

-- the Aldebaran text
pub record IsReadAut (g : Sig) (ts : List Tree) (text : List ℕ) (c : Counts) (xs : List PlainEdge) : Type 0 where
  pub edges : List Edge
  pub is_aut : IsAut (SpellsLabel g) text c edges
  pub are : EdgesAre g ts xs edges

abbrev pub IsAutFault : Sig → List ℕ → AutFault → Type 0
IsAutFault g text (BadAut k) = IsBadAut (SpellsLabel g) text k
IsAutFault g text (BadStates k) = ⊥
IsAutFault g text NoMemory = Unit {0}

-- ---- states in code
-- the terms in a pool are these, closed and of these sorts
pub record TermsAre (g : Sig) (ts : List Tree) (ss : List SortId) (ids : List TermId) (us : List Term) : Type 0 where
  pub closed : AreClosed g ts ss ids
  pub are : map (term_at g ts) ids ≡ us

-- the terms of a line, or nothing where the line spells none
abbrev pub AreReadTerms : Sig → List Tree → List SortId → List PlainData → Option (List TermId) → Type 0
AreReadTerms g ts ss ds None = (us : List Term) → ¬ (AreTypedTerms g ss ds us)
AreReadTerms g ts ss ds (Some ids) = (us : List Term) × TermsAre g ts ss ids us × AreTypedTerms g ss ds us

abbrev pub AreTermsOfLine : Sig → List Tree → List SortId → List ℕ → Option (List TermId) → Type 0
AreTermsOfLine g ts ss line None = (us : List Term) → ¬ (SpellsTerms g ss line us)
AreTermsOfLine g ts ss line (Some ids) = (us : List Term) × TermsAre g ts ss ids us × SpellsTerms g ss line us

-- a state in code, which is this one
abbrev pub FileStateIs : Sig → List Tree → List SortId → Option (List TermId) → FileState → Type 0
FileStateIs g ts ss None None = Unit {0}
FileStateIs g ts ss None (Some us) = ⊥
FileStateIs g ts ss (Some ids) None = ⊥
FileStateIs g ts ss (Some ids) (Some us) = TermsAre g ts ss ids us

abbrev pub FileStatesAre : Sig → List Tree → List SortId → List (Option (List TermId)) → List FileState → Type 0
FileStatesAre g ts ss xs os = AllZip (FileStateIs g ts ss) xs os

-- The state of a line is put behind others, where the line isn't white, and it is told whether the line is good.
pub data AddsState (g : Sig) (ts : List Tree) (ss : List SortId) (count : ℕ) (line : List ℕ) (old new : List (Option (List TermId))) (good : Bool) : Type 0 where
  no_state_told : IsWhite line → new ≡ old → good ≡ true → AddsState g ts ss count line old new good
  state_told : (x : Option (List TermId)) (o : FileState) → length old < count → FileStateIs g ts ss x o → IsStateLine (SpellsTerms g ss) line o → new ≡ old ++ x ∷ [] → good ≡ true → AddsState g ts ss count line old new good
  state_beyond : ¬ (IsWhite line) → length old ≡ count → good ≡ false → AddsState g ts ss count line old new good
  no_state_there : ¬ (IsWhite line) → length old < count → ((o : FileState) → ¬ (IsStateLine (SpellsTerms g ss) line o)) → good ≡ false → AddsState g ts ss count line old new good

-- the text of states
pub record AreReadStates (g : Sig) (ts : List Tree) (ss : List SortId) (text : List ℕ) (count : ℕ) (xs : List (Option (List TermId))) : Type 0 where
  pub states : List FileState
  pub are_states : AreStates (SpellsTerms g ss) text count states
  pub are : FileStatesAre g ts ss xs states

abbrev pub IsStatesFault : Sig → List SortId → List ℕ → ℕ → AutFault → Type 0
IsStatesFault g ss text count (BadAut k) = ⊥
IsStatesFault g ss text count (BadStates k) = IsBadStates (SpellsTerms g ss) text count k
IsStatesFault g ss text count NoMemory = Unit {0}
