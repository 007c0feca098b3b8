-- The texts of a transition system: which edges and which states their lines are, and the first bad line.
use Rattle.std.specs.Prelude.{◌≡◌, ◌≢◌, ◌<◌, ◌^◌, ◌++◌, ℕ, suc, true, List, [], ◌∷◌, Some, None, codes, All}
use Rattle.data_theory.specs.Terms.{Term}
use Rattle.process_terms.specs.Labels.{Label}
use Rattle.trace_replay.specs.Lines.{lines_of}
use Rattle.aut_check.specs.Systems.{Edge, FileState}
use Rattle.mcrl2_lexer.specs.Words.{is_space, is_digit, decimal}

-- ---- parts of a line
abbrev pub IsWhite : List ℕ → Type 0
IsWhite line = All (λ b. is_space b ≡ true) line

-- the line begins with this part, with white space in front of it, and the rest stands behind it
pub record IsFirstPart (line part rest : List ℕ) : Type 0 where
  pub white : List ℕ
  pub is_white : IsWhite white
  pub whole : line ≡ white ++ (part ++ rest)

-- the line is these parts in order, with white space in front of, between and behind them
pub data AreParts : List ℕ → List (List ℕ) → Type 0 where
  no_part : {line : List ℕ} → IsWhite line → AreParts line []
  part_then : {line part rest : List ℕ} {parts : List (List ℕ)} → IsFirstPart line part rest → AreParts rest parts → AreParts line (part ∷ parts)

-- a decimal number below 2^64, without further zeros in front
pub data IsNumber : List ℕ → ℕ → Type 0 where
  zero_digit : IsNumber (codes "0") 0
  some_digits : {first : ℕ} {others : List ℕ} → first ≢ 48 → is_digit first ≡ true → All (λ b. is_digit b ≡ true) others → decimal (first ∷ others) < 2 ^ 64 → IsNumber (first ∷ others) (decimal (first ∷ others))

-- no quotation mark and no comment stand in it
abbrev pub IsPlain : List ℕ → Type 0
IsPlain text = All (λ b. (b ≢ 34) × (b ≢ 37)) text

abbrev pub quoted : List ℕ → List ℕ
quoted label = codes "\"" ++ label ++ codes "\""

pub record Counts : Type 0 where
  pub first : ℕ
  pub edges : ℕ
  pub states : ℕ

-- `des (F,T,N)`
pub record IsHeaderLine (line : List ℕ) (c : Counts) : Type 0 where
  pub first : List ℕ
  pub edges : List ℕ
  pub states : List ℕ
  pub parts : AreParts line (codes "des" ∷ codes "(" ∷ first ∷ codes "," ∷ edges ∷ codes "," ∷ states ∷ codes ")" ∷ [])
  pub first_is : IsNumber first c.first
  pub edges_are : IsNumber edges c.edges
  pub states_are : IsNumber states c.states
  pub within : c.first < c.states

-- `(I,"LABEL",J)`
pub record IsEdgeText (line label : List ℕ) (i j : ℕ) : Type 0 where
  pub from : List ℕ
  pub to : List ℕ
  pub parts : AreParts line (codes "(" ∷ from ∷ codes "," ∷ quoted label ∷ codes "," ∷ to ∷ codes ")" ∷ [])
  pub plain : IsPlain label
  pub from_is : IsNumber from i
  pub to_is : IsNumber to j

module _ (Spells : List ℕ → Label → Type 0) where
  -- the text of an edge between two of the states, with a label
  pub record IsEdgeLine (c : Counts) (line : List ℕ) (e : Edge) : Type 0 where
    pub label : List ℕ
    pub text : IsEdgeText line label e.from e.to
    pub spelled : Spells label e.label
    pub from_within : e.from < c.states
    pub to_within : e.to < c.states

  -- so many edges are still to come
  pub data AreEdgeLines (c : Counts) : ℕ → List (List ℕ) → List Edge → Type 0 where
    no_edge_left : AreEdgeLines c 0 [] []
    white_line : {left : ℕ} {line : List ℕ} {lines : List (List ℕ)} {es : List Edge} → IsWhite line → AreEdgeLines c left lines es → AreEdgeLines c left (line ∷ lines) es
    edge_line : {left : ℕ} {line : List ℕ} {lines : List (List ℕ)} {e : Edge} {es : List Edge} → IsEdgeLine c line e → AreEdgeLines c left lines es → AreEdgeLines c (suc left) (line ∷ lines) (e ∷ es)

  -- the lines of an Aldebaran file
  pub data AreAutLines : List (List ℕ) → Counts → List Edge → Type 0 where
    white_first : {line : List ℕ} {lines : List (List ℕ)} {c : Counts} {es : List Edge} → IsWhite line → AreAutLines lines c es → AreAutLines (line ∷ lines) c es
    header_first : {line : List ℕ} {lines : List (List ℕ)} {c : Counts} {es : List Edge} → IsHeaderLine line c → AreEdgeLines c c.edges lines es → AreAutLines (line ∷ lines) c es

  -- the number of the first bad line among the edges, or the one behind the last line where an edge is missing; lines count from k on
  pub data IsBadEdge (c : Counts) : ℕ → ℕ → List (List ℕ) → ℕ → Type 0 where
    edge_missing : {k left : ℕ} → IsBadEdge c k (suc left) [] k
    edge_too_many : {k : ℕ} {line : List ℕ} {lines : List (List ℕ)} → ¬ (IsWhite line) → IsBadEdge c k 0 (line ∷ lines) k
    no_edge : {k left : ℕ} {line : List ℕ} {lines : List (List ℕ)} → ¬ (IsWhite line) → ((e : Edge) → ¬ (IsEdgeLine c line e)) → IsBadEdge c k (suc left) (line ∷ lines) k
    behind_white : {k left n : ℕ} {line : List ℕ} {lines : List (List ℕ)} → IsWhite line → IsBadEdge c (suc k) left lines n → IsBadEdge c k left (line ∷ lines) n
    behind_edge : {k left n : ℕ} {line : List ℕ} {lines : List (List ℕ)} {e : Edge} → IsEdgeLine c line e → IsBadEdge c (suc k) left lines n → IsBadEdge c k (suc left) (line ∷ lines) n

  pub data IsBadAutLine : ℕ → List (List ℕ) → ℕ → Type 0 where
    header_missing : {k : ℕ} → IsBadAutLine k [] k
    no_header : {k : ℕ} {line : List ℕ} {lines : List (List ℕ)} → ¬ (IsWhite line) → ((c : Counts) → ¬ (IsHeaderLine line c)) → IsBadAutLine k (line ∷ lines) k
    behind_white_line : {k n : ℕ} {line : List ℕ} {lines : List (List ℕ)} → IsWhite line → IsBadAutLine (suc k) lines n → IsBadAutLine k (line ∷ lines) n
    behind_header : {k n : ℕ} {line : List ℕ} {lines : List (List ℕ)} {c : Counts} → IsHeaderLine line c → IsBadEdge c (suc k) c.edges lines n → IsBadAutLine k (line ∷ lines) n

  -- the text is an Aldebaran file, or the line with this number is its first bad one
  abbrev pub IsAut : List ℕ → Counts → List Edge → Type 0
  IsAut text c es = AreAutLines (lines_of text) c es

  abbrev pub IsBadAut : List ℕ → ℕ → Type 0
  IsBadAut text k = IsBadAutLine 1 (lines_of text) k

-- ---- the states
-- `-`
abbrev pub IsEndLine : List ℕ → Type 0
IsEndLine line = AreParts line (codes "-" ∷ [])

module _ (AreTerms : List ℕ → List Term → Type 0) where
  -- `-`, or terms in brackets
  pub data IsStateLine : List ℕ → FileState → Type 0 where
    after_all : {line : List ℕ} → IsEndLine line → IsStateLine line None
    with_terms : {line : List ℕ} {ts : List Term} → IsPlain line → AreTerms line ts → IsStateLine line (Some ts)

  pub data AreStateLines : ℕ → List (List ℕ) → List FileState → Type 0 where
    no_state_left : AreStateLines 0 [] []
    white_between : {left : ℕ} {line : List ℕ} {lines : List (List ℕ)} {os : List FileState} → IsWhite line → AreStateLines left lines os → AreStateLines left (line ∷ lines) os
    state_line : {left : ℕ} {line : List ℕ} {lines : List (List ℕ)} {o : FileState} {os : List FileState} → IsStateLine line o → AreStateLines left lines os → AreStateLines (suc left) (line ∷ lines) (o ∷ os)

  pub data IsBadState : ℕ → ℕ → List (List ℕ) → ℕ → Type 0 where
    state_missing : {k left : ℕ} → IsBadState k (suc left) [] k
    state_too_many : {k : ℕ} {line : List ℕ} {lines : List (List ℕ)} → ¬ (IsWhite line) → IsBadState k 0 (line ∷ lines) k
    no_state : {k left : ℕ} {line : List ℕ} {lines : List (List ℕ)} → ¬ (IsWhite line) → ((o : FileState) → ¬ (IsStateLine line o)) → IsBadState k (suc left) (line ∷ lines) k
    past_white : {k left n : ℕ} {line : List ℕ} {lines : List (List ℕ)} → IsWhite line → IsBadState (suc k) left lines n → IsBadState k left (line ∷ lines) n
    past_state : {k left n : ℕ} {line : List ℕ} {lines : List (List ℕ)} {o : FileState} → IsStateLine line o → IsBadState (suc k) left lines n → IsBadState k (suc left) (line ∷ lines) n

  -- the text has as many states as were told, or the line with this number is the first bad one
  abbrev pub AreStates : List ℕ → ℕ → List FileState → Type 0
  AreStates text count os = AreStateLines count (lines_of text) os

  abbrev pub IsBadStates : List ℕ → ℕ → ℕ → Type 0
  IsBadStates text count k = IsBadState 1 count (lines_of text) k
