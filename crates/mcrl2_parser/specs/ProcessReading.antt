-- What the readers of process terms find: a reading, and what the rest can't begin with.
use Rattle.std.specs.Prelude.{◌≡◌, ℕ, Bool, true, List, [], ◌∷◌}
use Rattle.mcrl2_lexer.specs.declared.kind.Kind.TheVariants.{Identifier, LeftParen, RightParen, LeftMerge, Equals, Dot, Arrow}
use Rattle.mcrl2_lexer.specs.declared.token.Token.{Token}
use Rattle.mcrl2_syntax.specs.Words.{Begins}
use Rattle.mcrl2_syntax.specs.DataTrees.{PlainData}
use Rattle.mcrl2_syntax.specs.ProcessParts.{PlainAction}
use Rattle.mcrl2_syntax.specs.ProcessTrees.{PlainProcess, acts}
use Rattle.mcrl2_syntax.specs.SpelledData.{SpellsUnit}
use Rattle.mcrl2_syntax.specs.SpelledLabels.{SpellsAction, SpellsCall}
use Rattle.mcrl2_syntax.specs.SpelledProcesses.{together, merged, SpellsMulti, SpellsOperand, SpellsSum, SpellsCond, SpellsLeft, SpellsMerge}
use Rattle.mcrl2_syntax.specs.Follow.{Stays}

-- a call with assignments begins there: `P()` or `P(x = d)`
pub data BeginsCall : List Token → Type 0 where
  begins_empty : {t u v : Token} {r : List Token} → t.kind ≡ Identifier → u.kind ≡ LeftParen → v.kind ≡ RightParen → BeginsCall (t ∷ u ∷ v ∷ r)
  begins_assignment : {t u v w : Token} {r : List Token} → t.kind ≡ Identifier → u.kind ≡ LeftParen → v.kind ≡ Identifier → w.kind ≡ Equals → BeginsCall (t ∷ u ∷ v ∷ w ∷ r)

-- a call, or an action
pub data SpellsStep (text : List ℕ) : PlainProcess → List Token → List Token → Type 0 where
  step_call : {p : PlainProcess} {ts r : List Token} → SpellsCall text p ts r → SpellsStep text p ts r
  step_action : {a : PlainAction} {ts r : List Token} → SpellsAction text a ts r → SpellsStep text (acts a) ts r

-- the guard of a condition, with its arrow
pub data SpellsGuard (text : List ℕ) : PlainData → List Token → List Token → Type 0 where
  spells_guard : {c : PlainData} {a : Token} {ts r : List Token} → SpellsUnit text c ts (a ∷ r) → a.kind ≡ Arrow → SpellsGuard text c ts r

-- what only the last part of a sequence may be: a sum or a condition
pub data SpellsLast (text : List ℕ) : Bool → Bool → PlainProcess → List Token → List Token → Type 0 where
  last_sum : {o : Bool} {p : PlainProcess} {ts r : List Token} → SpellsSum text o p ts r → SpellsLast text true o p ts r
  last_cond : {s o : Bool} {p : PlainProcess} {ts r : List Token} → SpellsCond text s o p ts r → SpellsLast text s o p ts r

-- a sum or a condition that ends where it can't go on
pub record FindsLast (text : List ℕ) (p : PlainProcess) (ts r : List Token) : Type 0 where
  pub s : Bool
  pub o : Bool
  pub is : SpellsLast text s o p ts r
  pub stays : Stays s o r
  pub dot : Begins Dot r → ⊥

-- atoms with `|` between them
pub record FindsMulti (text : List ℕ) (p : PlainProcess) (ts r : List Token) : Type 0 where
  pub ps : List PlainProcess
  pub tree : p ≡ together ps
  pub is : SpellsMulti text ps ts r

-- a part of a sequence
pub data FindsPart (text : List ℕ) : PlainProcess → List Token → List Token → Type 0 where
  finds_last : {p : PlainProcess} {ts r : List Token} → FindsLast text p ts r → FindsPart text p ts r
  finds_multi : {p : PlainProcess} {ts r : List Token} → FindsMulti text p ts r → FindsPart text p ts r

-- an operand of `||` or `||_` that ends where it can't go on
pub record FindsOperand (text : List ℕ) (p : PlainProcess) (ts r : List Token) : Type 0 where
  pub s : Bool
  pub o : Bool
  pub is : SpellsOperand text s o p ts r
  pub stays : Stays s o r
  pub dot : Begins Dot r → ⊥

-- operands with `||_` between them that end where they can't go on
pub record FindsLeft (text : List ℕ) (p : PlainProcess) (ts r : List Token) : Type 0 where
  pub s : Bool
  pub o : Bool
  pub is : SpellsLeft text s o p ts r
  pub stays : Stays s o r
  pub left : Begins LeftMerge r → ⊥
  pub dot : Begins Dot r → ⊥

-- these with `||` between them that end where they can't go on
pub record FindsMerge (text : List ℕ) (p : PlainProcess) (ts r : List Token) : Type 0 where
  pub o : Bool
  pub ps : List PlainProcess
  pub tree : p ≡ merged ps
  pub is : SpellsMerge text o ps ts r
  pub stays : Stays true o r
  pub dot : Begins Dot r → ⊥
