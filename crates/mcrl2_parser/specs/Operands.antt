-- The operands of an expression, in the order of the text, and how they join from the tightest level on.
use Rattle.std.specs.Prelude.{◌≡◌, ℕ, zero, suc, List, [], ◌∷◌, Some, nat_eq, min, if◌then◌else◌}
use Rattle.mcrl2_lexer.specs.declared.token.Token.{Token}
use Rattle.mcrl2_syntax.specs.declared.data_tree.InfixSign.{InfixSign}
use Rattle.mcrl2_syntax.specs.DataTrees.{PlainData, Operand}
use Rattle.mcrl2_syntax.specs.InfixSigns.{infix_of, level_of, grouped}
use Rattle.mcrl2_syntax.specs.SpelledData.{SpellsUnit}

-- a sign between two expressions
pub data SpellsSign : InfixSign → List Token → List Token → Type 0 where
  a_sign : {t : Token} {sign : InfixSign} {r : List Token} → infix_of t.kind ≡ Some sign → SpellsSign sign (t ∷ r) r

-- any number of expressions without infix signs, each behind a sign
pub data SpellsOperands (text : List ℕ) : List Operand → List Token → List Token → Type 0 where
  operands_end : {r : List Token} → SpellsOperands text [] r r
  operands_more : {sign : InfixSign} {d : PlainData} {os : List Operand} {ts vs us r : List Token} → SpellsSign sign ts vs → SpellsUnit text d vs us
      → SpellsOperands text os us r → SpellsOperands text ((sign, d) ∷ os) ts r

-- the tightest level of a sign between operands, and 12 where there is no sign
abbrev pub tightest : List Operand → ℕ
tightest [] = 12
tightest (o ∷ os) = min (level_of o.0) (tightest os)

-- Operands parted at a level: those that its signs join to what stands in front of them all, and the others, each with those
-- that its signs join to it.
abbrev pub with_operand : ℕ → Operand → List Operand × List Operand → List Operand × List Operand
with_operand k o behind = if nat_eq (level_of o.0) k then (o ∷ behind.0, behind.1) else ([], (o.0, grouped k o.1 behind.0) ∷ behind.1)

abbrev pub parted : ℕ → List Operand → List Operand × List Operand
parted k [] = ([], [])
parted k (o ∷ os) = with_operand k o (parted k os)

-- a first operand and the further ones, where the signs of a level have joined theirs
abbrev pub joined_at : ℕ → PlainData × List Operand → PlainData × List Operand
joined_at k x = let behind = parted k x.1 in (grouped k x.0 behind.0, behind.1)

-- the same for all levels up to one
unfoldable pub joined_up_to : ℕ → PlainData × List Operand → PlainData × List Operand
joined_up_to zero x = x
joined_up_to (suc k) x = joined_at (suc k) (joined_up_to k x)
