-- The signs of data expressions: which token is which sign, how tightly an infix sign binds, and how a level groups.
use Rattle.std.specs.Prelude.{ℕ, List, [], ◌∷◌, Option, Some, None, nat_eq, map, if◌then◌else◌}
use Rattle.mcrl2_lexer.specs.declared.kind.Kind.{Kind}
use Rattle.mcrl2_lexer.specs.declared.kind.Kind.TheVariants as kind_
use Rattle.mcrl2_syntax.specs.declared.word.Span.{Span}
use Rattle.mcrl2_syntax.specs.declared.data_tree.PrefixSign.{PrefixSign}
use Rattle.mcrl2_syntax.specs.declared.data_tree.PrefixSign.TheVariants.{Not, Negate, Size}
use Rattle.mcrl2_syntax.specs.declared.data_tree.InfixSign.{InfixSign}
use Rattle.mcrl2_syntax.specs.declared.data_tree.InfixSign.TheVariants.{Implies, Or, And, Equal, NotEqual, Less, LessEqual, Greater, GreaterEqual, In, Prepend, Append, Concat, Add, Subtract, Div, Mod, Multiply, At}
use Rattle.mcrl2_syntax.specs.Words.{joined}
use Rattle.mcrl2_syntax.specs.DataTrees.{PlainData, Operand, binary, sum_chain, product_chain, and_chain, or_chain, datas_of, operands_of, data_span}

abbrev pub prefix_of : Kind → Option PrefixSign
prefix_of kind_.Exclamation = Some Not
prefix_of kind_.Minus = Some Negate
prefix_of kind_.Hash = Some Size
prefix_of _ = None

abbrev pub infix_of : Kind → Option InfixSign
infix_of kind_.Implies = Some Implies
infix_of kind_.BarBar = Some Or
infix_of kind_.AndAnd = Some And
infix_of kind_.EqualsEquals = Some Equal
infix_of kind_.NotEquals = Some NotEqual
infix_of kind_.Less = Some Less
infix_of kind_.LessEquals = Some LessEqual
infix_of kind_.Greater = Some Greater
infix_of kind_.GreaterEquals = Some GreaterEqual
infix_of kind_.In = Some In
infix_of kind_.Prepend = Some Prepend
infix_of kind_.Append = Some Append
infix_of kind_.Concat = Some Concat
infix_of kind_.Plus = Some Add
infix_of kind_.Minus = Some Subtract
infix_of kind_.Div = Some Div
infix_of kind_.Mod = Some Mod
infix_of kind_.Star = Some Multiply
infix_of kind_.Dot = Some At
infix_of _ = None

-- the level of a sign: 1 binds most tightly, 11 least
abbrev pub level_of : InfixSign → ℕ
level_of Implies = 11
level_of Or = 10
level_of And = 9
level_of Equal = 8
level_of NotEqual = 8
level_of Less = 7
level_of LessEqual = 7
level_of Greater = 7
level_of GreaterEqual = 7
level_of In = 7
level_of Prepend = 6
level_of Append = 5
level_of Concat = 4
level_of Add = 3
level_of Subtract = 3
level_of Div = 2
level_of Mod = 2
level_of Multiply = 1
level_of At = 1

-- the level of a sign, or 0 where there is none
abbrev pub height_of : Option InfixSign → ℕ
height_of None = 0
height_of (Some sign) = level_of sign

abbrev pub height : Kind → ℕ
height kind = height_of (infix_of kind)

-- a sign between two expressions, from the first byte of the one to the last byte of the other
abbrev pub joined_by : InfixSign → PlainData → PlainData → PlainData
joined_by sign d e = binary (joined (data_span d) (data_span e)) sign d e

-- to the left: an operand joins all that stands before it
abbrev pub to_left : PlainData → List Operand → PlainData
to_left d [] = d
to_left d (o ∷ os) = to_left (joined_by o.0 d o.1) os

-- to the right: what stands behind a sign is its right side
abbrev pub to_right : PlainData → List Operand → PlainData
to_right d [] = d
to_right d (o ∷ os) = joined_by o.0 d (to_right o.1 os)

-- where the last operand stands
abbrev pub last_span : Span → List Operand → Span
last_span span [] = span
last_span span (o ∷ os) = last_span (data_span o.1) os

abbrev pub chain_span : PlainData → List Operand → Span
chain_span d os = joined (data_span d) (last_span (data_span d) os)

-- one operand is itself, more are a chain
abbrev pub to_sum : PlainData → List Operand → PlainData
to_sum d [] = d
to_sum d (o ∷ os) = sum_chain (chain_span d (o ∷ os)) d (operands_of (o ∷ os))

abbrev pub to_product : PlainData → List Operand → PlainData
to_product d [] = d
to_product d (o ∷ os) = product_chain (chain_span d (o ∷ os)) d (operands_of (o ∷ os))

abbrev pub to_and : PlainData → List Operand → PlainData
to_and d [] = d
to_and d (o ∷ os) = and_chain (chain_span d (o ∷ os)) (datas_of (d ∷ map (λ x. x.1) (o ∷ os)))

abbrev pub to_or : PlainData → List Operand → PlainData
to_or d [] = d
to_or d (o ∷ os) = or_chain (chain_span d (o ∷ os)) (datas_of (d ∷ map (λ x. x.1) (o ∷ os)))

-- how the operands of a level are grouped
abbrev pub grouped : ℕ → PlainData → List Operand → PlainData
grouped k d os = if nat_eq k 1 then to_product d os
    else if nat_eq k 3 then to_sum d os
    else if nat_eq k 6 then to_right d os
    else if nat_eq k 9 then to_and d os
    else if nat_eq k 10 then to_or d os
    else if nat_eq k 11 then to_right d os
    else to_left d os
