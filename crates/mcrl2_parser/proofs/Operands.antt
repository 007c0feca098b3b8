-- The operands of an expression, read one after the other, and that no other reading of the expression is.
use Rattle.std.proofs.Common.{◌≡◌, ℕ, ◌<◌, ◌≤◌, List, [], ◌∷◌, ◌++◌, Some, length, refl, ap, sym, ◌∙◌, subst, inl, inr, arith}
use Rattle.std.proofs.lemmas.List.{append-nil, map-append}
use Rattle.std.proofs.Common.{append_assoc}
use Rattle.mcrl2_lexer.specs.declared.kind.Kind.TheVariants.{LeftParen}
use Rattle.mcrl2_lexer.specs.declared.token.Token.{Token}
use Rattle.mcrl2_syntax.specs.declared.data_tree.InfixSign.{InfixSign}
use Rattle.mcrl2_syntax.specs.declared.data_tree.InfixSign.TheVariants.{Implies, Or, And, Equal, NotEqual, Less, LessEqual, Greater, GreaterEqual, In, Prepend, Append, Concat, Add, Subtract, Div, Mod, Multiply, At}
use Rattle.mcrl2_syntax.specs.declared.data_tree.DataTree.{DataTree}
use Rattle.mcrl2_syntax.specs.DataTrees.{PlainData, Operand, plain_data, plain_operands}
use Rattle.mcrl2_syntax.specs.InfixSigns.{infix_of, level_of, height}
use Rattle.mcrl2_syntax.specs.Follow.{Stops}
use Rattle.mcrl2_syntax.specs.SpelledData.{SpellsUnit, SpellsData, SpellsLevel, level_unit, level_chain, SpellsTail, tail_end, tail_more}
use Rattle.mcrl2_syntax.proofs.DataOnce.{sign_height, same_sign, level_once}
use Rattle.mcrl2_parser.specs.Operands.{SpellsSign, a_sign, SpellsOperands, operands_end, operands_more}
use Rattle.mcrl2_parser.proofs.Units.{OnlyUnit, OnlyData}

-- A sign at the front, as the code comes to it.
pub sign_found : {ts r : List Token} {t : Token} {sign : InfixSign} → ts ≡ t ∷ r → infix_of t.kind ≡ Some sign → SpellsSign sign ts r
sign_found {r = r} {sign = sign} e h = subst (λ (x : List Token). SpellsSign sign x r) (sym e) (a_sign h)

-- each sign has a level
pub some_level : (sign : InfixSign) → 0 < level_of sign
some_level Implies = omega arith
some_level Or = omega arith
some_level And = omega arith
some_level Equal = omega arith
some_level NotEqual = omega arith
some_level Less = omega arith
some_level LessEqual = omega arith
some_level Greater = omega arith
some_level GreaterEqual = omega arith
some_level In = omega arith
some_level Prepend = omega arith
some_level Append = omega arith
some_level Concat = omega arith
some_level Add = omega arith
some_level Subtract = omega arith
some_level Div = omega arith
some_level Mod = omega arith
some_level Multiply = omega arith
some_level At = omega arith

pub greatest_level : (sign : InfixSign) → level_of sign ≤ 11
greatest_level Implies = omega arith
greatest_level Or = omega arith
greatest_level And = omega arith
greatest_level Equal = omega arith
greatest_level NotEqual = omega arith
greatest_level Less = omega arith
greatest_level LessEqual = omega arith
greatest_level Greater = omega arith
greatest_level GreaterEqual = omega arith
greatest_level In = omega arith
greatest_level Prepend = omega arith
greatest_level Append = omega arith
greatest_level Concat = omega arith
greatest_level Add = omega arith
greatest_level Subtract = omega arith
greatest_level Div = omega arith
greatest_level Mod = omega arith
greatest_level Multiply = omega arith
greatest_level At = omega arith

-- what stops an expression is no sign
sign_stops : (t : Token) (ts : List Token) {sign : InfixSign} → infix_of t.kind ≡ Some sign → Stops 11 (t ∷ ts) → ⊥
sign_stops t ts {sign = sign} h s =
    let level : height t.kind ≡ level_of sign = sign_height t.kind h refl in
    let low : 0 < level_of sign = some_level sign in
    let high : level_of sign ≤ 11 = greatest_level sign in
    elim s.1 [ inl e ↦ omega (arith, e, level, low) | inr e ↦ omega (arith, e, level, high) ]

stops_all : (r : List Token) → Stops 11 r → Stops 0 r
stops_all [] s = tt
stops_all (t ∷ ts) s = (s.0, elim s.1 [ inl e ↦ inl e | inr e ↦ inr (omega (arith, e)) ])

-- a sign stops what stands in front of it, and so does what stops the whole
pub operand_stops : {text : List ℕ} {os : List Operand} {us r : List Token} → SpellsOperands text os us r → Stops 11 r → Stops 0 us
operand_stops (operands_end {r = r}) s = stops_all r s
operand_stops (operands_more (a_sign {t = t} {sign = sign} h) a b) s =
    let level : height t.kind ≡ level_of sign = sign_height t.kind h refl in
    let low : 0 < level_of sign = some_level sign in
    (λ e. let none : infix_of t.kind ≡ infix_of LeftParen = ap infix_of e in cc, inr (omega (arith, level, low)))

operands_join : {text : List ℕ} {os ps : List Operand} {ts us r : List Token} → SpellsOperands text os ts us → SpellsOperands text ps us r → SpellsOperands text (os ++ ps) ts r
operands_join operands_end c = c
operands_join (operands_more h a b) c = operands_more h a (operands_join b c)

-- What spells the rest spells the whole, with the operands in front, and the other way round.
pub record OperandsLeft (text : List ℕ) (tokens : List Token) (front : List Operand) (rest : List Token) : Type 0 where
  pub shorter : length rest ≤ length tokens
  pub found : SpellsOperands text front tokens rest
  pub only : (os : List Operand) (r : List Token) → SpellsOperands text os tokens r → Stops 11 r → (ps : List Operand) × (os ≡ front ++ ps) × SpellsOperands text ps rest r

pub operands_begin : (text : List ℕ) (tokens : List Token) → OperandsLeft text tokens [] tokens
operands_begin text tokens = record { shorter = omega arith; found = operands_end; only = λ os r a s. (os, refl, a) }

record FirstOperand (text : List ℕ) (o : Operand) (us : List Token) (os : List Operand) (r : List Token) : Type 0 where
  pub others : List Operand
  pub is : os ≡ o ∷ others
  pub spelled : SpellsOperands text others us r

same_behind : {text : List ℕ} {sign other : InfixSign} {d : PlainData} {os : List Operand} {ts vs ws us r : List Token} → SpellsSign sign ts vs → SpellsSign other ts ws → OnlyUnit text d vs us
    → (e : PlainData) (xs : List Token) → SpellsUnit text e ws xs → Stops 0 xs → SpellsOperands text os xs r → FirstOperand text (sign, d) us ((other, e) ∷ os) r
same_behind {text = text} {sign = sign} {other = other} {os = os} {r = r} (a_sign h) (a_sign i) only e xs a s b =
    let same = only e xs a s in
    record {
      others = os;
      is = ap (λ (x : InfixSign). (x, e) ∷ os) (same_sign i h) ∙ ap (λ (x : PlainData). (sign, x) ∷ os) (sym same.0);
      spelled = subst (λ (x : List Token). SpellsOperands text os x r) (sym same.1) b;
    }

no_end : {sign : InfixSign} {ts vs : List Token} → SpellsSign sign ts vs → Stops 11 ts → ⊥
no_end (a_sign {t = t} {r = r} h) s = sign_stops t r h s

-- behind a sign stands the expression that was read
behind_sign : {text : List ℕ} {sign : InfixSign} {d : PlainData} {os : List Operand} {ts vs us r : List Token} → SpellsSign sign ts vs → OnlyUnit text d vs us
    → SpellsOperands text os ts r → Stops 11 r → FirstOperand text (sign, d) us os r
behind_sign h only operands_end s = absurd (no_end h s)
behind_sign h only (operands_more {d = e} {us = xs} i a b) s = same_behind h i only e xs a (operand_stops b s) b

pub pushed_operands : (os : List (InfixSign × DataTree)) (sign : InfixSign) (tree : DataTree) → plain_operands (os ++ (sign, tree) ∷ []) ≡ plain_operands os ++ (sign, plain_data tree) ∷ []
pushed_operands os sign tree = map-append (λ o. (o.0, plain_data o.1)) os ((sign, tree) ∷ [])

-- from one turn to the next: `longer` are the operands with the one that was read
pub operands_go_on : {text : List ℕ} {tokens rest vs us : List Token} {front longer : List Operand} {sign : InfixSign} {d : PlainData} → OperandsLeft text tokens front rest
    → SpellsSign sign rest vs → SpellsUnit text d vs us → OnlyUnit text d vs us → length us ≤ length rest → longer ≡ front ++ (sign, d) ∷ [] → OperandsLeft text tokens longer us
operands_go_on {text = text} {tokens = tokens} {us = us} {front = front} {sign = sign} {d = d} left h found only less pushed = subst (λ (x : List Operand). OperandsLeft text tokens x us) (sym pushed) record {
  shorter = omega (arith, left.shorter, less);
  found = operands_join left.found (operands_more h found operands_end);
  only = λ os r a s.
      let old = left.only os r a s in
      let first = behind_sign h only old.2 s in
      (first.others, old.1 ∙ ap (λ (x : List Operand). front ++ x) first.is ∙ sym (append_assoc front ((sign, d) ∷ []) first.others), first.spelled);
}

-- no sign
abbrev pub NoSign : List Token → Type 0
NoSign ts = (sign : InfixSign) (r : List Token) → SpellsSign sign ts r → ⊥

at_end : {text : List ℕ} {os : List Operand} {ts r : List Token} → NoSign ts → SpellsOperands text os ts r → (os ≡ []) × (ts ≡ r)
at_end none operands_end = (refl, refl)
at_end none (operands_more {sign = sign} {vs = vs} h a b) = absurd (none sign vs h)

pub operands_only : {text : List ℕ} {tokens rest : List Token} {front : List Operand} → OperandsLeft text tokens front rest → NoSign rest
    → (os : List Operand) (r : List Token) → SpellsOperands text os tokens r → Stops 11 r → (front ≡ os) × (rest ≡ r)
operands_only {front = front} left none os r a s =
    let old = left.only os r a s in
    let ends = at_end none old.2 in
    (sym (old.1 ∙ ap (λ (x : List Operand). front ++ x) ends.0 ∙ append-nil front), ends.1)

-- the fault of an expression behind a sign is that of the operands
first_fault : {text : List ℕ} {sign other : InfixSign} {ts vs ws : List Token} (Goal : Type 0) → SpellsSign sign ts vs → SpellsSign other ts ws
    → ((d : PlainData) (r : List Token) → SpellsUnit text d vs r → Stops 0 r → Goal) → (d : PlainData) (us : List Token) → SpellsUnit text d ws us → Stops 0 us → Goal
first_fault Goal (a_sign h) (a_sign i) each d us a s = each d us a s

operands_fault_here : {text : List ℕ} {sign : InfixSign} {os : List Operand} {ts vs r : List Token} (Goal : Type 0) → SpellsSign sign ts vs
    → ((d : PlainData) (r : List Token) → SpellsUnit text d vs r → Stops 0 r → Goal) → SpellsOperands text os ts r → Stops 11 r → Goal
operands_fault_here Goal h each operands_end s = absurd (no_end h s)
operands_fault_here Goal h each (operands_more {d = d} {us = us} i a b) s = first_fault Goal h i each d us a (operand_stops b s)

pub operands_fault : {text : List ℕ} {tokens rest vs : List Token} {front : List Operand} {sign : InfixSign} (Goal : Type 0) → OperandsLeft text tokens front rest → SpellsSign sign rest vs
    → ((d : PlainData) (r : List Token) → SpellsUnit text d vs r → Stops 0 r → Goal) → (os : List Operand) (r : List Token) → SpellsOperands text os tokens r → Stops 11 r → Goal
operands_fault Goal left h each os r a s = operands_fault_here Goal h each (left.only os r a s).2 s

-- An expression, with its signs of all levels in one row.
record Flat (text : List ℕ) (ts r : List Token) : Type 0 where
  pub first : PlainData
  pub further : List Operand
  pub between : List Token
  pub unit : SpellsUnit text first ts between
  pub operands : SpellsOperands text further between r

flat_on : {text : List ℕ} {ps : List Operand} {ts us r : List Token} → Flat text ts us → SpellsOperands text ps us r → Flat text ts r
flat_on {ps = ps} f b = record { first = f.first; further = f.further ++ ps; between = f.between; unit = f.unit; operands = operands_join f.operands b }

flat_behind : {text : List ℕ} {t : Token} {sign : InfixSign} {ps : List Operand} {ts us r : List Token} → infix_of t.kind ≡ Some sign → Flat text ts us → SpellsOperands text ps us r
    → (os : List Operand) × SpellsOperands text os (t ∷ ts) r
flat_behind {sign = sign} {ps = ps} h f b = ((sign, f.first) ∷ (f.further ++ ps), operands_more (a_sign h) f.unit (operands_join f.operands b))

mutual
  flat_level : {text : List ℕ} {k : ℕ} {d : PlainData} {ts r : List Token} → SpellsLevel text k d ts r → Flat text ts r
  flat_level (level_unit {d = d} {r = r} u) = record { first = d; further = []; between = r; unit = u; operands = operands_end }
  flat_level (level_chain a b) = flat_on (flat_level a) (flat_tail b).1

  flat_tail : {text : List ℕ} {k : ℕ} {os : List Operand} {us r : List Token} → SpellsTail text k os us r → (ps : List Operand) × SpellsOperands text ps us r
  flat_tail tail_end = ([], operands_end)
  flat_tail (tail_more h i a b) = flat_behind h (flat_level a) (flat_tail b).1

-- The faults of an expression's parts are those of the whole.
pub first_unit_fault : {text : List ℕ} {ts : List Token} (Goal : Type 0) → ((d : PlainData) (r : List Token) → SpellsUnit text d ts r → Stops 0 r → Goal)
    → (d : PlainData) (r : List Token) → SpellsData text d ts r → Stops 11 r → Goal
first_unit_fault Goal each d r l s = let f = flat_level l in each f.first f.between f.unit (operand_stops f.operands s)

operands_at : {text : List ℕ} {os : List Operand} {ts us r : List Token} → us ≡ ts → SpellsOperands text os ts r → SpellsOperands text os us r
operands_at e a = rw e a

pub further_fault : {text : List ℕ} {ts us : List Token} {a : PlainData} (Goal : Type 0) → OnlyUnit text a ts us
    → ((os : List Operand) (r : List Token) → SpellsOperands text os us r → Stops 11 r → Goal) → (d : PlainData) (r : List Token) → SpellsData text d ts r → Stops 11 r → Goal
further_fault Goal only each d r l s =
    let f = flat_level l in
    let same = only f.first f.between f.unit (operand_stops f.operands s) in
    each f.further r (operands_at same.1 f.operands) s

-- the expression that was found is the only one
pub data_only : {text : List ℕ} {ts us ws : List Token} {a x : PlainData} {os : List Operand} → OnlyUnit text a ts us
    → ((ps : List Operand) (r : List Token) → SpellsOperands text ps us r → Stops 11 r → (os ≡ ps) × (ws ≡ r)) → SpellsData text x ts ws → OnlyData text x ts ws
data_only only each found d r l s =
    let f = flat_level l in
    let same = only f.first f.between f.unit (operand_stops f.operands s) in
    let ends = each f.further r (operands_at same.1 f.operands) s in
    level_once found l (subst (λ (x : List Token). Stops 11 x) (sym ends.1) s) s
