-- What is spelled is balanced: where a closing bracket stands doesn't depend on how the tokens before it are read.
use Rattle.std.proofs.Common.{◌≡◌, ℕ, zero, suc, Bool, List, [], ◌∷◌, Option, None, Some, refl, ap, ◌∙◌}
use Rattle.mcrl2_lexer.specs.declared.kind.Kind.{Kind}
use Rattle.mcrl2_lexer.specs.declared.kind.Kind.TheVariants.{LeftParen, RightParen, LeftBracket, RightBracket, LeftBrace, RightBrace}
use Rattle.mcrl2_lexer.specs.declared.token.Token.{Token}
use Rattle.mcrl2_syntax.specs.declared.data_tree.PrefixSign.{PrefixSign}
use Rattle.mcrl2_syntax.specs.declared.data_tree.InfixSign.{InfixSign}
use Rattle.mcrl2_syntax.specs.Words.{PlainWord}
use Rattle.mcrl2_syntax.specs.SortTrees.{PlainSort}
use Rattle.mcrl2_syntax.specs.DataTrees.{PlainData, Operand}
use Rattle.mcrl2_syntax.specs.ProcessParts.{PlainAction, PlainAssignment, PlainNameSet, PlainRenaming, PlainCommRule, PlainVarGroup}
use Rattle.mcrl2_syntax.specs.ProcessTrees.{PlainProcess}
use Rattle.mcrl2_syntax.specs.InfixSigns.{prefix_of, infix_of}
use Rattle.mcrl2_syntax.specs.SpelledWords.{SpellsName, a_name, SpellsList, last_item, more_items, SpellsBraces, no_items, some_items}
use Rattle.mcrl2_syntax.specs.SpelledSorts.{SpellsSort, spells_bool, spells_pos, spells_nat, spells_int, spells_list, spells_named_sort, spells_brackets_sort}
use Rattle.mcrl2_syntax.specs.SpelledData.{SpellsUnit, unit_name, unit_numeral, unit_true, unit_false, unit_empty, unit_list, unit_apply, unit_brackets, unit_prefix, SpellsItems, items_last, items_more, SpellsLevel, level_unit, level_chain, SpellsTail, tail_end, tail_more}
use Rattle.mcrl2_syntax.specs.SpelledLabels.{SpellsAction, action_tau, action_name, action_applied, SpellsAssignment, assignment, SpellsCall, call_empty, call_assigns, SpellsNameSet, names_at_once, SpellsRenaming, renaming, SpellsCommRule, communication, SpellsVarGroup, variables, Operation, SpellsOperation, spells_allow, spells_block, spells_hide, spells_rename, spells_comm}
use Rattle.mcrl2_syntax.specs.SpelledProcesses.{SpellsAtom, atom_delta, atom_action, atom_call, atom_brackets, atom_operator, SpellsMulti, multi_last, multi_more, SpellsOperand, operand_sum, operand_cond, operand_parts, SpellsDots, dots_end, dots_atom, dots_sum, dots_cond, SpellsSum, sum_over, SpellsCond, cond_then, cond_else, SpellsLeft, left_last, left_more, SpellsMerge, merge_last, merge_more, SpellsChoices, choices_last, choices_more}

pub data Turn : Type 0 where
  opens : Turn
  closes : Turn
  neither : Turn

abbrev pub turn : Kind → Turn
turn LeftParen = opens
turn LeftBracket = opens
turn LeftBrace = opens
turn RightParen = closes
turn RightBracket = closes
turn RightBrace = closes
turn _ = neither

abbrev pub after_turn : Turn → ℕ → List Token → (ℕ → Option (List Token)) → Option (List Token)
after_turn opens d ts next = next (suc d)
after_turn closes zero ts next = Some ts
after_turn closes (suc d) ts next = next d
after_turn neither d ts next = next d

-- what stands behind the bracket that closes the d-th open one
abbrev pub past_close : List Token → ℕ → Option (List Token)
past_close [] d = None
past_close (t ∷ ts) d = after_turn (turn t.kind) d ts (past_close ts)

over : (t : Token) (ts : List Token) (d : ℕ) → turn t.kind ≡ neither → past_close (t ∷ ts) d ≡ past_close ts d
over t ts d e = ap (λ (x : Turn). after_turn x d ts (past_close ts)) e

up : (t : Token) (ts : List Token) (d : ℕ) → turn t.kind ≡ opens → past_close (t ∷ ts) d ≡ past_close ts (suc d)
up t ts d e = ap (λ (x : Turn). after_turn x d ts (past_close ts)) e

down : (t : Token) (ts : List Token) (d : ℕ) → turn t.kind ≡ closes → past_close (t ∷ ts) (suc d) ≡ past_close ts d
down t ts d e = ap (λ (x : Turn). after_turn x (suc d) ts (past_close ts)) e

pub at_close : (t : Token) (ts : List Token) → t.kind ≡ RightParen → past_close (t ∷ ts) zero ≡ Some ts
at_close t ts e = ap (λ (x : Kind). after_turn (turn x) zero ts (past_close ts)) e

turn_prefix : (k : Kind) (sign : PrefixSign) → prefix_of k ≡ Some sign → turn k ≡ neither
turn_prefix LeftParen sign e = absurd cc
turn_prefix LeftBracket sign e = absurd cc
turn_prefix LeftBrace sign e = absurd cc
turn_prefix RightParen sign e = absurd cc
turn_prefix RightBracket sign e = absurd cc
turn_prefix RightBrace sign e = absurd cc
turn_prefix _ sign e = refl

turn_sign : (k : Kind) (sign : InfixSign) → infix_of k ≡ Some sign → turn k ≡ neither
turn_sign LeftParen sign e = absurd cc
turn_sign LeftBracket sign e = absurd cc
turn_sign LeftBrace sign e = absurd cc
turn_sign RightParen sign e = absurd cc
turn_sign RightBracket sign e = absurd cc
turn_sign RightBrace sign e = absurd cc
turn_sign _ sign e = refl

-- where the tokens between are balanced
abbrev pub Balanced : List Token → List Token → Type 0
Balanced ts r = (n : ℕ) → past_close ts n ≡ past_close r n

mutual
  pub unit_balanced : {text : List ℕ} {d : PlainData} {ts r : List Token} → SpellsUnit text d ts r → Balanced ts r
  unit_balanced (unit_name {t = t} {r = r} h) n = over t r n (ap turn h)
  unit_balanced (unit_numeral {t = t} {r = r} h) n = over t r n (ap turn h)
  unit_balanced (unit_true {t = t} {r = r} h) n = over t r n (ap turn h)
  unit_balanced (unit_false {t = t} {r = r} h) n = over t r n (ap turn h)
  unit_balanced (unit_empty {t = t} {v = v} {r = r} h i) n = up t (v ∷ r) n (ap turn h) ∙ down v r n (ap turn i)
  unit_balanced (unit_list {t = t} {v = v} {ts = ts} {r = r} h a i) n = up t ts n (ap turn h) ∙ items_balanced a (suc n) ∙ down v r n (ap turn i)
  unit_balanced (unit_apply {t = t} {u = u} {v = v} {ts = ts} {r = r} h i a j) n = over t (u ∷ ts) n (ap turn h) ∙ up u ts n (ap turn i) ∙ items_balanced a (suc n) ∙ down v r n (ap turn j)
  unit_balanced (unit_brackets {t = t} {v = v} {ts = ts} {r = r} h a i) n = up t ts n (ap turn h) ∙ level_balanced a (suc n) ∙ down v r n (ap turn i)
  unit_balanced (unit_prefix {t = t} {sign = sign} {ts = ts} h a) n = over t ts n (turn_prefix t.kind sign h) ∙ unit_balanced a n

  pub items_balanced : {text : List ℕ} {ds : List PlainData} {ts r : List Token} → SpellsItems text ds ts r → Balanced ts r
  items_balanced (items_last a) n = level_balanced a n
  items_balanced (items_more {v = v} {us = us} a h b) n = level_balanced a n ∙ over v us n (ap turn h) ∙ items_balanced b n

  pub level_balanced : {text : List ℕ} {k : ℕ} {d : PlainData} {ts r : List Token} → SpellsLevel text k d ts r → Balanced ts r
  level_balanced (level_unit a) n = unit_balanced a n
  level_balanced (level_chain a b) n = level_balanced a n ∙ tail_balanced b n

  tail_balanced : {text : List ℕ} {k : ℕ} {os : List Operand} {ts r : List Token} → SpellsTail text k os ts r → Balanced ts r
  tail_balanced tail_end n = refl
  tail_balanced (tail_more {sign = sign} {t = t} {ts = ts} h i a b) n = over t ts n (turn_sign t.kind sign h) ∙ level_balanced a n ∙ tail_balanced b n

list_balanced : {Item : Type 0} {spells : Item → List Token → List Token → Type 0} {separator : Kind} {xs : List Item} {ts r : List Token}
    → ((a : Item) (us v : List Token) → spells a us v → Balanced us v) → turn separator ≡ neither → SpellsList spells separator xs ts r → Balanced ts r
list_balanced {ts = ts} {r = r} each flat (last_item {item = x} a) n = each x ts r a n
list_balanced {ts = ts} each flat (more_items {item = x} {sign = v} {us = us} a h b) n = each x ts (v ∷ us) a n ∙ over v us n (ap turn h ∙ flat) ∙ list_balanced each flat b n

braces_balanced : {Item : Type 0} {spells : Item → List Token → List Token → Type 0} {xs : List Item} {ts r : List Token}
    → ((a : Item) (us v : List Token) → spells a us v → Balanced us v) → SpellsBraces spells xs ts r → Balanced ts r
braces_balanced each (no_items {t = t} {v = v} {r = r} h i) n = up t (v ∷ r) n (ap turn h) ∙ down v r n (ap turn i)
braces_balanced each (some_items {t = t} {v = v} {ts = ts} {r = r} h a i) n = up t ts n (ap turn h) ∙ list_balanced each refl a (suc n) ∙ down v r n (ap turn i)

name_balanced : {text : List ℕ} (a : PlainWord) (us v : List Token) → SpellsName text a us v → Balanced us v
name_balanced a us v (a_name {t = t} {r = r} h) n = over t r n (ap turn h)

sort_balanced : {text : List ℕ} {s : PlainSort} {ts r : List Token} → SpellsSort text s ts r → Balanced ts r
sort_balanced (spells_bool {t = t} {r = r} h) n = over t r n (ap turn h)
sort_balanced (spells_pos {t = t} {r = r} h) n = over t r n (ap turn h)
sort_balanced (spells_nat {t = t} {r = r} h) n = over t r n (ap turn h)
sort_balanced (spells_int {t = t} {r = r} h) n = over t r n (ap turn h)
sort_balanced (spells_list {t = t} {u = u} {v = v} {ts = ts} {r = r} h i a j) n = over t (u ∷ ts) n (ap turn h) ∙ up u ts n (ap turn i) ∙ sort_balanced a (suc n) ∙ down v r n (ap turn j)
sort_balanced (spells_named_sort {t = t} {r = r} h) n = over t r n (ap turn h)
sort_balanced (spells_brackets_sort {t = t} {v = v} {ts = ts} {r = r} h a j) n = up t ts n (ap turn h) ∙ sort_balanced a (suc n) ∙ down v r n (ap turn j)

action_balanced : {text : List ℕ} (a : PlainAction) (us v : List Token) → SpellsAction text a us v → Balanced us v
action_balanced a us v (action_tau {t = t} {r = r} h) n = over t r n (ap turn h)
action_balanced a us v (action_name {t = t} {r = r} h) n = over t r n (ap turn h)
action_balanced a us v (action_applied {t = t} {u = u} {v = w} {ts = ts} {r = r} h i b j) n = over t (u ∷ ts) n (ap turn h) ∙ up u ts n (ap turn i) ∙ items_balanced b (suc n) ∙ down w r n (ap turn j)

assignment_balanced : {text : List ℕ} (a : PlainAssignment) (us v : List Token) → SpellsAssignment text a us v → Balanced us v
assignment_balanced a us v (assignment {t = t} {e = e} {ts = ts} h i b) n = over t (e ∷ ts) n (ap turn h) ∙ over e ts n (ap turn i) ∙ level_balanced b n

call_balanced : {text : List ℕ} {p : PlainProcess} {ts r : List Token} → SpellsCall text p ts r → Balanced ts r
call_balanced (call_empty {t = t} {u = u} {v = v} {r = r} h i j) n = over t (u ∷ v ∷ r) n (ap turn h) ∙ up u (v ∷ r) n (ap turn i) ∙ down v r n (ap turn j)
call_balanced (call_assigns {t = t} {u = u} {v = v} {ts = ts} {r = r} h i a j) n =
    over t (u ∷ ts) n (ap turn h) ∙ up u ts n (ap turn i) ∙ list_balanced assignment_balanced refl a (suc n) ∙ down v r n (ap turn j)

name_set_balanced : {text : List ℕ} (a : PlainNameSet) (us v : List Token) → SpellsNameSet text a us v → Balanced us v
name_set_balanced a us v (names_at_once b) n = list_balanced name_balanced refl b n

renaming_balanced : {text : List ℕ} (a : PlainRenaming) (us v : List Token) → SpellsRenaming text a us v → Balanced us v
renaming_balanced x us v (renaming {t = t} {a = a} {u = u} {r = r} h i j) n = over t (a ∷ u ∷ r) n (ap turn h) ∙ over a (u ∷ r) n (ap turn i) ∙ over u r n (ap turn j)

comm_rule_balanced : {text : List ℕ} (a : PlainCommRule) (us v : List Token) → SpellsCommRule text a us v → Balanced us v
comm_rule_balanced x us v (communication {t = t} {b = b} {a = a} {u = u} {ts = ts} {r = r} h i c j k) n =
    over t (b ∷ ts) n (ap turn h) ∙ over b ts n (ap turn i) ∙ list_balanced name_balanced refl c n ∙ over a (u ∷ r) n (ap turn j) ∙ over u r n (ap turn k)

var_group_balanced : {text : List ℕ} (a : PlainVarGroup) (us v : List Token) → SpellsVarGroup text a us v → Balanced us v
var_group_balanced x us v (variables {c = c} {us = ws} a h b) n = list_balanced name_balanced refl a n ∙ over c ws n (ap turn h) ∙ sort_balanced b n

-- the operator's bracket is still open
operation_balanced : {text : List ℕ} {o : Operation} {ts r : List Token} → SpellsOperation text o ts r → (n : ℕ) → past_close ts n ≡ past_close r (suc n)
operation_balanced (spells_allow {t = t} {u = u} {c = c} {ts = ts} {r = r} h i a j) n =
    over t (u ∷ ts) n (ap turn h) ∙ up u ts n (ap turn i) ∙ braces_balanced name_set_balanced a (suc n) ∙ over c r (suc n) (ap turn j)
operation_balanced (spells_block {t = t} {u = u} {c = c} {ts = ts} {r = r} h i a j) n =
    over t (u ∷ ts) n (ap turn h) ∙ up u ts n (ap turn i) ∙ braces_balanced name_balanced a (suc n) ∙ over c r (suc n) (ap turn j)
operation_balanced (spells_hide {t = t} {u = u} {c = c} {ts = ts} {r = r} h i a j) n =
    over t (u ∷ ts) n (ap turn h) ∙ up u ts n (ap turn i) ∙ braces_balanced name_balanced a (suc n) ∙ over c r (suc n) (ap turn j)
operation_balanced (spells_rename {t = t} {u = u} {c = c} {ts = ts} {r = r} h i a j) n =
    over t (u ∷ ts) n (ap turn h) ∙ up u ts n (ap turn i) ∙ braces_balanced renaming_balanced a (suc n) ∙ over c r (suc n) (ap turn j)
operation_balanced (spells_comm {t = t} {u = u} {c = c} {ts = ts} {r = r} h i a j) n =
    over t (u ∷ ts) n (ap turn h) ∙ up u ts n (ap turn i) ∙ braces_balanced comm_rule_balanced a (suc n) ∙ over c r (suc n) (ap turn j)

mutual
  atom_balanced : {text : List ℕ} {p : PlainProcess} {ts r : List Token} → SpellsAtom text p ts r → Balanced ts r
  atom_balanced (atom_delta {t = t} {r = r} h) n = over t r n (ap turn h)
  atom_balanced {ts = ts} {r = r} (atom_action {a = x} a) n = action_balanced x ts r a n
  atom_balanced (atom_call a) n = call_balanced a n
  atom_balanced (atom_brackets {t = t} {v = v} {ts = ts} {r = r} h a i) n = up t ts n (ap turn h) ∙ choices_balanced a (suc n) ∙ down v r n (ap turn i)
  atom_balanced (atom_operator {v = v} {r = r} a b i) n = operation_balanced a n ∙ choices_balanced b (suc n) ∙ down v r n (ap turn i)

  multi_balanced : {text : List ℕ} {ps : List PlainProcess} {ts r : List Token} → SpellsMulti text ps ts r → Balanced ts r
  multi_balanced (multi_last a) n = atom_balanced a n
  multi_balanced (multi_more {b = b} {us = us} a h c) n = atom_balanced a n ∙ over b us n (ap turn h) ∙ multi_balanced c n

  operand_balanced : {text : List ℕ} {s o : Bool} {p : PlainProcess} {ts r : List Token} → SpellsOperand text s o p ts r → Balanced ts r
  operand_balanced (operand_sum a) n = sum_balanced a n
  operand_balanced (operand_cond a) n = cond_balanced a n
  operand_balanced (operand_parts a b) n = multi_balanced a n ∙ dots_balanced b n

  dots_balanced : {text : List ℕ} {s o : Bool} {ps : List PlainProcess} {ts r : List Token} → SpellsDots text s o ps ts r → Balanced ts r
  dots_balanced dots_end n = refl
  dots_balanced (dots_atom {t = t} {ts = ts} h a b) n = over t ts n (ap turn h) ∙ multi_balanced a n ∙ dots_balanced b n
  dots_balanced (dots_sum {t = t} {ts = ts} h a) n = over t ts n (ap turn h) ∙ sum_balanced a n
  dots_balanced (dots_cond {t = t} {ts = ts} h a) n = over t ts n (ap turn h) ∙ cond_balanced a n

  sum_balanced : {text : List ℕ} {o : Bool} {p : PlainProcess} {ts r : List Token} → SpellsSum text o p ts r → Balanced ts r
  sum_balanced (sum_over {t = t} {y = y} {ts = ts} {us = us} h a i b) n = over t ts n (ap turn h) ∙ list_balanced var_group_balanced refl a n ∙ over y us n (ap turn i) ∙ merge_balanced b n

  cond_balanced : {text : List ℕ} {s o : Bool} {p : PlainProcess} {ts r : List Token} → SpellsCond text s o p ts r → Balanced ts r
  cond_balanced (cond_then {a = t} {us = us} a h b) n = unit_balanced a n ∙ over t us n (ap turn h) ∙ operand_balanced b n
  cond_balanced (cond_else {a = t} {e = e} {us = us} {vs = vs} a h b k c) n = unit_balanced a n ∙ over t us n (ap turn h) ∙ operand_balanced b n ∙ over e vs n (ap turn k) ∙ operand_balanced c n

  left_balanced : {text : List ℕ} {s o : Bool} {p : PlainProcess} {ts r : List Token} → SpellsLeft text s o p ts r → Balanced ts r
  left_balanced (left_last a) n = operand_balanced a n
  left_balanced (left_more {b = b} {us = us} a h c) n = operand_balanced a n ∙ over b us n (ap turn h) ∙ left_balanced c n

  merge_balanced : {text : List ℕ} {o : Bool} {ps : List PlainProcess} {ts r : List Token} → SpellsMerge text o ps ts r → Balanced ts r
  merge_balanced (merge_last a) n = left_balanced a n
  merge_balanced (merge_more {b = b} {us = us} a h c) n = left_balanced a n ∙ over b us n (ap turn h) ∙ merge_balanced c n

  pub choices_balanced : {text : List ℕ} {ps : List PlainProcess} {ts r : List Token} → SpellsChoices text ps ts r → Balanced ts r
  choices_balanced (choices_last a) n = merge_balanced a n
  choices_balanced (choices_more {b = b} {us = us} a h c) n = merge_balanced a n ∙ over b us n (ap turn h) ∙ choices_balanced c n
