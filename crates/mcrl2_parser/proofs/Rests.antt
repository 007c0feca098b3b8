-- What is spelled leaves a rest of the tokens, and closes the brackets that it opens.
use Rattle.std.proofs.Common.{◌≡◌, ℕ, Bool, List, ◌∷◌, Some, drop, refl, ap, ◌∙◌}
use Rattle.mcrl2_lexer.specs.declared.kind.Kind.{Kind}
use Rattle.mcrl2_lexer.specs.declared.kind.Kind.TheVariants.{LeftParen, RightParen, LeftBracket, RightBracket, LeftBrace, RightBrace, Comma}
use Rattle.mcrl2_lexer.specs.declared.token.Token.{Token}
use Rattle.mcrl2_syntax.specs.declared.data_tree.PrefixSign.{PrefixSign}
use Rattle.mcrl2_syntax.specs.declared.data_tree.InfixSign.{InfixSign}
use Rattle.mcrl2_syntax.specs.Words.{PlainWord}
use Rattle.mcrl2_syntax.specs.SortTrees.{PlainSort}
use Rattle.mcrl2_syntax.specs.DataTrees.{PlainData, Operand}
use Rattle.mcrl2_syntax.specs.ProcessParts.{PlainAction, PlainAssignment, PlainNameSet, PlainRenaming, PlainCommRule, PlainVarGroup}
use Rattle.mcrl2_syntax.specs.ProcessTrees.{PlainProcess}
use Rattle.mcrl2_syntax.specs.InfixSigns.{prefix_of, infix_of}
use Rattle.mcrl2_syntax.specs.SpelledWords.{SpellsName, a_name, SpellsList, last_item, more_items, SpellsBraces, no_items, some_items}
use Rattle.mcrl2_syntax.specs.SpelledSorts.{SpellsSort, spells_bool, spells_pos, spells_nat, spells_int, spells_list, spells_named_sort, spells_brackets_sort}
use Rattle.mcrl2_syntax.specs.SpelledData.{SpellsUnit, unit_name, unit_numeral, unit_true, unit_false, unit_empty, unit_list, unit_apply, unit_brackets, unit_prefix, SpellsItems, items_last, items_more, SpellsLevel, level_unit, level_chain, SpellsTail, tail_end, tail_more}
use Rattle.mcrl2_syntax.specs.SpelledLabels.{SpellsAction, action_tau, action_name, action_applied, SpellsAssignment, assignment, SpellsCall, call_empty, call_assigns, SpellsNameSet, names_at_once, SpellsRenaming, renaming, SpellsCommRule, communication, SpellsVarGroup, variables, SpellsVars, Operation, SpellsOperation, spells_allow, spells_block, spells_hide, spells_rename, spells_comm}
use Rattle.mcrl2_syntax.specs.SpelledProcesses.{SpellsAtom, atom_delta, atom_action, atom_call, atom_brackets, atom_operator, SpellsMulti, multi_last, multi_more, SpellsOperand, operand_sum, operand_cond, operand_parts, SpellsDots, dots_end, dots_atom, dots_sum, dots_cond, SpellsSum, sum_over, SpellsCond, cond_then, cond_else, SpellsLeft, left_last, left_more, SpellsMerge, merge_last, merge_more, SpellsChoices, choices_last, choices_more}
use Rattle.mcrl2_parser.specs.declared.levels.Effect.{Effect}
use Rattle.mcrl2_parser.specs.declared.levels.Effect.TheVariants.{Opens, Closes}
use Rattle.mcrl2_parser.specs.Levels.{effect_of}
use Rattle.mcrl2_parser.specs.Arrows.{begins_arrow, with_closer, ends_of, IsRest, whole, behind}

pub rests_join : {us r ts : List Token} → IsRest us ts → IsRest r us → IsRest r ts
rests_join whole b = b
rests_join (behind a) b = behind (rests_join a b)

pub ends_step : (t : Token) (ts : List Token) → ends_of (t ∷ ts) ≡ with_closer (effect_of t.kind) (begins_arrow ts) (ends_of ts)
unfolding ends_of
ends_step t ts = refl

-- a front that closes the brackets that it opens
pub record Passes (ts r : List Token) : Type 0 where
  pub rest : IsRest r ts
  pub ends : ends_of ts ≡ ends_of r

-- a front that leaves one bracket open
record Enters (ts r : List Token) : Type 0 where
  rest : IsRest r ts
  ends : ends_of ts ≡ drop 1 (ends_of r)

-- no bracket
abbrev Flat : Kind → Type 0
Flat k = (arrow : Bool) (ends : List Bool) → with_closer (effect_of k) arrow ends ≡ ends

pass_none : {r : List Token} → Passes r r
pass_none = record { rest = whole; ends = refl }

pass_kind : (t : Token) (ts : List Token) → Flat t.kind → Passes (t ∷ ts) ts
pass_kind t ts flat = record { rest = behind whole; ends = ends_step t ts ∙ flat (begins_arrow ts) (ends_of ts) }

pass_one : (k : Kind) (t : Token) (ts : List Token) → t.kind ≡ k → Flat k → Passes (t ∷ ts) ts
pass_one k t ts h flat = pass_kind t ts (λ arrow ends. ap (λ (x : Kind). with_closer (effect_of x) arrow ends) h ∙ flat arrow ends)

pass_then : {ts us r : List Token} → Passes ts us → Passes us r → Passes ts r
pass_then a b = record { rest = rests_join a.rest b.rest; ends = a.ends ∙ b.ends }

open_step : (t : Token) (ts : List Token) → effect_of t.kind ≡ Opens → ends_of (t ∷ ts) ≡ drop 1 (ends_of ts)
open_step t ts h = ends_step t ts ∙ ap (λ (x : Effect). with_closer x (begins_arrow ts) (ends_of ts)) h

pub close_step : (t : Token) (ts : List Token) → effect_of t.kind ≡ Closes → ends_of (t ∷ ts) ≡ begins_arrow ts ∷ ends_of ts
close_step t ts h = ends_step t ts ∙ ap (λ (x : Effect). with_closer x (begins_arrow ts) (ends_of ts)) h

pass_enclosed : {ts r : List Token} (t v : Token) → effect_of t.kind ≡ Opens → Passes ts (v ∷ r) → effect_of v.kind ≡ Closes → Passes (t ∷ ts) r
pass_enclosed {ts = ts} {r = r} t v h a i = record {
  rest = behind (rests_join a.rest (behind whole));
  ends = open_step t ts h ∙ ap (λ (x : List Bool). drop 1 x) (a.ends ∙ close_step v r i);
}

enter : {ts r : List Token} (t u : Token) → Flat t.kind → effect_of u.kind ≡ Opens → Passes ts r → Enters (t ∷ u ∷ ts) r
enter {ts = ts} t u flat h a = record {
  rest = behind (behind a.rest);
  ends = (pass_kind t (u ∷ ts) flat).ends ∙ open_step u ts h ∙ ap (λ (x : List Bool). drop 1 x) a.ends;
}

leave : {ts us r : List Token} (v : Token) → Enters ts us → Passes us (v ∷ r) → effect_of v.kind ≡ Closes → Passes ts r
leave {r = r} v a b h = record {
  rest = rests_join a.rest (rests_join b.rest (behind whole));
  ends = a.ends ∙ ap (λ (x : List Bool). drop 1 x) (b.ends ∙ close_step v r h);
}

flat_prefix : (k : Kind) (sign : PrefixSign) → prefix_of k ≡ Some sign → Flat k
flat_prefix LeftParen sign e arrow ends = absurd cc
flat_prefix LeftBracket sign e arrow ends = absurd cc
flat_prefix LeftBrace sign e arrow ends = absurd cc
flat_prefix RightParen sign e arrow ends = absurd cc
flat_prefix RightBracket sign e arrow ends = absurd cc
flat_prefix RightBrace sign e arrow ends = absurd cc
flat_prefix _ sign e arrow ends = refl

flat_infix : (k : Kind) (sign : InfixSign) → infix_of k ≡ Some sign → Flat k
flat_infix LeftParen sign e arrow ends = absurd cc
flat_infix LeftBracket sign e arrow ends = absurd cc
flat_infix LeftBrace sign e arrow ends = absurd cc
flat_infix RightParen sign e arrow ends = absurd cc
flat_infix RightBracket sign e arrow ends = absurd cc
flat_infix RightBrace sign e arrow ends = absurd cc
flat_infix _ sign e arrow ends = refl

mutual
  pub unit_passes : {text : List ℕ} {d : PlainData} {ts r : List Token} → SpellsUnit text d ts r → Passes ts r
  unit_passes (unit_name {t = t} {r = r} h) = pass_one _ t r h (λ x y. refl)
  unit_passes (unit_numeral {t = t} {r = r} h) = pass_one _ t r h (λ x y. refl)
  unit_passes (unit_true {t = t} {r = r} h) = pass_one _ t r h (λ x y. refl)
  unit_passes (unit_false {t = t} {r = r} h) = pass_one _ t r h (λ x y. refl)
  unit_passes (unit_empty {t = t} {v = v} h i) = pass_enclosed t v (ap effect_of h) pass_none (ap effect_of i)
  unit_passes (unit_list {t = t} {v = v} h a i) = pass_enclosed t v (ap effect_of h) (items_passes a) (ap effect_of i)
  unit_passes (unit_apply {t = t} {u = u} {v = v} {ts = ts} h i a j) = pass_then (pass_one _ t (u ∷ ts) h (λ x y. refl)) (pass_enclosed u v (ap effect_of i) (items_passes a) (ap effect_of j))
  unit_passes (unit_brackets {t = t} {v = v} h a i) = pass_enclosed t v (ap effect_of h) (level_passes a) (ap effect_of i)
  unit_passes (unit_prefix {t = t} {sign = sign} {ts = ts} h a) = pass_then (pass_kind t ts (flat_prefix t.kind sign h)) (unit_passes a)

  pub items_passes : {text : List ℕ} {ds : List PlainData} {ts r : List Token} → SpellsItems text ds ts r → Passes ts r
  items_passes (items_last a) = level_passes a
  items_passes (items_more {v = v} {us = us} a h b) = pass_then (level_passes a) (pass_then (pass_one _ v us h (λ x y. refl)) (items_passes b))

  pub level_passes : {text : List ℕ} {k : ℕ} {d : PlainData} {ts r : List Token} → SpellsLevel text k d ts r → Passes ts r
  level_passes (level_unit a) = unit_passes a
  level_passes (level_chain a b) = pass_then (level_passes a) (tail_passes b)

  tail_passes : {text : List ℕ} {k : ℕ} {os : List Operand} {ts r : List Token} → SpellsTail text k os ts r → Passes ts r
  tail_passes tail_end = pass_none
  tail_passes (tail_more {sign = sign} {t = t} {ts = ts} h i a b) = pass_then (pass_kind t ts (flat_infix t.kind sign h)) (pass_then (level_passes a) (tail_passes b))

list_passes : {Item : Type 0} {spells : Item → List Token → List Token → Type 0} {separator : Kind} {xs : List Item} {ts r : List Token}
    → ((a : Item) (us v : List Token) → spells a us v → Passes us v) → Flat separator → SpellsList spells separator xs ts r → Passes ts r
list_passes {ts = ts} {r = r} each flat (last_item {item = x} a) = each x ts r a
list_passes {separator = separator} {ts = ts} each flat (more_items {item = x} {sign = v} {us = us} a h b) = pass_then (each x ts (v ∷ us) a) (pass_then (pass_one separator v us h flat) (list_passes each flat b))

braces_pass : {Item : Type 0} {spells : Item → List Token → List Token → Type 0} {xs : List Item} {ts r : List Token}
    → ((a : Item) (us v : List Token) → spells a us v → Passes us v) → SpellsBraces spells xs ts r → Passes ts r
braces_pass each (no_items {t = t} {v = v} h i) = pass_enclosed t v (ap effect_of h) pass_none (ap effect_of i)
braces_pass each (some_items {t = t} {v = v} h a i) = pass_enclosed t v (ap effect_of h) (list_passes each (λ x y. refl) a) (ap effect_of i)

name_passes : {text : List ℕ} (a : PlainWord) (us v : List Token) → SpellsName text a us v → Passes us v
name_passes a us v (a_name {t = t} {r = r} h) = pass_one _ t r h (λ x y. refl)

sort_passes : {text : List ℕ} {s : PlainSort} {ts r : List Token} → SpellsSort text s ts r → Passes ts r
sort_passes (spells_bool {t = t} {r = r} h) = pass_one _ t r h (λ x y. refl)
sort_passes (spells_pos {t = t} {r = r} h) = pass_one _ t r h (λ x y. refl)
sort_passes (spells_nat {t = t} {r = r} h) = pass_one _ t r h (λ x y. refl)
sort_passes (spells_int {t = t} {r = r} h) = pass_one _ t r h (λ x y. refl)
sort_passes (spells_list {t = t} {u = u} {v = v} {ts = ts} h i a j) = pass_then (pass_one _ t (u ∷ ts) h (λ x y. refl)) (pass_enclosed u v (ap effect_of i) (sort_passes a) (ap effect_of j))
sort_passes (spells_named_sort {t = t} {r = r} h) = pass_one _ t r h (λ x y. refl)
sort_passes (spells_brackets_sort {t = t} {v = v} h a j) = pass_enclosed t v (ap effect_of h) (sort_passes a) (ap effect_of j)

pub action_passes : {text : List ℕ} (a : PlainAction) (us v : List Token) → SpellsAction text a us v → Passes us v
action_passes a us v (action_tau {t = t} {r = r} h) = pass_one _ t r h (λ x y. refl)
action_passes a us v (action_name {t = t} {r = r} h) = pass_one _ t r h (λ x y. refl)
action_passes a us v (action_applied {t = t} {u = u} {v = w} {ts = ts} h i b j) = pass_then (pass_one _ t (u ∷ ts) h (λ x y. refl)) (pass_enclosed u w (ap effect_of i) (items_passes b) (ap effect_of j))

assignment_passes : {text : List ℕ} (a : PlainAssignment) (us v : List Token) → SpellsAssignment text a us v → Passes us v
assignment_passes a us v (assignment {t = t} {e = e} {ts = ts} h i b) = pass_then (pass_one _ t (e ∷ ts) h (λ x y. refl)) (pass_then (pass_one _ e ts i (λ x y. refl)) (level_passes b))

pub assignments_pass : {text : List ℕ} {xs : List PlainAssignment} {ts r : List Token} → SpellsList (SpellsAssignment text) Comma xs ts r → Passes ts r
assignments_pass a = list_passes assignment_passes (λ x y. refl) a

call_passes : {text : List ℕ} {p : PlainProcess} {ts r : List Token} → SpellsCall text p ts r → Passes ts r
call_passes (call_empty {t = t} {u = u} {v = v} {r = r} h i j) = pass_then (pass_one _ t (u ∷ v ∷ r) h (λ x y. refl)) (pass_enclosed u v (ap effect_of i) pass_none (ap effect_of j))
call_passes (call_assigns {t = t} {u = u} {v = v} {ts = ts} h i a j) = pass_then (pass_one _ t (u ∷ ts) h (λ x y. refl)) (pass_enclosed u v (ap effect_of i) (assignments_pass a) (ap effect_of j))

name_set_passes : {text : List ℕ} (a : PlainNameSet) (us v : List Token) → SpellsNameSet text a us v → Passes us v
name_set_passes a us v (names_at_once b) = list_passes name_passes (λ x y. refl) b

renaming_passes : {text : List ℕ} (a : PlainRenaming) (us v : List Token) → SpellsRenaming text a us v → Passes us v
renaming_passes x us v (renaming {t = t} {a = a} {u = u} {r = r} h i j) = pass_then (pass_one _ t (a ∷ u ∷ r) h (λ x y. refl)) (pass_then (pass_one _ a (u ∷ r) i (λ x y. refl)) (pass_one _ u r j (λ x y. refl)))

comm_rule_passes : {text : List ℕ} (a : PlainCommRule) (us v : List Token) → SpellsCommRule text a us v → Passes us v
comm_rule_passes x us v (communication {t = t} {b = b} {a = a} {u = u} {ts = ts} {r = r} h i c j k) =
    pass_then (pass_one _ t (b ∷ ts) h (λ x y. refl)) (pass_then (pass_one _ b ts i (λ x y. refl)) (pass_then (list_passes name_passes (λ x y. refl) c)
    (pass_then (pass_one _ a (u ∷ r) j (λ x y. refl)) (pass_one _ u r k (λ x y. refl)))))

var_group_passes : {text : List ℕ} (a : PlainVarGroup) (us v : List Token) → SpellsVarGroup text a us v → Passes us v
var_group_passes x us v (variables {c = c} {us = ws} a h b) = pass_then (list_passes name_passes (λ x y. refl) a) (pass_then (pass_one _ c ws h (λ x y. refl)) (sort_passes b))

pub vars_pass : {text : List ℕ} {gs : List PlainVarGroup} {ts r : List Token} → SpellsVars text gs ts r → Passes ts r
vars_pass a = list_passes var_group_passes (λ x y. refl) a

entered : {Item : Type 0} {spells : Item → List Token → List Token → Type 0} {xs : List Item} {t u c : Token} {ts r : List Token} (k : Kind) → ((a : Item) (us v : List Token) → spells a us v → Passes us v)
    → t.kind ≡ k → Flat k → u.kind ≡ LeftParen → SpellsBraces spells xs ts (c ∷ r) → c.kind ≡ Comma → Enters (t ∷ u ∷ ts) r
entered {t = t} {u = u} {c = c} {r = r} k each h flat i a j =
    enter t u (λ x y. ap (λ (z : Kind). with_closer (effect_of z) x y) h ∙ flat x y) (ap effect_of i) (pass_then (braces_pass each a) (pass_one _ c r j (λ x y. refl)))

operation_enters : {text : List ℕ} {o : Operation} {ts r : List Token} → SpellsOperation text o ts r → Enters ts r
operation_enters (spells_allow h i a j) = entered _ name_set_passes h (λ x y. refl) i a j
operation_enters (spells_block h i a j) = entered _ name_passes h (λ x y. refl) i a j
operation_enters (spells_hide h i a j) = entered _ name_passes h (λ x y. refl) i a j
operation_enters (spells_rename h i a j) = entered _ renaming_passes h (λ x y. refl) i a j
operation_enters (spells_comm h i a j) = entered _ comm_rule_passes h (λ x y. refl) i a j

pub operation_rest : {text : List ℕ} {o : Operation} {ts r : List Token} → SpellsOperation text o ts r → IsRest r ts
operation_rest a = (operation_enters a).rest

mutual
  pub atom_passes : {text : List ℕ} {p : PlainProcess} {ts r : List Token} → SpellsAtom text p ts r → Passes ts r
  atom_passes (atom_delta {t = t} {r = r} h) = pass_one _ t r h (λ x y. refl)
  atom_passes {ts = ts} {r = r} (atom_action {a = x} a) = action_passes x ts r a
  atom_passes (atom_call a) = call_passes a
  atom_passes (atom_brackets {t = t} {v = v} h a i) = pass_enclosed t v (ap effect_of h) (choices_pass a) (ap effect_of i)
  atom_passes (atom_operator {v = v} a b i) = leave v (operation_enters a) (choices_pass b) (ap effect_of i)

  pub multi_passes : {text : List ℕ} {ps : List PlainProcess} {ts r : List Token} → SpellsMulti text ps ts r → Passes ts r
  multi_passes (multi_last a) = atom_passes a
  multi_passes (multi_more {b = b} {us = us} a h c) = pass_then (atom_passes a) (pass_then (pass_one _ b us h (λ x y. refl)) (multi_passes c))

  pub operand_passes : {text : List ℕ} {s o : Bool} {p : PlainProcess} {ts r : List Token} → SpellsOperand text s o p ts r → Passes ts r
  operand_passes (operand_sum a) = sum_passes a
  operand_passes (operand_cond a) = cond_passes a
  operand_passes (operand_parts a b) = pass_then (multi_passes a) (dots_pass b)

  dots_pass : {text : List ℕ} {s o : Bool} {ps : List PlainProcess} {ts r : List Token} → SpellsDots text s o ps ts r → Passes ts r
  dots_pass dots_end = pass_none
  dots_pass (dots_atom {t = t} {ts = ts} h a b) = pass_then (pass_one _ t ts h (λ x y. refl)) (pass_then (multi_passes a) (dots_pass b))
  dots_pass (dots_sum {t = t} {ts = ts} h a) = pass_then (pass_one _ t ts h (λ x y. refl)) (sum_passes a)
  dots_pass (dots_cond {t = t} {ts = ts} h a) = pass_then (pass_one _ t ts h (λ x y. refl)) (cond_passes a)

  pub sum_passes : {text : List ℕ} {o : Bool} {p : PlainProcess} {ts r : List Token} → SpellsSum text o p ts r → Passes ts r
  sum_passes (sum_over {t = t} {y = y} {ts = ts} {us = us} h a i b) = pass_then (pass_one _ t ts h (λ x y. refl)) (pass_then (vars_pass a) (pass_then (pass_one _ y us i (λ x y. refl)) (merge_passes b)))

  pub cond_passes : {text : List ℕ} {s o : Bool} {p : PlainProcess} {ts r : List Token} → SpellsCond text s o p ts r → Passes ts r
  cond_passes (cond_then {a = t} {us = us} a h b) = pass_then (unit_passes a) (pass_then (pass_one _ t us h (λ x y. refl)) (operand_passes b))
  cond_passes (cond_else {a = t} {e = e} {us = us} {vs = vs} a h b k c) =
      pass_then (unit_passes a) (pass_then (pass_one _ t us h (λ x y. refl)) (pass_then (operand_passes b) (pass_then (pass_one _ e vs k (λ x y. refl)) (operand_passes c))))

  pub left_passes : {text : List ℕ} {s o : Bool} {p : PlainProcess} {ts r : List Token} → SpellsLeft text s o p ts r → Passes ts r
  left_passes (left_last a) = operand_passes a
  left_passes (left_more {b = b} {us = us} a h c) = pass_then (operand_passes a) (pass_then (pass_one _ b us h (λ x y. refl)) (left_passes c))

  pub merge_passes : {text : List ℕ} {o : Bool} {ps : List PlainProcess} {ts r : List Token} → SpellsMerge text o ps ts r → Passes ts r
  merge_passes (merge_last a) = left_passes a
  merge_passes (merge_more {b = b} {us = us} a h c) = pass_then (left_passes a) (pass_then (pass_one _ b us h (λ x y. refl)) (merge_passes c))

  pub choices_pass : {text : List ℕ} {ps : List PlainProcess} {ts r : List Token} → SpellsChoices text ps ts r → Passes ts r
  choices_pass (choices_last a) = merge_passes a
  choices_pass (choices_more {b = b} {us = us} a h c) = pass_then (merge_passes a) (pass_then (pass_one _ b us h (λ x y. refl)) (choices_pass c))
