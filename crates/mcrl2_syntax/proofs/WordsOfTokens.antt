-- What tokens spell is made of their words.
use Rattle.std.proofs.Common.{◌≡◌, ℕ, suc, Bool, true, false, List, [], ◌∷◌, Option, All, map, length, nat_eq, if◌then◌else◌, ◌-◌, take, drop, sym, subst, None, Some}
use Rattle.std.specs.Prelude.{option_map, IfSome}
use Rattle.std.specs.List.{AllByRecursion}
use Rattle.std.proofs.lemmas.List.Elements.{All-head, All-tail}
use Rattle.mcrl2_lexer.specs.declared.kind.Kind.{Kind}
use Rattle.mcrl2_lexer.specs.declared.kind.Kind.TheVariants.{Identifier, Numeral}
use Rattle.mcrl2_lexer.specs.declared.token.Token.{Token}
use Rattle.mcrl2_lexer.specs.Tokens.{IsToken, slice_of, IsAccepted}
use Rattle.mcrl2_lexer.specs.Lexing.{Lexes, nothing, after_space, after_comment, after_token, HasTokens}
use Rattle.mcrl2_syntax.specs.declared.word.Span.{Span}
use Rattle.mcrl2_syntax.specs.declared.declaration.SectionWord.{SectionWord}
use Rattle.mcrl2_syntax.specs.Words.{PlainWord}
use Rattle.mcrl2_syntax.specs.SortTrees.{PlainSort}
use Rattle.mcrl2_syntax.specs.DataTrees.{PlainData, Operand, datas_of, operands_of}
use Rattle.mcrl2_syntax.specs.ProcessTrees.{PlainProcess, acts, processes_of}
use Rattle.mcrl2_syntax.specs.ProcessParts.{PlainAction}
use Rattle.mcrl2_syntax.specs.Declarations.{PlainField, PlainDecl, PlainSection, PlainSpec}
use Rattle.mcrl2_syntax.specs.InfixSigns.{to_left, to_right, to_sum, to_product, to_and, to_or, joined_by, grouped}
use Rattle.mcrl2_syntax.specs.SpelledWords.{token_word, SpellsName, a_name, SpellsList, last_item, more_items, SpellsBraces, no_items, some_items}
use Rattle.mcrl2_syntax.specs.SpelledSorts.{SpellsSort, spells_bool, spells_pos, spells_nat, spells_int, spells_list, spells_named_sort, spells_brackets_sort}
use Rattle.mcrl2_syntax.specs.SpelledData.{SpellsUnit, unit_name, unit_numeral, unit_true, unit_false, unit_empty, unit_list, unit_apply, unit_brackets, unit_prefix, SpellsItems, items_last, items_more, SpellsLevel, level_unit, level_chain, SpellsTail, tail_end, tail_more}
use Rattle.mcrl2_syntax.specs.SpelledLabels.{SpellsAction, action_tau, action_name, action_applied, SpellsLabel, label_actions, SpellsAssignment, assignment, SpellsCall, call_empty, call_assigns, SpellsNameSet, names_at_once, SpellsRenaming, renaming, SpellsCommRule, communication, SpellsVarGroup, variables, Operation, allowing, blocking, hiding, renamed_by, communicating, operated, SpellsOperation, spells_allow, spells_block, spells_hide, spells_rename, spells_comm}
use Rattle.mcrl2_syntax.specs.SpelledProcesses.{sequenced, merged, chosen, all_acts, at_once, together, SpellsAtom, atom_delta, atom_action, atom_call, atom_brackets, atom_operator, SpellsMulti, multi_last, multi_more, SpellsOperand, operand_sum, operand_cond, operand_parts, SpellsDots, dots_end, dots_atom, dots_sum, dots_cond, SpellsSum, sum_over, SpellsCond, cond_then, cond_else, SpellsLeft, left_last, left_more, SpellsMerge, merge_last, merge_more, SpellsChoices, choices_last, choices_more, SpellsProcess, spells_process}
use Rattle.mcrl2_syntax.specs.SpelledDeclarations.{SpellsField, field_bare, field_named, SpellsFields, no_fields, some_fields, SpellsRecogniser, no_recogniser, a_recogniser, SpellsConstructor, a_constructor, SpellsSignature, of_constants, of_functions, SpellsDecl, decl_sorts, decl_alias, decl_struct, decl_cons, decl_map, decl_vars, decl_equation, decl_conditional, decl_acts, decl_acts_over, decl_proc, decl_proc_over, decl_init, SpellsDecls, no_decls, more_decls, SpellsSections, no_sections, more_sections, SpellsSpec}
use Rattle.mcrl2_syntax.specs.TreeWords.{IsName, AreNames, IsOptionalName, IsNumeral, IsSortOfWords, IsDataOfWords, AreDatasOfWords, AreOperandsOfWords, IsActionOfWords, IsLabelOfWords, IsAssignmentOfWords, IsNameSetOfWords, IsRenamingOfWords, IsRuleOfWords, IsGroupOfWords, IsProcessOfWords, AreProcessesOfWords, IsFieldOfWords, IsConstructorOfWords, IsDeclarationOfWords, IsSectionOfWords, IsSpecOfWords, SpecsAreOfWords, LabelsAreOfWords}
use Rattle.mcrl2_syntax.proofs.Lists.{all_front, all_back}

-- ---- tokens
-- the token has the bytes of its kind, and is accepted
record IsRead (text : List ℕ) (t : Token) : Type 0 where
  token : IsToken (slice_of text t) t.kind
  accepted : IsAccepted text t

abbrev AreRead : List ℕ → List Token → Type 0
AreRead text = AllByRecursion (IsRead text)

lexed_are_read : (text : List ℕ) (at to : ℕ) (tokens : List Token) → Lexes text at tokens to → All (IsAccepted text) tokens → AreRead text tokens
lexed_are_read text at to tokens nothing all = tt
lexed_are_read text at to tokens (after_space inside space more) all = lexed_are_read text (suc at) to tokens more all
lexed_are_read text at to tokens (after_comment {next = next} further comment more) all = lexed_are_read text next to tokens more all
lexed_are_read text at to tokens (after_token {first = first} {others = others} start some longest more) all = (
  record { token = subst (λ (from : ℕ). IsToken (take (first.end - from) (drop from text)) first.kind) (sym start) longest.token; accepted = All-head (IsAccepted text) first others all },
  lexed_are_read text first.end to others more (All-tail (IsAccepted text) first others all),
)

are_read : (text : List ℕ) (tokens : List Token) → HasTokens text tokens → AreRead text tokens
are_read text tokens has = lexed_are_read text 0 (length text) tokens has.lexes has.accepted

name_at : (text : List ℕ) (t : Token) → IsRead text t → t.kind ≡ Identifier → IsName (token_word text t)
name_at text t is h = subst (λ (k : Kind). IsToken (slice_of text t) k) h is.token

numeral_at : (text : List ℕ) (t : Token) → IsRead text t → t.kind ≡ Numeral → IsNumeral (token_word text t)
numeral_at text t is h = record { token = subst (λ (k : Kind). IsToken (slice_of text t) k) h is.token; fits = is.accepted.fits h }

-- ---- lists
-- what holds of each item that read tokens spell
abbrev Makes : {Item : Type 0} → List ℕ → (Item → Type 0) → (Item → List Token → List Token → Type 0) → Type 0
Makes {Item = Item} text P spells = (item : Item) (ts r : List Token) → spells item ts r → AreRead text ts → P item × AreRead text r

list_words : {Item : Type 0} {spells : Item → List Token → List Token → Type 0} {separator : Kind} (text : List ℕ) (P : Item → Type 0) → Makes text P spells
    → Makes text (AllByRecursion P) (SpellsList spells separator)
list_words text P each items ts r (last_item {item = x} a) all = let one = each x ts r a all in ((one.0, tt), one.1)
list_words text P each items ts r (more_items {item = x} {items = xs} {sign = sign} {us = us} a h b) all =
    let one = each x ts (sign ∷ us) a all in
    let rest = list_words text P each xs us r b one.1.1 in
    ((one.0, rest.0), rest.1)

braces_words : {Item : Type 0} {spells : Item → List Token → List Token → Type 0} (text : List ℕ) (P : Item → Type 0) → Makes text P spells
    → Makes text (AllByRecursion P) (SpellsBraces spells)
braces_words text P each items ts r (no_items h k) all = (tt, all.1.1)
braces_words text P each items ts r (some_items {v = v} {ts = us} h a k) all = let list = list_words text P each items us (v ∷ r) a all.1 in (list.0, list.1.1)

name_words : (text : List ℕ) → Makes text IsName (SpellsName text)
name_words text w ts r (a_name {t = t} h) all = (name_at text t all.0 h, all.1)

-- ---- sorts
sort_words : (text : List ℕ) → Makes text IsSortOfWords (SpellsSort text)
sort_words text s ts r (spells_bool h) all = (tt, all.1)
sort_words text s ts r (spells_pos h) all = (tt, all.1)
sort_words text s ts r (spells_nat h) all = (tt, all.1)
sort_words text s ts r (spells_int h) all = (tt, all.1)
sort_words text s ts r (spells_list {v = v} {s = e} {ts = us} h k a i) all = let inner = sort_words text e us (v ∷ r) a all.1.1 in (inner.0, inner.1.1)
sort_words text s ts r (spells_named_sort {t = t} h) all = (name_at text t all.0 h, all.1)
sort_words text s ts r (spells_brackets_sort {v = v} {s = e} {ts = us} h a i) all = let inner = sort_words text e us (v ∷ r) a all.1 in (inner.0, inner.1.1)

-- ---- data
datas_words : (ds : List PlainData) → AllByRecursion IsDataOfWords ds → AreDatasOfWords (datas_of ds)
datas_words [] all = tt
datas_words (d ∷ ds) all = (all.0, datas_words ds all.1)

abbrev AreOperands : List Operand → Type 0
AreOperands = AllByRecursion (λ (o : Operand). IsDataOfWords o.1)

operands_words : (os : List Operand) → AreOperands os → AreOperandsOfWords (operands_of os)
operands_words [] all = tt
operands_words (o ∷ os) all = (all.0, operands_words os all.1)

right_sides : (os : List Operand) → AreOperands os → AreDatasOfWords (datas_of (map (λ (x : Operand). x.1) os))
right_sides [] all = tt
right_sides (o ∷ os) all = (all.0, right_sides os all.1)

left_words : (d : PlainData) (os : List Operand) → IsDataOfWords d → AreOperands os → IsDataOfWords (to_left d os)
left_words d [] is all = is
left_words d (o ∷ os) is all = left_words (joined_by o.0 d o.1) os (is, all.0) all.1

right_words : (d : PlainData) (os : List Operand) → IsDataOfWords d → AreOperands os → IsDataOfWords (to_right d os)
right_words d [] is all = is
right_words d (o ∷ os) is all = (is, right_words o.1 os all.0 all.1)

sum_words : (d : PlainData) (os : List Operand) → IsDataOfWords d → AreOperands os → IsDataOfWords (to_sum d os)
sum_words d [] is all = is
sum_words d (o ∷ os) is all = (is, operands_words (o ∷ os) all)

product_words : (d : PlainData) (os : List Operand) → IsDataOfWords d → AreOperands os → IsDataOfWords (to_product d os)
product_words d [] is all = is
product_words d (o ∷ os) is all = (is, operands_words (o ∷ os) all)

and_words : (d : PlainData) (os : List Operand) → IsDataOfWords d → AreOperands os → IsDataOfWords (to_and d os)
and_words d [] is all = is
and_words d (o ∷ os) is all = (is, right_sides (o ∷ os) all)

or_words : (d : PlainData) (os : List Operand) → IsDataOfWords d → AreOperands os → IsDataOfWords (to_or d os)
or_words d [] is all = is
or_words d (o ∷ os) is all = (is, right_sides (o ∷ os) all)

one_of : (b : Bool) (d e : PlainData) → IsDataOfWords d → IsDataOfWords e → IsDataOfWords (if b then d else e)
one_of true d e one other = one
one_of false d e one other = other

grouped_words : (k : ℕ) (d : PlainData) (os : List Operand) → IsDataOfWords d → AreOperands os → IsDataOfWords (grouped k d os)
grouped_words k d os is all =
    one_of (nat_eq k 1) _ _ (product_words d os is all)
    (one_of (nat_eq k 3) _ _ (sum_words d os is all)
    (one_of (nat_eq k 6) _ _ (right_words d os is all)
    (one_of (nat_eq k 9) _ _ (and_words d os is all)
    (one_of (nat_eq k 10) _ _ (or_words d os is all)
    (one_of (nat_eq k 11) _ _ (right_words d os is all) (left_words d os is all))))))

mutual
  unit_words : (text : List ℕ) → Makes text IsDataOfWords (SpellsUnit text)
  unit_words text d ts r (unit_name {t = t} h) all = (name_at text t all.0 h, all.1)
  unit_words text d ts r (unit_numeral {t = t} h) all = (numeral_at text t all.0 h, all.1)
  unit_words text d ts r (unit_true h) all = (tt, all.1)
  unit_words text d ts r (unit_false h) all = (tt, all.1)
  unit_words text d ts r (unit_empty h k) all = (tt, all.1.1)
  unit_words text d ts r (unit_list {v = v} {ds = ds} {ts = us} h a k) all = let items = items_words text ds us (v ∷ r) a all.1 in (datas_words ds items.0, items.1.1)
  unit_words text d ts r (unit_apply {t = t} {v = v} {ds = ds} {ts = us} h i a k) all =
      let items = items_words text ds us (v ∷ r) a all.1.1 in ((name_at text t all.0 h, datas_words ds items.0), items.1.1)
  unit_words text d ts r (unit_brackets {v = v} {d = e} {ts = us} h a k) all = let inner = level_words text 11 e us (v ∷ r) a all.1 in (inner.0, inner.1.1)
  unit_words text d ts r (unit_prefix {d = e} {ts = us} h a) all = unit_words text e us r a all.1

  items_words : (text : List ℕ) → Makes text (AllByRecursion IsDataOfWords) (SpellsItems text)
  items_words text ds ts r (items_last {d = d} a) all = let one = level_words text 11 d ts r a all in ((one.0, tt), one.1)
  items_words text ds ts r (items_more {d = d} {ds = es} {v = v} {us = us} a h b) all =
      let one = level_words text 11 d ts (v ∷ us) a all in
      let rest = items_words text es us r b one.1.1 in
      ((one.0, rest.0), rest.1)

  level_words : (text : List ℕ) (k : ℕ) → Makes text IsDataOfWords (SpellsLevel text k)
  level_words text k d ts r (level_unit a) all = unit_words text d ts r a all
  level_words text k d ts r (level_chain {k = j} {d = e} {os = os} {us = us} a b) all =
      let first = level_words text j e ts us a all in
      let rest = tail_words text j os us r b first.1 in
      (grouped_words (suc j) e os first.0 rest.0, rest.1)

  tail_words : (text : List ℕ) (k : ℕ) → Makes text AreOperands (SpellsTail text k)
  tail_words text k os ts r tail_end all = (tt, all)
  tail_words text k os ts r (tail_more {d = d} {os = ps} {ts = us} {us = vs} h i a b) all =
      let first = level_words text k d us vs a all.1 in
      let rest = tail_words text k ps vs r b first.1 in
      ((first.0, rest.0), rest.1)

-- ---- actions and the parts of process terms
action_words : (text : List ℕ) → Makes text IsActionOfWords (SpellsAction text)
action_words text a ts r (action_tau h) all = (tt, all.1)
action_words text a ts r (action_name {t = t} h) all = ((name_at text t all.0 h, tt), all.1)
action_words text a ts r (action_applied {t = t} {v = v} {ds = ds} {ts = us} h i b k) all =
    let items = items_words text ds us (v ∷ r) b all.1.1 in ((name_at text t all.0 h, items.0), items.1.1)

label_words : (text : List ℕ) → Makes text IsLabelOfWords (SpellsLabel text)
label_words text l ts r (label_actions {actions = as_} a) all = list_words text IsActionOfWords (action_words text) as_ ts r a all

assignment_words : (text : List ℕ) → Makes text IsAssignmentOfWords (SpellsAssignment text)
assignment_words text x ts r (assignment {t = t} {d = d} {ts = us} h k a) all = let value = level_words text 11 d us r a all.1.1 in ((name_at text t all.0 h, value.0), value.1)

call_words : (text : List ℕ) → Makes text IsProcessOfWords (SpellsCall text)
call_words text p ts r (call_empty {t = t} h i k) all = ((name_at text t all.0 h, tt), all.1.1.1)
call_words text p ts r (call_assigns {t = t} {v = v} {xs = xs} {ts = us} h i a k) all =
    let list = list_words text IsAssignmentOfWords (assignment_words text) xs us (v ∷ r) a all.1.1 in ((name_at text t all.0 h, list.0), list.1.1)

set_words : (text : List ℕ) → Makes text IsNameSetOfWords (SpellsNameSet text)
set_words text s ts r (names_at_once {names = ns} a) all = list_words text IsName (name_words text) ns ts r a all

renaming_words : (text : List ℕ) → Makes text IsRenamingOfWords (SpellsRenaming text)
renaming_words text x ts r (renaming {t = t} {u = u} h i k) all = ((name_at text t all.0 h, name_at text u all.1.1.0 k), all.1.1.1)

rule_words : (text : List ℕ) → Makes text IsRuleOfWords (SpellsCommRule text)
rule_words text x ts r (communication {t = t} {a = arrow} {u = u} {names = ns} {ts = us} h i a k l) all =
    let list = list_words text IsName (name_words text) ns us (arrow ∷ u ∷ r) a all.1.1 in
    (((name_at text t all.0 h, list.0), name_at text u list.1.1.0 l), list.1.1.1)

group_words : (text : List ℕ) → Makes text IsGroupOfWords (SpellsVarGroup text)
group_words text g ts r (variables {names = ns} {s = s} {c = c} {us = us} a h b) all =
    let list = list_words text IsName (name_words text) ns ts (c ∷ us) a all in
    let sort = sort_words text s us r b list.1.1 in
    ((list.0, sort.0), sort.1)

groups_words : {separator : Kind} (text : List ℕ) → Makes text (AllByRecursion IsGroupOfWords) (SpellsList (SpellsVarGroup text) separator)
groups_words text = list_words text IsGroupOfWords (group_words text)

abbrev IsOperationOfWords : Operation → Type 0
IsOperationOfWords (allowing sets) = AllByRecursion IsNameSetOfWords sets
IsOperationOfWords (blocking ns) = AreNames ns
IsOperationOfWords (hiding ns) = AreNames ns
IsOperationOfWords (renamed_by rs) = AllByRecursion IsRenamingOfWords rs
IsOperationOfWords (communicating rs) = AllByRecursion IsRuleOfWords rs

operation_words : (text : List ℕ) → Makes text IsOperationOfWords (SpellsOperation text)
operation_words text o ts r (spells_allow {c = c} {sets = xs} {ts = us} h i a k) all = let braces = braces_words text IsNameSetOfWords (set_words text) xs us (c ∷ r) a all.1.1 in (braces.0, braces.1.1)
operation_words text o ts r (spells_block {c = c} {names = xs} {ts = us} h i a k) all = let braces = braces_words text IsName (name_words text) xs us (c ∷ r) a all.1.1 in (braces.0, braces.1.1)
operation_words text o ts r (spells_hide {c = c} {names = xs} {ts = us} h i a k) all = let braces = braces_words text IsName (name_words text) xs us (c ∷ r) a all.1.1 in (braces.0, braces.1.1)
operation_words text o ts r (spells_rename {c = c} {renamings = xs} {ts = us} h i a k) all = let braces = braces_words text IsRenamingOfWords (renaming_words text) xs us (c ∷ r) a all.1.1 in (braces.0, braces.1.1)
operation_words text o ts r (spells_comm {c = c} {rules = xs} {ts = us} h i a k) all = let braces = braces_words text IsRuleOfWords (rule_words text) xs us (c ∷ r) a all.1.1 in (braces.0, braces.1.1)

operated_words : (span : Span) (o : Operation) (p : PlainProcess) → IsOperationOfWords o → IsProcessOfWords p → IsProcessOfWords (operated span o p)
operated_words span (allowing sets) p is inner = (is, inner)
operated_words span (blocking ns) p is inner = (is, inner)
operated_words span (hiding ns) p is inner = (is, inner)
operated_words span (renamed_by rs) p is inner = (is, inner)
operated_words span (communicating rs) p is inner = (is, inner)

-- ---- process terms
abbrev AreProcesses : List PlainProcess → Type 0
AreProcesses = AllByRecursion IsProcessOfWords

processes_words : (ps : List PlainProcess) → AreProcesses ps → AreProcessesOfWords (processes_of ps)
processes_words [] all = tt
processes_words (p ∷ ps) all = (all.0, processes_words ps all.1)

sequenced_words : (ps : List PlainProcess) → AreProcesses ps → IsProcessOfWords (sequenced ps)
sequenced_words [] all = tt
sequenced_words (p ∷ []) all = all.0
sequenced_words (p ∷ q ∷ ps) all = processes_words (p ∷ q ∷ ps) all

-- where all are actions, these have their words
acts_words : (ps : List PlainProcess) → AreProcesses ps → IfSome (all_acts ps) (AllByRecursion IsActionOfWords)
acts_words [] all = tt
acts_words (acts a ∷ ps) all = more_acts (all_acts ps) (acts_words ps all.1)
  where
    more_acts : (o : Option (List PlainAction)) → IfSome o (AllByRecursion IsActionOfWords) → IfSome (option_map (λ as_. a ∷ as_) o) (AllByRecursion IsActionOfWords)
    more_acts None h = tt
    more_acts (Some as_) h = (all.0, h)
acts_words (_ ∷ ps) all = tt

-- actions at once have the words of their actions
at_once_words : (ps : List PlainProcess) → AreProcesses ps → IsProcessOfWords (at_once ps (all_acts ps))
at_once_words ps all = by_acts ps (all_acts ps) (processes_words ps all) (acts_words ps all)
  where
    by_acts : (ps : List PlainProcess) (o : Option (List PlainAction)) → AreProcessesOfWords (processes_of ps) → IfSome o (AllByRecursion IsActionOfWords) → IsProcessOfWords (at_once ps o)
    by_acts ps None h k = h
    by_acts ps (Some as_) h k = k

together_words : (ps : List PlainProcess) → AreProcesses ps → IsProcessOfWords (together ps)
together_words [] all = tt
together_words (p ∷ []) all = all.0
together_words (p ∷ q ∷ ps) all = at_once_words (p ∷ q ∷ ps) all

merged_words : (ps : List PlainProcess) → AreProcesses ps → IsProcessOfWords (merged ps)
merged_words [] all = tt
merged_words (p ∷ []) all = all.0
merged_words (p ∷ q ∷ ps) all = processes_words (p ∷ q ∷ ps) all

chosen_words : (ps : List PlainProcess) → AreProcesses ps → IsProcessOfWords (chosen ps)
chosen_words [] all = tt
chosen_words (p ∷ []) all = all.0
chosen_words (p ∷ q ∷ ps) all = processes_words (p ∷ q ∷ ps) all

mutual
  atom_words : (text : List ℕ) → Makes text IsProcessOfWords (SpellsAtom text)
  atom_words text p ts r (atom_delta h) all = (tt, all.1)
  atom_words text p ts r (atom_action {a = b} a) all = action_words text b ts r a all
  atom_words text p ts r (atom_call a) all = call_words text p ts r a all
  atom_words text p ts r (atom_brackets {v = v} {ps = ps} {ts = us} h a k) all = let inner = choices_words text ps us (v ∷ r) a all.1 in (chosen_words ps inner.0, inner.1.1)
  atom_words text p ts r (atom_operator {o = o} {t = t} {v = v} {ps = ps} {us = us} a b k) all =
      let front = operation_words text o ts us a all in
      let inner = choices_words text ps us (v ∷ r) b front.1 in
      (operated_words _ o (chosen ps) front.0 (chosen_words ps inner.0), inner.1.1)

  multi_words : (text : List ℕ) → Makes text AreProcesses (SpellsMulti text)
  multi_words text ps ts r (multi_last {p = p} a) all = let one = atom_words text p ts r a all in ((one.0, tt), one.1)
  multi_words text ps ts r (multi_more {p = p} {ps = qs} {b = b} {us = us} a h c) all =
      let one = atom_words text p ts (b ∷ us) a all in
      let rest = multi_words text qs us r c one.1.1 in
      ((one.0, rest.0), rest.1)

  operand_words : (text : List ℕ) (s o : Bool) → Makes text IsProcessOfWords (SpellsOperand text s o)
  operand_words text s o p ts r (operand_sum a) all = sum_of_words text o p ts r a all
  operand_words text s o p ts r (operand_cond a) all = cond_words text s o p ts r a all
  operand_words text s o p ts r (operand_parts {as_ = qs} {ps = ps} {us = us} a b) all =
      let first = multi_words text qs ts us a all in
      let rest = dots_words text s o ps us r b first.1 in
      (sequenced_words (together qs ∷ ps) (together_words qs first.0, rest.0), rest.1)

  dots_words : (text : List ℕ) (s o : Bool) → Makes text AreProcesses (SpellsDots text s o)
  dots_words text s o ps ts r dots_end all = (tt, all)
  dots_words text s o ps ts r (dots_atom {as_ = os} {ps = qs} {ts = us} {us = vs} h a b) all =
      let first = multi_words text os us vs a all.1 in
      let rest = dots_words text s o qs vs r b first.1 in
      ((together_words os first.0, rest.0), rest.1)
  dots_words text s o ps ts r (dots_sum {p = p} {ts = us} h a) all = let one = sum_of_words text o p us r a all.1 in ((one.0, tt), one.1)
  dots_words text s o ps ts r (dots_cond {p = p} {ts = us} h a) all = let one = cond_words text s o p us r a all.1 in ((one.0, tt), one.1)

  sum_of_words : (text : List ℕ) (o : Bool) → Makes text IsProcessOfWords (SpellsSum text o)
  sum_of_words text o p ts r (sum_over {y = y} {xs = xs} {ps = ps} {ts = us} {us = vs} h a k b) all =
      let groups = groups_words text xs us (y ∷ vs) a all.1 in
      let inner = merge_words text o ps vs r b groups.1.1 in
      ((groups.0, merged_words ps inner.0), inner.1)

  cond_words : (text : List ℕ) (s o : Bool) → Makes text IsProcessOfWords (SpellsCond text s o)
  cond_words text s o p ts r (cond_then {o = z} {c = c} {p = q} {a = a} {us = us} b h d) all =
      let condition = unit_words text c ts (a ∷ us) b all in
      let inner = operand_words text s z q us r d condition.1.1 in
      ((condition.0, inner.0), inner.1)
  cond_words text s o p ts r (cond_else {z = z} {c = c} {p = q} {q = q2} {a = a} {e = e} {us = us} {vs = vs} b h d k f) all =
      let condition = unit_words text c ts (a ∷ us) b all in
      let one = operand_words text z false q us (e ∷ vs) d condition.1.1 in
      let other = operand_words text s o q2 vs r f one.1.1 in
      ((condition.0, one.0, other.0), other.1)

  first_words : (text : List ℕ) (s o : Bool) → Makes text IsProcessOfWords (SpellsLeft text s o)
  first_words text s o p ts r (left_last a) all = operand_words text s o p ts r a all
  first_words text s o p ts r (left_more {z = z} {p = q} {q = q2} {b = b} {us = us} a h d) all =
      let one = operand_words text false z q ts (b ∷ us) a all in
      let rest = first_words text s o q2 us r d one.1.1 in
      ((one.0, rest.0), rest.1)

  merge_words : (text : List ℕ) (o : Bool) → Makes text AreProcesses (SpellsMerge text o)
  merge_words text o ps ts r (merge_last {s = s} {p = p} a) all = let one = first_words text s o p ts r a all in ((one.0, tt), one.1)
  merge_words text o ps ts r (merge_more {z = z} {p = p} {ps = qs} {b = b} {us = us} a h d) all =
      let one = first_words text false z p ts (b ∷ us) a all in
      let rest = merge_words text o qs us r d one.1.1 in
      ((one.0, rest.0), rest.1)

  choices_words : (text : List ℕ) → Makes text AreProcesses (SpellsChoices text)
  choices_words text ps ts r (choices_last {o = o} {ps = qs} a) all = let one = merge_words text o qs ts r a all in ((merged_words qs one.0, tt), one.1)
  choices_words text ps ts r (choices_more {o = o} {ps = qs} {qs = others} {b = b} {us = us} a h d) all =
      let one = merge_words text o qs ts (b ∷ us) a all in
      let rest = choices_words text others us r d one.1.1 in
      ((merged_words qs one.0, rest.0), rest.1)

process_words : (text : List ℕ) → Makes text IsProcessOfWords (SpellsProcess text)
process_words text p ts r (spells_process {ps = ps} a) all = let all_choices = choices_words text ps ts r a all in (chosen_words ps all_choices.0, all_choices.1)

-- ---- declarations
field_words : (text : List ℕ) → Makes text IsFieldOfWords (SpellsField text)
field_words text f ts r (field_bare {s = s} a) all = let sort = sort_words text s ts r a all in ((tt, sort.0), sort.1)
field_words text f ts r (field_named {t = t} {s = s} {ts = us} h k a) all = let sort = sort_words text s us r a all.1.1 in ((name_at text t all.0 h, sort.0), sort.1)

fields_words : (text : List ℕ) (t u : Token) (fs : List PlainField) (ts r : List Token) → SpellsFields text t fs u ts r → AreRead text ts → AllByRecursion IsFieldOfWords fs × AreRead text r
fields_words text t u fs ts r no_fields all = (tt, all)
fields_words text t u fs ts r (some_fields {v = v} {ts = us} h a k) all = let list = list_words text IsFieldOfWords (field_words text) fs us (v ∷ r) a all.1 in (list.0, list.1.1)

recogniser_words : (text : List ℕ) (t u : Token) (w : Option PlainWord) (ts r : List Token) → SpellsRecogniser text t w u ts r → AreRead text ts → IsOptionalName w × AreRead text r
recogniser_words text t u w ts r no_recogniser all = (tt, all)
recogniser_words text t u w ts r (a_recogniser {v = v} h k) all = (name_at text v all.1.0 k, all.1.1)

constructor_words : (text : List ℕ) → Makes text IsConstructorOfWords (SpellsConstructor text)
constructor_words text c ts r (a_constructor {t = t} {u = u} {v = v} {fields = fs} {recogniser = w} {ts = us} {us = vs} h a b) all =
    let fields = fields_words text t u fs us vs a all.1 in
    let recogniser = recogniser_words text u v w vs r b fields.1 in
    ((name_at text t all.0 h, fields.0, recogniser.0), recogniser.1)

names_words : {separator : Kind} (text : List ℕ) → Makes text AreNames (SpellsList (SpellsName text) separator)
names_words text = list_words text IsName (name_words text)

domain_words : {separator : Kind} (text : List ℕ) → Makes text (AllByRecursion IsSortOfWords) (SpellsList (SpellsSort text) separator)
domain_words text = list_words text IsSortOfWords (sort_words text)

signature_words : (text : List ℕ) (ns : List PlainWord) (ss : List PlainSort) (to : PlainSort) (ts : List Token) → SpellsSignature text ns ss to ts → AreRead text ts
    → AreNames ns × AllByRecursion IsSortOfWords ss × IsSortOfWords to
signature_words text ns ss to ts (of_constants {c = c} {us = us} a h b) all =
    let names = names_words text ns ts (c ∷ us) a all in (names.0, tt, (sort_words text to us [] b names.1.1).0)
signature_words text ns ss to ts (of_functions {c = c} {a = arrow} {us = us} {vs = vs} a h b k d) all =
    let names = names_words text ns ts (c ∷ us) a all in
    let domain = domain_words text ss us (arrow ∷ vs) b names.1.1 in
    (names.0, domain.0, (sort_words text to vs [] d domain.1.1).0)

declaration_words : (text : List ℕ) (word : SectionWord) (d : PlainDecl) (ts : List Token) → SpellsDecl text word d ts → AreRead text ts → IsDeclarationOfWords d
declaration_words text word d ts (decl_sorts {names = ns} a) all = (names_words text ns ts [] a all).0
declaration_words text word d ts (decl_alias {t = t} {sort = s} {ts = us} h k a) all = (name_at text t all.0 h, (sort_words text s us [] a all.1.1).0)
declaration_words text word d ts (decl_struct {t = t} {constructors = cs} {ts = us} h k i a) all =
    (name_at text t all.0 h, (list_words text IsConstructorOfWords (constructor_words text) cs us [] a all.1.1.1).0)
declaration_words text word d ts (decl_cons {names = ns} {domain = ss} {sort = s} a) all = signature_words text ns ss s ts a all
declaration_words text word d ts (decl_map {names = ns} {domain = ss} {sort = s} a) all = signature_words text ns ss s ts a all
declaration_words text word d ts (decl_vars {groups = gs} a) all = (groups_words text gs ts [] a all).0
declaration_words text word d ts (decl_equation {left = l} {right = m} {e = e} {us = us} a h b) all =
    let left = level_words text 11 l ts (e ∷ us) a all in (tt, left.0, (level_words text 11 m us [] b left.1.1).0)
declaration_words text word d ts (decl_conditional {condition = c} {left = l} {right = m} {a = arrow} {e = e} {us = us} {vs = vs} a h b k f) all =
    let condition = level_words text 11 c ts (arrow ∷ us) a all in
    let left = level_words text 11 l us (e ∷ vs) b condition.1.1 in
    (condition.0, left.0, (level_words text 11 m vs [] f left.1.1).0)
declaration_words text word d ts (decl_acts {names = ns} a) all = ((names_words text ns ts [] a all).0, tt)
declaration_words text word d ts (decl_acts_over {names = ns} {domain = ss} {c = c} {us = us} a h b) all =
    let names = names_words text ns ts (c ∷ us) a all in (names.0, (domain_words text ss us [] b names.1.1).0)
declaration_words text word d ts (decl_proc {t = t} {body = p} {ts = us} h k a) all = (name_at text t all.0 h, tt, (process_words text p us [] a all.1.1).0)
declaration_words text word d ts (decl_proc_over {t = t} {v = v} {e = e} {parameters = gs} {body = p} {ts = us} {us = vs} h i a k l b) all =
    let groups = groups_words text gs us (v ∷ e ∷ vs) a all.1.1 in
    (name_at text t all.0 h, groups.0, (process_words text p vs [] b groups.1.1.1).0)
declaration_words text word d ts (decl_init {body = p} a) all = (process_words text p ts [] a all).0

declarations_words : (text : List ℕ) (word : SectionWord) → Makes text (AllByRecursion IsDeclarationOfWords) (SpellsDecls text word)
declarations_words text word ds ts r no_decls all = (tt, all)
declarations_words text word ds ts r (more_decls {d = d} {ds = es} {front = front} {us = us} cut a b) all =
    let parted = subst (AreRead text) cut.is all in
    let rest = declarations_words text word es us r b (all_back (IsRead text) front (cut.sign ∷ us) parted).1 in
    ((declaration_words text word d front a (all_front (IsRead text) front (cut.sign ∷ us) parted), rest.0), rest.1)

sections_words : (text : List ℕ) (sections : List PlainSection) (ts : List Token) → SpellsSections text sections ts → AreRead text ts → AllByRecursion IsSectionOfWords sections
sections_words text sections ts no_sections all = tt
sections_words text sections ts (more_sections {word = word} {ds = ds} {sections = others} {ts = us} {r = r} h a b) all =
    let own = declarations_words text word ds us r a all.1 in (own.0, sections_words text others r b own.1)

spec_words : (text : List ℕ) (spec : PlainSpec) (tokens : List Token) → AreRead text tokens → SpellsSpec text spec tokens → IsSpecOfWords spec
spec_words text spec tokens all spelled = sections_words text spec.sections tokens spelled.all_sections all

pub specs_are_of_words : SpecsAreOfWords
specs_are_of_words text spec tokens has spelled = spec_words text spec tokens (are_read text tokens has) spelled

pub labels_are_of_words : LabelsAreOfWords
labels_are_of_words text label tokens rest has spelled = (label_words text label tokens rest spelled (are_read text tokens has)).0
