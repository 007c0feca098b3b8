-- What is printed for the summands of a linear process spells a tree of them.
use Rattle.std.proofs.Common.{◌≡◌, ℕ, Bool, true, false, List, [], ◌∷◌, map, codes, Option, Some, None, refl, ap, ap₂, ◌∙◌}
use Rattle.std.specs.Prelude.{option_map}
use Rattle.mcrl2_lexer.specs.declared.kind.Kind.TheVariants as kind_
use Rattle.mcrl2_lexer.specs.declared.token.Token.{Token}
use Rattle.mcrl2_lexer.specs.Tokens.{slice_of}
use Rattle.mcrl2_syntax.specs.SpelledWords.{a_name, SpellsList, last_item, more_items}
use Rattle.mcrl2_syntax.specs.SortTrees.{PlainSort}
use Rattle.mcrl2_syntax.specs.SpelledSorts.{SpellsSort, spells_bool, spells_pos, spells_nat, spells_int, spells_list, spells_named_sort}
use Rattle.mcrl2_syntax.specs.DataTrees.{PlainData, datas_of}
use Rattle.mcrl2_syntax.specs.SpelledData.{unit_brackets, SpellsItems, SpellsLevel}
use Rattle.mcrl2_syntax.specs.ProcessParts.{PlainAction, PlainAssignment, PlainVarGroup}
use Rattle.mcrl2_syntax.specs.ProcessTrees as trees_
use Rattle.mcrl2_syntax.specs.ProcessTrees.{PlainProcess, processes_of}
use Rattle.mcrl2_syntax.specs.SpelledLabels.{SpellsAction, action_tau, action_name, action_applied, SpellsActions, SpellsAssignment, assignment, call_empty, call_assigns, SpellsVarGroup, variables, SpellsVars}
use Rattle.mcrl2_syntax.specs.SpelledProcesses.{all_acts, at_once, together, chosen, SpellsAtom, atom_action, atom_call, SpellsMulti, multi_last, multi_more, SpellsOperand, operand_sum, operand_cond, operand_parts, dots_end, dots_atom, sum_over, cond_then, left_last, merge_last, SpellsChoices, choices_last, choices_more}
use Rattle.lps_printer.specs.Pieces.{Piece, Says, says_more}
use Rattle.lps_printer.specs.PrintedExpressions.{Expression, Expressions, bare, bare_all, none, more}
use Rattle.lps_printer.specs.DataLayout.{piece, space, IsSpellable, AreSpellable}
use Rattle.sort_table.specs.BareSorts.{SortExpression, truth_values, positives, naturals, integers, lists_of, a_name, bare_sort}
use Rattle.lps_printer.specs.PrintedProcesses.{Action, tau_, act, bare_action, Assignment, bare_assignment, Variables, bare_variables, Process, Processes, bare_process, bare_processes, Next, ends, goes_bare, goes, Variable, one_variable, with_next, with_condition, with_sums, Summand, summand_process, all_summands, choice_process}
use Rattle.lps_printer.specs.PrintedProcesses as proc_
use Rattle.lps_printer.specs.SummandLayout.{print_sort, print_action, print_bars, print_assignment, print_assignments, print_next, print_variable, print_variables, print_body, print_when, print_sum, print_summand, print_summands}
use Rattle.lps_printer.proofs.Spelling.{printed_reads, printed_items}

-- what a front of the tokens spells, in front of those of the pieces behind it
pub record Read (Plain Bare : Type 0) (Spells : Plain → List Token → List Token → Type 0) (to : Plain → Bare) (text : List ℕ) (is_ : Bare) (rest : List Piece) (ts : List Token) : Type 0 where
  pub tree : Plain
  pub after : List Token
  pub spells : Spells tree ts after
  pub says : Says text rest after
  pub is : to tree ≡ is_

abbrev SortRead : List ℕ → SortExpression → List Piece → List Token → Type 0
SortRead text = Read PlainSort SortExpression (SpellsSort text) bare_sort text

abbrev pub ActionRead : List ℕ → Action → List Piece → List Token → Type 0
ActionRead text = Read PlainAction Action (SpellsAction text) bare_action text

close_sort : (text : List ℕ) (s : SortExpression) (rest : List Piece) (t u : Token) (ts us : List Token) (tree : PlainSort) → t.kind ≡ kind_.ListWord → u.kind ≡ kind_.LeftParen → SpellsSort text tree ts us → bare_sort tree ≡ s
    → Says text (piece [] kind_.RightParen (codes ")") ∷ rest) us → SortRead text (lists_of s) rest (t ∷ u ∷ ts)
close_sort text s rest t u ts us tree k l spells is (says_more {ts = vs} m slice says) = record { tree = _; after = vs; spells = spells_list k l spells m; says = says; is = ap (λ (x : SortExpression). lists_of x) is }

pub read_sort : (text : List ℕ) (s : SortExpression) (gap : List ℕ) (rest : List Piece) (ts : List Token) → Says text (print_sort s gap rest) ts → SortRead text s rest ts
read_sort text truth_values gap rest ts (says_more {ts = us} k slice says) = record { tree = _; after = us; spells = spells_bool k; says = says; is = refl }
read_sort text positives gap rest ts (says_more {ts = us} k slice says) = record { tree = _; after = us; spells = spells_pos k; says = says; is = refl }
read_sort text naturals gap rest ts (says_more {ts = us} k slice says) = record { tree = _; after = us; spells = spells_nat k; says = says; is = refl }
read_sort text integers gap rest ts (says_more {ts = us} k slice says) = record { tree = _; after = us; spells = spells_int k; says = says; is = refl }
read_sort text (lists_of s) gap rest ts (says_more {t = t} k slice (says_more {t = u} {ts = us} l other says)) =
    let r = read_sort text s [] (piece [] kind_.RightParen (codes ")") ∷ rest) us says in
    close_sort text s rest t u us r.after r.tree k l r.spells r.is r.says
read_sort text (a_name x) gap rest ts (says_more {ts = us} k slice says) = record { tree = _; after = us; spells = spells_named_sort k; says = says; is = ap (λ (y : List ℕ). a_name y) slice }

abbrev pub IsSpelledAction : Action → Type 0
IsSpelledAction tau_ = Unit {0}
IsSpelledAction (act x es) = AreSpellable es

close_action : (text : List ℕ) (x : List ℕ) (e : Expression) (es : Expressions) (rest : List Piece) (t u : Token) (ts us : List Token) (trees : List PlainData) → t.kind ≡ kind_.Identifier → slice_of text t ≡ x → u.kind ≡ kind_.LeftParen
    → SpellsItems text trees ts us → bare_all (datas_of trees) ≡ more e es → Says text (piece [] kind_.RightParen (codes ")") ∷ rest) us → ActionRead text (act x (more e es)) rest (t ∷ u ∷ ts)
close_action text x e es rest t u ts us trees k slice o spells is (says_more {ts = vs} l s says) =
    record { tree = _; after = vs; spells = action_applied k o spells l; says = says; is = ap₂ (λ (y : List ℕ) (z : Expressions). act y z) slice is }

pub read_action : (text : List ℕ) (a : Action) → IsSpelledAction a → (gap : List ℕ) (rest : List Piece) (ts : List Token) → Says text (print_action a gap rest) ts → ActionRead text a rest ts
read_action text tau_ ok gap rest ts (says_more {ts = us} k slice says) = record { tree = _; after = us; spells = action_tau k; says = says; is = refl }
read_action text (act x none) ok gap rest ts (says_more {ts = us} k slice says) = record { tree = _; after = us; spells = action_name k; says = says; is = ap (λ (y : List ℕ). act y none) slice }
read_action text (act x (more e es)) ok gap rest ts (says_more {t = t} k slice (says_more {t = u} {ts = us} l other says)) =
    let i = printed_items text e es ok.0 ok.1 (piece [] kind_.RightParen (codes ")") ∷ rest) us says in
    close_action text x e es rest t u us i.after i.trees k slice l i.spells i.is i.says

-- ---- the actions of a label

abbrev pub AreSpelledActions : List Action → Type 0
AreSpelledActions [] = Unit {0}
AreSpelledActions (a ∷ as_) = IsSpelledAction a × AreSpelledActions as_

-- the actions, as processes with a bar between them
record LabelRead (text : List ℕ) (a : Action) (as_ : List Action) (rest : List Piece) (ts : List Token) : Type 0 where
  parts : List PlainProcess
  after : List Token
  spells : SpellsMulti text parts ts after
  says : Says text rest after
  is : bare_process (together parts) ≡ proc_.acts (a ∷ as_)

record ActionsRead (text : List ℕ) (as_ : List Action) (rest : List Piece) (ts : List Token) : Type 0 where
  trees : List PlainAction
  after : List Token
  spells : SpellsActions text trees ts after
  says : Says text rest after
  is : map bare_action trees ≡ as_

last_action : (text : List ℕ) (a : Action) (rest : List Piece) (ts : List Token) → ActionRead text a rest ts → ActionsRead text (a ∷ []) rest ts
last_action text a rest ts r = record { trees = r.tree ∷ []; after = r.after; spells = last_item r.spells; says = r.says; is = ap (λ (x : Action). x ∷ []) r.is }

one_action : (text : List ℕ) (a b : Action) (as_ : List Action) (rest : List Piece) (ts us : List Token) (tree : PlainAction) → SpellsAction text tree ts us → bare_action tree ≡ a
    → ((vs : List Token) → Says text (print_action b [] (print_bars as_ rest)) vs → ActionsRead text (b ∷ as_) rest vs)
    → Says text (piece [] kind_.Bar (codes "|") ∷ print_action b [] (print_bars as_ rest)) us → ActionsRead text (a ∷ b ∷ as_) rest ts
one_action text a b as_ rest ts us tree spells is read (says_more {ts = vs} k slice says) =
    let r = read vs says in
    record { trees = tree ∷ r.trees; after = r.after; spells = more_items spells k r.spells; says = r.says; is = ap₂ (λ (x : Action) (xs : List Action). x ∷ xs) is r.is }

read_actions : (text : List ℕ) (a : Action) (as_ : List Action) → IsSpelledAction a → AreSpelledActions as_ → (gap : List ℕ) (rest : List Piece) (ts : List Token) → Says text (print_action a gap (print_bars as_ rest)) ts → ActionsRead text (a ∷ as_) rest ts
read_actions text a [] ok oks gap rest ts says = last_action text a rest ts (read_action text a ok gap rest ts says)
read_actions text a (b ∷ as_) ok oks gap rest ts says =
    let r = read_action text a ok gap (print_bars (b ∷ as_) rest) ts says in
    one_action text a b as_ rest ts r.after r.tree r.spells r.is (λ vs s. read_actions text b as_ oks.0 oks.1 [] rest vs s) r.says

-- actions with a bar between them are processes with a bar between them, and are read as these actions at once
abbrev each_alone : List PlainAction → List PlainProcess
each_alone as_ = map (λ (a : PlainAction). trees_.acts a) as_

spelled_alone : {text : List ℕ} {as_ : List PlainAction} {ts r : List Token} → SpellsActions text as_ ts r → SpellsMulti text (each_alone as_) ts r
spelled_alone (last_item a) = multi_last (atom_action a)
spelled_alone (more_items a k rest) = multi_more (atom_action a) k (spelled_alone rest)

all_are_acts : (as_ : List PlainAction) → all_acts (each_alone as_) ≡ Some as_
all_are_acts [] = refl
all_are_acts (a ∷ as_) = ap (option_map (λ (xs : List PlainAction). a ∷ xs)) (all_are_acts as_)

acts_together : (a : PlainAction) (as_ : List PlainAction) → bare_process (together (each_alone (a ∷ as_))) ≡ proc_.acts (map bare_action (a ∷ as_))
acts_together a [] = refl
acts_together a (b ∷ as_) = ap (λ (o : Option (List PlainAction)). bare_process (at_once (each_alone (a ∷ b ∷ as_)) o)) (all_are_acts (a ∷ b ∷ as_))

label_together : (a : Action) (as_ : List Action) (trees : List PlainAction) → map bare_action trees ≡ a ∷ as_ → bare_process (together (each_alone trees)) ≡ proc_.acts (a ∷ as_)
label_together a as_ [] is = absurd cc
label_together a as_ (x ∷ xs) is = acts_together x xs ∙ ap (λ (bs : List Action). proc_.acts bs) is

read_label : (text : List ℕ) (a : Action) (as_ : List Action) → IsSpelledAction a → AreSpelledActions as_ → (gap : List ℕ) (rest : List Piece) (ts : List Token) → Says text (print_action a gap (print_bars as_ rest)) ts → LabelRead text a as_ rest ts
read_label text a as_ ok oks gap rest ts says =
    let r = read_actions text a as_ ok oks gap rest ts says in
    record { parts = each_alone r.trees; after = r.after; spells = spelled_alone r.spells; says = r.says; is = label_together a as_ r.trees r.is }

-- ---- a call

abbrev pub AreSpelledValues : List Assignment → Type 0
AreSpelledValues [] = Unit {0}
AreSpelledValues (x ∷ xs) = IsSpellable x.value × AreSpelledValues xs

abbrev pub IsSpelledNext : Next → Type 0
IsSpelledNext ends = Unit {0}
IsSpelledNext (goes_bare x) = Unit {0}
IsSpelledNext (goes x as_) = AreSpelledValues as_

abbrev AssignmentRead : List ℕ → Assignment → List Piece → List Token → Type 0
AssignmentRead text = Read PlainAssignment Assignment (SpellsAssignment text) bare_assignment text

record AssignmentsRead (text : List ℕ) (xs : List Assignment) (rest : List Piece) (ts : List Token) : Type 0 where
  trees : List PlainAssignment
  after : List Token
  spells : SpellsList (SpellsAssignment text) kind_.Comma trees ts after
  says : Says text rest after
  is : map bare_assignment trees ≡ xs

read_assignment : (text : List ℕ) (x : Assignment) → IsSpellable x.value → (gap : List ℕ) (rest : List Piece) (ts : List Token) → Says text (print_assignment x gap rest) ts → AssignmentRead text x rest ts
read_assignment text x ok gap rest ts (says_more k slice (says_more {ts = us} l other says)) =
    let r = printed_reads text x.value ok space rest us says in
    record { tree = _; after = r.after; spells = assignment k l r.spells; says = r.says; is = ap₂ (λ (y : List ℕ) (e : Expression). record { name = y; value = e }) slice r.is }

one_assignment : (text : List ℕ) (x y : Assignment) (xs : List Assignment) (rest : List Piece) (ts us : List Token) (tree : PlainAssignment) → SpellsAssignment text tree ts us → bare_assignment tree ≡ x
    → ((vs : List Token) → Says text (print_assignment y space (print_assignments xs rest)) vs → AssignmentsRead text (y ∷ xs) rest vs)
    → Says text (piece [] kind_.Comma (codes ",") ∷ print_assignment y space (print_assignments xs rest)) us → AssignmentsRead text (x ∷ y ∷ xs) rest ts
one_assignment text x y xs rest ts us tree spells is read (says_more {ts = vs} k slice says) =
    let r = read vs says in
    record { trees = tree ∷ r.trees; after = r.after; spells = more_items spells k r.spells; says = r.says; is = ap₂ (λ (a : Assignment) (as_ : List Assignment). a ∷ as_) is r.is }

read_assignments : (text : List ℕ) (x : Assignment) (xs : List Assignment) → IsSpellable x.value → AreSpelledValues xs → (gap : List ℕ) (rest : List Piece) (ts : List Token) → Says text (print_assignment x gap (print_assignments xs rest)) ts → AssignmentsRead text (x ∷ xs) rest ts
read_assignments text x [] ok oks gap rest ts says =
    let r = read_assignment text x ok gap rest ts says in
    record { trees = r.tree ∷ []; after = r.after; spells = last_item r.spells; says = r.says; is = ap (λ (a : Assignment). a ∷ []) r.is }
read_assignments text x (y ∷ xs) ok oks gap rest ts says =
    let r = read_assignment text x ok gap (print_assignments (y ∷ xs) rest) ts says in
    one_assignment text x y xs rest ts r.after r.tree r.spells r.is (λ vs s. read_assignments text y xs oks.0 oks.1 space rest vs s) r.says

close_assigns : (text : List ℕ) (x : List ℕ) (as_ : List Assignment) (rest : List Piece) (t u : Token) (ts us : List Token) (trees : List PlainAssignment) → t.kind ≡ kind_.Identifier → slice_of text t ≡ x → u.kind ≡ kind_.LeftParen
    → SpellsList (SpellsAssignment text) kind_.Comma trees ts us → map bare_assignment trees ≡ as_ → Says text (piece [] kind_.RightParen (codes ")") ∷ rest) us
    → Read PlainProcess Process (SpellsAtom text) bare_process text (proc_.call x as_) rest (t ∷ u ∷ ts)
close_assigns text x as_ rest t u ts us trees k slice l spells is (says_more {ts = vs} m s says) =
    record { tree = _; after = vs; spells = atom_call (call_assigns k l spells m); says = says; is = ap₂ (λ (y : List ℕ) (bs : List Assignment). proc_.call y bs) slice is }

-- ---- an operand of the choice

record OperandRead (text : List ℕ) (p : Process) (rest : List Piece) (ts : List Token) : Type 0 where
  in_sum : Bool
  in_cond : Bool
  tree : PlainProcess
  after : List Token
  spells : SpellsOperand text in_sum in_cond tree ts after
  says : Says text rest after
  is : bare_process tree ≡ p

-- a label with what comes behind it
label_next : (text : List ℕ) (a : Action) (as_ : List Action) (next : Next) → IsSpelledNext next → (rest : List Piece) (ts us : List Token) (parts : List PlainProcess) → SpellsMulti text parts ts us → bare_process (together parts) ≡ proc_.acts (a ∷ as_)
    → Says text (print_next next rest) us → OperandRead text (with_next (proc_.acts (a ∷ as_)) next) rest ts
label_next text a as_ ends ok rest ts us parts spells is says = record { in_sum = false; in_cond = false; tree = together parts; after = us; spells = operand_parts spells dots_end; says = says; is = is }
label_next text a as_ (goes_bare x) ok rest ts us parts spells is (says_more k slice (says_more {ts = vs} l other says)) =
    record {
      in_sum = false;
      in_cond = false;
      tree = _;
      after = vs;
      spells = operand_parts spells (dots_atom k (multi_last (atom_action (action_name l))) dots_end);
      says = says;
      is = ap₂ (λ (p : Process) (y : List ℕ). proc_.sequence (proc_.more p (proc_.more (proc_.acts (act y none ∷ [])) proc_.none))) is other;
    }
label_next text a as_ (goes x []) ok rest ts us parts spells is (says_more k slice (says_more l other (says_more m open_ (says_more {ts = vs} q closed_ says)))) =
    record {
      in_sum = false;
      in_cond = false;
      tree = _;
      after = vs;
      spells = operand_parts spells (dots_atom k (multi_last (atom_call (call_empty l m q))) dots_end);
      says = says;
      is = ap₂ (λ (p : Process) (y : List ℕ). proc_.sequence (proc_.more p (proc_.more (proc_.call y []) proc_.none))) is other;
    }
label_next text a as_ (goes x (y ∷ ys)) ok rest ts us parts spells is (says_more k slice (says_more {t = t} l other (says_more {t = u} {ts = vs} m open_ says))) =
    let r = read_assignments text y ys ok.0 ok.1 [] (piece [] kind_.RightParen (codes ")") ∷ rest) vs says in
    let c = close_assigns text x (y ∷ ys) rest t u vs r.after r.trees l other m r.spells r.is r.says in
    record {
      in_sum = false;
      in_cond = false;
      tree = _;
      after = c.after;
      spells = operand_parts spells (dots_atom k (multi_last c.spells) dots_end);
      says = c.says;
      is = ap₂ (λ (p q : Process). proc_.sequence (proc_.more p (proc_.more q proc_.none))) is c.is;
    }

read_body : (text : List ℕ) (a : Action) (as_ : List Action) (next : Next) → IsSpelledAction a → AreSpelledActions as_ → IsSpelledNext next → (gap : List ℕ) (rest : List Piece) (ts : List Token) → Says text (print_body a as_ next gap rest) ts
    → OperandRead text (with_next (proc_.acts (a ∷ as_)) next) rest ts
read_body text a as_ next ok oks on gap rest ts says =
    let r = read_label text a as_ ok oks gap (print_next next rest) ts says in
    label_next text a as_ next on rest ts r.after r.parts r.spells r.is r.says

abbrev pub IsSpelledCondition : Option Expression → Type 0
IsSpelledCondition None = Unit {0}
IsSpelledCondition (Some c) = IsSpellable c

behind_condition : (text : List ℕ) (c : Expression) (p : Process) (rest behind : List Piece) (t : Token) (ts us : List Token) (tree : PlainData) → t.kind ≡ kind_.LeftParen → SpellsLevel text 11 tree ts us → bare tree ≡ c
    → ((vs : List Token) → Says text behind vs → OperandRead text p rest vs) → Says text (piece [] kind_.RightParen (codes ")") ∷ piece space kind_.Arrow (codes "->") ∷ behind) us → OperandRead text (proc_.when c p) rest (t ∷ ts)
behind_condition text c p rest behind t ts us tree k spells is read (says_more l slice (says_more {ts = vs} m other says)) =
    let r = read vs says in
    record { in_sum = r.in_sum; in_cond = true; tree = _; after = r.after; spells = operand_cond (cond_then (unit_brackets k spells l) m r.spells); says = r.says; is = ap₂ (λ (x : Expression) (q : Process). proc_.when x q) is r.is }

read_when : (text : List ℕ) (c : Option Expression) (a : Action) (as_ : List Action) (next : Next) → IsSpelledCondition c → IsSpelledAction a → AreSpelledActions as_ → IsSpelledNext next → (gap : List ℕ) (rest : List Piece) (ts : List Token)
    → Says text (print_when c a as_ next gap rest) ts → OperandRead text (with_condition c (with_next (proc_.acts (a ∷ as_)) next)) rest ts
read_when text None a as_ next oc ok oks on gap rest ts says = read_body text a as_ next ok oks on gap rest ts says
read_when text (Some c) a as_ next oc ok oks on gap rest ts (says_more {t = t} {ts = us} k slice says) =
    let r = printed_reads text c oc [] (piece [] kind_.RightParen (codes ")") ∷ piece space kind_.Arrow (codes "->") ∷ print_body a as_ next space rest) us says in
    behind_condition text c (with_next (proc_.acts (a ∷ as_)) next) rest (print_body a as_ next space rest) t us r.after r.tree k r.spells r.is (λ vs s. read_body text a as_ next ok oks on space rest vs s) r.says

abbrev VariablesRead : List ℕ → Variable → List Piece → List Token → Type 0
VariablesRead text v = Read PlainVarGroup Variables (SpellsVarGroup text) bare_variables text (one_variable v)

pub record GroupsRead (text : List ℕ) (vs : List Variable) (rest : List Piece) (ts : List Token) : Type 0 where
  pub trees : List PlainVarGroup
  pub after : List Token
  pub spells : SpellsVars text trees ts after
  pub says : Says text rest after
  pub is : map bare_variables trees ≡ map one_variable vs

read_variable : (text : List ℕ) (v : Variable) (gap : List ℕ) (rest : List Piece) (ts : List Token) → Says text (print_variable v gap rest) ts → VariablesRead text v rest ts
read_variable text v gap rest ts (says_more k slice (says_more {ts = us} l other says)) =
    let r = read_sort text v.sort space rest us says in
    record { tree = _; after = r.after; spells = variables (last_item (a_name k)) l r.spells; says = r.says; is = ap₂ (λ (x : List ℕ) (s : SortExpression). record { names = x ∷ []; sort = s }) slice r.is }

one_group : (text : List ℕ) (v w : Variable) (ws : List Variable) (rest : List Piece) (ts us : List Token) (tree : PlainVarGroup) → SpellsVarGroup text tree ts us → bare_variables tree ≡ one_variable v
    → ((xs : List Token) → Says text (print_variable w space (print_variables ws rest)) xs → GroupsRead text (w ∷ ws) rest xs)
    → Says text (piece [] kind_.Comma (codes ",") ∷ print_variable w space (print_variables ws rest)) us → GroupsRead text (v ∷ w ∷ ws) rest ts
one_group text v w ws rest ts us tree spells is read (says_more {ts = xs} k slice says) =
    let r = read xs says in
    record { trees = tree ∷ r.trees; after = r.after; spells = more_items spells k r.spells; says = r.says; is = ap₂ (λ (x : Variables) (xs : List Variables). x ∷ xs) is r.is }

pub read_groups : (text : List ℕ) (v : Variable) (vs : List Variable) (gap : List ℕ) (rest : List Piece) (ts : List Token) → Says text (print_variable v gap (print_variables vs rest)) ts → GroupsRead text (v ∷ vs) rest ts
read_groups text v [] gap rest ts says =
    let r = read_variable text v gap rest ts says in
    record { trees = r.tree ∷ []; after = r.after; spells = last_item r.spells; says = r.says; is = ap (λ (x : Variables). x ∷ []) r.is }
read_groups text v (w ∷ ws) gap rest ts says =
    let r = read_variable text v gap (print_variables (w ∷ ws) rest) ts says in
    one_group text v w ws rest ts r.after r.tree r.spells r.is (λ xs s. read_groups text w ws space rest xs s) r.says

behind_sums : (text : List ℕ) (vs : List Variable) (p : Process) (rest behind : List Piece) (t : Token) (ts us : List Token) (trees : List PlainVarGroup) → t.kind ≡ kind_.Sum → SpellsVars text trees ts us → map bare_variables trees ≡ map one_variable vs
    → ((xs : List Token) → Says text behind xs → OperandRead text p rest xs) → Says text (piece space kind_.Dot (codes ".") ∷ behind) us → OperandRead text (proc_.sum (map one_variable vs) p) rest (t ∷ ts)
behind_sums text vs p rest behind t ts us trees k spells is read (says_more {ts = xs} l slice says) =
    let r = read xs says in
    record { in_sum = true; in_cond = r.in_cond; tree = _; after = r.after; spells = operand_sum (sum_over k spells l (merge_last (left_last r.spells))); says = r.says; is = ap₂ (λ (x : List Variables) (q : Process). proc_.sum x q) is r.is }

pub record IsSpelledSummand (s : Summand) : Type 0 where
  pub condition : IsSpelledCondition s.condition
  pub first : IsSpelledAction s.first
  pub others : AreSpelledActions s.others
  pub next : IsSpelledNext s.next

read_sum : (text : List ℕ) (vs : List Variable) (c : Option Expression) (a : Action) (as_ : List Action) (next : Next) → IsSpelledCondition c → IsSpelledAction a → AreSpelledActions as_ → IsSpelledNext next → (gap : List ℕ) (rest : List Piece) (ts : List Token)
    → Says text (print_sum vs c a as_ next gap rest) ts → OperandRead text (with_sums vs (with_condition c (with_next (proc_.acts (a ∷ as_)) next))) rest ts
read_sum text [] c a as_ next oc ok oks on gap rest ts says = read_when text c a as_ next oc ok oks on gap rest ts says
read_sum text (v ∷ vs) c a as_ next oc ok oks on gap rest ts (says_more {t = t} {ts = us} k slice says) =
    let behind : List Piece = print_when c a as_ next space rest in
    let r = read_groups text v vs space (piece space kind_.Dot (codes ".") ∷ behind) us says in
    behind_sums text (v ∷ vs) (with_condition c (with_next (proc_.acts (a ∷ as_)) next)) rest behind t us r.after r.trees k r.spells r.is (λ xs s. read_when text c a as_ next oc ok oks on space rest xs s) r.says

read_summand : (text : List ℕ) (s : Summand) → IsSpelledSummand s → (gap : List ℕ) (rest : List Piece) (ts : List Token) → Says text (print_summand s gap rest) ts → OperandRead text (summand_process s) rest ts
read_summand text s ok gap rest ts says = read_sum text s.sums s.condition s.first s.others s.next ok.condition ok.first ok.others ok.next gap rest ts says

-- ---- the choice

pub record ChoiceRead (text : List ℕ) (s : Summand) (ss : List Summand) (rest : List Piece) (ts : List Token) : Type 0 where
  pub head : PlainProcess
  pub tail : List PlainProcess
  pub after : List Token
  pub spells : SpellsChoices text (head ∷ tail) ts after
  pub says : Says text rest after
  pub is : bare_processes (processes_of (head ∷ tail)) ≡ all_summands s ss
  pub whole : bare_process (chosen (head ∷ tail)) ≡ choice_process s ss

abbrev pub AreSpelledSummands : List Summand → Type 0
AreSpelledSummands [] = Unit {0}
AreSpelledSummands (s ∷ ss) = IsSpelledSummand s × AreSpelledSummands ss

one_choice : (text : List ℕ) (s r : Summand) (ss : List Summand) (rest : List Piece) (ts us : List Token) (a b : Bool) (tree : PlainProcess) → SpellsOperand text a b tree ts us → bare_process tree ≡ summand_process s
    → ((vs : List Token) → Says text (print_summand r space (print_summands ss rest)) vs → ChoiceRead text r ss rest vs)
    → Says text (piece (10 ∷ 32 ∷ 32 ∷ []) kind_.Plus (codes "+") ∷ print_summand r space (print_summands ss rest)) us → ChoiceRead text s (r ∷ ss) rest ts
one_choice text s r ss rest ts us a b tree spells is read (says_more {ts = vs} k slice says) =
    let c = read vs says in
    let all : bare_processes (processes_of (tree ∷ c.head ∷ c.tail)) ≡ all_summands s (r ∷ ss) = ap₂ (λ (p : Process) (ps : Processes). proc_.more p ps) is c.is in
    record { head = tree; tail = c.head ∷ c.tail; after = c.after; spells = choices_more (merge_last (left_last spells)) k c.spells; says = c.says; is = all; whole = ap (λ (ps : Processes). proc_.choice ps) all }

pub read_choice : (text : List ℕ) (s : Summand) (ss : List Summand) → IsSpelledSummand s → AreSpelledSummands ss → (gap : List ℕ) (rest : List Piece) (ts : List Token) → Says text (print_summand s gap (print_summands ss rest)) ts → ChoiceRead text s ss rest ts
read_choice text s [] ok oks gap rest ts says =
    let r = read_summand text s ok gap rest ts says in
    record { head = r.tree; tail = []; after = r.after; spells = choices_last (merge_last (left_last r.spells)); says = r.says; is = ap (λ (p : Process). proc_.more p proc_.none) r.is; whole = r.is }
read_choice text s (r ∷ ss) ok oks gap rest ts says =
    let o = read_summand text s ok gap (print_summands (r ∷ ss) rest) ts says in
    one_choice text s r ss rest ts o.after o.in_sum o.in_cond o.tree o.spells o.is (λ vs q. read_choice text r ss oks.0 oks.1 space rest vs q) o.says
