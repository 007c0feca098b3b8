-- Tokens that say the same spell the same declaration.
use Rattle.std.proofs.Common.{◌≡◌, ◌++◌, ℕ, List, [], ◌∷◌, map, refl, ap, ap₂, sym, ◌∙◌, subst}
use Rattle.std.specs.Prelude.{Option, Some, None}
use Rattle.mcrl2_lexer.specs.declared.kind.Kind.{Kind}
use Rattle.mcrl2_lexer.specs.declared.kind.Kind.TheVariants as kind_
use Rattle.mcrl2_lexer.specs.declared.token.Token.{Token}
use Rattle.mcrl2_syntax.specs.declared.declaration.SectionWord.TheVariants as sections
use Rattle.mcrl2_syntax.specs.Words.{PlainWord}
use Rattle.mcrl2_syntax.specs.SortTrees.{PlainSort}
use Rattle.mcrl2_syntax.specs.DataTrees.{PlainData}
use Rattle.mcrl2_syntax.specs.ProcessParts.{PlainVarGroup}
use Rattle.mcrl2_syntax.specs.Declarations.{PlainField, PlainConstructor}
use Rattle.mcrl2_syntax.specs.SpelledWords.{SpellsName, a_name, SpellsList, last_item, more_items}
use Rattle.mcrl2_syntax.specs.SpelledSorts.{SpellsSort, spells_bool, spells_pos, spells_nat, spells_int, spells_list, spells_named_sort, spells_brackets_sort}
use Rattle.mcrl2_syntax.specs.SpelledData.{SpellsData}
use Rattle.mcrl2_syntax.specs.SpelledLabels.{SpellsVarGroup, variables}
use Rattle.mcrl2_syntax.specs.SpelledDeclarations.{SpellsNames, SpellsDomain, SpellsField, field_bare, field_named, SpellsFields, no_fields, some_fields, SpellsRecogniser, no_recogniser, a_recogniser, SpellsConstructor, a_constructor, SpellsSignature, of_constants, of_functions, decl_sorts, decl_alias, decl_struct, decl_cons, decl_map, decl_vars, decl_equation, decl_conditional, decl_acts, decl_acts_over, decl_proc, decl_proc_over, decl_init}
use Rattle.sort_table.specs.Expressions.{Name, Expression}
use Rattle.sort_table.specs.BareData.{bare_data}
use Rattle.sort_table.specs.BareSorts.{SortExpression, lists_of, a_name as name_of, bare_sort}
use Rattle.sort_table.specs.BareProcesses.{Variables, bare_name, bare_group, bare_variables}
use Rattle.sort_table.specs.BareDeclarations as bare
use Rattle.sort_table.specs.BareDeclarations.{Field, Constructor, Declaration, bare_word, bare_field, bare_constructor, bare_declaration}
use Rattle.lps_printer.specs.CopyLaws.{Alike, alike_more, SpellsDeclarationCopy, DeclarationCopiesSpellTheSame}
use Rattle.lps_printer.proofs.CopiedData.{Copy, copy_level, none_alike}

-- ---- words and sorts
abbrev NameCopy : List ℕ → List ℕ → PlainWord → List Token → List Token → Type 0
NameCopy text other w = Copy PlainWord Name bare_name text other (SpellsName other) (bare_name w)

copy_name : (text other : List ℕ) (w : PlainWord) (ts r us : List Token) → SpellsName text w ts r → Alike text other ts us → NameCopy text other w r us
copy_name text other w ts r us (a_name k) (alike_more {us = vs} h s a) = record { tree = _; after = vs; spells = a_name (sym h ∙ k); alike = a; is = sym s }

abbrev SortCopy : List ℕ → List ℕ → PlainSort → List Token → List Token → Type 0
SortCopy text other d = Copy PlainSort SortExpression bare_sort text other (SpellsSort other) (bare_sort d)

close_list_sort : {text other : List ℕ} (d : PlainSort) {v : Token} {r : List Token} (t u : Token) (us after : List Token) (tree : PlainSort) → t.kind ≡ kind_.ListWord → u.kind ≡ kind_.LeftParen → v.kind ≡ kind_.RightParen → SpellsSort other tree us after
    → Alike text other (v ∷ r) after → bare_sort tree ≡ bare_sort d → Copy PlainSort SortExpression bare_sort text other (SpellsSort other) (lists_of (bare_sort d)) r (t ∷ u ∷ us)
close_list_sort d t u us after tree k o l spells (alike_more {us = vs} h s a) is = record { tree = _; after = vs; spells = spells_list k o spells (sym h ∙ l); alike = a; is = ap lists_of is }

close_brackets_sort : {text other : List ℕ} (d : PlainSort) {v : Token} {r : List Token} (t : Token) (us after : List Token) (tree : PlainSort) → t.kind ≡ kind_.LeftParen → v.kind ≡ kind_.RightParen → SpellsSort other tree us after
    → Alike text other (v ∷ r) after → bare_sort tree ≡ bare_sort d → Copy PlainSort SortExpression bare_sort text other (SpellsSort other) (bare_sort d) r (t ∷ us)
close_brackets_sort d t us after tree k l spells (alike_more {us = vs} h s a) is = record { tree = _; after = vs; spells = spells_brackets_sort k spells (sym h ∙ l); alike = a; is = is }

copy_sort : {text other : List ℕ} {d : PlainSort} {ts r us : List Token} → SpellsSort text d ts r → Alike text other ts us → SortCopy text other d r us
copy_sort (spells_bool k) (alike_more {us = us} h s a) = record { tree = _; after = us; spells = spells_bool (sym h ∙ k); alike = a; is = refl }
copy_sort (spells_pos k) (alike_more {us = us} h s a) = record { tree = _; after = us; spells = spells_pos (sym h ∙ k); alike = a; is = refl }
copy_sort (spells_nat k) (alike_more {us = us} h s a) = record { tree = _; after = us; spells = spells_nat (sym h ∙ k); alike = a; is = refl }
copy_sort (spells_int k) (alike_more {us = us} h s a) = record { tree = _; after = us; spells = spells_int (sym h ∙ k); alike = a; is = refl }
copy_sort (spells_named_sort k) (alike_more {us = us} h s a) = record { tree = _; after = us; spells = spells_named_sort (sym h ∙ k); alike = a; is = ap name_of (sym s) }
copy_sort (spells_list {s = d} k o inner l) (alike_more {u = t} h s (alike_more {u = u} {us = us} i p a)) =
    let c = copy_sort inner a in close_list_sort d t u us c.after c.tree (sym h ∙ k) (sym i ∙ o) l c.spells c.alike c.is
copy_sort (spells_brackets_sort {s = d} k inner l) (alike_more {u = t} {us = us} h s a) =
    let c = copy_sort inner a in close_brackets_sort d t us c.after c.tree (sym h ∙ k) l c.spells c.alike c.is

-- ---- lists
abbrev ListCopy : (Item Bare : Type 0) → (Item → Bare) → List ℕ → List ℕ → (Item → List Token → List Token → Type 0) → Kind → List Item → List Token → List Token → Type 0
ListCopy Item Bare to text other Spells separator xs = Copy (List Item) (List Bare) (map to) text other (SpellsList Spells separator) (map to xs)

module _ (Item Bare : Type 0) (to : Item → Bare) (text other : List ℕ) (Own Others : Item → List Token → List Token → Type 0) (separator : Kind)
    (copy : (x : Item) (ts r us : List Token) → Own x ts r → Alike text other ts us → Copy Item Bare to text other Others (to x) r us) where
  behind_separator : (x : Item) (xs : List Item) {v : Token} {r rest us : List Token} (after : List Token) (tree : Item) → v.kind ≡ separator → Others tree us after → to tree ≡ to x
      → ((vs : List Token) → Alike text other rest vs → ListCopy Item Bare to text other Others separator xs r vs) → Alike text other (v ∷ rest) after → ListCopy Item Bare to text other Others separator (x ∷ xs) r us
  behind_separator x xs after tree k spells is read (alike_more {us = vs} h s a) =
      let c = read vs a in
      record { tree = tree ∷ c.tree; after = c.after; spells = more_items spells (sym h ∙ k) c.spells; alike = c.alike; is = ap₂ (λ (y : Bare) (ys : List Bare). y ∷ ys) is c.is }

  copy_list : (xs : List Item) (ts r us : List Token) → SpellsList Own separator xs ts r → Alike text other ts us → ListCopy Item Bare to text other Others separator xs r us
  copy_list xs ts r us (last_item {item = x} one) a =
      let c = copy x ts r us one a in record { tree = c.tree ∷ []; after = c.after; spells = last_item c.spells; alike = c.alike; is = ap (λ (y : Bare). y ∷ []) c.is }
  copy_list xs ts r us (more_items {item = x} {items = ys} {us = vs} one k others) a =
      let c = copy x ts _ us one a in behind_separator x ys c.after c.tree k c.spells c.is (λ ws b. copy_list ys vs r ws others b) c.alike

copy_names : (text other : List ℕ) (ws : List PlainWord) (ts r us : List Token) → SpellsNames text ws ts r → Alike text other ts us → ListCopy PlainWord Name bare_name text other (SpellsName other) kind_.Comma ws r us
copy_names text other = copy_list PlainWord Name bare_name text other (SpellsName text) (SpellsName other) kind_.Comma (copy_name text other)

copy_domain : (text other : List ℕ) (ss : List PlainSort) (ts r us : List Token) → SpellsDomain text ss ts r → Alike text other ts us → ListCopy PlainSort SortExpression bare_sort text other (SpellsSort other) kind_.Hash ss r us
copy_domain text other = copy_list PlainSort SortExpression bare_sort text other (SpellsSort text) (SpellsSort other) kind_.Hash (λ x ts r us p a. copy_sort p a)

-- ---- variables
abbrev GroupCopy : List ℕ → List ℕ → PlainVarGroup → List Token → List Token → Type 0
GroupCopy text other g = Copy PlainVarGroup Variables bare_group text other (SpellsVarGroup other) (bare_group g)

abbrev with_sort : SortExpression → PlainWord → Name × SortExpression
with_sort e w = (w.bytes, e)

abbrev sorted : SortExpression → Name → Name × SortExpression
sorted e n = (n, e)

group_is : (ws : List PlainWord) (e : SortExpression) → map (with_sort e) ws ≡ map (sorted e) (map bare_name ws)
group_is [] e = refl
group_is (w ∷ ws) e = ap (λ (xs : Variables). (w.bytes, e) ∷ xs) (group_is ws e)

close_group : (text other : List ℕ) (ws vs : List PlainWord) (d : PlainSort) {c : Token} {rest r us : List Token} (after : List Token) → map bare_name vs ≡ map bare_name ws → SpellsNames other vs us after → c.kind ≡ kind_.Colon
    → ((xs : List Token) → Alike text other rest xs → SortCopy text other d r xs) → Alike text other (c ∷ rest) after → Copy PlainVarGroup Variables bare_group text other (SpellsVarGroup other) (map (with_sort (bare_sort d)) ws) r us
close_group text other ws vs d after is spells k read (alike_more {us = xs} h s a) =
    let c = read xs a in
    record {
      tree = _;
      after = c.after;
      spells = variables spells (sym h ∙ k) c.spells;
      alike = c.alike;
      is = group_is vs (bare_sort c.tree) ∙ ap₂ (λ (ns : List Name) (e : SortExpression). map (sorted e) ns) is c.is ∙ sym (group_is ws (bare_sort d));
    }

copy_group : (text other : List ℕ) (g : PlainVarGroup) (ts r us : List Token) → SpellsVarGroup text g ts r → Alike text other ts us → GroupCopy text other g r us
copy_group text other g ts r us (variables {names = ws} {s = d} names k sort) a =
    let c = copy_names text other ws ts _ us names a in close_group text other ws c.tree d c.after c.is c.spells k (λ xs b. copy_sort sort b) c.alike

-- ---- constructors
abbrev FieldCopy : List ℕ → List ℕ → PlainField → List Token → List Token → Type 0
FieldCopy text other f = Copy PlainField Field bare_field text other (SpellsField other) (bare_field f)

copy_field : (text other : List ℕ) (f : PlainField) (ts r us : List Token) → SpellsField text f ts r → Alike text other ts us → FieldCopy text other f r us
copy_field text other f ts r us (field_bare sort) a = let c = copy_sort sort a in record { tree = _; after = c.after; spells = field_bare c.spells; alike = c.alike; is = ap (λ (e : SortExpression). record { name = None; sort = e }) c.is }
copy_field text other f ts r us (field_named k l sort) (alike_more h s (alike_more i p a)) =
    let c = copy_sort sort a in record { tree = _; after = c.after; spells = field_named (sym h ∙ k) (sym i ∙ l) c.spells; alike = c.alike; is = ap₂ (λ (n : Name) (e : SortExpression). record { name = Some n; sort = e }) (sym s) c.is }

-- behind the token in front
record FieldsCopy (text other : List ℕ) (t : Token) (fs : List PlainField) (r us : List Token) : Type 0 where
  tree : List PlainField
  last : Token
  after : List Token
  spells : SpellsFields other t tree last us after
  alike : Alike text other r after
  is : map bare_field tree ≡ map bare_field fs

close_fields : (text other : List ℕ) (t u : Token) (fs trees : List PlainField) {v : Token} {r us : List Token} (after : List Token) → u.kind ≡ kind_.LeftParen → v.kind ≡ kind_.RightParen → SpellsList (SpellsField other) kind_.Comma trees us after
    → map bare_field trees ≡ map bare_field fs → Alike text other (v ∷ r) after → FieldsCopy text other t fs r (u ∷ us)
close_fields text other t u fs trees after k l spells is (alike_more {us = vs} h s a) = record { tree = trees; last = _; after = vs; spells = some_fields k spells (sym h ∙ l); alike = a; is = is }

copy_fields : (text other : List ℕ) (t : Token) {t_ u_ : Token} (fs : List PlainField) (ts r us : List Token) → SpellsFields text t_ fs u_ ts r → Alike text other ts us → FieldsCopy text other t fs r us
copy_fields text other t fs ts r us no_fields a = record { tree = []; last = t; after = us; spells = no_fields; alike = a; is = refl }
copy_fields text other t fs ts r us (some_fields {ts = vs} k fields l) (alike_more {u = u} {us = ws} h s a) =
    let c = copy_list PlainField Field bare_field text other (SpellsField text) (SpellsField other) kind_.Comma (copy_field text other) fs vs _ ws fields a in
    close_fields text other t u fs c.tree c.after (sym h ∙ k) l c.spells c.is c.alike

record RecogniserCopy (text other : List ℕ) (t : Token) (o : Option PlainWord) (r us : List Token) : Type 0 where
  tree : Option PlainWord
  last : Token
  after : List Token
  spells : SpellsRecogniser other t tree last us after
  alike : Alike text other r after
  is : bare_word tree ≡ bare_word o

copy_recogniser : (text other : List ℕ) (t : Token) {t_ u_ : Token} (o : Option PlainWord) (ts r us : List Token) → SpellsRecogniser text t_ o u_ ts r → Alike text other ts us → RecogniserCopy text other t o r us
copy_recogniser text other t o ts r us no_recogniser a = record { tree = None; last = t; after = us; spells = no_recogniser; alike = a; is = refl }
copy_recogniser text other t o ts r us (a_recogniser k l) (alike_more h s (alike_more {us = vs} i p a)) = record { tree = _; last = _; after = vs; spells = a_recogniser (sym h ∙ k) (sym i ∙ l); alike = a; is = ap (λ (n : Name). Some n) (sym p) }

abbrev made : Name → List Field → Option Name → Constructor
made n fs o = record { name = n; fields = fs; recogniser = o }

pub three : (n m : Name) (fs gs : List Field) (o p : Option Name) → n ≡ m → fs ≡ gs → o ≡ p → made n fs o ≡ made m gs p
three n m fs gs o p h i j = ap (λ (x : Name). made x fs o) h ∙ ap (λ (x : List Field). made m x o) i ∙ ap (λ (x : Option Name). made m gs x) j

abbrev ConstructorCopy : List ℕ → List ℕ → PlainConstructor → List Token → List Token → Type 0
ConstructorCopy text other c = Copy PlainConstructor Constructor bare_constructor text other (SpellsConstructor other) (bare_constructor c)

copy_constructor : (text other : List ℕ) (c : PlainConstructor) (ts r us : List Token) → SpellsConstructor text c ts r → Alike text other ts us → ConstructorCopy text other c r us
copy_constructor text other c ts r us (a_constructor {fields = fs} {recogniser = o} {ts = vs} {us = ws} k fields recogniser) (alike_more {u = t} {us = xs} h s a) =
    let f = copy_fields text other t fs vs ws xs fields a in
    let q = copy_recogniser text other f.last o ws r f.after recogniser f.alike in
    record { tree = _; after = q.after; spells = a_constructor (sym h ∙ k) f.spells q.spells; alike = q.alike; is = three _ _ _ _ _ _ (sym s) f.is q.is }

-- ---- declarations
record SignatureCopy (other : List ℕ) (ws : List PlainWord) (ss : List PlainSort) (to : PlainSort) (us : List Token) : Type 0 where
  names : List PlainWord
  domain : List PlainSort
  sort : PlainSort
  spells : SpellsSignature other names domain sort us
  same_names : map bare_name names ≡ map bare_name ws
  same_domain : map bare_sort domain ≡ map bare_sort ss
  same_sort : bare_sort sort ≡ bare_sort to

ends_alike : {text other : List ℕ} {us : List Token} {A : Type 0} (Spells : A → List Token → List Token → Type 0) (x : A) (ts : List Token) → Spells x ts us → Alike text other [] us → Spells x ts []
ends_alike Spells x ts spells a = subst (λ (r : List Token). Spells x ts r) (none_alike a) spells

close_constants : (text other : List ℕ) (ws vs : List PlainWord) (to : PlainSort) {c : Token} {rest us : List Token} (after : List Token) → map bare_name vs ≡ map bare_name ws → SpellsNames other vs us after → c.kind ≡ kind_.Colon → SpellsSort text to rest []
    → Alike text other (c ∷ rest) after → SignatureCopy other ws [] to us
close_constants text other ws vs to after is spells k sort (alike_more h s a) =
    let c = copy_sort sort a in
    record { names = vs; domain = []; sort = c.tree; spells = of_constants spells (sym h ∙ k) (ends_alike (SpellsSort other) c.tree _ c.spells c.alike); same_names = is; same_domain = refl; same_sort = c.is }

close_result : (text other : List ℕ) (ws vs : List PlainWord) (ss rs : List PlainSort) (to : PlainSort) {c a_ : Token} {rest xs us : List Token} (after : List Token) → map bare_name vs ≡ map bare_name ws → map bare_sort rs ≡ map bare_sort ss
    → SpellsNames other vs us (c ∷ xs) → c.kind ≡ kind_.Colon → SpellsDomain other rs xs after → a_.kind ≡ kind_.Arrow → SpellsSort text to rest [] → Alike text other (a_ ∷ rest) after → SignatureCopy other ws ss to us
close_result text other ws vs ss rs to after is js names k domain l sort (alike_more h s a) =
    let c = copy_sort sort a in
    record { names = vs; domain = rs; sort = c.tree; spells = of_functions names k domain (sym h ∙ l) (ends_alike (SpellsSort other) c.tree _ c.spells c.alike); same_names = is; same_domain = js; same_sort = c.is }

close_functions : (text other : List ℕ) (ws vs : List PlainWord) (ss : List PlainSort) (to : PlainSort) {c a_ : Token} {rest more us : List Token} (after : List Token) → map bare_name vs ≡ map bare_name ws → SpellsNames other vs us after → c.kind ≡ kind_.Colon
    → SpellsDomain text ss rest (a_ ∷ more) → a_.kind ≡ kind_.Arrow → SpellsSort text to more [] → Alike text other (c ∷ rest) after → SignatureCopy other ws ss to us
close_functions text other ws vs ss to {rest = rest} after is spells k domain l sort (alike_more {us = xs} h s a) =
    let d = copy_domain text other ss rest _ xs domain a in close_result text other ws vs ss d.tree to d.after is d.is spells (sym h ∙ k) d.spells l sort d.alike

copy_signature : (text other : List ℕ) (ws : List PlainWord) (ss : List PlainSort) (to : PlainSort) (ts us : List Token) → SpellsSignature text ws ss to ts → Alike text other ts us → SignatureCopy other ws ss to us
copy_signature text other ws ss to ts us (of_constants names k sort) a = let c = copy_names text other ws ts _ us names a in close_constants text other ws c.tree to c.after c.is c.spells k sort c.alike
copy_signature text other ws ss to ts us (of_functions names k domain l sort) a = let c = copy_names text other ws ts _ us names a in close_functions text other ws c.tree ss to c.after c.is c.spells k domain l sort c.alike

signature_is : (to : List Name → List SortExpression → SortExpression → Declaration) (ws vs : List Name) (ss rs : List SortExpression) (d e : SortExpression) → ws ≡ vs → ss ≡ rs → d ≡ e → to ws ss d ≡ to vs rs e
signature_is to ws vs ss rs d e h i j = ap (λ (x : List Name). to x ss d) h ∙ ap (λ (x : List SortExpression). to vs x d) i ∙ ap (λ (x : SortExpression). to vs rs x) j

all_variables : List Variables → Variables
all_variables [] = []
all_variables (v ∷ vs) = v ++ all_variables vs

variables_are : (gs : List PlainVarGroup) → bare_variables gs ≡ all_variables (map bare_group gs)
unfolding all_variables
variables_are [] = refl
variables_are (g ∷ gs) = ap (λ (vs : Variables). bare_group g ++ vs) (variables_are gs)

-- ---- equations
record SidesCopy (other : List ℕ) (left right : PlainData) (us : List Token) : Type 0 where
  sign : Token
  first : PlainData
  second : PlainData
  others : List Token
  left_spells : SpellsData other first us (sign ∷ others)
  equals : sign.kind ≡ kind_.Equals
  right_spells : SpellsData other second others []
  same_left : bare_data first ≡ bare_data left
  same_right : bare_data second ≡ bare_data right

close_sides : (text other : List ℕ) (left right first : PlainData) {e : Token} {rest us : List Token} (after : List Token) → SpellsData other first us after → bare_data first ≡ bare_data left → e.kind ≡ kind_.Equals → SpellsData text right rest []
    → Alike text other (e ∷ rest) after → SidesCopy other left right us
close_sides text other left right first after spells is k second (alike_more h s a) =
    let c = copy_level second a in
    record { sign = _; first = first; second = c.tree; others = _; left_spells = spells; equals = sym h ∙ k; right_spells = ends_alike (SpellsData other) c.tree _ c.spells c.alike; same_left = is; same_right = c.is }

copy_sides : (text other : List ℕ) (left right : PlainData) {e : Token} {rest : List Token} (ts us : List Token) → SpellsData text left ts (e ∷ rest) → e.kind ≡ kind_.Equals → SpellsData text right rest [] → Alike text other ts us → SidesCopy other left right us
copy_sides text other left right ts us first k second a = let c = copy_level first a in close_sides text other left right c.tree c.after c.spells c.is k second c.alike

close_conditional : (text other : List ℕ) (condition left right found : PlainData) {a_ e : Token} {rest more us : List Token} (after : List Token) → SpellsData other found us after → bare_data found ≡ bare_data condition → a_.kind ≡ kind_.Arrow
    → SpellsData text left rest (e ∷ more) → e.kind ≡ kind_.Equals → SpellsData text right more [] → Alike text other (a_ ∷ rest) after → SpellsDeclarationCopy other sections.Eqn us (bare.equation (Some (bare_data condition)) (bare_data left) (bare_data right))
close_conditional text other condition left right found {rest = rest} after spells is k first l second (alike_more {us = vs} h s a) =
    let c = copy_sides text other left right rest vs first l second a in
    record { tree = _; spells = decl_conditional spells (sym h ∙ k) c.left_spells c.equals c.right_spells; is = ap₂ (λ (x y : Expression). bare.equation (Some (bare_data found)) x y) c.same_left c.same_right ∙ ap (λ (x : Expression). bare.equation (Some x) (bare_data left) (bare_data right)) is }

-- ---- actions
close_acts_over : (text other : List ℕ) (ws vs : List PlainWord) (ss : List PlainSort) {c : Token} {rest us : List Token} (after : List Token) → map bare_name vs ≡ map bare_name ws → SpellsNames other vs us after → c.kind ≡ kind_.Colon → SpellsDomain text ss rest []
    → Alike text other (c ∷ rest) after → SpellsDeclarationCopy other sections.Act us (bare.actions (map bare_name ws) (map bare_sort ss))
close_acts_over text other ws vs ss {rest = rest} after is spells k domain (alike_more {us = xs} h s a) =
    let d = copy_domain text other ss rest [] xs domain a in
    record { tree = _; spells = decl_acts_over spells (sym h ∙ k) (ends_alike (SpellsDomain other) d.tree xs d.spells d.alike); is = ap₂ bare.actions is d.is }

-- ---- each declaration
pub declaration_copies_spell_the_same : DeclarationCopiesSpellTheSame
unfolding all_variables
declaration_copies_spell_the_same text other word ts us d g (decl_sorts {names = ws} names) a =
    let c = copy_names text other ws ts [] us names a in record { tree = _; spells = decl_sorts (ends_alike (SpellsNames other) c.tree us c.spells c.alike); is = ap bare.sorts c.is }
declaration_copies_spell_the_same text other word ts us d g (decl_alias k l sort) (alike_more h s (alike_more {us = vs} i p a)) =
    let c = copy_sort sort a in record { tree = _; spells = decl_alias (sym h ∙ k) (sym i ∙ l) (ends_alike (SpellsSort other) c.tree vs c.spells c.alike); is = ap₂ bare.alias (sym s) c.is }
declaration_copies_spell_the_same text other word ts us d g (decl_struct {constructors = cs} {ts = vs} k l m constructors) (alike_more h s (alike_more i p (alike_more {us = ws} j q a))) =
    let c = copy_list PlainConstructor Constructor bare_constructor text other (SpellsConstructor text) (SpellsConstructor other) kind_.Bar (copy_constructor text other) cs vs [] ws constructors a in
    record { tree = _; spells = decl_struct (sym h ∙ k) (sym i ∙ l) (sym j ∙ m) (ends_alike (SpellsList (SpellsConstructor other) kind_.Bar) c.tree ws c.spells c.alike); is = ap₂ bare.struct (sym s) c.is }
declaration_copies_spell_the_same text other word ts us d g (decl_cons {names = ws} {domain = ss} {sort = to} signature) a =
    let c = copy_signature text other ws ss to ts us signature a in record { tree = _; spells = decl_cons c.spells; is = signature_is bare.constructors _ _ _ _ _ _ c.same_names c.same_domain c.same_sort }
declaration_copies_spell_the_same text other word ts us d g (decl_map {names = ws} {domain = ss} {sort = to} signature) a =
    let c = copy_signature text other ws ss to ts us signature a in record { tree = _; spells = decl_map c.spells; is = signature_is bare.mappings _ _ _ _ _ _ c.same_names c.same_domain c.same_sort }
declaration_copies_spell_the_same text other word ts us d g (decl_vars {groups = gs} groups) a =
    let c = copy_list PlainVarGroup Variables bare_group text other (SpellsVarGroup text) (SpellsVarGroup other) kind_.Comma (copy_group text other) gs ts [] us groups a in
    record { tree = _; spells = decl_vars (ends_alike (SpellsList (SpellsVarGroup other) kind_.Comma) c.tree us c.spells c.alike); is = ap bare.variables (variables_are c.tree ∙ ap all_variables c.is ∙ sym (variables_are gs)) }
declaration_copies_spell_the_same text other word ts us d g (decl_equation {left = left} {right = right} first k second) a =
    let c = copy_sides text other left right ts us first k second a in record { tree = _; spells = decl_equation c.left_spells c.equals c.right_spells; is = ap₂ (λ (x y : Expression). bare.equation None x y) c.same_left c.same_right }
declaration_copies_spell_the_same text other word ts us d g (decl_conditional {condition = condition} {left = left} {right = right} first k second l third) a =
    let c = copy_level first a in close_conditional text other condition left right c.tree c.after c.spells c.is k second l third c.alike
declaration_copies_spell_the_same text other word ts us d g (decl_acts {names = ws} names) a =
    let c = copy_names text other ws ts [] us names a in record { tree = _; spells = decl_acts (ends_alike (SpellsNames other) c.tree us c.spells c.alike); is = ap (λ (x : List Name). bare.actions x []) c.is }
declaration_copies_spell_the_same text other word ts us d g (decl_acts_over {names = ws} {domain = ss} names k domain) a =
    let c = copy_names text other ws ts _ us names a in close_acts_over text other ws c.tree ss c.after c.is c.spells k domain c.alike
declaration_copies_spell_the_same text other word ts us d g (decl_proc k l body) a = absurd cc
declaration_copies_spell_the_same text other word ts us d g (decl_proc_over k l parameters m n body) a = absurd cc
declaration_copies_spell_the_same text other word ts us d g (decl_init body) a = absurd cc
