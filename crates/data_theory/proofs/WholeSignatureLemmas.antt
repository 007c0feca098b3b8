-- Each signature keeps its tables, and its names stay taken.
use Rattle.std.proofs.Common.{◌≡◌, ◌==◌, ℕ, zero, suc, ◌+◌, ◌<◌, ◌≤◌, List, [], ◌∷◌, ◌++◌, length, map, get_or, Bool, true, false, cond, Some, refl, sym, ap, ◌∙◌, subst, arith, length-append}
use Rattle.std.specs.Prelude.{slice_get, IfSome}
use Rattle.std.specs.List.{All, Contains, list_any}
use Rattle.std.proofs.lemmas.List.Elements.{All-nil, All-cons, All-head, All-tail, All-push, All-append, All-map, All-weaker, All-contains, All-contains_itself, All-from_recursion, Contains-append_left, Contains-append_right, Contains-push}
use Rattle.data_theory.specs.declared.ids.NameId.{NameId}
use Rattle.data_theory.specs.declared.ids.SortId.{SortId}
use Rattle.data_theory.specs.declared.ids.FunId.{FunId}
use Rattle.data_theory.specs.declared.words.Word.{Word}
use Rattle.data_theory.specs.declared.rows.Row.{Row}
use Rattle.data_theory.specs.declared.signature.Variable.{Variable}
use Rattle.data_theory.specs.Words.{text_of}
use Rattle.data_theory.specs.Names.{AreDifferent, with_text, with_texts, place_in, places_in}
use Rattle.data_theory.specs.Places.{HaveOnePlace}
use Rattle.data_theory.specs.Keys.{key}
use Rattle.data_theory.specs.SortNames.{IsName}
use Rattle.data_theory.specs.Functions.{Function, HasKey, AreNew, declared_function}
use Rattle.data_theory.specs.Taken.{with_name, with_names}
use Rattle.data_theory.specs.Sorts.{Kind, SortInfo, without_constructors, by_declarations, structured, with_kind, IsBare, IsAnyListOver, first_sorts, abstract_sort, list_sort}
use Rattle.data_theory.specs.Structs as structs
use Rattle.data_theory.specs.Structs.{Con, IsConWithin, all_projections, all_recognisers, struct_functions, numbers_from}
use Rattle.data_theory.specs.Rows.{row_word, built_in, built_ins}
use Rattle.data_theory.specs.Table.{first_table, sort_rows, list_table}
use Rattle.data_theory.specs.FirstNames.{first_names}
use Rattle.data_theory.specs.Signature.{Sig, IsTaken, IsTakenAmong, first_signature, with_taken, with_variable, with_function, with_alias, with_sort, with_list, with_constructors, with_struct, with_action, IsAct}
use Rattle.data_theory.specs.IdSorts.{construction_of}
use Rattle.data_theory.specs.IdData.{constructors_of}
use Rattle.data_theory.specs.IdRoles.{IsDeclaredTo, HasNoRole}
use Rattle.data_theory.specs.WholeSignatures.{HasItsName, HasDeclaredConstructors, HaveTheirRows, LeadToTheirSorts, IsSignature}
use Rattle.data_theory.proofs.NameLemmas.{place_is, place_reads, has_texts, text_behind}
use Rattle.data_theory.proofs.SignatureLemmas.{name_among}
use Rattle.data_theory.proofs.TableLemmas.{is_first_name}
use Rattle.data_theory.proofs.CompleteLemmas.{first_complete, text_complete, action_complete, variable_complete, alias_complete, function_complete, sort_complete, list_complete, constructors_complete}
use Rattle.data_theory.proofs.StructWithin.{length-constructors, struct_complete}
use Rattle.data_theory.proofs.IdTableLemmas.{still_read, the_first_signature_is_a_table, texts_keep_the_tables, actions_keep_the_tables, functions_keep_the_tables, declared_sorts_keep_the_tables, list_sorts_keep_the_tables, constructors_keep_the_tables}
use Rattle.data_theory.proofs.IdStructLemmas.{structs_keep_the_tables}
use Rattle.data_theory.proofs.IdRoleLemmas.{the_first_signature_has_roles, functions_keep_the_roles, declared_sorts_keep_the_roles, list_sorts_keep_the_roles, constructors_keep_the_roles}
use Rattle.data_theory.proofs.IdStructRoleLemmas.{number_among, among_numbers, structs_keep_the_roles}
use Rattle.data_theory.proofs.KeptEntries.{first_have_rows, rows_with_texts, rows_with_functions, rows_with_sort, rows_with_list, rows_with_kind, first_lead, lead_with_name, lead_with_sort, lead_with_list, lead_with_kind, names_still_differ, actions_still_differ, declared_to}

pub signature_as : (s t : Sig) → IsSignature s → t ≡ s → IsSignature t
signature_as s t h e = subst IsSignature (sym e) h

-- ---- names stay taken
name_stays : (ns : List NameId) (n m : NameId) → Contains ns m → Contains (with_name ns n) m
name_stays ns n m c = by_test (list_any (λ (k : NameId). n.0 == k.0) ns)
  where
    by_test : (b : Bool) → Contains (cond b ns (ns ++ n ∷ [])) m
    by_test true = c
    by_test false = Contains-append_left ns (n ∷ []) m c

name_added : (ns : List NameId) (n : NameId) → Contains (with_name ns n) n
name_added ns n = by_test (list_any (λ (m : NameId). n.0 == m.0) ns) refl
  where
    by_test : (b : Bool) → list_any (λ (m : NameId). n.0 == m.0) ns ≡ b → Contains (cond b ns (ns ++ n ∷ [])) n
    by_test true e = name_among ns n e
    by_test false e = Contains-push ns n

names_stay : (ns ms : List NameId) (n : NameId) → Contains ns n → Contains (with_names ns ms) n
names_stay ns [] n c = c
names_stay ns (m ∷ ms) n c = names_stay (with_name ns m) ms n (name_stays ns m n c)

names_added : (ns ms : List NameId) (n : NameId) → Contains ms n → Contains (with_names ns ms) n
names_added ns [] n c = absurd (omega (arith, c.1))
names_added ns (m ∷ ms) n (zero, l, e) = names_stay (with_name ns m) ms n (subst (Contains (with_name ns m)) e (name_added ns m))
names_added ns (m ∷ ms) n (suc k, l, e) = names_added (with_name ns m) ms n (k, omega (arith, l), e)

mapped : {A B : Type 0} (f : A → B) (xs : List A) (x : A) → Contains xs x → Contains (map f xs) (f x)
mapped f [] x c = absurd (omega (arith, c.1))
mapped f (y ∷ xs) x (zero, l, e) = (zero, omega arith, (λ i. f (e i)))
mapped f (y ∷ xs) x (suc k, l, e) = let c = mapped f xs x (k, omega (arith, l), e) in (suc c.0, omega (arith, c.1), c.2)

abbrev AreFunctionsTaken : List NameId → List Function → Type 0
AreFunctionsTaken taken fs = All (λ (f : Function). Contains taken f.name) fs

abbrev AreSortsTaken : List NameId → List (NameId × SortId) → Type 0
AreSortsTaken taken es = All (λ (e : NameId × SortId). Contains taken e.0) es

-- where texts come behind and further names are taken
module _ (g : Sig) (s : IsSignature g) (taken : List NameId) (stay : (n : NameId) → Contains g.taken n → Contains taken n) where
  words_stay : (texts : List (List ℕ)) → ((i : ℕ) (u : List ℕ) → slice_get g.texts i ≡ Some u → slice_get texts i ≡ Some u) → All (IsTakenAmong texts taken) first_names
  words_stay texts still = All-weaker (IsTaken g) (IsTakenAmong texts taken) (λ t h. (h.0, still h.0.0 t h.1, stay h.0 h.2)) first_names s.words_taken

  functions_stay : AreFunctionsTaken taken g.functions
  functions_stay = All-weaker (λ (f : Function). Contains g.taken f.name) (λ f. Contains taken f.name) (λ f c. stay f.name c) g.functions s.functions_taken

  sorts_stay : AreSortsTaken taken g.sort_names
  sorts_stay = All-weaker (λ (e : NameId × SortId). Contains g.taken e.0) (λ e. Contains taken e.0) (λ e c. stay e.0 c) g.sort_names s.sorts_taken

-- the names of built-in functions are taken
word_taken : (texts : List (List ℕ)) (taken : List NameId) → AreDifferent texts → All (IsTakenAmong texts taken) first_names → (w : Word) → Contains taken (place_in texts (text_of w))
word_taken texts taken d all w =
    let h = All-contains (IsTakenAmong texts taken) first_names (text_of w) all (is_first_name w) in
    subst (Contains taken) (place_is texts (text_of w) h.0.0 d h.1) h.2

rows_taken : (texts : List (List ℕ)) (taken : List NameId) → AreDifferent texts → All (IsTakenAmong texts taken) first_names → (rows : List Row) → AreFunctionsTaken taken (built_ins texts rows)
rows_taken texts taken d all rows = All-map (λ (f : Function). Contains taken f.name) (built_in texts) rows (λ k r l. word_taken texts taken d all (row_word (get_or rows k r)))

-- ---- declared sorts have names
no_kind : {P : Type 0} (none one : ℕ) → none ≡ 0 → one ≡ 1 → none ≡ one → P
no_kind none one a b e = absurd (omega (arith, a, b, e))

first_sorts_named : All HasItsName first_sorts
first_sorts_named = All-from_recursion HasItsName first_sorts (no_kind 0 1 refl refl, (no_kind 0 1 refl refl, (no_kind 0 1 refl refl, (no_kind 0 1 refl refl, tt))))

kinds_named : (ss : List SortInfo) (k : ℕ) (d : Kind) (x : SortInfo) → slice_get ss k ≡ Some x → x.kind ≡ without_constructors → All HasItsName ss → All HasItsName (with_kind ss k d)
kinds_named [] k d x at e all = cc
kinds_named (s ∷ ss) zero d x at e all =
    let same : s ≡ x = cc in
    let kind : s.kind ≡ without_constructors = ap (λ (y : SortInfo). y.kind) same ∙ e in
    let named = All-head HasItsName s ss all in
    All-cons HasItsName (record s { kind = d }) ss (λ _. named (ap (λ c. length (construction_of c)) kind)) (All-tail HasItsName s ss all)
kinds_named (s ∷ ss) (suc k) d x at e all = All-cons HasItsName s (with_kind ss k d) (All-head HasItsName s ss all) (kinds_named ss k d x at e (All-tail HasItsName s ss all))

-- ---- constructors are declared
first_constructors : (ds : List FunId) → All (HasDeclaredConstructors ds) first_sorts
first_constructors ds = let none = All-nil (Contains ds) in All-from_recursion (HasDeclaredConstructors ds) first_sorts (none, (none, (none, (none, tt))))

kinds_declared : (ds : List FunId) (ss : List SortInfo) (k : ℕ) (d : Kind) → All (Contains ds) (constructors_of d) → All (HasDeclaredConstructors ds) ss → All (HasDeclaredConstructors ds) (with_kind ss k d)
kinds_declared ds [] k d new all = all
kinds_declared ds (s ∷ ss) zero d new all = All-cons (HasDeclaredConstructors ds) (record s { kind = d }) ss new (All-tail (HasDeclaredConstructors ds) s ss all)
kinds_declared ds (s ∷ ss) (suc k) d new all =
    All-cons (HasDeclaredConstructors ds) s (with_kind ss k d) (All-head (HasDeclaredConstructors ds) s ss all) (kinds_declared ds ss k d new (All-tail (HasDeclaredConstructors ds) s ss all))

more_declared : (ds more : List FunId) (ss : List SortInfo) → All (HasDeclaredConstructors ds) ss → All (HasDeclaredConstructors (ds ++ more)) ss
more_declared ds more ss all =
    All-weaker (HasDeclaredConstructors ds) (HasDeclaredConstructors (ds ++ more))
    (λ s h. All-weaker (Contains ds) (Contains (ds ++ more)) (λ f c. Contains-append_left ds more f c) (constructors_of s.kind) h)
    ss all

-- those of a `struct` are the first that it declares
struct_constructors : (ds : List FunId) (sort : SortId) (n : ℕ) (cs : List Con) → All (Contains (ds ++ numbers_from n (length (struct_functions sort n cs)))) (numbers_from n (length cs))
struct_constructors ds sort n cs =
    let fs : List Function = struct_functions sort n cs in
    let ps : List Function = all_projections sort cs in
    let made : List Function = structs.constructors_of sort (n + length cs) (n + length cs + length ps) cs in
    let long : length cs ≤ length fs = omega (arith, length-append (made ++ ps) (all_recognisers sort cs), length-append made ps, length-constructors sort (n + length cs) (n + length cs + length ps) cs) in
    let numbers : List FunId = numbers_from n (length fs) in
    All-weaker (Contains (numbers_from n (length cs))) (Contains (ds ++ numbers))
    (λ f c. let i = number_among n (length cs) f c in let low = i.1 in Contains-append_right ds numbers f (among_numbers n (length fs) i.0 f (omega (arith, low, long)) i.2))
    (numbers_from n (length cs)) (All-contains_itself (numbers_from n (length cs)))

-- ---- how a signature begins
first_words_taken : (given : List (List ℕ)) → All (IsTaken (first_signature given)) first_names
unfolding first_signature
first_words_taken given =
    let texts : List (List ℕ) = with_texts given first_names in
    All-weaker (Contains first_names) (IsTakenAmong texts (with_names [] (places_in texts first_names)))
    (λ t c. (place_in texts t, place_reads texts t (has_texts given first_names t c), names_added [] (places_in texts first_names) (place_in texts t) (mapped (place_in texts) first_names t c)))
    first_names (All-contains_itself first_names)

first_functions_taken : (given : List (List ℕ)) → AreDifferent (first_signature given).texts → AreFunctionsTaken (first_signature given).taken (first_signature given).functions
unfolding first_signature
first_functions_taken given d =
    let texts : List (List ℕ) = with_texts given first_names in
    rows_taken texts (with_names [] (places_in texts first_names)) d (first_words_taken given) first_table

first_sorts_taken : (given : List (List ℕ)) → AreSortsTaken (first_signature given).taken (first_signature given).sort_names
unfolding first_signature
first_sorts_taken given = All-nil (λ (e : NameId × SortId). Contains (with_names [] (places_in (with_texts given first_names) first_names)) e.0)

first_names_of_sorts : (given : List (List ℕ)) → All HasItsName (first_signature given).sorts
unfolding first_signature
first_names_of_sorts given = first_sorts_named

no_constructors : (given : List (List ℕ)) → All (HasDeclaredConstructors (first_signature given).declared) (first_signature given).sorts
unfolding first_signature
no_constructors given = first_constructors []

first_rows_there : (given : List (List ℕ)) → HaveTheirRows (first_signature given).texts (first_signature given).sorts (first_signature given).functions
unfolding first_signature
first_rows_there given = first_have_rows (with_texts given first_names)

no_names : (given : List (List ℕ)) → HaveOnePlace (map (λ (e : NameId × SortId). e.0) (first_signature given).sort_names)
unfolding first_signature
no_names given i j x a b = cc

first_names_there : (given : List (List ℕ)) → LeadToTheirSorts (first_signature given).sorts (first_signature given).sort_names
unfolding first_signature
first_names_there given = first_lead []

no_actions : (given : List (List ℕ)) → HaveOnePlace (first_signature given).actions
unfolding first_signature
no_actions given i j x a b = cc

pub first_stands : (given : List (List ℕ)) → AreDifferent given → IsSignature (first_signature given)
first_stands given d =
    let table = the_first_signature_is_a_table given d in
    record {
      complete = first_complete given;
      table = table;
      rows = first_rows_there given;
      words_taken = first_words_taken given;
      functions_taken = first_functions_taken given table.different;
      sorts_taken = first_sorts_taken given;
      sort_names_differ = no_names given;
      sorts_named = first_names_of_sorts given;
      first_names_lead = first_names_there given;
      actions_differ = no_actions given;
      constructors_declared = no_constructors given;
      roles = the_first_signature_has_roles given;
    }

-- ---- what a call adds
pub text_stands : (g : Sig) (t : List ℕ) → IsSignature g → IsSignature (with_taken g t)
text_stands g t s =
    let texts : List (List ℕ) = with_text g.texts t in
    let stay = name_stays g.taken (place_in texts t) in
    record {
      complete = text_complete g t s.complete;
      table = texts_keep_the_tables g t s.table;
      rows = rows_with_texts g.texts texts g.sorts g.functions (text_behind g.texts t) s.complete.words s.rows;
      words_taken = words_stay g s _ stay texts (still_read g.texts texts (text_behind g.texts t));
      functions_taken = functions_stay g s _ stay;
      sorts_taken = sorts_stay g s _ stay;
      sort_names_differ = s.sort_names_differ;
      sorts_named = s.sorts_named;
      first_names_lead = s.first_names_lead;
      actions_differ = s.actions_differ;
      constructors_declared = s.constructors_declared;
      roles = s.roles;
    }

pub action_stands : (g : Sig) (t : List ℕ) (sorts : List SortId) → IsSignature g → All (λ i. i.0 < length g.sorts) sorts → (IsAct g t sorts → ⊥) → IsSignature (with_action g t sorts)
action_stands g t sorts s within absent =
    let texts : List (List ℕ) = with_text g.texts t in
    record {
      complete = action_complete g t sorts s.complete within;
      table = actions_keep_the_tables g t sorts s.table;
      rows = rows_with_texts g.texts texts g.sorts g.functions (text_behind g.texts t) s.complete.words s.rows;
      words_taken = words_stay g s g.taken (λ n c. c) texts (still_read g.texts texts (text_behind g.texts t));
      functions_taken = s.functions_taken;
      sorts_taken = s.sorts_taken;
      sort_names_differ = s.sort_names_differ;
      sorts_named = s.sorts_named;
      first_names_lead = s.first_names_lead;
      actions_differ = actions_still_differ g t sorts s.complete absent s.actions_differ;
      constructors_declared = s.constructors_declared;
      roles = s.roles;
    }

pub variable_stands : (g : Sig) (v : Variable) → IsSignature g → v.name.0 < length g.texts → v.sort.0 < length g.sorts → IsSignature (with_variable g v)
variable_stands g v s n o = record {
  complete = variable_complete g v s.complete n o;
  table = s.table;
  rows = s.rows;
  words_taken = s.words_taken;
  functions_taken = s.functions_taken;
  sorts_taken = s.sorts_taken;
  sort_names_differ = s.sort_names_differ;
  sorts_named = s.sorts_named;
  first_names_lead = s.first_names_lead;
  actions_differ = s.actions_differ;
  constructors_declared = s.constructors_declared;
  roles = s.roles;
}

pub alias_stands : (g : Sig) (n : NameId) (sort : SortId) → IsSignature g → n.0 < length g.texts → sort.0 < length g.sorts → (IsName g.sort_names n → ⊥) → IsSignature (with_alias g n sort)
alias_stands g n sort s a b absent =
    let stay = name_stays g.taken n in
    record {
      complete = alias_complete g n sort s.complete a b;
      table = s.table;
      rows = s.rows;
      words_taken = words_stay g s _ stay g.texts (λ i u e. e);
      functions_taken = functions_stay g s _ stay;
      sorts_taken = All-push (λ (e : NameId × SortId). Contains (with_name g.taken n) e.0) g.sort_names (n, sort) (sorts_stay g s _ stay) (name_added g.taken n);
      sort_names_differ = names_still_differ g.sort_names n sort absent s.sort_names_differ;
      sorts_named = s.sorts_named;
      first_names_lead = lead_with_name g.sorts g.sort_names n sort s.first_names_lead;
      actions_differ = s.actions_differ;
      constructors_declared = s.constructors_declared;
      roles = s.roles;
    }

pub function_stands : (g : Sig) (n : NameId) (args : List SortId) (to : SortId) → IsSignature g → n.0 < length g.texts → All (λ a. a.0 < length g.sorts) args → to.0 < length g.sorts → ((k : ℕ) → HasKey g.functions (key n args) k → ⊥)
    → IsSignature (with_function g (declared_function n args to))
function_stands g n args to s a b d none =
    let stay = name_stays g.taken n in
    record {
      complete = function_complete g n args to s.complete a b d;
      table = functions_keep_the_tables g n args to s.table b d none;
      rows = rows_with_functions g.texts g.sorts g.functions (declared_function n args to ∷ []) s.rows;
      words_taken = words_stay g s _ stay g.texts (λ i u e. e);
      functions_taken = All-push (λ (f : Function). Contains (with_name g.taken n) f.name) g.functions (declared_function n args to) (functions_stay g s _ stay) (name_added g.taken n);
      sorts_taken = sorts_stay g s _ stay;
      sort_names_differ = s.sort_names_differ;
      sorts_named = s.sorts_named;
      first_names_lead = s.first_names_lead;
      actions_differ = s.actions_differ;
      constructors_declared = more_declared g.declared (record { 0 = length g.functions } ∷ []) g.sorts s.constructors_declared;
      roles = functions_keep_the_roles g n args to s.roles;
    }

pub sort_stands : (g : Sig) (n : NameId) → IsSignature g → n.0 < length g.texts → (IsName g.sort_names n → ⊥) → IsSignature (with_sort g n)
sort_stands g n s b absent =
    let sort : SortId = record { 0 = length g.sorts } in
    let taken : List NameId = with_name g.taken n in
    let stay = name_stays g.taken n in
    let words = words_stay g s taken stay g.texts (λ i u e. e) in
    record {
      complete = sort_complete g n s.complete b;
      table = declared_sorts_keep_the_tables g n s.complete s.table;
      rows = rows_with_sort g.texts g.sorts g.functions n s.rows;
      words_taken = words;
      functions_taken = All-append (λ (f : Function). Contains taken f.name) g.functions (built_ins g.texts (sort_rows sort)) (functions_stay g s taken stay) (rows_taken g.texts taken s.table.different words (sort_rows sort));
      sorts_taken = All-push (λ (e : NameId × SortId). Contains taken e.0) g.sort_names (n, sort) (sorts_stay g s taken stay) (name_added g.taken n);
      sort_names_differ = names_still_differ g.sort_names n sort absent s.sort_names_differ;
      sorts_named = All-push HasItsName g.sorts (abstract_sort n) s.sorts_named (λ _. refl);
      first_names_lead = lead_with_sort g.sorts g.sort_names n s.first_names_lead;
      actions_differ = s.actions_differ;
      constructors_declared = All-push (HasDeclaredConstructors g.declared) g.sorts (abstract_sort n) s.constructors_declared (All-nil (Contains g.declared));
      roles = declared_sorts_keep_the_roles g n s.roles;
    }

pub list_stands : (g : Sig) (e : SortId) → IsSignature g → e.0 < length g.sorts → ¬ (IsAnyListOver g.sorts e) → IsSignature (with_list g e)
list_stands g e s b none =
    let rows : List Row = list_table e (record { 0 = length g.sorts }) in
    record {
      complete = list_complete g e s.complete b;
      table = list_sorts_keep_the_tables g e s.complete s.table b none;
      rows = rows_with_list g.texts g.sorts g.functions e s.rows;
      words_taken = s.words_taken;
      functions_taken = All-append (λ (f : Function). Contains g.taken f.name) g.functions (built_ins g.texts rows) s.functions_taken (rows_taken g.texts g.taken s.table.different s.words_taken rows);
      sorts_taken = s.sorts_taken;
      sort_names_differ = s.sort_names_differ;
      sorts_named = All-push HasItsName g.sorts (list_sort e) s.sorts_named (no_kind 0 1 refl refl);
      first_names_lead = lead_with_list g.sorts g.sort_names e s.first_names_lead;
      actions_differ = s.actions_differ;
      constructors_declared = All-push (HasDeclaredConstructors g.declared) g.sorts (list_sort e) s.constructors_declared (All-nil (Contains g.declared));
      roles = list_sorts_keep_the_roles g e s.roles;
    }

pub constructors_stand : (g : Sig) (sort : SortId) (fs : List FunId) → IsSignature g → IsBare g.sorts sort → All (Contains g.declared) fs → All (λ (f : FunId). IfSome (slice_get g.functions f.0) (λ x. x.result ≡ sort)) fs → All (HasNoRole g) fs → IsSignature (with_constructors g sort fs)
constructors_stand g sort fs s bare all results free = record {
  complete = constructors_complete g sort fs s.complete bare all;
  table = constructors_keep_the_tables g sort (by_declarations fs) s.table bare refl;
  rows = rows_with_kind g.texts g.sorts g.functions sort (by_declarations fs) s.table.sorts bare refl s.rows;
  words_taken = s.words_taken;
  functions_taken = s.functions_taken;
  sorts_taken = s.sorts_taken;
  sort_names_differ = s.sort_names_differ;
  sorts_named = kinds_named g.sorts sort.0 (by_declarations fs) bare.0 bare.1 bare.2 s.sorts_named;
  first_names_lead = lead_with_kind g.sorts g.sort_names sort.0 (by_declarations fs) s.first_names_lead;
  actions_differ = s.actions_differ;
  constructors_declared = kinds_declared g.declared g.sorts sort.0 (by_declarations fs) all s.constructors_declared;
  roles =
      constructors_keep_the_roles g sort fs s.roles bare
      (All-weaker (Contains fs) (λ f. IsDeclaredTo g.functions f sort)
      (λ f c. declared_to g s.table sort f (All-contains (Contains g.declared) fs f all c) (All-contains (λ (i : FunId). IfSome (slice_get g.functions i.0) (λ x. x.result ≡ sort)) fs f results c))
      fs (All-contains_itself fs))
      (λ f r c. All-contains (HasNoRole g) fs f free c r);
}

pub struct_stands : (g : Sig) (sort : SortId) (cs : List Con) → IsSignature g → IsBare g.sorts sort → All (IsConWithin (length g.texts) (length g.sorts)) cs → AreNew g.functions (struct_functions sort (length g.functions) cs) → IsSignature (with_struct g sort cs)
struct_stands g sort cs s bare within new =
    let fs : List Function = struct_functions sort (length g.functions) cs in
    let kind : Kind = structured (numbers_from (length g.functions) (length cs)) in
    let names : List NameId = map (λ f. f.name) fs in
    let taken : List NameId = with_names g.taken names in
    let stay = names_stay g.taken names in
    let these : AreFunctionsTaken taken fs = All-weaker (Contains fs) (λ f. Contains taken f.name) (λ f c. names_added g.taken names f.name (mapped (λ (h : Function). h.name) fs f c)) fs (All-contains_itself fs) in
    record {
      complete = struct_complete g sort cs s.complete bare within;
      table = structs_keep_the_tables g sort cs s.table bare within new;
      rows = rows_with_functions g.texts (with_kind g.sorts sort.0 kind) g.functions fs (rows_with_kind g.texts g.sorts g.functions sort kind s.table.sorts bare refl s.rows);
      words_taken = words_stay g s taken stay g.texts (λ i u e. e);
      functions_taken = All-append (λ (f : Function). Contains taken f.name) g.functions fs (functions_stay g s taken stay) these;
      sorts_taken = sorts_stay g s taken stay;
      sort_names_differ = s.sort_names_differ;
      sorts_named = kinds_named g.sorts sort.0 kind bare.0 bare.1 bare.2 s.sorts_named;
      first_names_lead = lead_with_kind g.sorts g.sort_names sort.0 kind s.first_names_lead;
      actions_differ = s.actions_differ;
      roles = structs_keep_the_roles g sort cs s.roles bare;
      constructors_declared =
          let numbers : List FunId = numbers_from (length g.functions) (length fs) in
          kinds_declared (g.declared ++ numbers) g.sorts sort.0 kind (struct_constructors g.declared sort (length g.functions) cs) (more_declared g.declared numbers g.sorts s.constructors_declared);
    }
