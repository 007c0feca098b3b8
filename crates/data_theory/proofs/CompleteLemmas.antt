-- A signature stays complete.
use Rattle.std.proofs.Common.{◌≡◌, ℕ, zero, suc, inl, inr, ◌<◌, ◌≤◌, ◌==◌, List, [], ◌∷◌, ◌++◌, length, Bool, true, false, cond, Option, Some, None, refl, sym, ap, ◌∙◌, subst, arith, length-append, append_assoc, append-nil}
use Rattle.std.specs.Prelude.{IfSome, slice_get}
use Rattle.std.specs.List.{All, Contains, list_any}
use Rattle.std.proofs.lemmas.List.Elements.{All-weaker, All-push, All-append, All-nil, All-from_recursion, All-contains, All-cons, All-head, All-tail}
use Rattle.data_theory.specs.declared.ids.NameId.{NameId}
use Rattle.data_theory.specs.declared.ids.SortId.{SortId}
use Rattle.data_theory.specs.declared.ids.FunId.{FunId}
use Rattle.data_theory.specs.declared.signature.Variable.{Variable}
use Rattle.data_theory.specs.declared.words.Word.{Word}
use Rattle.data_theory.specs.declared.rows.Row.{Row}
use Rattle.data_theory.specs.Words.{text_of}
use Rattle.data_theory.specs.Names.{Enters, with_text, with_texts, place_in, places_in}
use Rattle.data_theory.specs.Keys.{Key, key}
use Rattle.data_theory.specs.Functions.{Function, AreNew, declared_function}
use Rattle.data_theory.specs.Taken.{with_name, with_names}
use Rattle.data_theory.specs.Sorts.{Kind, booleans, positives, naturals, integers, lists_over, without_constructors, by_declarations, structured, SortInfo, with_kind, IsBare, first_sorts, abstract_sort, list_sort}
use Rattle.data_theory.specs.Rows.{row_word, row_text, row_function, built_ins, AreNamed}
use Rattle.data_theory.specs.Table.{first_table, sort_rows, list_table}
use Rattle.data_theory.specs.FirstNames.{first_names}
use Rattle.data_theory.specs.Signature.{Sig, first_signature, with_variable, with_function, with_alias, with_taken, with_sort, with_list, with_constructors, IsAct, with_action}
use Rattle.data_theory.specs.Complete.{IsFunctionWithin, IsKindWithin, IsSortWithin, IsActionWithin, IsWithin, BeginsWith, IsComplete}
use Rattle.data_theory.proofs.NameLemmas.{Behind, still_contains, still_there, text_behind, has_text, has_texts, place_within}
use Rattle.data_theory.proofs.TableLemmas.{HasWords, are_named, sort_functions_new, list_functions_new, first_has_words, first_functions_within, sort_functions_within, list_functions_within}

-- ---- in longer tables the ids are as well
below_more : (m n : ℕ) → m ≤ n → (k : ℕ) → k < m → k < n
below_more m n l k b = omega (arith, l, b)

some_weaker : {A : Type 0} (P Q : A → Type 0) → ((x : A) → P x → Q x) → (o : Option A) → IfSome o P → IfSome o Q
some_weaker P Q f None h = h
some_weaker P Q f (Some x) h = f x h

module _ (t t' s s' f f' : ℕ) (texts : t ≤ t') (sorts : s ≤ s') (functions : f ≤ f') where
  function_within : (x : Function) → IsFunctionWithin t s f x → IsFunctionWithin t' s' f' x
  function_within x w =
      let a = w.named in
      let b = w.gives in
      record {
        named = omega (arith, a, texts);
        found = All-weaker (λ (i : SortId). i.0 < s) (λ i. i.0 < s') (λ i b. below_more s s' sorts i.0 b) x.sorts w.found;
        gives = omega (arith, b, sorts);
        projected = All-weaker (λ (p : Option FunId). IfSome p (λ q. q.0 < f)) (λ p. IfSome p (λ q. q.0 < f')) (λ p h. some_weaker (λ (q : FunId). q.0 < f) (λ q. q.0 < f') (λ q b. below_more f f' functions q.0 b) p h) x.projections w.projected;
        recognised = some_weaker (λ (q : FunId). q.0 < f) (λ q. q.0 < f') (λ q b. below_more f f' functions q.0 b) x.test w.recognised;
      }

  numbers_within : (fs : List FunId) → All (λ g. g.0 < f) fs → All (λ g. g.0 < f') fs
  numbers_within fs h = All-weaker (λ (g : FunId). g.0 < f) (λ g. g.0 < f') (λ g b. below_more f f' functions g.0 b) fs h

  kind_within : (k : Kind) → IsKindWithin s f k → IsKindWithin s' f' k
  kind_within booleans h = tt
  kind_within positives h = tt
  kind_within naturals h = tt
  kind_within integers h = tt
  kind_within (lists_over e) h = below_more s s' sorts e.0 h
  kind_within without_constructors h = tt
  kind_within (by_declarations fs) h = numbers_within fs h
  kind_within (structured fs) h = numbers_within fs h

  sort_within : (x : SortInfo) → IsSortWithin t s f x → IsSortWithin t' s' f' x
  sort_within x w = record { built = kind_within x.kind w.built; named = some_weaker (λ (n : NameId). n.0 < t) (λ n. n.0 < t') (λ n b. below_more t t' texts n.0 b) x.name w.named }

  action_within : (x : Key) → IsActionWithin t s x → IsActionWithin t' s' x
  action_within x w = record { named = below_more t t' texts x.name.0 w.named; takes = All-weaker (λ (i : SortId). i.0 < s) (λ i. i.0 < s') (λ i b. below_more s s' sorts i.0 b) x.sorts w.takes }

  pub within_more : (x : Sig) → IsWithin t s f x → IsWithin t' s' f' x
  within_more x w = record {
    taken = All-weaker (λ (n : NameId). n.0 < t) (λ n. n.0 < t') (λ n b. below_more t t' texts n.0 b) x.taken w.taken;
    sorts_within = All-weaker (IsSortWithin t s f) (IsSortWithin t' s' f') sort_within x.sorts w.sorts_within;
    sort_names = All-weaker (λ (e : NameId × SortId). (e.0.0 < t) × (e.1.0 < s)) (λ e. (e.0.0 < t') × (e.1.0 < s')) (λ e b. (below_more t t' texts e.0.0 b.0, below_more s s' sorts e.1.0 b.1)) x.sort_names w.sort_names;
    functions_within = All-weaker (IsFunctionWithin t s f) (IsFunctionWithin t' s' f') function_within x.functions w.functions_within;
    declared = numbers_within x.declared w.declared;
    actions = All-weaker (IsActionWithin t s) (IsActionWithin t' s') action_within x.actions w.actions;
    variables = All-weaker (λ (v : Variable). (v.name.0 < t) × (v.sort.0 < s)) (λ v. (v.name.0 < t') × (v.sort.0 < s')) (λ v b. (below_more t t' texts v.name.0 b.0, below_more s s' sorts v.sort.0 b.1)) x.variables w.variables;
  }

-- ---- what a signature begins with stays in front
pub begins_longer : {A : Type 0} (front xs more : List A) → BeginsWith front xs → BeginsWith front (xs ++ more)
begins_longer front xs more b = (b.0 ++ more, ap (λ l. l ++ more) b.1 ∙ append_assoc front b.0 more)

functions_stay : (old new : List (List ℕ)) → Behind old new → HasWords old → (rows : List Row) → built_ins new rows ≡ built_ins old rows
functions_stay old new b has [] = refl
functions_stay old new b has (r ∷ rows) =
    let here : place_in new (row_text r) ≡ place_in old (row_text r) = still_there old new (row_text r) b (has (row_word r)) in
    let rest = functions_stay old new b has rows in
    (λ i. row_function (here i) r ∷ rest i)

first_behind : (old new : List (List ℕ)) → Behind old new → HasWords old → (fs : List Function) → BeginsWith (built_ins old first_table) fs → BeginsWith (built_ins new first_table) fs
first_behind old new b has fs h = (h.0, h.1 ∙ ap (λ l. l ++ h.0) (sym (functions_stay old new b has first_table)))

-- ---- what a call adds
pub name_within : (t : ℕ) (ns : List NameId) (n : NameId) → All (λ m. m.0 < t) ns → n.0 < t → All (λ m. m.0 < t) (with_name ns n)
name_within t ns n all b = by_test (list_any (λ m. n.0 == m.0) ns)
  where
    by_test : (b : Bool) → All (λ m. m.0 < t) (cond b ns (ns ++ n ∷ []))
    by_test true = all
    by_test false = All-push (λ (m : NameId). m.0 < t) ns n all b

one_longer : {A : Type 0} (xs : List A) (x : A) → length xs ≤ length (xs ++ x ∷ [])
one_longer xs x = omega (arith, length-append xs (x ∷ []))

last_within : {A : Type 0} (xs : List A) (x : A) → length xs < length (xs ++ x ∷ [])
last_within xs x = omega (arith, length-append xs (x ∷ []))

pub variable_complete : (s : Sig) (v : Variable) → IsComplete s → v.name.0 < length s.texts → v.sort.0 < length s.sorts → IsComplete (with_variable s v)
variable_complete s v c n o =
    let w = c.within in
    record {
      words = c.words;
      first_sorts_stay = c.first_sorts_stay;
      first_functions_stay = c.first_functions_stay;
      within = record {
        taken = w.taken;
        sorts_within = w.sorts_within;
        sort_names = w.sort_names;
        functions_within = w.functions_within;
        declared = w.declared;
        actions = w.actions;
        variables = All-push (λ (v : Variable). (v.name.0 < length s.texts) × (v.sort.0 < length s.sorts)) s.variables v w.variables (n, o);
      };
    }

pub alias_complete : (s : Sig) (n : NameId) (sort : SortId) → IsComplete s → n.0 < length s.texts → sort.0 < length s.sorts → IsComplete (with_alias s n sort)
alias_complete s n sort c a b =
    let w = c.within in
    record {
      words = c.words;
      first_sorts_stay = c.first_sorts_stay;
      first_functions_stay = c.first_functions_stay;
      within = record {
        taken = name_within (length s.texts) s.taken n w.taken a;
        sorts_within = w.sorts_within;
        sort_names = All-push (λ (e : NameId × SortId). (e.0.0 < length s.texts) × (e.1.0 < length s.sorts)) s.sort_names (n, sort) w.sort_names (a, b);
        functions_within = w.functions_within;
        declared = w.declared;
        actions = w.actions;
        variables = w.variables;
      };
    }

no_projection : (f : ℕ) → All (λ (p : Option FunId). IfSome p (λ q. q.0 < f)) []
no_projection f = All-nil (λ (p : Option FunId). IfSome p (λ q. q.0 < f))

pub function_complete : (s : Sig) (n : NameId) (args : List SortId) (to : SortId) → IsComplete s → n.0 < length s.texts → All (λ a. a.0 < length s.sorts) args → to.0 < length s.sorts → IsComplete (with_function s (declared_function n args to))
function_complete s n args to c a b d =
    let f : Function = declared_function n args to in
    let fs : ℕ = length (s.functions ++ f ∷ []) in
    let w = within_more (length s.texts) (length s.texts) (length s.sorts) (length s.sorts) (length s.functions) fs (omega arith) (omega arith) (one_longer s.functions f) s c.within in
    record {
      words = c.words;
      first_sorts_stay = c.first_sorts_stay;
      first_functions_stay = begins_longer _ s.functions (f ∷ []) c.first_functions_stay;
      within = record {
        taken = name_within (length s.texts) s.taken n w.taken a;
        sorts_within = w.sorts_within;
        sort_names = w.sort_names;
        functions_within = All-push (IsFunctionWithin (length s.texts) (length s.sorts) fs) s.functions f w.functions_within (record { named = a; found = b; gives = d; projected = no_projection fs; recognised = tt });
        declared = All-push (λ (g : FunId). g.0 < fs) s.declared (record { 0 = length s.functions }) w.declared (last_within s.functions f);
        actions = w.actions;
        variables = w.variables;
      };
    }

-- ---- a text is taken
pub still_has_words : (old new : List (List ℕ)) → Behind old new → ((w : Word) → Contains old (text_of w)) → (w : Word) → Contains new (text_of w)
still_has_words old new b has w = still_contains old new (text_of w) b (has w)

behind_longer : (old new : List (List ℕ)) → Behind old new → length old ≤ length new
behind_longer old new b = omega (arith, length-append old b.more, ap length b.is)

pub text_complete : (s : Sig) (t : List ℕ) → IsComplete s → IsComplete (with_taken s t)
text_complete s t c =
    let texts : List (List ℕ) = with_text s.texts t in
    let behind = text_behind s.texts t in
    let longer = behind_longer s.texts texts behind in
    let w = within_more (length s.texts) (length texts) (length s.sorts) (length s.sorts) (length s.functions) (length s.functions) longer (omega arith) (omega arith) s c.within in
    record {
      words = still_has_words s.texts texts behind c.words;
      first_sorts_stay = c.first_sorts_stay;
      first_functions_stay = first_behind s.texts texts behind c.words s.functions c.first_functions_stay;
      within = record {
        taken = name_within (length texts) s.taken (place_in texts t) w.taken (place_within texts t (has_text s.texts t));
        sorts_within = w.sorts_within;
        sort_names = w.sort_names;
        functions_within = w.functions_within;
        declared = w.declared;
        actions = w.actions;
        variables = w.variables;
      };
    }

-- ---- how a signature begins
names_within : (texts ts : List (List ℕ)) (ns : List NameId) → ((t : List ℕ) → Contains ts t → Contains texts t) → All (λ n. n.0 < length texts) ns → All (λ n. n.0 < length texts) (with_names ns (places_in texts ts))
names_within texts [] ns all h = h
names_within texts (t ∷ ts) ns all h =
    names_within texts ts (with_name ns (place_in texts t)) (λ u c. all u (suc c.0, omega (arith, c.1), c.2))
    (name_within (length texts) ns (place_in texts t) h (place_within texts t (all t (zero, omega arith, refl))))

first_sorts_within : (t f : ℕ) → All (IsSortWithin t 4 f) first_sorts
first_sorts_within t f =
    let built_in : (k : Kind) → IsKindWithin 4 f k → IsSortWithin t 4 f (record { kind = k; name = None }) = λ k h. record { built = h; named = tt } in
    All-from_recursion (IsSortWithin t 4 f) first_sorts (built_in booleans tt, (built_in positives tt, (built_in naturals tt, (built_in integers tt, tt))))

pub first_complete : (given : List (List ℕ)) → IsComplete (first_signature given)
unfolding first_signature
first_complete given =
    let texts : List (List ℕ) = with_texts given first_names in
    let functions : ℕ = length (built_ins texts first_table) in
    let has = first_has_words given in
    record {
      words = has;
      first_sorts_stay = ([], refl);
      first_functions_stay = ([], sym (append-nil (built_ins texts first_table)));
      within = record {
        taken = names_within texts first_names [] (λ t c. has_texts given first_names t c) (All-nil (λ (n : NameId). n.0 < length texts));
        sorts_within = first_sorts_within (length texts) functions;
        sort_names = All-nil (λ (e : NameId × SortId). (e.0.0 < length texts) × (e.1.0 < 4));
        functions_within = first_functions_within texts has functions;
        declared = All-nil (λ (g : FunId). g.0 < functions);
        actions = All-nil (IsActionWithin (length texts) 4);
        variables = All-nil (λ (v : Variable). (v.name.0 < length texts) × (v.sort.0 < 4));
      };
    }

-- ---- a sort is added
pub four_sorts : (s : Sig) → IsComplete s → 4 ≤ length s.sorts
four_sorts s c = let b = c.first_sorts_stay in omega (arith, length-append first_sorts b.0, ap length b.1)

longer_list : {A : Type 0} (xs ys : List A) → length xs ≤ length (xs ++ ys)
longer_list xs ys = omega (arith, length-append xs ys)

pub sort_complete : (s : Sig) (n : NameId) → IsComplete s → n.0 < length s.texts → IsComplete (with_sort s n)
sort_complete s n c b =
    let sort : SortId = record { 0 = length s.sorts } in
    let added : List Function = built_ins s.texts (sort_rows sort) in
    let sorts : ℕ = length (s.sorts ++ abstract_sort n ∷ []) in
    let functions : ℕ = length (s.functions ++ added) in
    let more = one_longer s.sorts (abstract_sort n) in
    let last = last_within s.sorts (abstract_sort n) in
    let four : 4 ≤ sorts = omega (arith, four_sorts s c, more) in
    let w = within_more (length s.texts) (length s.texts) (length s.sorts) sorts (length s.functions) functions (omega arith) more (longer_list s.functions added) s c.within in
    record {
      words = c.words;
      first_sorts_stay = begins_longer first_sorts s.sorts (abstract_sort n ∷ []) c.first_sorts_stay;
      first_functions_stay = begins_longer _ s.functions added c.first_functions_stay;
      within = record {
        taken = name_within (length s.texts) s.taken n w.taken b;
        sorts_within = All-push (IsSortWithin (length s.texts) sorts functions) s.sorts (abstract_sort n) w.sorts_within (record { built = tt; named = b });
        sort_names = All-push (λ (e : NameId × SortId). (e.0.0 < length s.texts) × (e.1.0 < sorts)) s.sort_names (n, sort) w.sort_names (b, last);
        functions_within = All-append (IsFunctionWithin (length s.texts) sorts functions) s.functions added w.functions_within (sort_functions_within s.texts c.words sorts functions sort last four);
        declared = w.declared;
        actions = w.actions;
        variables = w.variables;
      };
    }

pub list_complete : (s : Sig) (e : SortId) → IsComplete s → e.0 < length s.sorts → IsComplete (with_list s e)
list_complete s e c b =
    let sort : SortId = record { 0 = length s.sorts } in
    let added : List Function = built_ins s.texts (list_table e sort) in
    let sorts : ℕ = length (s.sorts ++ list_sort e ∷ []) in
    let functions : ℕ = length (s.functions ++ added) in
    let more = one_longer s.sorts (list_sort e) in
    let last = last_within s.sorts (list_sort e) in
    let four : 4 ≤ sorts = omega (arith, four_sorts s c, more) in
    let element : e.0 < sorts = omega (arith, b, more) in
    let w = within_more (length s.texts) (length s.texts) (length s.sorts) sorts (length s.functions) functions (omega arith) more (longer_list s.functions added) s c.within in
    record {
      words = c.words;
      first_sorts_stay = begins_longer first_sorts s.sorts (list_sort e ∷ []) c.first_sorts_stay;
      first_functions_stay = begins_longer _ s.functions added c.first_functions_stay;
      within = record {
        taken = w.taken;
        sorts_within = All-push (IsSortWithin (length s.texts) sorts functions) s.sorts (list_sort e) w.sorts_within (record { built = element; named = tt });
        sort_names = w.sort_names;
        functions_within = All-append (IsFunctionWithin (length s.texts) sorts functions) s.functions added w.functions_within (list_functions_within s.texts c.words sorts functions e sort element last four);
        declared = w.declared;
        actions = w.actions;
        variables = w.variables;
      };
    }

-- ---- an action is added
pub action_complete : (s : Sig) (t : List ℕ) (sorts : List SortId) → IsComplete s → All (λ i. i.0 < length s.sorts) sorts → IsComplete (with_action s t sorts)
action_complete s t sorts c b =
    let texts : List (List ℕ) = with_text s.texts t in
    let behind = text_behind s.texts t in
    let longer = behind_longer s.texts texts behind in
    let w = within_more (length s.texts) (length texts) (length s.sorts) (length s.sorts) (length s.functions) (length s.functions) longer (omega arith) (omega arith) s c.within in
    record {
      words = still_has_words s.texts texts behind c.words;
      first_sorts_stay = c.first_sorts_stay;
      first_functions_stay = first_behind s.texts texts behind c.words s.functions c.first_functions_stay;
      within = record {
        taken = w.taken;
        sorts_within = w.sorts_within;
        sort_names = w.sort_names;
        functions_within = w.functions_within;
        declared = w.declared;
        actions = All-push (IsActionWithin (length texts) (length s.sorts)) s.actions (key (place_in texts t) sorts) w.actions (record { named = place_within texts t (has_text s.texts t); takes = b });
        variables = w.variables;
      };
    }

-- ---- the functions over a further sort may be added
sort_here : (s : Sig) (l : ℕ) → l ≡ length s.sorts → ◌≡◌ {A = SortId} (record { 0 = l }) (record { 0 = length s.sorts })
sort_here s l e = ap (λ (n : ℕ). record { 0 = n }) e

pub sort_rows_fit : (s : Sig) → IsComplete s → (l : ℕ) → l ≡ length s.sorts → (rows : List Row) → rows ≡ sort_rows (record { 0 = l }) → AreNamed s.texts rows × AreNew s.functions (built_ins s.texts rows)
sort_rows_fit s c l e rows is = (
  are_named s.texts c.words rows,
  subst (λ (r : List Row). AreNew s.functions (built_ins s.texts r)) (sym is) (sort_functions_new s.texts c.words (length s.texts) (length s.sorts) (length s.functions) s.functions c.within.functions_within (record { 0 = l }) e),
)

pub list_rows_fit : (s : Sig) → IsComplete s → (element : SortId) (l : ℕ) → l ≡ length s.sorts → (rows : List Row) → rows ≡ list_table element (record { 0 = l }) → AreNamed s.texts rows × AreNew s.functions (built_ins s.texts rows)
list_rows_fit s c element l e rows is = (
  are_named s.texts c.words rows,
  subst (λ (r : List Row). AreNew s.functions (built_ins s.texts r)) (sym is) (list_functions_new s.texts c.words (length s.texts) (length s.sorts) (length s.functions) s.functions c.within.functions_within element (record { 0 = l }) e),
)

pub sort_added : (s : Sig) (n : NameId) (l : ℕ) (rows : List Row) (sort : SortId) (sorts : List SortInfo) (names : List (NameId × SortId)) (functions : List Function) (taken : List NameId) → l ≡ length s.sorts → rows ≡ sort_rows (record { 0 = l }) → sort.0 ≡ length s.sorts
    → sorts ≡ s.sorts ++ abstract_sort n ∷ [] → names ≡ s.sort_names ++ (n, sort) ∷ [] → functions ≡ s.functions ++ built_ins s.texts rows → taken ≡ with_name s.taken n
    → record s { sorts = sorts; sort_names = names; functions = functions; taken = taken } ≡ with_sort s n
sort_added s n l rows sort sorts names functions taken e is f a b d t =
    let named : names ≡ s.sort_names ++ (n, record { 0 = length s.sorts }) ∷ [] = b ∙ (λ i. s.sort_names ++ (n, sort_here s sort.0 f i) ∷ []) in
    let over : functions ≡ s.functions ++ built_ins s.texts (sort_rows (record { 0 = length s.sorts })) = d ∙ ap (λ (r : List Row). s.functions ++ built_ins s.texts r) (is ∙ ap sort_rows (sort_here s l e)) in
    (λ i. record s { sorts = a i; sort_names = named i; functions = over i; taken = t i })

pub list_added : (s : Sig) (element : SortId) (l : ℕ) (rows : List Row) (sorts : List SortInfo) (functions : List Function) → l ≡ length s.sorts → rows ≡ list_table element (record { 0 = l })
    → sorts ≡ s.sorts ++ list_sort element ∷ [] → functions ≡ s.functions ++ built_ins s.texts rows → record s { sorts = sorts; functions = functions } ≡ with_list s element
list_added s element l rows sorts functions e is a d =
    let over : functions ≡ s.functions ++ built_ins s.texts (list_table element (record { 0 = length s.sorts })) = d ∙ ap (λ (r : List Row). s.functions ++ built_ins s.texts r) (is ∙ ap (list_table element) (sort_here s l e)) in
    (λ i. record s { sorts = a i; functions = over i })

pub action_added : (s : Sig) (t : List ℕ) (ss : List SortId) (name : NameId) (texts : List (List ℕ)) (actions : List Key) → texts ≡ with_text s.texts t → name ≡ place_in texts t → actions ≡ s.actions ++ key name ss ∷ []
    → record s { texts = texts; actions = actions } ≡ with_action s t ss
action_added s t ss name texts actions e f a =
    let pushed : actions ≡ s.actions ++ key (place_in (with_text s.texts t) t) ss ∷ [] = a ∙ (λ i. s.actions ++ key (f i) ss ∷ []) ∙ ap (λ ts. s.actions ++ key (place_in ts t) ss ∷ []) e in
    (λ i. record s { texts = e i; actions = pushed i })

-- ---- no action has the name that a text gets
read_before : {A : Type 0} (xs ys : List A) (i : ℕ) → i < length xs → slice_get (xs ++ ys) i ≡ slice_get xs i
read_before [] ys i l = absurd (omega (arith, l))
read_before (x ∷ xs) ys zero l = refl
read_before (x ∷ xs) ys (suc i) l = read_before xs ys i (omega (arith, l))

pub no_action : (s : Sig) (t : List ℕ) (ss : List SortId) (new : List (List ℕ)) (name : NameId) → IsComplete s → (IsAct s t ss → ⊥) → Enters s.texts t new → slice_get new name.0 ≡ Some t → Contains s.actions (key name ss) → ⊥
no_action s t ss new name c none entered at contained = none (name, before entered, contained)
  where
    before : Enters s.texts t new → slice_get s.texts name.0 ≡ Some t
    before (inl h) = subst (λ ts. slice_get ts name.0 ≡ Some t) h.1 at
    before (inr h) =
        let action : IsActionWithin (length s.texts) (length s.sorts) (key name ss) = All-contains (IsActionWithin (length s.texts) (length s.sorts)) s.actions (key name ss) c.within.actions contained in
        sym (read_before s.texts (t ∷ []) name.0 action.named) ∙ subst (λ ts. slice_get ts name.0 ≡ Some t) h.1 at

-- ---- what a sort is becomes something else
kind_length : (ss : List SortInfo) (k : ℕ) (d : Kind) → length (with_kind ss k d) ≡ length ss
kind_length [] k d = refl
kind_length (s ∷ ss) zero d = refl
kind_length (s ∷ ss) (suc k) d = ap suc (kind_length ss k d)

kinds_within : (t s f : ℕ) (ss : List SortInfo) (k : ℕ) (d : Kind) → IsKindWithin s f d → All (IsSortWithin t s f) ss → All (IsSortWithin t s f) (with_kind ss k d)
kinds_within t s f [] k d w all = all
kinds_within t s f (x ∷ ss) zero d w all =
    let head = All-head (IsSortWithin t s f) x ss all in
    All-cons (IsSortWithin t s f) (record x { kind = d }) ss (record { built = w; named = head.named }) (All-tail (IsSortWithin t s f) x ss all)
kinds_within t s f (x ∷ ss) (suc k) d w all = All-cons (IsSortWithin t s f) x (with_kind ss k d) (All-head (IsSortWithin t s f) x ss all) (kinds_within t s f ss k d w (All-tail (IsSortWithin t s f) x ss all))

-- a sort without constructors is none of those in front
kind_behind : (k : ℕ) (more : List SortInfo) (d : Kind) → (x : SortInfo) → slice_get (first_sorts ++ more) k ≡ Some x → x.kind ≡ without_constructors → BeginsWith first_sorts (with_kind (first_sorts ++ more) k d)
kind_behind zero more d x at e = let same : record { kind = booleans; name = None } ≡ x = cc in let kinds : booleans ≡ without_constructors = ap (λ (s : SortInfo). s.kind) same ∙ e in cc
kind_behind (suc zero) more d x at e = let same : record { kind = positives; name = None } ≡ x = cc in let kinds : positives ≡ without_constructors = ap (λ (s : SortInfo). s.kind) same ∙ e in cc
kind_behind (suc (suc zero)) more d x at e = let same : record { kind = naturals; name = None } ≡ x = cc in let kinds : naturals ≡ without_constructors = ap (λ (s : SortInfo). s.kind) same ∙ e in cc
kind_behind (suc (suc (suc zero))) more d x at e = let same : record { kind = integers; name = None } ≡ x = cc in let kinds : integers ≡ without_constructors = ap (λ (s : SortInfo). s.kind) same ∙ e in cc
kind_behind (suc (suc (suc (suc k)))) more d x at e = (with_kind more k d, refl)

pub kinds_begin : (ss : List SortInfo) (sort : SortId) (d : Kind) → IsBare ss sort → BeginsWith first_sorts ss → BeginsWith first_sorts (with_kind ss sort.0 d)
kinds_begin ss sort d bare b =
    subst (λ xs. BeginsWith first_sorts (with_kind xs sort.0 d)) (sym b.1) (kind_behind sort.0 b.0 d bare.0 (ap (λ xs. slice_get xs sort.0) (sym b.1) ∙ bare.1) bare.2)

pub kind_complete : (s : Sig) (sort : SortId) (d : Kind) → IsComplete s → IsBare s.sorts sort → IsKindWithin (length s.sorts) (length s.functions) d → IsComplete (record s { sorts = with_kind s.sorts sort.0 d })
kind_complete s sort d c bare w =
    let same : length s.sorts ≡ length (with_kind s.sorts sort.0 d) = sym (kind_length s.sorts sort.0 d) in
    let there = subst (λ n. IsWithin (length s.texts) n (length s.functions) s) same c.within in
    record {
      words = c.words;
      first_sorts_stay = kinds_begin s.sorts sort d bare c.first_sorts_stay;
      first_functions_stay = c.first_functions_stay;
      within = record {
        taken = there.taken;
        sorts_within = kinds_within (length s.texts) (length (with_kind s.sorts sort.0 d)) (length s.functions) s.sorts sort.0 d (subst (λ n. IsKindWithin n (length s.functions) d) same w) there.sorts_within;
        sort_names = there.sort_names;
        functions_within = there.functions_within;
        declared = there.declared;
        actions = there.actions;
        variables = there.variables;
      };
    }

declared_within : (s : Sig) → IsComplete s → (fs : List FunId) → All (Contains s.declared) fs → All (λ f. f.0 < length s.functions) fs
declared_within s c fs all = All-weaker (Contains s.declared) (λ (f : FunId). f.0 < length s.functions) (λ f there. All-contains (λ (g : FunId). g.0 < length s.functions) s.declared f c.within.declared there) fs all

pub constructors_complete : (s : Sig) (sort : SortId) (fs : List FunId) → IsComplete s → IsBare s.sorts sort → All (Contains s.declared) fs → IsComplete (with_constructors s sort fs)
constructors_complete s sort fs c bare all = kind_complete s sort (by_declarations fs) c bare (declared_within s c fs all)
