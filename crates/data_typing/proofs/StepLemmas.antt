-- Which terms steps make.
use Rattle.std.proofs.Common.{◌≡◌, ◌<◌, ◌≤◌, ◌+◌, ℕ, zero, suc, Bool, true, false, cond, List, [], ◌∷◌, ◌++◌, length, map, drop, get_or, refl, sym, subst, ap, ◌∙◌, arith, append-nil}
use Rattle.std.specs.Prelude.{Vec, Option, Some, None, is_some, option_map, option_and_then, slice_get, Result, IfOk}
use Rattle.std.specs.Option.{option_or}
use Rattle.std.proofs.lemmas.Result.{IfOk-weaker}
use Rattle.std.proofs.lemmas.List.{append_assoc, drop_more, drop_all, map-append}
use Rattle.std.specs.Global.{Global}
use Rattle.data_theory.specs.declared.ids.FunId.{FunId}
use Rattle.data_theory.specs.Terms.{Sort, list, Symbol, empty, cons, Term, Terms, apply}
use Rattle.data_theory.specs.Terms as terms
use Rattle.data_typing.specs.declared.flat_sorts.FlatSort.{FlatSort}
use Rattle.data_typing.specs.declared.flat_sorts.SortPlace.{SortPlace}
use Rattle.data_typing.specs.declared.nodes.Callee.TheVariants as callees
use Rattle.data_typing.specs.declared.nodes.Overload as code
use Rattle.data_typing.specs.declared.nodes.AnyOverload as code_any
use Rattle.data_typing.specs.declared.nodes.Kind.{Kind}
use Rattle.data_typing.specs.declared.nodes.Kind.TheVariants as kinds
use Rattle.data_typing.specs.declared.nodes.Node.{Node}
use Rattle.data_typing.specs.declared.steps.Task as code_task
use Rattle.data_typing.specs.declared.steps.Step.{Step}
use Rattle.data_typing.specs.declared.steps.Step.TheVariants as steps
use Rattle.data_typing.specs.declared.steps.Expansion as code_expansion
use Rattle.data_theory.specs.IdSymbols.{word_symbol}
use Rattle.data_typing.specs.Typings as typings
use Rattle.data_typing.specs.Typings.{scheme_at, sort_eq, upcast_to, Inferred, Typing, embedded, exactly, checked, all_at, widest, Signature, Scheme, applied, first_exact, call_infers, list_of, list_infers}
use Rattle.data_typing.specs.Plans.{Plan, planned, TellAll}
use Rattle.data_typing.specs.Sortings.{profile, any_profile, all_same, all_check, first_exact_sort, widest_sort, each_checks}
use Rattle.data_typing.specs.FlatSorts.{flat_sort, place_of}
use Rattle.data_typing.specs.Nodes.{profile_of, any_profile_of, values_at, sortings_at, sortings, AreBelow, AreNodes, AreKnown}
use Rattle.data_typing.specs.NodeTypings.{signature_of, scheme_of, kind_typing, node_typings, typing_at}
use Rattle.data_typing.specs.Making.{wished, Item, leaf, over, terms_of, Make}
use Rattle.data_typing.specs.CodeSteps.{wish_of, task_weight, AreSteps, kind_by_sort, kind_infers, typings_at, TasksHave, item_of, items_of, list_items, term_in, task_inferred, task_at, tasks_at, sum_of, weights, tasks_weight, parts_limit, AreTasks, Comes}
use Rattle.data_typing.proofs.SortsFirst.{all_same_told, all_check_told, first_exact_told, widest_told, each_checks_told}
use Rattle.data_typing.proofs.NodeTells.{node_tells, profiles_are, any_profile_is, parts_tell, typing_there, weight_there}

-- ---- options
pub none_when : {A : Type 0} (o : Option A) → is_some o ≡ false → o ≡ None
none_when None e = refl
none_when (Some x) e = cc

pub some_when : {A : Type 0} (o : Option A) → is_some o ≡ true → (x : A) × (o ≡ Some x)
some_when None e = cc
some_when (Some x) e = (x, refl)

both_parts : (o : Option Term) (p : Option Terms) (us : Terms) → option_and_then (λ u. option_map (terms.more u) p) o ≡ Some us → (u : Term) × (rest : Terms) × (o ≡ Some u) × (p ≡ Some rest) × (terms.more u rest ≡ us)
both_parts None p us e = cc
both_parts (Some u) None us e = cc
both_parts (Some u) (Some rest) us e = (u, rest, refl, refl, cc)

-- ---- making
pub make_behind : (hs gs : List Item) (xs ws ys : List Term) → Make gs xs ws → Make hs ws ys → Make (hs ++ gs) xs ys
make_behind [] gs xs ws ys m k = subst (Make gs xs) k m
make_behind (h ∷ hs) gs xs ws ys m k = (k.0, make_behind hs gs xs ws k.0 m k.1, k.2)

-- ---- the terms of parts
exactly_infers : (o : Option Inferred) (s : Sort) (u : Term) → option_and_then (λ (i : Inferred). cond (sort_eq i.sort s) (Some i.term) None) o ≡ Some u → term_in o ≡ Some u
exactly_infers None s u e = cc
exactly_infers (Some i) s u e = by_test (sort_eq i.sort s) e
  where
    by_test : (b : Bool) → cond b (Some i.term) None ≡ Some u → Some i.term ≡ Some u
    by_test true q = q
    by_test false q = cc

exact_have : (y : FunId → Symbol) (ns : List Node) (ks : List ℕ) (ss : List Sort) (us : Terms) → all_at exactly ss (typings_at y ns ks) ≡ Some us
    → (vs : List Term) × TasksHave y ns (map task_inferred ks) vs × (terms_of vs ≡ us) × (length vs ≡ length ks)
exact_have y ns [] [] us e = ([], tt, (let same : terms.none ≡ us = cc in same), refl)
exact_have y ns [] (s ∷ ss) us e = cc
exact_have y ns (k ∷ ks) [] us e = cc
exact_have y ns (k ∷ ks) (s ∷ ss) us e =
    let (u, rest, first, later, same) = both_parts (exactly s (typing_at (node_typings y ns) k)) (all_at exactly ss (typings_at y ns ks)) us e in
    let (vs, have, are, many) = exact_have y ns ks ss rest later in
    (u ∷ vs, (exactly_infers (typing_at (node_typings y ns) k).infers s u first, have), ap (terms.more u) are ∙ same, ap suc many)

checked_have : (y : FunId → Symbol) (ns : List Node) (ks : List ℕ) (fs : List FlatSort) (us : Terms) → all_at checked (map flat_sort fs) (typings_at y ns ks) ≡ Some us
    → (vs : List Term) × TasksHave y ns (tasks_at ks fs) vs × (terms_of vs ≡ us) × (length vs ≡ length ks)
checked_have y ns [] [] us e = ([], tt, (let same : terms.none ≡ us = cc in same), refl)
checked_have y ns [] (s ∷ ss) us e = cc
checked_have y ns (k ∷ ks) [] us e = cc
checked_have y ns (k ∷ ks) (s ∷ ss) us e =
    let (u, rest, first, later, same) = both_parts (checked (flat_sort s) (typing_at (node_typings y ns) k)) (all_at checked (map flat_sort ss) (typings_at y ns ks)) us e in
    let (vs, have, are, many) = checked_have y ns ks ss rest later in
    (u ∷ vs, (first, have), ap (terms.more u) are ∙ same, ap suc many)

list_term : Sort → List Term → Term
list_term s [] = apply (empty s) terms.none
list_term s (v ∷ vs) = apply (cons s) (terms.more v (terms.more (list_term s vs) terms.none))

list_parts : (s : Sort) (o p : Option Term) (u : Term) → option_and_then (λ v. option_map (λ w. apply (cons s) (terms.more v (terms.more w terms.none))) p) o ≡ Some u
    → (v : Term) × (w : Term) × (o ≡ Some v) × (p ≡ Some w) × (apply (cons s) (terms.more v (terms.more w terms.none)) ≡ u)
list_parts s None p u e = cc
list_parts s (Some v) None u e = cc
list_parts s (Some v) (Some w) u e = (v, w, refl, refl, cc)

elements_have : (y : FunId → Symbol) (ns : List Node) (ks : List ℕ) (s : FlatSort) (u : Term) → list_of (typings_at y ns ks) (flat_sort s) ≡ Some u
    → (vs : List Term) × TasksHave y ns (map (task_at s) ks) vs × (list_term (flat_sort s) vs ≡ u) × (length vs ≡ length ks)
unfolding list_term
elements_have y ns [] s u e = ([], tt, (let same : apply (empty (flat_sort s)) terms.none ≡ u = cc in same), refl)
elements_have y ns (k ∷ ks) s u e =
    let (v, w, first, later, same) = list_parts (flat_sort s) ((typing_at (node_typings y ns) k).checks (flat_sort s)) (list_of (typings_at y ns ks) (flat_sort s)) u e in
    let (vs, have, are, many) = elements_have y ns ks s w later in
    (v ∷ vs, (first, have), ap (λ x. apply (cons (flat_sort s)) (terms.more v (terms.more x terms.none))) are ∙ same, ap suc many)

list_makes : (s : Sort) (vs front : List Term) → Make (list_items s (length vs)) (front ++ vs) (front ++ list_term s vs ∷ [])
unfolding list_term
list_makes s [] front = (
  front ++ [],
  refl,
  record { front = front ++ []; last = []; are = sym (append-nil (front ++ [])); many = refl; become = ap (λ l. l ++ apply (empty s) terms.none ∷ []) (sym (append-nil front)) },
)
list_makes s (v ∷ vs) front =
    let L : Term = list_term s vs in
    let rest : Make (list_items s (length vs)) ((front ++ v ∷ []) ++ vs) ((front ++ v ∷ []) ++ L ∷ []) = list_makes s vs (front ++ v ∷ []) in (
      (front ++ v ∷ []) ++ L ∷ [],
      subst (λ l. Make (list_items s (length vs)) l ((front ++ v ∷ []) ++ L ∷ [])) (append_assoc front (v ∷ []) vs) rest,
      record { front = front; last = v ∷ L ∷ []; are = append_assoc front (v ∷ []) (L ∷ []); many = refl; become = refl },
    )

-- ---- weights and numbers of tasks
inferred_light : (ws : List ℕ) (ks : List ℕ) → tasks_weight ws (map task_inferred ks) ≤ sum_of (values_at 0 ws ks)
inferred_light ws [] = omega arith
inferred_light ws (k ∷ ks) = omega (arith, inferred_light ws ks)

elements_light : (ws : List ℕ) (s : FlatSort) (ks : List ℕ) → tasks_weight ws (map (task_at s) ks) ≤ sum_of (values_at 0 ws ks)
elements_light ws s [] = omega arith
elements_light ws s (k ∷ ks) = omega (arith, elements_light ws s ks)

checked_light : (ws : List ℕ) (ks : List ℕ) (ss : List FlatSort) → tasks_weight ws (tasks_at ks ss) ≤ sum_of (values_at 0 ws ks)
checked_light ws [] ss = omega arith
checked_light ws (k ∷ ks) [] = omega arith
checked_light ws (k ∷ ks) (s ∷ ss) = omega (arith, checked_light ws ks ss)

inferred_within : (n m : ℕ) → n ≤ m → (ks : List ℕ) → AreBelow n ks → AreTasks m (map task_inferred ks)
inferred_within n m l [] h = tt
inferred_within n m l (k ∷ ks) h = let b : k < n = h.0 in (omega (arith, l, b), inferred_within n m l ks h.1)

elements_within : (n m : ℕ) → n ≤ m → (s : FlatSort) (ks : List ℕ) → AreBelow n ks → AreTasks m (map (task_at s) ks)
elements_within n m l s [] h = tt
elements_within n m l s (k ∷ ks) h = let b : k < n = h.0 in (omega (arith, l, b), elements_within n m l s ks h.1)

checked_within : (n m : ℕ) → n ≤ m → (ks : List ℕ) (ss : List FlatSort) → AreBelow n ks → AreTasks m (tasks_at ks ss)
checked_within n m l [] ss h = tt
checked_within n m l (k ∷ ks) [] h = tt
checked_within n m l (k ∷ ks) (s ∷ ss) h = let b : k < n = h.0 in (omega (arith, l, b), checked_within n m l ks ss h.1)

-- ---- what comes of one node
module _ (y : FunId → Symbol) (ns : List Node) where
  one_made : (f : Symbol) (vs front : List Term) (n : ℕ) → length vs ≡ n → Make (over f n ∷ []) (front ++ vs) (front ++ apply f (terms_of vs) ∷ [])
  one_made f vs front n e = (front ++ vs, refl, record { front = front; last = vs; are = refl; many = e; become = refl })

  pub exact_none : (ks : List ℕ) (f : code.Overload) (b : Bool) → b ≡ all_same (map flat_sort f.arguments.items) (sortings_at (sortings ns) ks) → b ≡ false
      → term_in (applied exactly (typings_at y ns ks) (signature_of y f)) ≡ None
  exact_none ks f b e q =
      ap (λ o. term_in (option_map (λ us. record { term = apply (signature_of y f).symbol us; sort = (signature_of y f).result }) o))
      (none_when (all_at exactly (map flat_sort f.arguments.items) (typings_at y ns ks)) (sym (all_same_told (map flat_sort f.arguments.items) (sortings_at (sortings ns) ks) (typings_at y ns ks) (parts_tell y ns ks)) ∙ sym e ∙ q))

  pub checked_none : (ks : List ℕ) (f : code.Overload) (b : Bool) → b ≡ all_check (map flat_sort f.arguments.items) (sortings_at (sortings ns) ks) → b ≡ false
      → term_in (applied checked (typings_at y ns ks) (signature_of y f)) ≡ None
  checked_none ks f b e q =
      ap (λ o. term_in (option_map (λ us. record { term = apply (signature_of y f).symbol us; sort = (signature_of y f).result }) o))
      (none_when (all_at checked (map flat_sort f.arguments.items) (typings_at y ns ks)) (sym (all_check_told (map flat_sort f.arguments.items) (sortings_at (sortings ns) ks) (typings_at y ns ks) (parts_tell y ns ks)) ∙ sym e ∙ q))

  pub elements_none : (ks : List ℕ) (s : FlatSort) (b : Bool) → b ≡ each_checks (sortings_at (sortings ns) ks) (flat_sort s) → b ≡ false → list_of (typings_at y ns ks) (flat_sort s) ≡ None
  elements_none ks s b e q =
      none_when (list_of (typings_at y ns ks) (flat_sort s)) (sym (each_checks_told (sortings_at (sortings ns) ks) (typings_at y ns ks) (parts_tell y ns ks) (flat_sort s)) ∙ sym e ∙ q)

  pub exact_comes : (ks : List ℕ) (m : ℕ) → m ≤ length ns → AreBelow m ks → (f : code.Overload) (b : Bool) → b ≡ all_same (map flat_sort f.arguments.items) (sortings_at (sortings ns) ks) → b ≡ true
      → (copy : code.Overload) → signature_of y copy ≡ signature_of y f → (hs : Vec Step Global) (ts : Vec code_task.Task Global) (n : ℕ) → n ≡ length ks → hs.items ≡ steps.Apply copy n ∷ [] → ts.items ≡ map task_inferred ks
      → Comes y ns (parts_limit ns ks) (Some (record { steps = hs; tasks = ts })) (term_in (applied exactly (typings_at y ns ks) (signature_of y f)))
  exact_comes ks m l below f b e q copy same hs ts n count steps_are tasks_are =
      let (us, is) = some_when (all_at exactly (map flat_sort f.arguments.items) (typings_at y ns ks)) (sym (all_same_told (map flat_sort f.arguments.items) (sortings_at (sortings ns) ks) (typings_at y ns ks) (parts_tell y ns ks)) ∙ sym e ∙ q) in
      let (vs, have, are, many) = exact_have y ns ks (map flat_sort f.arguments.items) us is in
      let light = inferred_light (weights ns) ks in (
        apply (signature_of y f).symbol us,
        ap (λ o. term_in (option_map (λ us. record { term = apply (signature_of y f).symbol us; sort = (signature_of y f).result }) o)) is,
        record {
          terms = vs;
          have = subst (λ l. TasksHave y ns l vs) (sym tasks_are) have;
          make = λ front.
              subst (λ l. Make (items_of y l) (front ++ vs) (front ++ apply (signature_of y f).symbol us ∷ [])) (sym steps_are)
              (subst (λ g. Make (over g n ∷ []) (front ++ vs) (front ++ apply (signature_of y f).symbol us ∷ [])) (sym (ap (λ g. g.symbol) same))
              (subst (λ w. Make (over (signature_of y f).symbol n ∷ []) (front ++ vs) (front ++ apply (signature_of y f).symbol w ∷ [])) are (one_made (signature_of y f).symbol vs front n (many ∙ sym count))));
          light = subst (λ l. tasks_weight (weights ns) l < parts_limit ns ks) (sym tasks_are) (omega (arith, light));
          within = subst (AreTasks (length ns)) (sym tasks_are) (inferred_within m (length ns) l ks below);
        },
      )

  pub checked_comes : (ks : List ℕ) (m : ℕ) → m ≤ length ns → AreBelow m ks → (f : code.Overload) (b : Bool) → b ≡ all_check (map flat_sort f.arguments.items) (sortings_at (sortings ns) ks) → b ≡ true
      → (copy : code.Overload) → signature_of y copy ≡ signature_of y f → (hs : Vec Step Global) (ts : Vec code_task.Task Global) (n : ℕ) → n ≡ length ks → hs.items ≡ steps.Apply copy n ∷ [] → ts.items ≡ tasks_at ks f.arguments.items
      → Comes y ns (parts_limit ns ks) (Some (record { steps = hs; tasks = ts })) (term_in (applied checked (typings_at y ns ks) (signature_of y f)))
  checked_comes ks m l below f b e q copy same hs ts n count steps_are tasks_are =
      let (us, is) = some_when (all_at checked (map flat_sort f.arguments.items) (typings_at y ns ks)) (sym (all_check_told (map flat_sort f.arguments.items) (sortings_at (sortings ns) ks) (typings_at y ns ks) (parts_tell y ns ks)) ∙ sym e ∙ q) in
      let (vs, have, are, many) = checked_have y ns ks f.arguments.items us is in
      let light = checked_light (weights ns) ks f.arguments.items in (
        apply (signature_of y f).symbol us,
        ap (λ o. term_in (option_map (λ us. record { term = apply (signature_of y f).symbol us; sort = (signature_of y f).result }) o)) is,
        record {
          terms = vs;
          have = subst (λ l. TasksHave y ns l vs) (sym tasks_are) have;
          make = λ front.
              subst (λ l. Make (items_of y l) (front ++ vs) (front ++ apply (signature_of y f).symbol us ∷ [])) (sym steps_are)
              (subst (λ g. Make (over g n ∷ []) (front ++ vs) (front ++ apply (signature_of y f).symbol us ∷ [])) (sym (ap (λ g. g.symbol) same))
              (subst (λ w. Make (over (signature_of y f).symbol n ∷ []) (front ++ vs) (front ++ apply (signature_of y f).symbol w ∷ [])) are (one_made (signature_of y f).symbol vs front n (many ∙ sym count))));
          light = subst (λ l. tasks_weight (weights ns) l < parts_limit ns ks) (sym tasks_are) (omega (arith, light));
          within = subst (AreTasks (length ns)) (sym tasks_are) (checked_within m (length ns) l ks f.arguments.items below);
        },
      )

  pub elements_come : (ks : List ℕ) (m : ℕ) → m ≤ length ns → AreBelow m ks → (s : FlatSort) (b : Bool) → b ≡ each_checks (sortings_at (sortings ns) ks) (flat_sort s) → b ≡ true
      → (hs : Vec Step Global) (ts : Vec code_task.Task Global) (n : ℕ) → n ≡ length ks → items_of y hs.items ≡ list_items (flat_sort s) n → ts.items ≡ map (task_at s) ks
      → Comes y ns (parts_limit ns ks) (Some (record { steps = hs; tasks = ts })) (list_of (typings_at y ns ks) (flat_sort s))
  elements_come ks m l below s b e q hs ts n count steps_are tasks_are =
      let (u, is) = some_when (list_of (typings_at y ns ks) (flat_sort s)) (sym (each_checks_told (sortings_at (sortings ns) ks) (typings_at y ns ks) (parts_tell y ns ks) (flat_sort s)) ∙ sym e ∙ q) in
      let (vs, have, are, many) = elements_have y ns ks s u is in
      let light = elements_light (weights ns) s ks in (
        u,
        is,
        record {
          terms = vs;
          have = subst (λ l. TasksHave y ns l vs) (sym tasks_are) have;
          make = λ front.
              subst (λ i. Make i (front ++ vs) (front ++ u ∷ [])) (sym (steps_are ∙ ap (list_items (flat_sort s)) (count ∙ sym many)))
              (subst (λ w. Make (list_items (flat_sort s) (length vs)) (front ++ vs) (front ++ w ∷ [])) are (list_makes (flat_sort s) vs front));
          light = subst (λ l. tasks_weight (weights ns) l < parts_limit ns ks) (sym tasks_are) (omega (arith, light));
          within = subst (AreTasks (length ns)) (sym tasks_are) (elements_within m (length ns) l s ks below);
        },
      )

-- ---- what comes of calls
pub comes_as : {E : Type 0} (ns : List Node) (limit : ℕ) (P Q : (FunId → Symbol) → Option Term) → ((y : FunId → Symbol) → P y ≡ Q y) → (r : Result (Option code_expansion.Expansion) E)
    → IfOk r (λ o. (y : FunId → Symbol) → Comes y ns limit o (P y)) → IfOk r (λ o. (y : FunId → Symbol) → Comes y ns limit o (Q y))
comes_as ns limit P Q same r h =
    IfOk-weaker r (λ o. (y : FunId → Symbol) → Comes y ns limit o (P y)) (λ o. (y : FunId → Symbol) → Comes y ns limit o (Q y)) (λ o k y. subst (Comes y ns limit o) (same y) (k y)) h

pub got_signature : (y : FunId → Symbol) (fs : List code.Overload) (k : ℕ) (o : Option code.Overload) → slice_get fs k ≡ o → slice_get (map (signature_of y) fs) k ≡ option_map (signature_of y) o
got_signature y [] zero o e = ap (option_map (signature_of y)) e
got_signature y [] (suc k) o e = ap (option_map (signature_of y)) e
got_signature y (f ∷ fs) zero o e = ap (option_map (signature_of y)) e
got_signature y (f ∷ fs) (suc k) o e = got_signature y fs k o e

pub call_planned : (ns : List Node) (ks : List ℕ) (fs : List code.Overload) (any : Option code_any.AnyOverload) (p : Option Plan)
    → ((gs : List Signature) (c : Option Scheme) (ts : List Typing) → TellAll (sortings_at (sortings ns) ks) ts → map profile gs ≡ map profile_of fs → option_map any_profile c ≡ option_map any_profile_of any
    → call_infers gs c ts ≡ option_and_then (planned gs c ts) p)
    → (y : FunId → Symbol) → call_infers (map (signature_of y) fs) (option_map scheme_of any) (typings_at y ns ks) ≡ option_and_then (planned (map (signature_of y) fs) (option_map scheme_of any) (typings_at y ns ks)) p
call_planned ns ks fs any p h y = h (map (signature_of y) fs) (option_map scheme_of any) (typings_at y ns ks) (parts_tell y ns ks) (profiles_are y fs) (any_profile_is any)

still_some : {A B : Type 0} (f : A → B) (o : Option A) → is_some (option_map f o) ≡ is_some o
still_some f None = refl
still_some f (Some x) = refl

-- whether a function has exactly the inferred sorts
pub exact_there : (y : FunId → Symbol) (ns : List Node) (ks : List ℕ) (fs : List code.Overload) (o : Option FlatSort) → option_map flat_sort o ≡ first_exact_sort (sortings_at (sortings ns) ks) (map profile_of fs)
    → is_some (first_exact (typings_at y ns ks) (map (signature_of y) fs)) ≡ is_some o
exact_there y ns ks fs o e =
    sym (still_some (λ (i : Inferred). i.sort) (first_exact (typings_at y ns ks) (map (signature_of y) fs)))
    ∙ ap is_some (sym (first_exact_told (sortings_at (sortings ns) ks) (typings_at y ns ks) (parts_tell y ns ks) (map (signature_of y) fs)))
    ∙ ap (λ ps. is_some (first_exact_sort (sortings_at (sortings ns) ks) ps)) (profiles_are y fs) ∙ ap is_some (sym e) ∙ still_some flat_sort o

-- ---- what comes of lists
pub widest_there : (y : FunId → Symbol) (ns : List Node) (ks : List ℕ) (o : Option FlatSort) → option_map flat_sort o ≡ widest_sort (sortings_at (sortings ns) ks) → widest (typings_at y ns ks) ≡ option_map flat_sort o
widest_there y ns ks o e = sym (widest_told (sortings_at (sortings ns) ks) (typings_at y ns ks) (parts_tell y ns ks)) ∙ sym e

list_terms : (s : Sort) (o : Option Term) → o ≡ term_in (option_map (λ t. record { term = t; sort = list s }) o)
list_terms s None = refl
list_terms s (Some t) = refl

pub list_inferred : (y : FunId → Symbol) (ns : List Node) (ks : List ℕ) (o : Option FlatSort) → option_map flat_sort o ≡ widest_sort (sortings_at (sortings ns) ks) → (s : FlatSort) → o ≡ Some s
    → list_of (typings_at y ns ks) (flat_sort s) ≡ term_in (list_infers (typings_at y ns ks))
list_inferred y ns ks o e s q =
    list_terms (flat_sort s) (list_of (typings_at y ns ks) (flat_sort s))
    ∙ ap (λ w. term_in (option_and_then (λ r. option_map (λ t. record { term = t; sort = list r }) (list_of (typings_at y ns ks) r)) w)) (sym (widest_there y ns ks o e ∙ ap (option_map flat_sort) q))

pub list_infers_none : (y : FunId → Symbol) (ns : List Node) (ks : List ℕ) (o : Option FlatSort) → option_map flat_sort o ≡ widest_sort (sortings_at (sortings ns) ks) → o ≡ None
    → term_in (list_infers (typings_at y ns ks)) ≡ None
list_infers_none y ns ks o e q =
    ap (λ w. term_in (option_and_then (λ r. option_map (λ t. record { term = t; sort = list r }) (list_of (typings_at y ns ks) r)) w)) (widest_there y ns ks o e ∙ ap (option_map flat_sort) q)

-- ---- what comes of leaves
pub leaf_comes : (y : FunId → Symbol) (ns : List Node) (limit : ℕ) → 0 < limit → (h : Step) (t : Term) → item_of y h ≡ leaf t → (e : code_expansion.Expansion) → e.steps.items ≡ h ∷ [] → e.tasks.items ≡ [] → Comes y ns limit (Some e) (Some t)
leaf_comes y ns limit some h t is e steps_are tasks_are = (
  t,
  refl,
  record {
    terms = [];
    have = subst (λ l. TasksHave y ns l []) (sym tasks_are) tt;
    make = λ front.
        subst (λ l. Make (items_of y l) (front ++ []) (front ++ t ∷ [])) (sym steps_are)
        (subst (λ i. Make (i ∷ []) (front ++ []) (front ++ t ∷ [])) (sym is) (front ++ [], refl, ap (λ l. l ++ t ∷ []) (sym (append-nil front))));
    light = subst (λ l. tasks_weight (weights ns) l < limit) (sym tasks_are) some;
    within = subst (AreTasks (length ns)) (sym tasks_are) tt;
  },
)

-- ---- one node, as it is wanted
heavier : (y : FunId → Symbol) (ns : List Node) (n m : ℕ) → n ≤ m → (o : Option code_expansion.Expansion) (want : Option Term) → Comes y ns n o want → Comes y ns m o want
heavier y ns n m l None want h = h
heavier y ns n m l (Some e) want (t, is, x) = (t, is, record { terms = x.terms; have = x.have; make = x.make; light = (let lighter = x.light in omega (arith, l, lighter)); within = x.within })

kinds_are : (y : FunId → Symbol) (k : Kind) (ts : List Typing) → (kind_typing y k ts).infers ≡ kind_infers y k ts
kinds_are y (kinds.Variable v s) ts = refl
kinds_are y (kinds.Numeral n) ts = refl
kinds_are y (kinds.Call fs) ts = refl
kinds_are y kinds.List ts = refl

kinds_check : (y : FunId → Symbol) (k : Kind) (ts : List Typing) (s : Sort) → (kind_typing y k ts).checks s ≡ option_or (kind_by_sort y k ts s) (option_and_then (embedded s) (kind_typing y k ts).infers)
kinds_check y (kinds.Variable v r) ts s = refl
kinds_check y (kinds.Numeral n) ts s = refl
kinds_check y (kinds.Call fs) ts s = refl
kinds_check y kinds.List ts s = refl

module _ (ns : List Node) (are : AreNodes ns) (at : ℕ) (n : Node) (within : at < length ns) (is : n ≡ get_or ns at n) where
  limit_is : parts_limit ns n.arguments.items ≡ get_or (weights ns) at 0
  limit_is = sym (weight_there ns are at n within is)

  pub inferred_comes : {E : Type 0} (r : Result (Option code_expansion.Expansion) E) → IfOk r (λ o. (y : FunId → Symbol) → Comes y ns (parts_limit ns n.arguments.items) o (term_in (kind_infers y n.kind (typings_at y ns n.arguments.items))))
      → IfOk r (λ o. (y : FunId → Symbol) → Comes y ns (get_or (weights ns) at 0 + 0) o (term_in (typing_at (node_typings y ns) at).infers))
  inferred_comes r h =
      IfOk-weaker r _ _
      (λ o k y. heavier y ns (parts_limit ns n.arguments.items) (get_or (weights ns) at 0 + 0) (let same = limit_is in omega (arith, same)) o (term_in (typing_at (node_typings y ns) at).infers)
      (subst (Comes y ns (parts_limit ns n.arguments.items) o) (sym (ap (λ (t : Typing). term_in t.infers) (typing_there y ns are at n within is) ∙ ap term_in (kinds_are y n.kind (typings_at y ns n.arguments.items)))) (k y))) h

  at_sort_is : (y : FunId → Symbol) (s : Sort) → (typing_at (node_typings y ns) at).checks s ≡ option_or (kind_by_sort y n.kind (typings_at y ns n.arguments.items) s) (option_and_then (embedded s) (typing_at (node_typings y ns) at).infers)
  at_sort_is y s =
      ap (λ (t : Typing). t.checks s) (typing_there y ns are at n within is) ∙ kinds_check y n.kind (typings_at y ns n.arguments.items) s
      ∙ ap (λ (t : Typing). option_or (kind_by_sort y n.kind (typings_at y ns n.arguments.items) s) (option_and_then (embedded s) t.infers)) (sym (typing_there y ns are at n within is))

  pub comes_by_sort : (s : Sort) (e : code_expansion.Expansion) → ((y : FunId → Symbol) → Comes y ns (parts_limit ns n.arguments.items) (Some e) (kind_by_sort y n.kind (typings_at y ns n.arguments.items) s))
      → (y : FunId → Symbol) → Comes y ns (get_or (weights ns) at 0 + 1) (Some e) ((typing_at (node_typings y ns) at).checks s)
  comes_by_sort s e h y =
      let (t, got, x) = h y in
      heavier y ns (parts_limit ns n.arguments.items) (get_or (weights ns) at 0 + 1) (let same = limit_is in omega (arith, same)) (Some e) ((typing_at (node_typings y ns) at).checks s)
      (t, at_sort_is y s ∙ ap (λ o. option_or o (option_and_then (embedded s) (typing_at (node_typings y ns) at).infers)) got, x)

  pub comes_embedded : {E : Type 0} (s : Sort) → ((y : FunId → Symbol) → kind_by_sort y n.kind (typings_at y ns n.arguments.items) s ≡ None) → (r : Result (Option code_expansion.Expansion) E)
      → IfOk r (λ o. (y : FunId → Symbol) → Comes y ns (get_or (weights ns) at 0 + 1) o (option_and_then (embedded s) (typing_at (node_typings y ns) at).infers))
      → IfOk r (λ o. (y : FunId → Symbol) → Comes y ns (get_or (weights ns) at 0 + 1) o ((typing_at (node_typings y ns) at).checks s))
  comes_embedded s none r h =
      comes_as ns (get_or (weights ns) at 0 + 1) (λ y. option_and_then (embedded s) (typing_at (node_typings y ns) at).infers) (λ y. (typing_at (node_typings y ns) at).checks s)
      (λ y. sym (at_sort_is y s ∙ ap (λ o. option_or o (option_and_then (embedded s) (typing_at (node_typings y ns) at).infers)) (none y))) r h

-- ---- what comes of the inferred sort
infers_some : (o : Option Inferred) (r : FlatSort) → Some (flat_sort r) ≡ option_map (λ (i : Inferred). i.sort) o → (i : Inferred) × (o ≡ Some i) × (i.sort ≡ flat_sort r)
infers_some None r e = cc
infers_some (Some i) r e = (i, refl, cc)

infers_none : (o : Option Inferred) → None ≡ option_map (λ (i : Inferred). i.sort) o → o ≡ None
infers_none None e = refl
infers_none (Some i) e = cc

module _ (y : FunId → Symbol) (ns : List Node) (known : List (Option FlatSort)) (all : AreKnown ns known) (at : ℕ) (there : at < length known) where
  told : (o : Option FlatSort) → o ≡ get_or known at None → option_map flat_sort o ≡ option_map (λ (i : Inferred). i.sort) (typing_at (node_typings y ns) at).infers
  told o e = ap (option_map flat_sort) e ∙ all.told at there ∙ (node_tells y ns at).infers

  pub embeds_not : (s : Sort) (o : Option FlatSort) → o ≡ get_or known at None → o ≡ None → option_and_then (embedded s) (typing_at (node_typings y ns) at).infers ≡ None
  embeds_not s o e q = ap (option_and_then (embedded s)) (infers_none (typing_at (node_typings y ns) at).infers (ap (option_map flat_sort) (sym q) ∙ told o e))

  pub embeds_same : (s r : FlatSort) (o : Option FlatSort) → o ≡ get_or known at None → o ≡ Some r → (b : Bool) → b ≡ sort_eq (flat_sort r) (flat_sort s) → b ≡ true
      → (hs : Vec Step Global) (ts : Vec code_task.Task Global) → hs.items ≡ [] → ts.items ≡ task_inferred at ∷ []
      → Comes y ns (get_or (weights ns) at 0 + 1) (Some (record { steps = hs; tasks = ts })) (option_and_then (embedded (flat_sort s)) (typing_at (node_typings y ns) at).infers)
  embeds_same s r o e q b w z hs ts steps_are tasks_are =
      let (i, is, sort) = infers_some (typing_at (node_typings y ns) at).infers r (ap (option_map flat_sort) (sym q) ∙ told o e) in
      let same : sort_eq i.sort (flat_sort s) ≡ true = ap (λ x. sort_eq x (flat_sort s)) sort ∙ sym w ∙ z in
      let less : at < length ns = (let l = all.within in omega (arith, l, there)) in (
        i.term,
        ap (option_and_then (embedded (flat_sort s))) is ∙ ap (λ x. cond x (Some i.term) (option_map (λ f. apply f (terms.more i.term terms.none)) (upcast_to i.sort (flat_sort s)))) same,
        record {
          terms = i.term ∷ [];
          have = subst (λ l. TasksHave y ns l (i.term ∷ [])) (sym tasks_are) (ap term_in is, tt);
          make = λ front. subst (λ l. Make (items_of y l) (front ++ i.term ∷ []) (front ++ i.term ∷ [])) (sym steps_are) refl;
          light = subst (λ l. tasks_weight (weights ns) l < get_or (weights ns) at 0 + 1) (sym tasks_are) (omega arith);
          within = subst (AreTasks (length ns)) (sym tasks_are) (less, tt);
        },
      )

  pub embeds_up : (s r : FlatSort) (o : Option FlatSort) → o ≡ get_or known at None → o ≡ Some r → (b : Bool) → b ≡ sort_eq (flat_sort r) (flat_sort s) → b ≡ false
      → (f : code.Overload) → Some (signature_of y f).symbol ≡ upcast_to (flat_sort r) (flat_sort s)
      → (hs : Vec Step Global) (ts : Vec code_task.Task Global) → hs.items ≡ steps.Apply f 1 ∷ [] → ts.items ≡ task_inferred at ∷ []
      → Comes y ns (get_or (weights ns) at 0 + 1) (Some (record { steps = hs; tasks = ts })) (option_and_then (embedded (flat_sort s)) (typing_at (node_typings y ns) at).infers)
  embeds_up s r o e q b w z f up hs ts steps_are tasks_are =
      let (i, is, sort) = infers_some (typing_at (node_typings y ns) at).infers r (ap (option_map flat_sort) (sym q) ∙ told o e) in
      let same : sort_eq i.sort (flat_sort s) ≡ false = ap (λ x. sort_eq x (flat_sort s)) sort ∙ sym w ∙ z in
      let less : at < length ns = (let l = all.within in omega (arith, l, there)) in
      let made : Term = apply (signature_of y f).symbol (terms.more i.term terms.none) in (
        made,
        ap (option_and_then (embedded (flat_sort s))) is ∙ ap (λ x. cond x (Some i.term) (option_map (λ g. apply g (terms.more i.term terms.none)) (upcast_to i.sort (flat_sort s)))) same
            ∙ ap (λ x. option_map (λ g. apply g (terms.more i.term terms.none)) (upcast_to x (flat_sort s))) sort ∙ ap (option_map (λ g. apply g (terms.more i.term terms.none))) (sym up),
        record {
          terms = i.term ∷ [];
          have = subst (λ l. TasksHave y ns l (i.term ∷ [])) (sym tasks_are) (ap term_in is, tt);
          make = λ front. subst (λ l. Make (items_of y l) (front ++ i.term ∷ []) (front ++ made ∷ [])) (sym steps_are) (one_made y ns (signature_of y f).symbol (i.term ∷ []) front 1 refl);
          light = subst (λ l. tasks_weight (weights ns) l < get_or (weights ns) at 0 + 1) (sym tasks_are) (omega arith);
          within = subst (AreTasks (length ns)) (sym tasks_are) (less, tt);
        },
      )

  pub embeds_nowhere : (s r : FlatSort) (o : Option FlatSort) → o ≡ get_or known at None → o ≡ Some r → (b : Bool) → b ≡ sort_eq (flat_sort r) (flat_sort s) → b ≡ false
      → None ≡ upcast_to (flat_sort r) (flat_sort s) → option_and_then (embedded (flat_sort s)) (typing_at (node_typings y ns) at).infers ≡ None
  embeds_nowhere s r o e q b w z up =
      let (i, is, sort) = infers_some (typing_at (node_typings y ns) at).infers r (ap (option_map flat_sort) (sym q) ∙ told o e) in
      let same : sort_eq i.sort (flat_sort s) ≡ false = ap (λ x. sort_eq x (flat_sort s)) sort ∙ sym w ∙ z in
      ap (option_and_then (embedded (flat_sort s))) is ∙ ap (λ x. cond x (Some i.term) (option_map (λ g. apply g (terms.more i.term terms.none)) (upcast_to i.sort (flat_sort s)))) same
      ∙ ap (λ x. option_map (λ g. apply g (terms.more i.term terms.none)) (upcast_to x (flat_sort s))) sort ∙ ap (option_map (λ g. apply g (terms.more i.term terms.none))) (sym up)

-- ---- the stack of tasks
pub AreMade : (y : FunId → Symbol) → List Node → Option Term → List Step → List code_task.Task → Type 0
AreMade y ns want hs ks = (t : Term) × (us : List Term) × (want ≡ Some t) × TasksHave y ns ks us × Make (items_of y hs) us (t ∷ [])

have_behind : (y : FunId → Symbol) (ns : List Node) (ks js : List code_task.Task) (us vs : List Term) → TasksHave y ns ks us → TasksHave y ns js vs → TasksHave y ns (ks ++ js) (us ++ vs)
have_behind y ns [] js [] vs h k = k
have_behind y ns (x ∷ ks) js (u ∷ us) vs h k = (h.0, have_behind y ns ks js us vs h.1 k)
have_behind y ns [] js (u ∷ us) vs h k = absurd h
have_behind y ns (x ∷ ks) js [] vs h k = absurd h

have_last : (y : FunId → Symbol) (ns : List Node) (ks : List code_task.Task) (k : code_task.Task) (us : List Term) → TasksHave y ns (ks ++ k ∷ []) us
    → (front : List Term) × (u : Term) × (us ≡ front ++ u ∷ []) × TasksHave y ns ks front × (wished (wish_of k.wanted) (typing_at (node_typings y ns) k.at) ≡ Some u)
have_last y ns [] k [] h = absurd h
have_last y ns [] k (u ∷ []) h = ([], u, refl, tt, h.0)
have_last y ns [] k (u ∷ v ∷ us) h = absurd h.1
have_last y ns (x ∷ ks) k [] h = absurd h
have_last y ns (x ∷ ks) k (u ∷ us) h =
    let (front, v, are, have, got) = have_last y ns ks k us h.1 in (u ∷ front, v, ap (λ l. u ∷ l) are, (h.0, have), got)

pub made_first : (y : FunId → Symbol) (ns : List Node) (limit : ℕ) (want : Option Term) (e : code_expansion.Expansion) → Comes y ns limit (Some e) want → AreMade y ns want e.steps.items e.tasks.items
unfolding AreMade
made_first y ns limit want e (t, is, x) = (t, x.terms, is, x.have, x.make [])

pub made_more : (y : FunId → Symbol) (ns : List Node) (limit : ℕ) (want : Option Term) (hs gs : List Step) (ks js all : List code_task.Task) (k : code_task.Task) (e : code_expansion.Expansion)
    → all ≡ ks ++ k ∷ [] → Comes y ns limit (Some e) (wished (wish_of k.wanted) (typing_at (node_typings y ns) k.at)) → gs ≡ hs ++ e.steps.items → js ≡ ks ++ e.tasks.items
    → AreMade y ns want hs all → AreMade y ns want gs js
unfolding AreMade
made_more y ns limit want hs gs ks js all k e are comes steps_are tasks_are (t, us, is, have, make) =
    let (front, u, ends, rest, got) = have_last y ns ks k us (subst (λ l. TasksHave y ns l us) are have) in
    let (v, made, x) = comes in
    let same : v ≡ u = (let both : Some v ≡ Some u = sym made ∙ got in cc) in
    let new : Make (items_of y e.steps.items) (front ++ x.terms) (front ++ u ∷ []) = subst (λ w. Make (items_of y e.steps.items) (front ++ x.terms) (front ++ w ∷ [])) same (x.make front) in (
      t,
      front ++ x.terms,
      is,
      subst (λ l. TasksHave y ns l (front ++ x.terms)) (sym tasks_are) (have_behind y ns ks e.tasks.items front x.terms rest x.have),
      subst (λ l. Make (items_of y l) (front ++ x.terms) (t ∷ [])) (sym steps_are)
          (subst (λ i. Make i (front ++ x.terms) (t ∷ [])) (sym (map-append (item_of y) hs e.steps.items))
          (make_behind (items_of y hs) (items_of y e.steps.items) (front ++ x.terms) (front ++ u ∷ []) (t ∷ []) new (subst (λ l. Make (items_of y hs) l (t ∷ [])) ends make))),
    )

pub made_last : (y : FunId → Symbol) (ns : List Node) (want : Option Term) (hs : List Step) (ks : List code_task.Task) → ks ≡ [] → AreMade y ns want hs ks → AreSteps y (Some hs) want
unfolding AreMade
made_last y ns want hs ks none (t, us, is, have, make) = by_terms us (subst (λ l. TasksHave y ns l us) none have) make
  where
    by_terms : (vs : List Term) → TasksHave y ns [] vs → Make (items_of y hs) vs (t ∷ []) → AreSteps y (Some hs) want
    by_terms [] h m = (t, is, m)
    by_terms (v ∷ vs) h m = absurd h

pub never_none : (y : FunId → Symbol) (ns : List Node) (limit : ℕ) (want : Option Term) (hs : List Step) (ks all : List code_task.Task) (k : code_task.Task)
    → all ≡ ks ++ k ∷ [] → Comes y ns limit None (wished (wish_of k.wanted) (typing_at (node_typings y ns) k.at)) → AreMade y ns want hs all → ⊥
unfolding AreMade
never_none y ns limit want hs ks all k are none (t, us, is, have, make) =
    let (front, u, ends, rest, got) = have_last y ns ks k us (subst (λ l. TasksHave y ns l us) are have) in
    let both : Some u ≡ None = sym got ∙ none in
    cc

tasks_split : (ws : List ℕ) (ks js : List code_task.Task) → tasks_weight ws (ks ++ js) ≡ tasks_weight ws ks + tasks_weight ws js
tasks_split ws [] js = omega arith
tasks_split ws (k ∷ ks) js = let rest = tasks_split ws ks js in omega (arith, rest)

pub tasks_fall : (y : FunId → Symbol) (ns : List Node) (ks js all : List code_task.Task) (k : code_task.Task) (e : code_expansion.Expansion) (want : Option Term)
    → all ≡ ks ++ k ∷ [] → Comes y ns (task_weight (weights ns) k) (Some e) want → js ≡ ks ++ e.tasks.items → tasks_weight (weights ns) js < tasks_weight (weights ns) all
tasks_fall y ns ks js all k e want are (t, is, x) tasks_are =
    let old : tasks_weight (weights ns) all ≡ tasks_weight (weights ns) ks + tasks_weight (weights ns) (k ∷ []) = ap (tasks_weight (weights ns)) are ∙ tasks_split (weights ns) ks (k ∷ []) in
    let new : tasks_weight (weights ns) js ≡ tasks_weight (weights ns) ks + tasks_weight (weights ns) e.tasks.items = ap (tasks_weight (weights ns)) tasks_are ∙ tasks_split (weights ns) ks e.tasks.items in
    let light = x.light in
    omega (arith, old, new, light)

tasks_behind : (n : ℕ) (ks js : List code_task.Task) → AreTasks n ks → AreTasks n js → AreTasks n (ks ++ js)
tasks_behind n [] js h k = k
tasks_behind n (x ∷ ks) js h k = (h.0, tasks_behind n ks js h.1 k)

tasks_front : (n : ℕ) (ks js : List code_task.Task) → AreTasks n (ks ++ js) → AreTasks n ks
tasks_front n [] js h = tt
tasks_front n (x ∷ ks) js h = (h.0, tasks_front n ks js h.1)

pub task_there : (n : ℕ) (ks all : List code_task.Task) (k : code_task.Task) → all ≡ ks ++ k ∷ [] → AreTasks n all → k.at < n
task_there n ks all k e h = last ks (subst (AreTasks n) e h)
  where
    last : (js : List code_task.Task) → AreTasks n (js ++ k ∷ []) → k.at < n
    last [] q = q.0
    last (j ∷ js) q = last js q.1

pub tasks_there : (y : FunId → Symbol) (ns : List Node) (limit : ℕ) (ks js all : List code_task.Task) (k : code_task.Task) (e : code_expansion.Expansion) (want : Option Term)
    → all ≡ ks ++ k ∷ [] → Comes y ns limit (Some e) want → js ≡ ks ++ e.tasks.items → AreTasks (length ns) all → AreTasks (length ns) js
tasks_there y ns limit ks js all k e want are (t, is, x) tasks_are h =
    subst (AreTasks (length ns)) (sym tasks_are) (tasks_behind (length ns) ks e.tasks.items (tasks_front (length ns) ks (k ∷ []) (subst (AreTasks (length ns)) are h)) x.within)

pub tasks_first : (y : FunId → Symbol) (ns : List Node) (limit : ℕ) (want : Option Term) (e : code_expansion.Expansion) → Comes y ns limit (Some e) want → AreTasks (length ns) e.tasks.items
tasks_first y ns limit want e (t, is, x) = x.within

-- ---- loops that make steps and tasks
pub tasks_more : (ks : List ℕ) (ss : List FlatSort) (k : ℕ) (s : FlatSort) → k < length ks → k < length ss → s ≡ get_or ss k s → (old new : List code_task.Task) → new ≡ old ++ task_at s (get_or ks k 0) ∷ []
    → old ++ tasks_at (drop k ks) (drop k ss) ≡ tasks_at ks ss → new ++ tasks_at (drop (k + 1) ks) (drop (k + 1) ss) ≡ tasks_at ks ss
tasks_more ks ss k s h l is old new e q =
    ap (λ ts. ts ++ tasks_at (drop (k + 1) ks) (drop (k + 1) ss)) e ∙ append_assoc old (task_at s (get_or ks k 0) ∷ []) (tasks_at (drop (k + 1) ks) (drop (k + 1) ss))
    ∙ ap (λ r. old ++ task_at r (get_or ks k 0) ∷ tasks_at (drop (k + 1) ks) (drop (k + 1) ss)) is
    ∙ sym (ap (λ js. old ++ tasks_at js (drop k ss)) (drop_more ks k 0 h) ∙ ap (λ rs. old ++ tasks_at (get_or ks k 0 ∷ drop (k + 1) ks) rs) (drop_more ss k s l)) ∙ q

no_parts_left : (ss : List FlatSort) → tasks_at [] ss ≡ []
no_parts_left ss = refl

no_sorts_left : (ks : List ℕ) → tasks_at ks [] ≡ []
no_sorts_left [] = refl
no_sorts_left (k ∷ ks) = refl

-- no more parts, or no more sorts
pub tasks_done : (ks : List ℕ) (ss : List FlatSort) (k : ℕ) → length ks ≤ k → (old : List code_task.Task) → old ++ tasks_at (drop k ks) (drop k ss) ≡ tasks_at ks ss → old ≡ tasks_at ks ss
tasks_done ks ss k h old q = sym (append-nil old) ∙ ap (λ js. old ++ tasks_at js (drop k ss)) (sym (drop_all k ks h)) ∙ q

pub tasks_all : (ks : List ℕ) (ss : List FlatSort) (k : ℕ) → length ss ≤ k → (old : List code_task.Task) → old ++ tasks_at (drop k ks) (drop k ss) ≡ tasks_at ks ss → old ≡ tasks_at ks ss
tasks_all ks ss k h old q =
    sym (append-nil old) ∙ ap (λ ts. old ++ ts) (sym (no_sorts_left (drop k ks))) ∙ ap (λ rs. old ++ tasks_at (drop k ks) rs) (sym (drop_all k ss h)) ∙ q

pub conses : Sort → ℕ → List Item
conses s zero = []
conses s (suc n) = over (cons s) 2 ∷ conses s n

pub conses_none : (s : Sort) → [] ≡ conses s 0
unfolding conses
conses_none s = refl

conses_last : (s : Sort) (n : ℕ) → conses s n ++ over (cons s) 2 ∷ [] ≡ conses s (suc n)
unfolding conses
conses_last s zero = refl
conses_last s (suc n) = ap (λ l. over (cons s) 2 ∷ l) (conses_last s n)

pub conses_more : (y : FunId → Symbol) (s : Sort) (n : ℕ) (old new : List Step) (f : code.Overload) → items_of y old ≡ conses s n → (signature_of y f).symbol ≡ cons s → new ≡ old ++ steps.Apply f 2 ∷ [] → items_of y new ≡ conses s (n + 1)
conses_more y s n old new f e is q =
    ap (items_of y) q ∙ map-append (item_of y) old (steps.Apply f 2 ∷ []) ∙ ap (λ l. l ++ over (signature_of y f).symbol 2 ∷ []) e ∙ ap (λ g. conses s n ++ over g 2 ∷ []) is ∙ conses_last s n ∙ ap (conses s) (let next : suc n ≡ n + 1 = omega arith in next)

conses_end : (s : Sort) (n : ℕ) → conses s n ++ over (empty s) 0 ∷ [] ≡ list_items s n
unfolding conses
conses_end s zero = refl
conses_end s (suc n) = ap (λ l. over (cons s) 2 ∷ l) (conses_end s n)

pub conses_done : (y : FunId → Symbol) (s : Sort) (n : ℕ) (old new : List Step) (f : code.Overload) → items_of y old ≡ conses s n → (signature_of y f).symbol ≡ empty s → new ≡ old ++ steps.Apply f 0 ∷ [] → items_of y new ≡ list_items s n
conses_done y s n old new f e is q =
    ap (items_of y) q ∙ map-append (item_of y) old (steps.Apply f 0 ∷ []) ∙ ap (λ l. l ++ over (signature_of y f).symbol 0 ∷ []) e ∙ ap (λ g. conses s n ++ over g 0 ∷ []) is ∙ conses_end s n

pub below_up : (n m : ℕ) → n ≤ m → (ks : List ℕ) → AreBelow n ks → AreBelow m ks
below_up n m l [] h = tt
below_up n m l (k ∷ ks) h = let b : k < n = h.0 in (omega (arith, l, b), below_up n m l ks h.1)

places_over : (s : Sort) (ps : List SortPlace) → map (λ p. typings.over s (place_of p)) ps ≡ map (typings.over s) (map place_of ps)
places_over s [] = refl
places_over s (p ∷ ps) = ap (λ l. typings.over s (place_of p) ∷ l) (places_over s ps)

-- a function over any sort, at a sort
pub overload_is : (y : FunId → Symbol) (any : code_any.AnyOverload) (s : FlatSort) (ps : List SortPlace) → ps ≡ any.arguments.items → (arguments : Vec FlatSort Global)
    → map flat_sort arguments.items ≡ map (λ p. typings.over (flat_sort s) (place_of p)) ps → (result : FlatSort) → flat_sort result ≡ typings.over (flat_sort s) (place_of any.result)
    → signature_of y (record { callee = callees.BuiltIn any.word; arguments = arguments; result = result }) ≡ scheme_at (scheme_of any) (flat_sort s)
overload_is y any s ps e arguments a result r =
    let args : map flat_sort arguments.items ≡ map (typings.over (flat_sort s)) (map place_of any.arguments.items) =
    a ∙ ap (map (λ p. typings.over (flat_sort s) (place_of p))) e ∙ places_over (flat_sort s) any.arguments.items in
    λ i. record { symbol = word_symbol any.word (args i) (r i); arguments = args i; result = r i }

pub no_term : (o : Option Term) → ⊥ → o ≡ None
no_term o h = absurd h
