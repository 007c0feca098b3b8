-- Data under new numbers, and what comes behind them under the numbers beyond.
use Rattle.std.proofs.Common.{◌≡◌, ◌<◌, ◌+◌, ◌⊎◌, ⊎_elim, ℕ, zero, suc, List, [], ◌∷◌, ◌++◌, map, length, get_or, refl, sym, ap, ◌∙◌, subst, arith, length-append, get_or-append-add}
use Rattle.std.specs.List.{All, AllByRecursion}
use Rattle.std.proofs.lemmas.List.{get_or_append_left}
use Rattle.std.proofs.lemmas.List.Elements.{All-from_recursion, recursion_from_All}
use Rattle.data_theory.specs.Terms.{Sort, boolean, named, truth, falsity, empty, cons, function, Term, Terms, variable, numeral, unknown, application, none, more}
use Rattle.data_theory.specs.Declarations.{Role, constructor, projection, recogniser, mapping, Construction, by_declarations, Data, DeclaredFunction, function_at, sort_at, IsSort, FitsRole, IsData, IsConstructed, AreConstructed, HasSort, NoSortIsEmpty}
use Rattle.lin_driver.specs.Renumberings.{Renumbering, new_sort, new_term, new_terms, new_role, new_function, TakesData}
use Rattle.lin_driver.proofs.MatchedNumbers.{below}
use Rattle.lin_driver.proofs.NewDerivations.{new_is_sort, new_has_sort}
use Rattle.lin_driver.proofs.NewTerms.{new_long}

get_mapped : {A B : Type 0} (f : A → B) (xs : List A) (k : ℕ) (x : A) → get_or (map f xs) k (f x) ≡ f (get_or xs k x)
get_mapped f [] k x = refl
get_mapped f (y ∷ xs) zero x = refl
get_mapped f (y ∷ xs) (suc k) x = get_mapped f xs k x

-- ---- data stay data, and their sorts have values
module _ (r : Renumbering) (g h : Data) (takes : TakesData r g h) where
  role_new : (f : DeclaredFunction) (o : Role) → FitsRole g f o → FitsRole h (new_function r f) (new_role r o)
  role_new f constructor x = (r.sorts x.0, ap (new_sort r) x.1)
  role_new f (projection c i) x =
      let its : function_at h (r.functions c) ≡ new_function r (function_at g c) = takes.functions c in (
        r.sorts x.0,
        ap (map (new_sort r)) x.1,
        ap (λ (z : DeclaredFunction). z.role) its ∙ ap (new_role r) x.2,
        ap (λ (z : DeclaredFunction). z.result) its ∙ ap (new_sort r) x.3,
        subst (λ (z : DeclaredFunction). i < length z.arguments) (sym its) (subst (λ (n : ℕ). i < n) (sym (new_long (new_sort r) (function_at g c).arguments)) x.4),
        ap (new_sort r) x.5 ∙ sym (get_mapped (new_sort r) (function_at g c).arguments i boolean) ∙ sym (ap (λ (z : DeclaredFunction). get_or z.arguments i boolean) its),
        takes.sorts x.0 ∙ x.6,
      )
  role_new f (recogniser c) x =
      let its : function_at h (r.functions c) ≡ new_function r (function_at g c) = takes.functions c in (
        r.sorts x.0,
        ap (map (new_sort r)) x.1,
        ap (λ (z : DeclaredFunction). z.role) its ∙ ap (new_role r) x.2,
        ap (λ (z : DeclaredFunction). z.result) its ∙ ap (new_sort r) x.3,
        ap (new_sort r) x.4,
        takes.sorts x.0 ∙ x.5,
      )
  role_new f mapping x = tt

  sorts_new : (ss : List Sort) → AllByRecursion (IsSort g) ss → AllByRecursion (IsSort h) (map (new_sort r) ss)
  sorts_new [] all = tt
  sorts_new (s ∷ ss) all = (new_is_sort r g h takes s all.0, sorts_new ss all.1)

  -- a function of the second data under its old number
  record IsOld (k : ℕ) : Type 0 where
    number : ℕ
    within : number < length g.functions
    is : function_at h k ≡ new_function r (function_at g number)

  old_function : (k : ℕ) → k < length h.functions → IsOld k
  old_function k l = record {
    number = r.old_functions k;
    within = (takes.all_functions (r.old_functions k)).1 (subst (λ (n : ℕ). n < length h.functions) (sym (r.functions_there k)) l);
    is = ap (function_at h) (sym (r.functions_there k)) ∙ takes.functions (r.old_functions k);
  }

  pub data_new : IsData g → IsData h
  data_new is = record {
    roles = λ k l. (let o = old_function k l in subst (λ (f : DeclaredFunction). FitsRole h f f.role) (sym o.is) (role_new (function_at g o.number) (function_at g o.number).role (is.roles o.number o.within)));
    results = λ k l. (let o = old_function k l in subst (λ (f : DeclaredFunction). IsSort h f.result) (sym o.is) (new_is_sort r g h takes (function_at g o.number).result (is.results o.number o.within)));
    arguments = λ k l. (
        let o = old_function k l in
        let ss : List Sort = (function_at g o.number).arguments in
        subst (λ (f : DeclaredFunction). All (IsSort h) f.arguments) (sym o.is) (All-from_recursion (IsSort h) (map (new_sort r) ss) (sorts_new ss (recursion_from_All (IsSort g) ss (is.arguments o.number o.within))))
        );
  }

  mutual
    constructed_new : (t : Term) → IsConstructed g t → IsConstructed h (new_term r t)
    constructed_new (variable x) c = absurd c
    constructed_new (numeral a z) c = tt
    constructed_new (unknown d k) c = tt
    constructed_new (application truth ts) c = tt
    constructed_new (application falsity ts) c = tt
    constructed_new (application (empty s) ts) c = tt
    constructed_new (application (cons s) ts) c = all_constructed_new ts c
    constructed_new (application (function k) ts) c = (ap (λ (f : DeclaredFunction). f.role) (takes.functions k) ∙ ap (new_role r) c.0, all_constructed_new ts c.1)
    constructed_new (application _ ts) c = absurd c

    all_constructed_new : (ts : Terms) → AreConstructed g ts → AreConstructed h (new_terms r ts)
    all_constructed_new none c = tt
    all_constructed_new (more t ts) c = (constructed_new t c.0, all_constructed_new ts c.1)

  pub filled_new : NoSortIsEmpty g → NoSortIsEmpty h
  filled_new full d l =
      let k : ℕ = r.old_sorts d in
      let t = full k ((takes.all_sorts k).1 (subst (λ (n : ℕ). n < length h.sorts) (sym (r.sorts_there d)) l)) in
      (new_term r t.0, (constructed_new t.0 t.1.0, subst (λ (n : ℕ). HasSort h [] (new_term r t.0) (named n)) (r.sorts_there d) (new_has_sort r g h takes [] t.0 (named k) t.1.1)))

-- ---- more behind both
abbrev pub with_data : Data → List Construction → List DeclaredFunction → Data
with_data g cs fs = record { sorts = g.sorts ++ cs; functions = g.functions ++ fs }

within_both : (m n k a b : ℕ) → a ≡ m + k → b ≡ n + k → (d e i : ℕ) → d ≡ m + i → e ≡ n + i → d < a → e < b
within_both m n k a b p q d e i f g l = omega (arith, p, q, f, g, l)

module _ (r : Renumbering) (g h : Data) (takes : TakesData r g h) (sorts_beyond : (i : ℕ) → r.sorts (length g.sorts + i) ≡ length h.sorts + i) (functions_beyond : (i : ℕ) → r.functions (length g.functions + i) ≡ length h.functions + i)
    (cs : List Construction) (fs : List DeclaredFunction) where
  abbrev no_function : DeclaredFunction
  no_function = record { arguments = []; result = boolean; role = mapping }

  abbrev G : Data
  G = with_data g cs fs

  abbrev H : Data
  H = with_data h cs (map (new_function r) fs)

  sorts_more : (d : ℕ) → sort_at H (r.sorts d) ≡ sort_at G d
  sorts_more d =
      ⊎_elim
      (λ l. (let low = (takes.all_sorts d).0 l in get_or_append_left h.sorts cs by_declarations (r.sorts d) low ∙ takes.sorts d ∙ sym (get_or_append_left g.sorts cs by_declarations d l)))
      (λ i. ap (sort_at H) (ap r.sorts i.1 ∙ sorts_beyond i.0) ∙ get_or-append-add h.sorts cs i.0 by_declarations ∙ sym (ap (sort_at G) i.1 ∙ get_or-append-add g.sorts cs i.0 by_declarations))
      (below d (length g.sorts))

  functions_more : (k : ℕ) → function_at H (r.functions k) ≡ new_function r (function_at G k)
  functions_more k =
      ⊎_elim
      (λ l. (
      let low = (takes.all_functions k).0 l in
      get_or_append_left h.functions (map (new_function r) fs) no_function (r.functions k) low ∙ takes.functions k ∙ sym (ap (new_function r) (get_or_append_left g.functions fs no_function k l))
      ))
      (λ i. ap (function_at H) (ap r.functions i.1 ∙ functions_beyond i.0) ∙ get_or-append-add h.functions (map (new_function r) fs) i.0 no_function ∙ get_mapped (new_function r) fs i.0 no_function
      ∙ sym (ap (new_function r) (ap (function_at G) i.1 ∙ get_or-append-add g.functions fs i.0 no_function)))
      (below k (length g.functions))

  sorts_both : (d : ℕ) → (d < length G.sorts → r.sorts d < length H.sorts) × (r.sorts d < length H.sorts → d < length G.sorts)
  sorts_both d =
      let a = length-append g.sorts cs in
      let b = length-append h.sorts cs in
      ⊎_elim
      (λ l. (let low = (takes.all_sorts d).0 l in ((λ m. omega (arith, low, b)), (λ m. omega (arith, l, a)))))
      (λ i. (
      let e : r.sorts d ≡ length h.sorts + i.0 = ap r.sorts i.1 ∙ sorts_beyond i.0 in
      (within_both (length g.sorts) (length h.sorts) (length cs) (length G.sorts) (length H.sorts) a b d (r.sorts d) i.0 i.1 e, within_both (length h.sorts) (length g.sorts) (length cs) (length H.sorts) (length G.sorts) b a (r.sorts d) d i.0 e i.1)
      ))
      (below d (length g.sorts))

  functions_both : (k : ℕ) → (k < length G.functions → r.functions k < length H.functions) × (r.functions k < length H.functions → k < length G.functions)
  functions_both k =
      let a = length-append g.functions fs in
      let c = new_long (new_function r) fs in
      let b : length H.functions ≡ length h.functions + length fs = length-append h.functions (map (new_function r) fs) ∙ ap (λ (n : ℕ). length h.functions + n) c in
      ⊎_elim
      (λ l. (let low = (takes.all_functions k).0 l in ((λ m. omega (arith, low, b)), (λ m. omega (arith, l, a)))))
      (λ i. (
      let e : r.functions k ≡ length h.functions + i.0 = ap r.functions i.1 ∙ functions_beyond i.0 in (
        within_both (length g.functions) (length h.functions) (length fs) (length G.functions) (length H.functions) a b k (r.functions k) i.0 i.1 e,
        within_both (length h.functions) (length g.functions) (length fs) (length H.functions) (length G.functions) b a (r.functions k) k i.0 e i.1,
      )
      ))
      (below k (length g.functions))

  pub takes_more : TakesData r G H
  takes_more = record { sorts = sorts_more; all_sorts = sorts_both; functions = functions_more; all_functions = functions_both }
