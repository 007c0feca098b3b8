-- Sums that are named one after another.
use Rattle.std.proofs.Common.{◌≡◌, ◌<◌, ◌≤◌, ◌+◌, ◌==◌, ◌⊎◌, inl, inr, ⊎_elim, ℕ, zero, suc, Bool, true, false, cond, List, [], ◌∷◌, ◌++◌, map, take, length, get_or, refl, sym, ap, ap₂, ◌∙◌, subst, arith, Option, Some, None}
use Rattle.std.specs.Prelude.{◌↔◌, codes, option_map, slice_get, IfSome}
use Rattle.std.specs.List.{All, AllZip, Contains, list_any}
use Rattle.std.proofs.lemmas.List.{map-append, take_more, take_all, length-append}
use Rattle.std.proofs.lemmas.List.Elements.{All-nil, All-push, All-head, All-tail, All-weaker, Contains-append_left, Contains-append_right, Contains-append_cases}
use Rattle.data_theory.specs.declared.ids.NameId.{NameId}
use Rattle.data_theory.specs.declared.ids.VarId.{VarId}
use Rattle.data_theory.specs.declared.ids.TermId.{TermId}
use Rattle.data_theory.specs.declared.signature.Variable.{Variable}
use Rattle.data_theory.specs.Functions.{Function}
use Rattle.data_theory.specs.declared.words.ListWord.{ListWord}
use Rattle.data_theory.specs.declared.words.ListWord.TheVariants as lists
use Rattle.data_theory.specs.Words.{list_text}
use Rattle.data_theory.specs.Names.{place_in}
use Rattle.data_theory.specs.Taken.{with_name}
use Rattle.data_theory.specs.Signature.{Sig, with_variable}
use Rattle.data_theory.specs.Fresh.{IsFreshIn}
use Rattle.data_theory.specs.WholeSignatures.{IsSignature}
use Rattle.data_theory.specs.IdTrees.{Tree, put_tree}
use Rattle.data_theory.proofs.SignatureLemmas.{among_names}
use Rattle.term_pool.specs.HeadTrees.{tree_at, trees_at, IsIn, AreIn}
use Rattle.term_pool.specs.Pools.{Extends}
use Rattle.term_pool.specs.Bindings.{listed, listed_terms}
use Rattle.bisim_laws.proofs.Firing.{contains_first, contains_none, contains_cases}
use Rattle.lps_core.specs.declared.linears.Summand.{Summand}
use Rattle.lps_core.specs.PlainLinears.{PlainSummand, plain_summand}
use Rattle.lps_core.specs.Fitting.{IsVariable, sort_of_variable}
use Rattle.lps_core.specs.TreeSummands.{trees_of_label, IsActionIn, IsSummandIn, put_actions, put_in_summand, renaming_tree}
use Rattle.data_theory.specs.declared.ids.SortId.{SortId}
use Rattle.data_theory.specs.Table.{bool_sort}
use Rattle.std.proofs.lemmas.Option.{slice_get_within, get_or_from_slice_get}
use Rattle.lps_core.proofs.Staying.{sort_is_within}
use Rattle.lps_core.specs.Naming.{name_of, names_of, list_words, list_names, table_names, IsUsed, GrowsByNames, IsNamed, it_stays, it_is_new, AreNamed, no_sum, one_more_sum, SummandsAreNamed, no_summand, one_more_summand, HasOtherSums, NamesSummands}
use Rattle.lps_core.proofs.PoolTrees.{extends_itself, extends_on, tree_kept, actions_kept, put_along, args_along, actions_along}
use Rattle.lps_core.proofs.KeptSummands.{next_trees_kept, summand_kept, summand_in_kept}
use Rattle.lps_core.proofs.NamedSums.{names_none, names_then, names_text, names_variable, names_kept, variable_kept, with_name_keeps, with_name_has, among, zip_push, variable_there}

-- ---- sets of names
pub with_name_cases : (ns : List NameId) (m n : NameId) → Contains (with_name ns m) n → Contains ns n ⊎ (m ≡ n)
with_name_cases ns m n = elim (list_any (λ k. m.0 == k.0) ns) as (λ b. Contains (cond b ns (ns ++ m ∷ [])) n → Contains ns n ⊎ (m ≡ n)) [
  | true ↦ (λ i. inl i)
  | false ↦ (λ i. ⊎_elim (λ j. inl j) (λ j. ⊎_elim (λ q. inr q) (λ k. absurd (contains_none n k)) (contains_cases m n [] j)) (Contains-append_cases ns (m ∷ []) n i))
]

-- the names of a list are added to those of a set
abbrev pub Adding : {A : Type 0} → (A → NameId) → List A → List NameId → ℕ → List NameId → Type 0
Adding f xs old i keys = (n : NameId) → Contains keys n ↔ (Contains old n ⊎ Contains (map f (take i xs)) n)

pub adding_none : {A : Type 0} (f : A → NameId) (xs : List A) (old : List NameId) → Adding f xs old 0 old
adding_none f xs old n = (λ i. inl i, λ u. ⊎_elim (λ i. i) (λ i. absurd (contains_none n i)) u)

pub adding_more : {A : Type 0} (f : A → NameId) (xs : List A) (old : List NameId) (i : ℕ) (keys new : List NameId) (d : A) → Adding f xs old i keys → i < length xs → new ≡ with_name keys (f (get_or xs i d)) → Adding f xs old (i + 1) new
adding_more f xs old i keys new d a l e n =
    let x = f (get_or xs i d) in
    let more : map f (take (i + 1) xs) ≡ map f (take i xs) ++ x ∷ [] = ap (map f) (take_more xs i d l) ∙ map-append f (take i xs) (get_or xs i d ∷ []) in (
      λ j. ⊎_elim
          (λ k. ⊎_elim (λ o. inl o) (λ o. inr (subst (λ z. Contains z n) (sym more) (Contains-append_left (map f (take i xs)) (x ∷ []) n o))) ((a n).0 k))
          (λ q. inr (subst (λ z. Contains z n) (sym more) (Contains-append_right (map f (take i xs)) (x ∷ []) n (subst (λ z. Contains (x ∷ []) z) q (contains_first x [])))))
          (with_name_cases keys x n (subst (λ z. Contains z n) e j)),
      λ u. subst (λ z. Contains z n) (sym e) (⊎_elim
          (λ o. with_name_keeps keys x n ((a n).1 (inl o)))
          (λ o. ⊎_elim
          (λ k. with_name_keeps keys x n ((a n).1 (inr k)))
          (λ k. ⊎_elim (λ q. subst (λ z. Contains (with_name keys x) z) q (with_name_has keys x)) (λ b. absurd (contains_none n b)) (contains_cases x n [] k))
          (Contains-append_cases (map f (take i xs)) (x ∷ []) n (subst (λ z. Contains z n) more o)))
          u),
    )

pub adding_all : {A : Type 0} (f : A → NameId) (xs : List A) (old : List NameId) (i : ℕ) (keys : List NameId) → Adding f xs old i keys → length xs ≤ i → (n : NameId) → Contains keys n ↔ (Contains old n ⊎ Contains (map f xs) n)
adding_all f xs old i keys a l n = subst (λ z. Contains keys n ↔ (Contains old n ⊎ Contains (map f z) n)) (take_all i xs l) (a n)

pub is_among : (keys : List NameId) (n : NameId) (r : Bool) → r ≡ list_any (λ (m : NameId). n.0 == m.0) keys → (r ≡ true) ↔ Contains keys n
is_among keys n r e = (λ q. among keys n (sym e ∙ q), λ i. e ∙ among_names keys n i)

-- ---- one sum
pub named_along : (P Q : NameId → Type 0) → ((n : NameId) → P n ↔ Q n) → (g : Sig) (x : VarId) (h : Sig) (y : VarId) → IsNamed P g x h y → IsNamed Q g x h y
named_along P Q f g x _ _ (it_stays n) = it_stays (λ q. n ((f (name_of g x)).1 q))
named_along P Q f g x _ _ (it_is_new {h = h} {base = base} {name = name} p r q) = it_is_new ((f (name_of g x)).0 p) r q

pub named_variable : (P : NameId → Type 0) (g : Sig) (x : VarId) (h : Sig) (y : VarId) → IsVariable g x → IsNamed P g x h y → IsVariable h y
named_variable P g x _ _ l (it_stays n) = l
named_variable P g x _ _ l (it_is_new {h = h} {name = name} p r q) = let e = length-append h.variables (record { name = name; sort = sort_of_variable g x } ∷ []) in omega (arith, e)

-- what the look-ups of a variable give
pub name_is : (g : Sig) (x : VarId) (n : NameId) → IsVariable g x → IfSome (slice_get g.variables x.0) (λ (v : Variable). v.name ≡ n) → name_of g x ≡ n
name_is g x n l h = subst (λ o. IfSome o (λ (v : Variable). v.name ≡ n)) (variable_there g x l (record { name = record { 0 = 0 }; sort = record { 0 = 0 } })) h

pub sort_is : (g : Sig) (x : VarId) (s : SortId) → IsVariable g x → IfSome (slice_get g.variables x.0) (λ (v : Variable). v.sort ≡ s) → sort_of_variable g x ≡ s
sort_is g x s l h = subst (λ o. IfSome o (λ (v : Variable). v.sort ≡ s)) (variable_there g x l (record { name = record { 0 = 0 }; sort = bool_sort })) h

pub function_name_is : (g : Sig) (k : ℕ) (n : NameId) → k < length g.functions → IfSome (slice_get g.functions k) (λ (f : Function). f.name ≡ n) → (d : Function) × ((get_or g.functions k d).name ≡ n)
function_name_is g k n l h = by_case (slice_get g.functions k) refl h
  where
    none_is : (fs : List Function) (k : ℕ) → k < length fs → slice_get fs k ≡ None → ⊥
    none_is [] k l e = omega (arith, l)
    none_is (f ∷ fs) zero l e = cc
    none_is (f ∷ fs) (suc k) l e = none_is fs k (omega (arith, l)) e

    by_case : (o : Option Function) → slice_get g.functions k ≡ o → IfSome o (λ (f : Function). f.name ≡ n) → (d : Function) × ((get_or g.functions k d).name ≡ n)
    by_case None e i = absurd (none_is g.functions k l e)
    by_case (Some f) e i = (f, ap (λ (z : Function). z.name) (get_or_from_slice_get g.functions k f f e) ∙ i)

pub name_within : (g : Sig) (x : VarId) → IsSignature g → IsVariable g x → (name_of g x).0 < length g.texts
name_within g x s l = (s.complete.within.variables x.0 (record { name = record { 0 = 0 }; sort = record { 0 = 0 } }) l).0

pub fresh_names : (g h : Sig) (base : List ℕ) (name : NameId) → IsSignature g → IsFreshIn g base name h → GrowsByNames g h
fresh_names g h base name s f = subst (λ z. GrowsByNames g z) (sym f.taken) (names_text g f.text s)

pub fresh_within : (g h : Sig) (base : List ℕ) (name : NameId) → IsFreshIn g base name h → name.0 < length h.texts
fresh_within g h base name f = slice_get_within h.texts name.0 f.text f.named

pub new_is_named : (P : NameId → Type 0) (g : Sig) (x : VarId) (h : Sig) (base : List ℕ) (name : NameId) (sort : SortId) (k : Sig) (y : VarId) → P (name_of g x) → slice_get g.texts (name_of g x).0 ≡ Some base → IsFreshIn g base name h
    → sort_of_variable g x ≡ sort → k ≡ with_variable h (record { name = name; sort = sort }) → y.0 ≡ length h.variables → IsNamed P g x k y
new_is_named P g x h base name sort k y p at f s e n =
    subst (λ z. IsNamed P g x z y) (sym e) (subst (λ z. IsNamed P g x (with_variable h (record { name = name; sort = z })) y) s (subst (λ (z : VarId). IsNamed P g x (with_variable h (record { name = name; sort = sort_of_variable g x })) z) (ap (λ m. record { 0 = m }) (sym n)) (it_is_new p at f)))

pub new_grows : (g h k : Sig) (x : VarId) (name : NameId) (sort : SortId) → IsSignature g → IsVariable g x → GrowsByNames g h → sort_of_variable g x ≡ sort → name.0 < length h.texts → k ≡ with_variable h (record { name = name; sort = sort }) → GrowsByNames g k
new_grows g h k x name sort s l w e n q =
    names_then g h k w (subst (λ z. GrowsByNames h z) (sym q) (names_variable h (record { name = name; sort = sort }) w.stands n (subst (λ ss. sort.0 < length ss) (sym w.sorts) (subst (λ (z : SortId). z.0 < length g.sorts) e (sort_is_within g x s.complete l)))))

-- the names of the functions over lists are added one by one
abbrev list_name_in : List (List ℕ) → ListWord → NameId
list_name_in texts w = place_in texts (list_text w)

pub list_names_added : (texts : List (List ℕ)) (old one two three all : List NameId) → one ≡ with_name old (place_in texts (codes "head")) → two ≡ with_name one (place_in texts (codes "rhead")) → three ≡ with_name two (place_in texts (codes "tail"))
    → all ≡ with_name three (place_in texts (codes "rtail")) → (n : NameId) → Contains all n ↔ (Contains old n ⊎ Contains (list_names texts) n)
unfolding list_words
list_names_added texts old one two three all a b c d =
    let f : ListWord → NameId = list_name_in texts in
    adding_all f list_words old 4 all
    (adding_more f list_words old 3 three all lists.Head
    (adding_more f list_words old 2 two three lists.Head
    (adding_more f list_words old 1 one two lists.Head
    (adding_more f list_words old 0 old one lists.Head (adding_none f list_words old) (omega arith) a) (omega arith) b) (omega arith) c) (omega arith) d) (omega arith)

pub used_all : (g : Sig) (params : List VarId) (old first second keys : List NameId) → old ≡ [] → ((n : NameId) → Contains first n ↔ (Contains old n ⊎ Contains (names_of g params) n)) → ((n : NameId) → Contains second n ↔ (Contains first n ⊎ Contains (list_names g.texts) n))
    → ((n : NameId) → Contains keys n ↔ (Contains second n ⊎ Contains (table_names g) n)) → (n : NameId) → Contains keys n ↔ IsUsed g params n
used_all g params old first second keys e a b c n = (
  λ i. ⊎_elim
      (λ j. ⊎_elim
      (λ k. ⊎_elim (λ o. absurd (contains_none n (subst (λ z. Contains z n) e o))) (λ o. inl o) ((a n).0 k))
      (λ k. inr (Contains-append_left (list_names g.texts) (table_names g) n k)) ((b n).0 j))
      (λ j. inr (Contains-append_right (list_names g.texts) (table_names g) n j)) ((c n).0 i),
  λ u. ⊎_elim
      (λ j. (c n).1 (inl ((b n).1 (inl ((a n).1 (inr j))))))
      (λ j. ⊎_elim (λ k. (c n).1 (inl ((b n).1 (inr k)))) (λ k. (c n).1 (inr k)) (Contains-append_cases (list_names g.texts) (table_names g) n j)) u,
)

-- ---- the sums of a summand
pub record IsNamingSums (IsOne : NameId → Type 0) (g : Sig) (sums : List VarId) (i : ℕ) (h : Sig) (named : List VarId) (mine : List NameId) : Type 0 where
  pub on : GrowsByNames g h
  pub named_so_far : AreNamed IsOne g (take i sums) h named
  pub variables : All (IsVariable h) named
  pub own_names : (n : NameId) → Contains mine n ↔ Contains (names_of h named) n

pub naming_no_sums : (IsOne : NameId → Type 0) (g : Sig) (sums : List VarId) → IsSignature g → IsNamingSums IsOne g sums 0 g [] []
naming_no_sums IsOne g sums s = record { on = names_none g s; named_so_far = no_sum; variables = All-nil (IsVariable g); own_names = λ n. (λ i. i, λ i. i) }

pub naming_one_sum : (IsOne : NameId → Type 0) (g : Sig) (sums : List VarId) (i : ℕ) (h : Sig) (named : List VarId) (mine : List NameId) (d : VarId) → IsNamingSums IsOne g sums i h named mine → i < length sums → All (IsVariable g) sums
    → (k : Sig) (y : VarId) (new : List NameId) → GrowsByNames h k → IsNamed (λ n. IsOne n ⊎ Contains mine n) h (get_or sums i d) k y → new ≡ with_name mine (name_of k y) → IsNamingSums IsOne g sums (i + 1) k (named ++ y ∷ []) new
naming_one_sum IsOne g sums i h named mine d s l own k y new w is e =
    let x = get_or sums i d in
    let there : IsVariable h x = variable_kept g h x s.on.grown (own i d l) in
    let Q : NameId → Type 0 = λ n. IsOne n ⊎ Contains (names_of h named) n in
    let is_named : IsNamed Q h x k y = named_along (λ n. IsOne n ⊎ Contains mine n) Q (λ n. (λ u. ⊎_elim (λ a. inl a) (λ a. inr ((s.own_names n).0 a)) u, λ u. ⊎_elim (λ a. inl a) (λ a. inr ((s.own_names n).1 a)) u)) h x k y is in
    let names : names_of k (named ++ y ∷ []) ≡ names_of h named ++ name_of k y ∷ [] = map-append (name_of k) named (y ∷ []) ∙ ap (λ z. z ++ name_of k y ∷ []) (names_kept h k named w.grown s.variables) in
    record {
      on = names_then g h k s.on w;
      named_so_far = subst (λ z. AreNamed IsOne g z k (named ++ y ∷ [])) (sym (take_more sums i d l)) (one_more_sum s.named_so_far is_named);
      variables = All-push (IsVariable k) named y (All-weaker (IsVariable h) (IsVariable k) (λ z j. variable_kept h k z w.grown j) named s.variables) (named_variable Q h x k y there is_named);
      own_names = λ n. (
        λ j. subst (λ z. Contains z n) (sym names) (⊎_elim
            (λ a. Contains-append_left (names_of h named) (name_of k y ∷ []) n ((s.own_names n).0 a))
            (λ q. Contains-append_right (names_of h named) (name_of k y ∷ []) n (subst (λ z. Contains (name_of k y ∷ []) z) q (contains_first (name_of k y) [])))
            (with_name_cases mine (name_of k y) n (subst (λ z. Contains z n) e j))),
        λ j. subst (λ z. Contains z n) (sym e) (⊎_elim
            (λ a. with_name_keeps mine (name_of k y) n ((s.own_names n).1 a))
            (λ a. ⊎_elim (λ q. subst (λ z. Contains (with_name mine (name_of k y)) z) q (with_name_has mine (name_of k y))) (λ b. absurd (contains_none n b)) (contains_cases (name_of k y) n [] a))
            (Contains-append_cases (names_of h named) (name_of k y ∷ []) n (subst (λ z. Contains z n) names j))),
      );
    }

pub naming_all_sums : (IsOne : NameId → Type 0) (g : Sig) (sums : List VarId) (i : ℕ) (h : Sig) (named : List VarId) (mine : List NameId) → IsNamingSums IsOne g sums i h named mine → length sums ≤ i → AreNamed IsOne g sums h named
naming_all_sums IsOne g sums i h named mine s l = subst (λ z. AreNamed IsOne g z h named) (take_all i sums l) s.named_so_far

named_sums_long : (IsOne : NameId → Type 0) (g : Sig) (xs : List VarId) (h : Sig) (ys : List VarId) → AreNamed IsOne g xs h ys → length ys ≡ length xs
named_sums_long IsOne g _ _ _ no_sum = refl
named_sums_long IsOne g _ _ _ (one_more_sum {xs = xs} {ys = ys} {h = h} {x = x} {y = y} a n) =
    let e = named_sums_long IsOne g xs h ys a in
    let p = length-append ys (y ∷ []) in
    let q = length-append xs (x ∷ []) in
    omega (arith, e, p, q)

pub as_many_sums : (IsOne : NameId → Type 0) (g : Sig) (xs : List VarId) (h : Sig) (ys : List VarId) → AreNamed IsOne g xs h ys → length ys ≡ length xs
as_many_sums = named_sums_long

-- ---- a summand with other sums
pub other_sums_made : (by : List (VarId × TermId)) (s made : PlainSummand) (ts t1 t2 t3 t4 : List Tree) → IsSummandIn ts s → Extends ts t1 → Extends t1 t2 → Extends t2 t3 → Extends t3 t4 → AreIn t1 (listed_terms by)
    → ((v : VarId) → listed t1 by v ≡ renaming_tree s.sums made.sums v) → ((v : VarId) → listed t2 by v ≡ listed t1 by v) → ((v : VarId) → listed t3 by v ≡ listed t1 by v)
    → IsIn t2 made.condition → tree_at t2 made.condition ≡ put_tree (listed t1 by) (tree_at t1 s.condition)
    → All (IsActionIn t3) made.label → trees_of_label t3 made.label ≡ put_actions (listed t2 by) (trees_of_label t2 s.label)
    → option_map (trees_at t4) made.next ≡ option_map (map (put_tree (listed t3 by))) (option_map (trees_at t3) s.next)
    → HasOtherSums ts t4 s made
other_sums_made by s made ts t1 t2 t3 t4 within e1 e2 e3 e4 by_in moves same2 same3 cond_in cond label_in label next =
    let r = renaming_tree s.sums made.sums in
    let e02 = extends_on ts t1 t2 e1 e2 in
    let e03 = extends_on ts t2 t3 e02 e3 in
    let condition : tree_at t4 made.condition ≡ put_tree r (tree_at ts s.condition) =
    (tree_kept t2 t4 made.condition (extends_on t2 t3 t4 e3 e4) cond_in).0 ∙ cond ∙ ap (put_tree (listed t1 by)) (tree_kept ts t1 s.condition e1 within.condition).0 ∙ put_along (listed t1 by) r moves (tree_at ts s.condition) in
    let labels : trees_of_label t4 made.label ≡ put_actions r (trees_of_label ts s.label) =
    actions_kept t3 t4 made.label e4 label_in ∙ label ∙ ap (put_actions (listed t2 by)) (actions_kept ts t2 s.label e02 within.label) ∙ actions_along (listed t2 by) r (λ v. same2 v ∙ moves v) (trees_of_label ts s.label) in
    ap₂ (λ c m. record { sums = made.sums; condition = c; label = m; next = option_map (trees_at t4) made.next }) condition labels
    ∙ ap (λ n. record { sums = made.sums; condition = put_tree r (tree_at ts s.condition); label = put_actions r (trees_of_label ts s.label); next = n })
    (next ∙ ap (option_map (map (put_tree (listed t3 by)))) (next_trees_kept ts t3 e03 s.next within.next) ∙ next_along (listed t3 by) r (λ v. same3 v ∙ moves v) (option_map (trees_at ts) s.next))
  where
    next_along : (d e : VarId → Tree) → ((v : VarId) → d v ≡ e v) → (next : Option (List Tree)) → option_map (map (put_tree d)) next ≡ option_map (map (put_tree e)) next
    next_along d e h None = refl
    next_along d e h (Some ts) = ap Some (args_along d e h ts)

-- ---- all summands
abbrev sums_of : PlainSummand → List VarId
sums_of s = s.sums

pub item_is : (P : PlainSummand → Type 0) (items : List Summand) (i : ℕ) (s : Summand) → i < length items → s ≡ get_or items i s → All P (map plain_summand items) → P (plain_summand s)
item_is P [] i s l e h = absurd (omega (arith, l))
item_is P (x ∷ items) zero s l e h = subst (λ z. P (plain_summand z)) (sym e) (All-head P (plain_summand x) (map plain_summand items) h)
item_is P (x ∷ items) (suc i) s l e h = item_is P items i s (omega (arith, l)) e (All-tail P (plain_summand x) (map plain_summand items) h)

-- used by the parameters, as the set has it
pub names_summands_along : (A B : NameId → Type 0) → ((n : NameId) → A n ↔ B n) → (g h : Sig) (ts us : List Tree) (ss made : List PlainSummand) → NamesSummands A g h ts us ss made → NamesSummands B g h ts us ss made
names_summands_along A B f g h ts us ss made n = record { names = summands_along (map sums_of ss) h (map sums_of made) n.names; summands = n.summands; within = n.within }
  where
    sums_along : (g : Sig) (xs : List VarId) (h : Sig) (ys : List VarId) → AreNamed A g xs h ys → AreNamed B g xs h ys
    sums_along g _ _ _ no_sum = no_sum
    sums_along g _ k _ (one_more_sum {xs = xs} {ys = ys} {h = h} {x = x} {y = y} a m) =
        one_more_sum (sums_along g xs h ys a) (named_along (λ n. A n ⊎ Contains (names_of h ys) n) (λ n. B n ⊎ Contains (names_of h ys) n) (λ n. (λ u. ⊎_elim (λ i. inl ((f n).0 i)) (λ i. inr i) u, λ u. ⊎_elim (λ i. inl ((f n).1 i)) (λ i. inr i) u)) h x k y m)

    summands_along : (xss : List (List VarId)) (h : Sig) (yss : List (List VarId)) → SummandsAreNamed A g xss h yss → SummandsAreNamed B g xss h yss
    summands_along _ _ _ no_summand = no_summand
    summands_along _ k _ (one_more_summand {xss = xss} {yss = yss} {h = h} {xs = xs} {ys = ys} a m) = one_more_summand (summands_along xss h yss a) (sums_along h xs k ys m)

pub record IsNamingSummands (IsOne : NameId → Type 0) (g : Sig) (ts : List Tree) (items : List Summand) (i : ℕ) (h : Sig) (us : List Tree) (made : List Summand) : Type 0 where
  pub on : GrowsByNames g h
  pub kept : Extends ts us
  pub named_so_far : NamesSummands IsOne g h ts us (map plain_summand (take i items)) (map plain_summand made)

pub naming_no_summands : (IsOne : NameId → Type 0) (g : Sig) (ts : List Tree) (items : List Summand) → IsSignature g → IsNamingSummands IsOne g ts items 0 g ts []
naming_no_summands IsOne g ts items s = record { on = names_none g s; kept = extends_itself ts; named_so_far = record { names = no_summand; summands = tt; within = All-nil (IsSummandIn ts) } }

pub naming_one_summand : (IsOne : NameId → Type 0) (g : Sig) (ts : List Tree) (items : List Summand) (i : ℕ) (h : Sig) (us : List Tree) (made : List Summand) (s : Summand) → IsNamingSummands IsOne g ts items i h us made → i < length items → s ≡ get_or items i s
    → IsSummandIn ts (plain_summand s) → (k : Sig) (vs : List Tree) (new : Summand) → GrowsByNames h k → Extends us vs → AreNamed IsOne h s.sums.items k new.sums.items → IsSummandIn vs (plain_summand new) → HasOtherSums us vs (plain_summand s) (plain_summand new)
    → IsNamingSummands IsOne g ts items (i + 1) k vs (made ++ new ∷ [])
naming_one_summand IsOne g ts items i h us made s n l read old k vs new w e are within other =
    let p = n.named_so_far in
    let front = map plain_summand (take i items) in
    let done = map plain_summand made in
    let items_more : map plain_summand (take (i + 1) items) ≡ front ++ plain_summand s ∷ [] = ap (map plain_summand) (take_more items i s l ∙ ap (λ z. take i items ++ z ∷ []) (sym read)) ∙ map-append plain_summand (take i items) (s ∷ []) in
    let made_more : map plain_summand (made ++ new ∷ []) ≡ done ++ plain_summand new ∷ [] = map-append plain_summand made (new ∷ []) in
    let before : HasOtherSums ts vs (plain_summand s) (plain_summand new) = other ∙ ap (put_in_summand (renaming_tree (sums_of (plain_summand s)) (sums_of (plain_summand new))) (sums_of (plain_summand new))) (summand_kept ts us n.kept (plain_summand s) old) in
    let all : NamesSummands IsOne g k ts vs (front ++ plain_summand s ∷ []) (done ++ plain_summand new ∷ []) = record {
      names = subst (λ z. SummandsAreNamed IsOne g z k (map sums_of (done ++ plain_summand new ∷ []))) (sym (map-append sums_of front (plain_summand s ∷ [])))
          (subst (λ z. SummandsAreNamed IsOne g (map sums_of front ++ s.sums.items ∷ []) k z) (sym (map-append sums_of done (plain_summand new ∷ []))) (one_more_summand p.names are));
      summands = zip_push (HasOtherSums ts vs) front done (plain_summand s) (plain_summand new) (kept_others front done p.summands p.within) before;
      within = All-push (IsSummandIn vs) done (plain_summand new) (All-weaker (IsSummandIn us) (IsSummandIn vs) (λ z j. summand_in_kept us vs e z j) done p.within) within;
    } in
    record {
      on = names_then g h k n.on w;
      kept = extends_on ts us vs n.kept e;
      named_so_far = subst (λ z. NamesSummands IsOne g k ts vs z (map plain_summand (made ++ new ∷ []))) (sym items_more) (subst (λ z. NamesSummands IsOne g k ts vs (front ++ plain_summand s ∷ []) z) (sym made_more) all);
    }
  where
    kept_others : (xs ys : List PlainSummand) → AllZip (HasOtherSums ts us) xs ys → All (IsSummandIn us) ys → AllZip (HasOtherSums ts vs) xs ys
    kept_others [] [] z a = tt
    kept_others [] (y ∷ ys) z a = absurd z
    kept_others (x ∷ xs) [] z a = absurd z
    kept_others (x ∷ xs) (y ∷ ys) z a = (summand_kept us vs e y (All-head (IsSummandIn us) y ys a) ∙ z.0, kept_others xs ys z.1 (All-tail (IsSummandIn us) y ys a))

pub naming_all_summands : (IsOne : NameId → Type 0) (g : Sig) (ts : List Tree) (items : List Summand) (i : ℕ) (h : Sig) (us : List Tree) (made : List Summand) → IsNamingSummands IsOne g ts items i h us made → length items ≤ i
    → NamesSummands IsOne g h ts us (map plain_summand items) (map plain_summand made)
naming_all_summands IsOne g ts items i h us made n l = subst (λ z. NamesSummands IsOne g h ts us (map plain_summand z) (map plain_summand made)) (take_all i items l) n.named_so_far
