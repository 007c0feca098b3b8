-- What is laid out serves the encoding.
use Rattle.std.proofs.Common.{cond, ◌≡◌, ◌⊎◌, inl, inr, ⊎_elim, ℕ, zero, suc, List, [], ◌∷◌, ◌++◌, map, length, get_or, refl, sym, ap, ap₂, ◌∙◌, subst, append_assoc, Option, Some, None}
use Rattle.std.specs.Prelude.{slice_get, codes}
use Rattle.std.specs.List.{All, AllZip, Contains}
use Rattle.std.proofs.lemmas.List.{map-append, length-map}
use Rattle.std.proofs.lemmas.List.Elements.{All-nil, All-cons, Contains-append_left, Contains-append_cases}
use Rattle.std.proofs.lemmas.Option.{slice_get_within, get_or_from_slice_get}
use Rattle.std.proofs.lemmas.Slice.Zip.{AllZip-long}
use Rattle.std.proofs.lemmas.Bool.Decides.{eqb_tells}
use Rattle.data_theory.specs.declared.ids.NameId.{NameId}
use Rattle.data_theory.specs.declared.ids.SortId.{SortId}
use Rattle.data_theory.specs.declared.ids.FunId.{FunId}
use Rattle.data_theory.specs.Functions.{Function, declared_function}
use Rattle.data_theory.specs.declared.ids.VarId.{VarId}
use Rattle.data_theory.specs.declared.ids.TermId.{TermId}
use Rattle.data_theory.specs.Terms.{Term}
use Rattle.data_theory.specs.Environments.{AreDistinct, term_in, bound, Environment}
use Rattle.data_theory.specs.Signature.{Sig, IsTaken}
use Rattle.data_theory.proofs.IdGrowthLemmas.{growth_after_growth_is_growth}
use Rattle.data_theory.proofs.PlaceLemmas.{read_front}
use Rattle.term_pool.specs.HeadTrees.{tree_at, IsIn}
use Rattle.term_pool.specs.Pools.{PoolContents}
use Rattle.term_pool.specs.Constants.{DeclaresConstant, DeclaresConstants, none_left, declares}
use Rattle.term_pool.proofs.DeclaredConstants.{grown_itself, fresh_grows, constant_grows}
use Rattle.data_theory.specs.IdTrees.{Tree}
use Rattle.data_theory.specs.IdTerms.{IsGrown}
use Rattle.data_theory.specs.WholeSignatures.{IsSignature}
use Rattle.data_theory.proofs.EnvironmentLemmas.{contains_nothing, contains_cases}
use Rattle.bisim_laws.proofs.Firing.{contains_first, contains_later, contains_none as none_contains, contains_cases as cases_contain, head_same, tail_same, bound_reads}
use Rattle.bisim_laws.specs.LinearProcesses.{reading}
use Rattle.lps_core.specs.Fitting.{AreTermsOf, sort_of_variable}
use Rattle.lps_core.specs.TreeSummands.{numbers_of}
use Rattle.lps_core.specs.Naming.{name_of, list_names, table_names, function_names}
use Rattle.lps_core.proofs.Members.{map_contains}
use Rattle.lps_core.proofs.FunctionNames.{list_names_stay}
use Rattle.lps_core.proofs.NamedSums.{not_taken, name_numbers}
use Rattle.regular_encoder.specs.FormColumns.{kind_of, IsColumnOf, argument_of, IsFirstTerm, an_argument, a_closed_term, AreFirstTerms, no_first_term, one_more_first_term}
use Rattle.regular_encoder.proofs.FirstTerms.{some_is, no_some, FirstStands, HasNoVariable}

-- ---- entries of lists side by side
pub zip_at : {A B : Type 0} (R : A → B → Type 0) (xs : List A) (ys : List B) (i : ℕ) (x : A) (d : B) → AllZip R xs ys → slice_get xs i ≡ Some x → R x (get_or ys i d)
zip_at R [] ys i x d z e = cc
zip_at R (a ∷ xs) [] i x d z e = absurd z
zip_at R (a ∷ xs) (b ∷ ys) zero x d z e = let q : a ≡ x = cc in subst (λ y. R y b) q z.0
zip_at R (a ∷ xs) (b ∷ ys) (suc i) x d z e = zip_at R xs ys i x d z.1 e

-- what stands at one place of two lists, where both mean the same
read_both : {A B C : Type 0} (f : A → C) (h : B → C) (xs : List A) (ys : List B) (i : ℕ) (x : A) (y : B) → map f xs ≡ map h ys → slice_get xs i ≡ Some x → slice_get ys i ≡ Some y → f x ≡ h y
read_both f h [] ys i x y e a b = cc
read_both f h (x₀ ∷ xs) [] i x y e a b = cc
read_both f h (x₀ ∷ xs) (y₀ ∷ ys) zero x y e a b =
    let q : x₀ ≡ x = cc in
    let r : y₀ ≡ y = cc in
    let s : f x₀ ≡ h y₀ = cc in
    ap f (sym q) ∙ s ∙ ap h r
read_both f h (x₀ ∷ xs) (y₀ ∷ ys) (suc i) x y e a b = let s : map f xs ≡ map h ys = cc in read_both f h xs ys i x y s a b

number_at : (cs : List VarId) (i : ℕ) (c : VarId) → slice_get cs i ≡ Some c → Contains (numbers_of cs) c.0
number_at cs i c e = map_contains (λ (x : VarId). x.0) cs c (i, slice_get_within cs i c e, get_or_from_slice_get cs i c c e)

-- no variable stands at two places
pub one_place : (cs : List VarId) (i j : ℕ) (c x : VarId) → AreDistinct (numbers_of cs) → slice_get cs i ≡ Some c → slice_get cs j ≡ Some x → c.0 ≡ x.0 → i ≡ j
one_place [] i j c x d a b e = cc
one_place (y ∷ cs) zero zero c x d a b e = refl
one_place (y ∷ cs) zero (suc j) c x d a b e = let q : y ≡ c = cc in absurd (d.0 (subst (λ n. Contains (numbers_of cs) n) (sym (ap (λ z. z.0) q ∙ e)) (number_at cs j x b)))
one_place (y ∷ cs) (suc i) zero c x d a b e = let q : y ≡ x = cc in absurd (d.0 (subst (λ n. Contains (numbers_of cs) n) (e ∙ sym (ap (λ z. z.0) q)) (number_at cs i c a)))
one_place (y ∷ cs) (suc i) (suc j) c x d a b e = ap suc (one_place cs i j c x d.1 a b e)

-- ---- the place of an equation
module _ (g : Sig) (ks : List (NameId × SortId)) (cs : List VarId) where
  -- the parameter whose column this is
  behind_column : (params place : List VarId) → AllZip (IsColumnOf g ks cs) params place → (v : ℕ) → Contains (numbers_of place) v → (p : VarId) × (c : VarId) × (Contains params p) × (IsColumnOf g ks cs p c) × (v ≡ c.0)
  behind_column [] [] z v i = absurd (contains_nothing v i)
  behind_column [] (c ∷ place) z v i = absurd z
  behind_column (p ∷ params) [] z v i = absurd z
  behind_column (p ∷ params) (c ∷ place) z v i = ⊎_elim
      (λ q. (p, c, contains_first p params, z.0, sym q))
      (λ j. let r = behind_column params place z.1 v j in (r.0, r.1, contains_later p r.0 params r.2, r.3, r.4))
      (contains_cases c.0 v (numbers_of place) i)

  -- parameters of one name and sort have one column, so that those with different names have different ones
  pub place_distinct : (params place : List VarId) → AreDistinct (numbers_of cs) → AreDistinct (name_numbers g params) → AllZip (IsColumnOf g ks cs) params place → AreDistinct (numbers_of place)
  place_distinct [] [] d n z = tt
  place_distinct [] (c ∷ place) d n z = absurd z
  place_distinct (p ∷ params) [] d n z = absurd z
  place_distinct (p ∷ params) (c ∷ place) d n z = (
    λ i.
        let r = behind_column params place z.1 c.0 i in
        let column = r.3 in
        let same : z.0.0 ≡ column.0 = one_place cs z.0.0 column.0 c r.1 d z.0.2 column.2 r.4 in
        let kinds : kind_of g p ≡ kind_of g r.0 = some_is (sym z.0.1 ∙ ap (slice_get ks) same ∙ column.1) in
        n.0 (subst (λ m. Contains (name_numbers g params) m) (ap (λ k. k.0.0) (sym kinds)) (map_contains (λ (m : NameId). m.0) (map (name_of g) params) (name_of g r.0) (map_contains (name_of g) params r.0 r.2))),
    place_distinct params place d n.1 z.1,
  )

  pub place_among : (params place : List VarId) → AllZip (IsColumnOf g ks cs) params place → (c : VarId) → Contains place c → Contains cs c
  place_among [] [] z c i = absurd (none_contains c i)
  place_among [] (x ∷ place) z c i = absurd z
  place_among (p ∷ params) [] z c i = absurd z
  place_among (p ∷ params) (x ∷ place) z c i = ⊎_elim
      (λ q. subst (λ y. Contains cs y) q (z.0.0, slice_get_within cs z.0.0 x z.0.2, get_or_from_slice_get cs z.0.0 x x z.0.2))
      (λ j. place_among params place z.1 c j)
      (cases_contain x c place i)

  pub place_sorts : (h : Sig) (params place : List VarId) → map (sort_of_variable h) cs ≡ map (λ (k : NameId × SortId). k.1) ks → AllZip (IsColumnOf g ks cs) params place → AllZip (λ p c. sort_of_variable g p ≡ sort_of_variable h c) params place
  place_sorts h [] [] e z = tt
  place_sorts h [] (c ∷ place) e z = absurd z
  place_sorts h (p ∷ params) [] e z = absurd z
  place_sorts h (p ∷ params) (c ∷ place) e z =
      (sym (read_both (sort_of_variable h) (λ (k : NameId × SortId). k.1) cs ks z.0.0 c (kind_of g p) e z.0.2 z.0.1), place_sorts h params place e z.1)

-- ---- what the first values are read as
front_given : (f : TermId → Term) (place : List VarId) (args : List TermId) (e : Environment) (c : VarId) (a : TermId) → argument_of place args c ≡ Some a → term_in (bound (numbers_of place) (map f args) ++ e) c.0 ≡ f a
front_given f [] args e c a h = absurd (no_some h)
front_given f (p ∷ place) [] e c a h = absurd (no_some h)
front_given f (p ∷ place) (t ∷ args) e c a h = ⊎_elim
    (λ q. ap (λ b. cond b (f t) (term_in (bound (numbers_of place) (map f args) ++ e) c.0)) q.0 ∙ ap f (some_is (sym (ap (λ b. cond b (Some t) (argument_of place args c)) q.0) ∙ h)))
    (λ q. ap (λ b. cond b (f t) (term_in (bound (numbers_of place) (map f args) ++ e) c.0)) q.0 ∙ front_given f place args e c a (sym (ap (λ b. cond b (Some t) (argument_of place args c)) q.0) ∙ h))
    (eqb_tells p.0 c.0)

front_other : (f : TermId → Term) (place : List VarId) (args : List TermId) (e : Environment) (c : VarId) → argument_of place args c ≡ None → term_in (bound (numbers_of place) (map f args) ++ e) c.0 ≡ term_in e c.0
front_other f [] args e c h = refl
front_other f (p ∷ place) [] e c h = refl
front_other f (p ∷ place) (t ∷ args) e c h = ⊎_elim
    (λ q. absurd (no_some (sym h ∙ ap (λ b. cond b (Some t) (argument_of place args c)) q.0)))
    (λ q. ap (λ b. cond b (f t) (term_in (bound (numbers_of place) (map f args) ++ e) c.0)) q.0 ∙ front_other f place args e c (sym (ap (λ b. cond b (Some t) (argument_of place args c)) q.0) ∙ h))
    (eqb_tells p.0 c.0)

front_read : (f : TermId → Term) (place : List VarId) (args : List TermId) (e : Environment) (c : VarId) (t : TermId) → ((a : TermId) → argument_of place args c ≡ Some a → t ≡ a) → term_in e c.0 ≡ f t → term_in (bound (numbers_of place) (map f args) ++ e) c.0 ≡ f t
front_read f place args e c t r h = by_case (argument_of place args c) refl
  where
    by_case : (o : Option TermId) → argument_of place args c ≡ o → term_in (bound (numbers_of place) (map f args) ++ e) c.0 ≡ f t
    by_case None q = front_other f place args e c q ∙ h
    by_case (Some a) q = front_given f place args e c a q ∙ ap f (sym (r a q))

each_read : (f : TermId → Term) (e : Environment) (cs : List VarId) (ts : List TermId) → reading e (numbers_of cs) ≡ map f ts → AllZip (λ c t. term_in e c.0 ≡ f t) cs ts
each_read f e [] [] h = tt
each_read f e [] (t ∷ ts) h = cc
each_read f e (c ∷ cs) [] h = cc
each_read f e (c ∷ cs) (t ∷ ts) h = (head_same h, each_read f e cs ts (tail_same h))

all_read : (f : TermId → Term) (place : List VarId) (args : List TermId) (h : Sig) (us : List Tree) (e : Environment) (cs : List VarId) (ts : List TermId) → AllZip (FirstStands place args h us) cs ts → AllZip (λ c t. term_in e c.0 ≡ f t) cs ts
    → reading (bound (numbers_of place) (map f args) ++ e) (numbers_of cs) ≡ map f ts
all_read f place args h us e [] [] s r = refl
all_read f place args h us e [] (t ∷ ts) s r = absurd s
all_read f place args h us e (c ∷ cs) [] s r = absurd s
all_read f place args h us e (c ∷ cs) (t ∷ ts) s r = ap₂ (λ u z. u ∷ z) (front_read f place args e c t s.0.read r.0) (all_read f place args h us e cs ts s.1 r.1)

pub firsts_read : (f : TermId → Term) (place : List VarId) (args : List TermId) (h : Sig) (us : List Tree) (cs : List VarId) (ts : List TermId) → AreDistinct (numbers_of cs) → AllZip (FirstStands place args h us) cs ts
    → reading (bound (numbers_of place) (map f args) ++ bound (numbers_of cs) (map f ts)) (numbers_of cs) ≡ map f ts
firsts_read f place args h us cs ts d s =
    let long : length (map f ts) ≡ length (numbers_of cs) = length-map ts f ∙ AllZip-long (FirstStands place args h us) cs ts s ∙ sym (length-map cs (λ (x : VarId). x.0)) in
    all_read f place args h us (bound (numbers_of cs) (map f ts)) cs ts s (each_read f (bound (numbers_of cs) (map f ts)) cs ts (bound_reads (numbers_of cs) (map f ts) long d))

-- ---- what they are
pub are_terms : (place : List VarId) (args : List TermId) (h : Sig) (us : List Tree) (cs : List VarId) (ts : List TermId) → AllZip (FirstStands place args h us) cs ts → AreTermsOf h us (map (sort_of_variable h) cs) ts
are_terms place args h us [] [] s = record { within = All-nil (IsIn us); sorted = tt }
are_terms place args h us [] (t ∷ ts) s = absurd s
are_terms place args h us (c ∷ cs) [] s = absurd s
are_terms place args h us (c ∷ cs) (t ∷ ts) s =
    let r = are_terms place args h us cs ts s.1 in
    record { within = All-cons (IsIn us) t ts s.0.term.within r.within; sorted = (s.0.term.sorted, r.sorted) }

pub are_closed : (place : List VarId) (args : List TermId) (h : Sig) (us : List Tree) (cs : List VarId) (ts : List TermId) → AllZip (FirstStands place args h us) cs ts → All (λ t. HasNoVariable (tree_at us t)) ts
are_closed place args h us [] [] s = All-nil (λ t. HasNoVariable (tree_at us t))
are_closed place args h us [] (t ∷ ts) s = absurd s
are_closed place args h us (c ∷ cs) [] s = absurd s
are_closed place args h us (c ∷ cs) (t ∷ ts) s = All-cons (λ t. HasNoVariable (tree_at us t)) t ts s.0.closed (are_closed place args h us cs ts s.1)

-- ---- the functions that are declared meanwhile
-- their names weren't taken before
abbrev pub NewNamesOnly : Sig → Sig → Sig → Type 0
NewNamesOnly old g h = (n : NameId) → Contains (function_names h) n → Contains (function_names g) n ⊎ ¬ (Contains old.taken n)

pub taken_stays : (g h : Sig) (t : List ℕ) → IsGrown g h → IsTaken g t → IsTaken h t
taken_stays g h t w k = (
  k.0,
  subst (λ z. slice_get z k.0.0 ≡ Some t) (sym w.texts) (read_front g.texts w.new_texts k.0.0 t k.1),
  subst (λ z. Contains z k.0) (sym w.taken) (Contains-append_left g.taken w.new_taken k.0 k.2),
)

one_constant : (old : Sig) → IsSignature old → (d : SortId) (g : Sig) (cs : List (SortId × FunId)) (h : Sig) (ds : List (SortId × FunId)) → IsGrown old g → DeclaresConstant d g cs h ds → NewNamesOnly old g h
one_constant old s d g cs h ds w k n i =
    let f = declared_function k.name [] d in
    let base = codes "dc_" ++ k.text in
    let between : IsGrown old k.between = growth_after_growth_is_growth old g k.between w (fresh_grows g base k.name k.between k.fresh) in
    let functions : k.between.functions ≡ g.functions = ap (λ (z : Sig). z.functions) k.fresh.taken in
    let table : table_names h ≡ table_names g ++ k.name ∷ [] = ap table_names k.declared ∙ map-append (λ (z : Function). z.name) k.between.functions (f ∷ []) ∙ ap (λ fs. map (λ (z : Function). z.name) fs ++ k.name ∷ []) functions in
    let lists : list_names h.texts ≡ list_names g.texts =
    list_names_stay old h s (growth_after_growth_is_growth old g h w (constant_grows d g cs h ds k)) ∙ sym (list_names_stay old g s w) in
    let names : function_names h ≡ function_names g ++ k.name ∷ [] = ap₂ (λ ns ms. ns ++ ms) lists table ∙ sym (append_assoc (list_names g.texts) (table_names g) (k.name ∷ [])) in
    let fresh : ¬ (Contains old.taken k.name) = not_taken old k.fresh.text k.between.texts k.name s (λ t. k.fresh.fresh.free (taken_stays old g k.fresh.text w t)) (between.new_texts, between.texts) k.fresh.named in
    ⊎_elim
    (λ j. inl j)
    (λ j. inr (⊎_elim (λ q. subst (λ m. ¬ (Contains old.taken m)) q fresh) (λ b. absurd (none_contains n b)) (cases_contain k.name n [] j)))
    (Contains-append_cases (function_names g) (k.name ∷ []) n (subst (λ ns. Contains ns n) names i))

some_constants : (old : Sig) → IsSignature old → (sorts : List SortId) (g : Sig) (cs : List (SortId × FunId)) (h : Sig) (ds : List (SortId × FunId)) → DeclaresConstants sorts g cs h ds → IsGrown old g → NewNamesOnly old g h
some_constants old s _ g cs _ _ none_left w n i = inl i
some_constants old s _ g cs i es (declares {d = d} {sorts = sorts} {h = h} {ds = ds} k more) w n j =
    ⊎_elim (one_constant old s d g cs h ds w k n) (λ t. inr t) (some_constants old s sorts h ds i es more (growth_after_growth_is_growth old g h w (constant_grows d g cs h ds k)) n j)

first_names : (place : List VarId) (args : List TermId) (old : Sig) → IsSignature old → (g : Sig) (p : PoolContents) (c : VarId) (h : Sig) (q : PoolContents) (t : TermId) → IsFirstTerm place args g p c h q t → IsGrown old g → IsGrown old h × NewNamesOnly old g h
first_names place args old s g p c _ _ _ (an_argument e) w = (w, λ n i. inl i)
first_names place args old s g p c _ _ _ (a_closed_term {h = h} {q = q} e k) w = (growth_after_growth_is_growth old g h w k.grown, some_constants old s _ g p.constants h q.constants k.declared w)

pub names_of_firsts : (place : List VarId) (args : List TermId) (g : Sig) (p : PoolContents) → IsSignature g → (cs : List VarId) (h : Sig) (q : PoolContents) (ts : List TermId) → AreFirstTerms place args g p cs h q ts → IsGrown g h × NewNamesOnly g g h
names_of_firsts place args g p s _ _ _ _ no_first_term = (grown_itself g, λ n i. inl i)
names_of_firsts place args g p s _ k r _ (one_more_first_term {cs = cs} {ts = ts} {h = h} {q = q} {c = c} {t = t} a m) =
    let b = names_of_firsts place args g p s cs h q ts a in
    let e = first_names place args g s h q c k r t m b.0 in
    (e.0, λ n i. ⊎_elim (b.1 n) (λ u. inr u) (e.1 n i))
