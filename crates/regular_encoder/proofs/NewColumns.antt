-- Columns that are added one after another: their names and sorts.
use Rattle.std.specs.Prelude.{◌↔◌, slice_get, codes, option_to_list}
use Rattle.std.proofs.lemmas.Option.{slice_get_within, get_or_from_slice_get}
use Rattle.std.proofs.Common.{Option, Some, None, ◌+◌, take, get_or, ◌≡◌, ◌<◌, ◌≤◌, ◌⊎◌, inl, inr, ⊎_elim, ℕ, List, [], ◌∷◌, ◌++◌, map, length, refl, sym, ap, ap₂, ◌∙◌, subst, arith}
use Rattle.std.specs.List.{All, Contains}
use Rattle.std.proofs.lemmas.List.{map-append, take_more, length-append}
use Rattle.std.proofs.lemmas.List.Elements.{All-nil, All-cons, All-push, All-contains, All-weaker, Contains-append_left, Contains-append_right, Contains-append_cases}
use Rattle.data_theory.specs.declared.ids.NameId.{NameId}
use Rattle.data_theory.specs.declared.ids.SortId.{SortId}
use Rattle.data_theory.specs.declared.ids.VarId.{VarId}
use Rattle.data_theory.specs.declared.signature.Variable.{Variable}
use Rattle.data_theory.specs.Environments.{AreDistinct}
use Rattle.data_theory.specs.Names.{place_in, with_text}
use Rattle.data_theory.specs.Taken.{with_name}
use Rattle.data_theory.specs.Table.{bool_sort, pos_sort}
use Rattle.data_theory.specs.Signature.{Sig, with_variable}
use Rattle.data_theory.specs.Fresh.{IsFreshIn}
use Rattle.data_theory.specs.IdTerms.{IsGrown}
use Rattle.data_theory.specs.WholeSignatures.{IsSignature}
use Rattle.data_theory.proofs.EnvironmentLemmas.{contains_nothing}
use Rattle.data_theory.proofs.NameLemmas.{place_is}
use Rattle.bisim_laws.proofs.Firing.{contains_none, contains_first, contains_cases}
use Rattle.lps_core.specs.Fitting.{IsVariable, sort_of_variable}
use Rattle.lps_core.specs.TreeSummands.{numbers_of}
use Rattle.lps_core.specs.Naming.{name_of, names_of, function_names, IsUsed, GrowsByNames}
use Rattle.lps_core.proofs.Members.{contains_map, all_at, all_from}
use Rattle.lps_core.proofs.OverVariables.{distinct_append}
use Rattle.lps_core.proofs.NamedSums.{AreTaken, with_name_keeps, with_name_has, not_taken, names_none, names_then, names_variable, last_variable, variable_kept, name_kept, names_kept, sorts_kept, name_numbers, all_front, all_last}
use Rattle.lps_core.proofs.NamingLoops.{with_name_cases, fresh_names, fresh_within}
use Rattle.regular_encoder.specs.FormColumns.{IsOwnName, the_name, a_new_name, IsKindIn, IsColumn, a_column, AreColumns, no_column, one_more_column, IsControl, no_control, a_control}

-- ---- a name
pub record NameStands (g h : Sig) (IsOne : NameId → Type 0) (n : NameId) : Type 0 where
  pub on : GrowsByNames g h
  pub within : n.0 < length h.texts
  pub taken : Contains h.taken n
  pub unused : ¬ (IsOne n)

pub fresh_stands : (g h : Sig) (IsOne : NameId → Type 0) (base : List ℕ) (n : NameId) → IsSignature g → AreTaken g IsOne → IsFreshIn g base n h → NameStands g h IsOne n
fresh_stands g h IsOne base n s used f =
    let on = fresh_names g h base n s f in
    let place : n ≡ place_in h.texts f.text = place_is h.texts f.text n.0 on.stands.table.different f.named in
    record {
      on = on;
      within = fresh_within g h base n f;
      taken = subst (λ z. Contains h.taken z) (sym place) (subst (λ (z : Sig). Contains z.taken (place_in z.texts f.text)) (sym f.taken) (with_name_has g.taken (place_in (with_text g.texts f.text) f.text)));
      unused = λ i. not_taken g f.text h.texts n s f.fresh.free (on.grown.new_texts, on.grown.texts) f.named (used n i);
    }

own_name_stands : (IsOne : NameId → Type 0) (g : Sig) (n : NameId) (h : Sig) (m : NameId) → IsSignature g → AreTaken g IsOne → Contains g.taken n → IsOwnName IsOne g n h m → NameStands g h IsOne m
own_name_stands IsOne g n _ _ s used t (the_name u) = record { on = names_none g s; within = All-contains (λ (m : NameId). m.0 < length g.texts) g.taken n s.complete.within.taken t; taken = t; unused = u }
own_name_stands IsOne g n _ _ s used t (a_new_name {h = h} {base = base} {name = name} i at f) = fresh_stands g h IsOne base name s used f

-- ---- a variable
pub record ColumnStands (g h : Sig) (IsOne : NameId → Type 0) (r : SortId) (c : VarId) : Type 0 where
  pub on : GrowsByNames g h
  pub variable : IsVariable h c
  pub new : length g.variables ≤ c.0
  pub taken : Contains h.taken (name_of h c)
  pub sort : sort_of_variable h c ≡ r
  pub unused : ¬ (IsOne (name_of h c))

pub variable_stands : (g h : Sig) (IsOne : NameId → Type 0) (n : NameId) (r : SortId) → NameStands g h IsOne n → r.0 < length g.sorts → ColumnStands g (with_variable h (record { name = n; sort = r })) IsOne r (record { 0 = length h.variables })
variable_stands g h IsOne n r s l =
    let v : Variable = record { name = n; sort = r } in
    let k = with_variable h v in
    let named : name_of k (record { 0 = length h.variables }) ≡ n = ap (λ (y : Variable). y.name) (last_variable h v (record { name = record { 0 = 0 }; sort = record { 0 = 0 } })) in
    record {
      on = names_then g h k s.on (names_variable h v s.on.stands s.within (subst (λ ss. r.0 < length ss) (sym s.on.sorts) l));
      variable = let e = length-append h.variables (v ∷ []) in omega (arith, e);
      new = let e = ap length s.on.grown.variables ∙ length-append g.variables s.on.grown.new_variables in omega (arith, e);
      taken = subst (λ z. Contains h.taken z) (sym named) s.taken;
      sort = ap (λ (y : Variable). y.sort) (last_variable h v (record { name = record { 0 = 0 }; sort = bool_sort }));
      unused = λ i. s.unused (subst (λ z. IsOne z) named i);
    }

pub column_stands : (IsOne : NameId → Type 0) (g : Sig) (k : NameId × SortId) (h : Sig) (c : VarId) → IsSignature g → AreTaken g IsOne → Contains g.taken k.0 → k.1.0 < length g.sorts → IsColumn IsOne g k h c → ColumnStands g h IsOne k.1 c
column_stands IsOne g k _ _ s used t l (a_column {h = h} {name = name} n) = variable_stands g h IsOne name k.1 (own_name_stands IsOne g k.0 h name s used t n) l

-- ---- all columns
pub record ColumnsStand (g h : Sig) (IsOne : NameId → Type 0) (rs : List SortId) (cs : List VarId) : Type 0 where
  pub variables : All (IsVariable h) cs
  pub new : All (λ c. length g.variables ≤ c.0) cs
  pub taken : All (λ c. Contains h.taken (name_of h c)) cs
  pub sorts : map (sort_of_variable h) cs ≡ rs
  pub unused : All (λ c. ¬ (IsOne (name_of h c))) cs
  pub distinct : AreDistinct (numbers_of cs)
  pub names_differ : AreDistinct (name_numbers h cs)

pub columns_stand_on : (g h k : Sig) (IsOne : NameId → Type 0) (rs : List SortId) (cs : List VarId) → IsGrown h k → ColumnsStand g h IsOne rs cs → ColumnsStand g k IsOne rs cs
columns_stand_on g h k IsOne rs cs w s =
    let kept : (c : VarId) → Contains cs c → name_of k c ≡ name_of h c = λ c i. name_kept h k c w (All-contains (IsVariable h) cs c s.variables i) in
    record {
      variables = All-weaker (IsVariable h) (IsVariable k) (λ c l. variable_kept h k c w l) cs s.variables;
      new = s.new;
      taken = all_from (λ c. Contains k.taken (name_of k c)) cs
          (λ c i. subst (λ n. Contains k.taken n) (sym (kept c i)) (subst (λ ns. Contains ns (name_of h c)) (sym w.taken) (Contains-append_left h.taken w.new_taken (name_of h c) (All-contains (λ c. Contains h.taken (name_of h c)) cs c s.taken i))));
      sorts = sorts_kept h k cs w s.variables ∙ s.sorts;
      unused = all_from (λ c. ¬ (IsOne (name_of k c))) cs (λ c i u. All-contains (λ c. ¬ (IsOne (name_of h c))) cs c s.unused i (subst (λ n. IsOne n) (kept c i) u));
      distinct = s.distinct;
      names_differ = subst AreDistinct (sym (ap (map (λ (n : NameId). n.0)) (names_kept h k cs w s.variables))) s.names_differ;
    }

-- one more, whose name none of them has
one_more : (g h k : Sig) (IsOne : NameId → Type 0) (rs : List SortId) (cs : List VarId) (r : SortId) (c : VarId) → GrowsByNames g h → ColumnsStand g h IsOne rs cs → ColumnStands h k (λ n. IsOne n ⊎ Contains (names_of h cs) n) r c
    → ColumnsStand g k IsOne (rs ++ r ∷ []) (cs ++ c ∷ [])
one_more g h k IsOne rs cs r c w s n =
    let t = columns_stand_on g h k IsOne rs cs n.on.grown s in
    let numbers : numbers_of (cs ++ c ∷ []) ≡ numbers_of cs ++ c.0 ∷ [] = map-append (λ (z : VarId). z.0) cs (c ∷ []) in
    let apart : (v : ℕ) → Contains (numbers_of cs) v → Contains (c.0 ∷ []) v → ⊥ = λ v i j.
    let p = contains_map (λ (z : VarId). z.0) cs v i in
    let same : c.0 ≡ v = ⊎_elim (λ q. q) (λ b. absurd (contains_none v b)) (contains_cases c.0 v [] j) in
    let low = All-contains (IsVariable h) cs p.0 s.variables p.1.0 in
    let high = n.new in
    omega (arith, low, high, same, p.1.1) in
    let names : name_numbers k (cs ++ c ∷ []) ≡ name_numbers h cs ++ (name_of k c).0 ∷ [] =
    ap (map (λ (m : NameId). m.0)) (map-append (name_of k) cs (c ∷ []) ∙ ap (λ ms. ms ++ name_of k c ∷ []) (names_kept h k cs n.on.grown s.variables)) ∙ map-append (λ (m : NameId). m.0) (names_of h cs) (name_of k c ∷ []) in
    let names_apart : (v : ℕ) → Contains (name_numbers h cs) v → Contains ((name_of k c).0 ∷ []) v → ⊥ = λ v i j.
    let p = contains_map (λ (m : NameId). m.0) (names_of h cs) v i in
    let same : (name_of k c).0 ≡ v = ⊎_elim (λ q. q) (λ b. absurd (contains_none v b)) (contains_cases (name_of k c).0 v [] j) in
    n.unused (inr (subst (λ m. Contains (names_of h cs) m) (sym (ap (λ m. record { 0 = m }) (same ∙ p.1.1))) p.1.0)) in
    let older = ap length w.grown.variables ∙ length-append g.variables w.grown.new_variables in
    let later = n.new in
    record {
      variables = All-push (IsVariable k) cs c t.variables n.variable;
      new = All-push (λ z. length g.variables ≤ z.0) cs c t.new (omega (arith, older, later));
      taken = All-push (λ z. Contains k.taken (name_of k z)) cs c t.taken n.taken;
      sorts = map-append (sort_of_variable k) cs (c ∷ []) ∙ ap₂ (λ ss z. ss ++ z ∷ []) t.sorts n.sort;
      unused = All-push (λ z. ¬ (IsOne (name_of k z))) cs c t.unused (λ u. n.unused (inl u));
      distinct = subst AreDistinct (sym numbers) (distinct_append (numbers_of cs) (c.0 ∷ []) t.distinct (λ i. contains_nothing c.0 i, tt) apart);
      names_differ = subst AreDistinct (sym names) (distinct_append (name_numbers h cs) ((name_of k c).0 ∷ []) s.names_differ (λ i. contains_nothing (name_of k c).0 i, tt) names_apart);
    }

-- names and sorts that stand in the tables
pub record KindsStand (g : Sig) (ks : List (NameId × SortId)) : Type 0 where
  pub taken : All (λ (k : NameId × SortId). Contains g.taken k.0) ks
  pub sorts : All (λ (k : NameId × SortId). k.1.0 < length g.sorts) ks

pub columns_stand : (g : Sig) → IsSignature g → AreTaken g (λ n. Contains (function_names g) n) → (ks : List (NameId × SortId)) (h : Sig) (cs : List VarId) → AreColumns g ks h cs → KindsStand g ks
    → GrowsByNames g h × ColumnsStand g h (λ n. Contains (function_names g) n) (map (λ (k : NameId × SortId). k.1) ks) cs
columns_stand g s used _ _ _ no_column w =
    (names_none g s, record { variables = All-nil (IsVariable g); new = All-nil (λ c. length g.variables ≤ c.0); taken = All-nil (λ c. Contains g.taken (name_of g c)); sorts = refl; unused = All-nil (λ c. ¬ (Contains (function_names g) (name_of g c))); distinct = tt; names_differ = tt })
columns_stand g s used _ i _ (one_more_column {ks = ks} {cs = cs} {h = h} {k = k} {c = c} a n) w =
    let IsOne : NameId → Type 0 = λ n. Contains (function_names g) n in
    let r = columns_stand g s used ks h cs a (record { taken = all_front (λ (k : NameId × SortId). Contains g.taken k.0) ks k w.taken; sorts = all_front (λ (k : NameId × SortId). k.1.0 < length g.sorts) ks k w.sorts }) in
    let m = column_stands (λ n. IsOne n ⊎ Contains (names_of h cs) n) h k i c r.0.stands
    (λ z u. ⊎_elim (λ j. r.0.taken z (used z j)) (λ j. let p = contains_map (name_of h) cs z j in subst (λ y. Contains h.taken y) (sym p.1.1) (All-contains (λ c. Contains h.taken (name_of h c)) cs p.0 r.1.taken p.1.0)) u)
    (r.0.taken k.0 (all_last (λ (k : NameId × SortId). Contains g.taken k.0) ks k w.taken))
    (subst (λ ss. k.1.0 < length ss) (sym r.0.sorts) (all_last (λ (k : NameId × SortId). k.1.0 < length g.sorts) ks k w.sorts)) n in
    (names_then g h i r.0 m.on, subst (λ z. ColumnsStand g i IsOne z (cs ++ c ∷ [])) (sym (map-append (λ (k : NameId × SortId). k.1) ks (k ∷ []))) (one_more g h i IsOne (map (λ (k : NameId × SortId). k.1) ks) cs k.1 c r.0 r.1 m))

-- ---- the control parameter
-- one in front, whose name wasn't taken
one_in_front : (g h k : Sig) (IsOne : NameId → Type 0) (rs : List SortId) (cs : List VarId) (r : SortId) (c : VarId) → GrowsByNames g h → AreTaken h IsOne → ColumnsStand g h IsOne rs cs → ColumnStands h k (λ n. Contains h.taken n) r c
    → ColumnsStand g k IsOne (r ∷ rs) (c ∷ cs)
one_in_front g h k IsOne rs cs r c w used s n =
    let t = columns_stand_on g h k IsOne rs cs n.on.grown s in
    let older = ap length w.grown.variables ∙ length-append g.variables w.grown.new_variables in
    let high = n.new in
    record {
      variables = All-cons (IsVariable k) c cs n.variable t.variables;
      new = All-cons (λ z. length g.variables ≤ z.0) c cs (omega (arith, older, high)) t.new;
      taken = All-cons (λ z. Contains k.taken (name_of k z)) c cs n.taken t.taken;
      sorts = ap₂ (λ z ss. z ∷ ss) n.sort t.sorts;
      unused = All-cons (λ z. ¬ (IsOne (name_of k z))) c cs (λ u. n.unused (used (name_of k c) u)) t.unused;
      distinct = (λ i. let p = contains_map (λ (z : VarId). z.0) cs c.0 i in let low = All-contains (IsVariable h) cs p.0 s.variables p.1.0 in omega (arith, low, high, p.1.1), t.distinct);
      names_differ = (
        λ i.
            let p = contains_map (λ (m : NameId). m.0) (names_of h cs) (name_of k c).0 (subst (λ ns. Contains (map (λ (m : NameId). m.0) ns) (name_of k c).0) (names_kept h k cs n.on.grown s.variables) i) in
            let one = contains_map (name_of h) cs p.0 p.1.0 in
            let same : name_of k c ≡ name_of h one.0 = ap (λ m. record { 0 = m }) p.1.1 ∙ one.1.1 in
            n.unused (subst (λ m. Contains h.taken m) (sym same) (All-contains (λ z. Contains h.taken (name_of h z)) cs one.0 s.taken one.1.0)),
        t.names_differ,
      );
    }

abbrev pub control_sorts : Option VarId → List SortId
control_sorts None = []
control_sorts (Some x) = pos_sort ∷ []

pub control_stands : (g : Sig) (IsOne : NameId → Type 0) (rs : List SortId) (cs : List VarId) (h : Sig) (n : ℕ) (k : Sig) (o : Option VarId) → GrowsByNames g h → AreTaken h IsOne → ColumnsStand g h IsOne rs cs → IsControl h n k o
    → GrowsByNames h k × ColumnsStand g k IsOne (control_sorts o ++ rs) (option_to_list o ++ cs)
control_stands g IsOne rs cs h _ _ _ w used s no_control = (names_none h w.stands, s)
control_stands g IsOne rs cs h n _ _ w used s (a_control {h = k} {name = name} l f) =
    let p = (w.stands.table.sorts.positive_second 1).1 refl in
    let m = variable_stands h k (λ z. Contains h.taken z) name pos_sort (fresh_stands h k (λ z. Contains h.taken z) (codes "s") name w.stands (λ z i. i) f) (slice_get_within h.sorts 1 p.0 p.1) in
    (m.on, one_in_front g h (with_variable k (record { name = name; sort = pos_sort })) IsOne rs cs pos_sort (record { 0 = length k.variables }) w used s m)

pub none_alone : (h : Sig) (n : ℕ) (k : Sig) (o : Option VarId) → IsControl h n k o → o ≡ None → n ≡ 1
none_alone h _ _ _ no_control e = refl
none_alone h n _ _ (a_control l f) e = cc

-- ---- in the code
pub own_within : (IsOne : NameId → Type 0) (g : Sig) (n : NameId) (h : Sig) (m : NameId) → n.0 < length g.texts → IsOwnName IsOne g n h m → m.0 < length h.texts
own_within IsOne g n _ _ l (the_name u) = l
own_within IsOne g n _ _ l (a_new_name {h = h} {base = base} {name = name} i at f) = fresh_within g h base name f

pub column_made : (IsOne : NameId → Type 0) (g : Sig) (k : NameId × SortId) (h i : Sig) (n : NameId) (c : VarId) → IsOwnName IsOne g k.0 h n → i ≡ with_variable h (record { name = n; sort = k.1 }) → c.0 ≡ length h.variables → IsColumn IsOne g k i c
column_made IsOne g k h i n c o e l = subst (λ z. IsColumn IsOne g k z c) (sym e) (subst (λ (z : VarId). IsColumn IsOne g k (with_variable h (record { name = n; sort = k.1 })) z) (ap (λ m. record { 0 = m }) (sym l)) (a_column o))

pub variable_grows : (g h i : Sig) (n : NameId) (r : SortId) → GrowsByNames g h → n.0 < length h.texts → r.0 < length g.sorts → i ≡ with_variable h (record { name = n; sort = r }) → GrowsByNames g i
variable_grows g h i n r w l s e = names_then g h i w (subst (λ z. GrowsByNames h z) (sym e) (names_variable h (record { name = n; sort = r }) w.stands l (subst (λ ss. r.0 < length ss) (sym w.sorts) s)))

pub control_made : (g h i : Sig) (n : ℕ) (m : NameId) (c : VarId) → 1 < n → IsFreshIn g (codes "s") m h → i ≡ with_variable h (record { name = m; sort = pos_sort }) → c.0 ≡ length h.variables → IsControl g n i (Some c)
control_made g h i n m c l f e k = subst (λ z. IsControl g n z (Some c)) (sym e) (subst (λ (z : VarId). IsControl g n (with_variable h (record { name = m; sort = pos_sort })) (Some z)) (ap (λ j. record { 0 = j }) (sym k)) (a_control l f))

own_along : (P Q : NameId → Type 0) → ((n : NameId) → P n ↔ Q n) → (g : Sig) (n : NameId) (h : Sig) (m : NameId) → IsOwnName P g n h m → IsOwnName Q g n h m
own_along P Q f g n _ _ (the_name u) = the_name (λ q. u ((f n).1 q))
own_along P Q f g n _ _ (a_new_name {h = h} {base = base} {name = name} i at k) = a_new_name ((f n).0 i) at k

column_along : (P Q : NameId → Type 0) → ((n : NameId) → P n ↔ Q n) → (g : Sig) (k : NameId × SortId) (h : Sig) (c : VarId) → IsColumn P g k h c → IsColumn Q g k h c
column_along P Q f g k _ _ (a_column {h = h} {name = name} n) = a_column (own_along P Q f g k.0 h name n)

column_variable : (P : NameId → Type 0) (g : Sig) (k : NameId × SortId) (h : Sig) (c : VarId) → IsColumn P g k h c → IsVariable h c
column_variable P g k _ _ (a_column {h = h} {name = name} n) = let e = length-append h.variables (record { name = name; sort = k.1 } ∷ []) in omega (arith, e)

pub record IsAddingColumns (g : Sig) (kinds : List (NameId × SortId)) (i : ℕ) (h : Sig) (columns : List VarId) (names : List NameId) : Type 0 where
  pub on : GrowsByNames g h
  pub added : AreColumns g (take i kinds) h columns
  pub variables : All (IsVariable h) columns
  pub own_names : (n : NameId) → Contains names n ↔ (Contains (function_names g) n ⊎ Contains (names_of h columns) n)

pub adding_no_column : (g : Sig) (kinds : List (NameId × SortId)) (names : List NameId) → IsSignature g → ((n : NameId) → Contains names n ↔ IsUsed g [] n) → IsAddingColumns g kinds 0 g [] names
adding_no_column g kinds names s u = record {
  on = names_none g s;
  added = no_column;
  variables = All-nil (IsVariable g);
  own_names = λ n. (
    λ i. ⊎_elim (λ j. absurd (contains_none n j)) (λ j. inl j) ((u n).0 i),
    λ i. (u n).1 (⊎_elim (λ j. inr j) (λ j. absurd (contains_none n j)) i),
  );
}

pub adding_one_column : (g : Sig) (kinds : List (NameId × SortId)) (i : ℕ) (h : Sig) (columns : List VarId) (names : List NameId) (d : NameId × SortId) → IsAddingColumns g kinds i h columns names → i < length kinds
    → (k : Sig) (c : VarId) (new : List NameId) → GrowsByNames h k → IsColumn (λ n. Contains names n) h (get_or kinds i d) k c → new ≡ with_name names (name_of k c) → IsAddingColumns g kinds (i + 1) k (columns ++ c ∷ []) new
adding_one_column g kinds i h columns names d s l k c new w is e =
    let Q : NameId → Type 0 = λ n. Contains (function_names g) n ⊎ Contains (names_of h columns) n in
    let column : IsColumn Q h (get_or kinds i d) k c = column_along (λ n. Contains names n) Q s.own_names h (get_or kinds i d) k c is in
    let own : names_of k (columns ++ c ∷ []) ≡ names_of h columns ++ name_of k c ∷ [] = map-append (name_of k) columns (c ∷ []) ∙ ap (λ z. z ++ name_of k c ∷ []) (names_kept h k columns w.grown s.variables) in
    record {
      on = names_then g h k s.on w;
      added = subst (λ z. AreColumns g z k (columns ++ c ∷ [])) (sym (take_more kinds i d l)) (one_more_column s.added column);
      variables = All-push (IsVariable k) columns c (All-weaker (IsVariable h) (IsVariable k) (λ z j. variable_kept h k z w.grown j) columns s.variables) (column_variable Q h (get_or kinds i d) k c column);
      own_names = λ n. (
        λ j. ⊎_elim
            (λ a. ⊎_elim (λ b. inl b) (λ b. inr (subst (λ z. Contains z n) (sym own) (Contains-append_left (names_of h columns) (name_of k c ∷ []) n b))) ((s.own_names n).0 a))
            (λ q. inr (subst (λ z. Contains z n) (sym own) (Contains-append_right (names_of h columns) (name_of k c ∷ []) n (subst (λ z. Contains (name_of k c ∷ []) z) q (contains_first (name_of k c) [])))))
            (with_name_cases names (name_of k c) n (subst (λ z. Contains z n) e j)),
        λ j. subst (λ z. Contains z n) (sym e) (⊎_elim
            (λ a. with_name_keeps names (name_of k c) n ((s.own_names n).1 (inl a)))
            (λ a. ⊎_elim
            (λ b. with_name_keeps names (name_of k c) n ((s.own_names n).1 (inr b)))
            (λ b. ⊎_elim (λ q. subst (λ z. Contains (with_name names (name_of k c)) z) q (with_name_has names (name_of k c))) (λ x. absurd (contains_none n x)) (contains_cases (name_of k c) n [] b))
            (Contains-append_cases (names_of h columns) (name_of k c ∷ []) n (subst (λ z. Contains z n) own a)))
            j),
      );
    }

pub as_many_columns : (g : Sig) (ks : List (NameId × SortId)) (h : Sig) (cs : List VarId) → AreColumns g ks h cs → length cs ≡ length ks
as_many_columns g _ _ _ no_column = refl
as_many_columns g _ _ _ (one_more_column {ks = ks} {cs = cs} {h = h} {k = k} {c = c} a n) =
    let e = as_many_columns g ks h cs a in
    let x = length-append cs (c ∷ []) in
    let y = length-append ks (k ∷ []) in
    omega (arith, e, x, y)

pub pos_within : (g : Sig) → IsSignature g → pos_sort.0 < length g.sorts
pos_within g s = let p = (s.table.sorts.positive_second 1).1 refl in slice_get_within g.sorts 1 p.0 p.1

pub kind_in_grown : (g h : Sig) (kinds : List (NameId × SortId)) (i : ℕ) (k : NameId × SortId) → GrowsByNames g h → All (IsKindIn g) kinds → slice_get kinds i ≡ Some k → (k.0.0 < length h.texts) × (k.1.0 < length h.sorts)
kind_in_grown g h kinds i k w all e =
    let own = all_at (IsKindIn g) kinds i k all e in
    let a = own.0 in
    let t = ap length w.grown.texts ∙ length-append g.texts w.grown.new_texts in
    (omega (arith, a, t), subst (λ ss. k.1.0 < length ss) (sym w.sorts) own.1)

pub adding_column_at : (g : Sig) (kinds : List (NameId × SortId)) (i : ℕ) (h : Sig) (columns : List VarId) (names : List NameId) (kind : NameId × SortId) → IsAddingColumns g kinds i h columns names → slice_get kinds i ≡ Some kind
    → (k : Sig) (c : VarId) (new : List NameId) → GrowsByNames h k → IsColumn (λ n. Contains names n) h kind k c → new ≡ with_name names (name_of k c) → IsAddingColumns g kinds (i + 1) k (columns ++ c ∷ []) new
adding_column_at g kinds i h columns names kind s at k c new w is e =
    adding_one_column g kinds i h columns names kind s (slice_get_within kinds i kind at) k c new w (subst (λ z. IsColumn (λ n. Contains names n) h z k c) (sym (get_or_from_slice_get kinds i kind kind at)) is) e
