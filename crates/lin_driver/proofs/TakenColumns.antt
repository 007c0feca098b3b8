-- The names of all variables are taken behind an encoding, where they were before. Each variable is then an old one, or a parameter.
use Rattle.std.proofs.Common.{◌≡◌, ◌<◌, ◌⊎◌, inl, inr, ⊎_elim, ℕ, List, [], ◌∷◌, ◌++◌, length, refl, sym, ap, subst, ◌∙◌, arith, length-append, Option}
use Rattle.std.specs.Prelude.{option_to_list}
use Rattle.std.specs.List.{All, Contains}
use Rattle.std.proofs.lemmas.List.Elements.{All-contains, Contains-append_left, Contains-append_right}
use Rattle.data_theory.specs.declared.ids.NameId.{NameId}
use Rattle.data_theory.specs.declared.ids.SortId.{SortId}
use Rattle.data_theory.specs.declared.ids.VarId.{VarId}
use Rattle.data_theory.specs.declared.ids.TermId.{TermId}
use Rattle.data_theory.specs.declared.signature.Variable.{Variable}
use Rattle.data_theory.specs.Signature.{Sig, with_variable}
use Rattle.data_theory.specs.IdTerms.{IsGrown}
use Rattle.term_pool.specs.Pools.{PoolContents}
use Rattle.bisim_laws.proofs.Firing.{contains_first}
use Rattle.lps_core.specs.Fitting.{IsVariable, HasTakenName}
use Rattle.lps_core.specs.Naming.{name_of}
use Rattle.lps_core.specs.PlainLinears.{PlainLinear}
use Rattle.lps_core.proofs.NamedSums.{name_kept, taken_name, name_taken}
use Rattle.greibach.specs.PlainForms.{PlainForm}
use Rattle.greibach.specs.Surroundings.{HasUsableNames}
use Rattle.regular_encoder.specs.EncodedForms.{IsEncodedForm}
use Rattle.regular_encoder.specs.FormColumns.{IsOwnName, the_name, a_new_name, IsColumn, a_column, AreColumns, no_column, one_more_column, IsControl, no_control, a_control, IsFirstTerm, an_argument, a_closed_term, AreFirstTerms, no_first_term, one_more_first_term}
use Rattle.lin_driver.specs.TakenNames.{HaveIdentifiers, HaveTakenNames}
use Rattle.lin_driver.proofs.NamedVariables.{below_or_last, constants_variables, named_usable}

-- ---- each variable is an old one, or a parameter
own_variables : {IsOne : NameId → Type 0} {g h : Sig} {n m : NameId} → IsOwnName IsOne g n h m → h.variables ≡ g.variables
own_variables (the_name k) = refl
own_variables (a_new_name i at f) = ap (λ (z : Sig). z.variables) f.taken

old_or_last : (g h : Sig) (v : Variable) (x : VarId) → h.variables ≡ g.variables → x.0 < length (with_variable h v).variables → (x.0 < length g.variables) ⊎ (x ≡ record { 0 = length h.variables })
old_or_last g h v x same l =
    let long = length-append h.variables (v ∷ []) in
    ⊎_elim (λ k. inl (subst (λ vs. x.0 < length vs) same k)) (λ e. inr (ap (λ n. record { 0 = n }) e)) (below_or_last x.0 (length h.variables) (omega (arith, l, long)))

column_or_old : {IsOne : NameId → Type 0} {g h : Sig} {k : NameId × SortId} {c : VarId} → IsColumn IsOne g k h c → (x : VarId) → x.0 < length h.variables → (x.0 < length g.variables) ⊎ (x ≡ c)
column_or_old {g = g} {k = k} (a_column {h = h} {name = name} n) x l = old_or_last g h (record { name = name; sort = k.1 }) x (own_variables n) l

columns_or_old : {g h : Sig} {ks : List (NameId × SortId)} {cs : List VarId} → AreColumns g ks h cs → (x : VarId) → x.0 < length h.variables → (x.0 < length g.variables) ⊎ Contains cs x
columns_or_old no_column x l = inl l
columns_or_old (one_more_column {cs = cs} {c = c} a k) x l = ⊎_elim
    (λ m. ⊎_elim (λ o. inl o) (λ i. inr (Contains-append_left cs (c ∷ []) x i)) (columns_or_old a x m))
    (λ e. inr (Contains-append_right cs (c ∷ []) x (subst (λ z. Contains (c ∷ []) z) (sym e) (contains_first c []))))
    (column_or_old k x l)

control_or_old : {g h : Sig} {n : ℕ} {c : Option VarId} → IsControl g n h c → (x : VarId) → x.0 < length h.variables → (x.0 < length g.variables) ⊎ Contains (option_to_list c) x
control_or_old no_control x l = inl l
control_or_old {g = g} (a_control {h = h} {name = name} m f) x l = ⊎_elim
    (λ o. inl o)
    (λ e. inr (subst (λ z. Contains (record { 0 = length h.variables } ∷ []) z) (sym e) (contains_first (record { 0 = length h.variables }) [])))
    (old_or_last g h _ x (ap (λ (z : Sig). z.variables) f.taken) l)

first_variables : {place : List VarId} {args : List TermId} {g h : Sig} {p q : PoolContents} {c : VarId} {t : TermId} → IsFirstTerm place args g p c h q t → h.variables ≡ g.variables
first_variables (an_argument e) = refl
first_variables (a_closed_term e k) = constants_variables k.declared

firsts_variables : {place : List VarId} {args : List TermId} {g : Sig} {p : PoolContents} {cs : List VarId} {h : Sig} {q : PoolContents} {ts : List TermId} → AreFirstTerms place args g p cs h q ts → h.variables ≡ g.variables
firsts_variables no_first_term = refl
firsts_variables (one_more_first_term a k) = first_variables k ∙ firsts_variables a

pub param_or_old : (g h : Sig) (p q : PoolContents) (f : PlainForm) (l : PlainLinear) → IsEncodedForm g p h q f l → (x : VarId) → IsVariable h x → IsVariable g x ⊎ Contains l.params x
param_or_old g h p q f l e x k =
    let c = e.columns in
    let own : x.0 < length c.with_control.variables = subst (λ vs. x.0 < length vs) (firsts_variables c.values) k in
    let params : (y : VarId) → Contains (option_to_list e.layout.control ++ e.layout.columns) y → Contains l.params y = λ y i. subst (λ xs. Contains xs y) (sym e.params) i in
    ⊎_elim
    (λ m. ⊎_elim (λ o. inl o) (λ i. inr (params x (Contains-append_right (option_to_list e.layout.control) e.layout.columns x i))) (columns_or_old c.columns x m))
    (λ i. inr (params x (Contains-append_left (option_to_list e.layout.control) e.layout.columns x i)))
    (control_or_old c.control x own)

-- ---- their names
taken_grown : (g h : Sig) (n : NameId) → IsGrown g h → Contains g.taken n → Contains h.taken n
taken_grown g h n w i = subst (λ ns. Contains ns n) (sym w.taken) (Contains-append_left g.taken w.new_taken n i)

still_taken : (g h : Sig) (ps : List VarId) → IsGrown g h → ((x : VarId) → IsVariable h x → IsVariable g x ⊎ Contains ps x) → All (HasTakenName h) ps → HasUsableNames g → HaveTakenNames h (length h.variables)
still_taken g h ps w old taken all x k = ⊎_elim
    (λ o. name_taken h x k (subst (Contains h.taken) (sym (name_kept g h x w o)) (taken_grown g h (name_of g x) w (taken_name g x o (all x o).taken))))
    (λ i. All-contains (HasTakenName h) ps x taken i)
    (old x k)

-- names that are taken identifiers stay so, where each new variable is one of these whose names are taken
pub usable_still : (g h : Sig) (ps : List VarId) → IsGrown g h → ((x : VarId) → IsVariable h x → IsVariable g x ⊎ Contains ps x) → All (HasTakenName h) ps → HaveIdentifiers h → HasUsableNames g → HasUsableNames h
usable_still g h ps w old taken named all = named_usable h (still_taken g h ps w old taken all) named
