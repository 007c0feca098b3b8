-- Variables are named by identifiers, and stay so.
use Rattle.std.proofs.Common.{◌≡◌, ◌<◌, ◌+◌, ◌⊎◌, inl, inr, ⊎_elim, ℕ, zero, suc, Bool, true, false, cond, List, [], ◌∷◌, ◌++◌, map, length, get_or, codes, Option, refl, sym, ap, ◌∙◌, subst, arith, length-append}
use Rattle.std.specs.List.{All, list_any}
use Rattle.std.proofs.lemmas.List.Elements.{All-nil, All-cons, All-head, All-tail, All-append, All-weaker, All-contains}
use Rattle.std.proofs.lemmas.Option.{same_Some}
use Rattle.data_theory.specs.declared.ids.NameId.{NameId}
use Rattle.data_theory.specs.declared.ids.SortId.{SortId}
use Rattle.data_theory.specs.declared.ids.FunId.{FunId}
use Rattle.data_theory.specs.declared.ids.VarId.{VarId}
use Rattle.data_theory.specs.declared.ids.TermId.{TermId}
use Rattle.data_theory.specs.declared.signature.Variable.{Variable}
use Rattle.data_theory.specs.Table.{pos_sort}
use Rattle.data_theory.specs.Signature.{Sig, with_variable}
use Rattle.data_theory.specs.Fresh.{IsFreshIn}
use Rattle.data_theory.specs.IdTerms.{IsGrown}
use Rattle.data_theory.proofs.IdGrowthLemmas.{with_a_variable_it_is_grown}
use Rattle.term_pool.specs.Pools.{PoolContents}
use Rattle.term_pool.specs.Constants.{DeclaresConstants, none_left, declares}
use Rattle.term_pool.proofs.DeclaredConstants.{still_read, fresh_grows}
use Rattle.data_theory.specs.IdTrees.{Tree}
use Rattle.lps_core.specs.Fitting.{IsVariable, sort_of_variable, SummandFits, Fits}
use Rattle.lps_core.proofs.Members.{all_from, contains_map}
use Rattle.lps_core.specs.Naming.{name_of, IsNamed, it_stays, it_is_new, AreNamed, no_sum, one_more_sum, SummandsAreNamed, no_summand, one_more_summand}
use Rattle.lps_core.specs.PlainLinears.{PlainSummand, PlainLinear}
use Rattle.lps_core.proofs.NamedSums.{name_kept, variable_kept, last_variable, all_front, all_last}
use Rattle.greibach.specs.Surroundings.{HasUsableNames}
use Rattle.lps_printer.specs.DataLayout.{IsIdentifier}
use Rattle.greibach.specs.FittingForms.{FormFits, EquationFits}
use Rattle.greibach.specs.PlainForms.{PlainEquation, PlainForm}
use Rattle.lps_printer.proofs.FreshIdentifiers.{fresh_names_are_identifiers}
use Rattle.regular_encoder.specs.EncodedForms.{IsEncodedForm}
use Rattle.regular_encoder.specs.FormColumns.{all_params, kind_of, is_same_kind, with_kind, with_kinds, column_kinds, IsOwnName, the_name, a_new_name, IsColumn, a_column, AreColumns, no_column, one_more_column, IsControl, no_control, a_control, IsFirstTerm, an_argument, a_closed_term, AreFirstTerms, no_first_term, one_more_first_term}
use Rattle.lps_printer.proofs.GrowingByConstants.{GrowsOn, on_itself, on_fresh, on_variable, on_then}
use Rattle.lin_driver.specs.TakenNames.{HasIdentifierText, HaveIdentifiers, HaveTakenNames}
use Rattle.sort_checker.specs.Additions.{AddsVariables, nothing, one_list, one_variable}
use Rattle.lin_driver.proofs.Identifiers.{identifier_named}
use Rattle.lin_driver.proofs.ConstantGrowth.{on_columns}

pub below_or_last : (a b : ℕ) → a < b + 1 → (a < b) ⊎ (a ≡ b)
below_or_last zero zero m = inr refl
below_or_last zero (suc b) m = inl (omega arith)
below_or_last (suc a) zero m = absurd (omega (arith, m))
below_or_last (suc a) (suc b) m = ⊎_elim (λ k. inl (omega (arith, k))) (λ k. inr (ap suc k)) (below_or_last a b (omega (arith, m)))

-- ---- the text of a name stays
pub text_still : (g h : Sig) (n : NameId) → IsGrown g h → HasIdentifierText g n → HasIdentifierText h n
text_still g h n w u = (u.0, still_read g.texts h.texts w.new_texts w.texts n.0 u.0 u.1, u.2)

pub fresh_text : (g h : Sig) (base : List ℕ) (n : NameId) → IsIdentifier base → IsFreshIn g base n h → HasIdentifierText h n
fresh_text g h base n i f = (f.text, f.named, subst IsIdentifier (sym f.fresh.named) (fresh_names_are_identifiers base i f.fresh.number))

-- ---- all variables
pub none_named : (g : Sig) → g.variables ≡ [] → HaveIdentifiers g
none_named g e x l = let short = ap length e in absurd (omega (arith, l, short))

pub named_still : (g h : Sig) → IsGrown g h → h.variables ≡ g.variables → HaveIdentifiers g → HaveIdentifiers h
named_still g h w same all x l =
    let own : IsVariable g x = subst (λ vs. x.0 < length vs) same l in
    subst (HasIdentifierText h) (sym (name_kept g h x w own)) (text_still g h (name_of g x) w (all x own))

pub named_more : (g : Sig) (v : Variable) → HasIdentifierText g v.name → HaveIdentifiers g → HaveIdentifiers (with_variable g v)
named_more g v u all x l =
    let d : Variable = record { name = record { 0 = 0 }; sort = record { 0 = 0 } } in
    let long = length-append g.variables (v ∷ []) in
    ⊎_elim
    (λ old. subst (HasIdentifierText g) (sym (name_kept g (with_variable g v) x (with_a_variable_it_is_grown g v) old)) (all x old))
    (λ last. subst (HasIdentifierText g) (sym (ap (λ n. (get_or (g.variables ++ v ∷ []) n d).name) last ∙ ap (λ (y : Variable). y.name) (last_variable g v d))) u)
    (below_or_last x.0 (length g.variables) (omega (arith, l, long)))

pub fresh_named : (g h : Sig) (base : List ℕ) (n : NameId) → IsFreshIn g base n h → HaveIdentifiers g → HaveIdentifiers h
fresh_named g h base n f all = named_still g h (fresh_grows g base n h f) (ap (λ (z : Sig). z.variables) f.taken) all

-- ---- columns
abbrev pub KindNamed : Sig → NameId × SortId → Type 0
KindNamed g k = HasIdentifierText g k.0

with_kind_named : (g : Sig) (ks : List (NameId × SortId)) (k : NameId × SortId) → All (KindNamed g) ks → KindNamed g k → All (KindNamed g) (with_kind ks k)
with_kind_named g ks k all one = by_test (list_any (is_same_kind k) ks)
  where
    by_test : (b : Bool) → All (KindNamed g) (cond b ks (ks ++ k ∷ []))
    by_test true = all
    by_test false = All-append (KindNamed g) ks (k ∷ []) all (All-cons (KindNamed g) k [] one (All-nil (KindNamed g)))

with_kinds_named : (g : Sig) (ks more : List (NameId × SortId)) → All (KindNamed g) ks → All (KindNamed g) more → All (KindNamed g) (with_kinds ks more)
with_kinds_named g ks [] all rest = all
with_kinds_named g ks (k ∷ more) all rest = with_kinds_named g (with_kind ks k) more (with_kind_named g ks k all (All-head (KindNamed g) k more rest)) (All-tail (KindNamed g) k more rest)

kinds_of : (g : Sig) → HaveIdentifiers g → (xs : List VarId) → All (IsVariable g) xs → All (KindNamed g) (map (kind_of g) xs)
kinds_of g all [] h = All-nil (KindNamed g)
kinds_of g all (x ∷ xs) h = All-cons (KindNamed g) (kind_of g x) (map (kind_of g) xs) (all x (All-head (IsVariable g) x xs h)) (kinds_of g all xs (All-tail (IsVariable g) x xs h))

params_there : (g : Sig) (qs : List PlainEquation) → All (λ (q : PlainEquation). All (IsVariable g) q.params) qs → All (IsVariable g) (all_params qs)
params_there g [] h = All-nil (IsVariable g)
params_there g (q ∷ qs) h =
    All-append (IsVariable g) q.params (all_params qs) (All-head (λ (q : PlainEquation). All (IsVariable g) q.params) q qs h) (params_there g qs (All-tail (λ (q : PlainEquation). All (IsVariable g) q.params) q qs h))

pub kinds_named : (g : Sig) (f : PlainForm) → HaveIdentifiers g → All (λ (q : PlainEquation). All (IsVariable g) q.params) f.equations → All (KindNamed g) (column_kinds g f)
kinds_named g f all h = with_kinds_named g [] (map (kind_of g) (all_params f.equations)) (All-nil (KindNamed g)) (kinds_of g all (all_params f.equations) (params_there g f.equations h))

own_name : {IsOne : NameId → Type 0} {g h : Sig} {n m : NameId} → IsOwnName IsOne g n h m → HasIdentifierText g n → HasIdentifierText h m
own_name (the_name k) u = u
own_name {g = g} (a_new_name {h = h} {base = base} {name = name} i at f) u = fresh_text g h base name (subst IsIdentifier (same_Some u.0 base (sym u.1 ∙ at)) u.2) f

own_named : {IsOne : NameId → Type 0} {g h : Sig} {n m : NameId} → IsOwnName IsOne g n h m → HaveIdentifiers g → HaveIdentifiers h
own_named (the_name k) all = all
own_named {g = g} (a_new_name {h = h} {base = base} {name = name} i at f) all = fresh_named g h base name f all

column_named : {IsOne : NameId → Type 0} {g h : Sig} {k : NameId × SortId} {c : VarId} → IsColumn IsOne g k h c → KindNamed g k → HaveIdentifiers g → HaveIdentifiers h
column_named {k = k} (a_column {h = h} {name = name} n) u all = named_more h (record { name = name; sort = k.1 }) (own_name n u) (own_named n all)

columns_named : {g h : Sig} {ks : List (NameId × SortId)} {cs : List VarId} → AreColumns g ks h cs → All (KindNamed g) ks → HaveIdentifiers g → HaveIdentifiers h
columns_named no_column us all = all
columns_named {g = g} (one_more_column {ks = ks} {h = h} {k = k} a c) us all =
    column_named c (text_still g h k.0 (on_columns a).grows.grown (all_last (KindNamed g) ks k us)) (columns_named a (all_front (KindNamed g) ks k us) all)

control_named : {g h : Sig} {n : ℕ} {c : Option VarId} → IsControl g n h c → HaveIdentifiers g → HaveIdentifiers h
control_named no_control all = all
control_named {g = g} (a_control {h = h} {name = name} l f) all = named_more h (record { name = name; sort = pos_sort }) (fresh_text g h (codes "s") name (refl, refl) f) (fresh_named g h (codes "s") name f all)

-- constants are no variables
pub constants_variables : {sorts : List SortId} {g h : Sig} {cs ds : List (SortId × FunId)} → DeclaresConstants sorts g cs h ds → h.variables ≡ g.variables
constants_variables none_left = refl
constants_variables (declares one rest) = constants_variables rest ∙ ap (λ (z : Sig). z.variables) one.declared ∙ ap (λ (z : Sig). z.variables) one.fresh.taken

first_named : {place : List VarId} {args : List TermId} {g h : Sig} {p q : PoolContents} {c : VarId} {t : TermId} → IsFirstTerm place args g p c h q t → HaveIdentifiers g → HaveIdentifiers h
first_named (an_argument e) all = all
first_named {g = g} {h = h} (a_closed_term e k) all = named_still g h k.grown (constants_variables k.declared) all

firsts_named : {place : List VarId} {args : List TermId} {g : Sig} {p : PoolContents} {cs : List VarId} {h : Sig} {q : PoolContents} {ts : List TermId} → AreFirstTerms place args g p cs h q ts → HaveIdentifiers g → HaveIdentifiers h
firsts_named no_first_term all = all
firsts_named (one_more_first_term a k) all = first_named k (firsts_named a all)

pub encoding_named : (g h : Sig) (p q : PoolContents) (f : PlainForm) (l : PlainLinear) → FormFits g p.trees f → IsEncodedForm g p h q f l → HaveIdentifiers g → HaveIdentifiers h
encoding_named g h p q f l fits e all =
    let c = e.columns in
    let params = All-weaker (EquationFits g p.trees f) (λ (q : PlainEquation). All (IsVariable g) q.params) (λ q k. k.params) f.equations fits.equations in
    firsts_named c.values (control_named c.control (columns_named c.columns (kinds_named g f all params) all))

-- ---- sums
pub sum_named : {IsOne : NameId → Type 0} {g h : Sig} {x y : VarId} → IsNamed IsOne g x h y → IsVariable g x → HaveIdentifiers g → HaveIdentifiers h
sum_named (it_stays n) l all = all
sum_named {g = g} {x = x} (it_is_new {h = h} {base = base} {name = name} i at f) l all =
    let u = all x l in
    named_more h (record { name = name; sort = sort_of_variable g x }) (fresh_text g h base name (subst IsIdentifier (same_Some u.0 base (sym u.1 ∙ at)) u.2) f) (fresh_named g h base name f all)

one_grows : {IsOne : NameId → Type 0} {g h : Sig} {x y : VarId} → IsNamed IsOne g x h y → GrowsOn g h
one_grows {g = g} (it_stays n) = on_itself g
one_grows {g = g} {x = x} (it_is_new {h = h} {base = base} {name = name} i at f) =
    on_then g h (with_variable h (record { name = name; sort = sort_of_variable g x })) (on_fresh g h base name f) (on_variable h (record { name = name; sort = sort_of_variable g x }))

sums_grow : {IsOne : NameId → Type 0} {g h : Sig} {xs ys : List VarId} → AreNamed IsOne g xs h ys → GrowsOn g h
sums_grow {g = g} no_sum = on_itself g
sums_grow {g = g} (one_more_sum {h = h} {k = k} a n) = on_then g h k (sums_grow a) (one_grows n)

sums_named : {IsOne : NameId → Type 0} {g h : Sig} {xs ys : List VarId} → AreNamed IsOne g xs h ys → All (IsVariable g) xs → HaveIdentifiers g → HaveIdentifiers h
sums_named no_sum l all = all
sums_named {g = g} (one_more_sum {xs = xs} {h = h} {x = x} a n) l all =
    sum_named n (variable_kept g h x (sums_grow a).grows.grown (all_last (IsVariable g) xs x l)) (sums_named a (all_front (IsVariable g) xs x l) all)

summands_grow : {IsOne : NameId → Type 0} {g h : Sig} {xss yss : List (List VarId)} → SummandsAreNamed IsOne g xss h yss → GrowsOn g h
summands_grow {g = g} no_summand = on_itself g
summands_grow {g = g} (one_more_summand {h = h} {k = k} a n) = on_then g h k (summands_grow a) (sums_grow n)

pub summands_named : {IsOne : NameId → Type 0} {g h : Sig} {xss yss : List (List VarId)} → SummandsAreNamed IsOne g xss h yss → All (All (IsVariable g)) xss → HaveIdentifiers g → HaveIdentifiers h
summands_named no_summand l all = all
summands_named {g = g} (one_more_summand {xss = xss} {h = h} {xs = xs} a n) l all =
    let w = (summands_grow a).grows.grown in
    sums_named n (All-weaker (IsVariable g) (IsVariable h) (λ x k. variable_kept g h x w k) xs (all_last (All (IsVariable g)) xss xs l)) (summands_named a (all_front (All (IsVariable g)) xss xs l) all)

-- the sums of a linear process that fits are variables
pub sums_there : (g : Sig) (ts : List Tree) (l : PlainLinear) → Fits g ts l → All (All (IsVariable g)) (map (λ (s : PlainSummand). s.sums) l.summands)
sums_there g ts l fits = all_from (All (IsVariable g)) (map (λ (s : PlainSummand). s.sums) l.summands) (λ xs i.
    let r = contains_map (λ (s : PlainSummand). s.sums) l.summands xs i in
    subst (All (IsVariable g)) (sym r.1.1) (All-contains (SummandFits g ts l.params) l.summands r.0 fits.summands r.1.0).sums)

-- ---- as the Greibach normal form has them
pub usable_named : (g : Sig) → HasUsableNames g → HaveIdentifiers g
usable_named g all x l = let u = all x l in (u.text, u.named, u.identifier)

pub named_usable : (g : Sig) → HaveTakenNames g (length g.variables) → HaveIdentifiers g → HasUsableNames g
named_usable g taken all x l = let u = all x l in record { taken = taken x l; text = u.0; named = u.1; identifier = u.2 }

-- ---- as elaboration adds them
pub added_named : (g h : Sig) → AddsVariables g h → HaveIdentifiers g → HaveIdentifiers h
added_named g _ nothing all = all
added_named g _ (one_list h e l n a) all = added_named g h a all
added_named g _ (one_variable h x n i s a) all = named_more h x (i.0, i.1, identifier_named i.0 i.2) (added_named g h a all)
