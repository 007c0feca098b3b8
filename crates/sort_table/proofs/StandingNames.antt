-- Where all names are known and none go round, each declared name stands for a sort: the way down from it meets no name twice.
use Rattle.std.proofs.Common.{◌≡◌, ◌<◌, ◌≤◌, ◌⊎◌, inl, inr, ℕ, zero, suc, Bool, true, false, cond, List, [], ◌∷◌, ◌++◌, length, map, refl, ap, sym, ◌∙◌, subst, arith}
use Rattle.std.specs.Prelude.{Some, None, not, bytes_eq}
use Rattle.std.specs.List.{Contains, AllByRecursion, find}
use Rattle.std.proofs.lemmas.Option.{none-some, same_Some}
use Rattle.std.proofs.lemmas.Slice.Eq.{bytes_eq-Decides}
use Rattle.sort_table.specs.Expressions.{Name}
use Rattle.sort_table.specs.NamedLists.{first_named}
use Rattle.sort_table.specs.BareSorts.{SortExpression, truth_values, positives, naturals, integers, lists_of, a_name}
use Rattle.sort_table.specs.BareDeclarations.{Declaration, sorts, alias, struct, constructors, mappings, variables, equation, actions, process, initial}
use Rattle.sort_table.specs.SortMeanings.{Kind, alone, a_struct, equal_to, kinds_by, kinds_in, UnderNames, under_names, StandsFor, for_truth_values, for_positives, for_naturals, for_integers, for_lists, for_plain, for_struct, for_alias}
use Rattle.sort_table.specs.UnknownSorts.{name_in, is_declared, HasKnownSorts, AllAreKnown}
use Rattle.sort_table.specs.SortCycles.{Refers, ReferOn, NoCycle}
use Rattle.sort_table.specs.VocabularyLaws.{DeclaredNamesStand}
use Rattle.sort_table.proofs.Choices.{chosen}
use Rattle.sort_table.proofs.Growing.{in_either}
use Rattle.sort_table.proofs.ListForms.{entry_found}

-- ---- entries
pub in_list : {A : Type 0} (n : Name) (rs : List (Name × A)) (x : A) → first_named n rs ≡ Some x → Contains rs (n, x)
in_list n [] x h = absurd (none-some x h)
in_list n (r ∷ rs) x h =
    chosen (bytes_eq r.0 n) (Some r.1) (first_named n rs) x h
    (λ same here. let name : r.0 ≡ n = (bytes_eq-Decides r.0 n).0 same in let entry : r.1 ≡ x = same_Some r.1 x here in (0, omega arith, λ t. (name t, entry t)))
    (λ other there. let c : Contains rs (n, x) = in_list n rs x there in let l : c.0 < length rs = c.1 in (suc c.0, omega (arith, l), c.2))

abbrev sorts_alone : List Name → List (Name × Kind)
sorts_alone ns = map (λ (m : Name). (m, alone)) ns

kind_of : (n : Name) (e : SortExpression) (ns : List Name) → ¬ (Contains (sorts_alone ns) (n, equal_to e))
kind_of n e [] (i, l, q) = let never : ⊥ = omega (arith, l) in never
kind_of n e (m ∷ ns) (zero, l, q) = let kinds : alone ≡ equal_to e = ap (λ (r : Name × Kind). r.1) q in cc
kind_of n e (m ∷ ns) (suc i, l, q) = let k : i < length (sorts_alone ns) = omega (arith, l) in kind_of n e ns (i, k, q)

alias_by : (d : Declaration) (n : Name) (e : SortExpression) → Contains (kinds_by d) (n, equal_to e) → d ≡ alias n e
alias_by (sorts ns) n e h = absurd (kind_of n e ns h)
alias_by (alias m f) n e (zero, l, q) =
    let name : m ≡ n = ap (λ (r : Name × Kind). r.0) q in
    let kinds : equal_to f ≡ equal_to e = ap (λ (r : Name × Kind). r.1) q in
    let expression : f ≡ e = cc in
    λ t. alias (name t) (expression t)
alias_by (alias m f) n e (suc i, l, q) = let never : ⊥ = omega (arith, l) in absurd never
alias_by (struct m cs) n e (zero, l, q) = let kinds : a_struct ≡ equal_to e = ap (λ (r : Name × Kind). r.1) q in cc
alias_by (struct m cs) n e (suc i, l, q) = let never : ⊥ = omega (arith, l) in absurd never
alias_by (constructors fs es to) n e (i, l, q) = let never : ⊥ = omega (arith, l) in absurd never
alias_by (mappings fs es to) n e (i, l, q) = let never : ⊥ = omega (arith, l) in absurd never
alias_by (variables vs) n e (i, l, q) = let never : ⊥ = omega (arith, l) in absurd never
alias_by (equation c f g) n e (i, l, q) = let never : ⊥ = omega (arith, l) in absurd never
alias_by (actions as_ es) n e (i, l, q) = let never : ⊥ = omega (arith, l) in absurd never
alias_by (process p vs b) n e (i, l, q) = let never : ⊥ = omega (arith, l) in absurd never
alias_by (initial b) n e (i, l, q) = let never : ⊥ = omega (arith, l) in absurd never

pub alias_stands : (ds : List Declaration) (n : Name) (e : SortExpression) → Contains (kinds_in ds) (n, equal_to e) → Contains ds (alias n e)
alias_stands [] n e (i, l, q) = let never : ⊥ = omega (arith, l) in absurd never
alias_stands (d ∷ ds) n e h = step (alias_stands ds n e) (in_either (kinds_by d) (kinds_in ds) (n, equal_to e) h)
  where
    step : (Contains (kinds_in ds) (n, equal_to e) → Contains ds (alias n e)) → Contains (kinds_by d) (n, equal_to e) ⊎ Contains (kinds_in ds) (n, equal_to e) → Contains (d ∷ ds) (alias n e)
    step later (inl c) = (0, omega arith, alias_by d n e c)
    step later (inr c) = let r : Contains ds (alias n e) = later c in let l : r.0 < length ds = r.1 in (suc r.0, omega (arith, l), r.2)

-- ---- known names
known_at : (P : Declaration → Type 0) (ds : List Declaration) (d : Declaration) → AllByRecursion P ds → Contains ds d → P d
known_at P [] d all (i, l, q) = let never : ⊥ = omega (arith, l) in absurd never
known_at P (x ∷ ds) d all (zero, l, q) = subst P q all.0
known_at P (x ∷ ds) d all (suc i, l, q) = let k : i < length ds = omega (arith, l) in known_at P ds d all.1 (i, k, q)

passes : (p : Name → Bool) (m : Name) → find (λ n. not (p n)) (m ∷ []) ≡ None → p m ≡ true
passes p m h = by_test (p m) refl
  where
    by_test : (b : Bool) → p m ≡ b → p m ≡ true
    by_test true q = q
    by_test false q = let found : find (λ n. not (p n)) (m ∷ []) ≡ Some m = ap (λ c. cond (not c) (Some m) None) q in absurd (none-some m (sym h ∙ found))

pub used_is_declared : (ds : List Declaration) (n m : Name) (e : SortExpression) → AllAreKnown ds → Contains ds (alias n e) → name_in e ≡ m ∷ [] → is_declared ds m ≡ true
used_is_declared ds n m e known there uses =
    let none : find (λ k. not (is_declared ds k)) (name_in e) ≡ None = known_at (HasKnownSorts ds) ds (alias n e) known there in
    passes (is_declared ds) m (subst (λ ks. find (λ k. not (is_declared ds k)) ks ≡ None) uses none)

-- ---- the way down
abbrev Stands : UnderNames → SortExpression → Type 0
Stands u e = (s : SortExpression) × StandsFor u e s

-- an expression stands for a sort where the name that it uses does
expression_stands : (u : UnderNames) (e : SortExpression) → ((m : Name) → name_in e ≡ m ∷ [] → Stands u (a_name m)) → Stands u e
expression_stands u truth_values f = (truth_values, for_truth_values)
expression_stands u positives f = (positives, for_positives)
expression_stands u naturals f = (naturals, for_naturals)
expression_stands u integers f = (integers, for_integers)
expression_stands u (lists_of e) f = let s : Stands u e = expression_stands u e f in (lists_of s.0, for_lists e s.0 s.1)
expression_stands u (a_name n) f = f n refl

refer_behind : (ds : List Declaration) (n m p : Name) (ms : List Name) → ReferOn ds n p ms → Refers ds n m → ReferOn ds m p (ms ++ (n ∷ []))
refer_behind ds n m p [] h r = (h, r)
refer_behind ds n m p (k ∷ ms) h r = (h.0, refer_behind ds n m k ms h.1 r)

-- a list without a name that stands in it
record Taken (left : List Name) (n : Name) : Type 0 where
  rest : List Name
  less : suc (length rest) ≡ length left
  others : (m : Name) → Contains left m → (m ≡ n) ⊎ Contains rest m

other_than_first : (x n : Name) (xs : List Name) → x ≡ n → (m : Name) → Contains (x ∷ xs) m → (m ≡ n) ⊎ Contains xs m
other_than_first x n xs h m (zero, l, q) = inl (sym q ∙ h)
other_than_first x n xs h m (suc i, l, q) = let k : i < length xs = omega (arith, l) in inr (i, k, q)

one_further : (x n : Name) (rest : List Name) (m : Name) → (m ≡ n) ⊎ Contains rest m → (m ≡ n) ⊎ Contains (x ∷ rest) m
one_further x n rest m (inl h) = inl h
one_further x n rest m (inr c) = let l : c.0 < length rest = c.1 in inr (suc c.0, omega (arith, l), c.2)

other_than_later : (x n : Name) (xs rest : List Name) → ((m : Name) → Contains xs m → (m ≡ n) ⊎ Contains rest m) → (m : Name) → Contains (x ∷ xs) m → (m ≡ n) ⊎ Contains (x ∷ rest) m
other_than_later x n xs rest others m (zero, l, q) = inr (0, omega arith, q)
other_than_later x n xs rest others m (suc i, l, q) = let k : i < length xs = omega (arith, l) in one_further x n rest m (others m (i, k, q))

taken : (left : List Name) (n : Name) → Contains left n → Taken left n
taken [] n (i, l, q) = let never : ⊥ = omega (arith, l) in absurd never
taken (x ∷ xs) n (zero, l, q) = record { rest = xs; less = refl; others = other_than_first x n xs q }
taken (x ∷ xs) n (suc i, l, q) =
    let k : i < length xs = omega (arith, l) in
    let t : Taken xs n = taken xs n (i, k, q) in
    record { rest = x ∷ t.rest; less = ap suc t.less; others = other_than_later x n xs t.rest t.others }

-- the way down has met these names, and each of them leads to this one
abbrev AllLead : List Declaration → List Name → Name → Type 0
AllLead ds met n = (p : Name) → Contains met p → (ms : List Name) × ReferOn ds n p ms

-- each declared name was met, or is left
abbrev Covers : List Declaration → List Name → List Name → Type 0
Covers ds met left = (m : Name) (k : Kind) → first_named m (kinds_in ds) ≡ Some k → Contains met m ⊎ Contains left m

all_lead : (ds : List Declaration) (n m : Name) (met : List Name) → Refers ds n m → AllLead ds met n → AllLead ds (n ∷ met) m
all_lead ds n m met r lead p (zero, l, q) = ([], subst (λ x. Refers ds x m) q r)
all_lead ds n m met r lead p (suc i, l, q) =
    let k : i < length met = omega (arith, l) in
    let c : (ms : List Name) × ReferOn ds n p ms = lead p (i, k, q) in
    (c.0 ++ (n ∷ []), refer_behind ds n m p c.0 c.1 r)

met_or_left : (n : Name) (met left : List Name) (t : Taken left n) (m : Name) → Contains met m ⊎ Contains left m → Contains (n ∷ met) m ⊎ Contains t.rest m
met_or_left n met left t m (inl c) = let l : c.0 < length met = c.1 in inl (suc c.0, omega (arith, l), c.2)
met_or_left n met left t m (inr c) = now (t.others m c)
  where
    now : (m ≡ n) ⊎ Contains t.rest m → Contains (n ∷ met) m ⊎ Contains t.rest m
    now (inl same) = inl (0, omega arith, sym same)
    now (inr d) = inr d

-- what the next step takes: fewer names are left
abbrev StandsBelow : List Declaration → List Name → List Name → Name → Type 0
StandsBelow ds met left n =
    (rest : List Name) → suc (length rest) ≡ length left → (m : Name) (k : Kind) → AllLead ds (n ∷ met) m → Covers ds (n ∷ met) rest
    → first_named m (kinds_in ds) ≡ Some k → Stands (under_names ds) (a_name m)

one_step : (ds : List Declaration) → AllAreKnown ds → NoCycle ds → (met left : List Name) (n : Name) (k : Kind)
    → AllLead ds met n → Covers ds met left → first_named n (kinds_in ds) ≡ Some k → StandsBelow ds met left n → Stands (under_names ds) (a_name n)
one_step ds known round met left n alone lead cover h below = (a_name n, for_plain n h)
one_step ds known round met left n a_struct lead cover h below = (a_name n, for_struct n h)
one_step ds known round met left n (equal_to e) lead cover h below =
    let there : Contains ds (alias n e) = alias_stands ds n e (in_list n (kinds_in ds) (equal_to e) h) in
    let s : Stands (under_names ds) e = expression_stands (under_names ds) e (λ m uses. further there m uses (cover n (equal_to e) h)) in
    (s.0, for_alias n e s.0 h s.1)
  where
    further : Contains ds (alias n e) → (m : Name) → name_in e ≡ m ∷ [] → Contains met n ⊎ Contains left n → Stands (under_names ds) (a_name m)
    further there m uses (inl c) = let r : (ms : List Name) × ReferOn ds n n ms = lead n c in absurd (round (n ∷ r.0) r.1)
    further there m uses (inr c) =
        let t : Taken left n = taken left n c in
        let k : (j : Kind) × (first_named m (kinds_in ds) ≡ Some j) = entry_found (first_named m (kinds_in ds)) (used_is_declared ds n m e known there uses) in
        below t.rest t.less m k.0 (all_lead ds n m met (e, there, uses) lead) (λ i j q. met_or_left n met left t i (cover i j q)) k.1

descend : (ds : List Declaration) → AllAreKnown ds → NoCycle ds → (fuel : ℕ) (met left : List Name) (n : Name) (k : Kind) → length left ≤ fuel
    → AllLead ds met n → Covers ds met left → first_named n (kinds_in ds) ≡ Some k → Stands (under_names ds) (a_name n)
descend ds known round zero met left n k l lead cover h =
    one_step ds known round met left n k lead cover h (λ rest less m j a b q. let never : ⊥ = omega (arith, l, less) in absurd never)
descend ds known round (suc fuel) met left n k l lead cover h =
    one_step ds known round met left n k lead cover h (λ rest less m j a b q. let fewer : length rest ≤ fuel = omega (arith, l, less) in descend ds known round fuel (n ∷ met) rest m j fewer a b q)

-- ---- all names
abbrev names : List (Name × Kind) → List Name
names ks = map (λ (r : Name × Kind). r.0) ks

is_named : (ks : List (Name × Kind)) (m : Name) (k : Kind) → Contains ks (m, k) → Contains (names ks) m
is_named [] m k (i, l, q) = let never : ⊥ = omega (arith, l) in absurd never
is_named (r ∷ ks) m k (zero, l, q) = (0, omega arith, ap (λ (x : Name × Kind). x.0) q)
is_named (r ∷ ks) m k (suc i, l, q) =
    let j : i < length ks = omega (arith, l) in
    let c : Contains (names ks) m = is_named ks m k (i, j, q) in
    let n : c.0 < length (names ks) = c.1 in
    (suc c.0, omega (arith, n), c.2)

none_met : (ds : List Declaration) (n : Name) → AllLead ds [] n
none_met ds n p (i, l, q) = let never : ⊥ = omega (arith, l) in absurd never

pub declared_names_stand : DeclaredNamesStand
declared_names_stand ds known round n k h =
    descend ds known round (length (names (kinds_in ds))) [] (names (kinds_in ds)) n k (omega arith) (none_met ds n) (λ m j q. inr (is_named (kinds_in ds) m j (in_list m (kinds_in ds) j q))) h
