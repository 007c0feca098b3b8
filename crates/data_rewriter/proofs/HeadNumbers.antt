-- The numbers of rules by the heads of their left sides, and the equalities of functions' arguments.
use Rattle.std.proofs.lemmas.Bool.{cases_eq, cases_lt}
use Rattle.std.proofs.Common.{◌≡◌, inl, inr, ◌<◌, ◌≤◌, ◌+◌, ℕ, zero, suc, length, get_or, set, take, map, List, [], ◌∷◌, ◌++◌, Bool, true, false, cond, Vec, refl, sym, ap, ◌∙◌, subst, arith, Some, None, append-nil, length-append}
use Rattle.std.specs.Prelude.{◌==◌, Option, IfSome, slice_get}
use Rattle.std.specs.Global.{Global}
use Rattle.std.specs.List.{All, Contains}
use Rattle.std.proofs.lemmas.Bool.Decides.{Decides-eqb}
use Rattle.std.proofs.lemmas.Option.{slice_get_within, slice_get_past}
use Rattle.std.proofs.lemmas.List.Elements.{All-nil, All-cons, All-head, All-tail, All-weaker, All-append, Contains-append_left, Contains-append_right}
use Rattle.data_theory.specs.declared.ids.SortId.{SortId}
use Rattle.data_theory.specs.declared.ids.FunId.{FunId}
use Rattle.data_theory.specs.declared.words.Word.{Word}
use Rattle.data_theory.specs.Terms.{Sort, equality, function as symbol_function}
use Rattle.data_theory.specs.Declarations as theory
use Rattle.data_theory.specs.Declarations.{function_at}
use Rattle.data_theory.specs.Provable.{Equation}
use Rattle.data_theory.specs.Functions.{Function, arguments_of}
use Rattle.data_theory.specs.Signature.{Sig}
use Rattle.data_theory.specs.IdData.{data_meant}
use Rattle.data_theory.specs.IdSymbols.{declared_from}
use Rattle.data_theory.specs.IdTables.{IsEntry, declared, built_in}
use Rattle.data_theory.specs.IdTerms.{sort_under}
use Rattle.data_theory.specs.IdTrees.{Tree, function, variable, numeral}
use Rattle.data_theory.specs.WholeSignatures.{IsSignature}
use Rattle.data_theory.proofs.IdRowLemmas.{is_declared}
use Rattle.data_theory.proofs.IdSortLemmas.{read_within}
use Rattle.data_theory.proofs.IdSymbolLemmas.{holds_at, built_in_tells, declared_functions_stand_in_the_data}
use Rattle.term_pool.specs.declared.terms.Head.{Head}
use Rattle.term_pool.specs.declared.terms.Head.TheVariants.{Var, Num, Fun}
use Rattle.term_pool.specs.HeadTrees.{tree_at, written_tree}
use Rattle.data_rewriter.specs.declared.tables.Rule.{Rule}
use Rattle.data_rewriter.specs.declared.tables.Tables.{Tables}
use Rattle.data_rewriter.specs.Standing.{IsSymbolOf}
use Rattle.data_rewriter.specs.Signatures.{AreEqualities}
use Rattle.data_rewriter.specs.States.{Rise, HasHead, AreRulesAt, AreTablesOf}
use Rattle.data_rewriter.specs.Views.{AreSigns}
use Rattle.data_rewriter.specs.Written.{IsRule, AreEquationsOf}
use Rattle.data_rewriter.proofs.ListFacts.{reads_at, if_there}

-- ---- the equalities of sorts
equalities_more : (sig : Sig) (fs : List FunId) (f : FunId) (xs : List Sort) (x : Sort) → AreEqualities sig fs xs → IsSymbolOf sig f (equality x) → AreEqualities sig (fs ++ f ∷ []) (xs ++ x ∷ [])
equalities_more sig [] f [] x h is = (is, tt)
equalities_more sig [] f (y ∷ xs) x h is = absurd h
equalities_more sig (g ∷ fs) f [] x h is = absurd h
equalities_more sig (g ∷ fs) f (y ∷ xs) x h is = (h.0, equalities_more sig fs f xs x h.1 is)

one_more_taken : {A B : Type 0} (f : A → B) (xs : List A) (i : ℕ) (d : A) → i < length xs → map f (take (suc i) xs) ≡ map f (take i xs) ++ f (get_or xs i d) ∷ []
one_more_taken f [] i d l = absurd (omega (arith, l))
one_more_taken f (x ∷ xs) zero d l = refl
one_more_taken f (x ∷ xs) (suc i) d l = ap (λ ys. f x ∷ ys) (one_more_taken f xs i d (omega (arith, l)))

pub equalities_pushed : (sig : Sig) (old new : List FunId) (f : FunId) (ss : List SortId) (i next : ℕ) (d : SortId) → new ≡ old ++ f ∷ [] → next ≡ suc i → i < length ss → AreEqualities sig old (map (sort_under sig) (take i ss)) → IsSymbolOf sig f (equality (sort_under sig (get_or ss i d))) → AreEqualities sig new (map (sort_under sig) (take next ss))
equalities_pushed sig old new f ss i next d e n l h is =
    let made = equalities_more sig old f (map (sort_under sig) (take i ss)) (sort_under sig (get_or ss i d)) h is in
    let at : map (sort_under sig) (take next ss) ≡ map (sort_under sig) (take i ss) ++ sort_under sig (get_or ss i d) ∷ [] = ap (λ (k : ℕ). map (sort_under sig) (take k ss)) n ∙ one_more_taken (sort_under sig) ss i d l in
    subst (λ (fs : List FunId). AreEqualities sig fs (map (sort_under sig) (take next ss))) (sym e) (subst (AreEqualities sig (old ++ f ∷ [])) (sym at) made)

-- ---- lists in vectors
abbrev pub items_of : {A : Type 0} → List (Vec A Global) → List (List A)
items_of vs = map (λ v. v.items) vs

pub items_at : {A : Type 0} (vs : List (Vec A Global)) (v : Vec A Global) (i : ℕ) → i ≡ length vs → get_or (items_of (vs ++ v ∷ [])) i [] ≡ v.items
items_at [] v zero e = refl
items_at [] v (suc i) e = absurd (omega (arith, e))
items_at (x ∷ vs) v zero e = absurd (omega (arith, e))
items_at (x ∷ vs) v (suc i) e = items_at vs v i (omega (arith, e))

pub items_before : {A : Type 0} (vs : List (Vec A Global)) (v : Vec A Global) (i : ℕ) → i < length vs → get_or (items_of (vs ++ v ∷ [])) i [] ≡ get_or (items_of vs) i []
items_before [] v i l = absurd (omega (arith, l))
items_before (x ∷ vs) v zero l = refl
items_before (x ∷ vs) v (suc i) l = items_before vs v i (omega (arith, l))

abbrev pub HasItsPlaces : Sig → List (Vec FunId Global) → FunId → Type 0
HasItsPlaces sig vs f = IfSome (slice_get sig.functions f.0) (λ (h : Function). AreEqualities sig (get_or (items_of vs) f.0 []) (map (sort_under sig) (arguments_of h)))

pub places_pushed : (sig : Sig) (old new : List (Vec FunId Global)) (v : Vec FunId Global) (n : ℕ) (args : List SortId) → new ≡ old ++ v ∷ [] → n < length sig.functions → (length old ≡ n) × ((f : FunId) → f.0 < n → HasItsPlaces sig old f)
    → IfSome (slice_get sig.functions n) (λ (h : Function). arguments_of h ≡ args) → AreEqualities sig v.items (map (sort_under sig) args) → (length new ≡ n + 1) × ((f : FunId) → f.0 < n + 1 → HasItsPlaces sig new f)
places_pushed sig old new v n args e inside h given are = (
  (let a = ap length e in let b = length-append old (v ∷ []) in let c = h.0 in omega (arith, a, b, c)),
  (λ f l. subst (λ (vs : List (Vec FunId Global)). HasItsPlaces sig vs f) (sym e) (elim (cases_eq f.0 n) [
    | inl q ↦
        let g = read_within sig.functions n inside in
        let args_are : arguments_of g.0 ≡ args = if_there (λ (h : Function). arguments_of h ≡ args) (slice_get sig.functions n) g.0 g.1 given in
        let at : slice_get sig.functions f.0 ≡ Some g.0 = ap (λ (k : ℕ). slice_get sig.functions k) q ∙ g.1 in
        let items : get_or (items_of (old ++ v ∷ [])) f.0 [] ≡ v.items = items_at old v f.0 (q ∙ sym h.0) in
        subst (λ (o : Option Function). IfSome o (λ (h : Function). AreEqualities sig (get_or (items_of (old ++ v ∷ [])) f.0 []) (map (sort_under sig) (arguments_of h)))) (sym at)
        (subst (λ (fs : List FunId). AreEqualities sig fs (map (sort_under sig) (arguments_of g.0))) (sym items) (subst (λ (ss : List SortId). AreEqualities sig v.items (map (sort_under sig) ss)) (sym args_are) are))
    | inr d ↦
        let before : f.0 < n = omega (arith, l, d) in
        let items : get_or (items_of (old ++ v ∷ [])) f.0 [] ≡ get_or (items_of old) f.0 [] = items_before old v f.0 (let c = h.0 in omega (arith, before, c)) in
        subst (λ (fs : List FunId). IfSome (slice_get sig.functions f.0) (λ (h : Function). AreEqualities sig fs (map (sort_under sig) (arguments_of h)))) (sym items) (h.1 f before)
  ])),
)

pub places_all : (sig : Sig) (vs : List (Vec FunId Global)) (n : ℕ) → length sig.functions ≤ n → ((f : FunId) → f.0 < n → HasItsPlaces sig vs f) → (f : FunId) → HasItsPlaces sig vs f
places_all sig vs n past h f = elim (cases_lt f.0 n) [
  | inl l ↦ h f l
  | inr l ↦ subst (λ (o : Option Function). IfSome o (λ (h : Function). AreEqualities sig (get_or (items_of vs) f.0 []) (map (sort_under sig) (arguments_of h)))) (sym (slice_get_past sig.functions f.0 (omega (arith, l, past)))) tt
]

-- ---- numbers that are added
set_here : {A : Type 0} (vs : List (Vec A Global)) (k : ℕ) (v : Vec A Global) → k < length vs → get_or (items_of (set vs k v)) k [] ≡ v.items
set_here [] k v l = absurd (omega (arith, l))
set_here (x ∷ vs) zero v l = refl
set_here (x ∷ vs) (suc k) v l = set_here vs k v (omega (arith, l))

set_there : {A : Type 0} (vs : List (Vec A Global)) (k j : ℕ) (v : Vec A Global) → (k ≡ j → ⊥) → get_or (items_of (set vs k v)) j [] ≡ get_or (items_of vs) j []
set_there [] k j v n = refl
set_there (x ∷ vs) zero zero v n = absurd (n refl)
set_there (x ∷ vs) zero (suc j) v n = refl
set_there (x ∷ vs) (suc k) zero v n = refl
set_there (x ∷ vs) (suc k) (suc j) v n = set_there vs k j v (λ e. n (ap suc e))

read_list : {A : Type 0} (vs : List (Vec A Global)) (k : ℕ) (v : Vec A Global) → k < length vs → v ≡ get_or vs k v → get_or (items_of vs) k [] ≡ v.items
read_list [] k v l e = absurd (omega (arith, l))
read_list (x ∷ vs) zero v l e = ap (λ w. w.items) (sym e)
read_list (x ∷ vs) (suc k) v l e = read_list vs k v (omega (arith, l)) e

pub number_added : (vs : List (Vec ℕ Global)) (place : ℕ) (old new : Vec ℕ Global) (n : ℕ) → place < length vs → old ≡ get_or vs place old → new.items ≡ old.items ++ n ∷ []
    → (f : FunId) → get_or (items_of (set vs place new)) f.0 [] ≡ get_or (items_of vs) f.0 [] ++ cond (f.0 == place) (n ∷ []) []
number_added vs place old new n l here pushed f = by_test (f.0 == place) refl
  where
    by_test : (b : Bool) → (f.0 == place) ≡ b → get_or (items_of (set vs place new)) f.0 [] ≡ get_or (items_of vs) f.0 [] ++ cond b (n ∷ []) []
    by_test true e =
        let same : place ≡ f.0 = sym ((Decides-eqb f.0 place).0 e) in
        subst (λ (k : ℕ). get_or (items_of (set vs place new)) k [] ≡ get_or (items_of vs) k [] ++ n ∷ []) same
        (set_here vs place new l ∙ pushed ∙ ap (λ (ns : List ℕ). ns ++ n ∷ []) (sym (read_list vs place old l here)))
    by_test false e =
        let other : place ≡ f.0 → ⊥ = λ q. let z : true ≡ false = sym ((Decides-eqb f.0 place).1 (sym q)) ∙ e in cc in
        set_there vs place f.0 new other ∙ sym (append-nil (get_or (items_of vs) f.0 []))

pub empty_added : (vs : List (Vec ℕ Global)) (v : Vec ℕ Global) → v.items ≡ [] → ((f : FunId) → get_or (items_of vs) f.0 [] ≡ []) → (f : FunId) → get_or (items_of (vs ++ v ∷ [])) f.0 [] ≡ []
empty_added vs v empty all f = by_place vs f.0 (λ k. all (record { 0 = k }))
  where
    by_place : (xs : List (Vec ℕ Global)) (i : ℕ) → ((k : ℕ) → get_or (items_of xs) k [] ≡ []) → get_or (items_of (xs ++ v ∷ [])) i [] ≡ []
    by_place [] zero h = empty
    by_place [] (suc i) h = refl
    by_place (x ∷ xs) zero h = h 0
    by_place (x ∷ xs) (suc i) h = by_place xs i (λ k. h (suc k))

-- ---- rules by their heads
-- the numbers of the rules in front of n that have this function at the root of their left side
pub record AreRulesBefore (ts : List Tree) (rules : List Rule) (n : ℕ) (f : FunId) (numbers : List ℕ) : Type 0 where
  pub rise : Rise numbers
  pub below : All (λ (k : ℕ). k < n) numbers
  pub inside : All (λ (k : ℕ). k < length rules) numbers
  pub all : (k : ℕ) (r : Rule) → k < n → slice_get rules k ≡ Some r → HasHead f (tree_at ts r.left) → Contains numbers k

rises : (ns : List ℕ) (n : ℕ) → Rise ns → All (λ (k : ℕ). k < n) ns → Rise (ns ++ n ∷ [])
rises [] n h below = (All-nil (λ (m : ℕ). n < m), tt)
rises (k ∷ ns) n h below = (
  All-append (λ (m : ℕ). k < m) ns (n ∷ []) h.0 (All-cons (λ (m : ℕ). k < m) n [] (All-head (λ (k : ℕ). k < n) k ns below) (All-nil (λ (m : ℕ). k < m))),
  rises ns n h.1 (All-tail (λ (k : ℕ). k < n) k ns below),
)

module _ (ts : List Tree) (rules : List Rule) (f : FunId) where
  pub none_before : (numbers : List ℕ) → numbers ≡ [] → AreRulesBefore ts rules 0 f numbers
  none_before numbers e = subst (AreRulesBefore ts rules 0 f) (sym e) (record {
    rise = tt;
    below = All-nil (λ (k : ℕ). k < 0);
    inside = All-nil (λ (k : ℕ). k < length rules);
    all = λ k r l. absurd (omega (arith, l));
  })

  rule_added : (n next : ℕ) (numbers : List ℕ) → next ≡ suc n → n < length rules → AreRulesBefore ts rules n f numbers → AreRulesBefore ts rules next f (numbers ++ n ∷ [])
  rule_added n next numbers e l h = record {
    rise = rises numbers n h.rise h.below;
    below = All-append (λ (k : ℕ). k < next) numbers (n ∷ []) (All-weaker (λ (k : ℕ). k < n) (λ (k : ℕ). k < next) (λ k b. omega (arith, b, e)) numbers h.below) (All-cons (λ (k : ℕ). k < next) n [] (omega (arith, e)) (All-nil (λ (k : ℕ). k < next)));
    inside = All-append (λ (k : ℕ). k < length rules) numbers (n ∷ []) h.inside (All-cons (λ (k : ℕ). k < length rules) n [] l (All-nil (λ (k : ℕ). k < length rules)));
    all = λ k r b at head. elim (cases_eq k n) [
      | inl q ↦ Contains-append_right numbers (n ∷ []) k (0, omega arith, sym q)
      | inr d ↦ Contains-append_left numbers (n ∷ []) k (h.all k r (omega (arith, b, e, d)) at head)
    ];
  }

  pub rule_passed : (n next : ℕ) (numbers : List ℕ) (x : Rule) → next ≡ suc n → slice_get rules n ≡ Some x → (HasHead f (tree_at ts x.left) → ⊥) → AreRulesBefore ts rules n f numbers → AreRulesBefore ts rules next f numbers
  rule_passed n next numbers x e there other h = record {
    rise = h.rise;
    below = All-weaker (λ (k : ℕ). k < n) (λ (k : ℕ). k < next) (λ k b. omega (arith, b, e)) numbers h.below;
    inside = h.inside;
    all = λ k r b at head. elim (cases_eq k n) [
      | inl q ↦
          let p : Some x ≡ Some r = sym there ∙ ap (λ (j : ℕ). slice_get rules j) (sym q) ∙ at in
          let same : r ≡ x = (let z : x ≡ r = cc in sym z) in
          absurd (other (subst (λ (y : Rule). HasHead f (tree_at ts y.left)) same head))
      | inr d ↦ h.all k r (omega (arith, b, e, d)) at head
    ];
  }

  pub rule_entered : (n next place : ℕ) (numbers new : List ℕ) (x : Rule) → next ≡ suc n → slice_get rules n ≡ Some x → HasHead (record { 0 = place }) (tree_at ts x.left) → new ≡ numbers ++ cond (f.0 == place) (n ∷ []) [] → AreRulesBefore ts rules n f numbers → AreRulesBefore ts rules next f new
  rule_entered n next place numbers new x e there head is h = subst (AreRulesBefore ts rules next f) (sym is) (by_test (f.0 == place) refl)
    where
      no_two_heads : (t : Tree) → HasHead (record { 0 = place }) t → HasHead f t → place ≡ f.0
      no_two_heads (function g us) a b = ap (λ (y : FunId). y.0) (a ∙ sym b)
      no_two_heads (variable v) a b = absurd a
      no_two_heads (numeral s z) a b = absurd a

      by_test : (b : Bool) → (f.0 == place) ≡ b → AreRulesBefore ts rules next f (numbers ++ cond b (n ∷ []) [])
      by_test true q = rule_added n next numbers e (slice_get_within rules n x there) h
      by_test false q = subst (AreRulesBefore ts rules next f) (sym (append-nil numbers))
          (rule_passed n next numbers x e there (λ has. let same = no_two_heads (tree_at ts x.left) head has in let z : true ≡ false = sym ((Decides-eqb f.0 place).1 (sym same)) ∙ q in cc) h)

  pub rules_whole : (n : ℕ) (numbers : List ℕ) → length rules ≤ n → AreRulesBefore ts rules n f numbers → AreRulesAt ts rules f numbers
  rules_whole n numbers past h = record {
    rise = h.rise;
    inside = h.inside;
    all = λ k r at head. let l = slice_get_within rules k r at in h.all k r (omega (arith, l, past)) at head;
  }

pub no_head : (f : FunId) (t : Tree) (h : Head) (us : List Tree) → ((g : FunId) → h ≡ Fun g → ⊥) → t ≡ written_tree h us → HasHead f t → ⊥
no_head f t (Var v) us other e has = subst (HasHead f) e has
no_head f t (Num s n) us other e has = subst (HasHead f) e has
no_head f t (Fun g) us other e has = other g refl

pub head_is : (g : FunId) (t : Tree) (h : Head) (us : List Tree) → h ≡ Fun g → t ≡ written_tree h us → HasHead (record { 0 = g.0 }) t
head_is g t h us is e = subst (HasHead (record { 0 = g.0 })) (sym (e ∙ ap (λ (x : Head). written_tree x us) is)) refl

pub other_head : (f g : FunId) (t : Tree) (h : Head) (us : List Tree) (count : ℕ) → f.0 < count → count ≤ g.0 → h ≡ Fun g → t ≡ written_tree h us → HasHead f t → ⊥
other_head f g t h us count l k is e has =
    let there : HasHead f (written_tree (Fun g) us) = subst (HasHead f) (e ∙ ap (λ (x : Head). written_tree x us) is) has in
    let same : f.0 ≡ g.0 = ap (λ (y : FunId). y.0) there in
    omega (arith, l, k, same)

abbrev pub AreListsBefore : List Tree → List Rule → ℕ → ℕ → List (Vec ℕ Global) → Type 0
AreListsBefore ts rules count n lists = (length lists ≡ count) × ((f : FunId) → f.0 < count → AreRulesBefore ts rules n f (get_or (items_of lists) f.0 []))

pub step_passed : (ts : List Tree) (rules : List Rule) (count n : ℕ) (lists : List (Vec ℕ Global)) (d : Rule) → n < length rules → ((f : FunId) → f.0 < count → HasHead f (tree_at ts (get_or rules n d).left) → ⊥) → AreListsBefore ts rules count n lists → AreListsBefore ts rules count (n + 1) lists
step_passed ts rules count n lists d l other h = (h.0, λ f k. rule_passed ts rules f n (n + 1) (get_or (items_of lists) f.0 []) (get_or rules n d) (omega arith) (reads_at rules n d (get_or rules n d) l refl) (other f k) (h.1 f k))

pub step_entered : (ts : List Tree) (rules : List Rule) (count n place : ℕ) (lists new : List (Vec ℕ Global)) (d : Rule) → n < length rules → HasHead (record { 0 = place }) (tree_at ts (get_or rules n d).left) → length new ≡ length lists
    → ((f : FunId) → get_or (items_of new) f.0 [] ≡ get_or (items_of lists) f.0 [] ++ cond (f.0 == place) (n ∷ []) []) → AreListsBefore ts rules count n lists → AreListsBefore ts rules count (n + 1) new
step_entered ts rules count n place lists new d l head same added h = (same ∙ h.0, λ f k. rule_entered ts rules f n (n + 1) place (get_or (items_of lists) f.0 []) (get_or (items_of new) f.0 []) (get_or rules n d) (omega arith) (reads_at rules n d (get_or rules n d) l refl) head (added f) (h.1 f k))

-- ---- the tables
function_number : Rattle.data_theory.specs.Terms.Symbol → ℕ
function_number (symbol_function k) = k
function_number y = 0

pub places_fit : (sig : Sig) → IsSignature sig → (vs : List (Vec FunId Global)) → ((f : FunId) → HasItsPlaces sig vs f) → (f : FunId) (c : ℕ) → IsSymbolOf sig f (symbol_function c) → AreEqualities sig (get_or (items_of vs) f.0 []) (function_at (data_meant sig) c).arguments
unfolding function_number
places_fit sig stands vs all f c is = let there = read_within sig.functions f.0 is.inside in by_word there.0 there.1 there.0.word refl
  where
    plain : (h : Function) → IsEntry sig.texts sig.sorts h → h.word ≡ None → arguments_of h ≡ h.sorts
    plain h (declared e n) w = ap (λ (b : Bool). cond b [] h.sorts) n
    plain h (built_in r i e t) w = absurd (let z : None ≡ Some (Rattle.data_theory.specs.Rows.row_word r) = sym w ∙ ap (λ (x : Function). x.word) e in cc)

    by_word : (h : Function) → slice_get sig.functions f.0 ≡ Some h → (w : Option Word) → h.word ≡ w → AreEqualities sig (get_or (items_of vs) f.0 []) (function_at (data_meant sig) c).arguments
    by_word h at (Some w) e = absurd (let t = (built_in_tells sig stands.table f h w at e).2 in let z : true ≡ false = ap is_declared (sym is.is) ∙ t in cc)
    by_word h at None e =
        let d = declared_functions_stand_in_the_data sig f h at e in
        let same : length (declared_from 0 (take f.0 sig.functions)) ≡ c = ap function_number (sym d.0 ∙ is.is) in
        let sorts = plain h (holds_at (IsEntry sig.texts sig.sorts) sig.functions f.0 h stands.table.entries at) e in
        let args : map (sort_under sig) (arguments_of h) ≡ (function_at (data_meant sig) c).arguments =
        ap (map (sort_under sig)) sorts ∙ sym (ap (λ (x : theory.DeclaredFunction). x.arguments) d.1) ∙ ap (λ (k : ℕ). (function_at (data_meant sig) k).arguments) same in
        subst (AreEqualities sig (get_or (items_of vs) f.0 [])) args (if_there (λ (h : Function). AreEqualities sig (get_or (items_of vs) f.0 []) (map (sort_under sig) (arguments_of h))) (slice_get sig.functions f.0) h at (all f))

pub tables_stand : (tables : Tables) (sig : Sig) → IsSignature sig → (ts : List Tree) (rules : List Rule) → AreSigns sig tables.signs.items → ((f : FunId) → HasItsPlaces sig tables.places.items f) → tables.rules.items ≡ rules → All (IsRule sig ts) rules
    → ((f : FunId) → f.0 < length sig.functions → AreRulesAt ts tables.rules.items f (get_or (items_of tables.by_head.items) f.0 [])) → (own : List Equation) → AreEquationsOf sig ts rules own → AreTablesOf tables sig own ts
tables_stand tables sig stands ts rules signs places e all heads own are = record {
  signs = record { signature = stands; signs = signs; places = places_fit sig stands tables.places.items places };
  equations = subst (λ (rs : List Rule). AreEquationsOf sig ts rs own) (sym e) are;
  rules = subst (All (IsRule sig ts)) (sym e) all;
  heads = heads;
}
