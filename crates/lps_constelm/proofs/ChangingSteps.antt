-- Next terms that change, over a pool that grows.
use Rattle.std.proofs.Common.{◌≡◌, ◌<◌, ◌≤◌, ◌+◌, ◌==◌, cond, Bool, true, false, ℕ, zero, suc, List, [], ◌∷◌, ◌++◌, map, take, length, get_or, refl, sym, ap, ◌∙◌, subst, arith, ⊎_elim, Option, Some, None}
use Rattle.std.specs.Global.{Global}
use Rattle.std.specs.Prelude.{Contains, IfSome, MatchBool, Vec, option_map, slice_get}
use Rattle.std.specs.List.{All}
use Rattle.std.proofs.lemmas.List.{get_or_default, map_more, take_all}
use Rattle.std.proofs.lemmas.Bool.Decides.{Decides-eqb}
use Rattle.std.proofs.lemmas.Option.{slice_get-map, slice_get-get_or}
use Rattle.std.proofs.lemmas.List.Elements.{All-get_or, All-contains, Contains-push_cases}
use Rattle.data_theory.specs.declared.ids.VarId.{VarId}
use Rattle.data_theory.specs.declared.ids.TermId.{TermId}
use Rattle.data_theory.specs.Environments.{AreDistinct}
use Rattle.data_theory.specs.Signature.{Sig}
use Rattle.data_theory.specs.IdTrees.{Tree, variable, put_tree}
use Rattle.term_pool.specs.Bindings.{listed, listed_terms}
use Rattle.term_pool.specs.HeadTrees.{tree_at, trees_at, IsIn, AreIn}
use Rattle.term_pool.specs.Pools.{Extends}
use Rattle.bisim_laws.proofs.Firing.{contains_none, contains_first, contains_later}
use Rattle.lps_core.specs.declared.linears.Summand.{Summand}
use Rattle.lps_core.specs.PlainLinears.{PlainSummand, PlainLinear, plain_next, plain_summand}
use Rattle.lps_core.specs.Fitting.{Fits}
use Rattle.lps_core.specs.TreeSummands.{bound_tree, numbers_of, IsSummandIn}
use Rattle.lps_core.proofs.MeantTrees.{numbers_meant}
use Rattle.lps_core.proofs.PoolTrees.{extends_itself, extends_on, tree_kept, listed_kept, put_along}
use Rattle.lps_parelm.proofs.UseGraphs.{at_contains}
use Rattle.lps_parelm.proofs.WholeElimination.{init_long}
use Rattle.lps_constelm.specs.Putting.{initial_tree, pairs_of, Changes, StaysInitial, ChangesBy, StaysBy, NextChangesBy, NextStaysBy}
use Rattle.lps_constelm.proofs.ChangingLoops.{pairs_listed}

-- ---- one next term
-- what is put in is what was put in before the pool grew
module _ (ts us : List Tree) (by : List (VarId × TermId)) (place : ℕ) (init : TermId) (grown : Extends ts us) (are : AreIn ts (listed_terms by)) (init_in : IsIn ts init) where
  pub put_back : (id : TermId) → IsIn ts id → put_tree (listed us by) (tree_at us id) ≡ put_tree (listed ts by) (tree_at ts id)
  put_back id i = ap (put_tree (listed us by)) (tree_kept ts us id grown i).0 ∙ put_along (listed us by) (listed ts by) (listed_kept ts us by grown are) (tree_at ts id)

  place_in : (ids : List TermId) → AreIn ts ids → place < length ids → IsIn ts (get_or ids place (record { 0 = 0 }))
  place_in ids w l = All-get_or (IsIn ts) ids place (record { 0 = 0 }) l w

  changes_back : (next : Option (List TermId)) → IfSome next (AreIn ts) → IfSome next (λ ids. place < length ids) → NextChangesBy (listed us by) us place init next → NextChangesBy (listed ts by) ts place init next
  changes_back None w l h = h
  changes_back (Some ids) w l h = λ e. h (put_back (get_or ids place (record { 0 = 0 })) (place_in ids w l) ∙ e ∙ sym (tree_kept ts us init grown init_in).0)

  stays_back : (next : Option (List TermId)) → IfSome next (AreIn ts) → IfSome next (λ ids. place < length ids) → NextStaysBy (listed us by) us place init next → NextStaysBy (listed ts by) ts place init next
  stays_back None w l h = tt
  stays_back (Some ids) w l h = sym (put_back (get_or ids place (record { 0 = 0 })) (place_in ids w l)) ∙ h ∙ (tree_kept ts us init grown init_in).0

  -- ---- all of them
  module _ (ss : List PlainSummand) (inside : All (IsSummandIn ts) ss) (long : All (λ (s : PlainSummand). IfSome s.next (λ ids. place < length ids)) ss) where
    next_in : (s : PlainSummand) (ids : List TermId) → Contains ss s → s.next ≡ Some ids → AreIn ts ids
    next_in s ids i e = subst (λ z. IfSome z (AreIn ts)) e (All-contains (IsSummandIn ts) ss s inside i).next

    next_long : (s : PlainSummand) (ids : List TermId) → Contains ss s → s.next ≡ Some ids → place < length ids
    next_long s ids i e = subst (λ z. IfSome z (λ ids. place < length ids)) e (All-contains (λ (t : PlainSummand). IfSome t.next (λ ids. place < length ids)) ss s long i)

    pub some_change_back : ChangesBy (listed us by) us ss place init → ChangesBy (listed ts by) ts ss place init
    some_change_back h = record { summand = h.summand; among = h.among; ids = h.ids; next = h.next; differs = changes_back (Some h.ids) (next_in h.summand h.ids h.among h.next) (next_long h.summand h.ids h.among h.next) h.differs }

    pub all_stay_back : StaysBy (listed us by) us ss place init → StaysBy (listed ts by) ts ss place init
    all_stay_back h s ids i e = stays_back (Some ids) (next_in s ids i e) (next_long s ids i e) (h s ids i e)

pub next_elsewhere : (e : VarId → Tree) (ts : List Tree) (place : ℕ) (init : TermId) (next : Option (Vec TermId Global)) (terms : Vec TermId Global) (term : TermId) → next ≡ Some terms → IfSome (plain_next next) (λ ids. place < length ids) → term ≡ get_or terms.items place term
    → (b : Bool) → MatchBool b (¬ (put_tree e (tree_at ts term) ≡ tree_at ts init)) (put_tree e (tree_at ts term) ≡ tree_at ts init) → MatchBool b (NextChangesBy e ts place init (plain_next next)) (NextStaysBy e ts place init (plain_next next))
next_elsewhere e ts place init next terms term is long read b h =
    let below : place < length terms.items = subst (λ o. IfSome (plain_next o) (λ ids. place < length ids)) is long in
    subst (λ o. MatchBool b (NextChangesBy e ts place init (plain_next o)) (NextStaysBy e ts place init (plain_next o))) (sym is)
    (subst (λ z. MatchBool b (¬ (put_tree e (tree_at ts z) ≡ tree_at ts init)) (put_tree e (tree_at ts z) ≡ tree_at ts init)) (read ∙ get_or_default terms.items place term (record { 0 = 0 }) below) h)

-- ---- the summands before
pub record StaySoFar (ts : List Tree) (by : List (VarId × TermId)) (place : ℕ) (init : TermId) (items : List Summand) (i : ℕ) (us : List Tree) : Type 0 where
  pub kept : Extends ts us
  pub stay : StaysBy (listed ts by) ts (map plain_summand (take i items)) place init

pub none_stays : (ts : List Tree) (by : List (VarId × TermId)) (place : ℕ) (init : TermId) (items : List Summand) → StaySoFar ts by place init items 0 ts
none_stays ts by place init items = record { kept = extends_itself ts; stay = λ s ids i e. absurd (contains_none s i) }

among : (items : List Summand) (i : ℕ) (s : Summand) → i < length items → s ≡ get_or items i s → Contains (map plain_summand items) (plain_summand s)
among [] i s l e = absurd (omega (arith, l))
among (x ∷ items) zero s l e = subst (λ z. Contains (plain_summand x ∷ map plain_summand items) (plain_summand z)) (sym e) (contains_first (plain_summand x) (map plain_summand items))
among (x ∷ items) (suc i) s l e = contains_later (plain_summand x) (plain_summand s) (map plain_summand items) (among items i s (omega (arith, l)) e)

changes_at : (e : VarId → Tree) (ts : List Tree) (ss : List PlainSummand) (place : ℕ) (init : TermId) (s : PlainSummand) → Contains ss s → (next : Option (List TermId)) → s.next ≡ next → NextChangesBy e ts place init next → ChangesBy e ts ss place init
changes_at e ts ss place init s i None q h = absurd h
changes_at e ts ss place init s i (Some ids) q h = record { summand = s; among = i; ids = ids; next = q; differs = h }

stays_at : (e : VarId → Tree) (ts : List Tree) (place : ℕ) (init : TermId) (next : Option (List TermId)) (ids : List TermId) → next ≡ Some ids → NextStaysBy e ts place init next → put_tree e (tree_at ts (get_or ids place (record { 0 = 0 }))) ≡ tree_at ts init
stays_at e ts place init next ids q h = subst (λ n. NextStaysBy e ts place init n) q h

module _ (ts us : List Tree) (by : List (VarId × TermId)) (place : ℕ) (init : TermId) (items : List Summand) (i : ℕ) (s : Summand) (far : StaySoFar ts by place init items i us) (below : i < length items) (read : s ≡ get_or items i s) (are : AreIn ts (listed_terms by)) (init_in : IsIn ts init) (within : IfSome (plain_summand s).next (AreIn ts)) (long : IfSome (plain_summand s).next (λ ids. place < length ids)) where
  pub one_changes_here : NextChangesBy (listed us by) us place init (plain_summand s).next → ChangesBy (listed ts by) ts (map plain_summand items) place init
  one_changes_here h = changes_at (listed ts by) ts (map plain_summand items) place init (plain_summand s) (among items i s below read) (plain_summand s).next refl (changes_back ts us by place init far.kept are init_in (plain_summand s).next within long h)

  pub one_more_stays : (vs : List Tree) → Extends us vs → NextStaysBy (listed us by) us place init (plain_summand s).next → StaySoFar ts by place init items (i + 1) vs
  one_more_stays vs x h = record {
    kept = extends_on ts us vs far.kept x;
    stay = λ t ids j e. ⊎_elim
        (λ k. far.stay t ids k e)
        (λ q. stays_at (listed ts by) ts place init (plain_summand s).next ids (ap (λ (z : PlainSummand). z.next) q ∙ e) (stays_back ts us by place init far.kept are init_in (plain_summand s).next within long h))
        (Contains-push_cases (map plain_summand (take i items)) (plain_summand s) t (subst (λ z. Contains z t) (map_more plain_summand items i s below ∙ ap (λ z. map plain_summand (take i items) ++ plain_summand z ∷ []) (sym read)) j));
  }

pub all_stay : (ts us : List Tree) (by : List (VarId × TermId)) (place : ℕ) (init : TermId) (items : List Summand) (i : ℕ) → StaySoFar ts by place init items i us → length items ≤ i → StaysBy (listed ts by) ts (map plain_summand items) place init
all_stay ts us by place init items i far l = subst (λ z. StaysBy (listed ts by) ts (map plain_summand z) place init) (take_all i items l) far.stay

-- ---- a parameter's own term
bound_tree_at : (xs : List VarId) (us : List Tree) (place : ℕ) (x : VarId) (u : Tree) → AreDistinct (numbers_of xs) → slice_get xs place ≡ Some x → slice_get us place ≡ Some u → bound_tree xs us x ≡ u
bound_tree_at [] us place x u d e q = absurd (let wrong : ⊥ = cc in wrong)
bound_tree_at (y ∷ xs) [] place x u d e q = absurd (let wrong : ⊥ = cc in wrong)
bound_tree_at (y ∷ xs) (t ∷ us) zero x u d e q =
    let same : y ≡ x = cc in
    let is : t ≡ u = cc in
    ap (λ b. cond b t (bound_tree xs us x)) ((Decides-eqb y.0 x.0).1 (ap (λ (z : VarId). z.0) same)) ∙ is
bound_tree_at (y ∷ xs) (t ∷ us) (suc place) x u d e q = by_test (y.0 == x.0) refl (bound_tree_at xs us place x u d.1 e q)
  where
    later : Contains (numbers_of xs) x.0
    later = at_contains (numbers_of xs) place x.0 (slice_get-map (λ (z : VarId). z.0) xs place ∙ ap (option_map (λ (z : VarId). z.0)) e)

    by_test : (b : Bool) → (y.0 == x.0) ≡ b → bound_tree xs us x ≡ u → cond b t (bound_tree xs us x) ≡ u
    by_test true r k = absurd (d.0 (subst (λ n. Contains (numbers_of xs) n) (sym ((Decides-eqb y.0 x.0).0 r)) later))
    by_test false r k = k

same_tree : {t u : Tree} → Some t ≡ Some u → t ≡ u
same_tree e = cc

-- it goes to the initial one
pub own_put : (g : Sig) (ts : List Tree) (l : PlainLinear) (vars : List TermId) (by : List (VarId × TermId)) (place : ℕ) (own init : TermId) → Fits g ts l → trees_at ts vars ≡ map variable l.params → by ≡ pairs_of l.params l.init
    → place < length l.params → slice_get vars place ≡ Some own → init ≡ get_or l.init place (record { 0 = 0 }) → put_tree (listed ts by) (tree_at ts own) ≡ tree_at ts init
own_put g ts l vars by place own init fits are pairs below at read =
    let x = get_or l.params place (record { 0 = 0 }) in
    let there : slice_get l.params place ≡ Some x = slice_get-get_or l.params place (record { 0 = 0 }) below in
    let tree : tree_at ts own ≡ variable x = same_tree (sym (slice_get-map (tree_at ts) vars place ∙ ap (option_map (tree_at ts)) at) ∙ ap (λ z. slice_get z place) are ∙ slice_get-map variable l.params place ∙ ap (option_map variable) there) in
    let count = init_long g ts l fits in
    let first : slice_get (trees_at ts l.init) place ≡ Some (tree_at ts (get_or l.init place (record { 0 = 0 }))) = slice_get-map (tree_at ts) l.init place ∙ ap (option_map (tree_at ts)) (slice_get-get_or l.init place (record { 0 = 0 }) (omega (arith, below, count))) in
    ap (put_tree (listed ts by)) tree ∙ ap (λ z. listed ts z x) pairs ∙ pairs_listed ts l.params l.init x
    ∙ bound_tree_at l.params (trees_at ts l.init) place x (tree_at ts (get_or l.init place (record { 0 = 0 }))) (subst AreDistinct (numbers_meant g ts l.params) fits.linear.distinct) there first ∙ ap (tree_at ts) (sym read)

-- ---- with all initial terms put in
module _ (ts : List Tree) (l : PlainLinear) (by : List (VarId × TermId)) (place : ℕ) (init : TermId) (pairs : by ≡ pairs_of l.params l.init) (read : init ≡ get_or l.init place (record { 0 = 0 })) where
  by_is : (v : VarId) → listed ts by v ≡ initial_tree ts l v
  by_is v = ap (λ z. listed ts z v) pairs ∙ pairs_listed ts l.params l.init v

  put_is : (id : TermId) → put_tree (listed ts by) (tree_at ts id) ≡ put_tree (initial_tree ts l) (tree_at ts id)
  put_is id = put_along (listed ts by) (initial_tree ts l) by_is (tree_at ts id)

  pub changes_by_them : ChangesBy (listed ts by) ts l.summands place init → Changes ts l place
  changes_by_them h = record { summand = h.summand; among = h.among; ids = h.ids; next = h.next; differs = λ e. h.differs (put_is (get_or h.ids place (record { 0 = 0 })) ∙ e ∙ ap (tree_at ts) (sym read)) }

  pub stays_by_them : StaysBy (listed ts by) ts l.summands place init → StaysInitial ts l place
  stays_by_them h s ids i e = sym (put_is (get_or ids place (record { 0 = 0 }))) ∙ h s ids i e ∙ ap (tree_at ts) read
