-- The first values of columns.
use Rattle.std.proofs.Common.{◌≡◌, ◌<◌, ◌≤◌, ◌+◌, ◌-◌, ℕ, zero, suc, cond, List, [], ◌∷◌, ◌++◌, map, take, length, get_or, refl, sym, ap, ◌∙◌, subst, arith, ⊎_elim, Some, None}
use Rattle.std.specs.Prelude.{slice_get, IfSome}
use Rattle.std.specs.List.{All, AllZip}
use Rattle.std.proofs.lemmas.Bool.Decides.{eqb_tells}
use Rattle.std.proofs.lemmas.List.{append_assoc, take_more}
use Rattle.std.proofs.lemmas.List.Elements.{All-nil, All-cons, All-head, All-tail}
use Rattle.data_theory.specs.declared.ids.SortId.{SortId}
use Rattle.data_theory.specs.declared.ids.FunId.{FunId}
use Rattle.data_theory.specs.declared.ids.VarId.{VarId}
use Rattle.data_theory.specs.declared.ids.TermId.{TermId}
use Rattle.data_theory.specs.Terms.{IsClosed, AreClosed}
use Rattle.data_theory.specs.Environments.{terms_of}
use Rattle.data_theory.specs.declared.signature.Variable.{Variable}
use Rattle.data_theory.specs.IdTreeSorts.{HasTreeSort}
use Rattle.data_theory.specs.Signature.{Sig}
use Rattle.data_theory.specs.IdTrees.{Tree, Trees, variable, numeral, function, none, more}
use Rattle.data_theory.specs.IdTerms.{term_under, terms_under, IsGrown}
use Rattle.data_theory.proofs.IdGrowthLemmas.{growth_after_growth_is_growth}
use Rattle.term_pool.specs.HeadTrees.{tree_at, IsIn, AreIn}
use Rattle.term_pool.specs.Pools.{PoolContents, Extends}
use Rattle.term_pool.specs.ConstructorValues.{ConstructorValue, ConstructorValues, a_number, built, a_constant, no_value, value_then, HasValue, IsFirstValue}
use Rattle.term_pool.specs.Constants.{tree_with, trees_with, constant_of, sorts_in_need, AreConstants, KeepsConstants, DeclaresConstants}
use Rattle.term_pool.proofs.GrownSignatures.{inhabited_sorts_stay_inhabited}
use Rattle.term_pool.proofs.DeclaredConstants.{grown_itself, constants_kept}
use Rattle.process_terms.specs.Meanings.{term_at}
use Rattle.process_terms.specs.SignatureEntries.{entries_of, BothGrow}
use Rattle.lps_core.specs.Fitting.{IsTermOf, AreTermsOf, IsVariable, sort_of_variable}
use Rattle.lps_core.proofs.PoolTrees.{extends_itself, extends_on, tree_kept}
use Rattle.lps_core.proofs.NamedSums.{variable_kept, sort_kept, all_front, all_last, zip_push, zip_weaker}
use Rattle.lps_core.proofs.NamingLoops.{sort_is}
use Rattle.lps_core.proofs.Staying.{term_is}
use Rattle.lps_core.proofs.StayingFits.{term_fits}
use Rattle.lps_core.specs.MadeTerms.{IsClosedTerm}
use Rattle.regular_encoder.specs.FormColumns.{argument_of, IsFirstTerm, an_argument, a_closed_term, AreFirstTerms, no_first_term, one_more_first_term}
use Rattle.regular_encoder.proofs.ColumnTrees.{AreOthers}

-- ---- trees without variables
abbrev mutual
  pub HasNoVariable : Tree → Type 0
  HasNoVariable (variable v) = ⊥
  HasNoVariable (numeral a z) = Unit {0}
  HasNoVariable (function f ts) = HaveNoVariable ts

  pub HaveNoVariable : Trees → Type 0
  HaveNoVariable none = Unit {0}
  HaveNoVariable (more t ts) = HasNoVariable t × HaveNoVariable ts

mutual
  pub closed_tree : (g : Sig) (t : Tree) → HasNoVariable t → IsClosed (term_under g t)
  closed_tree g (variable v) h = absurd h
  closed_tree g (numeral a z) h = tt
  closed_tree g (function f ts) h = closed_trees g ts h

  closed_trees : (g : Sig) (ts : Trees) → HaveNoVariable ts → AreClosed (terms_under g ts)
  closed_trees g none h = tt
  closed_trees g (more t ts) h = (closed_tree g t h.0, closed_trees g ts h.1)

mutual
  pub tree_of_closed : (g : Sig) (t : Tree) → IsClosed (term_under g t) → HasNoVariable t
  tree_of_closed g (variable v) h = absurd h
  tree_of_closed g (numeral a z) h = tt
  tree_of_closed g (function f ts) h = trees_of_closed g ts h

  trees_of_closed : (g : Sig) (ts : Trees) → AreClosed (terms_under g ts) → HaveNoVariable ts
  trees_of_closed g none h = tt
  trees_of_closed g (more t ts) h = (tree_of_closed g t h.0, trees_of_closed g ts h.1)

mutual
  pub value_is_closed : (c : SortId → FunId) (v : ConstructorValue) → HasNoVariable (tree_with c v)
  value_is_closed c (a_number s z) = tt
  value_is_closed c (built f vs) = values_are_closed c vs
  value_is_closed c (a_constant d) = tt

  values_are_closed : (c : SortId → FunId) (vs : ConstructorValues) → HaveNoVariable (trees_with c vs)
  values_are_closed c no_value = tt
  values_are_closed c (value_then v vs) = (value_is_closed c v, values_are_closed c vs)

pub closed_args : (g : Sig) (ts : List Tree) (ids : List TermId) → AreIn ts ids → AreClosed (terms_of (map (term_at (entries_of g ts)) ids)) → All (λ id. HasNoVariable (tree_at ts id)) ids
closed_args g ts [] w h = All-nil (λ id. HasNoVariable (tree_at ts id))
closed_args g ts (id ∷ ids) w h =
    All-cons (λ id. HasNoVariable (tree_at ts id)) id ids (tree_of_closed g (tree_at ts id) (subst IsClosed (term_is g ts id (All-head (IsIn ts) id ids w)) h.0)) (closed_args g ts ids (All-tail (IsIn ts) id ids w) h.1)

pub args_closed : (g : Sig) (ts : List Tree) (ids : List TermId) → AreIn ts ids → All (λ id. HasNoVariable (tree_at ts id)) ids → AreClosed (terms_of (map (term_at (entries_of g ts)) ids))
args_closed g ts [] w h = tt
args_closed g ts (id ∷ ids) w h =
    (subst IsClosed (sym (term_is g ts id (All-head (IsIn ts) id ids w))) (closed_tree g (tree_at ts id) (All-head (λ id. HasNoVariable (tree_at ts id)) id ids h)), args_closed g ts ids (All-tail (IsIn ts) id ids w) (All-tail (λ id. HasNoVariable (tree_at ts id)) id ids h))

-- ---- the argument at a column's place
pub argument_found : (ps : List VarId) (ids : List TermId) (c : VarId) (i : ℕ) (d : VarId) (e : TermId) → length ps ≡ length ids → i < length ps → AreOthers ps i c → (get_or ps i d).0 ≡ c.0 → argument_of ps ids c ≡ Some (get_or ids i e)
argument_found [] ids c i d e l w h q = absurd (omega (arith, w))
argument_found (p ∷ ps) [] c i d e l w h q = absurd (omega (arith, l))
argument_found (p ∷ ps) (u ∷ ids) c zero d e l w h q = ⊎_elim (λ k. ap (λ b. cond b (Some u) (argument_of ps ids c)) k.0) (λ k. absurd (k.1 q)) (eqb_tells p.0 c.0)
argument_found (p ∷ ps) (u ∷ ids) c (suc i) d e l w h q = ⊎_elim
    (λ k. absurd (h 0 p (omega arith) k.1))
    (λ k. ap (λ b. cond b (Some u) (argument_of ps ids c)) k.0 ∙ argument_found ps ids c i d e (omega (arith, l)) (omega (arith, w)) (λ j x v. h (suc j) x (omega (arith, v))) q)
    (eqb_tells p.0 c.0)

pub argument_nowhere : (ps : List VarId) (ids : List TermId) (c : VarId) (i : ℕ) → length ps ≤ i → AreOthers ps i c → argument_of ps ids c ≡ None
argument_nowhere [] ids c i l h = refl
argument_nowhere (p ∷ ps) [] c i l h = refl
argument_nowhere (p ∷ ps) (u ∷ ids) c i l h = ⊎_elim
    (λ k. absurd (h 0 p (omega (arith, l)) k.1))
    (λ k. ap (λ b. cond b (Some u) (argument_of ps ids c)) k.0 ∙ argument_nowhere ps ids c (i - 1) (omega (arith, l)) (λ j x v. h (suc j) x (omega (arith, v, l))))
    (eqb_tells p.0 c.0)

pub some_is : {A : Type 0} {x y : A} → Some x ≡ Some y → x ≡ y
some_is e = cc

pub no_some : {A : Type 0} {x : A} → None ≡ Some x → ⊥
no_some e = cc

-- it has the column's sort, and no variables
pub argument_stands : (g h : Sig) (ts : List Tree) (params place : List VarId) (args : List TermId) (c : VarId) (t : TermId) → AllZip (λ p x. sort_of_variable g p ≡ sort_of_variable h x) params place
    → AreTermsOf g ts (map (sort_of_variable g) params) args → All (λ id. HasNoVariable (tree_at ts id)) args → argument_of place args c ≡ Some t → IsTermOf g ts (sort_of_variable h c) t × HasNoVariable (tree_at ts t)
argument_stands g h ts [] [] args c t z w k e = absurd (no_some e)
argument_stands g h ts [] (x ∷ place) args c t z w k e = absurd z
argument_stands g h ts (p ∷ params) [] args c t z w k e = absurd z
argument_stands g h ts (p ∷ params) (x ∷ place) [] c t z w k e = absurd (no_some e)
argument_stands g h ts (p ∷ params) (x ∷ place) (a ∷ args) c t z w k e = ⊎_elim
    (λ q.
    let is : a ≡ t = some_is (sym (ap (λ b. cond b (Some a) (argument_of place args c)) q.0) ∙ e) in
    let one : x ≡ c = ap (λ n. record { 0 = n }) q.1 in (
      subst (λ y. IsTermOf g ts (sort_of_variable h c) y) is
          (subst (λ s. IsTermOf g ts s a) (z.0 ∙ ap (sort_of_variable h) one) (record { within = All-head (IsIn ts) a args w.within; sorted = w.sorted.0 })),
      subst (λ y. HasNoVariable (tree_at ts y)) is (All-head (λ id. HasNoVariable (tree_at ts id)) a args k),
    ))
    (λ q. argument_stands g h ts params place args c t z.1 (record { within = All-tail (IsIn ts) a args w.within; sorted = w.sorted.1 }) (All-tail (λ id. HasNoVariable (tree_at ts id)) a args k) (sym (ap (λ b. cond b (Some a) (argument_of place args c)) q.0) ∙ e))
    (eqb_tells x.0 c.0)

-- ---- one first value
pub record FirstStands (place : List VarId) (args : List TermId) (h : Sig) (us : List Tree) (c : VarId) (t : TermId) : Type 0 where
  pub variable : IsVariable h c
  pub term : IsTermOf h us (sort_of_variable h c) t
  pub closed : HasNoVariable (tree_at us t)
  pub read : (a : TermId) → argument_of place args c ≡ Some a → t ≡ a

pub grow_then : (g h k : Sig) (ts us vs : List Tree) → BothGrow g h ts us → BothGrow h k us vs → BothGrow g k ts vs
grow_then g h k ts us vs a b = record { signature = growth_after_growth_is_growth g h k a.signature b.signature; pool = extends_on ts us vs a.pool b.pool }

pub grow_none : (g : Sig) (ts : List Tree) → BothGrow g g ts ts
grow_none g ts = record { signature = grown_itself g; pool = extends_itself ts }

-- what can stand for a column that has an argument
abbrev pub ArgumentStands : List VarId → List TermId → Sig → List Tree → VarId → Type 0
ArgumentStands place args g ts c = (t : TermId) → argument_of place args c ≡ Some t → IsTermOf g ts (sort_of_variable g c) t × HasNoVariable (tree_at ts t)

argument_stands_on : (place : List VarId) (args : List TermId) (g h : Sig) (ts us : List Tree) (c : VarId) → BothGrow g h ts us → IsVariable g c → ArgumentStands place args g ts c → ArgumentStands place args h us c
argument_stands_on place args g h ts us c w l f t e =
    let k = f t e in
    (subst (λ s. IsTermOf h us s t) (sym (sort_kept g h c w.signature l)) (term_fits g h ts us w (sort_of_variable g c) t k.0), subst HasNoVariable (sym (tree_kept ts us t w.pool k.0.within).0) k.1)

first_stands_on : (place : List VarId) (args : List TermId) (g h : Sig) (ts us : List Tree) (c : VarId) (t : TermId) → BothGrow g h ts us → FirstStands place args g ts c t → FirstStands place args h us c t
first_stands_on place args g h ts us c t w s = record {
  variable = variable_kept g h c w.signature s.variable;
  term = subst (λ r. IsTermOf h us r t) (sym (sort_kept g h c w.signature s.variable)) (term_fits g h ts us w (sort_of_variable g c) t s.term);
  closed = subst HasNoVariable (sym (tree_kept ts us t w.pool s.term.within).0) s.closed;
  read = s.read;
}

first_stands : (place : List VarId) (args : List TermId) (g : Sig) (p : PoolContents) (c : VarId) (h : Sig) (q : PoolContents) (t : TermId) → IsFirstTerm place args g p c h q t → IsVariable g c → ArgumentStands place args g p.trees c
    → BothGrow g h p.trees q.trees × FirstStands place args h q.trees c t
first_stands place args g p c _ _ _ (an_argument {t = t} e) l f =
    let k = f t e in
    (grow_none g p.trees, record { variable = l; term = k.0; closed = k.1; read = λ a d. some_is (sym e ∙ d) })
first_stands place args g p c _ _ _ (a_closed_term {h = h} {q = q} {t = t} e k) l f = (
  record { signature = k.grown; pool = k.kept },
  record {
    variable = variable_kept g h c k.grown l;
    term = subst (λ r. IsTermOf h q.trees r t) (sym (sort_kept g h c k.grown l)) k.stands;
    closed = subst HasNoVariable (sym k.tree) (value_is_closed (constant_of q.constants) k.value);
    read = λ a d. absurd (no_some (sym e ∙ d));
  },
)

pub firsts_stand : (place : List VarId) (args : List TermId) (g : Sig) (p : PoolContents) (cs : List VarId) (h : Sig) (q : PoolContents) (ts : List TermId) → AreFirstTerms place args g p cs h q ts → All (IsVariable g) cs → All (ArgumentStands place args g p.trees) cs
    → BothGrow g h p.trees q.trees × AllZip (FirstStands place args h q.trees) cs ts
firsts_stand place args g p _ _ _ _ no_first_term l f = (grow_none g p.trees, tt)
firsts_stand place args g p _ k r _ (one_more_first_term {cs = cs} {ts = ts} {h = h} {q = q} {c = c} {t = t} a n) l f =
    let s = firsts_stand place args g p cs h q ts a (all_front (IsVariable g) cs c l) (all_front (ArgumentStands place args g p.trees) cs c f) in
    let own = all_last (IsVariable g) cs c l in
    let m = first_stands place args h q c k r t n (variable_kept g h c s.0.signature own) (argument_stands_on place args g h p.trees q.trees c s.0 own (all_last (ArgumentStands place args g p.trees) cs c f)) in (
      grow_then g h k p.trees q.trees r.trees s.0 m.0,
      zip_push (FirstStands place args k r.trees) cs ts c t (zip_weaker (FirstStands place args h q.trees) (FirstStands place args k r.trees) (λ x y z. first_stands_on place args h k q.trees r.trees x y m.0 z) cs ts s.1) m.1,
    )

-- ---- in the code
pub record IsFinding (place : List VarId) (args : List TermId) (g : Sig) (p : PoolContents) (columns : List VarId) (i : ℕ) (h : Sig) (q : PoolContents) (firsts : List TermId) : Type 0 where
  pub values : AreFirstTerms place args g p (take i columns) h q firsts
  pub grown : IsGrown g h
  pub kept : Extends p.trees q.trees
  pub constants : AreConstants h q.constants
  pub constants_kept : KeepsConstants p.constants q.constants

pub finding_no_value : (place : List VarId) (args : List TermId) (g : Sig) (p : PoolContents) (columns : List VarId) → AreConstants g p.constants → IsFinding place args g p columns 0 g p []
finding_no_value place args g p columns k = record { values = no_first_term; grown = grown_itself g; kept = extends_itself p.trees; constants = k; constants_kept = constants_kept p.constants }

pub keeps_then : (ks ms ns : List (SortId × FunId)) → KeepsConstants ks ms → KeepsConstants ms ns → KeepsConstants ks ns
keeps_then ks ms ns a b = (a.0 ++ b.0, b.1 ∙ ap (λ z. z ++ b.0) a.1 ∙ append_assoc ks a.0 b.0)

pub finding_one_value : (place : List VarId) (args : List TermId) (g : Sig) (p : PoolContents) (columns : List VarId) (i : ℕ) (h : Sig) (q : PoolContents) (firsts : List TermId) (d : VarId) → IsFinding place args g p columns i h q firsts → i < length columns
    → (k : Sig) (r : PoolContents) (t : TermId) → IsFirstTerm place args h q (get_or columns i d) k r t → IsGrown h k → Extends q.trees r.trees → AreConstants k r.constants → KeepsConstants q.constants r.constants
    → IsFinding place args g p columns (i + 1) k r (firsts ++ t ∷ [])
finding_one_value place args g p columns i h q firsts d s l k r t n w e c m = record {
  values = subst (λ z. AreFirstTerms place args g p z k r (firsts ++ t ∷ [])) (sym (take_more columns i d l)) (one_more_first_term s.values n);
  grown = growth_after_growth_is_growth g h k s.grown w;
  kept = extends_on p.trees q.trees r.trees s.kept e;
  constants = c;
  constants_kept = keeps_then p.constants q.constants r.constants s.constants_kept m;
}

pub inhabited_as : (g : Sig) (c : VarId) (s : SortId) → IsVariable g c → HasValue g (sort_of_variable g c) → IfSome (slice_get g.variables c.0) (λ (v : Variable). v.sort ≡ s) → HasValue g s
inhabited_as g c s l k is = subst (λ r. HasValue g r) (sort_is g c s l is) k

pub closed_made : (place : List VarId) (args : List TermId) (c : VarId) (h : Sig) (q : PoolContents) (k : Sig) (r : PoolContents) (t : TermId) (s : SortId) → IsVariable h c → IfSome (slice_get h.variables c.0) (λ (v : Variable). v.sort ≡ s) → argument_of place args c ≡ None
    → (v : ConstructorValue) × IsFirstValue h s v → ((v : ConstructorValue) → IsFirstValue h s v → tree_at r.trees t ≡ tree_with (constant_of r.constants) v)
    → ((v : ConstructorValue) → IsFirstValue h s v → DeclaresConstants (sorts_in_need h q.constants v) h q.constants k r.constants) → IsIn r.trees t → HasTreeSort k (tree_at r.trees t) s → IsGrown h k → Extends q.trees r.trees
    → IsFirstTerm place args h q c k r t
closed_made place args c h q k r t s l is none_there has first declared within sorted w x =
    a_closed_term none_there (subst (λ z. IsClosedTerm h q z k r t) (sym (sort_is h c s l is))
    (record { value = has.0; first = has.1; tree = first has.0 has.1; declared = declared has.0 has.1; stands = record { within = within; sorted = sorted }; grown = w; kept = x }))

pub inhabited_kept : (g h : Sig) (columns : List VarId) (i : ℕ) (d : VarId) → IsGrown g h → i < length columns → All (IsVariable g) columns → All (λ c. HasValue g (sort_of_variable g c)) columns → HasValue h (sort_of_variable h (get_or columns i d))
inhabited_kept g h columns i d w l vs k =
    let c = get_or columns i d in
    inhabited_sorts_stay_inhabited g h w (sort_of_variable h c) (subst (λ s. HasValue g s) (sym (sort_kept g h c w (vs i d l))) (k i d l))
