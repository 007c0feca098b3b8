-- Sorts get the constructors that `cons` declares into them, one sort after the other.
use Rattle.std.proofs.Common.{◌≡◌, ◌<◌, ◌+◌, ◌⊎◌, inl, inr, ℕ, zero, suc, Bool, true, false, List, [], ◌∷◌, length, refl, ap, sym, ◌∙◌, subst, arith}
use Rattle.std.specs.Prelude.{Some, IfSome, slice_get}
use Rattle.std.specs.List.{All, Contains}
use Rattle.std.proofs.lemmas.List.Elements.{All-contains}
use Rattle.std.proofs.lemmas.Option.{same_Some, slice_get_within}
use Rattle.std.proofs.lemmas.Bool.{cases_eq}
use Rattle.std.specs.Global.{Vec}
use Rattle.graphs.specs.Graphs.{successors}
use Rattle.data_theory.specs.declared.ids.SortId.{SortId}
use Rattle.data_theory.specs.declared.ids.FunId.{FunId}
use Rattle.data_theory.specs.Sorts.{SortInfo, Kind, booleans, positives, naturals, integers, lists_over, without_constructors, by_declarations, structured, with_kind, IsBare}
use Rattle.data_theory.specs.Functions.{Function}
use Rattle.data_theory.specs.IdData.{constructors_of}
use Rattle.data_theory.specs.IdRoles.{constructs, projects, recognises, HasNoRole, declared_number}
use Rattle.data_theory.specs.IdTables.{IsTable}
use Rattle.data_theory.specs.Places.{HaveOnePlace}
use Rattle.data_theory.specs.Declarations.{constructor, projection, recogniser}
use Rattle.data_theory.specs.Signature.{Sig, with_constructors}
use Rattle.data_theory.proofs.ListSortLemmas.{kind_elsewhere, kind_there}
use Rattle.data_theory.proofs.IdTableLemmas.{as_many_after}
use Rattle.data_theory.proofs.PlaceLemmas.{read_contained, contains_read}
use Rattle.sort_table.specs.Vocabularies.{EachPair}
use Rattle.sort_table.specs.ConstructorMarks.{ArePlaces, is_bare_kind, IsPlainAt, IsConsAt, IsConsOf, IsGiven, has_others, has_none, has_these, GivesConstructors, GivesBelow, GivesOne, no_places, other_kind, gives, AreAt}
use Rattle.sort_table.proofs.Growing.{near_or_far}
use Rattle.sort_table.proofs.NewFunctions.{pair_at, each_place}
use Rattle.sort_table.proofs.ListedFunctions.{one_listed}
use Rattle.data_theory.proofs.IdSortLemmas.{read_within}

pub none_given : (marks : List Bool) (g : Sig) → GivesBelow marks 0 g g
none_given marks g = record { same = refl; long = refl; given = λ s t u l. absurd (omega (arith, l)); rest = λ s l. refl }

-- a function is that of a place
of_place : {A B : Type 0} (Q : A → B → Type 0) (xs : List A) (ys : List B) (y : B) → EachPair Q xs ys → Contains ys y → (x : A) × Contains xs x × Q x y
of_place Q xs ys y all c =
    let r = read_contained ys y c in
    let p = pair_at Q xs ys r.0 y all r.1 in
    (p.0, contains_read xs r.0 p.0 p.1, p.2)

pub pair_along : {A B : Type 0} (Q : A → B → Type 0) (xs : List A) (ys : List B) (i : ℕ) (x : A) → EachPair Q xs ys → slice_get xs i ≡ Some x → (y : B) × (slice_get ys i ≡ Some y) × Q x y
pair_along Q [] [] i x all at = cc
pair_along Q (z ∷ xs) (y ∷ ys) zero x all at = (y, refl, subst (λ w. Q w y) (same_Some z x at) all.0)
pair_along Q (z ∷ xs) (y ∷ ys) (suc i) x all at = pair_along Q xs ys i x all.1 at
pair_along Q [] (y ∷ ys) i x all at = absurd all
pair_along Q (z ∷ xs) [] i x all at = absurd all

at_place : {A B : Type 0} (Q : A → B → Type 0) (xs : List A) (ys : List B) (x : A) → EachPair Q xs ys → Contains xs x → (y : B) × Contains ys y × Q x y
at_place Q xs ys x all c =
    let r = read_contained xs x c in
    let p = pair_along Q xs ys r.0 x all r.1 in
    (p.0, contains_read ys r.0 p.0 p.1, p.2)

pub bare_or_not : (k : Kind) → (k ≡ without_constructors) ⊎ (¬ (k ≡ without_constructors))
bare_or_not booleans = inr (λ e. cc)
bare_or_not positives = inr (λ e. cc)
bare_or_not naturals = inr (λ e. cc)
bare_or_not integers = inr (λ e. cc)
bare_or_not (lists_over x) = inr (λ e. cc)
bare_or_not without_constructors = inl refl
bare_or_not (by_declarations fs) = inr (λ e. cc)
bare_or_not (structured fs) = inr (λ e. cc)

-- the places are those that are marked for the sort
pub record AreMarkedFor (g : Sig) (marks : List Bool) (s : SortId) (ps : List ℕ) : Type 0 where
  pub all : (p : ℕ) (i : FunId) → IsConsAt g marks s p i → Contains ps p
  pub only : (p : ℕ) → Contains ps p → (i : FunId) × IsConsAt g marks s p i

-- those in the row of a sort
pub row_marked : (g : Sig) (marks : List Bool) (table : List (Vec ℕ)) (s : SortId) (ps : List ℕ) → ArePlaces g marks (length marks) table → successors table s.0 ≡ ps → AreMarkedFor g marks s ps
row_marked g marks table s ps are row = record {
  all = λ p i is. subst (λ l. Contains l p) row (are.all s p i (slice_get_within marks p true is.marked) is);
  only = λ p c. (are.only s p (subst (λ l. Contains l p) (sym row) c)).1;
}

module _ (marks : List Bool) (g h k : Sig) (s : SortId) (ps : List ℕ) (below : GivesBelow marks s.0 g h) (marked : AreMarkedFor g marks s ps) where
  -- at the sort itself
  here : (t : SortInfo) → slice_get g.sorts s.0 ≡ Some t → slice_get h.sorts s.0 ≡ Some t
  here t at = below.rest s (omega arith) ∙ at

  no_cons : ps ≡ [] → (i : FunId) → ¬ (IsConsOf g marks s i)
  no_cons none i (p, is) = let c = subst (λ l. Contains l p) none (marked.all p i is) in let low = c.1 in omega (arith, low)

  abbrev Step : Sig → Type 0
  Step x = GivesBelow marks (s.0 + 1) g x

  -- nothing changes
  unchanged : ((t : SortInfo) → slice_get g.sorts s.0 ≡ Some t → IsGiven g marks s t t) → Step h
  unchanged at_this = record {
    same = below.same;
    long = below.long;
    given = λ r t u l a b. elim (cases_eq r.0 s.0) [
      | inl e ↦
          let at : slice_get g.sorts s.0 ≡ Some t = ap (slice_get g.sorts) (sym e) ∙ a in
          let one : t ≡ u = same_Some t u (sym (here t at) ∙ (ap (slice_get h.sorts) (sym e) ∙ b)) in
          subst (IsGiven g marks r t) one (subst (λ x. IsGiven g marks x t t) (ap (λ (n : ℕ). record { 0 = n }) (sym e)) (at_this t at))
      | inr other ↦ below.given r t u (omega (arith, l, other)) a b
    ];
    rest = λ r l. below.rest r (omega (arith, l));
  }

  same_declared : h.declared ≡ g.declared
  same_declared = ap (λ (x : Sig). x.declared) below.same

  gives_these : (fs : List FunId) → ¬ (ps ≡ []) → IsBare h.sorts s → AreAt h ps fs → Step (with_constructors h s fs)
  gives_these fs some bare are = record {
    same = ap (λ (x : Sig). record x { sorts = with_kind h.sorts s.0 (by_declarations fs) }) below.same;
    long = as_many_after h.sorts s.0 (by_declarations fs) ∙ below.long;
    given = λ r t u l a b. elim (cases_eq r.0 s.0) [
      | inl e ↦
          let at : slice_get g.sorts s.0 ≡ Some t = ap (slice_get g.sorts) (sym e) ∙ a in
          let now = kind_there h.sorts s.0 (by_declarations fs) t (here t at) in
          let one : record t { kind = by_declarations fs } ≡ u = same_Some (record t { kind = by_declarations fs }) u (sym now ∙ (ap (slice_get (with_kind h.sorts s.0 (by_declarations fs))) (sym e) ∙ b)) in
          subst (IsGiven g marks r t) one (subst (λ x. IsGiven g marks x t (record t { kind = by_declarations fs })) (ap (λ (n : ℕ). record { 0 = n }) (sym e)) (has_these fs (kind_bare t at) only all (a_function ps some are).0 (a_function ps some are).1))
      | inr other ↦ below.given r t u (omega (arith, l, other)) a (sym (kind_elsewhere h.sorts s.0 (by_declarations fs) r.0 other) ∙ b)
    ];
    rest = λ r l. kind_elsewhere h.sorts s.0 (by_declarations fs) r.0 (λ e. omega (arith, e, l)) ∙ below.rest r (omega (arith, l));
  }
    where
      kind_bare : (t : SortInfo) → slice_get g.sorts s.0 ≡ Some t → t.kind ≡ without_constructors
      kind_bare t at = ap (λ (x : SortInfo). x.kind) (same_Some t bare.0 (sym (here t at) ∙ bare.1)) ∙ bare.2

      only : (i : FunId) → Contains fs i → IsConsOf g marks s i
      only i c =
          let p = of_place (λ q j. slice_get h.declared q ≡ Some j) ps fs i are c in
          let m = marked.only p.0 p.1 in
          let one : m.0 ≡ i = same_Some m.0 i (sym m.1.there ∙ (ap (λ ds. slice_get ds p.0) (sym same_declared) ∙ p.2)) in
          (p.0, subst (λ j. IsConsAt g marks s p.0 j) one m.1)

      all : (i : FunId) → IsConsOf g marks s i → Contains fs i
      all i (p, is) =
          let q = at_place (λ q j. slice_get h.declared q ≡ Some j) ps fs p are (marked.all p i is) in
          let one : q.0 ≡ i = same_Some q.0 i (sym q.2 ∙ (ap (λ ds. slice_get ds p) same_declared ∙ is.there)) in
          subst (Contains fs) one q.1

      a_function : (qs : List ℕ) → ¬ (qs ≡ []) → AreAt h qs fs → (i : FunId) × Contains fs i
      a_function [] never along = absurd (never refl)
      a_function (q ∷ qs) never along = let r = at_place (λ x j. slice_get h.declared x ≡ Some j) (q ∷ qs) fs q along (zero, omega arith, refl) in (r.0, r.1)

  pub one_given : GivesOne s ps h k → Step k
  one_given gave = by_case k gave
    where
      by_case : (x : Sig) → GivesOne s ps h x → Step x
      by_case _ (no_places none) = unchanged (λ t at. elim (bare_or_not t.kind) [ inl bare ↦ has_none bare (no_cons none) | inr other ↦ has_others other ])
      by_case _ (other_kind t at other) = unchanged (λ u there. has_others (λ e. other (ap (λ (x : SortInfo). x.kind) (same_Some t u (sym at ∙ here u there)) ∙ e)))
      by_case _ (gives fs some bare are) = gives_these fs some bare are

pub all_given : (marks : List Bool) (n : ℕ) (g h : Sig) → n ≡ length g.sorts → GivesBelow marks n g h → GivesConstructors marks g h
all_given marks n g h is below = record {
  same = below.same;
  long = below.long;
  given = λ s t u a b. (let low = slice_get_within g.sorts s.0 t a in below.given s t u (omega (arith, low, is)) a b);
}

-- ---- what is asked of one sort
pub bare_told : (g : Sig) (s : SortId) (b : Bool) → s.0 < length g.sorts → b ≡ true → IfSome (slice_get g.sorts s.0) (λ (t : SortInfo). b ≡ is_bare_kind t.kind) → IsBare g.sorts s
bare_told g s b low is told =
    let t = read_within g.sorts s.0 low in
    (t.0, t.1, by_kind t.0.kind (sym is ∙ subst (λ o. IfSome o (λ (x : SortInfo). b ≡ is_bare_kind x.kind)) t.1 told))
  where
    by_kind : (k : Kind) → true ≡ is_bare_kind k → k ≡ without_constructors
    by_kind booleans e = let never : true ≡ false = e in cc
    by_kind positives e = let never : true ≡ false = e in cc
    by_kind naturals e = let never : true ≡ false = e in cc
    by_kind integers e = let never : true ≡ false = e in cc
    by_kind (lists_over x) e = let never : true ≡ false = e in cc
    by_kind without_constructors e = refl
    by_kind (by_declarations fs) e = let never : true ≡ false = e in cc
    by_kind (structured fs) e = let never : true ≡ false = e in cc

pub other_told : (g : Sig) (s : SortId) (ps : List ℕ) (b : Bool) → s.0 < length g.sorts → b ≡ false → IfSome (slice_get g.sorts s.0) (λ (t : SortInfo). b ≡ is_bare_kind t.kind) → GivesOne s ps g g
other_told g s ps b low is told =
    let t = read_within g.sorts s.0 low in
    let other : false ≡ is_bare_kind t.0.kind = sym is ∙ subst (λ o. IfSome o (λ (x : SortInfo). b ≡ is_bare_kind x.kind)) t.1 told in
    other_kind t.0 t.1 (λ e. (let never : false ≡ true = other ∙ ap is_bare_kind e in cc))

pub no_places_told : (g : Sig) (s : SortId) (ps : List ℕ) → length ps ≡ 0 → GivesOne s ps g g
no_places_told g s [] none = no_places refl
no_places_told g s (p ∷ ps) none = absurd (omega (arith, none))

pub some_places : (ps : List ℕ) → ¬ (length ps ≡ 0) → ¬ (ps ≡ [])
some_places ps some none = some (ap length none)

module _ (g : Sig) (s : SortId) (ps : List ℕ) (plain : All (IsPlainAt g s) ps) where
  at_each : (i p : ℕ) → slice_get ps i ≡ Some p → IsPlainAt g s p
  at_each i p at = All-contains (IsPlainAt g s) ps p plain (contains_read ps i p at)

  pub all_within : All (λ (p : ℕ). p < length g.declared) ps
  all_within = each_place (λ (p : ℕ). p < length g.declared) ps (λ i p at. (let q = at_each i p at in slice_get_within g.declared p q.function q.there))

  module _ (fs : List FunId) (are : AreAt g ps fs) where
    -- each function with its place
    pub at_place_of : (j : ℕ) (i : FunId) → slice_get fs j ≡ Some i → (p : ℕ) × (slice_get ps j ≡ Some p) × (slice_get g.declared p ≡ Some i) × (IsPlainAt g s p)
    at_place_of j i at = (let p = pair_at (λ q x. slice_get g.declared q ≡ Some x) ps fs j i are at in (p.0, p.1, p.2, at_each j p.0 p.1))

    pub all_declared : All (Contains g.declared) fs
    all_declared = each_place (Contains g.declared) fs (λ j i at. (let p = at_place_of j i at in contains_read g.declared p.0 i p.2))

    plain_entry : (j : ℕ) (i : FunId) → slice_get fs j ≡ Some i → (f : Function) × (slice_get g.functions i.0 ≡ Some f) × (f.result ≡ s) × HasNoRole g i
    plain_entry j i at =
        let p = at_place_of j i at in
        let one : p.3.function ≡ i = same_Some p.3.function i (sym p.3.there ∙ p.2) in
        (p.3.entry, ap (λ (x : FunId). slice_get g.functions x.0) (sym one) ∙ p.3.at, p.3.result, subst (HasNoRole g) one p.3.free)

    pub all_results : All (λ (i : FunId). IfSome (slice_get g.functions i.0) (λ (f : Function). f.result ≡ s)) fs
    all_results = each_place (λ (i : FunId). IfSome (slice_get g.functions i.0) (λ (f : Function). f.result ≡ s)) fs (λ j i at. (let f = plain_entry j i at in subst (λ o. IfSome o (λ (x : Function). x.result ≡ s)) (sym f.1) f.2))

    pub all_free : All (HasNoRole g) fs
    all_free = each_place (HasNoRole g) fs (λ j i at. (plain_entry j i at).3)

    pub all_different : IsTable g → HaveOnePlace ps → HaveOnePlace fs
    all_different table once a b i x y =
        let p = at_place_of a i x in
        let q = at_place_of b i y in
        let one : p.0 ≡ q.0 = one_listed g table p.0 q.0 i p.2 q.2 in
        once a b q.0 (p.1 ∙ ap Some one) q.1

-- ---- the sort whose turn it is
pub next_plain : (marks : List Bool) (g h : Sig) (s : SortId) (ps : List ℕ) → IsTable g → GivesBelow marks s.0 g h → ((p : ℕ) (i : FunId) → IsConsAt g marks s p i → HasNoRole g i) → ((p : ℕ) → Contains ps p → (i : FunId) × IsConsAt g marks s p i)
    → All (IsPlainAt h s) ps
next_plain marks g h s ps table below free only = each_place (IsPlainAt h s) ps (λ j p at. plain p (only p (contains_read ps j p at)))
  where
    functions : h.functions ≡ g.functions
    functions = ap (λ (x : Sig). x.functions) below.same

    -- what another sort got isn't one of this sort
    still_free : (p : ℕ) (i : FunId) → IsConsAt g marks s p i → HasNoRole h i
    still_free p i is r (constructs q w at c) = elim (near_or_far q.0 s.0) [
      | inl low ↦
          let long = below.long in
          let here = slice_get_within h.sorts q.0 w at in
          let t = read_within g.sorts q.0 (omega (arith, here, long)) in
          of_given q t.0 w t.1 c low (below.given q t.0 w low t.1 at)
      | inr high ↦ free p i is constructor (constructs q w (sym (below.rest q high) ∙ at) c)
    ]
      where
        of_given : (q : SortId) (t w : SortInfo) → slice_get g.sorts q.0 ≡ Some t → Contains (constructors_of w.kind) i → q.0 < s.0 → IsGiven g marks q t w → ⊥
        of_given q t _ place d low (has_others other) = free p i is constructor (constructs q t place d)
        of_given q t _ place d low (has_none bare none) = free p i is constructor (constructs q t place d)
        of_given q t _ place d low (has_these fs bare these all j e) =
            let other = these i d in
            let entry = same_Some other.1.entry is.entry (sym other.1.at ∙ is.at) in
            let sort : q ≡ s = sym other.1.result ∙ (ap (λ (x : Function). x.result) entry ∙ is.result) in
            let same = ap (λ (x : SortId). x.0) sort in
            omega (arith, same, low)
    still_free p i is _ (projects c f k at q) = free p i is (projection (declared_number g.functions c) k) (projects c f k (ap (λ xs. slice_get xs c.0) (sym functions) ∙ at) q)
    still_free p i is _ (recognises c f at t) = free p i is (recogniser (declared_number g.functions c)) (recognises c f (ap (λ xs. slice_get xs c.0) (sym functions) ∙ at) t)

    plain : (p : ℕ) → (i : FunId) × IsConsAt g marks s p i → IsPlainAt h s p
    plain p (i, is) = record {
      function = i;
      there = ap (λ (x : Sig). slice_get x.declared p) below.same ∙ is.there;
      entry = is.entry;
      at = ap (λ xs. slice_get xs i.0) functions ∙ is.at;
      result = is.result;
      free = still_free p i is;
    }
