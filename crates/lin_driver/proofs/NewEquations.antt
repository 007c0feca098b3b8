-- Equations under new numbers of sorts and functions: instances of the one are instances of the other.
use Rattle.std.proofs.Common.{◌≡◌, ◌⊎◌, inl, inr, ⊎_elim, ℕ, zero, suc, List, [], ◌∷◌, ◌++◌, map, refl, sym, ap, ap₂, ◌∙◌, subst}
use Rattle.std.specs.Prelude.{Option, Some, None, option_map, slice_get}
use Rattle.std.specs.List.{Contains, AllByRecursion}
use Rattle.std.proofs.lemmas.Option.{none-some, same_Some}
use Rattle.std.proofs.lemmas.List.Elements.{Contains-append_left, Contains-append_right, Contains-append_cases}
use Rattle.data_theory.specs.Terms.{Sort, boolean, truth, Symbol, Term, Terms, variable, apply, put, put_all, variables_of, variables_of_all}
use Rattle.data_theory.specs.Terms as terms
use Rattle.data_theory.specs.Declarations.{Data, Declares, HasSort}
use Rattle.data_theory.specs.Environments.{Environment, term_in, bound}
use Rattle.data_theory.specs.Provable.{Equation, variables_of_equation, IsClosedInstance}
use Rattle.data_theory.proofs.EnvironmentLemmas.{put-apply, contains_first, contains_cases, contains_nothing, one_sort}
use Rattle.data_theory.proofs.PlaceLemmas.{contains_read, read_contained}
use Rattle.process_terms.specs.Processes as processes
use Rattle.sort_table.specs.Expressions.{Expression}
use Rattle.sort_table.specs.BareProcesses.{Variables}
use Rattle.sort_table.specs.Vocabularies.{EachPair}
use Rattle.data_typing.specs.Typings.{Inferred, Typing}
use Rattle.data_typing.specs.Meanings.{Scope, typing_in}
use Rattle.sort_checker.specs.FullVocabularies.{FullVocabulary}
use Rattle.sort_checker.specs.Scopes.{Binds, binds_none, binds_more}
use Rattle.sort_checker.specs.PartTypings.{left_side, condition_at}
use Rattle.sort_checker.specs.Elaborations.{WrittenEquation, ElaboratesEquation}
use Rattle.sort_checker.specs.ScopeLaws.{Both, both}
use Rattle.sort_checker.proofs.RelatedTypings.{AllRelated, related_none, related_more, map_both, then_both, or_both}
use Rattle.sort_checker.proofs.EquationNumbers.{of_applied}
use Rattle.lin_driver.specs.Renumberings.{Renumbering, new_sort, new_symbol, new_term, new_terms, TakesVocabulary}
use Rattle.lin_driver.proofs.NewTerms.{new_apply, new_long}
use Rattle.lin_driver.proofs.NewDerivations.{IsMoved, AreMoved}
use Rattle.lin_driver.proofs.SameSorts.{met}
use Rattle.lin_driver.proofs.NewTypings.{KeepsNew, NewInferred, NewTypings, NewScopes, scopes_none, scopes_more, typed_new}
use Rattle.lin_driver.proofs.NewElaborations.{bound_sort, vars_of, binds_apart, Reads, first_read, rest_read, bounds_long, reads_bound}

-- with terms put in, the one is the other under the new numbers, and each variable of the second one goes with one of the first
pub record AreMovedTerms (r : Renumbering) (d e : ℕ → Term) (P : ℕ → ℕ → Type 0) (t u : Term) : Type 0 where
  pub put_in : new_term r (put d t) ≡ put e u
  pub variables : (l : ℕ) → Contains (variables_of u) l → (n : ℕ) × Contains (variables_of t) n × P n l

module _ (r : Renumbering) (d e : ℕ → Term) (P : ℕ → ℕ → Type 0) where
  all_put : {ts us : Terms} → AllRelated (AreMovedTerms r d e P) ts us → new_terms r (put_all d ts) ≡ put_all e us
  all_put related_none = refl
  all_put (related_more h hs) = ap₂ terms.more h.put_in (all_put hs)

  all_variables : {ts us : Terms} → AllRelated (AreMovedTerms r d e P) ts us → (l : ℕ) → Contains (variables_of_all us) l → (n : ℕ) × Contains (variables_of_all ts) n × P n l
  all_variables related_none l c = absurd (contains_nothing l c)
  all_variables (related_more {t = t} {u = u} {ts = ts} {us = us} h hs) l c =
      either (all_variables hs l) (Contains-append_cases (variables_of u) (variables_of_all us) l c)
    where
      either : (Contains (variables_of_all us) l → (n : ℕ) × Contains (variables_of_all ts) n × P n l) → Contains (variables_of u) l ⊎ Contains (variables_of_all us) l → (n : ℕ) × Contains (variables_of t ++ variables_of_all ts) n × P n l
      either rest (inl c) = let x = h.variables l c in (x.0, Contains-append_left (variables_of t) (variables_of_all ts) x.0 x.1, x.2)
      either rest (inr c) = let x = rest c in (x.0, Contains-append_right (variables_of t) (variables_of_all ts) x.0 x.1, x.2)

  keeps : KeepsNew r (AreMovedTerms r d e P)
  keeps = record {
    numerals = λ s z. record { put_in = refl; variables = λ l c. absurd (contains_nothing l c) };
    applications = λ f ts us h. record {
      put_in = ap (new_term r) (put-apply d f ts) ∙ new_apply r f (put_all d ts) ∙ ap (apply (new_symbol r f)) (all_put h) ∙ sym (put-apply e (new_symbol r f) us);
      variables = λ l c. (
          let x = all_variables h l (subst (λ (ns : List ℕ). Contains ns l) (of_applied (new_symbol r f) us) c) in
          (x.0, subst (λ (ns : List ℕ). Contains ns x.0) (sym (of_applied f ts)) x.1, x.2)
          );
    };
  }

-- what a number in scope and its number under the other vocabulary have in common
pub record GoWith (r : Renumbering) (q p : Equation) (d e : ℕ → Term) (n l : ℕ) : Type 0 where
  pub sort : Sort
  pub first : Contains (variables_of_equation q) n → Declares q.sorts n sort
  pub second : Contains (variables_of_equation p) l → Declares p.sorts l (new_sort r sort)
  pub term : new_term r (d n) ≡ e l

module _ (r : Renumbering) (v w : FullVocabulary) (takes : TakesVocabulary r v.declared w.declared) (q p : Equation) (d : ℕ → Term) (k : Environment) where
  abbrev e : ℕ → Term
  e = term_in k

  abbrev Moved : Term → Term → Type 0
  Moved = AreMovedTerms r d e (GoWith r q p d e)

  abbrev IsSorted : Equation → processes.Bound → Type 0
  IsSorted z x = Contains (variables_of_equation z) x.var → Declares z.sorts x.var x.sort

  variables_new : {one other inner deeper : Scope} {xs : Variables} {bs cs : List processes.Bound} → Binds v.declared one xs inner bs → Binds w.declared other xs deeper cs
      → AllByRecursion (IsSorted q) bs → AllByRecursion (IsSorted p) cs → Reads k (vars_of cs) (map (λ n. new_term r (d n)) (vars_of bs)) → NewScopes r Moved one other → NewScopes r Moved inner deeper
  variables_new binds_none binds_none a b reads h = h
  variables_new (binds_more {n = n} {s = s} {e = y} {bs = bs} se fr ds) (binds_more {n = l} {s = z} {bs = cs} te gr ds') a b reads h =
      let sort : new_sort r s ≡ z = bound_sort r v.declared w.declared takes y s z se te in
      let term : e l ≡ new_term r (d n) = first_read (e l) (map (put e) (map variable (vars_of cs))) (map (λ m. new_term r (d m)) (vars_of bs)) (new_term r (d n)) reads in
      let with_it : GoWith r q p d e n l = record { sort = s; first = a.0; second = λ c. subst (λ (x : Sort). Declares p.sorts l x) (sym sort) (b.0 c); term = sym term } in
      variables_new ds ds' a.1 b.1 (rest_read (e l) (map (put e) (map variable (vars_of cs))) (map (λ m. new_term r (d m)) (vars_of bs)) (new_term r (d n)) reads)
      (scopes_more sort (record { put_in = sym term; variables = λ m c. ⊎_elim (λ same. (n, contains_first n [], subst (GoWith r q p d e n) same with_it)) (λ c. absurd (contains_nothing m c)) (contains_cases l m [] c) }) h)

  left_new : {l x m y : Typing} → NewTypings r Moved l m → NewTypings r Moved x y → Both (NewInferred r Moved) (left_side l x) (left_side m y)
  left_new {l = l} {m = m} a b =
      or_both a.infers (then_both (λ (i : Inferred). option_map (λ (t : Term). record { term = t; sort = i.sort }) (l.checks i.sort)) (λ (i : Inferred). option_map (λ (t : Term). record { term = t; sort = i.sort }) (m.checks i.sort)) b.infers
      (λ i j h. map_both (λ (t : Term). record { term = t; sort = i.sort }) (λ (t : Term). record { term = t; sort = j.sort }) (a.checks i.sort j.sort h.sort) (λ t u c. record { sort = h.sort; term = c })))

  condition_new : (one other : Scope) → ((x : Expression) → NewTypings r Moved (typing_in v.declared one x) (typing_in w.declared other x)) → (c : Option Expression) → Both Moved (condition_at v.declared one c) (condition_at w.declared other c)
  condition_new one other h None = both ((keeps r d e (GoWith r q p d e)).applications truth terms.none terms.none related_none)
  condition_new one other h (Some x) = (h x).checks boolean boolean refl

  -- ---- an instance
  module _ (g h : Data) (closed : IsClosedInstance g q d) (into : (n : ℕ) (s : Sort) → HasSort g [] (d n) s → HasSort h [] (new_term r (d n)) (new_sort r s)) where
    closed_at : (n l : ℕ) → Contains (variables_of_equation q) n → Contains (variables_of_equation p) l → GoWith r q p d e n l → (s : Sort) × Declares p.sorts l s × HasSort h [] (e l) s
    closed_at n l c i with_it =
        let x = closed n c in
        let same : x.0 ≡ with_it.sort = one_sort q.sorts n x.0 with_it.sort x.1 (with_it.first c) in
        (new_sort r with_it.sort, with_it.second i, subst (λ (t : Term). HasSort h [] t (new_sort r with_it.sort)) with_it.term (into n with_it.sort (subst (HasSort g [] (d n)) same x.2)))

    closed_new : Moved q.condition p.condition → Moved q.left p.left → Moved q.right p.right → IsClosedInstance h p e
    closed_new c x y l i = by_part (Contains-append_cases (variables_of p.condition) (variables_of p.left ++ variables_of p.right) l i)
      where
        by_side : Contains (variables_of p.left) l ⊎ Contains (variables_of p.right) l → (s : Sort) × Declares p.sorts l s × HasSort h [] (e l) s
        by_side (inl j) = let z = x.variables l j in closed_at z.0 l (Contains-append_right (variables_of q.condition) (variables_of q.left ++ variables_of q.right) z.0 (Contains-append_left (variables_of q.left) (variables_of q.right) z.0 z.1)) i z.2
        by_side (inr j) = let z = y.variables l j in closed_at z.0 l (Contains-append_right (variables_of q.condition) (variables_of q.left ++ variables_of q.right) z.0 (Contains-append_right (variables_of q.left) (variables_of q.right) z.0 z.1)) i z.2

        by_part : Contains (variables_of p.condition) l ⊎ Contains (variables_of p.left ++ variables_of p.right) l → (s : Sort) × Declares p.sorts l s × HasSort h [] (e l) s
        by_part (inl j) = let z = c.variables l j in closed_at z.0 l (Contains-append_left (variables_of q.condition) (variables_of q.left ++ variables_of q.right) z.0 z.1) i z.2
        by_part (inr j) = by_side (Contains-append_cases (variables_of p.left) (variables_of p.right) l j)

-- over data with the sorts and functions of both vocabularies, and maybe more, whose closed terms have their sorts under the new numbers
module _ (r : Renumbering) (v w : FullVocabulary) (takes : TakesVocabulary r v.declared w.declared) (g h : Data) (into : (t : Term) (s : Sort) → HasSort g [] t s → HasSort h [] (new_term r t) (new_sort r s)) where
  equation_new : (x : WrittenEquation) (q p : Equation) → ElaboratesEquation v x q → ElaboratesEquation w x p → (others : List Equation) → Contains others p → (d : ℕ → Term) → IsClosedInstance g q d → IsMoved r h others q d
  equation_new x q p a b others among d closed =
      let ts : List Term = map (λ n. new_term r (d n)) (vars_of a.bounds) in
      let k : Environment = bound (vars_of b.bounds) ts in
      let P : ℕ → ℕ → Type 0 = GoWith r q p d (term_in k) in
      let reads : Reads k (vars_of b.bounds) ts = reads_bound (vars_of b.bounds) ts (new_long (λ n. new_term r (d n)) (vars_of a.bounds) ∙ bounds_long a.binds b.binds) (binds_apart b.binds).0 in
      let scopes : NewScopes r (AreMovedTerms r d (term_in k) P) a.scope b.scope = variables_new r v w takes q p d k a.binds b.binds a.sorts b.sorts reads scopes_none in
      let typed : (y : Expression) → NewTypings r (AreMovedTerms r d (term_in k) P) (typing_in v.declared a.scope y) (typing_in w.declared b.scope y)
      = typed_new r (AreMovedTerms r d (term_in k) P) (keeps r d (term_in k) P) v.declared w.declared takes a.scope b.scope scopes in
      let left : NewInferred r (AreMovedTerms r d (term_in k) P) (record { term = q.left; sort = a.sort }) (record { term = p.left; sort = b.sort }) = met (left_new r v w takes q p d k (typed x.left) (typed x.right)) a.left b.left in
      let right : AreMovedTerms r d (term_in k) P q.right p.right = met ((typed x.right).checks a.sort b.sort left.sort) a.right b.right in
      let condition : AreMovedTerms r d (term_in k) P q.condition p.condition = met (condition_new r v w takes q p d k a.scope b.scope typed x.condition) a.condition b.condition in
      record {
        equation = p;
        terms = term_in k;
        among = among;
        closed = closed_new r v w takes q p d k g h closed (λ n s i. into (d n) s i) condition left.term right;
        condition = condition.put_in;
        left = left.term.put_in;
        right = right.put_in;
      }

  equations_at : (xs : List WrittenEquation) (own others : List Equation) → EachPair (ElaboratesEquation v) xs own → EachPair (ElaboratesEquation w) xs others → (i : ℕ) (q : Equation) → slice_get own i ≡ Some q
      → (x : WrittenEquation) × (p : Equation) × ElaboratesEquation v x q × ElaboratesEquation w x p × (slice_get others i ≡ Some p)
  equations_at xs [] others a b i q at = absurd (none-some q at)
  equations_at [] (y ∷ own) others a b i q at = absurd a
  equations_at (x ∷ xs) (y ∷ own) [] a b i q at = absurd b
  equations_at (x ∷ xs) (y ∷ own) (z ∷ others) a b zero q at = (x, z, subst (ElaboratesEquation v x) (same_Some y q at) a.0, b.0, refl)
  equations_at (x ∷ xs) (y ∷ own) (z ∷ others) a b (suc i) q at = equations_at xs own others a.1 b.1 i q at

  pub equations_moved : (xs : List WrittenEquation) (own others : List Equation) → EachPair (ElaboratesEquation v) xs own → EachPair (ElaboratesEquation w) xs others → AreMoved r g h own others
  equations_moved xs own others a b q d among closed =
      let i = read_contained own q among in
      let x = equations_at xs own others a b i.0 q i.1 in
      equation_new x.0 q x.1 x.2 x.3 others (contains_read others i.0 x.1 x.4) d closed
