-- The sorts to which constructors lead, collected one after the other.
use Rattle.std.proofs.Common.{◌≡◌, ◌==◌, ◌⊎◌, ⊎_elim, inl, inr, ◌<◌, ◌≤◌, ◌+◌, ◌++◌, ◌||◌, ℕ, zero, suc, Bool, true, false, cond, eqb, List, [], ◌∷◌, map, take, length, get_or, Option, Some, refl, sym, ap, ◌∙◌, subst, arith}
use Rattle.std.specs.Prelude.{slice_get, IfSome}
use Rattle.std.specs.List.{All, Contains, AllByRecursion, IsDistinct, list_any}
use Rattle.std.proofs.lemmas.List.{length-map, append_assoc, take_more}
use Rattle.std.proofs.lemmas.Map.Steps.{length-le_from_distinct_below}
use Rattle.std.proofs.lemmas.Bool.Decides.{Decides-eqb}
use Rattle.std.proofs.lemmas.Option.{slice_get_within}
use Rattle.std.proofs.lemmas.List.Elements.{All-contains, Contains-append_left, Contains-push, Contains-push_cases}
use Rattle.data_theory.specs.declared.ids.SortId.{SortId}
use Rattle.data_theory.specs.declared.ids.FunId.{FunId}
use Rattle.data_theory.specs.Functions.{Function, arguments_of}
use Rattle.data_theory.specs.Signature.{Sig}
use Rattle.data_theory.specs.Complete.{IsFunctionWithin}
use Rattle.data_theory.specs.WholeSignatures.{IsSignature}
use Rattle.data_theory.proofs.PlaceLemmas.{contains_read, read_contained}
use Rattle.term_pool.proofs.Lists.{contains_none, contains_cons, contains_head, contains_tail}
use Rattle.term_pool.proofs.FirstValueLemmas.{one_function}
use Rattle.term_pool.proofs.SortSearch.{among_contains}
use Rattle.term_pool.specs.ConstructorValues.{IsConstructorAt}
use Rattle.value_enum.specs.Values.{LeadsTo, itself, by_argument}
use Rattle.value_enum.specs.Shapes.{AreConstructors, IsArgumentIn, AddsArguments, AddsSorts, IsArgumentOf}
use Rattle.value_enum.proofs.RowLemmas.{entry_at}

-- ---- no more sorts than the signature has
any_below : (n : ℕ) (ss : List SortId) (q : ℕ) → ((s : SortId) → Contains ss s → s.0 < n) → list_any (eqb q) (map (λ (s : SortId). s.0) ss) ≡ true → q < n
any_below n [] q below e = cc
any_below n (s ∷ ss) q below e = by_test (eqb q s.0) refl (any_below n ss q (λ x has. below x (contains_tail s x ss has))) e
  where
    by_test : (b : Bool) → eqb q s.0 ≡ b → (list_any (eqb q) (map (λ (x : SortId). x.0) ss) ≡ true → q < n) → (b || list_any (eqb q) (map (λ (x : SortId). x.0) ss)) ≡ true → q < n
    by_test true same rest h = let equal = (Decides-eqb q s.0).0 same in let l = below s (contains_head s ss) in omega (arith, equal, l)
    by_test false same rest h = rest h

apart_numbers : (s : SortId) (ss : List SortId) → AllByRecursion (λ (y : SortId). (s.0 == y.0) ≡ false) ss → AllByRecursion (λ y. eqb s.0 y ≡ false) (map (λ (x : SortId). x.0) ss)
apart_numbers s [] h = tt
apart_numbers s (x ∷ ss) h = (h.0, apart_numbers s ss h.1)

distinct_numbers : (ss : List SortId) → IsDistinct (λ (x y : SortId). x.0 == y.0) ss → IsDistinct eqb (map (λ (s : SortId). s.0) ss)
unfolding IsDistinct
distinct_numbers [] h = tt
distinct_numbers (s ∷ ss) h = (apart_numbers s ss h.0, distinct_numbers ss h.1)

pub few_sorts : (n : ℕ) (ss : List SortId) → IsDistinct (λ (x y : SortId). x.0 == y.0) ss → ((s : SortId) → Contains ss s → s.0 < n) → length ss ≤ n
few_sorts n ss different below =
    let bound = length-le_from_distinct_below (map (λ (s : SortId). s.0) ss) n (distinct_numbers ss different) (λ q h. any_below n ss q below h) in
    let size = length-map ss (λ (s : SortId). s.0) in
    omega (arith, bound, size)

-- ---- adding sorts
pub adds_no_sorts : (old : List SortId) → AddsSorts [] old old
adds_no_sorts old = record { kept = ([], nothing_behind old); only = λ a has. inl has; all = λ a has. absurd (contains_none a has) }
  where
    nothing_behind : (xs : List SortId) → xs ≡ xs ++ []
    nothing_behind [] = refl
    nothing_behind (x ∷ xs) = ap (λ l. x ∷ l) (nothing_behind xs)

pub front_kept : (old mid new : List SortId) → (more : List SortId) × (mid ≡ old ++ more) → (more : List SortId) × (new ≡ mid ++ more) → (more : List SortId) × (new ≡ old ++ more)
front_kept old mid new p q = (p.0 ++ q.0, q.1 ∙ (ap (λ l. l ++ q.0) p.1 ∙ append_assoc old p.0 q.0))

pub still_there : (old new : List SortId) → (more : List SortId) × (new ≡ old ++ more) → (a : SortId) → Contains old a → Contains new a
still_there old new p a has = subst (λ l. Contains l a) (sym p.1) (Contains-append_left old p.0 a has)

-- one sort more, where it isn't there
pub adds_one_sort : (added : List SortId) (i : ℕ) (d : SortId) (old mid new : List SortId) → i < length added → new ≡ cond (list_any (λ (x : SortId). (get_or added i d).0 == x.0) mid) mid (mid ++ get_or added i d ∷ []) → AddsSorts (take i added) old mid → AddsSorts (take (i + 1) added) old new
adds_one_sort added i d old mid new l e p = subst (λ as'. AddsSorts as' old new) (sym (take_more added i d l)) (by_test (list_any (λ (x : SortId). a.0 == x.0) mid) refl e)
  where
    a : SortId
    a = get_or added i d

    by_test : (b : Bool) → list_any (λ (x : SortId). a.0 == x.0) mid ≡ b → new ≡ cond b mid (mid ++ a ∷ []) → AddsSorts (take i added ++ a ∷ []) old new
    by_test true there is = subst (AddsSorts (take i added ++ a ∷ []) old) (sym is) record {
      kept = p.kept;
      only = λ x has. ⊎_elim inl (λ m. inr (Contains-append_left (take i added) (a ∷ []) x m)) (p.only x has);
      all = λ x has. ⊎_elim (p.all x) (λ same. subst (Contains mid) same (among_contains a mid there)) (Contains-push_cases (take i added) a x has);
    }
    by_test false absent is = subst (AddsSorts (take i added ++ a ∷ []) old) (sym is) record {
      kept = front_kept old mid (mid ++ a ∷ []) p.kept (a ∷ [], refl);
      only = λ x has. ⊎_elim (λ m. ⊎_elim inl (λ k. inr (Contains-append_left (take i added) (a ∷ []) x k)) (p.only x m)) (λ same. inr (subst (Contains (take i added ++ a ∷ [])) same (Contains-push (take i added) a))) (Contains-push_cases mid a x has);
      all = λ x has. ⊎_elim (λ m. Contains-append_left mid (a ∷ []) x (p.all x m)) (λ same. subst (Contains (mid ++ a ∷ [])) same (Contains-push mid a)) (Contains-push_cases (take i added) a x has);
    }

-- ---- adding the sorts of arguments
pub adds_no_arguments : (g : Sig) (old : List SortId) → AddsArguments g [] old old
adds_no_arguments g old = record { kept = (adds_no_sorts old).kept; only = λ a has. inl has; all = λ a is. absurd (contains_none is.0 is.2) }

pub adds_arguments_of : (g : Sig) (fs : List FunId) (f : FunId) (args old mid new : List SortId) → IfSome (slice_get g.functions f.0) (λ e. arguments_of e ≡ args) → f.0 < length g.functions → AddsArguments g fs old mid → AddsSorts args mid new → AddsArguments g (fs ++ f ∷ []) old new
adds_arguments_of g fs f args old mid new told l p q = record {
  kept = front_kept old mid new p.kept q.kept;
  only = λ a has. ⊎_elim
      (λ m. ⊎_elim inl (λ is. inr (is.0, is.1, Contains-append_left fs (f ∷ []) is.0 is.2, is.3, is.4)) (p.only a m))
      (λ arg. inr (f, entry.0, Contains-push fs f, entry.1, subst (λ ss. Contains ss a) (sym same) arg))
      (q.only a has);
  all = λ a is. ⊎_elim
      (λ old_one. still_there mid new q.kept a (p.all a (is.0, is.1, old_one, is.3, is.4)))
      (λ equal. q.all a (subst (λ ss. Contains ss a) (ap arguments_of (one_function g f is.1 entry.0 (subst (λ (x : FunId). slice_get g.functions x.0 ≡ Some is.1) (sym equal) is.3) entry.1) ∙ same) is.4))
      (Contains-push_cases fs f is.0 is.2);
}
  where
    entry : (e : Function) × (slice_get g.functions f.0 ≡ Some e)
    entry = entry_at g.functions f.0 l

    same : arguments_of entry.0 ≡ args
    same = subst (λ (o : Option Function). IfSome o (λ e. arguments_of e ≡ args)) entry.1 told

-- ---- the search
pub record IsUnder (g : Sig) (top : SortId) (next : ℕ) (sorts : List SortId) : Type 0 where
  pub has : Contains sorts top
  pub led : (t : SortId) → Contains sorts t → LeadsTo g top t
  pub inside : (t : SortId) → Contains sorts t → t.0 < length g.sorts
  pub done : (k : ℕ) (t a : SortId) → k < next → slice_get sorts k ≡ Some t → IsArgumentOf g t a → Contains sorts a
  pub within : next ≤ length sorts

pub read_in_front : (xs more : List SortId) (k : ℕ) (t : SortId) → k < length xs → slice_get (xs ++ more) k ≡ Some t → slice_get xs k ≡ Some t
read_in_front [] more k t l e = absurd (omega (arith, l))
read_in_front (x ∷ xs) more zero t l e = e
read_in_front (x ∷ xs) more (suc k) t l e = read_in_front xs more k t (omega (arith, l)) e

longer_front : (xs more : List SortId) → length xs ≤ length (xs ++ more)
longer_front [] more = omega arith
longer_front (x ∷ xs) more = let l = longer_front xs more in omega (arith, l)

-- the sorts of arguments are among the signature's
abbrev pub HasSortsInside : Sig → Type 0
HasSortsInside g = (f : FunId) (e : Function) (a : SortId) → slice_get g.functions f.0 ≡ Some e → Contains (arguments_of e) a → a.0 < length g.sorts

pub under_more : (g : Sig) → HasSortsInside g → (top t : SortId) (next : ℕ) (sorts new : List SortId) (fs : List FunId) → slice_get sorts next ≡ Some t → AreConstructors g t fs → AddsArguments g fs sorts new → IsUnder g top next sorts → IsUnder g top (next + 1) new
under_more g inside top t next sorts new fs at cons added u = record {
  has = still_there sorts new added.kept top u.has;
  led = λ a has. ⊎_elim (u.led a) (λ is. leads a is) (added.only a has);
  inside = λ a has. ⊎_elim (u.inside a) (λ is. inside is.0 is.1 a is.3 is.4) (added.only a has);
  done = done;
  within = let l = slice_get_within sorts next t at in let m = subst (λ l. length sorts ≤ length l) (sym added.kept.1) (longer_front sorts added.kept.0) in omega (arith, l, m);
}
  where
    among : Contains sorts t
    among = contains_read sorts next t at

    leads : (a : SortId) → IsArgumentIn g fs a → LeadsTo g top a
    leads a is = let place = cons.each is.0 is.2 in by_argument place.0 is.0 is.1 (u.led t among) place.1 is.3 is.4

    less_or_here : (k n : ℕ) → k < n + 1 → (k < n) ⊎ (k ≡ n)
    less_or_here k n l = grind arith

    done : (k : ℕ) (r a : SortId) → k < next + 1 → slice_get new k ≡ Some r → IsArgumentOf g r a → Contains new a
    done k r a l here is =
        let size = slice_get_within sorts next t at in
        let old : slice_get sorts k ≡ Some r = read_in_front sorts added.kept.0 k r (omega (arith, l, size)) (subst (λ xs. slice_get xs k ≡ Some r) added.kept.1 here) in
        ⊎_elim
        (λ less. still_there sorts new added.kept a (u.done k r a less old is))
        (λ last. (
        let both : Some r ≡ Some t = sym (subst (λ n. slice_get sorts n ≡ Some r) last old) ∙ at in
        let same : r ≡ t = cc in
        added.all a (is.1, is.2, cons.all is.0 is.1 (subst (λ (x : SortId). IsConstructorAt g x is.0 is.1) same is.3), is.4, is.5)
        ))
        (less_or_here k next l)

pub all_under : (g : Sig) (top : SortId) (next : ℕ) (sorts : List SortId) → length sorts ≤ next → IsUnder g top next sorts → (t a : SortId) → Contains sorts t → IsArgumentOf g t a → Contains sorts a
all_under g top next sorts l u t a has is =
    let at = read_contained sorts t has in
    let m = slice_get_within sorts at.0 t at.1 in
    u.done at.0 t a (omega (arith, l, m)) at.1 is

pub under_first : (g : Sig) (top : SortId) (sorts : List SortId) → top.0 < length g.sorts → sorts ≡ top ∷ [] → IsUnder g top 0 sorts
under_first g top sorts l e = subst (IsUnder g top 0) (sym e) record {
  has = contains_head top [];
  led = λ t has. subst (LeadsTo g top) (only t has) itself;
  inside = λ t has. subst (λ (x : SortId). x.0 < length g.sorts) (only t has) l;
  done = λ k t a m. absurd (omega (arith, m));
  within = omega arith;
}
  where
    only : (t : SortId) → Contains (top ∷ []) t → top ≡ t
    only t has = ⊎_elim (λ e. e) (λ n. absurd (contains_none t n)) (contains_cons top t [] has)

-- the sorts of arguments are sorts of the signature
pub sorts_inside : (g : Sig) → IsSignature g → HasSortsInside g
sorts_inside g stands f e a at has = All-contains (λ (s : SortId). s.0 < length g.sorts) e.sorts a found (in_sorts e.is_list_constant has)
  where
    found : All (λ (s : SortId). s.0 < length g.sorts) e.sorts
    found = (All-contains (IsFunctionWithin (length g.texts) (length g.sorts) (length g.functions)) g.functions e stands.complete.within.functions_within (contains_read g.functions f.0 e at)).found

    in_sorts : (b : Bool) → Contains (cond b [] e.sorts) a → Contains e.sorts a
    in_sorts true h = absurd (contains_none a h)
    in_sorts false h = h
