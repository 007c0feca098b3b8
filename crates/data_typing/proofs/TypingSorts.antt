-- Inferred and checked terms have their sorts.
use Rattle.std.proofs.Common.{◌≡◌, ◌<◌, ℕ, zero, suc, cond, List, [], ◌∷◌, ◌++◌, refl, sym, subst, ap, ◌∙◌, arith}
use Rattle.std.specs.Prelude.{◌^◌, Option, Some, None, option_map, option_and_then, option_to_list, is_some, pos}
use Rattle.std.specs.Option.{option_or}
use Rattle.std.specs.List.{AllByRecursion}
use Rattle.std.proofs.lemmas.Option.{none-some, same_Some, option_and_then_some}
use Rattle.std.proofs.lemmas.Int.{ints}
use Rattle.data_theory.specs.Terms.{Sort, boolean, positive, natural, integer, list, named, Symbol, upcast, empty, cons, function, Term, Terms, apply}
use Rattle.data_theory.specs.Terms as terms
use Rattle.data_theory.specs.Declarations.{Data, Declares, IsSort, IsSymbol, pos2nat, nat2int, pos2int, argument_sorts, result_sort, HasSort, HaveSorts}
use Rattle.data_theory.proofs.EnvironmentLemmas.{applications_have_sorts}
use Rattle.sort_table.specs.Expressions.{Name, Expression, Expressions, numeral, listed, word, none, more}
use Rattle.data_typing.specs.Typings.{sort_eq, upcast_to, fits, wider, widest_from, widest, Inferred, Typing, embedded, flexible, exactly, checked, all_at, Signature, applied, first_exact, first_fitting, first_of, Place, itself, elements, settled, over, read_off, Scheme, scheme_at, candidates, first_candidate, by_result, Meaning, bound, functions, call_infers, call_by_sort, word_typing, list_of, list_by_sort, list_infers, least_sort, typing, typings}
use Rattle.data_typing.specs.TypingLaws.{EachPartOf, HasSmallNumerals}
use Rattle.data_typing.proofs.Options.{one_or_other, mapped, chosen, first_there}
use Rattle.data_typing.proofs.SortTests.{sorts_told}

-- a typing whose terms have their sorts
pub record IsSound (g : Data) (vs : List Sort) (t : Typing) : Type 0 where
  pub infers : (i : Inferred) → t.infers ≡ Some i → IsSort g i.sort × HasSort g vs i.term i.sort
  pub checks : (s : Sort) (u : Term) → IsSort g s → t.checks s ≡ Some u → HasSort g vs u s

abbrev pub AreSound : Data → List Sort → List Typing → Type 0
AreSound g vs = AllByRecursion (IsSound g vs)

-- a signature whose symbol has these sorts
pub record IsSoundSignature (g : Data) (f : Signature) : Type 0 where
  pub symbol : IsSymbol g f.symbol
  pub arguments : f.arguments ≡ argument_sorts g f.symbol
  pub result : f.result ≡ result_sort g f.symbol
  pub argument_sorts_are : AllByRecursion (IsSort g) f.arguments
  pub result_is : IsSort g f.result

abbrev pub IsSoundScheme : Data → Scheme → Type 0
IsSoundScheme g c = (s : Sort) → IsSort g s → IsSoundSignature g (scheme_at c s)

abbrev pub IsSoundMeaning : Data → List Sort → Meaning → Type 0
IsSoundMeaning g vs (bound v s) = Declares vs v s × IsSort g s
IsSoundMeaning g vs (functions fs c) = AllByRecursion (IsSoundSignature g) fs × ((k : Scheme) → c ≡ Some k → IsSoundScheme g k)

-- ---- upcasts
upcasts_have_sorts : (g : Data) (vs : List Sort) (s to : Sort) (f : Symbol) (t : Term) → upcast_to s to ≡ Some f → HasSort g vs t s → HasSort g vs (apply f (terms.more t terms.none)) to
upcasts_have_sorts g vs positive natural f t e h = subst (λ k. HasSort g vs (apply k (terms.more t terms.none)) natural) (same_Some _ _ e) (applications_have_sorts g vs (upcast positive natural) (terms.more t terms.none) pos2nat (h, tt))
upcasts_have_sorts g vs natural integer f t e h = subst (λ k. HasSort g vs (apply k (terms.more t terms.none)) integer) (same_Some _ _ e) (applications_have_sorts g vs (upcast natural integer) (terms.more t terms.none) nat2int (h, tt))
upcasts_have_sorts g vs positive integer f t e h = subst (λ k. HasSort g vs (apply k (terms.more t terms.none)) integer) (same_Some _ _ e) (applications_have_sorts g vs (upcast positive integer) (terms.more t terms.none) pos2int (h, tt))
upcasts_have_sorts g vs _ _ f t e h = absurd (none-some f e)

embedded_has_sort : (g : Data) (vs : List Sort) (s : Sort) (i : Inferred) (u : Term) → HasSort g vs i.term i.sort → embedded s i ≡ Some u → HasSort g vs u s
embedded_has_sort g vs s i u h e =
    chosen (sort_eq i.sort s) (Some i.term) (option_map (λ f. apply f (terms.more i.term terms.none)) (upcast_to i.sort s)) u e
    (λ q w. subst (λ t. HasSort g vs t s) (same_Some _ _ w) (subst (λ r. HasSort g vs i.term r) (sorts_told i.sort s q) h))
    (λ q w. mapped (λ f. apply f (terms.more i.term terms.none)) (upcast_to i.sort s) u w (λ f there is. subst (λ t. HasSort g vs t s) is (upcasts_have_sorts g vs i.sort s f i.term there h)))

pub flexible_is_sound : (g : Data) (vs : List Sort) (by : Sort → Option Term) (o : Option Inferred)
    → ((i : Inferred) → o ≡ Some i → IsSort g i.sort × HasSort g vs i.term i.sort) → ((s : Sort) (u : Term) → IsSort g s → by s ≡ Some u → HasSort g vs u s)
    → IsSound g vs (flexible by o)
flexible_is_sound g vs by o h k = record {
  infers = h;
  checks = λ s u is e. one_or_other (by s) (option_and_then (embedded s) o) u e (k s u is) (λ w. option_and_then_some (embedded s) o u w (λ i there q. embedded_has_sort g vs s i u (h i there).1 q));
}

-- ---- arguments
exact_has_sort : (g : Data) (vs : List Sort) (s : Sort) (t : Typing) (u : Term) → IsSound g vs t → IsSort g s → exactly s t ≡ Some u → HasSort g vs u s
exact_has_sort g vs s t u h is e =
    option_and_then_some (λ i. cond (sort_eq i.sort s) (Some i.term) None) t.infers u e
    (λ i there w. chosen (sort_eq i.sort s) (Some i.term) None u w
    (λ q v. subst (λ x. HasSort g vs x s) (same_Some _ _ v) (subst (λ r. HasSort g vs i.term r) (sorts_told i.sort s q) (h.infers i there).1))
    (λ q v. absurd (none-some u v)))

checked_has_sort : (g : Data) (vs : List Sort) (s : Sort) (t : Typing) (u : Term) → IsSound g vs t → IsSort g s → checked s t ≡ Some u → HasSort g vs u s
checked_has_sort g vs s t u h is e = h.checks s u is e

-- a way to a term at a sort gives terms of that sort
abbrev pub GivesSorts : Data → List Sort → (Sort → Typing → Option Term) → Type 0
GivesSorts g vs how = (s : Sort) (t : Typing) (u : Term) → IsSound g vs t → IsSort g s → how s t ≡ Some u → HasSort g vs u s

all_have_sorts : (g : Data) (vs : List Sort) (how : Sort → Typing → Option Term) → GivesSorts g vs how
    → (ss : List Sort) (ts : List Typing) (us : Terms) → AllByRecursion (IsSort g) ss → AreSound g vs ts → all_at how ss ts ≡ Some us → HaveSorts g vs us ss
all_have_sorts g vs how gives [] [] us is h e = subst (λ x. HaveSorts g vs x []) (same_Some _ _ e) tt
all_have_sorts g vs how gives (s ∷ ss) (t ∷ ts) us is h e =
    option_and_then_some (λ u. option_map (terms.more u) (all_at how ss ts)) (how s t) us e
    (λ u first w. mapped (terms.more u) (all_at how ss ts) us w
    (λ rest others q. subst (λ x. HaveSorts g vs x (s ∷ ss)) q (gives s t u h.0 is.0 first, all_have_sorts g vs how gives ss ts rest is.1 h.1 others)))
all_have_sorts g vs how gives [] (t ∷ ts) us is h e = absurd (none-some us e)
all_have_sorts g vs how gives (s ∷ ss) [] us is h e = absurd (none-some us e)

abbrev pub HasItsSort : Data → List Sort → Inferred → Type 0
HasItsSort g vs i = IsSort g i.sort × HasSort g vs i.term i.sort

applied_has_sort : (g : Data) (vs : List Sort) (how : Sort → Typing → Option Term) → GivesSorts g vs how
    → (ts : List Typing) → AreSound g vs ts → (f : Signature) → IsSoundSignature g f → (i : Inferred) → applied how ts f ≡ Some i → HasItsSort g vs i
applied_has_sort g vs how gives ts h f is i e =
    mapped (λ us. record { term = apply f.symbol us; sort = f.result }) (all_at how f.arguments ts) i e
    (λ us there q. subst (HasItsSort g vs) q (
      is.result_is,
      subst (HasSort g vs (apply f.symbol us)) (sym is.result)
          (applications_have_sorts g vs f.symbol us is.symbol (subst (HaveSorts g vs us) is.arguments (all_have_sorts g vs how gives f.arguments ts us is.argument_sorts_are h there))),
    ))

first_applied_has_sort : (g : Data) (vs : List Sort) (how : Sort → Typing → Option Term) → GivesSorts g vs how
    → (ts : List Typing) → AreSound g vs ts → (fs : List Signature) → AllByRecursion (IsSoundSignature g) fs → (i : Inferred) → first_of (applied how ts) fs ≡ Some i → HasItsSort g vs i
first_applied_has_sort g vs how gives ts h fs all i e = first_there (IsSoundSignature g) (applied how ts) fs i all e (λ f is w. applied_has_sort g vs how gives ts h f is i w)

-- ---- schemes
read_off_is_sort : (g : Data) (s : Sort) (p : Place) (r : Sort) → IsSort g s → read_off s p ≡ Some r → IsSort g r
read_off_is_sort g s itself r h e = subst (IsSort g) (same_Some _ _ e) h
read_off_is_sort g (list s) elements r h e = subst (IsSort g) (same_Some _ _ e) h
read_off_is_sort g _ elements r h e = absurd (none-some r e)
read_off_is_sort g _ (settled _) r h e = absurd (none-some r e)

some_are_sorts : (g : Data) (o : Option Sort) (ss : List Sort) → ((s : Sort) → o ≡ Some s → IsSort g s) → AllByRecursion (IsSort g) ss → AllByRecursion (IsSort g) (option_to_list o ++ ss)
some_are_sorts g None ss h all = all
some_are_sorts g (Some s) ss h all = (h s refl, all)

candidates_are_sorts : (g : Data) (vs : List Sort) (ps : List Place) (ts : List Typing) → AreSound g vs ts → AllByRecursion (IsSort g) (candidates ps ts)
candidates_are_sorts g vs (p ∷ ps) (t ∷ ts) h =
    some_are_sorts g (option_and_then (λ i. read_off i.sort p) t.infers) (candidates ps ts)
    (λ s e. option_and_then_some (λ (i : Inferred). read_off i.sort p) t.infers s e (λ i there w. read_off_is_sort g i.sort p s (h.0.infers i there).0 w))
    (candidates_are_sorts g vs ps ts h.1)
candidates_are_sorts g vs [] ts h = tt
candidates_are_sorts g vs (p ∷ ps) [] h = tt

first_candidate_has_sort : (g : Data) (vs : List Sort) (ts : List Typing) → AreSound g vs ts → (c : Scheme) → IsSoundScheme g c → (i : Inferred) → first_candidate ts c ≡ Some i → HasItsSort g vs i
first_candidate_has_sort g vs ts h c is i e =
    first_there (IsSort g) (λ s. applied checked ts (scheme_at c s)) (candidates c.arguments ts) i (candidates_are_sorts g vs c.arguments ts h) e
    (λ s so w. applied_has_sort g vs checked (checked_has_sort g vs) ts h (scheme_at c s) (is s so) i w)

read_off_is_over : (s : Sort) (p : Place) (r : Sort) → read_off s p ≡ Some r → over r p ≡ s
read_off_is_over s itself r e = sym (same_Some _ _ e)
read_off_is_over (list s) elements r e = ap list (sym (same_Some _ _ e))
read_off_is_over _ elements r e = absurd (none-some r e)
read_off_is_over _ (settled _) r e = absurd (none-some r e)

applied_at_result : (how : Sort → Typing → Option Term) (ts : List Typing) (f : Signature) (i : Inferred) → applied how ts f ≡ Some i → f.result ≡ i.sort
applied_at_result how ts f i e = mapped (λ us. record { term = apply f.symbol us; sort = f.result }) (all_at how f.arguments ts) i e (λ us there q. ap (λ (j : Inferred). j.sort) q)

by_result_has_sort : (g : Data) (vs : List Sort) (ts : List Typing) → AreSound g vs ts → (c : Scheme) → IsSoundScheme g c → (s : Sort) (u : Term) → IsSort g s → by_result ts c s ≡ Some u → HasSort g vs u s
by_result_has_sort g vs ts h c is s u so e =
    chosen c.by_result (option_and_then (λ r. option_map (λ (i : Inferred). i.term) (applied checked ts (scheme_at c r))) (read_off s c.result)) None u e
    (λ q w. option_and_then_some (λ r. option_map (λ (i : Inferred). i.term) (applied checked ts (scheme_at c r))) (read_off s c.result) u w
    (λ r off v. mapped (λ (i : Inferred). i.term) (applied checked ts (scheme_at c r)) u v
    (λ i there same.
    let has : HasSort g vs i.term i.sort = (applied_has_sort g vs checked (checked_has_sort g vs) ts h (scheme_at c r) (is r (read_off_is_sort g s c.result r so off)) i there).1 in
    let at : i.sort ≡ s = sym (applied_at_result checked ts (scheme_at c r) i there) ∙ read_off_is_over s c.result r off in
    subst (λ x. HasSort g vs x s) same (subst (HasSort g vs i.term) at has))))
    (λ q w. absurd (none-some u w))

-- ---- words
word_is_sound : (g : Data) (vs : List Sort) (m : Meaning) → IsSoundMeaning g vs m → (ts : List Typing) → AreSound g vs ts → IsSound g vs (word_typing m ts)
word_is_sound g vs (bound v s) is [] h =
    flexible_is_sound g vs (λ r. None) (Some (record { term = terms.variable v; sort = s }))
    (λ i e. subst (HasItsSort g vs) (same_Some _ _ e) (is.1, is.0))
    (λ r u so e. absurd (none-some u e))
word_is_sound g vs (bound v s) is (t ∷ ts) h = record { infers = λ i e. absurd (none-some i e); checks = λ r u so e. absurd (none-some u e) }
word_is_sound g vs (functions fs c) is ts h =
    flexible_is_sound g vs (call_by_sort fs c ts) (call_infers fs c ts)
    (λ i e. one_or_other (first_exact ts fs) (option_or (option_and_then (first_candidate ts) c) (first_fitting ts fs)) i e
    (first_applied_has_sort g vs exactly (exact_has_sort g vs) ts h fs is.0 i)
    (λ w. one_or_other (option_and_then (first_candidate ts) c) (first_fitting ts fs) i w
    (λ v. option_and_then_some (first_candidate ts) c i v (λ k there q. first_candidate_has_sort g vs ts h k (is.1 k there) i q))
    (first_applied_has_sort g vs checked (checked_has_sort g vs) ts h fs is.0 i)))
    (λ s u so e. chosen (is_some (first_exact ts fs)) None (option_and_then (λ (k : Scheme). by_result ts k s) c) u e
    (λ q w. absurd (none-some u w))
    (λ q w. option_and_then_some (λ (k : Scheme). by_result ts k s) c u w (λ k there v. by_result_has_sort g vs ts h k (is.1 k there) s u so v)))

-- ---- lists
list_has_sort : (g : Data) (vs : List Sort) (ts : List Typing) → AreSound g vs ts → (s : Sort) (u : Term) → IsSort g s → list_of ts s ≡ Some u → HasSort g vs u (list s)
list_has_sort g vs [] h s u so e = subst (λ x. HasSort g vs x (list s)) (same_Some _ _ e) (applications_have_sorts g vs (empty s) terms.none so tt)
list_has_sort g vs (t ∷ ts) h s u so e =
    option_and_then_some (λ x. option_map (λ xs. apply (cons s) (terms.more x (terms.more xs terms.none))) (list_of ts s)) (t.checks s) u e
    (λ x first w. mapped (λ xs. apply (cons s) (terms.more x (terms.more xs terms.none))) (list_of ts s) u w
    (λ xs rest q. subst (λ y. HasSort g vs y (list s)) q
    (applications_have_sorts g vs (cons s) (terms.more x (terms.more xs terms.none)) so (h.0.checks s x so first, (list_has_sort g vs ts h.1 s xs so rest, tt)))))

wider_is_sort : (g : Data) (s r to : Sort) → IsSort g s → IsSort g r → wider s r ≡ Some to → IsSort g to
wider_is_sort g s r to a b e =
    chosen (fits s r) (Some r) (cond (fits r s) (Some s) None) to e
    (λ q w. subst (IsSort g) (same_Some _ _ w) b)
    (λ q w. chosen (fits r s) (Some s) None to w (λ p v. subst (IsSort g) (same_Some _ _ v) a) (λ p v. absurd (none-some to v)))

widest_from_is_sort : (g : Data) (vs : List Sort) (s : Sort) (ts : List Typing) (to : Sort) → IsSort g s → AreSound g vs ts → widest_from s ts ≡ Some to → IsSort g to
widest_from_is_sort g vs s [] to so h e = subst (IsSort g) (same_Some _ _ e) so
widest_from_is_sort g vs s (t ∷ ts) to so h e =
    option_and_then_some (λ (i : Inferred). option_and_then (λ r. widest_from r ts) (wider s i.sort)) t.infers to e
    (λ i there w. option_and_then_some (λ r. widest_from r ts) (wider s i.sort) to w
    (λ r wide v. widest_from_is_sort g vs r ts to (wider_is_sort g s i.sort r so (h.0.infers i there).0 wide) h.1 v))

widest_is_sort : (g : Data) (vs : List Sort) (ts : List Typing) (to : Sort) → AreSound g vs ts → widest ts ≡ Some to → IsSort g to
widest_is_sort g vs [] to h e = absurd (none-some to e)
widest_is_sort g vs (t ∷ ts) to h e = option_and_then_some (λ (i : Inferred). widest_from i.sort ts) t.infers to e (λ i there w. widest_from_is_sort g vs i.sort ts to (h.0.infers i there).0 h.1 w)

listed_is_sound : (g : Data) (vs : List Sort) (ts : List Typing) → AreSound g vs ts → IsSound g vs (flexible (list_by_sort ts) (list_infers ts))
listed_is_sound g vs ts h =
    flexible_is_sound g vs (list_by_sort ts) (list_infers ts)
    (λ i e. option_and_then_some (λ s. option_map (λ t. record { term = t; sort = list s }) (list_of ts s)) (widest ts) i e
    (λ s there w. mapped (λ t. record { term = t; sort = list s }) (list_of ts s) i w
    (λ t made q. let so : IsSort g s = widest_is_sort g vs ts s h there in subst (HasItsSort g vs) q (so, list_has_sort g vs ts h s t so made))))
    (λ s u so e. option_and_then_some (list_of ts) (read_off s elements) u e
    (λ r off w. subst (HasSort g vs u) (read_off_is_over s elements r off) (list_has_sort g vs ts h r u (read_off_is_sort g s elements r so off) w)))

-- ---- expressions
numeral_has_sort : (g : Data) (vs : List Sort) (n : ℕ) → n < 2 ^ 128 → HasItsSort g vs (record { term = terms.numeral (least_sort n) (pos n); sort = least_sort n })
numeral_has_sort g vs zero small = (tt, (refl, (omega (arith, ints), small)))
numeral_has_sort g vs (suc n) small = (tt, (refl, (omega (arith, ints), small)))

mutual
  pub typing_is_sound : (g : Data) (vs : List Sort) (m : Name → Meaning) → ((f : Name) → IsSoundMeaning g vs (m f)) → (e : Expression) → HasSmallNumerals e → IsSound g vs (typing m e)
  typing_is_sound g vs m is (numeral n) small =
      flexible_is_sound g vs (λ r. None) (Some (record { term = terms.numeral (least_sort n) (pos n); sort = least_sort n }))
      (λ i e. subst (HasItsSort g vs) (same_Some _ _ e) (numeral_has_sort g vs n small))
      (λ r u so e. absurd (none-some u e))
  typing_is_sound g vs m is (listed es) small = listed_is_sound g vs (typings m es) (typings_are_sound g vs m is es small)
  typing_is_sound g vs m is (word f es) small = word_is_sound g vs (m f) (is f) (typings m es) (typings_are_sound g vs m is es small.1)

  pub typings_are_sound : (g : Data) (vs : List Sort) (m : Name → Meaning) → ((f : Name) → IsSoundMeaning g vs (m f)) → (es : Expressions) → EachPartOf (λ f. Unit {0}) (λ n. n < 2 ^ 128) es → AreSound g vs (typings m es)
  typings_are_sound g vs m is none small = tt
  typings_are_sound g vs m is (more e es) small = (typing_is_sound g vs m is e small.0, typings_are_sound g vs m is es small.1)
