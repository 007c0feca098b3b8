-- A call is elaborated as its plan says.
use Rattle.std.proofs.Common.{◌≡◌, ℕ, suc, Bool, true, false, cond, List, [], ◌∷◌, ◌++◌, map, refl, sym, subst, ap, ◌∙◌}
use Rattle.std.specs.Prelude.{Option, Some, None, is_some, option_map, option_and_then, option_to_list, slice_get}
use Rattle.std.specs.Option.{option_or}
use Rattle.data_theory.specs.Terms.{Sort, Term, apply}
use Rattle.data_typing.specs.Typings.{Inferred, Typing, exactly, checked, all_at, Signature, applied, first_exact, first_fitting, first_of, Place, over, read_off, Scheme, scheme_at, candidates, first_candidate}
use Rattle.data_typing.specs.Sortings.{Sorting, Profile, AnyProfile, profile, any_profile, all_same, all_check, all_check_over}
use Rattle.data_typing.specs.Plans.{Plan, exact, fitting, over_sort, planned, place_where, sort_where_all_check, sort_by, first_sort, TellAll, CallsGoByPlan}
use Rattle.data_typing.proofs.SortsFirst.{all_same_told, all_check_told, first_behind, sort_in}

-- a choice is there exactly where its outcome is, and gives it
pub record Gives {X : Type 0} (P : X → Option Inferred) (q : Option X) (o : Option Inferred) : Type 0 where
  pub value : o ≡ option_and_then P q
  pub there : is_some q ≡ is_some o

gives_or : {X : Type 0} (P : X → Option Inferred) (q r : Option X) (o p : Option Inferred) → Gives P q o → Gives P r p → Gives P (option_or q r) (option_or o p)
gives_or P None r None p h k = k
gives_or P None r (Some i) p h k = let never : false ≡ true = h.there in cc
gives_or P (Some x) r None p h k = let never : true ≡ false = h.there in cc
gives_or P (Some x) r (Some i) p h k = h

gives_by : {X Y : Type 0} (P : Y → Option Inferred) (f : X → Y) (q : Option X) (o : Option Inferred) → Gives (λ x. P (f x)) q o → Gives P (option_map f q) o
gives_by P f None o h = record { value = h.value; there = h.there }
gives_by P f (Some x) o h = record { value = h.value; there = h.there }

still : {A B : Type 0} (f : A → B) (o : Option A) → is_some o ≡ is_some (option_map f o)
still f None = refl
still f (Some x) = refl

-- ---- fixed sorts
first_or_later : {A : Type 0} (F : A → Option Inferred) (f : A) (fs : List A) (b : Bool) → b ≡ is_some (F f) → (q : Option ℕ)
    → Gives (λ k. option_and_then F (slice_get fs k)) q (first_of F fs) → Gives (λ k. option_and_then F (slice_get (f ∷ fs) k)) (cond b (Some 0) (option_map suc q)) (first_of F (f ∷ fs))
first_or_later F f fs b e q h = by_outcome (F f) refl b e
  where
    later : (o : Option ℕ) → Gives (λ k. option_and_then F (slice_get fs k)) o (first_of F fs) → Gives (λ k. option_and_then F (slice_get (f ∷ fs) k)) (option_map suc o) (first_of F fs)
    later None w = record { value = w.value; there = w.there }
    later (Some k) w = record { value = w.value; there = w.there }

    by_outcome : (o : Option Inferred) → F f ≡ o → (c : Bool) → c ≡ is_some o → Gives (λ k. option_and_then F (slice_get (f ∷ fs) k)) (cond c (Some 0) (option_map suc q)) (option_or o (first_of F fs))
    by_outcome None is true w = cc
    by_outcome None is false w = later q h
    by_outcome (Some i) is true w = record { value = sym is; there = refl }
    by_outcome (Some i) is false w = cc

fixed_gives : (how : Sort → Typing → Option Term) (test : Profile → Bool) (ts : List Typing) → ((f : Signature) → test (profile f) ≡ is_some (all_at how f.arguments ts)) → (fs : List Signature)
    → Gives (λ k. option_and_then (applied how ts) (slice_get fs k)) (place_where test (map profile fs)) (first_of (applied how ts) fs)
fixed_gives how test ts k [] = record { value = refl; there = refl }
fixed_gives how test ts k (f ∷ fs) =
    first_or_later (applied how ts) f fs (test (profile f)) (k f ∙ still (λ us. record { term = apply f.symbol us; sort = f.result }) (all_at how f.arguments ts))
    (place_where test (map profile fs)) (fixed_gives how test ts k fs)

-- ---- over any sort
if_there : (F : Sort → Option Inferred) (r : Sort) (b : Bool) → b ≡ is_some (F r) → Gives F (cond b (Some r) None) (F r)
if_there F r true e = record { value = refl; there = e }
if_there F r false e = by_outcome (F r) e
  where
    by_outcome : (o : Option Inferred) → false ≡ is_some o → Gives F None o
    by_outcome None q = record { value = refl; there = refl }
    by_outcome (Some i) q = cc

one_gives : (F : Sort → Option Inferred) (W : Sort → Option Sort) → ((r : Sort) → Gives F (W r) (F r)) → (o : Option Sort) → Gives F (option_and_then W o) (option_and_then F o)
one_gives F W k None = record { value = refl; there = refl }
one_gives F W k (Some r) = k r

by_told : (W : Sort → Option Sort) (p : Place) (o : Option Inferred) → option_and_then (λ s. option_and_then W (read_off s p)) (sort_in o) ≡ option_and_then W (option_and_then (λ i. read_off i.sort p) o)
by_told W p None = refl
by_told W p (Some i) = refl

scheme_gives : (all : List Sorting) (ws : List Typing) → TellAll all ws → (c : Scheme) (ps : List Place) (ss : List Sorting) (ts : List Typing) → TellAll ss ts
    → Gives (λ s. applied checked ws (scheme_at c s)) (first_sort all (any_profile c) ps ss) (first_of (λ s. applied checked ws (scheme_at c s)) (candidates ps ts))
scheme_gives all ws k c (p ∷ ps) (s ∷ ss) (t ∷ ts) h =
    let F : Sort → Option Inferred = λ r. applied checked ws (scheme_at c r) in
    let W : Sort → Option Sort = sort_where_all_check all (any_profile c) in
    let o : Option Sort = option_and_then (λ i. read_off i.sort p) t.infers in
    let each : (r : Sort) → Gives F (W r) (F r) = λ r. if_there F r (all_check_over c.arguments all r)
    (all_check_told (map (over r) c.arguments) all ws k ∙ still (λ us. record { term = apply (c.symbol r) us; sort = over r c.result }) (all_at checked (map (over r) c.arguments) ws)) in
    let same : sort_by all (any_profile c) p s ≡ option_and_then W o = ap (option_and_then (λ r. option_and_then W (read_off r p))) h.0.infers ∙ by_told W p t.infers in
    let rest : Gives F (first_sort all (any_profile c) ps ss) (first_of F (candidates ps ts)) = scheme_gives all ws k c ps ss ts h.1 in
    subst (λ x. Gives F (option_or x (first_sort all (any_profile c) ps ss)) (first_of F (option_to_list o ++ candidates ps ts))) (sym same)
    (subst (Gives F (option_or (option_and_then W o) (first_sort all (any_profile c) ps ss))) (sym (first_behind F o (candidates ps ts)))
    (gives_or F (option_and_then W o) (first_sort all (any_profile c) ps ss) (option_and_then F o) (first_of F (candidates ps ts)) (one_gives F W each o) rest))
scheme_gives all ws k c (p ∷ ps) [] [] h = record { value = refl; there = refl }
scheme_gives all ws k c [] [] [] h = record { value = refl; there = refl }
scheme_gives all ws k c [] (s ∷ ss) (t ∷ ts) h = record { value = refl; there = refl }
scheme_gives all ws k c ps [] (t ∷ ts) h = absurd h
scheme_gives all ws k c ps (s ∷ ss) [] h = absurd h

any_gives : (fs : List Signature) (c : Option Scheme) (ss : List Sorting) (ts : List Typing) → TellAll ss ts
    → Gives (planned fs c ts) (option_map over_sort (option_and_then (λ (k : AnyProfile). first_sort ss k k.arguments ss) (option_map any_profile c))) (option_and_then (first_candidate ts) c)
any_gives fs None ss ts h = record { value = refl; there = refl }
any_gives fs (Some c) ss ts h = gives_by (planned fs (Some c) ts) over_sort (first_sort ss (any_profile c) c.arguments ss) (first_candidate ts c) (scheme_gives ss ts h c c.arguments ss ts h)

pub calls_go_by_plan : CallsGoByPlan
calls_go_by_plan fs c ss ts h =
    let P : Plan → Option Inferred = planned fs c ts in
    let same : Option ℕ = place_where (λ (f : Profile). all_same f.arguments ss) (map profile fs) in
    let check : Option ℕ = place_where (λ (f : Profile). all_check f.arguments ss) (map profile fs) in
    let told : Option Sort = option_and_then (λ (k : AnyProfile). first_sort ss k k.arguments ss) (option_map any_profile c) in
    (gives_or P (option_map exact same) (option_or (option_map over_sort told) (option_map fitting check)) (first_exact ts fs) (option_or (option_and_then (first_candidate ts) c) (first_fitting ts fs))
    (gives_by P exact same (first_exact ts fs) (fixed_gives exactly (λ f. all_same f.arguments ss) ts (λ f. all_same_told f.arguments ss ts h) fs))
    (gives_or P (option_map over_sort told) (option_map fitting check) (option_and_then (first_candidate ts) c) (first_fitting ts fs)
    (any_gives fs c ss ts h)
    (gives_by P fitting check (first_fitting ts fs) (fixed_gives checked (λ f. all_check f.arguments ss) ts (λ f. all_check_told f.arguments ss ts h) fs)))).value
