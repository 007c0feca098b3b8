-- Combinations of the listed values, in the pool and as terms.
use Rattle.std.proofs.Common.{◌≡◌, List, [], ◌∷◌, ◌++◌, map, refl, sym, ap, ap₂, ◌∙◌, subst}
use Rattle.std.specs.Prelude.{Contains}
use Rattle.std.specs.List.{All, AllZip, flat_map}
use Rattle.std.proofs.lemmas.List.{map-append}
use Rattle.std.proofs.lemmas.List.Elements.{All-nil, All-cons, All-head, All-tail, Contains-append_right}
use Rattle.data_theory.specs.declared.ids.VarId.{VarId}
use Rattle.data_theory.specs.declared.ids.TermId.{TermId}
use Rattle.data_theory.specs.Terms.{Term}
use Rattle.data_theory.specs.Declarations.{HaveSorts}
use Rattle.data_theory.specs.Environments.{terms_of}
use Rattle.data_theory.specs.Signature.{Sig}
use Rattle.data_theory.specs.WholeSignatures.{IsSignature}
use Rattle.data_theory.specs.IdData.{data_meant}
use Rattle.data_theory.specs.IdTrees.{Tree}
use Rattle.data_theory.specs.IdTerms.{sort_under}
use Rattle.data_rewriter.specs.Standing.{IsTerm, term_at}
use Rattle.process_terms.specs.Meanings.{bound_at}
use Rattle.process_terms.specs.SignatureEntries.{entries_of}
use Rattle.bisim_laws.specs.LinearProcesses.{sorts}
use Rattle.bisim_laws.proofs.Firing.{contains_first}
use Rattle.lps_core.specs.Fitting.{IsVariable, sort_of_variable}
use Rattle.lps_core.proofs.Members.{In, here, there, in_each, in_map, contains_in}
use Rattle.lps_core.proofs.Staying.{sorts_of_variables}
use Rattle.lps_simulator.specs.Combinations.{combinations}
use Rattle.lps_simulator.specs.SumValues.{IsClosedTerm, AreListsFor}
use Rattle.lps_simulator.proofs.FittingSummands.{sorted_within}

-- closed terms of the variables' sorts, place by place
abbrev pub IsCombinationFor : Sig → List Tree → List VarId → List TermId → Type 0
IsCombinationFor g ts xs c = AllZip (λ (x : VarId) (id : TermId). IsClosedTerm g ts (sort_of_variable g x) id) xs c

combination_in : (g : Sig) (ts : List Tree) (xs : List VarId) (lists : List (List TermId)) (c : List TermId) → AreListsFor g ts xs lists → In c (combinations lists) → IsCombinationFor g ts xs c
combination_in g ts [] [] c h here = tt
combination_in g ts [] [] c h (there i) = elim i [ ]
combination_in g ts [] (ids ∷ lists) c h i = absurd h
combination_in g ts (x ∷ xs) [] c h i = absurd h
combination_in g ts (x ∷ xs) (ids ∷ lists) c h i =
    let first = in_each (λ id. map (λ (d : List TermId). id ∷ d) (combinations lists)) ids i in
    let rest = in_map (λ (d : List TermId). first.0 ∷ d) (combinations lists) first.2 in
    subst (IsCombinationFor g ts (x ∷ xs)) (sym rest.2) (
      among ids first.0 h.0 first.1,
      combination_in g ts xs lists rest.0 h.1 rest.1,
    )
  where
    among : (ids : List TermId) (id : TermId) → All (IsClosedTerm g ts (sort_of_variable g x)) ids → In id ids → IsClosedTerm g ts (sort_of_variable g x) id
    among [] id k j = elim j [ ]
    among (id ∷ ids) _ k here = All-head (IsClosedTerm g ts (sort_of_variable g x)) id ids k
    among (y ∷ ids) id k (there j) = among ids id (All-tail (IsClosedTerm g ts (sort_of_variable g x)) y ids k) j

pub combination_closed : (g : Sig) (ts : List Tree) (xs : List VarId) (lists : List (List TermId)) (c : List TermId) → AreListsFor g ts xs lists → Contains (combinations lists) c → IsCombinationFor g ts xs c
combination_closed g ts xs lists c h i = combination_in g ts xs lists c h (contains_in (combinations lists) i)

pub combination_over : (g : Sig) → IsSignature g → (ts : List Tree) (xs : List VarId) (c : List TermId) → IsCombinationFor g ts xs c → All (IsTerm g ts) c
combination_over g stands ts [] [] h = All-nil (IsTerm g ts)
combination_over g stands ts [] (id ∷ c) h = absurd h
combination_over g stands ts (x ∷ xs) [] h = absurd h
combination_over g stands ts (x ∷ xs) (id ∷ c) h = All-cons (IsTerm g ts) id c (sorted_within g stands ts (sort_of_variable g x) id h.0.term) (combination_over g stands ts xs c h.1)

pub combination_sorted : (g : Sig) (ts : List Tree) (xs : List VarId) (c : List TermId) → All (IsVariable g) xs → IsCombinationFor g ts xs c → HaveSorts (data_meant g) [] (terms_of (map (term_at g ts) c)) (sorts (map (bound_at (entries_of g ts)) xs))
combination_sorted g ts xs c vars h = subst (λ ss. HaveSorts (data_meant g) [] (terms_of (map (term_at g ts) c)) ss) (sym (sorts_of_variables g ts xs vars)) (by_places xs c h)
  where
    by_places : (xs : List VarId) (c : List TermId) → IsCombinationFor g ts xs c → HaveSorts (data_meant g) [] (terms_of (map (term_at g ts) c)) (map (sort_under g) (map (sort_of_variable g) xs))
    by_places [] [] h = tt
    by_places [] (id ∷ c) h = absurd h
    by_places (x ∷ xs) [] h = absurd h
    by_places (x ∷ xs) (id ∷ c) h = (h.0.closed, by_places xs c h.1)

-- ---- combinations of mapped lists
module _ {A B : Type 0} (f : A → B) where
  in_front : (x : A) (cs : List (List A)) → map (map f) (map (λ c. x ∷ c) cs) ≡ map (λ c. f x ∷ c) (map (map f) cs)
  in_front x [] = refl
  in_front x (c ∷ cs) = ap (λ z. (f x ∷ map f c) ∷ z) (in_front x cs)

  each_in_front : (xs : List A) (cs : List (List A)) → map (map f) (flat_map (λ x. map (λ c. x ∷ c) cs) xs) ≡ flat_map (λ y. map (λ c. y ∷ c) (map (map f) cs)) (map f xs)
  each_in_front [] cs = refl
  each_in_front (x ∷ xs) cs = map-append (map f) (map (λ c. x ∷ c) cs) (flat_map (λ x. map (λ c. x ∷ c) cs) xs) ∙ ap₂ (λ us vs. us ++ vs) (in_front x cs) (each_in_front xs cs)

  pub combinations_mapped : (xss : List (List A)) → map (map f) (combinations xss) ≡ combinations (map (map f) xss)
  combinations_mapped [] = refl
  combinations_mapped (xs ∷ xss) = each_in_front xs (combinations xss) ∙ ap (λ cs. flat_map (λ y. map (λ c. y ∷ c) cs) (map f xs)) (combinations_mapped xss)

pub zip_mapped : {A B C : Type 0} (f : A → B) (R : B → C → Type 0) (xs : List A) (ys : List C) → AllZip (λ x. R (f x)) xs ys → AllZip R (map f xs) ys
zip_mapped f R [] [] h = tt
zip_mapped f R [] (y ∷ ys) h = absurd h
zip_mapped f R (x ∷ xs) [] h = absurd h
zip_mapped f R (x ∷ xs) (y ∷ ys) h = (h.0, zip_mapped f R xs ys h.1)

-- an element in the middle
pub in_the_middle : {A : Type 0} (xs : List A) (y : A) (ys all : List A) → all ≡ xs ++ y ∷ ys → Contains all y
in_the_middle {A} xs y ys all e = subst (λ (z : List A). Contains z y) (sym e) (Contains-append_right xs (y ∷ ys) y (contains_first y ys))
