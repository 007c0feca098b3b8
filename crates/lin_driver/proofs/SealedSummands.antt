-- Where the summands of a sealed linear process in code come from.
use Rattle.std.proofs.Common.{◌≡◌, ⊎_elim, ℕ, List, [], ◌∷◌, ◌++◌, map, refl, sym, ap, ◌∙◌, subst}
use Rattle.std.specs.List.{Contains}
use Rattle.std.proofs.lemmas.List.Elements.{Contains-append_cases}
use Rattle.data_theory.specs.declared.ids.VarId.{VarId}
use Rattle.process_terms.specs.Meanings.{Entries, bound_at}
use Rattle.process_terms.specs.Processes.{Bound}
use Rattle.bisim_laws.specs.LinearProcesses.{Summand, Linear}
use Rattle.bisim_laws.proofs.Firing.{contains_cases, contains_none}
use Rattle.lps_core.specs.PlainLinears.{PlainSummand, PlainLinear, summand_of, linear_of}
use Rattle.lps_core.specs.Sealing.{sealed_summand, last_summand, sealed}
use Rattle.lps_core.proofs.Members.{contains_map, map_contains}

-- it is the sealed one of a summand, or the last one
pub data IsSealedOf (e d : Entries) (l : PlainLinear) (v : ℕ) (t : PlainSummand) : Type 0 where
  of_a_summand : (s : PlainSummand) → Contains l.summands s → summand_of e t ≡ sealed_summand (linear_of d l).params v (summand_of d s) → IsSealedOf e d l v t
  the_last : summand_of e t ≡ last_summand (linear_of d l).params v → IsSealedOf e d l v t

pub sealed_of : (e d : Entries) (l k : PlainLinear) (v : ℕ) → linear_of e k ≡ sealed v (linear_of d l) → (t : PlainSummand) → Contains k.summands t → IsSealedOf e d l v t
sealed_of e d l k v is t i =
    let P = (linear_of d l).params in
    let olds = map (sealed_summand P v) (linear_of d l).summands in
    let among : Contains (olds ++ last_summand P v ∷ []) (summand_of e t) = subst (λ (z : Linear). Contains z.summands (summand_of e t)) is (map_contains (summand_of e) k.summands t i) in
    ⊎_elim
    (λ j.
    let r = contains_map (sealed_summand P v) (linear_of d l).summands (summand_of e t) j in
    let s = contains_map (summand_of d) l.summands r.0 r.1.0 in
    of_a_summand s.0 s.1.0 (r.1.1 ∙ ap (sealed_summand P v) s.1.1))
    (λ j. the_last (⊎_elim (λ q. sym q) (λ n. absurd (contains_none (summand_of e t) n)) (contains_cases (last_summand P v) (summand_of e t) [] j)))
    (Contains-append_cases olds (last_summand P v ∷ []) (summand_of e t) among)

-- ---- the same sums
abbrev ids_of : List Bound → List VarId
ids_of bs = map (λ (b : Bound). record { 0 = b.var }) bs

ids_back : (e : Entries) (xs : List VarId) → ids_of (map (bound_at e) xs) ≡ xs
ids_back e [] = refl
ids_back e (x ∷ xs) = ap (λ ys. x ∷ ys) (ids_back e xs)

pub same_sums : (e d : Entries) (params : List Bound) (v : ℕ) (s t : PlainSummand) → summand_of e t ≡ sealed_summand params v (summand_of d s) → t.sums ≡ s.sums
same_sums e d params v s t is = sym (ids_back e t.sums) ∙ ap (λ (z : Summand). ids_of z.sums) is ∙ ids_back d s.sums

pub no_sums : (e : Entries) (params : List Bound) (v : ℕ) (t : PlainSummand) → summand_of e t ≡ last_summand params v → t.sums ≡ []
no_sums e params v t is = sym (ids_back e t.sums) ∙ ap (λ (z : Summand). ids_of z.sums) is
