-- The constructors of a sort, by their places.
use Rattle.std.proofs.Common.{◌≡◌, ◌⊎◌, inl, inr, ⊎_elim, ℕ, zero, suc, ◌<◌, ◌↔◌, List, [], ◌∷◌, length, map, get_or, Option, Some, None, Result, Ok, Err, refl, sym, ap, ◌∙◌, subst, arith}
use Rattle.std.specs.Prelude.{slice_get, option_map, MatchOption, IfSome, IfOk, Vec}
use Rattle.std.specs.List.{All}
use Rattle.std.specs.Global.{Global}
use Rattle.std.proofs.lemmas.List.Elements.{All-get_or}
use Rattle.std.proofs.lemmas.Option.{slice_get_within, slice_get-get_or, slice_get-map, get_or_from_slice_get}
use Rattle.data_theory.specs.declared.ids.SortId.{SortId}
use Rattle.data_theory.specs.declared.ids.FunId.{FunId}
use Rattle.data_theory.specs.declared.sort_table.SortKind.{SortKind}
use Rattle.data_theory.specs.declared.sort_table.SortKind.TheVariants as code
use Rattle.data_theory.specs.Keys.{key}
use Rattle.data_theory.specs.Functions.{key_of}
use Rattle.data_theory.specs.Sorts.{Kind, SortInfo, kind_of, booleans, positives, naturals, integers, lists_over, without_constructors, by_declarations, structured}
use Rattle.data_theory.specs.IdSorts.{HasKind}
use Rattle.data_theory.specs.Signature.{Sig, IsFun}
use Rattle.data_theory.specs.Complete.{IsComplete, IsSortWithin, IsKindWithin}
use Rattle.data_theory.specs.IdTables.{IsTable}
use Rattle.term_pool.specs.declared.first_values.Root.TheVariants.{Number, Constant}
use Rattle.term_pool.specs.declared.first_values.First.{First}
use Rattle.term_pool.specs.ConstructorValues.{IsConstructorOf, IsConstructorAt}
use Rattle.term_pool.specs.FirstValues.{IsCandidate, IsCandidateOf, IsLightestOf}
use Rattle.term_pool.proofs.Candidates.{IsNumberKind, IsBuiltKind, AreItsConstructors, number_candidate, constant_candidate, built_candidate_of}

-- ---- the kind of a sort
pub has_kind : (ss : List SortInfo) (k : ℕ) (d : Kind) → k < length ss → IfSome (slice_get ss k) (λ s. s.kind ≡ d) → HasKind ss k d
has_kind [] k d l told = absurd (omega (arith, l))
has_kind (s ∷ ss) zero d l told = (s, refl, told)
has_kind (s ∷ ss) (suc k) d l told = has_kind ss k d (omega (arith, l)) told

pub number_code : (k : SortKind) → (k ≡ code.Pos) ⊎ ((k ≡ code.Nat) ⊎ (k ≡ code.Int)) → IsNumberKind (kind_of k)
number_code k (inl e) = subst (λ (x : SortKind). IsNumberKind (kind_of x)) (sym e) tt
number_code k (inr (inl e)) = subst (λ (x : SortKind). IsNumberKind (kind_of x)) (sym e) tt
number_code k (inr (inr e)) = subst (λ (x : SortKind). IsNumberKind (kind_of x)) (sym e) tt

pub built_code : (k : SortKind) → (k ≡ code.Pos → ⊥) → (k ≡ code.Nat → ⊥) → (k ≡ code.Int → ⊥) → (k ≡ code.Abstract → ⊥) → IsBuiltKind (kind_of k)
built_code code.Bool p n i a = tt
built_code code.Pos p n i a = p refl
built_code code.Nat p n i a = n refl
built_code code.Int p n i a = i refl
built_code (code.List e) p n i a = tt
built_code code.Abstract p n i a = a refl
built_code (code.Cons fs) p n i a = tt
built_code (code.Struct fs) p n i a = tt

-- ---- candidates by the kind of a sort
pub candidate_of_numbers : (g : Sig) (es : List (Option First)) → IsTable g → (s : SortId) (k : SortKind) → s.0 < length g.sorts → IfSome (slice_get g.sorts s.0) (λ i. i.kind ≡ kind_of k) → (k ≡ code.Pos) ⊎ ((k ≡ code.Nat) ⊎ (k ≡ code.Int))
    → (c : First) → c.weight ≡ 1 → c.root ≡ Number → IsCandidate g es s c
candidate_of_numbers g es table s k l told is c w r = let h = has_kind g.sorts s.0 (kind_of k) l told in number_candidate g es table.sorts s h.0 h.1 (subst IsNumberKind (sym h.2) (number_code k is)) c w r

pub candidate_of_constant : (g : Sig) (es : List (Option First)) → IsTable g → (s : SortId) (k : SortKind) → s.0 < length g.sorts → IfSome (slice_get g.sorts s.0) (λ i. i.kind ≡ kind_of k) → k ≡ code.Abstract
    → (c : First) → c.weight ≡ 1 → c.root ≡ Constant → IsCandidate g es s c
candidate_of_constant g es table s k l told is c w r = let h = has_kind g.sorts s.0 (kind_of k) l told in constant_candidate g es table.sorts s h.0 h.1 (h.2 ∙ ap kind_of is) c w r

pub candidate_of_constructors : (g : Sig) (es : List (Option First)) → IsTable g → (s : SortId) (k : SortKind) → s.0 < length g.sorts → IfSome (slice_get g.sorts s.0) (λ i. i.kind ≡ kind_of k) → IsBuiltKind (kind_of k)
    → (read places : List (Option FunId)) → read ≡ places → AreItsConstructors g s places → (E : Type 0) (r : Result (Option First) E) → IfOk r (IsLightestOf g es read (length read)) → IfOk r (IsCandidateOf g es s)
candidate_of_constructors g es table s k l told built read places same its E r lightest = by_result r lightest
  where
    h : HasKind g.sorts s.0 (kind_of k)
    h = has_kind g.sorts s.0 (kind_of k) l told

    by_result : (q : Result (Option First) E) → IfOk q (IsLightestOf g es read (length read)) → IfOk q (IsCandidateOf g es s)
    by_result (Err e) n = n
    by_result (Ok c) n = built_candidate_of g es table.sorts s h.0 h.1 (subst IsBuiltKind (sym h.2) built) places its c (subst (λ (ps : List (Option FunId)). IsLightestOf g es ps (length ps) c) same n)

-- ---- the places
-- a function is found at one place
found_once : (g : Sig) → IsTable g → (t : List ℕ) (ss : List SortId) (a b : ℕ) → IsFun g t ss a → IsFun g t ss b → a ≡ b
found_once g table t ss a b p q =
    let name : p.0.name ≡ q.0.name = ap (λ (n : ℕ). record { 0 = n }) (table.different p.0.name.0 q.0.name.0 t p.2 q.2) in
    let same : key_of p.0 ≡ key_of q.0 = (λ i. key (name i) ((p.3 ∙ sym q.3) i)) in
    table.once a b (key_of p.0) (slice_get-map key_of g.functions a ∙ ap (option_map key_of) p.1) (slice_get-map key_of g.functions b ∙ ap (option_map key_of) q.1 ∙ ap Some (sym same))

fun_named : (f h : FunId) → f.0 ≡ h.0 → f ≡ h
fun_named f h e = ap (λ (n : ℕ). record { 0 = n }) e

-- two places, by what is found
two_places : (P Q : ℕ → Type 0) → ((a b : ℕ) → P a → P b → a ≡ b) → ((a b : ℕ) → Q a → Q b → a ≡ b) → (o q : Option FunId) → MatchOption o ((k : ℕ) → P k → ⊥) (λ f. P f.0) → MatchOption q ((k : ℕ) → Q k → ⊥) (λ f. Q f.0)
    → (k : ℕ) (f : FunId) → (slice_get (o ∷ q ∷ []) k ≡ Some (Some f)) ↔ (((k ≡ 0) × P f.0) ⊎ ((k ≡ 1) × Q f.0))
two_places P Q once also o q found other k f = (forth k, back)
  where
    found_here : (R : ℕ → Type 0) (p : Option FunId) → MatchOption p ((k : ℕ) → R k → ⊥) (λ f. R f.0) → p ≡ Some f → R f.0
    found_here R p m e = subst (λ (x : Option FunId). MatchOption x ((k : ℕ) → R k → ⊥) (λ f. R f.0)) e m

    forth : (j : ℕ) → slice_get (o ∷ q ∷ []) j ≡ Some (Some f) → ((j ≡ 0) × P f.0) ⊎ ((j ≡ 1) × Q f.0)
    forth zero e = inl (refl, found_here P o found (let same : o ≡ Some f = cc in same))
    forth (suc zero) e = inr (refl, found_here Q q other (let same : q ≡ Some f = cc in same))
    forth (suc (suc j)) e = cc

    told : (R : ℕ → Type 0) → ((a b : ℕ) → R a → R b → a ≡ b) → (p : Option FunId) → MatchOption p ((k : ℕ) → R k → ⊥) (λ f. R f.0) → R f.0 → p ≡ Some f
    told R one None m r = absurd (m f.0 r)
    told R one (Some h) m r = ap Some (fun_named h f (one h.0 f.0 m r))

    back : ((k ≡ 0) × P f.0) ⊎ ((k ≡ 1) × Q f.0) → slice_get (o ∷ q ∷ []) k ≡ Some (Some f)
    back (inl h) = ap (slice_get (o ∷ q ∷ [])) h.0 ∙ ap Some (told P once o found h.1)
    back (inr h) = ap (slice_get (o ∷ q ∷ [])) h.0 ∙ ap Some (told Q also q other h.1)

-- the constructors are those of the kind
pub by_kind : (g : Sig) (s : SortId) (k : SortKind) (d : Kind) → s.0 < length g.sorts → IfSome (slice_get g.sorts s.0) (λ i. i.kind ≡ kind_of k) → kind_of k ≡ d → (places : List (Option FunId))
    → ((j : ℕ) (f : FunId) → (slice_get places j ≡ Some (Some f)) ↔ IsConstructorOf g s d j f) → AreItsConstructors g s places
by_kind g s k d l told is places its j f =
    let h = has_kind g.sorts s.0 (kind_of k) l told in
    let kind : h.0.kind ≡ d = h.2 ∙ is in (
      λ e. (h.0, h.1, subst (λ (x : Kind). IsConstructorOf g s x j f) (sym kind) ((its j f).0 e)),
      λ c. (let same : c.0 ≡ h.0 = (let both : Some c.0 ≡ Some h.0 = sym c.1 ∙ h.1 in cc) in (its j f).1 (subst (λ (x : Kind). IsConstructorOf g s x j f) (ap (λ (i : SortInfo). i.kind) same ∙ kind) c.2)),
    )

pub two_constructors : (g : Sig) → IsTable g → (t u : List ℕ) (ss rs : List SortId) (o q : Option FunId) → MatchOption o ((k : ℕ) → IsFun g t ss k → ⊥) (λ f. IsFun g t ss f.0) → MatchOption q ((k : ℕ) → IsFun g u rs k → ⊥) (λ f. IsFun g u rs f.0)
    → (places : List (Option FunId)) → places ≡ o ∷ q ∷ [] → (j : ℕ) (f : FunId) → (slice_get places j ≡ Some (Some f)) ↔ (((j ≡ 0) × IsFun g t ss f.0) ⊎ ((j ≡ 1) × IsFun g u rs f.0))
two_constructors g table t u ss rs o q found other places are j f =
    let both = two_places (IsFun g t ss) (IsFun g u rs) (found_once g table t ss) (found_once g table u rs) o q found other j f in
    (λ e. both.0 (ap (λ (ps : List (Option FunId)). slice_get ps j) (sym are) ∙ e), λ h. ap (λ (ps : List (Option FunId)). slice_get ps j) are ∙ both.1 h)

pub all_constructors : (fs : List FunId) (places : List (Option FunId)) → places ≡ map Some fs → (j : ℕ) (f : FunId) → (slice_get places j ≡ Some (Some f)) ↔ (slice_get fs j ≡ Some f)
all_constructors fs places are j f =
    (λ e. some_once (slice_get fs j) (sym (slice_get-map Some fs j) ∙ ap (λ (ps : List (Option FunId)). slice_get ps j) (sym are) ∙ e), λ e. ap (λ (ps : List (Option FunId)). slice_get ps j) are ∙ slice_get-map Some fs j ∙ ap (option_map Some) e)
  where
    some_once : (o : Option FunId) → option_map Some o ≡ Some (Some f) → o ≡ Some f
    some_once None e = cc
    some_once (Some h) e = cc

pub listed_constructors : (g : Sig) (s : SortId) (k : SortKind) (d : Kind) → s.0 < length g.sorts → IfSome (slice_get g.sorts s.0) (λ i. i.kind ≡ kind_of k) → kind_of k ≡ d → (fs read : List FunId) → read ≡ fs
    → ((j : ℕ) (f : FunId) → (slice_get fs j ≡ Some f) ↔ IsConstructorOf g s d j f) → (E : Type 0) (r : Result (Vec (Option FunId) Global) E) → IfOk r (λ places. places.items ≡ map Some read) → IfOk r (λ places. AreItsConstructors g s places.items)
listed_constructors g s k d l told is fs read same its E (Err e) are = are
listed_constructors g s k d l told is fs read same its E (Ok places) are =
    by_kind g s k d l told is places.items (λ j f. (let all = all_constructors fs places.items (are ∙ ap (map Some) same) j f in (λ e. (its j f).0 (all.0 e), λ c. all.1 ((its j f).1 c))))

-- a constructor is a function of the signature
pub within_functions : (g : Sig) → IsComplete g → (s : SortId) (k : ℕ) (f : FunId) → IsConstructorAt g s k f → f.0 < length g.functions
within_functions g complete s k f c = of_kind c.0.kind (of_sort c.0 c.1).built c.2
  where
    of_kind : (d : Kind) → IsKindWithin (length g.sorts) (length g.functions) d → IsConstructorOf g s d k f → f.0 < length g.functions
    of_kind booleans w c = ⊎_elim (λ h. slice_get_within g.functions f.0 h.1.0 h.1.1) (λ h. slice_get_within g.functions f.0 h.1.0 h.1.1) c
    of_kind positives w c = absurd c
    of_kind naturals w c = absurd c
    of_kind integers w c = absurd c
    of_kind (lists_over e) w c = ⊎_elim (λ h. slice_get_within g.functions f.0 h.1.0 h.1.1) (λ h. slice_get_within g.functions f.0 h.1.0 h.1.1) c
    of_kind without_constructors w c = absurd c
    of_kind (by_declarations fs) w c = subst (λ (x : FunId). x.0 < length g.functions) (get_or_from_slice_get fs k f f c) (All-get_or (λ (x : FunId). x.0 < length g.functions) fs k f (slice_get_within fs k f c) w)
    of_kind (structured fs) w c = subst (λ (x : FunId). x.0 < length g.functions) (get_or_from_slice_get fs k f f c) (All-get_or (λ (x : FunId). x.0 < length g.functions) fs k f (slice_get_within fs k f c) w)

    of_sort : (i : SortInfo) → slice_get g.sorts s.0 ≡ Some i → IsSortWithin (length g.texts) (length g.sorts) (length g.functions) i
    of_sort i at = subst (IsSortWithin (length g.texts) (length g.sorts) (length g.functions)) (get_or_from_slice_get g.sorts s.0 i i at)
        (All-get_or (IsSortWithin (length g.texts) (length g.sorts) (length g.functions)) g.sorts s.0 i (slice_get_within g.sorts s.0 i at) complete.within.sorts_within)

-- those at the places too
pub constructors_within : (g : Sig) → IsComplete g → (s : SortId) (places : List (Option FunId)) → AreItsConstructors g s places → All (λ p. IfSome p (λ f. f.0 < length g.functions)) places
constructors_within g complete s places its = λ k d l. by_place k (get_or places k d) (slice_get-get_or places k d l)
  where
    by_place : (k : ℕ) (p : Option FunId) → slice_get places k ≡ Some p → IfSome p (λ f. f.0 < length g.functions)
    by_place k None e = tt
    by_place k (Some f) e = within_functions g complete s k f ((its k f).0 e)
