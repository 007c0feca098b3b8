-- Terms that are listed for variables, and the environments that they are.
use Rattle.std.proofs.Common.{◌≡◌, ◌==◌, ◌<◌, ◌≤◌, ◌+◌, ◌⊎◌, ⊎_elim, ℕ, zero, suc, true, false, List, [], ◌∷◌, ◌++◌, map, take, length, get_or, refl, sym, ap, ap₂, ◌∙◌, cond, arith, add-one, append_assoc, append-nil, Option, Some, None}
use Rattle.std.specs.Prelude.{IfSome}
use Rattle.std.specs.List.{All, zip}
use Rattle.std.proofs.lemmas.List.{map-append, take_all}
use Rattle.std.proofs.lemmas.List.Elements.{All-nil, All-cons, All-head, All-tail}
use Rattle.data_theory.specs.declared.ids.VarId.{VarId}
use Rattle.data_theory.specs.declared.ids.TermId.{TermId}
use Rattle.data_theory.specs.Terms.{Term}
use Rattle.data_theory.specs.Environments.{Environment, Binding, term_in, bound}
use Rattle.data_theory.specs.Signature.{Sig}
use Rattle.data_theory.specs.IdTrees.{Tree, variable}
use Rattle.data_theory.specs.IdTerms.{term_under, IsTreeWithin}
use Rattle.term_pool.specs.Bindings.{listed, listed_terms}
use Rattle.term_pool.specs.HeadTrees.{tree_at, IsIn, AreIn}
use Rattle.term_pool.specs.Pools.{Extends}
use Rattle.data_rewriter.specs.Standing.{IsTerm, term_at}
use Rattle.data_rewriter.proofs.Standings.{term_kept, term_stays}
use Rattle.lps_core.specs.TreeSummands.{numbers_of}
use Rattle.lps_core.proofs.MeantTrees.{Means}
use Rattle.lps_simulator.specs.Rewritten.{environment_of}

-- ---- variables and terms, place by place
pub bound_none : (old : List (VarId × TermId)) (xs : List VarId) (ids : List TermId) → old ≡ old ++ take 0 (zip xs ids)
bound_none old xs ids = sym (append-nil old)

zip_step : (xs : List VarId) (ids : List TermId) (n : ℕ) (x : VarId) (id : TermId) → n < length xs → n < length ids → take (n + 1) (zip xs ids) ≡ take n (zip xs ids) ++ (get_or xs n x, get_or ids n id) ∷ []
zip_step xs ids n x id l k = ap (λ m. take m (zip xs ids)) (add-one n) ∙ go xs ids n l k
  where
    go : (xs : List VarId) (ids : List TermId) (n : ℕ) → n < length xs → n < length ids → take (suc n) (zip xs ids) ≡ take n (zip xs ids) ++ (get_or xs n x, get_or ids n id) ∷ []
    go [] ids n l k = absurd (omega (arith, l))
    go (y ∷ xs) [] n l k = absurd (omega (arith, k))
    go (y ∷ xs) (i ∷ ids) zero l k = refl
    go (y ∷ xs) (i ∷ ids) (suc n) l k = ap (λ (z : List (VarId × TermId)). (y, i) ∷ z) (go xs ids n (omega (arith, l)) (omega (arith, k)))

pub bound_more : (old by new : List (VarId × TermId)) (xs : List VarId) (ids : List TermId) (n : ℕ) (x : VarId) (id : TermId) → n < length xs → n < length ids → by ≡ old ++ take n (zip xs ids) → new ≡ by ++ (get_or xs n x, get_or ids n id) ∷ [] → new ≡ old ++ take (n + 1) (zip xs ids)
bound_more old by new xs ids n x id l k h e =
    e
    ∙ ap (λ (z : List (VarId × TermId)). z ++ (get_or xs n x, get_or ids n id) ∷ []) h
    ∙ append_assoc old (take n (zip xs ids)) ((get_or xs n x, get_or ids n id) ∷ [])
    ∙ ap (λ (z : List (VarId × TermId)). old ++ z) (sym (zip_step xs ids n x id l k))

zip_short : (xs : List VarId) (ids : List TermId) → (length (zip xs ids) ≤ length xs) × (length (zip xs ids) ≤ length ids)
zip_short [] ids = (omega arith, omega arith)
zip_short (x ∷ xs) [] = (omega arith, omega arith)
zip_short (x ∷ xs) (id ∷ ids) = let r = zip_short xs ids in (omega (arith, r.0), omega (arith, r.1))

pub bound_all : (old by : List (VarId × TermId)) (xs : List VarId) (ids : List TermId) (count n : ℕ) → (count ≡ length xs) ⊎ (count ≡ length ids) → count ≤ n → by ≡ old ++ take n (zip xs ids) → by ≡ old ++ zip xs ids
bound_all old by xs ids count n one l h =
    let short = zip_short xs ids in
    let all : length (zip xs ids) ≤ n = ⊎_elim (λ e. let r = short.0 in omega (arith, r, e, l)) (λ e. let r = short.1 in omega (arith, r, e, l)) one in
    h ∙ ap (λ (z : List (VarId × TermId)). old ++ z) (take_all n (zip xs ids) all)

-- ---- what is listed means the environment
pub listed_means : (g : Sig) (ts : List Tree) (by : List (VarId × TermId)) → Means g (listed ts by) (environment_of g ts by)
listed_means g ts [] x = refl
listed_means g ts (p ∷ ps) x = elim (p.0.0 == x.0) as (λ b. term_under g (cond b (tree_at ts p.1) (listed ts ps x)) ≡ cond b (term_at g ts p.1) (term_in (environment_of g ts ps) x.0)) [ true ↦ refl | false ↦ listed_means g ts ps x ]

pub listed_within : (g : Sig) (ts : List Tree) (by : List (VarId × TermId)) → All (IsTerm g ts) (listed_terms by) → (x : VarId) → IsTreeWithin g (listed ts by x)
listed_within g ts [] h x = tt
listed_within g ts (p ∷ ps) h x =
    elim (p.0.0 == x.0) as (λ b. IsTreeWithin g (cond b (tree_at ts p.1) (listed ts ps x))) [
      | true ↦ (All-head (IsTerm g ts) p.1 (listed_terms ps) h).within
      | false ↦ listed_within g ts ps (All-tail (IsTerm g ts) p.1 (listed_terms ps) h) x
    ]

pub listed_inside : (g : Sig) (ts : List Tree) (ids : List TermId) → All (IsTerm g ts) ids → AreIn ts ids
listed_inside g ts [] h = All-nil (IsIn ts)
listed_inside g ts (id ∷ ids) h = All-cons (IsIn ts) id ids (All-head (IsTerm g ts) id ids h).inside (listed_inside g ts ids (All-tail (IsTerm g ts) id ids h))

-- ---- pools that grow
pub environment_kept : (g : Sig) (ts us : List Tree) (by : List (VarId × TermId)) → Extends ts us → All (IsTerm g ts) (listed_terms by) → environment_of g us by ≡ environment_of g ts by
environment_kept g ts us [] e h = refl
environment_kept g ts us (p ∷ ps) e h =
    ap₂ (λ (t : Term) (d : Environment). record { var = p.0.0; term = t } ∷ d)
    (term_kept g ts us p.1 e (All-head (IsTerm g ts) p.1 (listed_terms ps) h).inside)
    (environment_kept g ts us ps e (All-tail (IsTerm g ts) p.1 (listed_terms ps) h))

pub terms_stay : (g : Sig) (ts us : List Tree) (ids : List TermId) → Extends ts us → All (IsTerm g ts) ids → All (IsTerm g us) ids
terms_stay g ts us [] e h = All-nil (IsTerm g us)
terms_stay g ts us (id ∷ ids) e h = All-cons (IsTerm g us) id ids (term_stays g ts us e id (All-head (IsTerm g ts) id ids h)) (terms_stay g ts us ids e (All-tail (IsTerm g ts) id ids h))

pub next_stays_over : (g : Sig) (ts us : List Tree) (o : Option (List TermId)) → Extends ts us → IfSome o (All (IsTerm g ts)) → IfSome o (All (IsTerm g us))
next_stays_over g ts us None e h = tt
next_stays_over g ts us (Some ids) e h = terms_stay g ts us ids e h

-- ---- variables with terms, place by place
pub zipped_means : (g : Sig) (ts : List Tree) (xs : List VarId) (ids : List TermId) → environment_of g ts (zip xs ids) ≡ bound (numbers_of xs) (map (term_at g ts) ids)
zipped_means g ts [] ids = refl
zipped_means g ts (x ∷ xs) [] = refl
zipped_means g ts (x ∷ xs) (id ∷ ids) = ap (λ (e : Environment). record { var = x.0; term = term_at g ts id } ∷ e) (zipped_means g ts xs ids)

pub both_mean : (g : Sig) (ts : List Tree) (xs ps : List VarId) (ids state : List TermId) → environment_of g ts (zip xs ids ++ zip ps state) ≡ bound (numbers_of xs) (map (term_at g ts) ids) ++ bound (numbers_of ps) (map (term_at g ts) state)
both_mean g ts xs ps ids state =
    map-append (λ (p : VarId × TermId). record { var = p.0.0; term = term_at g ts p.1 }) (zip xs ids) (zip ps state)
    ∙ ap₂ (λ (d e : Environment). d ++ e) (zipped_means g ts xs ids) (zipped_means g ts ps state)

zipped_over : (g : Sig) (ts : List Tree) (xs : List VarId) (ids : List TermId) → All (IsTerm g ts) ids → (more : List (VarId × TermId)) → All (IsTerm g ts) (listed_terms more) → All (IsTerm g ts) (listed_terms (zip xs ids ++ more))
zipped_over g ts [] ids h more k = k
zipped_over g ts (x ∷ xs) [] h more k = k
zipped_over g ts (x ∷ xs) (id ∷ ids) h more k =
    All-cons (IsTerm g ts) id (listed_terms (zip xs ids ++ more)) (All-head (IsTerm g ts) id ids h) (zipped_over g ts xs ids (All-tail (IsTerm g ts) id ids h) more k)

alone_over : (g : Sig) (ts : List Tree) (xs : List VarId) (ids : List TermId) → All (IsTerm g ts) ids → All (IsTerm g ts) (listed_terms (zip xs ids))
alone_over g ts [] ids h = All-nil (IsTerm g ts)
alone_over g ts (x ∷ xs) [] h = All-nil (IsTerm g ts)
alone_over g ts (x ∷ xs) (id ∷ ids) h = All-cons (IsTerm g ts) id (listed_terms (zip xs ids)) (All-head (IsTerm g ts) id ids h) (alone_over g ts xs ids (All-tail (IsTerm g ts) id ids h))

pub both_over : (g : Sig) (ts : List Tree) (xs ps : List VarId) (ids state : List TermId) → All (IsTerm g ts) ids → All (IsTerm g ts) state → All (IsTerm g ts) (listed_terms (zip xs ids ++ zip ps state))
both_over g ts xs ps ids state h k = zipped_over g ts xs ids h (zip ps state) (alone_over g ts ps state k)
