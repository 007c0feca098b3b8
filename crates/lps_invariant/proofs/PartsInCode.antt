-- Parts of conditions with `true` among them: over trees, and what they mean.
use Rattle.std.proofs.Common.{◌≡◌, ◌<◌, ◌==◌, length, List, [], ◌∷◌, ◌++◌, map, refl, sym, ap, ap₂, ◌∙◌, arith, cond, true, false, ⊎_elim}
use Rattle.std.specs.List.{All, AllByRecursion}
use Rattle.std.proofs.lemmas.Bool.Decides.{eqb_tells}
use Rattle.std.proofs.lemmas.List.{append_assoc, map-append}
use Rattle.std.proofs.lemmas.List.Elements.{All-nil, All-cons, All-head, All-tail, All-append}
use Rattle.std.proofs.lemmas.Option.{slice_get_within}
use Rattle.data_theory.specs.declared.ids.FunId.{FunId}
use Rattle.data_theory.specs.declared.ids.TermId.{TermId}
use Rattle.data_theory.specs.Terms.{Symbol, conjunction, Term, Terms, application, none as no_terms, more as and_more}
use Rattle.data_theory.specs.Signature.{Sig}
use Rattle.data_theory.specs.WholeSignatures.{IsSignature}
use Rattle.data_theory.specs.IdTrees.{Tree, variable, numeral, function, none, more}
use Rattle.data_theory.specs.IdTerms.{symbol_under, term_under, IsTreeWithin}
use Rattle.data_theory.proofs.IdSymbolLemmas.{different_functions_mean_different_symbols}
use Rattle.data_rewriter.specs.Standing.{IsTerm, listed_at, term_at}
use Rattle.data_theory.proofs.StandingLemmas.{signatures_have_truth_functions}
use Rattle.term_pool.specs.HeadTrees.{tree_at, trees_at, IsIn, AreIn}
use Rattle.lps_core.specs.Conditions.{parts}
use Rattle.lps_core.specs.TreeConditions.{and_function, tree_parts, AreSides}
use Rattle.lps_core.proofs.MeantParts.{numbers_mean}
use Rattle.lps_sumelm.proofs.SolvedTrees.{terms_over, terms_listed}

-- ---- the parts that are found
-- found so far, with what the rest still gives
pub record IsFinding (ts : List Tree) (term : TermId) (start : List TermId) (rest : TermId) (found : List TermId) : Type 0 where
  pub within : IsIn ts rest
  pub parts : trees_at ts found ++ tree_parts (tree_at ts rest) ≡ trees_at ts start ++ tree_parts (tree_at ts term)
  pub in_pool : AreIn ts start → AreIn ts found

pub finding_none : (ts : List Tree) (id : TermId) (start : List TermId) → IsIn ts id → IsFinding ts id start id start
finding_none ts id start h = record { within = h; parts = refl; in_pool = λ k. k }

one_in : (ts : List Tree) (id : TermId) → IsIn ts id → AreIn ts (id ∷ [])
one_in ts id h = All-cons (IsIn ts) id [] h (All-nil (IsIn ts))

pub finding_more : (ts : List Tree) (id : TermId) (start : List TermId) (rest : TermId) (found : List TermId) (left right : TermId) (new : List TermId) → IsFinding ts id start rest found → AreSides ts rest left right
    → new ≡ found ++ left ∷ [] → IsFinding ts id start right new
finding_more ts id start rest found left right new f s e =
    let a = f.within in
    let b = s.right_below in
    let d = s.left_below in
    record {
      within = omega (arith, a, b);
      parts =
          ap (λ z. trees_at ts z ++ tree_parts (tree_at ts right)) e
          ∙ ap (λ z. z ++ tree_parts (tree_at ts right)) (map-append (tree_at ts) found (left ∷ []))
          ∙ append_assoc (trees_at ts found) (tree_at ts left ∷ []) (tree_parts (tree_at ts right))
          ∙ ap (λ t. trees_at ts found ++ tree_parts t) (sym s.tree)
          ∙ f.parts;
      in_pool = λ k. rw e (All-append (IsIn ts) found (left ∷ []) (f.in_pool k) (one_in ts left (omega (arith, a, d))));
    }

pub finding_all : (ts : List Tree) (id : TermId) (start : List TermId) (rest : TermId) (found new : List TermId) → IsFinding ts id start rest found → tree_parts (tree_at ts rest) ≡ tree_at ts rest ∷ []
    → new ≡ found ++ rest ∷ [] → trees_at ts new ≡ trees_at ts start ++ tree_parts (tree_at ts id)
finding_all ts id start rest found new f alone e =
    ap (trees_at ts) e ∙ map-append (tree_at ts) found (rest ∷ []) ∙ ap (λ z. trees_at ts found ++ z) (sym alone) ∙ f.parts

pub finding_within : (ts : List Tree) (id : TermId) (start : List TermId) (rest : TermId) (found new : List TermId) → IsFinding ts id start rest found → new ≡ found ++ rest ∷ [] → AreIn ts start → AreIn ts new
finding_within ts id start rest found new f e k = rw e (All-append (IsIn ts) found (rest ∷ []) (f.in_pool k) (one_in ts rest f.within))

-- ---- what they mean
parts_other : (s : Symbol) (ts : Terms) → (s ≡ conjunction → ⊥) → parts (application s ts) ≡ application s ts ∷ []
parts_other conjunction (and_more x (and_more y no_terms)) n = absurd (n refl)
parts_other s ts n = refl

parts_none : (s : Symbol) → parts (application s no_terms) ≡ application s no_terms ∷ []
parts_none conjunction = refl
parts_none s = refl

parts_one : (s : Symbol) (t : Term) → parts (application s (and_more t no_terms)) ≡ application s (and_more t no_terms) ∷ []
parts_one conjunction t = refl
parts_one s t = refl

parts_many : (s : Symbol) (t u v : Term) (ts : Terms) → parts (application s (and_more t (and_more u (and_more v ts)))) ≡ application s (and_more t (and_more u (and_more v ts))) ∷ []
parts_many conjunction t u v ts = refl
parts_many s t u v ts = refl

module _ (g : Sig) (ok : IsSignature g) where
  and_symbol : symbol_under g and_function ≡ conjunction
  and_symbol = (numbers_mean g ok.table ok.complete).1

  not_and : (f : FunId) → f.0 < length g.functions → (f.0 ≡ 9 → ⊥) → symbol_under g f ≡ conjunction → ⊥
  not_and f l n e =
      let k = signatures_have_truth_functions g ok in
      let w = slice_get_within g.functions 9 _ k.and_stands.stands in
      n (ap (λ z. z.0) (different_functions_mean_different_symbols g ok.table f and_function l w (e ∙ sym and_symbol)))

  parts_mean : (t : Tree) → IsTreeWithin g t → map (term_under g) (tree_parts t) ≡ parts (term_under g t)
  parts_mean (variable v) w = refl
  parts_mean (numeral s z) w = refl
  parts_mean (function f none) w = sym (parts_none (symbol_under g f))
  parts_mean (function f (more t none)) w = sym (parts_one (symbol_under g f) (term_under g t))
  parts_mean (function f (more t (more u none))) w = ⊎_elim
      (λ k. ap (λ b. map (term_under g) (cond b (t ∷ tree_parts u) (function f (more t (more u none)) ∷ []))) k.0
      ∙ ap (λ ts. term_under g t ∷ ts) (parts_mean u w.1.1.0)
      ∙ ap (λ s. parts (application s (and_more (term_under g t) (and_more (term_under g u) no_terms)))) (sym (ap (λ z. symbol_under g (record { 0 = z })) k.1 ∙ and_symbol)))
      (λ k. ap (λ b. map (term_under g) (cond b (t ∷ tree_parts u) (function f (more t (more u none)) ∷ []))) k.0
      ∙ sym (parts_other (symbol_under g f) (and_more (term_under g t) (and_more (term_under g u) no_terms)) (not_and f w.0 k.1)))
      (eqb_tells f.0 9)
  parts_mean (function f (more t (more u (more v ts)))) w = sym (parts_many (symbol_under g f) (term_under g t) (term_under g u) (term_under g v) _)

  parts_within : (t : Tree) → IsTreeWithin g t → AllByRecursion (IsTreeWithin g) (tree_parts t)
  parts_within (variable v) w = (w, tt)
  parts_within (numeral s z) w = (w, tt)
  parts_within (function f none) w = (w, tt)
  parts_within (function f (more t none)) w = (w, tt)
  parts_within (function f (more t (more u none))) w = elim (f.0 == 9) as (λ b. AllByRecursion (IsTreeWithin g) (cond b (t ∷ tree_parts u) (function f (more t (more u none)) ∷ []))) [ true ↦ (w.1.0, parts_within u w.1.1.0) | false ↦ (w, tt) ]
  parts_within (function f (more t (more u (more v ts)))) w = (w, tt)

  -- the parts of a term, as ids of the pool
  pub parts_stand : (ts : List Tree) (c : TermId) (ids : List TermId) → IsTerm g ts c → trees_at ts ids ≡ tree_parts (tree_at ts c) → AreIn ts ids → All (IsTerm g ts) ids
  parts_stand ts c ids h e w = terms_over g ok ts ids (tree_parts (tree_at ts c)) e w (parts_within (tree_at ts c) h.within)

  pub parts_meant : (ts : List Tree) (c : TermId) (ids : List TermId) → IsTerm g ts c → trees_at ts ids ≡ tree_parts (tree_at ts c) → listed_at g ts ids ≡ parts (term_at g ts c)
  parts_meant ts c ids h e = sym (terms_listed g ok ts ids) ∙ ap (map (term_under g)) e ∙ parts_mean (tree_at ts c) h.within

  all_within : (ts : List Tree) (ids : List TermId) → All (IsTerm g ts) ids → AllByRecursion (IsTreeWithin g) (trees_at ts ids)
  all_within ts [] h = tt
  all_within ts (id ∷ ids) h = ((All-head (IsTerm g ts) id ids h).within, all_within ts ids (All-tail (IsTerm g ts) id ids h))

  both_within : (ts us : List Tree) → AllByRecursion (IsTreeWithin g) ts → AllByRecursion (IsTreeWithin g) us → AllByRecursion (IsTreeWithin g) (ts ++ us)
  both_within [] us h k = k
  both_within (t ∷ ts) us h k = (h.0, both_within ts us h.1 k)

  -- behind other terms
  pub parts_stand_behind : (ts : List Tree) (old : List TermId) (c : TermId) (ids : List TermId) → All (IsTerm g ts) old → IsTerm g ts c → trees_at ts ids ≡ trees_at ts old ++ tree_parts (tree_at ts c) → AreIn ts ids → All (IsTerm g ts) ids
  parts_stand_behind ts old c ids k h e w =
      terms_over g ok ts ids (trees_at ts old ++ tree_parts (tree_at ts c)) e w (both_within (trees_at ts old) (tree_parts (tree_at ts c)) (all_within ts old k) (parts_within (tree_at ts c) h.within))

  pub parts_meant_behind : (ts : List Tree) (old : List TermId) (c : TermId) (ids : List TermId) → IsTerm g ts c → trees_at ts ids ≡ trees_at ts old ++ tree_parts (tree_at ts c) → listed_at g ts ids ≡ listed_at g ts old ++ parts (term_at g ts c)
  parts_meant_behind ts old c ids h e =
      sym (terms_listed g ok ts ids)
      ∙ ap (map (term_under g)) e
      ∙ map-append (term_under g) (trees_at ts old) (tree_parts (tree_at ts c))
      ∙ ap₂ (λ xs ys. xs ++ ys) (terms_listed g ok ts old) (parts_mean (tree_at ts c) h.within)
