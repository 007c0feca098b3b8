-- The elimination, from what its parts say.
use Rattle.std.proofs.Common.{◌≡◌, ◌<◌, ℕ, Bool, List, [], ◌∷◌, map, length, refl, sym, ap, ◌∙◌, subst, arith, Option, Some, None, Result, Ok, Err}
use Rattle.std.specs.Prelude.{IfSome, IfOk}
use Rattle.std.specs.List.{All}
use Rattle.std.proofs.lemmas.List.{length-map}
use Rattle.std.proofs.lemmas.List.Elements.{All-weaker}
use Rattle.data_theory.specs.declared.ids.SortId.{SortId}
use Rattle.data_theory.specs.declared.ids.TermId.{TermId}
use Rattle.data_theory.specs.Signature.{Sig}
use Rattle.data_theory.specs.IdTrees.{Tree, variable, trees_of}
use Rattle.data_theory.specs.IdTreeSorts.{HaveTreeSorts}
use Rattle.data_theory.specs.WholeSignatures.{IsSignature}
use Rattle.term_pool.specs.HeadTrees.{tree_at, trees_at, AreIn}
use Rattle.term_pool.specs.Pools.{Extends}
use Rattle.term_pool.proofs.DeclaredConstants.{grown_itself}
use Rattle.process_terms.specs.SignatureEntries.{entries_of}
use Rattle.lps_core.specs.PlainLinears.{PlainSummand, PlainLinear, linear_of}
use Rattle.lps_core.specs.Fitting.{AreTermsOf, sort_of_variable, SummandFits, Fits}
use Rattle.lps_core.specs.TreeSummands.{IsSummandIn}
use Rattle.lps_core.proofs.NamedLinears.{fitting_is_in}
use Rattle.lps_core.proofs.StayingFits.{what_fits_fits_still}
use Rattle.lps_parelm.specs.Keeping.{kept_linear, fates_of}
use Rattle.lps_parelm.specs.Needed.{KeepTheNeeded, IsWithoutTheUnneeded}
use Rattle.lps_parelm.specs.Uses.{HaveNextTerms, AreMarked}
use Rattle.lps_parelm.proofs.UseGraphs.{IsUseGraph}
use Rattle.lps_parelm.proofs.NeededParameters.{keep_the_needed}
use Rattle.lps_parelm.proofs.WhatIsLeft.{left_fits, left_bisimilar}

-- ---- what fits
pub fits_on : (g : Sig) (ts us : List Tree) (l : PlainLinear) → IsSignature g → Extends ts us → Fits g ts l → Fits g us l
fits_on g ts us l stands e fits = what_fits_fits_still g g ts us l stands.table stands.complete stands.table (record { signature = grown_itself g; pool = e }) fits

tree_sorts_long : (g : Sig) (ts : List Tree) (ss : List SortId) → HaveTreeSorts g (trees_of ts) ss → length ts ≡ length ss
tree_sorts_long g [] [] h = refl
tree_sorts_long g [] (s ∷ ss) h = absurd h
tree_sorts_long g (t ∷ ts) [] h = absurd h
tree_sorts_long g (t ∷ ts) (s ∷ ss) h = let k = tree_sorts_long g ts ss h.1 in omega (arith, k)

terms_long : (g : Sig) (ts : List Tree) (ss : List SortId) (ids : List TermId) → AreTermsOf g ts ss ids → length ids ≡ length ss
terms_long g ts ss ids h = sym (length-map ids (tree_at ts)) ∙ tree_sorts_long g (trees_at ts ids) ss h.sorted

next_long : (g : Sig) (ts : List Tree) (l : PlainLinear) (next : Option (List TermId)) → IfSome next (AreTermsOf g ts (map (sort_of_variable g) l.params)) → IfSome next (λ ids. length ids ≡ length l.params)
next_long g ts l None h = h
next_long g ts l (Some ids) h = terms_long g ts (map (sort_of_variable g) l.params) ids h ∙ length-map l.params (sort_of_variable g)

pub next_terms : (g : Sig) (ts : List Tree) (l : PlainLinear) → Fits g ts l → HaveNextTerms (length l.params) l.summands
next_terms g ts l fits = All-weaker (SummandFits g ts l.params) (λ (s : PlainSummand). IfSome s.next (λ ids. length ids ≡ length l.params)) (λ s h. next_long g ts l s.next h.next) l.summands fits.summands

pub init_long : (g : Sig) (ts : List Tree) (l : PlainLinear) → Fits g ts l → length l.init ≡ length l.params
init_long g ts l fits = terms_long g ts (map (sort_of_variable g) l.params) l.init fits.init ∙ length-map l.params (sort_of_variable g)

pub summands_inside : (g : Sig) (ts : List Tree) (l : PlainLinear) → Fits g ts l → All (IsSummandIn ts) l.summands
summands_inside g ts l fits = All-weaker (SummandFits g ts l.params) (IsSummandIn ts) (λ s h. fitting_is_in g ts l.params s h) l.summands fits.summands

pub variables_long : (ts : List Tree) (vars : List TermId) (l : PlainLinear) → trees_at ts vars ≡ map variable l.params → length vars ≡ length l.params
variables_long ts vars l e = sym (length-map vars (tree_at ts)) ∙ ap length e ∙ length-map l.params variable

pub marks_are_long : (ts : List Tree) (vars : List TermId) (l : PlainLinear) (marks : List Bool) → trees_at ts vars ≡ map variable l.params → AreMarked ts vars l.summands marks → length marks ≡ length l.params
marks_are_long ts vars l marks e m = ap length m.are ∙ length-map vars _ ∙ variables_long ts vars l e

pub if_ok : {A E : Type 0} (r : Result A E) (P Q : A → Type 0) → ((a : A) → P a → Q a) → IfOk r P → IfOk r Q
if_ok (Ok a) P Q f h = f a h
if_ok (Err e) P Q f h = h

pub some_place : (count place : ℕ) (ss : List PlainSummand) → place < count → HaveNextTerms count ss → All (λ (s : PlainSummand). IfSome s.next (λ ids. place < length ids)) ss
some_place count place ss l h = All-weaker (λ (s : PlainSummand). IfSome s.next (λ ids. length ids ≡ count)) (λ (s : PlainSummand). IfSome s.next (λ ids. place < length ids)) (λ s k. longer s.next k) ss h
  where
    longer : (next : Option (List TermId)) → IfSome next (λ ids. length ids ≡ count) → IfSome next (λ ids. place < length ids)
    longer None k = k
    longer (Some ids) k = omega (arith, l, k)

-- ---- the result
module _ (ts us : List Tree) (l k : PlainLinear) (vars : List TermId) (marks : List Bool) (e : Extends ts us) (inside : AreIn us vars) (are : trees_at us vars ≡ map variable l.params) (marked : AreMarked us vars l.summands marks) (is : k ≡ kept_linear (fates_of marks) l) (g : Sig) (stands : IsSignature g) (fits : Fits g ts l) where
  now : Fits g us l
  now = fits_on g ts us l stands e fits

  next_for : HaveNextTerms (length vars) l.summands
  next_for = subst (λ n. HaveNextTerms n l.summands) (sym (variables_long us vars l are)) (next_terms g ts l fits)

  graph : IsUseGraph us l vars marked.edges
  graph = record { uses = marked.uses; inside = inside; are = are; next = next_for; summands = summands_inside g us l now }

  the_needed : KeepTheNeeded (linear_of (entries_of g us) l) (fates_of marks)
  the_needed = keep_the_needed g us l vars marks marked graph (marks_are_long us vars l marks are marked)

  pub made_fits : Fits g us k
  made_fits = subst (λ z. Fits g us z) (sym is) (left_fits g us (fates_of marks) l now the_needed)

  pub made_is_left : IsWithoutTheUnneeded g us l k
  made_is_left = subst (λ z. IsWithoutTheUnneeded g us l z) (sym is) (record {
    fates = fates_of marks;
    needed = the_needed;
    is = refl;
    bisimilar = left_bisimilar g us (fates_of marks) l stands now the_needed;
  })
