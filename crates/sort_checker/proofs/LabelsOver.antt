-- Labels over a signature to which nothing is added.
use Rattle.std.proofs.Common.{◌≡◌, ◌<◌, ℕ, zero, suc, List, [], ◌∷◌, ◌++◌, length, map, get_or, refl, sym, subst, ap, ◌∙◌, arith}
use Rattle.std.specs.Prelude.{Option, Some, None, IfSome}
use Rattle.std.specs.List.{All, AllByRecursion}
use Rattle.std.proofs.lemmas.Option.{same_Some}
use Rattle.std.proofs.lemmas.List.Elements.{All-nil}
use Rattle.data_theory.specs.declared.ids.TermId.{TermId}
use Rattle.data_theory.specs.Terms.{Sort, Term}
use Rattle.data_theory.specs.Declarations.{HasSort, HaveSorts}
use Rattle.data_theory.specs.Environments.{terms_of}
use Rattle.data_theory.specs.Signature.{Sig}
use Rattle.data_theory.specs.WholeSignatures.{IsSignature}
use Rattle.data_theory.specs.IdData.{data_meant}
use Rattle.data_theory.specs.IdTrees.{Tree}
use Rattle.data_theory.specs.IdTerms.{variable_sorts, IsTreeWithin}
use Rattle.term_pool.specs.HeadTrees.{IsIn}
use Rattle.term_pool.specs.Pools.{PoolContents, Extends}
use Rattle.data_typing.specs.declared.scope.Bound.{Bound}
use Rattle.data_typing.specs.declared.sort_tables.SortTables.{SortTables}
use Rattle.data_typing.specs.CodeParts.{term_at}
use Rattle.data_typing.specs.CodeWords.{scope_of}
use Rattle.data_typing.specs.Contexts.{AreTablesOf, IsBoundOver, IsScopeOver}
use Rattle.data_typing.specs.StandingSorts.{HasItsSortsIn, IsFoundIn}
use Rattle.mcrl2_syntax.specs.ProcessParts.{PlainAction, PlainLabel}
use Rattle.mcrl2_syntax.specs.TreeWords.{IsActionOfWords, IsLabelOfWords}
use Rattle.process_terms.specs.PlainProcesses as plain
use Rattle.process_terms.specs.Labels.{Action, Label}
use Rattle.sort_table.specs.BareProcesses.{bare_action}
use Rattle.sort_table.specs.SignatureVocabularies.{vocabulary_of}
use Rattle.sort_checker.specs.Additions.{nothing, GoesOn}
use Rattle.sort_checker.specs.CodeContexts.{IsReady, IsNumbered, SeesData}
use Rattle.sort_checker.specs.ElaboratedLabels.{IsAction}
use Rattle.sort_checker.specs.ElaboratedParts.{IsTerm}
use Rattle.sort_checker.specs.FittingBodies.{IsLabelOver}
use Rattle.sort_checker.specs.FullVocabularies.{FullVocabulary}
use Rattle.sort_checker.specs.PartTypings.{label_in}
use Rattle.sort_checker.specs.TypedLabels.{FitsItsSorts, ActionHasItsSortsIn, IsTakenIn, IsActionIn, IsLabelIn, IsClosedLabelIn}
use Rattle.sort_checker.proofs.Adding.{goes_nowhere}
use Rattle.sort_checker.proofs.SignatureSorts.{over_sorts}
use Rattle.sort_checker.proofs.SmallNumerals.{small_actions}
use Rattle.sort_checker.proofs.SortedParts.{label_fits}
use Rattle.sort_checker.proofs.WhatStays.{it_is_a_term}

-- one of several terms has a sort
pub sorted_here : (g : Sig) (vs : List Sort) (us : List Term) (ss : List Sort) → HaveSorts (data_meant g) vs (terms_of us) ss → (i : ℕ) (u : Term) → i < length us → u ≡ get_or us i u → (s : Sort) × HasSort (data_meant g) vs u s
sorted_here g vs [] ss h i u l at = absurd (let never : ⊥ = omega (arith, l) in never)
sorted_here g vs (t ∷ us) [] h i u l at = absurd h
sorted_here g vs (t ∷ us) (s ∷ ss) h zero u l at = (s, subst (λ x. HasSort (data_meant g) vs x s) (sym at) h.0)
sorted_here g vs (t ∷ us) (s ∷ ss) h (suc i) u l at = sorted_here g vs us ss h.1 i u (omega (arith, l)) at

-- what holds of terms holds of one more
pub all_and_one : {A : Type 0} (P : A → Type 0) (xs ys : List A) (x : A) → ys ≡ xs ++ x ∷ [] → AllByRecursion P xs → P x → AllByRecursion P ys
all_and_one P xs ys x e all one = subst (AllByRecursion P) (sym e) (behind xs all)
  where
    behind : (zs : List _) → AllByRecursion P zs → AllByRecursion P (zs ++ x ∷ [])
    behind [] h = (one, tt)
    behind (z ∷ zs) h = (h.0, behind zs h.1)

-- ---- with nothing in scope
-- the vocabulary of a signature alone
abbrev pub alone : Sig → FullVocabulary
alone g = record { declared = vocabulary_of g; processes = [] }

fits : (g : Sig) (vs : List Sort) (m : Label) → IsLabelOver (alone g) [] m → AllByRecursion (FitsItsSorts g vs) m
fits g vs [] h = tt
fits g vs (a ∷ m) h = (h.0.1 vs tt, fits g vs m h.1)

-- a label with nothing in scope has arguments of its sorts, over any variables
pub closed_label_fits : (g : Sig) → IsSignature g → (as_ : List PlainAction) → AllByRecursion IsActionOfWords as_ → (m : Label) → label_in (vocabulary_of g) [] (map bare_action as_) ≡ Some m → (vs : List Sort) → AllByRecursion (FitsItsSorts g vs) m
closed_label_fits g signature as_ words m e vs =
    fits g vs m (label_fits (alone g) (over_sorts g signature [] (alone g) (record { declared = refl; processes = tt })) [] tt (map bare_action as_) m (small_actions as_ words) e)

-- ---- what was found
-- the term that was found is the one that is wished
pub found_here : (g : Sig) (p : PoolContents) → IsSignature g → All (IsTreeWithin g) p.trees → (want : Option Term) (u : Term) → want ≡ Some u → (o : Option TermId) (id : TermId) → o ≡ Some id → IsFoundIn g p.trees want o → IfSome o (IsIn p.trees) → IsTerm g p id u × HasItsSortsIn g u
found_here g p signature trees want u e o id is found inside =
    let here : IsFoundIn g p.trees want (Some id) = subst (IsFoundIn g p.trees want) is found in
    let same : term_at g p.trees id ≡ u = same_Some (term_at g p.trees id) u (sym here.0 ∙ e) in
    (subst (IsTerm g p id) same (it_is_a_term g p signature trees id (subst (λ (x : Option TermId). IfSome x (IsIn p.trees)) is inside)), subst (HasItsSortsIn g) same here.1)

-- where nothing was found, the one that is wished has a sort that isn't there
pub not_found_here : (g : Sig) (ts : List Tree) (want : Option Term) (u : Term) → want ≡ Some u → (o : Option TermId) → o ≡ None → IsFoundIn g ts want o → (s : Sort) → HasSort (data_meant g) (variable_sorts g) u s → HasItsSortsIn g u → ⊥
not_found_here g ts want u e o is found s has in_ = subst (IsFoundIn g ts want) is found u s e has in_

pub goes_over : (g : Sig) (p q : PoolContents) → Extends p.trees q.trees → q.constants ≡ p.constants → GoesOn g p g q
goes_over g p q kept constants = record { added = nothing; kept = kept; constants = constants }

pub ready_over : (g : Sig) (p q : PoolContents) (t : SortTables) (bs : List Bound) → IsReady g p t bs → All (IsTreeWithin g) q.trees → IsReady g q t bs
ready_over g p q t bs ready trees = record { signature = ready.signature; tables = ready.tables; trees = trees; scope = ready.scope; numbers = ready.numbers }

-- an action that was taken is the one that is wished
pub taken_is_wished : (g : Sig) (p : PoolContents) (want : Option Action) (a : Action) → want ≡ Some a → (o : Option plain.PlainAction) → IsTakenIn g p a o → IsActionIn g p want o
taken_is_wished g p want a e None taken = λ b q fits in_. let same : a ≡ b = same_Some a b (sym e ∙ q) in taken (subst (FitsItsSorts g (variable_sorts g)) (sym same) fits) (subst (ActionHasItsSortsIn g) (sym same) in_)
taken_is_wished g p want a e (Some x) taken = (a, e, taken.0, taken.1)

pub the_action_in : (g : Sig) (p : PoolContents) (want : Option Action) (o : Option plain.PlainAction) (x : plain.PlainAction) → o ≡ Some x → IsActionIn g p want o → (a : Action) × (want ≡ Some a) × IsAction g p x a × ActionHasItsSortsIn g a
the_action_in g p want o x e is = subst (IsActionIn g p want) e is

pub no_action_in : (g : Sig) (p : PoolContents) (want : Option Action) (o : Option plain.PlainAction) → o ≡ None → IsActionIn g p want o → (a : Action) → want ≡ Some a → FitsItsSorts g (variable_sorts g) a → ¬ (ActionHasItsSortsIn g a)
no_action_in g p want o e is = subst (IsActionIn g p want) e is

-- what was found with nothing in scope is the closed label of a tree
pub closed_found : (g : Sig) (p : PoolContents) → IsSignature g → (l : PlainLabel) → IsLabelOfWords l → (o : Option (List plain.PlainAction)) → IsLabelIn g p (label_in (vocabulary_of g) [] (map bare_action l.actions)) o → IsClosedLabelIn g p l o
closed_found g p signature l words None found = λ m typed. found m typed.elaborates (closed_label_fits g signature l.actions words m typed.elaborates (variable_sorts g)) typed.sorts
closed_found g p signature l words (Some xs) found = record {
  label = found.0;
  typed = record { elaborates = found.1; sorts = found.3 };
  closed = closed_label_fits g signature l.actions words found.0 found.1 [];
  there = found.2.there g p (goes_nowhere g p);
  means = found.2.means g p (goes_nowhere g p);
}

-- ---- nothing in scope
pub ready_with_nothing : (g : Sig) (p : PoolContents) (t : SortTables) → IsSignature g → AreTablesOf g t → All (IsTreeWithin g) p.trees → (bs : List Bound) → bs ≡ [] → IsReady g p t bs
ready_with_nothing g p t signature tables trees bs none = record {
  signature = signature;
  tables = tables;
  trees = trees;
  scope = subst (IsScopeOver g) (sym none) (All-nil (IsBoundOver g));
  numbers = subst (All (IsNumbered g)) (sym none) (All-nil (IsNumbered g));
}

pub sees_nothing : (g : Sig) (bs : List Bound) → bs ≡ [] → SeesData g bs (vocabulary_of g) []
sees_nothing g bs none = record { vocabulary = refl; variables = ap (scope_of g.texts) (sym none) }
