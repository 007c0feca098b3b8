-- The sorts in the vocabulary of a signature are sorts of its data.
use Rattle.std.proofs.Common.{◌≡◌, ◌<◌, Bool, true, false, cond, List, [], ◌∷◌, map, length, refl, sym, subst, Some}
use Rattle.std.specs.Prelude.{Option, None, bytes_eq}
use Rattle.std.specs.Option.{option_map, option_and_then}
use Rattle.std.specs.List.{All, AllByRecursion}
use Rattle.std.proofs.lemmas.List.Elements.{All-head, All-tail}
use Rattle.data_theory.specs.declared.ids.NameId.{NameId}
use Rattle.data_theory.specs.declared.ids.SortId.{SortId}
use Rattle.data_theory.specs.Keys.{Key}
use Rattle.data_theory.specs.Complete.{IsActionWithin}
use Rattle.data_theory.specs.Terms.{Sort, boolean, positive, natural, integer, list}
use Rattle.data_theory.specs.Declarations.{Data, IsSort}
use Rattle.data_theory.specs.Signature.{Sig}
use Rattle.data_theory.specs.WholeSignatures.{IsSignature}
use Rattle.data_theory.specs.IdData.{data_meant}
use Rattle.data_theory.specs.IdTerms.{sort_under}
use Rattle.data_theory.proofs.IdSortLemmas.{meant_is_sort}
use Rattle.sort_table.specs.Expressions.{Name}
use Rattle.sort_table.specs.BareSorts.{SortExpression, truth_values, positives, naturals, integers, lists_of, a_name}
use Rattle.sort_table.specs.BareProcesses.{Variables}
use Rattle.sort_table.specs.BareDeclarations.{Section, declarations_in}
use Rattle.sort_table.specs.NamedLists.{first_named}
use Rattle.sort_table.specs.Vocabularies.{Vocabulary, sort_in, EachPair}
use Rattle.sort_table.specs.SignatureVocabularies.{sort_name_under, action_under}
use Rattle.data_typing.specs.TypingLaws.{IsOverData}
use Rattle.sort_checker.specs.FullVocabularies.{Parameters, FullVocabulary, parameters_in, Written, processes_in, IsEntry, IsOver}
use Rattle.sort_checker.specs.FittingBodies.{IsOverSorts}
use Rattle.sort_checker.proofs.OverSignatures.{data_over}

module _ (g : Sig) (sg : IsSignature g) where
  abbrev d : Data
  d = data_meant g

  pub is_sort : (s : SortId) → s.0 < length g.sorts → IsSort d (sort_under g s)
  is_sort s l = meant_is_sort d g.sorts sg.table.sorts refl (sort_under g s) s l refl

  -- ---- the tables
  names_are : (es : List (NameId × SortId)) → All (λ (e : NameId × SortId). (e.0.0 < length g.texts) × (e.1.0 < length g.sorts)) es → AllByRecursion (λ (n : Name × Sort). IsSort d n.1) (map (sort_name_under g) es)
  names_are [] h = tt
  names_are (e ∷ es) h = (is_sort e.1 (All-head (λ (e : NameId × SortId). (e.0.0 < length g.texts) × (e.1.0 < length g.sorts)) e es h).1, names_are es (All-tail (λ (e : NameId × SortId). (e.0.0 < length g.texts) × (e.1.0 < length g.sorts)) e es h))

  sorts_are : (ss : List SortId) → All (λ (s : SortId). s.0 < length g.sorts) ss → AllByRecursion (IsSort d) (map (sort_under g) ss)
  sorts_are [] h = tt
  sorts_are (s ∷ ss) h = (is_sort s (All-head (λ (s : SortId). s.0 < length g.sorts) s ss h), sorts_are ss (All-tail (λ (s : SortId). s.0 < length g.sorts) s ss h))

  actions_are : (as_ : List Key) → All (IsActionWithin (length g.texts) (length g.sorts)) as_ → AllByRecursion (λ (a : Name × List Sort). AllByRecursion (IsSort d) a.1) (map (action_under g) as_)
  actions_are [] h = tt
  actions_are (a ∷ as_) h = (sorts_are a.sorts (All-head (IsActionWithin (length g.texts) (length g.sorts)) a as_ h).takes, actions_are as_ (All-tail (IsActionWithin (length g.texts) (length g.sorts)) a as_ h))

-- ---- parameters
some_same : {A : Type 0} (a b : A) → Some a ≡ Some b → a ≡ b
some_same a b h = cc

named_is : (d : Data) (ns : List (Name × Sort)) → AllByRecursion (λ (n : Name × Sort). IsSort d n.1) ns → (x : Name) (s : Sort) → first_named x ns ≡ Some s → IsSort d s
named_is d [] h x s e = absurd cc
named_is d (n ∷ ns) h x s e = by_test (bytes_eq n.0 x) (named_is d ns h.1 x s) e
  where
    by_test : (b : Bool) → (first_named x ns ≡ Some s → IsSort d s) → cond b (Some n.1) (first_named x ns) ≡ Some s → IsSort d s
    by_test true rest k = let same : n.1 ≡ s = cc in subst (IsSort d) same h.0
    by_test false rest k = rest k

list_is : (d : Data) (o : Option Sort) (s : Sort) → ((r : Sort) → o ≡ Some r → IsSort d r) → option_map list o ≡ Some s → IsSort d s
list_is d None s w e = absurd cc
list_is d (Some r) s w e = subst (IsSort d) (some_same (list r) s e) (w r refl)

expression_is : (d : Data) (ns : List (Name × Sort)) → AllByRecursion (λ (n : Name × Sort). IsSort d n.1) ns → (e : SortExpression) (s : Sort) → sort_in ns e ≡ Some s → IsSort d s
expression_is d ns h truth_values s e = subst (IsSort d) (some_same boolean s e) tt
expression_is d ns h positives s e = subst (IsSort d) (some_same positive s e) tt
expression_is d ns h naturals s e = subst (IsSort d) (some_same natural s e) tt
expression_is d ns h integers s e = subst (IsSort d) (some_same integer s e) tt
expression_is d ns h (lists_of f) s e = list_is d (sort_in ns f) s (λ r q. expression_is d ns h f r q) e
expression_is d ns h (a_name x) s e = named_is d ns h x s e

first_is : (d : Data) (n : Name) (o : Option Sort) (r : Option Parameters) (ps : Parameters) → ((s : Sort) → o ≡ Some s → IsSort d s) → ((qs : Parameters) → r ≡ Some qs → AllByRecursion (λ (x : Name × Sort). IsSort d x.1) qs)
    → option_and_then (λ s. option_map (λ qs. (n, s) ∷ qs) r) o ≡ Some ps → AllByRecursion (λ (x : Name × Sort). IsSort d x.1) ps
first_is d n None r ps w v e = absurd cc
first_is d n (Some s) None ps w v e = absurd cc
first_is d n (Some s) (Some qs) ps w v e = subst (AllByRecursion (λ (x : Name × Sort). IsSort d x.1)) (some_same ((n, s) ∷ qs) ps e) (w s refl, v qs refl)

parameters_are : (d : Data) (ns : List (Name × Sort)) → AllByRecursion (λ (n : Name × Sort). IsSort d n.1) ns → (xs : Variables) (ps : Parameters) → parameters_in ns xs ≡ Some ps → AllByRecursion (λ (x : Name × Sort). IsSort d x.1) ps
parameters_are d ns h [] ps e = subst (AllByRecursion (λ (x : Name × Sort). IsSort d x.1)) (some_same [] ps e) tt
parameters_are d ns h (x ∷ xs) ps e = first_is d x.0 (sort_in ns x.1) (parameters_in ns xs) ps (λ s q. expression_is d ns h x.1 s q) (λ qs q. parameters_are d ns h xs qs q) e

processes_are : (d : Data) (v : Vocabulary) → AllByRecursion (λ (n : Name × Sort). IsSort d n.1) v.sort_names → (ws : List Written) (qs : List (Name × Parameters)) → EachPair (IsEntry v) ws qs
    → AllByRecursion (λ (p : Name × Parameters). AllByRecursion (λ (x : Name × Sort). IsSort d x.1) p.1) qs
processes_are d v h [] [] a = tt
processes_are d v h [] (q ∷ qs) a = absurd a
processes_are d v h (w ∷ ws) [] a = absurd a
processes_are d v h (w ∷ ws) (q ∷ qs) a = (parameters_are d v.sort_names h w.parameters q.1 a.0.parameters, processes_are d v h ws qs a.1)

pub over_sorts : (g : Sig) → IsSignature g → (ss : List Section) (v : FullVocabulary) → IsOver g ss v → IsOverSorts v
over_sorts g sg ss v over =
    let names = names_are g sg g.sort_names sg.complete.within.sort_names in
    let d = data_meant g in
    let same = over.declared in
    record {
      data_are = subst IsOverData (sym same) (data_over g sg);
      names = subst (λ (w : Vocabulary). AllByRecursion (λ (n : Name × Sort). IsSort w.tables n.1) w.sort_names) (sym same) names;
      actions = subst (λ (w : Vocabulary). AllByRecursion (λ (a : Name × List Sort). AllByRecursion (IsSort w.tables) a.1) w.actions) (sym same) (actions_are g sg g.actions sg.complete.within.actions);
      parameters = processes_are v.declared.tables v.declared (subst (λ (w : Vocabulary). AllByRecursion (λ (n : Name × Sort). IsSort w.tables n.1) w.sort_names) (sym same) names) (processes_in (declarations_in ss)) v.processes over.processes;
    }
