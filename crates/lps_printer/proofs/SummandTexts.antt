-- The bytes that are printed for the summands of a linear process elaborate to its definition.
use Rattle.std.proofs.Common.{ℕ, Bool, true, false, cond, ⊎_elim, List, [], ◌∷◌, ◌++◌, map, subst}
use Rattle.std.specs.Prelude.{Option, Some, None}
use Rattle.data_theory.specs.Terms.{Sort, boolean, positive, natural, integer, list, named as declared_sort, Term}
use Rattle.data_theory.specs.Environments.{terms_of, IsOver, AreOver}
use Rattle.data_theory.proofs.EnvironmentLemmas.{contains_nothing, contains_cases}
use Rattle.process_terms.specs.Labels.{Action, Label}
use Rattle.process_terms.specs.Processes.{Bound}
use Rattle.data_theory.specs.Declarations.{Data, HaveSorts}
use Rattle.bisim_laws.specs.LinearProcesses.{Summand, Linear, variables, sorts, is_true, LabelIsOver, action_over, NextIsOver, next_over, IsSummand, LabelIsSorted, action_sorted, NextIsSorted, next_sorted, SummandIsSorted}
use Rattle.data_typing.specs.Meanings.{Scope}
use Rattle.sort_checker.specs.FullVocabularies.{FullVocabulary}
use Rattle.lps_printer.specs.DataLayout.{IsIdentifier, AreSpellable}
use Rattle.lps_printer.specs.WrittenTerms.{opens, places, written, written_all}
use Rattle.lps_printer.specs.PrintedProcesses as printed_
use Rattle.lps_printer.specs.PrintedProcesses.{choice_process}
use Rattle.lps_printer.specs.NamedSummands as named
use Rattle.lps_printer.specs.NamedSummands.{IsNamed, AreNamedActions, AreNamedAssignments, AreNamedVariables, IsNamedNext, IsNamedCondition, IsNamedSummand, AreNamedSummands}
use Rattle.lps_printer.proofs.TermTexts.{all_opens, all_places, either_spelled, spelled, spelled_all}
use Rattle.lps_printer.proofs.SummandsBack.{summands_spell_back}
use Rattle.std.specs.List.{AllByRecursion, Contains}
use Rattle.std.proofs.lemmas.List.Elements.{Contains-append_cases}
use Rattle.lps_printer.specs.WrittenProcesses.{TextNames, sort_written, variable_written, action_written, first_written, others_written, is_own, assignments_written, call_written, next_written, summand_written, scope_behind}
use Rattle.lps_printer.specs.LinearBack.{SummandReads}
use Rattle.lps_printer.specs.TermTexts.{AreIdentifiers}
use Rattle.lps_printer.specs.SummandTexts.{HaveIdentifiers, HasIdentifiers, AreNamed, SummandTextsElaborate}
use Rattle.lps_printer.proofs.SmallNumerals.{HasSmallNumerals, HaveSmallNumerals, small, all_small}
use Rattle.lps_printer.proofs.LinearBack.{all_closed_over, tree_back}

named_sort : (n : TextNames) → ((d : ℕ) → IsIdentifier (n.sort d)) → (s : Sort) → IsNamed (sort_written n s)
named_sort n h boolean = tt
named_sort n h positive = tt
named_sort n h natural = tt
named_sort n h integer = tt
named_sort n h (list s) = named_sort n h s
named_sort n h (declared_sort d) = h d

pub named_variables : (n : TextNames) → ((d : ℕ) → IsIdentifier (n.sort d)) → (xs : List Bound) → HaveIdentifiers n xs → AreNamedVariables (map (variable_written n) xs)
named_variables n h [] k = tt
named_variables n h (x ∷ xs) k = ((k.0, named_sort n h x.sort), named_variables n h xs k.1)

-- over these variables
module _ (n : TextNames) (xs : List ℕ) (ids : AreIdentifiers xs n.terms) where
  arguments_spelled : (b : Bool) (ts : List Term) → AreOver xs (terms_of ts) → HaveSmallNumerals (terms_of ts) → AreSpellable (cond b (places (written_all n.terms (terms_of ts))) (opens (written_all n.terms (terms_of ts))))
  arguments_spelled b ts o k =
      let all = spelled_all xs n.terms (terms_of ts) ids o k in
      either_spelled b (places (written_all n.terms (terms_of ts))) (opens (written_all n.terms (terms_of ts))) (all_places all) (all_opens all)

  named_action : (g : Data) (vs : List Sort) (a : Action) → IsIdentifier a.name → AreOver xs (terms_of a.args) → HaveSorts g vs (terms_of a.args) a.sorts → named.IsNamedAction (action_written n a)
  named_action g vs a k o s = (k, arguments_spelled (n.once a.name) a.args o (all_small g vs (terms_of a.args) a.sorts s))

  named_actions : (g : Data) (vs : List Sort) (m : Label) → AllByRecursion (λ (a : Action). IsIdentifier a.name) m → LabelIsOver xs m → LabelIsSorted g vs m → AreNamedActions (map (action_written n) m)
  named_actions g vs [] k o s = tt
  named_actions g vs (a ∷ m) k (action_over o os) (action_sorted s ss) = (named_action g vs a k.0 o s, named_actions g vs m k.1 os ss)

  first_named_so : (g : Data) (vs : List Sort) (m : Label) → AllByRecursion (λ (a : Action). IsIdentifier a.name) m → LabelIsOver xs m → LabelIsSorted g vs m → named.IsNamedAction (first_written n m)
  first_named_so g vs [] k o s = tt
  first_named_so g vs (a ∷ m) k (action_over o os) (action_sorted s ss) = named_action g vs a k.0 o s

  others_named : (g : Data) (vs : List Sort) (m : Label) → AllByRecursion (λ (a : Action). IsIdentifier a.name) m → LabelIsOver xs m → LabelIsSorted g vs m → AreNamedActions (others_written n m)
  others_named g vs [] k o s = tt
  others_named g vs (a ∷ m) k (action_over o os) (action_sorted s ss) = named_actions g vs m k.1 os ss

  one_or_more : (x : printed_.Assignment) (as_ : List printed_.Assignment) (b : Bool) → named.IsNamedAssignment x → AreNamedAssignments as_ → AreNamedAssignments (cond b as_ (x ∷ as_))
  one_or_more x as_ true h k = k
  one_or_more x as_ false h k = (h, k)

  named_assignments : (ys : List Bound) (ts : List Term) → HaveIdentifiers n ys → AreOver xs (terms_of ts) → HaveSmallNumerals (terms_of ts) → AreNamedAssignments (assignments_written n ys ts)
  named_assignments [] ts h o k = tt
  named_assignments (y ∷ ys) [] h o k = tt
  named_assignments (y ∷ ys) (t ∷ ts) h o k =
      one_or_more (record { name = n.terms.variable y.var; value = (written n.terms t).placed }) (assignments_written n ys ts) (is_own y t) (h.0, (spelled xs n.terms t ids o.0 k.0).placed) (named_assignments ys ts h.1 o.1 k.1)

  named_call : IsIdentifier n.process → (ys : List Bound) (ts : List Term) → HaveIdentifiers n ys → AreOver xs (terms_of ts) → HaveSmallNumerals (terms_of ts) → IsNamedNext (call_written n ys ts)
  named_call p [] ts h o k = p
  named_call p (y ∷ ys) ts h o k = (p, named_assignments (y ∷ ys) ts h o k)

  named_next : IsIdentifier n.process → (g : Data) (vs : List Sort) (ys : List Bound) (o : Option (List Term)) → HaveIdentifiers n ys → NextIsOver xs ys o → NextIsSorted g vs (sorts ys) o → IsNamedNext (next_written n ys o)
  named_next p g vs ys None h o k = tt
  named_next p g vs ys (Some ts) h (next_over o long) (next_sorted s) = named_call p ys ts h o (all_small g vs (terms_of ts) (sorts ys) s)

  named_condition : (c : Term) (b : Bool) → IsOver xs c → HasSmallNumerals c → IsNamedCondition (cond b None (Some (written n.terms c).opened))
  named_condition c true o k = tt
  named_condition c false o k = (spelled xs n.terms c ids o k).opened

-- the variables of a summand have identifiers
name_among : (n : TextNames) (xs : List Bound) → HaveIdentifiers n xs → (v : ℕ) → Contains (variables xs) v → IsIdentifier (n.terms.variable v)
name_among n [] h v i = absurd (contains_nothing v i)
name_among n (x ∷ xs) h v i = ⊎_elim (λ e. subst (λ w. IsIdentifier (n.terms.variable w)) e h.0) (λ j. name_among n xs h.1 v j) (contains_cases x.var v (variables xs) i)

summand_names : (n : TextNames) (l : Linear) → AreNamed n l → (s : Summand) → HasIdentifiers n s → AreIdentifiers (variables s.sums ++ variables l.params) n.terms
summand_names n l h s k = record {
  variable = λ v i. ⊎_elim (name_among n s.sums k.sums v) (name_among n l.params h.params v) (Contains-append_cases (variables s.sums) (variables l.params) v i);
  function = h.functions;
}

named_summand : (g : Data) (vs : List Sort) (n : TextNames) (l : Linear) → AreNamed n l → (s : Summand) → HasIdentifiers n s → IsSummand l.params s → SummandIsSorted g vs l.params s → IsNamedSummand (summand_written n l.params s)
named_summand g vs n l h s k shape sorted =
    let xs : List ℕ = variables s.sums ++ variables l.params in
    let ids = summand_names n l h s k in
    record {
      sums = named_variables n h.sorts s.sums k.sums;
      condition = named_condition n xs ids s.condition (is_true s.condition) shape.condition (small g vs s.condition boolean sorted.condition);
      first = first_named_so n xs ids g vs s.label k.actions shape.label sorted.label;
      others = others_named n xs ids g vs s.label k.actions shape.label sorted.label;
      next = named_next n xs ids h.process g vs l.params s.next h.params shape.next sorted.next;
    }

each_named : (v : FullVocabulary) (n : TextNames) (l : Linear) → AreNamed n l → (scope : Scope) (ss : List Summand) → AllByRecursion (HasIdentifiers n) ss → AllByRecursion (SummandReads v n scope l.params) ss → AreNamedSummands (map (summand_written n l.params) ss)
each_named v n l h scope [] k r = tt
each_named v n l h scope (s ∷ ss) k r = (named_summand v.declared.tables r.0.variable_sorts n l h s k.0 r.0.shape r.0.sorted, each_named v n l h scope ss k.1 r.1)

pub named_summands : (v : FullVocabulary) (n : TextNames) (l : Linear) → AreNamed n l → (scope : Scope) → AllByRecursion (SummandReads v n scope l.params) l.summands → AreNamedSummands (map (summand_written n l.params) l.summands)
named_summands v n l h scope r = each_named v n l h scope l.summands h.summands r

-- the initial terms have no variables
pub initial_spelled : (v : FullVocabulary) (n : TextNames) (l : Linear) (ts : List Term) → AreNamed n l → HaveSorts v.declared.tables [] (terms_of ts) (sorts l.params) → AreSpellable (places (written_all n.terms (terms_of ts)))
initial_spelled v n l ts h s =
    let ids : AreIdentifiers [] n.terms = record { variable = λ x i. absurd (contains_nothing x i); function = h.functions } in
    all_places (spelled_all [] n.terms (terms_of ts) ids (all_closed_over v.declared.tables (terms_of ts) (sorts l.params) s) (all_small v.declared.tables [] (terms_of ts) (sorts l.params) s))

pub summand_texts_elaborate : SummandTextsElaborate
summand_texts_elaborate v n params s ss initial h k =
    let scope : Scope = scope_behind n [] params in
    let all = named_summands v n (record { params = params; summands = s ∷ ss }) k scope h.summands in
    let b = summands_spell_back (summand_written n params s) (map (summand_written n params) ss) all.0 all.1 in
    record { tokens = b.tokens; cut = b.cut; tree = b.tree; spells = b.spells; elaborates = tree_back v n (record { params = params; summands = s ∷ ss }) initial h b.tree b.is }
