-- Printed texts are canonical.
use Rattle.std.proofs.Common.{◌≡◌, ◌≤◌, ℕ, Bool, true, List, [], ◌∷◌, ◌++◌, length, map, Option, Some, None, inl, inr, refl, sym, ap, ◌∙◌, subst, append-nil}
use Rattle.std.specs.List.{All, AllByRecursion, Contains}
use Rattle.std.proofs.lemmas.List.{length-map}
use Rattle.std.proofs.lemmas.List.Elements.{All-contains}
use Rattle.data_theory.specs.declared.ids.NameId.{NameId}
use Rattle.data_theory.specs.declared.ids.VarId.{VarId}
use Rattle.data_theory.specs.Terms.{Sort, truth, falsity, negation, conjunction, disjunction, implication, equality, inequality, conditional, comparison, arithmetic, minus, upcast, empty, cons, snoc, concatenation, size, element_at, head, rhead, tail, rtail, membership, function, Term, Terms, variable, unknown, application}
use Rattle.data_theory.specs.Terms as terms
use Rattle.data_theory.specs.Environments.{AreDistinct}
use Rattle.data_theory.specs.Equations.{trueᵗ}
use Rattle.data_theory.specs.Signature.{Sig}
use Rattle.data_theory.specs.IdData.{data_meant}
use Rattle.data_theory.specs.IdTrees.{Tree}
use Rattle.data_theory.specs.Structs.{numbers_from}
use Rattle.data_theory.specs.WholeSignatures.{IsSignature}
use Rattle.mcrl2_syntax.proofs.Lists.{all_both}
use Rattle.term_pool.proofs.Lists.{contains_head, contains_tail, contains_map, contained_from_map}
use Rattle.process_terms.specs.Meanings.{Entries, bound_at, term_at}
use Rattle.process_terms.specs.Processes.{Bound}
use Rattle.process_terms.specs.SignatureEntries.{entries_of, BothGrow}
use Rattle.bisim_laws.specs.LinearProcesses.{Summand}
use Rattle.lps_core.specs.CanonicalConditions.{HasNoNeedlessTrue, HaveNoNeedlessTrue}
use Rattle.lps_core.specs.Conditions.{parts}
use Rattle.lps_core.specs.Fitting.{Fits, SummandFits, IsVariable, HasTakenName}
use Rattle.lps_core.specs.Naming.{name_of, names_of, function_names, IsUsed, HasOwnNames, HaveOwnNames, ParamsHaveOwnNames}
use Rattle.lps_core.specs.PlainLinears.{PlainSummand, PlainLinear, summand_of, linear_of, initial_of}
use Rattle.lps_core.proofs.NamedSums.{variable_kept, name_kept, taken_name}
use Rattle.lps_core.proofs.Staying.{summand_stays}
use Rattle.sort_table.specs.Expressions.{Name}
use Rattle.sort_table.specs.SignatureVocabularies.{text_under}
use Rattle.lps_printer.specs.DataLayout.{IsIdentifier}
use Rattle.lps_printer.specs.EmptyLists.{empty_or, all_opened, filled, filled_all}
use Rattle.lps_printer.specs.FilledLinears.{Constants, filled_linear, filled_summand, filled_terms}
use Rattle.lps_printer.specs.FoundConstants.{constant_among}
use Rattle.lps_printer.specs.GrowingByConstants.{GrowsByConstants}
use Rattle.lps_printer.specs.LinearBack.{EachTwo}
use Rattle.lps_printer.specs.SignatureNames.{text_names_under}
use Rattle.lps_printer.specs.WrittenProcesses.{TextNames}
use Rattle.lps_printer.specs.CanonicalTexts.{DifferInName, IsNoFunction, AreToldByName, IsCanonical, PrintedTextsAreCanonical}
use Rattle.lps_printer.proofs.ConstantWording.{found_differ}
use Rattle.lps_printer.proofs.FittingLinears.{each_mapped, unused_still}
use Rattle.lps_printer.proofs.FoundConstants.{there_are_constants}
use Rattle.lps_printer.proofs.GrowingByConstants.{on_added, two_both}
use Rattle.lps_printer.proofs.VariableNames.{variable_named, same_name, no_function}

-- ---- conditions
-- neither the empty list nor its constant has further parts
empty_part : (k : Option ℕ) (s : Sort) → parts (empty_or k s) ≡ empty_or k s ∷ []
empty_part None s = refl
empty_part (Some k) s = refl

-- or is `true`
never_true : (k : Option ℕ) (s : Sort) → empty_or k s ≡ trueᵗ → ⊥
never_true None s e = absurd cc
never_true (Some k) s e = absurd cc

module _ (c : Constants) (o : ℕ → Bool) where
  no_arguments : (ts : Terms) → all_opened (filled_all c o ts) ≡ terms.none → ts ≡ terms.none
  no_arguments terms.none e = refl
  no_arguments (terms.more t ts) e = absurd cc

  was_true : (t : Term) → (filled c o t).opened ≡ trueᵗ → t ≡ trueᵗ
  was_true (variable v) e = absurd cc
  was_true (terms.numeral s z) e = absurd cc
  was_true (unknown d k) e = absurd cc
  was_true (application truth ts) e = let none : all_opened (filled_all c o ts) ≡ terms.none = cc in ap (application truth) (no_arguments ts none)
  was_true (application conjunction ts) e = absurd cc
  was_true (application (empty s) ts) e = absurd (never_true (c s) s e)
  was_true (application falsity ts) e = absurd cc
  was_true (application negation ts) e = absurd cc
  was_true (application disjunction ts) e = absurd cc
  was_true (application implication ts) e = absurd cc
  was_true (application (equality s) ts) e = absurd cc
  was_true (application (inequality s) ts) e = absurd cc
  was_true (application (conditional s) ts) e = absurd cc
  was_true (application (comparison k s) ts) e = absurd cc
  was_true (application (arithmetic op ss to) ts) e = absurd cc
  was_true (application (minus s) ts) e = absurd cc
  was_true (application (upcast s to) ts) e = absurd cc
  was_true (application (cons s) ts) e = absurd cc
  was_true (application (snoc s) ts) e = absurd cc
  was_true (application (concatenation s) ts) e = absurd cc
  was_true (application (size s) ts) e = absurd cc
  was_true (application (element_at s) ts) e = absurd cc
  was_true (application (head s) ts) e = absurd cc
  was_true (application (rhead s) ts) e = absurd cc
  was_true (application (tail s) ts) e = absurd cc
  was_true (application (rtail s) ts) e = absurd cc
  was_true (application (membership s) ts) e = absurd cc
  was_true (application (function k) ts) e = absurd cc

  parts_filled : (t : Term) → parts (filled c o t).opened ≡ map (λ (p : Term). (filled c o p).opened) (parts t)
  parts_filled (variable v) = refl
  parts_filled (terms.numeral s z) = refl
  parts_filled (unknown d k) = refl
  parts_filled (application conjunction terms.none) = refl
  parts_filled (application conjunction (terms.more t terms.none)) = refl
  parts_filled (application conjunction (terms.more t (terms.more u terms.none))) = ap (λ (ps : List Term). (filled c o t).opened ∷ ps) (parts_filled u)
  parts_filled (application conjunction (terms.more t (terms.more u (terms.more v ts)))) = refl
  parts_filled (application (empty s) ts) = empty_part (c s) s
  parts_filled (application truth ts) = refl
  parts_filled (application falsity ts) = refl
  parts_filled (application negation ts) = refl
  parts_filled (application disjunction ts) = refl
  parts_filled (application implication ts) = refl
  parts_filled (application (equality s) ts) = refl
  parts_filled (application (inequality s) ts) = refl
  parts_filled (application (conditional s) ts) = refl
  parts_filled (application (comparison k s) ts) = refl
  parts_filled (application (arithmetic op ss to) ts) = refl
  parts_filled (application (minus s) ts) = refl
  parts_filled (application (upcast s to) ts) = refl
  parts_filled (application (cons s) ts) = refl
  parts_filled (application (snoc s) ts) = refl
  parts_filled (application (concatenation s) ts) = refl
  parts_filled (application (size s) ts) = refl
  parts_filled (application (element_at s) ts) = refl
  parts_filled (application (head s) ts) = refl
  parts_filled (application (rhead s) ts) = refl
  parts_filled (application (tail s) ts) = refl
  parts_filled (application (rtail s) ts) = refl
  parts_filled (application (membership s) ts) = refl
  parts_filled (application (function k) ts) = refl

  -- what is filled has the parts that were there, each filled
  needless_still : (t : Term) → HasNoNeedlessTrue t → HasNoNeedlessTrue (filled c o t).opened
  needless_still t h long among =
      let fill : Term → Term = λ (p : Term). (filled c o p).opened in
      let same : parts (filled c o t).opened ≡ map fill (parts t) = parts_filled t in
      let r = contained_from_map fill (parts t) trueᵗ (subst (λ (ps : List Term). Contains ps trueᵗ) same among) in
      h (subst (λ (n : ℕ). 2 ≤ n) (ap length same ∙ length-map (parts t) fill) long) (subst (Contains (parts t)) (was_true r.0 r.2) r.1)

-- ---- names
module _ (g h : Sig) (sg : IsSignature g) (sh : IsSignature h) (w : GrowsByConstants g h) (ts : List Tree) (x : Name) where
  abbrev e : Entries
  e = entries_of h ts

  abbrev n : TextNames
  n = text_names_under h x

  -- numbers of names that differ stay, and so the texts differ
  texts_differ : (a b : VarId) → IsVariable g a → IsVariable g b → ((name_of g a).0 ≡ (name_of g b).0 → ⊥) → DifferInName n (bound_at e a) (bound_at e b)
  texts_differ a b k l never q =
      let here = variable_kept g h a w.grown k in
      let there = variable_kept g h b w.grown l in
      let texts : text_under h (name_of h a) ≡ text_under h (name_of h b) = sym (variable_named h sh a here) ∙ q ∙ variable_named h sh b there in
      never (ap (λ (m : NameId). m.0) (sym (name_kept g h a w.grown k)) ∙ same_name h sh a b here there texts ∙ ap (λ (m : NameId). m.0) (name_kept g h b w.grown l))

  bounds_differ : (xs : List VarId) → ((v : VarId) → Contains xs v → IsVariable g v) → AreDistinct (map (λ (m : NameId). m.0) (names_of g xs)) → EachTwo (DifferInName n) (map (bound_at e) xs)
  bounds_differ [] k d = tt
  bounds_differ (v ∷ xs) k d = (
    each_mapped (DifferInName n (bound_at e v)) (bound_at e) xs (λ u i. texts_differ v u (k v (contains_head v xs)) (k u (contains_tail v u xs i)) (λ q. d.0 (subst (Contains (map (λ (m : NameId). m.0) (names_of g xs))) (sym q) (number_among u i)))),
    bounds_differ xs (λ u i. k u (contains_tail v u xs i)) d.1,
  )
    where
      number_among : (u : VarId) → Contains xs u → Contains (map (λ (m : NameId). m.0) (names_of g xs)) (name_of g u).0
      number_among u i = contains_map (λ (m : NameId). m.0) (names_of g xs) (name_of g u) (contains_map (name_of g) xs u i)

  no_function_still : (v : VarId) → IsVariable g v → HasTakenName g v → ¬ (Contains (function_names g) (name_of g v)) → IsNoFunction (data_meant h) n (bound_at e v)
  no_function_still v k taken own f is identifier q =
      let here = variable_kept g h v w.grown k in
      let text : text_under h (name_of h v) ≡ (text_names_under h x).terms.variable v.0 = sym (variable_named h sh v here) in
      no_function h sh v here (λ i. unused_still g h sg sh w (name_of g v) (taken_name g v k taken) own (subst (Contains (function_names h)) (name_kept g h v w.grown k) i)) (subst IsIdentifier (sym (text ∙ q)) identifier) f is (text ∙ q)

  -- ---- of a linear process
  module _ (l : PlainLinear) (fits : Fits g ts l) (params_own : ParamsHaveOwnNames g l.params) (sums_own : HaveOwnNames g l) where
    param_there : (v : VarId) → Contains l.params v → IsVariable g v
    param_there v i = All-contains (IsVariable g) l.params v fits.params i

    params_told : AreToldByName (data_meant h) n (map (bound_at e) l.params)
    params_told = record {
      differ = bounds_differ l.params param_there params_own.differ;
      unused = each_mapped (IsNoFunction (data_meant h) n) (bound_at e) l.params (λ v i. no_function_still v (param_there v i)
          (All-contains (HasTakenName g) l.params v fits.taken i) (All-contains (λ (y : VarId). ¬ (Contains (function_names g) (name_of g y))) l.params v params_own.unused i));
    }

    module _ (s : PlainSummand) (among : Contains l.summands s) where
      its_names : HasOwnNames g l.params s
      its_names = All-contains (HasOwnNames g l.params) l.summands s sums_own among

      sum_there : (v : VarId) → Contains s.sums v → IsVariable g v
      sum_there v i = All-contains (IsVariable g) s.sums v (All-contains (SummandFits g ts l.params) l.summands s fits.summands among).sums i

      sum_unused : (v : VarId) → Contains s.sums v → ¬ (IsUsed g l.params (name_of g v))
      sum_unused v i = All-contains (λ (y : VarId). ¬ (IsUsed g l.params (name_of g y))) s.sums v its_names.0 i

      sum_taken : (v : VarId) → Contains s.sums v → HasTakenName g v
      sum_taken v i = All-contains (HasTakenName g) s.sums v (All-contains (λ (r : PlainSummand). All (HasTakenName g) r.sums) l.summands s fits.sums_taken among) i

      param_no_sum : (a b : VarId) → Contains l.params a → Contains s.sums b → (name_of g a).0 ≡ (name_of g b).0 → ⊥
      param_no_sum a b i j q =
          let name : name_of g a ≡ name_of g b = (λ k. record { 0 = q k }) in
          sum_unused b j (inl (subst (Contains (names_of g l.params)) name (contains_map (name_of g) l.params a i)))

      both_told : AreToldByName (data_meant h) n (map (bound_at e) l.params ++ map (bound_at e) s.sums)
      both_told = record {
        differ = two_both (DifferInName n) (map (bound_at e) l.params) (map (bound_at e) s.sums) params_told.differ (bounds_differ s.sums sum_there its_names.1) (λ a b i j.
            let p = contained_from_map (bound_at e) l.params a i in
            let r = contained_from_map (bound_at e) s.sums b j in
            subst (λ (y : Bound). DifferInName n y b) p.2 (subst (DifferInName n (bound_at e p.0)) r.2 (texts_differ p.0 r.0 (param_there p.0 p.1) (sum_there r.0 r.1) (param_no_sum p.0 r.0 p.1 r.1))));
        unused = all_both (IsNoFunction (data_meant h) n) (map (bound_at e) l.params) (map (bound_at e) s.sums) params_told.unused
            (each_mapped (IsNoFunction (data_meant h) n) (bound_at e) s.sums (λ v i. no_function_still v (sum_there v i) (sum_taken v i) (λ q. sum_unused v i (inr q))));
      }

    -- each summand, with constants in the place of empty lists
    each_filled : (c : Constants) (P : Summand → Type 0) → ((s : PlainSummand) → Contains l.summands s → P (filled_summand c n (summand_of e s))) → AllByRecursion P (filled_linear c n (linear_of e l)).summands
    each_filled c P k = from_each l.summands (λ s i. i)
      where
        from_each : (ss : List PlainSummand) → ((s : PlainSummand) → Contains ss s → Contains l.summands s) → AllByRecursion P (map (filled_summand c n) (map (summand_of e) ss))
        from_each [] i = tt
        from_each (s ∷ ss) i = (k s (i s (contains_head s ss)), from_each ss (λ r j. i r (contains_tail s r ss j)))

    grow : BothGrow g h ts ts
    grow = record { signature = w.grown; pool = ([], sym (append-nil ts)) }

    condition_same : (s : PlainSummand) → Contains l.summands s → term_at e s.condition ≡ term_at (entries_of g ts) s.condition
    condition_same s i = ap (λ (t : Summand). t.condition) (summand_stays g h ts ts sg.table sg.complete grow l.params s (All-contains (SummandFits g ts l.params) l.summands s fits.summands i))

    is_canonical : (c : Constants) → HaveNoNeedlessTrue g ts l → IsCanonical (data_meant h) n (filled_linear c n (linear_of e l))
    is_canonical c needed = record {
      parameters = params_told;
      sums = each_filled c (λ (s : Summand). AreToldByName (data_meant h) n (map (bound_at e) l.params ++ s.sums)) both_told;
      conditions = each_filled c (λ (s : Summand). HasNoNeedlessTrue s.condition) (λ s i. needless_still c n.terms.once (term_at e s.condition)
          (subst HasNoNeedlessTrue (sym (condition_same s i)) (All-contains (λ (r : PlainSummand). HasNoNeedlessTrue (term_at (entries_of g ts) r.condition)) l.summands s needed i)));
    }

pub printed_texts_are_canonical : PrintedTextsAreCanonical
printed_texts_are_canonical spec g h ts x l text sg sh fits params_own sums_own needless is =
    let y : Name = text_under h x in
    let n : TextNames = text_names_under h y in
    let c : Constants = constant_among (length g.declared) is.needed in
    let w : GrowsByConstants g h = (on_added g h is.sorts is.added).grows in
    record {
      linear = filled_linear c n (linear_of (entries_of h ts) l);
      initial = filled_terms c n true (initial_of (entries_of h ts) l);
      constants = numbers_from (length g.functions) (length is.needed);
      layout = is.written c (there_are_constants (length g.declared) is.needed (found_differ is.finds));
      canonical = is_canonical g h sg sh w ts y l fits params_own sums_own c needless;
    }
