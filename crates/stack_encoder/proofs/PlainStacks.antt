-- What the encoder makes of a form that is plainly conditioned is plainly conditioned, with the stack that was added.
use Rattle.std.proofs.Common.{◌≡◌, ◌≤◌, ◌<◌, ◌⊎◌, inl, inr, ⊎_elim, ℕ, zero, suc, cond, List, [], ◌∷◌, map, take, length, refl, sym, ap, ap₂, ◌∙◌, subst, arith, Option, Some, None}
use Rattle.std.specs.Prelude.{Contains, slice_get}
use Rattle.std.specs.List.{All}
use Rattle.std.proofs.lemmas.Bool.Decides.{eqb_tells}
use Rattle.std.proofs.lemmas.List.{take-append-le, take_all}
use Rattle.std.proofs.lemmas.List.Elements.{All-contains, Contains-append_cases}
use Rattle.std.proofs.lemmas.Option.{slice_get_within}
use Rattle.data_theory.specs.declared.ids.NameId.{NameId}
use Rattle.data_theory.specs.declared.ids.SortId.{SortId}
use Rattle.data_theory.specs.declared.ids.TermId.{TermId}
use Rattle.data_theory.specs.declared.ids.VarId.{VarId}
use Rattle.data_theory.specs.Terms.{Term}
use Rattle.data_theory.specs.Declarations.{IsSort}
use Rattle.data_theory.specs.IdSorts.{constructions}
use Rattle.data_theory.specs.Signature.{Sig}
use Rattle.data_theory.specs.WholeSignatures.{IsSignature}
use Rattle.data_theory.specs.IdData.{data_meant}
use Rattle.data_theory.specs.IdTerms.{variable_sorts}
use Rattle.term_pool.specs.HeadTrees.{AreIn, trees_at}
use Rattle.term_pool.specs.Pools.{PoolContents, Extends}
use Rattle.process_terms.specs.Meanings.{Entries, bound_at, term_at}
use Rattle.process_terms.specs.Processes.{Bound}
use Rattle.process_terms.specs.SignatureEntries.{entries_of, BothGrow}
use Rattle.bisim_laws.specs.LinearProcesses.{Summand, Linear}
use Rattle.bisim_laws.specs.BaseStates.{Columns}
use Rattle.bisim_laws.proofs.Firing.{contains_first, contains_later, contains_cases, contains_none}
use Rattle.lps_core.specs.Fitting.{IsVariable}
use Rattle.lps_core.specs.MadeTerms.{Written, StackSort, WasAnswered, Origin, origin_of, IsMade, a_closed_term, AreMade, none_made, more_made, SummandIsPlain, IsPlainlyConditioned}
use Rattle.lps_core.specs.PlainLinears.{PlainLinear, linear_of, initial_of}
use Rattle.lps_core.specs.TreeSummands.{trees_of_summand, IsSummandIn}
use Rattle.lps_core.proofs.Members.{all_at, contains_map, map_contains, mapped_at}
use Rattle.lps_core.proofs.PoolTrees.{extends_on, tree_kept}
use Rattle.lps_core.proofs.Staying.{term_is, variable_stays, variables_have_sorts}
use Rattle.greibach.specs.FittingForms.{FormFits, EquationFits}
use Rattle.greibach.specs.Forms.{FormEquation}
use Rattle.greibach.specs.PlainForms.{PlainForm, equation_of, form_of}
use Rattle.greibach.specs.PlainTerms.{FormIsPlainlyConditioned, FormIsPlain}
use Rattle.greibach.proofs.StayingForms.{forms_are_sorted}
use Rattle.regular_encoder.specs.FormColumns.{column_kinds}
use Rattle.regular_encoder.proofs.EncodedPlainly.{Answer}
use Rattle.regular_encoder.proofs.FirstTerms.{some_is, no_some, grow_then, grow_none}
use Rattle.stack_encoder.specs.AddedStacks.{stack_under, IsAddedStack, IsPlainOnStack}
use Rattle.stack_encoder.specs.StackColumns.{AreClosedTerms, no_closed_term, one_more_closed_term, value_at, or_else, default_at, in_need, numbered_place}
use Rattle.stack_encoder.specs.StackEncoding.{StackSymbols, stack_sort, stack_params, stacked, StackFits}
use Rattle.stack_encoder.specs.StackEntries.{StackIds, symbols_meant}
use Rattle.stack_encoder.specs.StackedForms.{HasItsStack, first_tree, layout_over}
use Rattle.stack_encoder.specs.WholeStack.{trees_stacked_from}
use Rattle.stack_encoder.proofs.AnsweredTerms.{answered_stays}
use Rattle.stack_encoder.proofs.FreshWords.{words_stand}
use Rattle.stack_encoder.proofs.StackedPlainly.{first_is_made, summands_are_plain}
use Rattle.stack_encoder.proofs.StackLayouts.{stack_columns}
use Rattle.stack_encoder.proofs.WholeStacks.{stack_grown, kept, fits, stack_fits, declares, linear, initial}
use Rattle.stack_encoder.proofs.WiderOrigins.{made_in_more, form_in_more, only_stacks}

-- ---- where the terms of columns come from
closed_found : (g : Sig) (p : PoolContents) (ss : List SortId) (h : Sig) (q : PoolContents) (ts : List TermId) → AreClosedTerms g p ss h q ts → (t : TermId) → Contains ts t → Answer h q t
closed_found g p _ _ _ _ no_closed_term t i = absurd (contains_none t i)
closed_found g p _ k r _ (one_more_closed_term {ss = ss} {ts = ts} {h = h} {q = q} {s = s} {t = u} a n) t i = ⊎_elim
    (λ j.
    let b = closed_found g p ss h q ts a t j in
    record { before = b.before; pool_before = b.pool_before; after = b.after; pool_after = b.pool_after; sort = b.sort; answer = b.answer; grow = grow_then b.after h k b.pool_after.trees q.trees r.trees b.grow (record { signature = n.grown; pool = n.kept }) })
    (λ j. ⊎_elim
    (λ e. subst (λ z. Answer k r z) e (record { before = h; pool_before = q; after = k; pool_after = r; sort = s; answer = n; grow = grow_none k r.trees }))
    (λ m. absurd (contains_none t m)) (contains_cases u t [] j))
    (Contains-append_cases ts (u ∷ []) t i)

value_found : (ns : List ℕ) (ts : List TermId) (x : ℕ) (t : TermId) → value_at ns ts x ≡ Some t → Contains ts t
value_found [] ts x t e = absurd (no_some e)
value_found (n ∷ ns) [] x t e = absurd (no_some e)
value_found (n ∷ ns) (u ∷ ts) x t e = ⊎_elim
    (λ q. subst (λ z. Contains (u ∷ ts) z) (some_is (sym (ap (λ b. cond b (Some u) (value_at ns ts x)) q.0) ∙ e)) (contains_first u ts))
    (λ q. contains_later u t ts (value_found ns ts x t (sym (ap (λ b. cond b (Some u) (value_at ns ts x)) q.0) ∙ e)))
    (eqb_tells n x)

default_found : (needed : List ℕ) (closed : List TermId) (place : List ℕ) (init : List TermId) (x : ℕ) (t : TermId) → default_at needed closed place init x ≡ Some t → Contains closed t ⊎ Contains init t
default_found needed closed place init x t e = by_case (value_at needed closed x) refl
  where
    by_case : (o : Option TermId) → value_at needed closed x ≡ o → Contains closed t ⊎ Contains init t
    by_case None q = inr (value_found place init x t (sym (ap (λ z. or_else z (value_at place init x)) q) ∙ e))
    by_case (Some u) q = inl (value_found needed closed x t (q ∙ (sym (ap (λ z. or_else z (value_at place init x)) q) ∙ e)))

one_of_made : (o : Origin) (ps xs : List Bound) (f : TermId → Term) (ids : List TermId) → AreMade o ps xs (map f ids) → (t : TermId) → Contains ids t → IsMade o ps xs (f t)
one_of_made o ps xs f [] m t i = absurd (contains_none t i)
one_of_made o ps xs f (a ∷ ids) (more_made m ms) t i = ⊎_elim (λ e. subst (λ z. IsMade o ps xs (f z)) e m) (λ j. one_of_made o ps xs f ids ms t j) (contains_cases a t ids i)

made_at_places : (o : Origin) (ps xs : List Bound) (f : TermId → Term) (ids : List TermId) → ((i : ℕ) (t : TermId) → slice_get ids i ≡ Some t → IsMade o ps xs (f t)) → AreMade o ps xs (map f ids)
made_at_places o ps xs f [] h = none_made
made_at_places o ps xs f (a ∷ ids) h = more_made (h zero a refl) (made_at_places o ps xs f ids (λ i t e. h (suc i) t e))

-- ---- the whole answer
module _ (g h : Sig) (p q r : PoolContents) (stood : IsSignature g) (stands : IsSignature h) (f : PlainForm) (y : StackIds) (v : VarId) (places : List (List ℕ)) (defaults : List TermId) (laid : HasItsStack g p f h q y v places defaults) (old_fits : FormFits g p.trees f)
    (few : length f.equations < 340282366920938463463374607431768211456) (later : Extends q.trees r.trees) where
  abbrev E : Entries
  E = entries_of h r.trees

  abbrev kinds : List (NameId × SortId)
  kinds = column_kinds g f

  abbrev K : StackSymbols
  K = symbols_meant h y

  abbrev c : Columns
  c = stack_columns h r.trees kinds places defaults

  grow : BothGrow g h p.trees r.trees
  grow = record {
    signature = stack_grown g h p q r.trees stood stands f y v places defaults laid old_fits few later;
    pool = kept g h p q r.trees stood stands f y v places defaults laid old_fits few later;
  }

  -- the sort of the stack has a number that was free
  sort_is_new : length (data_meant g).sorts ≤ K.names.sort
  sort_is_new =
      let words = laid.sort.sort in
      let number : y.sort.0 ≡ length g.sorts = words.number ∙ ap length (words_stand g stood _ words.named _ words.are_words.fresh).on.sorts in
      let old : take y.sort.0 h.sorts ≡ g.sorts = ap₂ (λ n ss. take n ss) number grow.signature.sorts ∙ take-append-le (length g.sorts) g.sorts grow.signature.new_sorts (omega arith) ∙ take_all (length g.sorts) g.sorts (omega arith) in
      let same : length (constructions (take y.sort.0 h.sorts)) ≡ length (constructions g.sorts) = ap (λ ss. length (constructions ss)) old in
      omega (arith, same)

  -- so none of the form's parameters is a stack
  no_stack : (i : ℕ) (e : FormEquation) (x : Bound) → slice_get (form_of E f) i ≡ Some e → Contains e.params x → x.sort ≡ stack_sort K → ⊥
  no_stack i e x at among same =
      let m = mapped_at (equation_of E) f.equations i e at in
      let b = contains_map (bound_at E) m.0.params x (subst (λ (z : FormEquation). Contains z.params x) m.1.1 among) in
      let own = (all_at (EquationFits g p.trees f) f.equations i m.0 old_fits.equations m.1.0).params in
      let stays = variable_stays g h p.trees r.trees stood.table stood.complete grow b.0 (All-contains (IsVariable g) m.0.params b.0 own b.1.0) in
      let sort = variables_have_sorts g p.trees m.0.params stood.table stood.complete own (bound_at (entries_of g p.trees) b.0) (map_contains (bound_at (entries_of g p.trees)) m.0.params b.0 b.1.0) in
      let low : K.names.sort < length (data_meant g).sorts = subst (λ s. IsSort (data_meant g) s) (ap (λ (z : Bound). z.sort) (sym stays ∙ sym b.1.1) ∙ same) sort in
      let high = sort_is_new in
      omega (arith, low, high)

  module _ (w : Written) (plain : FormIsPlain h r w [] f) where
    abbrev o : Origin
    o = origin_of h r w (stack_under K ∷ [])

    own : FormIsPlainlyConditioned o (form_of E f) (map (term_at E) f.init)
    own = form_in_more (data_meant h) (variable_sorts h) (WasAnswered h r) w w [] (stack_under K ∷ [])
        (only_stacks (data_meant h) (variable_sorts h) (WasAnswered h r) w [] (stack_under K ∷ []) (λ k i. absurd (contains_none k i))) (form_of E f) (map (term_at E) f.init) plain

    -- a closed term that was answered, and an argument that the form starts with
    answered_made : (ps xs : List Bound) (t : TermId) → Answer h q t → IsMade o ps xs (term_at E t)
    answered_made ps xs t a =
        let after = extends_on a.pool_after.trees q.trees r.trees a.grow.pool later in
        let within = (tree_kept a.pool_after.trees r.trees t after a.answer.stands.within).1 in
        a_closed_term (record { before = a.before; pool_before = a.pool_before; after = a.after; pool_after = a.pool_after; sort = a.sort; term = t; answer = a.answer; grown = a.grow.signature; kept = after; is = term_is h r.trees t within })

    first_made : (ps xs : List Bound) (t : TermId) → Contains f.init t → IsMade o ps xs (term_at E t)
    first_made ps xs t i =
        made_in_more (data_meant h) (variable_sorts h) (WasAnswered h r) w w (stack_under K ∷ []) (stack_under K ∷ []) (only_stacks (data_meant h) (variable_sorts h) (WasAnswered h r) w (stack_under K ∷ []) (stack_under K ∷ []) (λ k i. i)) [] ps [] xs
        (λ x n. absurd (contains_none x n)) (λ x n. absurd (contains_none x n)) (term_at E t) (one_of_made o [] [] (term_at E) f.init own.starts t i)

    defaults_made : (ps xs : List Bound) → AreMade o ps xs c.defaults
    defaults_made ps xs = made_at_places o ps xs (term_at E) defaults
        (λ i t at.
        let have = laid.values in
        let low = slice_get_within defaults i t at in
        let long = have.long in
        ⊎_elim
        (λ j. answered_made ps xs t (closed_found laid.declared p _ h q have.closed have.closed_terms t j))
        (λ j. first_made ps xs t j)
        (default_found (in_need (length kinds) places f.equations) have.closed (numbered_place places 1) f.init i t (sym (have.each i (omega (arith, low, long))) ∙ at)))

    module _ (made : PlainLinear) (params : made.params ≡ v ∷ []) (made_in : AreIn r.trees made.init) (init : trees_at r.trees made.init ≡ first_tree y (layout_over r.trees places defaults) (trees_at r.trees f.init) ∷ [])
        (within : All (IsSummandIn r.trees) made.summands) (trees : map (trees_of_summand r.trees) made.summands ≡ trees_stacked_from y (layout_over r.trees places defaults) v 1 r.trees f.equations) where
      form_fits : FormFits h r.trees f
      form_fits = fits g h p q r.trees stood stands f y v places defaults laid old_fits few later

      meant : linear_of E made ≡ stacked K c v.0 (form_of E f)
      meant = linear g h p q r.trees stood stands f y v places defaults laid old_fits few later made params made_in init within trees

      whole_stack : StackFits (data_meant h) K c v.0 (form_of E f)
      whole_stack = stack_fits g h p q r.trees stood stands f y v places defaults laid old_fits few later

      only_this : (s : StackSort) → Contains (stack_under K ∷ []) s → s ≡ stack_under K
      only_this s i = ⊎_elim (λ e. sym e) (λ n. absurd (contains_none s n)) (contains_cases (stack_under K) s [] i)

      starts_plainly : AreMade o [] [] (initial_of E made)
      starts_plainly = subst (λ ts. AreMade o [] [] ts) (sym (initial g h p q r.trees stood stands f y v places defaults laid old_fits few later made params made_in init within trees))
          (first_is_made o K c v.0 (form_of E f) form_fits.form (forms_are_sorted h r.trees f stands.table stands.complete form_fits) whole_stack (declares g h p q r.trees stood stands f y v places defaults laid old_fits few later)
          (answered_stays h r stands) (contains_first (stack_under K) []) only_this no_stack defaults_made (map (term_at E) f.init) own.starts)

      summand_plain : (s : Summand) → Contains (stacked K c v.0 (form_of E f)).summands s → SummandIsPlain o [] (stack_params K v.0) s
      summand_plain s i =
          summands_are_plain o K c v.0 (form_of E f) form_fits.form (forms_are_sorted h r.trees f stands.table stands.complete form_fits) whole_stack (declares g h p q r.trees stood stands f y v places defaults laid old_fits few later)
          (answered_stays h r stands) (contains_first (stack_under K) []) only_this no_stack defaults_made own.summands s i

      linear_is_plain : IsPlainlyConditioned o [] (linear_of E made) (initial_of E made)
      linear_is_plain = record {
        starts = starts_plainly;
        summands = λ s i.
            subst (λ (l : Linear). SummandIsPlain o [] l.params s) (sym meant) (summand_plain s (subst (λ (l : Linear). Contains l.summands s) meant i));
      }

  stack_is_added : IsAddedStack (data_meant g) (data_meant h) (stack_under K)
  stack_is_added = record { symbols = K; is = refl; columns = c.columns; stands = (stack_fits g h p q r.trees stood stands f y v places defaults laid old_fits few later).stack; new = sort_is_new }

  pub it_is_plain : (made : PlainLinear) → made.params ≡ v ∷ [] → AreIn r.trees made.init → trees_at r.trees made.init ≡ first_tree y (layout_over r.trees places defaults) (trees_at r.trees f.init) ∷ [] → All (IsSummandIn r.trees) made.summands
      → map (trees_of_summand r.trees) made.summands ≡ trees_stacked_from y (layout_over r.trees places defaults) v 1 r.trees f.equations → IsPlainOnStack g h r f made
  it_is_plain made params made_in init within trees = record { stack = stack_under K; added = stack_is_added; plain = λ w plain. linear_is_plain w plain made params made_in init within trees }
