-- A state is written as the start of its process, by an action with the name of the process.
use Rattle.std.proofs.Common.{◌≡◌, ◌≢◌, ◌<◌, ◌==◌, ◌&&◌, ℕ, zero, suc, Bool, true, false, cond, List, [], ◌∷◌, ◌++◌, map, length, get_or, Option, Some, None, refl, sym, ap, ◌∙◌, subst, eq-eqb, eqb-true}
use Rattle.std.specs.Prelude.{codes, slice_get}
use Rattle.std.specs.List.{All, filter}
use Rattle.std.proofs.lemmas.List.{append_assoc}
use Rattle.std.proofs.lemmas.List.Elements.{All-cons, All-contains, All-head, All-nil, All-tail}
use Rattle.std.proofs.lemmas.Option.{get_or_from_slice_get}
use Rattle.data_theory.specs.declared.ids.ActId.{ActId}
use Rattle.data_theory.specs.declared.ids.FunId.{FunId}
use Rattle.data_theory.specs.declared.ids.NameId.{NameId}
use Rattle.data_theory.specs.declared.ids.SortId.{SortId}
use Rattle.data_theory.specs.declared.ids.TermId.{TermId}
use Rattle.data_theory.specs.declared.signature.Variable.{Variable}
use Rattle.data_theory.specs.Environments.{terms_of}
use Rattle.data_theory.specs.Functions.{Function}
use Rattle.data_theory.specs.IdTrees.{Tree}
use Rattle.data_theory.specs.Keys.{Key, key}
use Rattle.data_theory.specs.Names.{place_in, with_text}
use Rattle.data_theory.specs.IdTerms.{sort_under}
use Rattle.data_theory.specs.Signature.{IsAct, Sig, with_action}
use Rattle.data_theory.specs.Terms.{Term}
use Rattle.data_theory.specs.WholeSignatures.{IsSignature}
use Rattle.data_theory.proofs.IdGrowthLemmas.{with_an_action_it_is_grown}
use Rattle.data_theory.proofs.NameLemmas.{among_texts, place_is}
use Rattle.data_theory.proofs.PlaceLemmas.{contains_read}
use Rattle.process_terms.specs.Labels.{Action}
use Rattle.process_terms.specs.Meanings.{ActionEntry, action_of, label_of, term_at}
use Rattle.process_terms.specs.PlainProcesses.{PlainAction}
use Rattle.process_terms.specs.SignatureEntries.{action_entry, entries_of, BothGrow}
use Rattle.bisim_laws.proofs.Firing.{contains_none}
use Rattle.lps_core.specs.Fitting.{AreTermsOf, IsActionOf}
use Rattle.lps_core.proofs.PoolTrees.{extends_itself}
use Rattle.lps_core.proofs.Staying.{terms_stay}
use Rattle.lps_core.proofs.StayingFits.{terms_fit}
use Rattle.sort_table.specs.Expressions.{Name}
use Rattle.sort_table.specs.SignatureVocabularies.{function_name_of, text_under}
use Rattle.lps_printer.specs.DataLayout.{piece, space}
use Rattle.lps_printer.specs.DefinitionTexts.{start_action, start_text}
use Rattle.lps_printer.specs.Pieces.{bytes_of, Piece}
use Rattle.lps_printer.specs.PrintedExpressions.{Expressions, more, none}
use Rattle.lps_printer.specs.PrintedProcesses.{act}
use Rattle.lps_printer.specs.SignatureNames.{actions_named, declared_name_of, has_name, is_action_once, is_declared_once, is_free, names_under, once_functions, text_names_under, variable_name_of}
use Rattle.lps_printer.specs.SummandLayout.{print_action}
use Rattle.lps_printer.specs.WrittenProcesses.{action_written, TextNames}
use Rattle.lps_printer.specs.WrittenTerms.{Names, opens, places, written_all}
use Rattle.lin_tasks.specs.ProcessNames.{IsNewProcess}
use Rattle.lin_tasks.specs.Shown.{label_line, state_line}

-- ---- bytes
bytes_behind : (ps : List Piece) (end : List ℕ) → bytes_of ps [] ++ end ≡ bytes_of ps end
bytes_behind [] end = refl
bytes_behind (p ∷ ps) end = append_assoc p.gap (p.bytes ++ bytes_of ps []) end ∙ ap (λ z. p.gap ++ z) (append_assoc p.bytes (bytes_of ps []) end ∙ ap (λ z. p.bytes ++ z) (bytes_behind ps end))

-- what stands behind a blank
behind_blank : (x : Name) (es : Expressions) → codes "state " ++ (bytes_of (print_action (act x es) [] []) [] ++ codes "\n") ≡ codes "state" ++ bytes_of (print_action (act x es) space []) (10 ∷ [])
behind_blank x none = ap (λ z. codes "state " ++ z) (bytes_behind (print_action (act x none) [] []) (10 ∷ []))
behind_blank x (more e es) = ap (λ z. codes "state " ++ z) (bytes_behind (print_action (act x (more e es)) [] []) (10 ∷ []))

-- the line of an ended process
pub ended_line : (g : Sig) (x : Name) → codes "ended\n" ≡ state_line g x None
unfolding state_line
ended_line g x = refl

-- ---- a signature with an action more
module _ (g : Sig) (more_actions : List Key) where
  abbrev with_more : Sig
  with_more = record g { actions = more_actions }

  variable_named : (o : Option Variable) → variable_name_of with_more o ≡ variable_name_of g o
  variable_named None = refl
  variable_named (Some v) = refl

  function_named : (o : Option Function) → function_name_of with_more o ≡ function_name_of g o
  function_named None = refl
  function_named (Some f) = refl

  declared_named : (o : Option FunId) → declared_name_of with_more o ≡ declared_name_of g o
  declared_named None = refl
  declared_named (Some i) = function_named (slice_get g.functions i.0)

  declared_once : (o : Option FunId) → is_declared_once with_more o ≡ is_declared_once g o
  declared_once None = refl
  declared_once (Some i) = refl

  -- its terms have the names that they had
  same_names : names_under with_more ≡ names_under g
  same_names = λ i. record {
    variable = λ v. variable_named (slice_get g.variables v) i;
    function = λ k. declared_named (slice_get g.declared k) i;
    once = λ k. declared_once (slice_get g.declared k) i;
  }

-- the last of a list
last_read : {A B : Type 0} (f : A → B) (xs : List A) (x : A) (d : B) → get_or (map f (xs ++ x ∷ [])) (length xs) d ≡ f x
last_read f [] x d = refl
last_read f (y ∷ xs) x d = last_read f xs x d

last_there : {A : Type 0} (xs : List A) (x : A) → slice_get (xs ++ x ∷ []) (length xs) ≡ Some x
last_there [] x = refl
last_there (y ∷ xs) x = last_there xs x

-- one action alone has a name that none had
named_alone : (x : NameId) (sorts : List SortId) (as_ : List Key) → All (λ (a : Key). a.name ≢ x) as_ → filter (has_name x) (as_ ++ key x sorts ∷ []) ≡ key x sorts ∷ []
named_alone x sorts [] all = ap (λ (b : Bool). cond b (key x sorts ∷ []) []) (eq-eqb x.0 x.0 refl)
named_alone x sorts (a ∷ as_) all =
    let other : (a.name.0 == x.0) ≡ false = differ a.name x (All-head (λ (a : Key). a.name ≢ x) a as_ all) in
    ap (λ (b : Bool). cond b (a ∷ filter (has_name x) (as_ ++ key x sorts ∷ [])) (filter (has_name x) (as_ ++ key x sorts ∷ []))) other ∙ named_alone x sorts as_ (All-tail (λ (a : Key). a.name ≢ x) a as_ all)
  where
    differ : (n m : NameId) → n ≢ m → (n.0 == m.0) ≡ false
    differ n m other = by_test (n.0 == m.0) refl
      where
        by_test : (b : Bool) → (n.0 == m.0) ≡ b → b ≡ false
        by_test false e = refl
        by_test true e = absurd (other (ap (λ (k : ℕ). record { 0 = k }) (eqb-true n.0 m.0 e)))

module _ (g : Sig) (x : NameId) (t : List ℕ) (sorts : List SortId) (stands : IsSignature g) (new : IsNewProcess g x) (named : slice_get g.texts x.0 ≡ Some t) where
  abbrev k : Sig
  k = record g { actions = g.actions ++ key x sorts ∷ [] }

  -- it isn't there yet
  pub absent : ¬ (IsAct g t sorts)
  absent (n, there, among) =
      let one : n ≡ x = ap (λ (i : ℕ). record { 0 = i }) (stands.table.different n.0 x.0 t there named) in
      All-contains (λ (a : Key). a.name ≢ x) g.actions (key n sorts) new.no_action among one

  with_it : with_action g t sorts ≡ k
  with_it =
      let texts : with_text g.texts t ≡ g.texts = ap (λ (b : Bool). cond b g.texts (g.texts ++ t ∷ [])) (among_texts g.texts t (contains_read g.texts x.0 t named)) in
      let place : place_in (with_text g.texts t) t ≡ x = ap (λ ts. place_in ts t) texts ∙ sym (place_is g.texts t x.0 stands.table.different named) in
      (λ j. record g { texts = texts j; actions = g.actions ++ key (place j) sorts ∷ [] })

  text_is : text_under g x ≡ t
  text_is = get_or_from_slice_get g.texts x.0 t [] named

  once : (text_names_under k []).once (text_under g x) ≡ true
  once =
      let place : place_in g.texts (text_under g x) ≡ x = ap (place_in g.texts) text_is ∙ sym (place_is g.texts t x.0 stands.table.different named) in
      let one_text : new.text ≡ text_under g x = (let q : Some new.text ≡ Some t = sym new.named ∙ named in let r : new.text ≡ t = cc in r) ∙ sym text_is in
      ap (is_action_once k) place
      ∙ ap (λ (ys : List Key). (length ys == 1) && is_free (text_under g x)) (named_alone x sorts g.actions new.no_action)
      ∙ ap is_free (sym one_text) ∙ new.free

  -- ---- terms
  module _ (ts : List Tree) (ids : List TermId) (fit : AreTermsOf g ts sorts ids) where
    grows : BothGrow g (with_action g t sorts) ts ts
    grows = record { signature = with_an_action_it_is_grown g t sorts; pool = extends_itself ts }

    terms_same : map (term_at (entries_of k ts)) ids ≡ map (term_at (entries_of g ts)) ids
    terms_same = subst (λ (h : Sig). map (term_at (entries_of h ts)) ids ≡ map (term_at (entries_of g ts)) ids) with_it (terms_stay g (with_action g t sorts) ts ts stands.table stands.complete grows sorts ids fit)

    abbrev written : Expressions
    written = places (written_all (names_under g) (terms_of (map (term_at (entries_of g ts)) ids)))

    -- the action as it is written
    action_is : (a : ActId) → a.0 ≡ length g.actions → action_written (text_names_under k []) (action_of (entries_of k ts) (record { act = a; args = ids })) ≡ act (text_under g x) written
    action_is a at =
        let entry : get_or (map (action_entry k) (g.actions ++ key x sorts ∷ [])) a.0 (record { name = []; sorts = [] }) ≡ action_entry k (key x sorts) =
        ap (λ n. get_or (map (action_entry k) (g.actions ++ key x sorts ∷ [])) n (record { name = []; sorts = [] })) at ∙ last_read (action_entry k) g.actions (key x sorts) (record { name = []; sorts = [] }) in
        ap (λ (e : ActionEntry). action_written (text_names_under k []) (record { name = e.name; sorts = e.sorts; args = map (term_at (entries_of k ts)) ids })) entry
        ∙ ap (λ (us : List Term). action_written (text_names_under k []) (record { name = text_under g x; sorts = map (sort_under k) sorts; args = us })) terms_same
        ∙ ap (λ (b : Bool). act (text_under g x) (cond b (places (written_all (names_under k) (terms_of (map (term_at (entries_of g ts)) ids)))) (opens (written_all (names_under k) (terms_of (map (term_at (entries_of g ts)) ids)))))) once
        ∙ ap (λ (n : Names). act (text_under g x) (places (written_all n (terms_of (map (term_at (entries_of g ts)) ids))))) (same_names g (g.actions ++ key x sorts ∷ []))

    pub state_written : (h : Sig) (a : ActId) → h ≡ with_action g t sorts → a.0 ≡ length g.actions
        → codes "state " ++ label_line h (label_of (entries_of h ts) (record { act = a; args = ids } ∷ [])) ≡ state_line g (text_under g x) (Some (map (term_at (entries_of g ts)) ids))
    unfolding label_line state_line
    state_written h a is at =
        ap (λ (z : Sig). codes "state " ++ label_line z (label_of (entries_of z ts) (record { act = a; args = ids } ∷ []))) (is ∙ with_it)
        ∙ ap (λ y. codes "state " ++ (bytes_of (print_action y [] []) [] ++ codes "\n")) (action_is a at)
        ∙ behind_blank (text_under g x) written

    -- the label can be shown
    pub state_shown : (h : Sig) (a : ActId) → h ≡ with_action g t sorts → a.0 ≡ length g.actions → All (IsActionOf h ts) (record { act = a; args = ids } ∷ [])
    state_shown h a is at =
        let there : slice_get h.actions a.0 ≡ Some (key x sorts) = ap (λ (z : Sig). slice_get z.actions a.0) (is ∙ with_it) ∙ ap (slice_get (g.actions ++ key x sorts ∷ [])) at ∙ last_there g.actions (key x sorts) in
        let args : AreTermsOf h ts sorts ids = subst (λ (z : Sig). AreTermsOf z ts sorts ids) (sym is) (terms_fit g (with_action g t sorts) ts ts grows sorts ids fit) in
        All-cons (IsActionOf h ts) (record { act = a; args = ids }) [] (record { key = key x sorts; stands = there; args = args }) (All-nil (IsActionOf h ts))
