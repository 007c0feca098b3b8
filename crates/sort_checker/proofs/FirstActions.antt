-- The first action of a name that arguments fit.
use Rattle.std.proofs.Common.{◌≡◌, ◌<◌, ◌≤◌, ◌+◌, ℕ, zero, suc, Bool, true, false, List, [], ◌∷◌, length, map, drop, get_or, refl, sym, subst, ap, ap₂, ◌∙◌, arith}
use Rattle.std.specs.Prelude.{Option, Some, None, is_some, option_map}
use Rattle.std.specs.Option.{option_or}
use Rattle.std.specs.List.{AllByRecursion, Contains}
use Rattle.std.proofs.lemmas.Option.{none-some, same_Some}
use Rattle.std.proofs.lemmas.List.Elements.{All-contains, Contains-get_or}
use Rattle.std.proofs.Math.Seq.{drop-cons}
use Rattle.data_theory.specs.Complete.{IsActionWithin}
use Rattle.data_theory.specs.Environments.{list_of}
use Rattle.data_theory.specs.IdTerms.{sort_under}
use Rattle.data_theory.specs.Keys.{Key}
use Rattle.data_theory.specs.Signature.{Sig}
use Rattle.data_theory.specs.Terms.{Sort, Term, Terms}
use Rattle.data_theory.specs.WholeSignatures.{IsSignature}
use Rattle.process_terms.specs.Labels.{Action}
use Rattle.sort_table.specs.Expressions.{Name, Expression}
use Rattle.sort_table.specs.Vocabularies.{Vocabulary}
use Rattle.data_typing.specs.declared.scope.Bound.{Bound}
use Rattle.data_typing.specs.declared.nodes.Reading.{Reading}
use Rattle.data_typing.specs.CodeWords.{scope_of}
use Rattle.data_typing.specs.Contexts.{IsRead}
use Rattle.data_typing.specs.Meanings.{Scope, typing_in}
use Rattle.sort_checker.specs.CodeContexts.{SeesData}
use Rattle.sort_table.specs.NamedLists.{all_named}
use Rattle.sort_table.specs.SignatureVocabularies.{text_under, vocabulary_of}
use Rattle.data_typing.specs.Typings.{Typing, all_at, first_of, exactly, checked}
use Rattle.sort_checker.specs.declared.chosen_actions.Chosen.{Chosen}
use Rattle.sort_checker.specs.declared.sorted_actions.SortedAction.{SortedAction}
use Rattle.sort_checker.specs.declared.typed_parts.Way.{Way}
use Rattle.sort_checker.specs.declared.typed_parts.Way.TheVariants as ways
use Rattle.sort_checker.specs.ActionTables.{actions_named}
use Rattle.sort_checker.specs.ElaboratedLabels.{taken, first_taken, IsChosen, IsChoice, no_choice, the_choice}
use Rattle.sort_checker.specs.PartTypings.{action_at, action_of}
use Rattle.sort_checker.specs.SortedActions.{sorts_of, IsSortedAction, AreActionsNamed}
use Rattle.sort_checker.specs.ReadArguments.{HaveTermsAt}
use Rattle.sort_checker.specs.TypedTrees.{AreReadings, how_of}
use Rattle.sort_checker.proofs.CommRules.{named_actions, among_actions, named_sorts}

module _ (how : Sort → Typing → Option Term) (ts : List Typing) where
  -- ---- one after the other
  module _ (as_ : List SortedAction) (i : ℕ) (a : SortedAction) (inside : i < length as_) (at : a ≡ get_or as_ i a) where
    cut : drop i as_ ≡ a ∷ drop (i + 1) as_
    cut = let next : suc i ≡ i + 1 = omega arith in drop-cons as_ i a inside ∙ ap₂ (λ (x : SortedAction) (n : ℕ). x ∷ drop n as_) (sym at) next

    pub takes_this : first_taken how ts as_ ≡ first_taken how ts (drop i as_) → is_some (all_at how (sorts_of a) ts) ≡ true → Some a ≡ first_taken how ts as_
    takes_this so fits = sym (so ∙ (ap (first_taken how ts) cut ∙ by_terms (all_at how (sorts_of a) ts) fits))
      where
        by_terms : (o : Option Terms) → is_some o ≡ true → option_or (option_map (λ (us : Terms). a) o) (first_taken how ts (drop (i + 1) as_)) ≡ Some a
        by_terms None f = let never : false ≡ true = f in cc
        by_terms (Some us) f = refl

    pub passes_this : first_taken how ts as_ ≡ first_taken how ts (drop i as_) → is_some (all_at how (sorts_of a) ts) ≡ false → first_taken how ts as_ ≡ first_taken how ts (drop (i + 1) as_)
    passes_this so fits = so ∙ (ap (first_taken how ts) cut ∙ by_terms (all_at how (sorts_of a) ts) fits)
      where
        by_terms : (o : Option Terms) → is_some o ≡ false → option_or (option_map (λ (us : Terms). a) o) (first_taken how ts (drop (i + 1) as_)) ≡ first_taken how ts (drop (i + 1) as_)
        by_terms None f = refl
        by_terms (Some us) f = let never : true ≡ false = f in cc

  pub takes_none : (as_ : List SortedAction) (i : ℕ) → length as_ ≤ i → first_taken how ts as_ ≡ first_taken how ts (drop i as_) → None ≡ first_taken how ts as_
  takes_none as_ i far so = sym (so ∙ ap (first_taken how ts) (beyond as_ i far))
    where
      beyond : (xs : List SortedAction) (n : ℕ) → length xs ≤ n → drop n xs ≡ []
      beyond [] zero l = refl
      beyond [] (suc n) l = refl
      beyond (x ∷ xs) zero l = let never : ⊥ = omega (arith, l) in absurd never
      beyond (x ∷ xs) (suc n) l = beyond xs n (omega (arith, l))

  -- ---- as an action
  -- what the first one is, and the terms of its arguments
  pub record IsFirst (x : Name) (as_ : List SortedAction) (a : SortedAction) : Type 0 where
    pub terms : List Term
    pub has : option_map list_of (all_at how (sorts_of a) ts) ≡ Some terms
    pub first : first_of (action_at x how ts) (map sorts_of as_) ≡ Some (record { name = x; sorts = sorts_of a; args = terms })

  pub first_is : (x : Name) (as_ : List SortedAction) (a : SortedAction) → first_taken how ts as_ ≡ Some a → IsFirst x as_ a
  first_is x [] a e = absurd (none-some a e)
  first_is x (b ∷ as_) a e = by_terms (first_is x as_ a) (all_at how (sorts_of b) ts) refl e
    where
      by_terms : (first_taken how ts as_ ≡ Some a → IsFirst x as_ a) → (o : Option Terms) → all_at how (sorts_of b) ts ≡ o → option_or (option_map (λ (us : Terms). b) o) (first_taken how ts as_) ≡ Some a → IsFirst x (b ∷ as_) a
      by_terms later None q f =
          let r = later f in
          record { terms = r.terms; has = r.has; first = ap (λ o. option_or (option_map (λ us. record { name = x; sorts = sorts_of b; args = list_of us }) o) (first_of (action_at x how ts) (map sorts_of as_))) q ∙ r.first }
      by_terms later (Some us) q f =
          let same : b ≡ a = same_Some b a f in
          record {
            terms = list_of us;
            has = ap (λ (c : SortedAction). option_map list_of (all_at how (sorts_of c) ts)) (sym same) ∙ ap (option_map list_of) q;
            first = ap (λ o. option_or (option_map (λ us. record { name = x; sorts = sorts_of b; args = list_of us }) o) (first_of (action_at x how ts) (map sorts_of as_))) q
                ∙ ap (λ (c : SortedAction). Some (record { name = x; sorts = sorts_of c; args = list_of us })) same;
          }

  pub none_chosen : (x : Name) (as_ : List SortedAction) → first_taken how ts as_ ≡ None → first_of (action_at x how ts) (map sorts_of as_) ≡ None
  none_chosen x [] e = refl
  none_chosen x (b ∷ as_) e = by_terms (none_chosen x as_) (all_at how (sorts_of b) ts) refl e
    where
      by_terms : (first_taken how ts as_ ≡ None → first_of (action_at x how ts) (map sorts_of as_) ≡ None) → (o : Option Terms) → all_at how (sorts_of b) ts ≡ o → option_or (option_map (λ (us : Terms). b) o) (first_taken how ts as_) ≡ None → first_of (action_at x how ts) (map sorts_of (b ∷ as_)) ≡ None
      by_terms later None q f = ap (λ o. option_or (option_map (λ us. record { name = x; sorts = sorts_of b; args = list_of us }) o) (first_of (action_at x how ts) (map sorts_of as_))) q ∙ later f
      by_terms later (Some us) q f = absurd (none-some b (sym f))

  -- it is one of them
  pub one_taken : (P : SortedAction → Type 0) (as_ : List SortedAction) (a : SortedAction) → AllByRecursion P as_ → first_taken how ts as_ ≡ Some a → P a
  one_taken P [] a all e = absurd (none-some a e)
  one_taken P (b ∷ as_) a all e = by_terms (one_taken P as_ a all.1) (all_at how (sorts_of b) ts) e
    where
      by_terms : (first_taken how ts as_ ≡ Some a → P a) → (o : Option Terms) → option_or (option_map (λ (us : Terms). b) o) (first_taken how ts as_) ≡ Some a → P a
      by_terms later None f = later f
      by_terms later (Some us) f = subst P (same_Some b a f) all.0

-- ---- in one way or the other
module _ (x : Name) (ts : List Typing) (as_ : List SortedAction) (sss : List (List Sort)) (are : map sorts_of as_ ≡ sss) where
  pub exact_action : (a : Action) → first_of (action_at x exactly ts) (map sorts_of as_) ≡ Some a → action_of x ts sss ≡ Some a
  exact_action a e = ap (λ o. option_or o (first_of (action_at x checked ts) sss)) (ap (first_of (action_at x exactly ts)) (sym are) ∙ e)

  pub fitting_action : (o : Option Action) → first_of (action_at x exactly ts) (map sorts_of as_) ≡ None → first_of (action_at x checked ts) (map sorts_of as_) ≡ o → action_of x ts sss ≡ o
  fitting_action o none e =
      ap (λ q. option_or q (first_of (action_at x checked ts) sss)) (ap (first_of (action_at x exactly ts)) (sym are) ∙ none) ∙ (ap (first_of (action_at x checked ts)) (sym are) ∙ e)

pub no_action_of : (x : Name) (ts : List Typing) (sss : List (List Sort)) → sss ≡ [] → action_of x ts sss ≡ None
no_action_of x ts sss e = ap (action_of x ts) e

-- a name that stands nowhere is no action's
pub no_text_no_action : (g : Sig) → IsSignature g → (x : Name) → ¬ (Contains g.texts x) → all_named x (vocabulary_of g).actions ≡ []
no_text_no_action g stands x absent = named_sorts g x g.actions ∙ by_actions (actions_named g x g.actions) (named_actions g x g.actions) (among_actions g x g.actions)
  where
    by_actions : (ks : List Key) → AllByRecursion (λ (a : Key). text_under g a.name ≡ x) ks → AllByRecursion (Contains g.actions) ks → map (λ (a : Key). map (sort_under g) a.sorts) ks ≡ []
    by_actions [] named among = refl
    by_actions (k ∷ ks) named among = absurd (absent (subst (Contains g.texts) named.0 (Contains-get_or g.texts k.name.0 [] (All-contains (IsActionWithin (length g.texts) (length g.sorts)) g.actions k stands.complete.within.actions among.0).named)))

-- ---- choices
module _ (g : Sig) (x : Name) (ts : List Typing) where
  pub choice_by_text : IsSignature g → ¬ (Contains g.texts x) → IsChoice g x ts None
  choice_by_text stands absent = no_choice (no_action_of x ts (all_named x (vocabulary_of g).actions) (no_text_no_action g stands x absent))

  module _ (as_ : List SortedAction) (named : AreActionsNamed g x as_) where
    pub choice_of_none : as_ ≡ [] → IsChoice g x ts None
    choice_of_none e = no_choice (no_action_of x ts (all_named x (vocabulary_of g).actions) (sym named.sorts ∙ ap (map sorts_of) e))

    pub choice_exactly : (c : Chosen) → c.way ≡ ways.Exactly → AreReadings g c.readings.items ts → first_taken exactly ts as_ ≡ Some c.action.now → IsChoice g x ts (Some c)
    choice_exactly c way read e =
        let r = first_is exactly ts x as_ c.action.now e in
        the_choice r.terms
        (record {
          sorted = one_taken exactly ts (IsSortedAction g x) as_ c.action.now named.each e;
          readings = read;
          have = subst (λ (w : Way). HaveTermsAt (how_of w) (sorts_of c.action.now) ts r.terms) (sym way) r.has;
        })
        (exact_action x ts as_ (all_named x (vocabulary_of g).actions) named.sorts (record { name = x; sorts = sorts_of c.action.now; args = r.terms }) r.first)

    pub choice_fitting : (c : Chosen) → c.way ≡ ways.Checked → AreReadings g c.readings.items ts → first_taken exactly ts as_ ≡ None → first_taken checked ts as_ ≡ Some c.action.now → IsChoice g x ts (Some c)
    choice_fitting c way read none e =
        let r = first_is checked ts x as_ c.action.now e in
        the_choice r.terms
        (record {
          sorted = one_taken checked ts (IsSortedAction g x) as_ c.action.now named.each e;
          readings = read;
          have = subst (λ (w : Way). HaveTermsAt (how_of w) (sorts_of c.action.now) ts r.terms) (sym way) r.has;
        })
        (fitting_action x ts as_ (all_named x (vocabulary_of g).actions) named.sorts (Some (record { name = x; sorts = sorts_of c.action.now; args = r.terms })) (none_chosen exactly ts x as_ none) r.first)

    pub choice_neither : first_taken exactly ts as_ ≡ None → first_taken checked ts as_ ≡ None → IsChoice g x ts None
    choice_neither none e = no_choice (fitting_action x ts as_ (all_named x (vocabulary_of g).actions) named.sorts None (none_chosen exactly ts x as_ none) (none_chosen checked ts x as_ e))

-- the one that was chosen
pub record IsChosenAs (g : Sig) (x : Name) (ts : List Typing) (c : Chosen) : Type 0 where
  pub terms : List Term
  pub chosen : IsChosen g x ts c terms
  pub action : action_of x ts (all_named x (vocabulary_of g).actions) ≡ Some (record { name = x; sorts = sorts_of c.action.now; args = terms })

pub the_chosen : (g : Sig) (x : Name) (ts : List Typing) (o : Option Chosen) (c : Chosen) → o ≡ Some c → IsChoice g x ts o → IsChosenAs g x ts c
the_chosen g x ts _ c e (no_choice n) = cc
the_chosen g x ts _ c e (the_choice {c = d} us is a) = subst (IsChosenAs g x ts) (same_Some d c e) (record { terms = us; chosen = is; action = a })

pub none_was_chosen : (g : Sig) (x : Name) (ts : List Typing) (o : Option Chosen) → o ≡ None → IsChoice g x ts o → action_of x ts (all_named x (vocabulary_of g).actions) ≡ None
none_was_chosen g x ts _ e (no_choice n) = n
none_was_chosen g x ts _ e (the_choice us is a) = cc

-- by the vocabulary and the variables that the code has
pub action_seen : (g : Sig) (bs : List Bound) (v : Vocabulary) (s : Scope) → SeesData g bs v s → (x : Name) (es : List Expression)
    → action_of x (map (typing_in v s) es) (all_named x v.actions) ≡ action_of x (map (typing_in (vocabulary_of g) (scope_of g.texts bs)) es) (all_named x (vocabulary_of g).actions)
action_seen g bs v s sees x es = ap₂ (λ (w : Vocabulary) (r : Scope). action_of x (map (typing_in w r) es) (all_named x w.actions)) sees.vocabulary sees.variables

-- what was read is sound
pub all_were_read : (g : Sig) (rs : List Reading) (ts : List Typing) → AreReadings g rs ts → AllByRecursion IsRead rs
all_were_read g [] [] read = tt
all_were_read g [] (t ∷ ts) read = absurd read
all_were_read g (r ∷ rs) [] read = absurd read
all_were_read g (r ∷ rs) (t ∷ ts) read = (read.0.over.read, all_were_read g rs ts read.1)
