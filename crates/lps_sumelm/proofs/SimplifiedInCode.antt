-- What simplifiers answer for the terms of a summand, one after another, as the pool grows.
use Rattle.std.proofs.Common.{◌≡◌, ◌<◌, ◌+◌, ℕ, zero, suc, List, [], ◌∷◌, ◌++◌, map, take, length, get_or, sym, ap, ◌∙◌, subst, arith, Option, Some, None}
use Rattle.std.specs.Global.{Global}
use Rattle.std.specs.Prelude.{◌↔◌, Vec, option_map, slice_get, IfSome}
use Rattle.std.specs.List.{All, AllZip}
use Rattle.std.proofs.lemmas.List.{take_more, map-append}
use Rattle.std.proofs.lemmas.List.Elements.{All-head, All-tail, All-nil, All-cons, All-get_or, All-weaker}
use Rattle.std.proofs.lemmas.Slice.Zip.{all_zipped_more}
use Rattle.data_theory.specs.declared.ids.ActId.{ActId}
use Rattle.data_theory.specs.declared.ids.TermId.{TermId}
use Rattle.data_theory.specs.Terms.{Term}
use Rattle.data_theory.specs.Provable.{Equation}
use Rattle.data_theory.specs.Signature.{Sig}
use Rattle.data_theory.specs.IdTrees.{Tree}
use Rattle.data_theory.specs.IdTerms.{term_under}
use Rattle.term_pool.specs.HeadTrees.{trees_at}
use Rattle.term_pool.specs.Pools.{Extends}
use Rattle.process_terms.specs.PlainProcesses.{PlainAction, plain_action}
use Rattle.process_terms.specs.declared.labels.Action.{Action}
use Rattle.process_terms.specs.Labels as theory
use Rattle.process_terms.specs.Meanings.{bound_at}
use Rattle.process_terms.specs.SignatureEntries.{entries_of}
use Rattle.bisim_laws.specs.LinearProcesses.{Summand}
use Rattle.data_rewriter.specs.Simplifying.{AreWellFormed, IsSimplified}
use Rattle.data_rewriter.specs.Standing.{IsTerm, term_at}
use Rattle.data_rewriter.proofs.Standings.{term_kept, term_stays}
use Rattle.lps_core.specs.PlainLinears.{PlainSummand, plain_next}
use Rattle.lps_core.specs.TreeSummands.{trees_of_label, meant_action}
use Rattle.lps_core.proofs.PoolTrees.{extends_on}
use Rattle.lps_sumelm.specs.Simplified.{IsAnswer, ActionBecomes, NextBecomes, neither_goes_on, both_go_on, SummandBecomes}
use Rattle.lps_sumelm.specs.SummandsInCode.{IsActionOver, IsSummandOver, IsTermAnswer, IsActionAnswer, AreActionAnswers, IsNextAnswer, no_next, next_terms, IsSummandAnswer}

-- ---- what is the same in two steps is the same
pub same_on : {A B C : Type 0} → A ↔ B → B ↔ C → A ↔ C
same_on f h = (λ a. h.0 (f.0 a), λ c. f.1 (h.1 c))

-- what holds of each item of a mapped list
pub mapped_item : {A B : Type 0} (f : A → B) (P : B → Type 0) (xs : List A) (i : ℕ) (d x : A) → i < length xs → x ≡ get_or xs i d → All P (map f xs) → P (f x)
mapped_item f P [] i d x l e h = absurd (omega (arith, l))
mapped_item f P (y ∷ xs) zero d x l e h = subst (λ z. P (f z)) (sym e) (All-head P (f y) (map f xs) h)
mapped_item f P (y ∷ xs) (suc i) d x l e h = mapped_item f P xs i d x (omega (arith, l)) e (All-tail P (f y) (map f xs) h)

-- ---- terms of a grown pool
module _ (g : Sig) (ts us : List Tree) (e : Extends ts us) where
  pub terms_stay_over : (ids : List TermId) → All (IsTerm g ts) ids → All (IsTerm g us) ids
  terms_stay_over ids h = All-weaker (IsTerm g ts) (IsTerm g us) (λ id k. term_stays g ts us e id k) ids h

  pub one_more_term : (ids : List TermId) (i : ℕ) (d : TermId) → i < length ids → All (IsTerm g ts) ids → IsTerm g us (get_or ids i d)
  one_more_term ids i d l h = term_stays g ts us e (get_or ids i d) (All-get_or (IsTerm g ts) ids i d l h)

  pub action_stays_over : (a : PlainAction) → IsActionOver g ts a → IsActionOver g us a
  action_stays_over a h = record { key = h.key; stands = h.stands; args = terms_stay_over a.args h.args }

  -- the arguments of an item
  pub item_args : (items all : List Action) (i : ℕ) (a : Action) (args : List TermId) → items ≡ all → i < length items → a ≡ get_or items i a → args ≡ a.args.items → All (IsActionOver g ts) (map plain_action all) → All (IsTerm g us) args
  item_args items all i a args q l at r h =
      subst (λ z. All (IsTerm g us) z) (sym r) (terms_stay_over a.args.items (mapped_item plain_action (IsActionOver g ts) items i a a l at (subst (λ z. All (IsActionOver g ts) (map plain_action z)) (sym q) h)).args)

  pub actions_stay_over : (m : List PlainAction) → All (IsActionOver g ts) m → All (IsActionOver g us) m
  actions_stay_over m h = All-weaker (IsActionOver g ts) (IsActionOver g us) action_stays_over m h

  pub next_stays_over : (o : Option (List TermId)) → IfSome o (All (IsTerm g ts)) → IfSome o (All (IsTerm g us))
  next_stays_over None h = h
  next_stays_over (Some ids) h = terms_stay_over ids h

  pub summand_stays_over : (s : PlainSummand) → IsSummandOver g ts s → IsSummandOver g us s
  summand_stays_over s h = record { condition = term_stays g ts us e s.condition h.condition; label = actions_stay_over s.label h.label; next = next_stays_over s.next h.next }

module _ (g : Sig) (own : List Equation) (fine : AreWellFormed g own) (P : Term → Type 0) where
  abbrev Answers : List Tree → List Tree → TermId → TermId → Type 0
  Answers ts us = IsTermAnswer g own P ts us

  -- one call
  pub one_answer : (ts us : List Tree) (t u : TermId) → IsSimplified g own ts us t u → P (term_at g us u) → Answers ts us t u
  one_answer ts us t u h p = record { term = h.term; answer = record { variables = h.variables (λ q i. (fine q i).covered); sort = h.sort fine; equal = h.equal fine; simple = p } }

  -- earlier and later pools
  pub answer_on : (ts us vs : List Tree) → Extends us vs → (t u : TermId) → Answers ts us t u → Answers ts vs t u
  answer_on ts us vs e t u h = record { term = term_stays g us vs e u h.term; answer = subst (IsAnswer g own P (term_at g ts t)) (sym (term_kept g us vs u e h.term.inside)) h.answer }

  pub answer_from : (ts us vs : List Tree) → Extends ts us → (t u : TermId) → IsTerm g ts t → Answers us vs t u → Answers ts vs t u
  answer_from ts us vs e t u k h = record { term = h.term; answer = subst (λ z. IsAnswer g own P z (term_at g vs u)) (term_kept g ts us t e k.inside) h.answer }

  pub answers_on : (ts us vs : List Tree) → Extends us vs → (xs ys : List TermId) → AllZip (Answers ts us) xs ys → AllZip (Answers ts vs) xs ys
  answers_on ts us vs e [] [] h = tt
  answers_on ts us vs e [] (y ∷ ys) h = absurd h
  answers_on ts us vs e (x ∷ xs) [] h = absurd h
  answers_on ts us vs e (x ∷ xs) (y ∷ ys) h = (answer_on ts us vs e x y h.0, answers_on ts us vs e xs ys h.1)

  pub answers_from : (ts us vs : List Tree) → Extends ts us → (xs ys : List TermId) → All (IsTerm g ts) xs → AllZip (Answers us vs) xs ys → AllZip (Answers ts vs) xs ys
  answers_from ts us vs e [] [] k h = tt
  answers_from ts us vs e [] (y ∷ ys) k h = absurd h
  answers_from ts us vs e (x ∷ xs) [] k h = absurd h
  answers_from ts us vs e (x ∷ xs) (y ∷ ys) k h = (answer_from ts us vs e x y (All-head (IsTerm g ts) x xs k) h.0, answers_from ts us vs e xs ys (All-tail (IsTerm g ts) x xs k) h.1)

  -- one term more
  pub answers_more : (ts us vs : List Tree) (xs : List TermId) (i : ℕ) (d : TermId) (made : List TermId) (u : TermId) → i < length xs → All (IsTerm g ts) xs → Extends ts us → Extends us vs → AllZip (Answers ts us) (take i xs) made → Answers us vs (get_or xs i d) u
      → AllZip (Answers ts vs) (take (i + 1) xs) (made ++ u ∷ [])
  answers_more ts us vs xs i d made u l k e f h new =
      subst (λ z. AllZip (Answers ts vs) z (made ++ u ∷ [])) (sym (take_more xs i d l))
      (all_zipped_more (Answers ts vs) (take i xs) made (get_or xs i d) u (answers_on ts us vs f (take i xs) made h) (answer_from ts us vs e (get_or xs i d) u (All-get_or (IsTerm g ts) xs i d l k) new))

  -- ---- actions
  pub action_on : (ts us vs : List Tree) → Extends us vs → (a b : PlainAction) → IsActionAnswer g own P ts us a b → IsActionAnswer g own P ts vs a b
  action_on ts us vs e a b h = record { act = h.act; args = answers_on ts us vs e a.args b.args h.args }

  pub actions_on : (ts us vs : List Tree) → Extends us vs → (m n : List PlainAction) → AreActionAnswers g own P ts us m n → AreActionAnswers g own P ts vs m n
  actions_on ts us vs e [] [] h = tt
  actions_on ts us vs e [] (b ∷ n) h = absurd h
  actions_on ts us vs e (a ∷ m) [] h = absurd h
  actions_on ts us vs e (a ∷ m) (b ∷ n) h = (action_on ts us vs e a b h.0, actions_on ts us vs e m n h.1)

  pub actions_from : (ts us vs : List Tree) → Extends ts us → (m n : List PlainAction) → All (IsActionOver g ts) m → AreActionAnswers g own P us vs m n → AreActionAnswers g own P ts vs m n
  actions_from ts us vs e [] [] k h = tt
  actions_from ts us vs e [] (b ∷ n) k h = absurd h
  actions_from ts us vs e (a ∷ m) [] k h = absurd h
  actions_from ts us vs e (a ∷ m) (b ∷ n) k h =
      (record { act = h.0.act; args = answers_from ts us vs e a.args b.args (All-head (IsActionOver g ts) a m k).args h.0.args }, actions_from ts us vs e m n (All-tail (IsActionOver g ts) a m k) h.1)

  -- one action more
  pub actions_more : (ts us vs : List Tree) (items : List Action) (i : ℕ) (a : Action) (made : List PlainAction) (b : PlainAction) → i < length items → a ≡ get_or items i a → All (IsTerm g ts) a.args.items → Extends ts us → Extends us vs
      → AreActionAnswers g own P ts us (map plain_action (take i items)) made → b.act ≡ a.act → AllZip (Answers us vs) a.args.items b.args → AreActionAnswers g own P ts vs (map plain_action (take (i + 1) items)) (made ++ b ∷ [])
  actions_more ts us vs items i a made b l at k e f h act new =
      subst (λ z. AreActionAnswers g own P ts vs z (made ++ b ∷ []))
      (sym (ap (map plain_action) (take_more items i a l ∙ ap (λ z. take i items ++ z ∷ []) (sym at)) ∙ map-append plain_action (take i items) (a ∷ [])))
      (all_zipped_more (IsActionAnswer g own P ts vs) (map plain_action (take i items)) made (plain_action a) b (actions_on ts us vs f (map plain_action (take i items)) made h) (record { act = act; args = answers_from ts us vs e a.args.items b.args k new }))

  -- the same in code
  pub actions_more_in : (ts us vs : List Tree) (items : List Action) (i : ℕ) (a : Action) (made : List Action) (b : Action) → i < length items → a ≡ get_or items i a → All (IsActionOver g ts) (map plain_action items) → Extends ts us → Extends us vs
      → AreActionAnswers g own P ts us (map plain_action (take i items)) (map plain_action made) → b.act ≡ a.act → AllZip (Answers us vs) a.args.items b.args.items → AreActionAnswers g own P ts vs (map plain_action (take (i + 1) items)) (map plain_action (made ++ b ∷ []))
  actions_more_in ts us vs items i a made b l at all e f h act new =
      subst (λ z. AreActionAnswers g own P ts vs (map plain_action (take (i + 1) items)) z) (sym (map-append plain_action made (b ∷ [])))
      (actions_more ts us vs items i a (map plain_action made) (plain_action b) l at (mapped_item plain_action (IsActionOver g ts) items i a a l at all).args e f h act new)

  -- ---- next terms
  pub next_on : (ts us vs : List Tree) → Extends us vs → {o q : Option (List TermId)} → IsNextAnswer g own P ts us o q → IsNextAnswer g own P ts vs o q
  next_on ts us vs e no_next = no_next
  next_on ts us vs e (next_terms {ids = ids} {made = made} h) = next_terms (answers_on ts us vs e ids made h)

  pub next_from : (ts us vs : List Tree) → Extends ts us → {o q : Option (List TermId)} → IfSome o (All (IsTerm g ts)) → IsNextAnswer g own P us vs o q → IsNextAnswer g own P ts vs o q
  next_from ts us vs e k no_next = no_next
  next_from ts us vs e k (next_terms {ids = ids} {made = made} h) = next_terms (answers_from ts us vs e ids made k h)

  -- ---- the summand
  answers_become : (ts us : List Tree) (xs ys : List TermId) → AllZip (Answers ts us) xs ys → AllZip (IsAnswer g own P) (map (term_under g) (trees_at ts xs)) (map (term_under g) (trees_at us ys))
  answers_become ts us [] [] h = tt
  answers_become ts us [] (y ∷ ys) h = absurd h
  answers_become ts us (x ∷ xs) [] h = absurd h
  answers_become ts us (x ∷ xs) (y ∷ ys) h = (h.0.answer, answers_become ts us xs ys h.1)

  terms_are_over : (ts us : List Tree) (xs ys : List TermId) → AllZip (Answers ts us) xs ys → All (IsTerm g us) ys
  terms_are_over ts us [] [] h = All-nil (IsTerm g us)
  terms_are_over ts us [] (y ∷ ys) h = absurd h
  terms_are_over ts us (x ∷ xs) [] h = absurd h
  terms_are_over ts us (x ∷ xs) (y ∷ ys) h = All-cons (IsTerm g us) y ys h.0.term (terms_are_over ts us xs ys h.1)

  label_becomes : (ts us : List Tree) (m n : List PlainAction) → AreActionAnswers g own P ts us m n → AllZip (ActionBecomes (IsAnswer g own P)) (map (meant_action g) (trees_of_label ts m)) (map (meant_action g) (trees_of_label us n))
  label_becomes ts us [] [] h = tt
  label_becomes ts us [] (b ∷ n) h = absurd h
  label_becomes ts us (a ∷ m) [] h = absurd h
  label_becomes ts us (a ∷ m) (b ∷ n) h = (
    record {
      name = ap (λ k. (meant_action g (record { act = k; args = [] })).name) h.0.act;
      sorts = ap (λ k. (meant_action g (record { act = k; args = [] })).sorts) h.0.act;
      args = answers_become ts us a.args b.args h.0.args;
    },
    label_becomes ts us m n h.1,
  )

  label_is_over : (ts us : List Tree) (m n : List PlainAction) → AreActionAnswers g own P ts us m n → All (IsActionOver g ts) m → All (IsActionOver g us) n
  label_is_over ts us [] [] h k = All-nil (IsActionOver g us)
  label_is_over ts us [] (b ∷ n) h k = absurd h
  label_is_over ts us (a ∷ m) [] h k = absurd h
  label_is_over ts us (a ∷ m) (b ∷ n) h k =
      let o = All-head (IsActionOver g ts) a m k in
      All-cons (IsActionOver g us) b n
      (record { key = o.key; stands = ap (λ (z : ActId). slice_get g.actions z.0) h.0.act ∙ o.stands; args = terms_are_over ts us a.args b.args h.0.args })
      (label_is_over ts us m n h.1 (All-tail (IsActionOver g ts) a m k))

  next_becomes : (ts us : List Tree) {o q : Option (List TermId)} → IsNextAnswer g own P ts us o q → NextBecomes (IsAnswer g own P) (option_map (map (term_under g)) (option_map (trees_at ts) o)) (option_map (map (term_under g)) (option_map (trees_at us) q))
  next_becomes ts us no_next = neither_goes_on
  next_becomes ts us (next_terms {ids = ids} {made = made} h) = both_go_on (answers_become ts us ids made h)

  next_is_over : (ts us : List Tree) {o q : Option (List TermId)} → IsNextAnswer g own P ts us o q → IfSome q (All (IsTerm g us))
  next_is_over ts us no_next = tt
  next_is_over ts us (next_terms {ids = ids} {made = made} h) = terms_are_over ts us ids made h

  -- from the answers for its parts, each at its pools
  pub summand_answer : (ts us vs ws : List Tree) (s made : PlainSummand) → IsSummandOver g ts s → Extends ts us → Extends us vs → Extends vs ws → made.sums ≡ s.sums → Answers ts us s.condition made.condition
      → AreActionAnswers g own P us vs s.label made.label → IsNextAnswer g own P vs ws s.next made.next → IsSummandAnswer g own P ts ws s made
  summand_answer ts us vs ws s made over d e f sums c m n =
      let c' = answer_on ts us ws (extends_on us vs ws e f) s.condition made.condition c in
      let m' = actions_on ts vs ws f s.label made.label (actions_from ts us vs d s.label made.label over.label m) in
      let n' = next_from ts vs ws (extends_on ts us vs d e) over.next n in
      record {
        over = record { condition = c'.term; label = label_is_over ts ws s.label made.label m' over.label; next = next_is_over ts ws n' };
        becomes = record { sums = ap (map (bound_at (entries_of g []))) sums; condition = c'.answer; label = label_becomes ts ws s.label made.label m'; next = next_becomes ts ws n' };
      }

-- next terms in code
pub next_some : (g : Sig) (ts : List Tree) (next : Option (Vec TermId Global)) (terms : Vec TermId Global) (args : List TermId) → next ≡ Some terms → args ≡ terms.items → IfSome (plain_next next) (All (IsTerm g ts)) → All (IsTerm g ts) args
next_some g ts next terms args e q h = subst (λ z. All (IsTerm g ts) z) (sym q) (subst (λ o. IfSome (plain_next o) (All (IsTerm g ts))) e h)

pub next_made : (g : Sig) (own : List Equation) (P : Term → Type 0) (ts us : List Tree) (next : Option (Vec TermId Global)) (terms made : Vec TermId Global) (args : List TermId) → next ≡ Some terms → args ≡ terms.items → AllZip (IsTermAnswer g own P ts us) args made.items
    → IsNextAnswer g own P ts us (plain_next next) (Some made.items)
next_made g own P ts us next terms made args e q h = subst (λ o. IsNextAnswer g own P ts us (plain_next o) (Some made.items)) (sym e) (next_terms (subst (λ z. AllZip (IsTermAnswer g own P ts us) z made.items) q h))

pub next_none : (g : Sig) (own : List Equation) (P : Term → Type 0) (ts us : List Tree) (next : Option (Vec TermId Global)) → next ≡ None → IsNextAnswer g own P ts us (plain_next next) None
next_none g own P ts us next e = subst (λ o. IsNextAnswer g own P ts us (plain_next o) None) (sym e) no_next

-- ---- simple terms, for simplifiers that say the same of them
pub term_answer_along : (g : Sig) (own : List Equation) (P Q : Term → Type 0) → ((t : Term) → P t → Q t) → (ts us : List Tree) (t u : TermId) → IsTermAnswer g own P ts us t u → IsTermAnswer g own Q ts us t u
term_answer_along g own P Q w ts us t u h = record { term = h.term; answer = record { variables = h.answer.variables; sort = h.answer.sort; equal = h.answer.equal; simple = w (term_at g us u) h.answer.simple } }

module _ (g : Sig) (own : List Equation) (P Q : Term → Type 0) (w : (t : Term) → P t → Q t) where
  pub answers_along : (ts us : List Tree) (xs ys : List TermId) → AllZip (IsTermAnswer g own P ts us) xs ys → AllZip (IsTermAnswer g own Q ts us) xs ys
  answers_along ts us [] [] h = tt
  answers_along ts us [] (y ∷ ys) h = absurd h
  answers_along ts us (x ∷ xs) [] h = absurd h
  answers_along ts us (x ∷ xs) (y ∷ ys) h = (term_answer_along g own P Q w ts us x y h.0, answers_along ts us xs ys h.1)

  pub actions_along : (ts us : List Tree) (m n : List PlainAction) → AreActionAnswers g own P ts us m n → AreActionAnswers g own Q ts us m n
  actions_along ts us [] [] h = tt
  actions_along ts us [] (b ∷ n) h = absurd h
  actions_along ts us (a ∷ m) [] h = absurd h
  actions_along ts us (a ∷ m) (b ∷ n) h = (record { act = h.0.act; args = answers_along ts us a.args b.args h.0.args }, actions_along ts us m n h.1)

  pub next_along : (ts us : List Tree) {o q : Option (List TermId)} → IsNextAnswer g own P ts us o q → IsNextAnswer g own Q ts us o q
  next_along ts us no_next = no_next
  next_along ts us (next_terms {ids = ids} {made = made} h) = next_terms (answers_along ts us ids made h)

  -- in what terms become
  to_along : (t u : Term) → IsAnswer g own P t u → IsAnswer g own Q t u
  to_along t u h = record { variables = h.variables; sort = h.sort; equal = h.equal; simple = w u h.simple }

  zipped_along : (ts us : List Term) → AllZip (IsAnswer g own P) ts us → AllZip (IsAnswer g own Q) ts us
  zipped_along [] [] h = tt
  zipped_along [] (u ∷ us) h = absurd h
  zipped_along (t ∷ ts) [] h = absurd h
  zipped_along (t ∷ ts) (u ∷ us) h = (to_along t u h.0, zipped_along ts us h.1)

  label_along : (m n : theory.Label) → AllZip (ActionBecomes (IsAnswer g own P)) m n → AllZip (ActionBecomes (IsAnswer g own Q)) m n
  label_along [] [] h = tt
  label_along [] (b ∷ n) h = absurd h
  label_along (a ∷ m) [] h = absurd h
  label_along (a ∷ m) (b ∷ n) h = (record { name = h.0.name; sorts = h.0.sorts; args = zipped_along a.args b.args h.0.args }, label_along m n h.1)

  then_along : {o q : Option (List Term)} → NextBecomes (IsAnswer g own P) o q → NextBecomes (IsAnswer g own Q) o q
  then_along neither_goes_on = neither_goes_on
  then_along (both_go_on {ts = ts} {us = us} h) = both_go_on (zipped_along ts us h)

  pub becomes_along : (s t : Summand) → SummandBecomes (IsAnswer g own P) s t → SummandBecomes (IsAnswer g own Q) s t
  becomes_along s t h = record { sums = h.sums; condition = to_along s.condition t.condition h.condition; label = label_along s.label t.label h.label; next = then_along h.next }
