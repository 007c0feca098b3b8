-- Terms that are put in, decided and rewritten, as the pool grows.
use Rattle.std.proofs.Common.{◌≡◌, ◌<◌, ◌+◌, inl, inr, ℕ, List, [], ◌∷◌, ◌++◌, map, take, length, get_or, refl, sym, ap, ◌∙◌, subst, arith, zero, suc, Option, Some, None}
use Rattle.std.specs.Prelude.{◌⊎◌, IfSome, Vec}
use Rattle.std.specs.Global.{Global}
use Rattle.std.specs.List.{All, AllZip}
use Rattle.std.proofs.lemmas.List.{take_more, take_all, map-append}
use Rattle.std.proofs.lemmas.List.Elements.{All-get_or, All-head, All-tail}
use Rattle.std.proofs.lemmas.Slice.Zip.{all_zipped_more}
use Rattle.data_theory.specs.declared.ids.VarId.{VarId}
use Rattle.data_theory.specs.declared.ids.TermId.{TermId}
use Rattle.data_theory.specs.Terms.{Term, put}
use Rattle.data_theory.specs.Environments.{Environment, term_in}
use Rattle.data_theory.specs.Provable.{Equation}
use Rattle.data_theory.specs.Rewriting.{GoesTo, IsDecided, ChainOfMoreThan}
use Rattle.data_theory.specs.Signature.{Sig}
use Rattle.data_theory.specs.WholeSignatures.{IsSignature}
use Rattle.data_theory.specs.IdData.{data_meant}
use Rattle.data_theory.specs.IdTrees.{Tree, put_tree}
use Rattle.data_theory.specs.IdTerms.{term_under, IsTreeWithin}
use Rattle.term_pool.specs.Bindings.{listed, listed_terms}
use Rattle.term_pool.specs.HeadTrees.{tree_at, IsIn}
use Rattle.term_pool.specs.Pools.{Extends}
use Rattle.data_rewriter.specs.declared.machine.Normal.{Normal}
use Rattle.data_rewriter.specs.declared.machine.Normal.TheVariants.{Done, Spent as SpentAt}
use Rattle.data_rewriter.specs.declared.rewriter.Truth.{Truth}
use Rattle.data_rewriter.specs.declared.rewriter.Truth.TheVariants.{Yes, No, Stuck, Spent}
use Rattle.data_rewriter.specs.Rewriters.{IsDecision}
use Rattle.data_rewriter.specs.Standing.{IsTerm, StandsFor, term_at}
use Rattle.data_rewriter.specs.States.{Says}
use Rattle.data_rewriter.proofs.Standings.{term_kept, term_stays}
use Rattle.process_terms.specs.declared.labels.Action.{Action}
use Rattle.process_terms.specs.PlainProcesses.{PlainAction, plain_action}
use Rattle.lps_core.specs.PlainLinears.{plain_next}
use Rattle.lps_core.proofs.PutWithin.{put_within}
use Rattle.lps_core.proofs.MeantTrees.{put_means}
use Rattle.lps_simulator.specs.Rewritten.{IsRewritten, environment_of, decision_of, IsActionOver, IsRewrittenTerm, IsRewrittenAction, IsRewrittenNext, no_next, next_terms}
use Rattle.lps_simulator.proofs.Bindings.{listed_means, listed_within, environment_kept, terms_stay}

-- ---- one term
pub put_stands : (g : Sig) → IsSignature g → (ts us : List Tree) (by : List (VarId × TermId)) (t made : TermId) → IsTerm g ts t → All (IsTerm g ts) (listed_terms by) → IsIn us made → tree_at us made ≡ put_tree (listed ts by) (tree_at ts t)
    → StandsFor g us made (put (term_in (environment_of g ts by)) (term_at g ts t))
put_stands g stands ts us by t made h k inside e = record {
  term = record { inside = inside; within = subst (IsTreeWithin g) (sym e) (put_within g stands.complete (listed ts by) (listed_within g ts by k) (tree_at ts t) h.within) };
  is = ap (term_under g) e ∙ put_means g stands.table (listed ts by) (environment_of g ts by) (listed_means g ts by) (tree_at ts t);
}

pub decided_as : (g : Sig) (own : List Equation) (us vs : List Tree) (made : TermId) (t : Term) (fuel left : ℕ) (truth : Truth) → term_at g us made ≡ t → IsDecision g own us vs made fuel left truth → IsDecided (data_meant g) own fuel t (decision_of truth)
decided_as g own us vs made t fuel left Yes e h = subst (λ z. IsDecided (data_meant g) own fuel z (decision_of Yes)) e (h.0, h.2)
decided_as g own us vs made t fuel left No e h = subst (λ z. IsDecided (data_meant g) own fuel z (decision_of No)) e (h.0, h.2)
decided_as g own us vs made t fuel left (Stuck u) e h = subst (λ z. IsDecided (data_meant g) own fuel z (decision_of (Stuck u))) e (term_at g vs u, h.1.0, h.1.2, h.2, h.3)
decided_as g own us vs made t fuel left (Spent u) e h = subst (λ z. IsDecided (data_meant g) own fuel z (decision_of (Spent u))) e h.2

pub done_as : (g : Sig) (own : List Equation) (e : Environment) (ts us vs : List Tree) (t made u : TermId) (fuel left : ℕ) (r : Normal) → term_at g us made ≡ put (term_in e) (term_at g ts t) → r ≡ Done u → Says g own us vs made fuel left r → IsRewrittenTerm g own fuel e ts vs t u
done_as g own e ts us vs t made u fuel left r q is says =
    let h = subst (Says g own us vs made fuel left) is says in
    record { term = h.0; becomes = inl (h.1.0, subst (λ z. (GoesTo (data_meant g) own z (term_at g vs u) h.1.0)) q h.1.2) }

pub spent_as : (g : Sig) (own : List Equation) (e : Environment) (ts us vs : List Tree) (t made u : TermId) (fuel left : ℕ) (r : Normal) → IsTerm g us made → Extends us vs → term_at g us made ≡ put (term_in e) (term_at g ts t) → r ≡ SpentAt u → Says g own us vs made fuel left r → IsRewrittenTerm g own fuel e ts vs t u
spent_as g own e ts us vs t made u fuel left r stands grows q is says =
    let h = subst (Says g own us vs made fuel left) is says in
    let same : term_at g vs u ≡ put (term_in e) (term_at g ts t) = ap (term_at g vs) h.0 ∙ term_kept g us vs made grows stands.inside ∙ q in
    record {
      term = subst (IsTerm g vs) (sym h.0) (term_stays g us vs grows made stands);
      becomes = inr (same, subst (ChainOfMoreThan (data_meant g) own fuel) q h.2);
    }

-- ---- the arguments of an action in code
get_args : (g : Sig) (ts : List Tree) (items : List Action) (i : ℕ) (d : Action) → i < length items → All (IsActionOver g ts) (map plain_action items) → All (IsTerm g ts) (get_or items i d).args.items
get_args g ts [] i d l h = absurd (omega (arith, l))
get_args g ts (a ∷ items) zero d l h = (All-head (IsActionOver g ts) (plain_action a) (map plain_action items) h).args
get_args g ts (a ∷ items) (suc i) d l h = get_args g ts items i d (omega (arith, l)) (All-tail (IsActionOver g ts) (plain_action a) (map plain_action items) h)

pub item_args : (g : Sig) (ts : List Tree) (items : List Action) (i : ℕ) (a : Action) → i < length items → a ≡ get_or items i a → All (IsActionOver g ts) (map plain_action items) → All (IsTerm g ts) a.args.items
item_args g ts items i a l e h = subst (λ (z : Action). All (IsTerm g ts) z.args.items) (sym e) (get_args g ts items i a l h)

-- ---- next terms in code
pub next_some : (g : Sig) (ts : List Tree) (next : Option (Vec TermId Global)) (terms : Vec TermId Global) (args : List TermId) → next ≡ Some terms → args ≡ terms.items → IfSome (plain_next next) (All (IsTerm g ts)) → All (IsTerm g ts) args
next_some g ts next terms args e q h = subst (λ z. All (IsTerm g ts) z) (sym q) (subst (λ o. IfSome (plain_next o) (All (IsTerm g ts))) e h)

pub next_made : (g : Sig) (own : List Equation) (fuel : ℕ) (e : Environment) (ts us : List Tree) (next : Option (Vec TermId Global)) (terms made : Vec TermId Global) (args : List TermId) → next ≡ Some terms → args ≡ terms.items → AllZip (IsRewrittenTerm g own fuel e ts us) args made.items
    → IsRewrittenNext g own fuel e ts us (plain_next next) (Some made.items)
next_made g own fuel e ts us next terms made args is q h = subst (λ o. IsRewrittenNext g own fuel e ts us (plain_next o) (Some made.items)) (sym is) (next_terms (subst (λ z. AllZip (IsRewrittenTerm g own fuel e ts us) z made.items) q h))

pub next_none : (g : Sig) (own : List Equation) (fuel : ℕ) (e : Environment) (ts us : List Tree) (next : Option (Vec TermId Global)) → next ≡ None → IsRewrittenNext g own fuel e ts us (plain_next next) None
next_none g own fuel e ts us next is = subst (λ o. IsRewrittenNext g own fuel e ts us (plain_next o) None) (sym is) no_next

-- ---- later pools
module _ (g : Sig) (own : List Equation) (fuel : ℕ) where
  pub rewritten_on : (e : Environment) (ts us vs : List Tree) → Extends us vs → (t u : TermId) → IsRewrittenTerm g own fuel e ts us t u → IsRewrittenTerm g own fuel e ts vs t u
  rewritten_on e ts us vs grows t u h = record {
    term = term_stays g us vs grows u h.term;
    becomes = subst (IsRewritten (data_meant g) own fuel (put (term_in e) (term_at g ts t))) (sym (term_kept g us vs u grows h.term.inside)) h.becomes;
  }

  pub all_on : (e : Environment) (ts us vs : List Tree) → Extends us vs → (xs ys : List TermId) → AllZip (IsRewrittenTerm g own fuel e ts us) xs ys → AllZip (IsRewrittenTerm g own fuel e ts vs) xs ys
  all_on e ts us vs grows [] [] h = tt
  all_on e ts us vs grows [] (y ∷ ys) h = absurd h
  all_on e ts us vs grows (x ∷ xs) [] h = absurd h
  all_on e ts us vs grows (x ∷ xs) (y ∷ ys) h = (rewritten_on e ts us vs grows x y h.0, all_on e ts us vs grows xs ys h.1)

  pub actions_on : (e : Environment) (ts us vs : List Tree) → Extends us vs → (m n : List PlainAction) → AllZip (IsRewrittenAction g own fuel e ts us) m n → AllZip (IsRewrittenAction g own fuel e ts vs) m n
  actions_on e ts us vs grows [] [] h = tt
  actions_on e ts us vs grows [] (b ∷ n) h = absurd h
  actions_on e ts us vs grows (a ∷ m) [] h = absurd h
  actions_on e ts us vs grows (a ∷ m) (b ∷ n) h = (record { act = h.0.act; args = all_on e ts us vs grows a.args b.args h.0.args }, actions_on e ts us vs grows m n h.1)

  pub next_on : (e : Environment) (ts us vs : List Tree) → Extends us vs → {o q : Option (List TermId)} → IsRewrittenNext g own fuel e ts us o q → IsRewrittenNext g own fuel e ts vs o q
  next_on e ts us vs grows no_next = no_next
  next_on e ts us vs grows (next_terms {ids = ids} {made = made} h) = next_terms (all_on e ts us vs grows ids made h)

  -- ---- what is made over a later pool is made over the first one
  module _ (ts us : List Tree) (by : List (VarId × TermId)) (grows : Extends ts us) (over : All (IsTerm g ts) (listed_terms by)) where
    pub rewritten_from : (vs : List Tree) (t u : TermId) → IsTerm g ts t → IsRewrittenTerm g own fuel (environment_of g us by) us vs t u → IsRewrittenTerm g own fuel (environment_of g ts by) ts vs t u
    rewritten_from vs t u h k = record {
      term = k.term;
      becomes =
          subst (λ z. IsRewritten (data_meant g) own fuel (put (term_in (environment_of g ts by)) z) (term_at g vs u)) (term_kept g ts us t grows h.inside)
          (subst (λ d. IsRewritten (data_meant g) own fuel (put (term_in d) (term_at g us t)) (term_at g vs u)) (environment_kept g ts us by grows over) k.becomes);
    }

    pub all_from : (vs : List Tree) (xs ys : List TermId) → All (IsTerm g ts) xs → AllZip (IsRewrittenTerm g own fuel (environment_of g us by) us vs) xs ys → AllZip (IsRewrittenTerm g own fuel (environment_of g ts by) ts vs) xs ys
    all_from vs [] [] h k = tt
    all_from vs [] (y ∷ ys) h k = absurd k
    all_from vs (x ∷ xs) [] h k = absurd k
    all_from vs (x ∷ xs) (y ∷ ys) h k = (rewritten_from vs x y (All-head (IsTerm g ts) x xs h) k.0, all_from vs xs ys (All-tail (IsTerm g ts) x xs h) k.1)

    pub actions_from : (vs : List Tree) (m n : List PlainAction) → All (IsActionOver g ts) m → AllZip (IsRewrittenAction g own fuel (environment_of g us by) us vs) m n → AllZip (IsRewrittenAction g own fuel (environment_of g ts by) ts vs) m n
    actions_from vs [] [] h k = tt
    actions_from vs [] (b ∷ n) h k = absurd k
    actions_from vs (a ∷ m) [] h k = absurd k
    actions_from vs (a ∷ m) (b ∷ n) h k = (
      record { act = k.0.act; args = all_from vs a.args b.args (All-head (IsActionOver g ts) a m h).args k.0.args },
      actions_from vs m n (All-tail (IsActionOver g ts) a m h) k.1,
    )

    pub next_from : (vs : List Tree) {o q : Option (List TermId)} → IfSome o (All (IsTerm g ts)) → IsRewrittenNext g own fuel (environment_of g us by) us vs o q → IsRewrittenNext g own fuel (environment_of g ts by) ts vs o q
    next_from vs h no_next = no_next
    next_from vs h (next_terms {ids = ids} {made = made} k) = next_terms (all_from vs ids made h k)

    -- ---- one more
    pub terms_more : (vs : List Tree) → Extends us vs → (xs : List TermId) (i : ℕ) (d : TermId) (made new : List TermId) (u : TermId) → i < length xs → All (IsTerm g ts) xs → AllZip (IsRewrittenTerm g own fuel (environment_of g ts by) ts us) (take i xs) made
        → IsRewrittenTerm g own fuel (environment_of g us by) us vs (get_or xs i d) u → new ≡ made ++ u ∷ [] → AllZip (IsRewrittenTerm g own fuel (environment_of g ts by) ts vs) (take (i + 1) xs) new
    terms_more vs on xs i d made new u l all before h q =
        subst (λ z. AllZip (IsRewrittenTerm g own fuel (environment_of g ts by) ts vs) (take (i + 1) xs) z) (sym q)
        (subst (λ z. AllZip (IsRewrittenTerm g own fuel (environment_of g ts by) ts vs) z (made ++ u ∷ [])) (sym (take_more xs i d l))
        (all_zipped_more (IsRewrittenTerm g own fuel (environment_of g ts by) ts vs) (take i xs) made (get_or xs i d) u (all_on (environment_of g ts by) ts us vs on (take i xs) made before)
        (rewritten_from vs (get_or xs i d) u (All-get_or (IsTerm g ts) xs i d l all) h)))

    pub actions_more : (vs : List Tree) → Extends us vs → (items : List Action) (i : ℕ) (a : Action) (made new : List Action) (b : Action) → i < length items → a ≡ get_or items i a → All (IsActionOver g ts) (map plain_action items)
        → AllZip (IsRewrittenAction g own fuel (environment_of g ts by) ts us) (map plain_action (take i items)) (map plain_action made) → b.act ≡ a.act
        → AllZip (IsRewrittenTerm g own fuel (environment_of g us by) us vs) a.args.items b.args.items → new ≡ made ++ b ∷ []
        → AllZip (IsRewrittenAction g own fuel (environment_of g ts by) ts vs) (map plain_action (take (i + 1) items)) (map plain_action new)
    actions_more vs on items i a made new b l read all before same h q =
        let R = IsRewrittenAction g own fuel (environment_of g ts by) ts vs in
        let own_args = item_args g ts items i a l read all in
        subst (λ z. AllZip R (map plain_action (take (i + 1) items)) (map plain_action z)) (sym q)
        (subst (λ z. AllZip R z (map plain_action (made ++ b ∷ []))) (sym (ap (map plain_action) (take_more items i a l ∙ ap (λ z. take i items ++ z ∷ []) (sym read)) ∙ map-append plain_action (take i items) (a ∷ [])))
        (subst (λ z. AllZip R (map plain_action (take i items) ++ plain_action a ∷ []) z) (sym (map-append plain_action made (b ∷ [])))
        (all_zipped_more R (map plain_action (take i items)) (map plain_action made) (plain_action a) (plain_action b) (actions_on (environment_of g ts by) ts us vs on (map plain_action (take i items)) (map plain_action made) before)
        (record { act = same; args = all_from vs a.args.items b.args.items own_args h }))))
