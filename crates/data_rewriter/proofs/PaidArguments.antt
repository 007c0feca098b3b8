-- What a machine has paid behind an argument.
use Rattle.std.proofs.Common.{◌≡◌, ℕ, suc, ◌+◌, ◌<◌, List, [], ◌∷◌, ◌++◌, sym, ap, ◌∙◌, subst, arith, length, map, take, drop, get_or, set, append_assoc}
use Rattle.std.specs.Prelude.{Contains, Some, ℤ}
use Rattle.std.specs.List.{All}
use Rattle.data_theory.specs.declared.ids.TermId.{TermId}
use Rattle.data_theory.specs.declared.ids.FunId.{FunId}
use Rattle.data_theory.specs.Terms as terms
use Rattle.data_theory.specs.Terms.{Sort, Symbol, Term, Terms, numeral, application, apply, more, none}
use Rattle.data_theory.specs.Declarations.{Data}
use Rattle.data_theory.specs.Provable.{Equation}
use Rattle.data_theory.specs.Rewriting.{FirstDecides}
use Rattle.data_theory.proofs.GoesToIsEqual.{looks_first_unmerged}
use Rattle.data_theory.specs.Signature.{Sig}
use Rattle.data_theory.specs.IdData.{data_meant}
use Rattle.data_theory.specs.IdTrees.{Tree}
use Rattle.data_theory.specs.IdTerms.{symbol_under}
use Rattle.term_pool.specs.HeadTrees.{IsIn}
use Rattle.term_pool.specs.Pools.{Extends}
use Rattle.data_rewriter.specs.declared.machine.Hand.{Hand}
use Rattle.data_rewriter.specs.declared.machine.Hand.TheVariants.{Visit, Root, Answer, Spent}
use Rattle.data_rewriter.specs.Charges.{Known, AreKnown, ComesTo, merges}
use Rattle.data_rewriter.specs.Frames.{Plain, applies}
use Rattle.data_rewriter.specs.Paying.{Advances, HasArgument, HavePaid, Pays}
use Rattle.data_rewriter.specs.Places.{Place, whole, from_equation, Pending}
use Rattle.data_rewriter.specs.Standing.{term_at, listed_at, terms_of}
use Rattle.data_rewriter.specs.States.{IsFrameIn, EntersRoot, pending_at}
use Rattle.data_rewriter.proofs.Advancing.{stands, then_advances, advances_as, comes, to_the_root, to_the_root_at_once}
use Rattle.data_rewriter.proofs.ArgumentMoves.{later_is, done_are, none_later, all_are, listed_push, none_done, no_numeral}
use Rattle.data_rewriter.proofs.Moving.{still_undecided}
use Rattle.data_rewriter.proofs.Standings.{term_kept}
use Rattle.data_rewriter.proofs.StateMoves.{pending_kept}

-- one more argument is known
another_known : (known : Known) (olds news : List Term) (t u : Term) → AreKnown known (terms_of olds) (terms_of news) → Contains known (t, u) → AreKnown known (terms_of (olds ++ t ∷ [])) (terms_of (news ++ u ∷ []))
another_known known [] [] t u a b = (b, tt)
another_known known [] (v ∷ vs) t u a b = absurd a
another_known known (s ∷ ss) [] t u a b = absurd a
another_known known (s ∷ ss) (v ∷ vs) t u a b = (a.0, another_known known ss vs t u a.1 b)

module _ (g : Data) (own : List Equation) (known : Known) (Below : Term → ℕ → Type 0) (start : Term) (f : Symbol) (hand u : Term) (n : ℕ) (is : Contains known (hand, u)) where
  module _ (news : List Term) (first : news ≡ [] → FirstDecides f (more u none) → ⊥) where
    -- the next argument
    argument_waits : (later : List Term) (next : Term) → HasArgument g own known Below start f news (next ∷ later) hand n → HasArgument g own known Below start f (news ++ u ∷ []) later next n
    argument_waits later next p =
        let olds = p.olds ++ hand ∷ [] in
        let same : p.olds ++ hand ∷ (next ∷ later) ≡ olds ++ next ∷ later = sym (append_assoc p.olds (hand ∷ []) (next ∷ later)) in
        record {
          before = p.before;
          moved = p.moved;
          olds = olds;
          below = p.below;
          advances = subst (λ ts. Advances g own known (whole start) (whole (application f (terms_of ts))) p.moved) same p.advances;
          arguments = another_known known p.olds news hand u p.arguments is;
          undecided = still_undecided g own start f news u p.undecided first;
          uses_are = p.uses_are;
        }

    -- the root, or a numeral, where there is none
    done_advances : (h : Symbol) (ws : Terms) (p : HasArgument g own known Below start f news [] hand n) → apply f (terms_of (news ++ u ∷ [])) ≡ application h ws → Advances g own known (whole start) (from_equation 0 (application h ws)) p.moved
    done_advances h ws p e =
        let root = to_the_root g own known f h (terms_of (p.olds ++ hand ∷ [])) (terms_of (news ++ u ∷ [])) ws (another_known known p.olds news hand u p.arguments is) (still_undecided g own start f news u p.undecided first) e in
        advances_as g own known (omega arith) (then_advances g own known p.advances root)

    done_comes : (a : Sort) (z : ℤ) (p : HasArgument g own known Below start f news [] hand n) → apply f (terms_of (news ++ u ∷ [])) ≡ numeral a z → ComesTo g own known (whole start) (Some (numeral a z)) (p.moved + 0)
    done_comes a z p e = comes g own known (Some (numeral a z)) p.advances (merges (terms_of (news ++ u ∷ [])) (another_known known p.olds news hand u p.arguments is) (still_undecided g own start f news u p.undecided first) e)

  -- the first argument decides
  first_advances : (later : List Term) → FirstDecides f (more u (terms_of later)) → (p : HasArgument g own known Below start f [] later hand n) → Advances g own known (whole start) (from_equation 0 (application f (more u (terms_of later)))) p.moved
  first_advances later d p = without_olds p.olds p.advances p.arguments
    where
      without_olds : (olds : List Term) → Advances g own known (whole start) (whole (application f (terms_of (olds ++ hand ∷ later)))) p.moved → AreKnown known (terms_of olds) none → Advances g own known (whole start) (from_equation 0 (application f (more u (terms_of later)))) p.moved
      without_olds [] l a = advances_as g own known (omega arith) (then_advances g own known l (to_the_root_at_once g own known f hand u (terms_of later) is d))
      without_olds (t ∷ ts) l a = absurd a

module _ (sig : Sig) (own : List Equation) (known : Known) (old new : List Tree) (grows : Extends old new) (origin : Term) (stack : List Plain) (frames : All (IsFrameIn old) stack) (start : TermId) (start_in : IsIn old start) (f : FunId) (behind fuel : ℕ) (hand normal : TermId) (is : Contains known (term_at sig old hand, term_at sig old normal)) where
  abbrev Below : Term → ℕ → Type 0
  Below = HavePaid (data_meant sig) own known origin (map (pending_at sig old) stack)

  stays_pending : (n : ℕ) → Below (term_at sig old start) n → HavePaid (data_meant sig) own known origin (map (pending_at sig new) stack) (term_at sig new start) n
  stays_pending n w =
      subst (λ (x : Term). HavePaid (data_meant sig) own known origin (map (pending_at sig new) stack) x n) (sym (term_kept sig old new start grows start_in))
      (subst (λ (st : List Pending). HavePaid (data_meant sig) own known origin st (term_at sig old start) n) (sym (pending_kept sig old new stack grows frames)) w)

  -- what leads to a root leads to it in the grown pool
  root_pays : (t : TermId) (k before here : ℕ) (h : Symbol) (ws : Terms) → k ≡ 0 → term_at sig new t ≡ application h ws → behind ≡ before + here → Below (term_at sig old start) before → Advances (data_meant sig) own known (whole (term_at sig old start)) (from_equation 0 (application h ws)) here → Pays sig own known new origin stack start (Root t k) (behind + fuel) fuel
  root_pays t k before here h ws first at sum w l =
      let same : from_equation 0 (application h ws) ≡ from_equation k (term_at sig new t) = λ i. from_equation (sym first i) (sym at i) in
      let l' = subst (λ (p : Place). Advances (data_meant sig) own known (whole (term_at sig old start)) p here) same l in
      let l'' = subst (λ (x : Term). Advances (data_meant sig) own known (whole x) (from_equation k (term_at sig new t)) here) (sym (term_kept sig old new start grows start_in)) l' in
      record { behind = before; here = here; pending = stays_pending before w; paid = ((omega (arith, first)), l''); fuel = omega (arith, sum) }

  answer_pays : (t : TermId) (before here : ℕ) (a : Sort) (z : ℤ) → term_at sig new t ≡ terms.numeral a z → behind ≡ before + here → Below (term_at sig old start) before → ComesTo (data_meant sig) own known (whole (term_at sig old start)) (Some (terms.numeral a z)) here → Pays sig own known new origin stack start (Answer t) (behind + fuel) fuel
  answer_pays t before here a z at sum w y =
      let y' = subst (λ (x : Term). ComesTo (data_meant sig) own known (whole (term_at sig old start)) (Some x) here) (sym at) y in
      let y'' = subst (λ (x : Term). ComesTo (data_meant sig) own known (whole x) (Some (term_at sig new t)) here) (sym (term_kept sig old new start grows start_in)) y' in
      record { behind = before; here = here; pending = stays_pending before w; paid = y''; fuel = omega (arith, sum) }

  -- the first argument decides
  first_pays : (ids set_ids : List TermId) (hand' : Hand) → 0 < length ids → set_ids ≡ set ids 0 normal → ((rest : Terms) → FirstDecides (symbol_under sig f) (more (term_at sig old normal) rest)) → EntersRoot sig old new f set_ids hand' → HavePaid (data_meant sig) own known origin (map (pending_at sig old) (applies start f ids 0 ∷ stack)) (term_at sig old hand) behind → Pays sig own known new origin stack start hand' (behind + fuel) fuel
  first_pays [] set_ids hand' some same decides r s = absurd (omega (arith, some))
  first_pays (a ∷ ids) set_ids (Visit t) some same decides r s = absurd r
  first_pays (a ∷ ids) set_ids Spent some same decides r s = absurd r
  first_pays (a ∷ ids) set_ids (Root t k) some same decides r s =
      let y = symbol_under sig f in
      let later = listed_at sig old ids in
      let d = decides (terms_of later) in
      let at : term_at sig new t ≡ application y (more (term_at sig old normal) (terms_of later)) = (r.1 ∙ ap (λ (l : List TermId). apply y (terms_of (listed_at sig old l))) same) ∙ looks_first_unmerged y (more (term_at sig old normal) (terms_of later)) d.0 in
      root_pays t k s.before s.moved y _ r.0 at s.uses_are s.below (first_advances (data_meant sig) own known Below (term_at sig old start) y (term_at sig old hand) (term_at sig old normal) behind is later d s)
  first_pays (a ∷ ids) set_ids (Answer t) some same decides r s =
      let y = symbol_under sig f in
      let d = decides (terms_of (listed_at sig old ids)) in
      let at : term_at sig new t ≡ application y (more (term_at sig old normal) (terms_of (listed_at sig old ids))) = (r.0 ∙ ap (λ (l : List TermId). apply y (terms_of (listed_at sig old l))) same) ∙ looks_first_unmerged y (more (term_at sig old normal) (terms_of (listed_at sig old ids))) d.0 in
      absurd (no_numeral (sym at ∙ r.1.2))

  -- the same, at a place that is 0
  pub first_pays_at : (ids set_ids : List TermId) (done : ℕ) (start' : TermId) (hand' : Hand) → done ≡ 0 → done < length ids → set_ids ≡ set ids done normal → start' ≡ start → ((rest : Terms) → FirstDecides (symbol_under sig f) (more (term_at sig old normal) rest)) → EntersRoot sig old new f set_ids hand' → HavePaid (data_meant sig) own known origin (map (pending_at sig old) (applies start f ids done ∷ stack)) (term_at sig old hand) behind → Pays sig own known new origin stack start' hand' (behind + fuel) fuel
  first_pays_at ids set_ids done start' hand' e some same at_start decides r s =
      let s' = subst (λ (k : ℕ). HavePaid (data_meant sig) own known origin (map (pending_at sig old) (applies start f ids k ∷ stack)) (term_at sig old hand) behind) e s in
      let same' : set_ids ≡ set ids 0 normal = same ∙ ap (λ (k : ℕ). set ids k normal) e in
      let some' : 0 < length ids = subst (λ (k : ℕ). k < length ids) e some in
      subst (λ (x : TermId). Pays sig own known new origin stack x hand' (behind + fuel) fuel) (sym at_start) (first_pays ids set_ids hand' some' same' decides r s')

  module _ (ids : List TermId) (done : ℕ) (within : done < length ids) (first : done ≡ 0 → FirstDecides (symbol_under sig f) (more (term_at sig old normal) none) → ⊥) (s : HavePaid (data_meant sig) own known origin (map (pending_at sig old) (applies start f ids done ∷ stack)) (term_at sig old hand) behind) where
    undecided : listed_at sig old (take done ids) ≡ [] → FirstDecides (symbol_under sig f) (more (term_at sig old normal) none) → ⊥
    undecided e = first (none_done sig old ids done within e)

    -- the last argument is done
    was_last : suc done ≡ length ids → HasArgument (data_meant sig) own known Below (term_at sig old start) (symbol_under sig f) (listed_at sig old (take done ids)) [] (term_at sig old hand) behind
    was_last last = subst (λ (l : List TermId). HasArgument (data_meant sig) own known Below (term_at sig old start) (symbol_under sig f) (listed_at sig old (take done ids)) (listed_at sig old l) (term_at sig old hand) behind) (none_later ids done last) s

    news_are : suc done ≡ length ids → listed_at sig old (set ids done normal) ≡ listed_at sig old (take done ids) ++ term_at sig old normal ∷ []
    news_are last = ap (listed_at sig old) (all_are ids done normal last) ∙ listed_push sig old (take done ids) normal

    last_pays : (hand' : Hand) → suc done ≡ length ids → EntersRoot sig old new f (set ids done normal) hand' → Pays sig own known new origin stack start hand' (behind + fuel) fuel
    last_pays (Visit t) last r = absurd r
    last_pays Spent last r = absurd r
    last_pays (Root t k) last r =
        let p = was_last last in
        let e : apply (symbol_under sig f) (terms_of (listed_at sig old (take done ids) ++ term_at sig old normal ∷ [])) ≡ application r.2.0 r.2.1 = ap (λ (l : List Term). apply (symbol_under sig f) (terms_of l)) (sym (news_are last)) ∙ (sym r.1 ∙ r.2.2) in
        root_pays t k p.before p.moved r.2.0 r.2.1 r.0 r.2.2 p.uses_are p.below (done_advances (data_meant sig) own known Below (term_at sig old start) (symbol_under sig f) (term_at sig old hand) (term_at sig old normal) behind is (listed_at sig old (take done ids)) undecided r.2.0 r.2.1 p e)
    last_pays (Answer t) last r =
        let p = was_last last in
        let e : apply (symbol_under sig f) (terms_of (listed_at sig old (take done ids) ++ term_at sig old normal ∷ [])) ≡ terms.numeral r.1.0 r.1.1 = ap (λ (l : List Term). apply (symbol_under sig f) (terms_of l)) (sym (news_are last)) ∙ (sym r.0 ∙ r.1.2) in
        answer_pays t p.before (p.moved + 0) r.1.0 r.1.1 r.1.2 (let u = p.uses_are in omega (arith, u)) p.below (done_comes (data_meant sig) own known Below (term_at sig old start) (symbol_under sig f) (term_at sig old hand) (term_at sig old normal) behind is (listed_at sig old (take done ids)) undecided r.1.0 r.1.1 p e)

    pub last_pays_at : (set_ids : List TermId) (start' : TermId) (hand' : Hand) → suc done ≡ length ids → set_ids ≡ set ids done normal → start' ≡ start → EntersRoot sig old new f set_ids hand' → Pays sig own known new origin stack start' hand' (behind + fuel) fuel
    last_pays_at set_ids start' hand' last same at_start r =
        let r' : EntersRoot sig old new f (set ids done normal) hand' = subst (λ (l : List TermId). EntersRoot sig old new f l hand') same r in
        subst (λ (x : TermId). Pays sig own known new origin stack x hand' (behind + fuel) fuel) (sym at_start) (last_pays hand' last r')

    -- there is a next one
    pub next_pays : (d next : TermId) (next_place : ℕ) (stack' : List Plain) → suc done < length ids → next_place ≡ suc done → stack' ≡ applies start f (set ids done normal) next_place ∷ stack → next ≡ get_or (set ids done normal) next_place d → Pays sig own known old origin stack' next (Visit next) (behind + fuel) fuel
    next_pays d next next_place stack' less e pushed at_next =
        let y = symbol_under sig f in
        let x : TermId = get_or (set ids done normal) (suc done) d in
        let later = listed_at sig old (drop (suc (suc done)) (set ids done normal)) in
        let p : HasArgument (data_meant sig) own known Below (term_at sig old start) y (listed_at sig old (take done ids)) (term_at sig old x ∷ later) (term_at sig old hand) behind =
        subst (λ (l : List TermId). HasArgument (data_meant sig) own known Below (term_at sig old start) y (listed_at sig old (take done ids)) (listed_at sig old l) (term_at sig old hand) behind) (later_is ids done normal d less) s in
        let w = argument_waits (data_meant sig) own known Below (term_at sig old start) y (term_at sig old hand) (term_at sig old normal) behind is (listed_at sig old (take done ids)) undecided later (term_at sig old x) p in
        let news : listed_at sig old (take done ids) ++ term_at sig old normal ∷ [] ≡ listed_at sig old (take (suc done) (set ids done normal)) = sym (listed_push sig old (take done ids) normal) ∙ ap (listed_at sig old) (sym (done_are ids done normal within)) in
        let w' : HavePaid (data_meant sig) own known origin (map (pending_at sig old) (applies start f (set ids done normal) (suc done) ∷ stack)) (term_at sig old x) behind = subst (λ (l : List Term). HasArgument (data_meant sig) own known Below (term_at sig old start) y l later (term_at sig old x) behind) news w in
        let r : Pays sig own known old origin (applies start f (set ids done normal) (suc done) ∷ stack) x (Visit x) (behind + fuel) fuel = record { behind = behind; here = 0; pending = w'; paid = stands (data_meant sig) own known (whole (term_at sig old x)); fuel = omega arith } in
        let pushed' : applies start f (set ids done normal) (suc done) ∷ stack ≡ stack' = ap (λ (k : ℕ). applies start f (set ids done normal) k ∷ stack) (sym e) ∙ sym pushed in
        let here : x ≡ next = ap (λ (k : ℕ). get_or (set ids done normal) k d) (sym e) ∙ sym at_next in
        subst (λ (st : List Plain). Pays sig own known old origin st next (Visit next) (behind + fuel) fuel) pushed' (subst (λ (z : TermId). Pays sig own known old origin (applies start f (set ids done normal) (suc done) ∷ stack) z (Visit z) (behind + fuel) fuel) here r)
