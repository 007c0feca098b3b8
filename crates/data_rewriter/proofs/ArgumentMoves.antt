-- The moves behind an argument.
use Rattle.std.proofs.Common.{◌≡◌, ℕ, zero, suc, ◌+◌, ◌<◌, ◌≤◌, List, [], ◌∷◌, ◌++◌, refl, sym, ap, ◌∙◌, subst, arith, length, map, take, drop, get_or, set}
use Rattle.std.specs.Prelude.{ℤ}
use Rattle.std.specs.List.{All}
use Rattle.data_theory.specs.declared.ids.TermId.{TermId}
use Rattle.data_theory.specs.declared.ids.FunId.{FunId}
use Rattle.data_theory.specs.Terms as terms
use Rattle.data_theory.specs.Terms.{Sort, Symbol, Term, Terms, application, apply, more, none}
use Rattle.data_theory.specs.Provable.{Equation}
use Rattle.data_theory.specs.Rewriting.{GoesTo, FirstDecides}
use Rattle.data_theory.proofs.GoesToIsEqual.{looks_first_unmerged}
use Rattle.data_theory.specs.Signature.{Sig}
use Rattle.data_theory.specs.IdData.{data_meant}
use Rattle.data_theory.specs.IdTrees.{Tree}
use Rattle.data_theory.specs.IdTerms.{symbol_under, IsTreeWithin}
use Rattle.term_pool.specs.HeadTrees.{IsIn, tree_at}
use Rattle.term_pool.specs.Pools.{Extends}
use Rattle.data_rewriter.specs.declared.machine.Hand.{Hand}
use Rattle.data_rewriter.specs.declared.machine.Hand.TheVariants.{Visit, Root, Answer, Spent}
use Rattle.data_rewriter.specs.Places.{Place, whole, from_equation, Leads, Pending, applying, Waits}
use Rattle.data_rewriter.specs.Frames.{Plain, applies}
use Rattle.data_rewriter.specs.States.{IsFrameWithin, IsHandWithin, AreWithin, IsFrameIn, pending_at, Shows, EntersRoot}
use Rattle.data_rewriter.proofs.Leading.{stands_still}
use Rattle.data_rewriter.proofs.Moving.{InPlace, inverted, next_waits, ArgumentsDone, all_done, done_leads, done_goes, first_leads}
use Rattle.data_rewriter.proofs.Standings.{term_kept}
use Rattle.data_rewriter.proofs.StateMoves.{pending_kept, frames_within, tree_within}
use Rattle.std.proofs.lemmas.List.Elements.{All-nil, All-cons, All-head, All-tail}
use Rattle.data_rewriter.specs.Standing.{IsTerm, terms_of, term_at, listed_at}

-- ---- lists in which one argument is set
pub later_is : (ids : List TermId) (k : ℕ) (n d : TermId) → suc k < length ids → drop (suc k) ids ≡ get_or (set ids k n) (suc k) d ∷ drop (suc (suc k)) (set ids k n)
later_is [] k n d l = absurd (omega (arith, l))
later_is (a ∷ []) zero n d l = absurd (omega (arith, l))
later_is (a ∷ b ∷ ids) zero n d l = refl
later_is (a ∷ ids) (suc k) n d l = later_is ids k n d (omega (arith, l))

pub done_are : (ids : List TermId) (k : ℕ) (n : TermId) → k < length ids → take (suc k) (set ids k n) ≡ take k ids ++ n ∷ []
done_are [] k n l = absurd (omega (arith, l))
done_are (a ∷ ids) zero n l = refl
done_are (a ∷ ids) (suc k) n l = ap (λ xs. a ∷ xs) (done_are ids k n (omega (arith, l)))

pub none_later : (ids : List TermId) (k : ℕ) → suc k ≡ length ids → drop (suc k) ids ≡ []
none_later [] k l = refl
none_later (a ∷ []) zero l = refl
none_later (a ∷ b ∷ ids) zero l = absurd (omega (arith, l))
none_later (a ∷ ids) (suc k) l = none_later ids k (omega (arith, l))

pub all_are : (ids : List TermId) (k : ℕ) (n : TermId) → suc k ≡ length ids → set ids k n ≡ take k ids ++ n ∷ []
all_are [] k n l = absurd (omega (arith, l))
all_are (a ∷ []) zero n l = refl
all_are (a ∷ b ∷ ids) zero n l = absurd (omega (arith, l))
all_are (a ∷ ids) (suc k) n l = ap (λ xs. a ∷ xs) (all_are ids k n (omega (arith, l)))

pub listed_push : (sig : Sig) (ts : List Tree) (ids : List TermId) (n : TermId) → listed_at sig ts (ids ++ n ∷ []) ≡ listed_at sig ts ids ++ term_at sig ts n ∷ []
listed_push sig ts [] n = refl
listed_push sig ts (a ∷ ids) n = ap (λ xs. term_at sig ts a ∷ xs) (listed_push sig ts ids n)

pub none_done : (sig : Sig) (ts : List Tree) (ids : List TermId) (k : ℕ) → k < length ids → listed_at sig ts (take k ids) ≡ [] → k ≡ 0
none_done sig ts [] k l e = absurd (omega (arith, l))
none_done sig ts (a ∷ ids) zero l e = refl
none_done sig ts (a ∷ ids) (suc k) l e = absurd cc

pub no_numeral : {f : Symbol} {ts : Terms} {a : Sort} {z : ℤ} → application f ts ≡ terms.numeral a z → ⊥
no_numeral e = cc

module _ (sig : Sig) (own : List Equation) (old new : List Tree) (grows : Extends old new) (origin : Term) (stack : List Plain) (frames : All (IsFrameIn old) stack) (start : TermId) (start_in : IsIn old start) (f : FunId) (before fuel : ℕ) (hand normal : TermId) where
  stands_waiting : (n : ℕ) → Waits (data_meant sig) own origin (map (pending_at sig old) stack) (term_at sig old start) n → Waits (data_meant sig) own origin (map (pending_at sig new) stack) (term_at sig new start) n
  stands_waiting n w =
      subst (λ (x : Term). Waits (data_meant sig) own origin (map (pending_at sig new) stack) x n) (sym (term_kept sig old new start grows start_in))
      (subst (λ (st : List Pending). Waits (data_meant sig) own origin st (term_at sig old start) n) (sym (pending_kept sig old new stack grows frames)) w)

  -- what leads to a root leads to it in the grown pool
  root_shows : (t : TermId) (k behind here : ℕ) (h : Symbol) (ws : Terms) → k ≡ 0 → term_at sig new t ≡ application h ws → before ≤ behind + here + fuel → Waits (data_meant sig) own origin (map (pending_at sig old) stack) (term_at sig old start) behind → Leads (data_meant sig) own (whole (term_at sig old start)) (from_equation 0 (application h ws)) here → Shows sig own new origin stack start (Root t k) before fuel
  root_shows t k behind here h ws first is less w l =
      let same : from_equation 0 (application h ws) ≡ from_equation k (term_at sig new t) = λ i. from_equation (sym first i) (sym is i) in
      let l' = subst (λ (p : Place). Leads (data_meant sig) own (whole (term_at sig old start)) p here) same l in
      let l'' = subst (λ (x : Term). Leads (data_meant sig) own (whole x) (from_equation k (term_at sig new t)) here) (sym (term_kept sig old new start grows start_in)) l' in
      record { behind = behind; here = here; waits = stands_waiting behind w; shown = ((omega (arith, first)), l''); fuel = less }

  answer_shows : (t : TermId) (behind here : ℕ) (a : Sort) (z : ℤ) → term_at sig new t ≡ terms.numeral a z → before ≤ behind + here + fuel → Waits (data_meant sig) own origin (map (pending_at sig old) stack) (term_at sig old start) behind → GoesTo (data_meant sig) own (term_at sig old start) (terms.numeral a z) here → Shows sig own new origin stack start (Answer t) before fuel
  answer_shows t behind here a z is less w y =
      let y' = subst (λ (x : Term). GoesTo (data_meant sig) own (term_at sig old start) x here) (sym is) y in
      let y'' = subst (λ (x : Term). GoesTo (data_meant sig) own x (term_at sig new t) here) (sym (term_kept sig old new start grows start_in)) y' in
      record { behind = behind; here = here; waits = stands_waiting behind w; shown = y''; fuel = less }

  -- the first argument decides
  pub first_root : (ids set_ids : List TermId) (hand' : Hand) → 0 < length ids → set_ids ≡ set ids 0 normal → ((rest : Terms) → FirstDecides (symbol_under sig f) (more (term_at sig old normal) rest)) → EntersRoot sig old new f set_ids hand' → Shows sig own old origin (applies start f ids 0 ∷ stack) hand (Answer normal) before fuel → Shows sig own new origin stack start hand' before fuel
  first_root [] set_ids hand' some same decides r s = absurd (omega (arith, some))
  first_root (a ∷ ids) set_ids (Visit t) some same decides r s = absurd r
  first_root (a ∷ ids) set_ids Spent some same decides r s = absurd r
  first_root (a ∷ ids) set_ids (Root t k) some same decides r s =
      let y = symbol_under sig f in
      let later = listed_at sig old ids in
      let d = decides (terms_of later) in
      let p : InPlace (data_meant sig) own origin (term_at sig old start) y [] later (map (pending_at sig old) stack) (term_at sig old hand) s.behind = inverted (data_meant sig) own origin s.waits in
      let is : term_at sig new t ≡ application y (more (term_at sig old normal) (terms_of later)) = (r.1 ∙ ap (λ (l : List TermId). apply y (terms_of (listed_at sig old l))) same) ∙ looks_first_unmerged y (more (term_at sig old normal) (terms_of later)) d.0 in
      root_shows t k p.before (p.moved + (p.gone + s.here)) y _ r.0 is (omega (arith, p.uses_are, s.fuel)) p.waits (first_leads (data_meant sig) own origin _ y later _ _ _ s.behind s.here s.shown d p)
  first_root (a ∷ ids) set_ids (Answer t) some same decides r s =
      let y = symbol_under sig f in
      let d = decides (terms_of (listed_at sig old ids)) in
      let is : term_at sig new t ≡ application y (more (term_at sig old normal) (terms_of (listed_at sig old ids))) = (r.0 ∙ ap (λ (l : List TermId). apply y (terms_of (listed_at sig old l))) same) ∙ looks_first_unmerged y (more (term_at sig old normal) (terms_of (listed_at sig old ids))) d.0 in
      absurd (no_numeral (sym is ∙ r.1.2))

  module _ (ids : List TermId) (done : ℕ) (within : done < length ids) (first : done ≡ 0 → FirstDecides (symbol_under sig f) (more (term_at sig old normal) none) → ⊥) (s : Shows sig own old origin (applies start f ids done ∷ stack) hand (Answer normal) before fuel) where
    was : InPlace (data_meant sig) own origin (term_at sig old start) (symbol_under sig f) (listed_at sig old (take done ids)) (listed_at sig old (drop (suc done) ids)) (map (pending_at sig old) stack) (term_at sig old hand) s.behind
    was = inverted (data_meant sig) own origin s.waits

    undecided : listed_at sig old (take done ids) ≡ [] → FirstDecides (symbol_under sig f) (more (term_at sig old normal) none) → ⊥
    undecided e = first (none_done sig old ids done within e)

    -- the last argument is done
    done_ones : suc done ≡ length ids → ArgumentsDone (data_meant sig) own origin (term_at sig old start) (symbol_under sig f) (listed_at sig old (take done ids) ++ term_at sig old normal ∷ []) (map (pending_at sig old) stack) (s.behind + s.here)
    done_ones last =
        let p = subst (λ (l : List TermId). InPlace (data_meant sig) own origin (term_at sig old start) (symbol_under sig f) (listed_at sig old (take done ids)) (listed_at sig old l) (map (pending_at sig old) stack) (term_at sig old hand) s.behind) (none_later ids done last) was in
        all_done (data_meant sig) own origin _ (symbol_under sig f) (listed_at sig old (take done ids)) _ (term_at sig old hand) (term_at sig old normal) s.behind s.here s.shown undecided p

    news_are : suc done ≡ length ids → listed_at sig old (set ids done normal) ≡ listed_at sig old (take done ids) ++ term_at sig old normal ∷ []
    news_are last = ap (listed_at sig old) (all_are ids done normal last) ∙ listed_push sig old (take done ids) normal

    pub last_root : (hand' : Hand) → suc done ≡ length ids → EntersRoot sig old new f (set ids done normal) hand' → Shows sig own new origin stack start hand' before fuel
    last_root (Visit t) last r = absurd r
    last_root Spent last r = absurd r
    last_root (Root t k) last r =
        let p = done_ones last in
        let e : apply (symbol_under sig f) (terms_of (listed_at sig old (take done ids) ++ term_at sig old normal ∷ [])) ≡ application r.2.0 r.2.1 = ap (λ (l : List Term). apply (symbol_under sig f) (terms_of l)) (sym (news_are last)) ∙ (sym r.1 ∙ r.2.2) in
        root_shows t k p.before (p.moved + p.gone) r.2.0 r.2.1 r.0 r.2.2 (omega (arith, p.uses_are, s.fuel)) p.waits (done_leads (data_meant sig) own origin _ (symbol_under sig f) r.2.0 _ r.2.1 _ _ p e)
    last_root (Answer t) last r =
        let p = done_ones last in
        let e : apply (symbol_under sig f) (terms_of (listed_at sig old (take done ids) ++ term_at sig old normal ∷ [])) ≡ terms.numeral r.1.0 r.1.1 = ap (λ (l : List Term). apply (symbol_under sig f) (terms_of l)) (sym (news_are last)) ∙ (sym r.0 ∙ r.1.2) in
        answer_shows t p.before (p.moved + p.gone) r.1.0 r.1.1 r.1.2 (omega (arith, p.uses_are, s.fuel)) p.waits (done_goes (data_meant sig) own origin _ (symbol_under sig f) _ r.1.0 r.1.1 _ _ p e)

    -- there is a next one
    pub next_shows : (d next : TermId) (next_place : ℕ) (stack' : List Plain) → suc done < length ids → next_place ≡ suc done → stack' ≡ applies start f (set ids done normal) next_place ∷ stack → next ≡ get_or (set ids done normal) next_place d → Shows sig own old origin stack' next (Visit next) before fuel
    next_shows d next next_place stack' less e pushed at_next =
        let y = symbol_under sig f in
        let x : TermId = get_or (set ids done normal) (suc done) d in
        let later = listed_at sig old (drop (suc (suc done)) (set ids done normal)) in
        let p : InPlace (data_meant sig) own origin (term_at sig old start) y (listed_at sig old (take done ids)) (term_at sig old x ∷ later) (map (pending_at sig old) stack) (term_at sig old hand) s.behind =
        subst (λ (l : List TermId). InPlace (data_meant sig) own origin (term_at sig old start) y (listed_at sig old (take done ids)) (listed_at sig old l) (map (pending_at sig old) stack) (term_at sig old hand) s.behind) (later_is ids done normal d less) was in
        let w = next_waits (data_meant sig) own origin _ y (listed_at sig old (take done ids)) _ (term_at sig old hand) (term_at sig old normal) s.behind s.here s.shown undecided later (term_at sig old x) p in
        let news : listed_at sig old (take done ids) ++ term_at sig old normal ∷ [] ≡ listed_at sig old (take (suc done) (set ids done normal)) = sym (listed_push sig old (take done ids) normal) ∙ ap (listed_at sig old) (sym (done_are ids done normal within)) in
        let w' : Waits (data_meant sig) own origin (map (pending_at sig old) (applies start f (set ids done normal) (suc done) ∷ stack)) (term_at sig old x) (s.behind + s.here) = subst (λ (l : List Term). Waits (data_meant sig) own origin (applying (term_at sig old start) y l later ∷ map (pending_at sig old) stack) (term_at sig old x) (s.behind + s.here)) news w in
        let r : Shows sig own old origin (applies start f (set ids done normal) (suc done) ∷ stack) x (Visit x) before fuel = record { behind = s.behind + s.here; here = 0; waits = w'; shown = stands_still (data_meant sig) own (whole (term_at sig old x)); fuel = omega (arith, s.fuel) } in
        let pushed' : applies start f (set ids done normal) (suc done) ∷ stack ≡ stack' = ap (λ (k : ℕ). applies start f (set ids done normal) k ∷ stack) (sym e) ∙ sym pushed in
        let here : x ≡ next = ap (λ (k : ℕ). get_or (set ids done normal) k d) (sym e) ∙ sym at_next in
        subst (λ (st : List Plain). Shows sig own old origin st next (Visit next) before fuel) pushed' (subst (λ (z : TermId). Shows sig own old origin (applies start f (set ids done normal) (suc done) ∷ stack) z (Visit z) before fuel) here r)

  -- the same, at a place that is 0
  pub first_root_at : (ids set_ids : List TermId) (done : ℕ) (start' : TermId) (hand' : Hand) → done ≡ 0 → done < length ids → set_ids ≡ set ids done normal → start' ≡ start → ((rest : Terms) → FirstDecides (symbol_under sig f) (more (term_at sig old normal) rest)) → EntersRoot sig old new f set_ids hand' → Shows sig own old origin (applies start f ids done ∷ stack) hand (Answer normal) before fuel → Shows sig own new origin stack start' hand' before fuel
  first_root_at ids set_ids done start' hand' e some same at_start decides r s =
      let s' : Shows sig own old origin (applies start f ids 0 ∷ stack) hand (Answer normal) before fuel = subst (λ (k : ℕ). Shows sig own old origin (applies start f ids k ∷ stack) hand (Answer normal) before fuel) e s in
      let same' : set_ids ≡ set ids 0 normal = same ∙ ap (λ (k : ℕ). set ids k normal) e in
      let some' : 0 < length ids = subst (λ (k : ℕ). k < length ids) e some in
      subst (λ (x : TermId). Shows sig own new origin stack x hand' before fuel) (sym at_start) (first_root ids set_ids hand' some' same' decides r s')

  pub last_root_at : (ids set_ids : List TermId) (done : ℕ) (start' : TermId) (hand' : Hand) → done < length ids → (done ≡ 0 → FirstDecides (symbol_under sig f) (more (term_at sig old normal) none) → ⊥) → suc done ≡ length ids → set_ids ≡ set ids done normal → start' ≡ start → EntersRoot sig old new f set_ids hand' → Shows sig own old origin (applies start f ids done ∷ stack) hand (Answer normal) before fuel → Shows sig own new origin stack start' hand' before fuel
  last_root_at ids set_ids done start' hand' within first last same at_start r s =
      let r' : EntersRoot sig old new f (set ids done normal) hand' = subst (λ (l : List TermId). EntersRoot sig old new f l hand') same r in
      subst (λ (x : TermId). Shows sig own new origin stack x hand' before fuel) (sym at_start) (last_root ids done within first s hand' last r')

-- ---- terms over the signature
set_all : {X : Type 0} (P : X → Type 0) (xs : List X) (k : ℕ) (x : X) → All P xs → P x → All P (set xs k x)
set_all P [] k x h p = h
set_all P (a ∷ xs) zero x h p = All-cons P x xs p (All-tail P a xs h)
set_all P (a ∷ xs) (suc k) x h p = All-cons P a (set xs k x) (All-head P a xs h) (set_all P xs k x (All-tail P a xs h) p)

both_terms : (sig : Sig) (ts : List Tree) (ids : List TermId) → All (IsIn ts) ids → All (λ (a : TermId). IsTreeWithin sig (tree_at ts a)) ids → All (IsTerm sig ts) ids
both_terms sig ts [] i w = All-nil (IsTerm sig ts)
both_terms sig ts (a ∷ ids) i w = All-cons (IsTerm sig ts) a ids (record { inside = All-head (IsIn ts) a ids i; within = All-head (λ (a : TermId). IsTreeWithin sig (tree_at ts a)) a ids w }) (both_terms sig ts ids (All-tail (IsIn ts) a ids i) (All-tail (λ (a : TermId). IsTreeWithin sig (tree_at ts a)) a ids w))

module _ (sig : Sig) (old new : List Tree) (e : Extends old new) (start : TermId) (stack : List Plain) (f : FunId) (ids set_ids : List TermId) (done : ℕ) (normal hand start' : TermId) (hand' : Hand) where
  pub root_within : IsFrameIn old (applies start f ids done) → All (IsFrameIn old) stack → IsIn old normal → set_ids ≡ set ids done normal → start' ≡ start → AreWithin sig old (applies start f ids done ∷ stack) hand (Answer normal) → (All (IsTerm sig old) set_ids → IsHandWithin sig new hand') → AreWithin sig new stack start' hand'
  root_within frame frames normal_in same at_start w over =
      let here = All-head (IsFrameWithin sig old) (applies start f ids done) stack w.frames in
      let set_in = set_all (IsIn old) ids done normal frame.1 normal_in in
      let set_within = set_all (λ (a : TermId). IsTreeWithin sig (tree_at old a)) ids done normal here.2 w.held in
      record {
        frames = frames_within sig old new e stack frames (All-tail (IsFrameWithin sig old) (applies start f ids done) stack w.frames);
        begin = subst (λ (a : TermId). IsTreeWithin sig (tree_at new a)) (sym at_start) (tree_within sig old new e start frame.0 here.0);
        held = over (subst (All (IsTerm sig old)) (sym same) (both_terms sig old (set ids done normal) set_in set_within));
      }

at_get : {X : Type 0} (P : X → Type 0) (xs : List X) (k : ℕ) (d : X) → k < length xs → All P xs → P (get_or xs k d)
at_get P [] k d l h = absurd (omega (arith, l))
at_get P (x ∷ xs) zero d l h = All-head P x xs h
at_get P (x ∷ xs) (suc k) d l h = at_get P xs k d (omega (arith, l)) (All-tail P x xs h)

set_length : {X : Type 0} (xs : List X) (k : ℕ) (x : X) → length (set xs k x) ≡ length xs
set_length [] k x = refl
set_length (a ∷ xs) zero x = refl
set_length (a ∷ xs) (suc k) x = ap suc (set_length xs k x)

module _ (sig : Sig) (ts : List Tree) (start : TermId) (stack : List Plain) (f : FunId) (ids : List TermId) (done : ℕ) (normal hand next : TermId) (next_place : ℕ) (stack' : List Plain) where
  pub next_within : IsFrameIn ts (applies start f ids done) → IsIn ts normal → suc done < length ids → next_place ≡ suc done → stack' ≡ applies start f (set ids done normal) next_place ∷ stack → next ≡ get_or (set ids done normal) next_place next → AreWithin sig ts (applies start f ids done ∷ stack) hand (Answer normal) → AreWithin sig ts stack' next (Visit next)
  next_within frame normal_in less at_next pushed is w =
      let here = All-head (IsFrameWithin sig ts) (applies start f ids done) stack w.frames in
      let set_within = set_all (λ (a : TermId). IsTreeWithin sig (tree_at ts a)) ids done normal here.2 w.held in
      let n : next_place < length (set ids done normal) = let l = set_length ids done normal in omega (arith, less, at_next, l) in
      let it : IsTreeWithin sig (tree_at ts next) = subst (λ (a : TermId). IsTreeWithin sig (tree_at ts a)) (sym is) (at_get (λ (a : TermId). IsTreeWithin sig (tree_at ts a)) (set ids done normal) next_place next n set_within) in
      record {
        frames = subst (All (IsFrameWithin sig ts)) (sym pushed) (All-cons (IsFrameWithin sig ts) (applies start f (set ids done normal) next_place) stack (here.0, here.1, set_within) (All-tail (IsFrameWithin sig ts) (applies start f ids done) stack w.frames));
        begin = it;
        held = it;
      }
