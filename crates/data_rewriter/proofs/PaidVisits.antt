-- What a machine has paid when it visits a term, and when the pool grows or more is known.
use Rattle.std.proofs.Common.{◌≡◌, ℕ, ◌+◌, ◌<◌, List, [], ◌∷◌, ◌++◌, refl, sym, ap, ◌∙◌, subst, arith, length, map, get_or}
use Rattle.std.specs.Prelude.{Contains, Some, None}
use Rattle.std.specs.HashMap.{HashMap}
use Rattle.data_theory.specs.declared.ids.TermId.{TermId}
use Rattle.data_theory.specs.declared.ids.FunId.{FunId}
use Rattle.data_theory.specs.Terms as terms
use Rattle.data_theory.specs.Terms.{Term, application, apply}
use Rattle.data_theory.specs.Declarations.{Data}
use Rattle.data_theory.specs.Provable.{Equation}
use Rattle.data_theory.specs.Signature.{Sig}
use Rattle.data_theory.specs.IdTables.{IsTable}
use Rattle.data_theory.specs.IdData.{data_meant}
use Rattle.data_theory.specs.IdTrees.{Tree, none}
use Rattle.data_theory.specs.IdTerms.{term_under, symbol_under}
use Rattle.data_theory.proofs.IdTermLemmas.{merging_trees_merges_terms}
use Rattle.term_pool.specs.declared.terms.Head.{Head}
use Rattle.term_pool.specs.declared.terms.Head.TheVariants.{Var, Num as Number, Fun}
use Rattle.term_pool.specs.HeadTrees.{written_tree, tree_at, trees_at, IsIn}
use Rattle.term_pool.specs.Pools.{Extends}
use Rattle.term_pool.specs.Bindings.{result_of}
use Rattle.data_rewriter.specs.declared.machine.Hand.{Hand}
use Rattle.data_rewriter.specs.declared.machine.Hand.TheVariants.{Visit, Root, Answer, Spent}
use Rattle.data_rewriter.specs.Charges.{Known, IsNoApplication, ComesTo, is_known, stays_itself}
use Rattle.data_rewriter.specs.Frames.{Plain, applies}
use Rattle.data_rewriter.specs.Paying.{Keeps, Advances, HavePaid, HandHasPaid, Pays, IsKnownStore}
use Rattle.data_rewriter.specs.Places.{whole, from_equation, Pending, applying, deciding}
use Rattle.data_rewriter.specs.Standing.{term_at, listed_at, terms_of}
use Rattle.data_rewriter.specs.States.{AreIdsIn, IsHandIn, StartsIn, pending_at}
use Rattle.data_rewriter.proofs.Advancing.{known_stay, stands, then_advances, advances_later, comes, to_the_root}
use Rattle.data_rewriter.proofs.Standings.{application_at, term_kept}
use Rattle.data_rewriter.proofs.StateMoves.{pending_kept}

no_application : (sig : Sig) (t : Tree) (h : Head) (us : List Tree) → ((f : FunId) → h ≡ Fun f → ⊥) → t ≡ written_tree h us → IsNoApplication (term_under sig t)
no_application sig t (Var v) us other e = subst (λ x. IsNoApplication (term_under sig x)) (sym e) tt
no_application sig t (Number s n) us other e = subst (λ x. IsNoApplication (term_under sig x)) (sym e) tt
no_application sig t (Fun f) us other e = absurd (other f refl)

module _ (sig : Sig) (own : List Equation) (known : Known) (ts : List Tree) (origin : Term) (stack : List Plain) (start : TermId) (before : ℕ) where
  -- the place in hand goes on, at no cost
  pub pays_on : (hand hand' : Hand) (fuel : ℕ) → ((m : ℕ) → HandHasPaid (data_meant sig) own known (term_at sig ts start) (term_at sig ts) hand m → HandHasPaid (data_meant sig) own known (term_at sig ts start) (term_at sig ts) hand' (m + 0)) → Pays sig own known ts origin stack start hand before fuel → Pays sig own known ts origin stack start hand' before fuel
  pays_on hand hand' fuel on s = record { behind = s.behind; here = s.here + 0; pending = s.pending; paid = on s.here s.paid; fuel = omega (arith, s.fuel) }

  pub pays_for_stored : {S : Type 0} (store : HashMap TermId TermId S) (t u : TermId) (fuel : ℕ) → IsKnownStore sig ts store known → result_of store t ≡ Some u → Pays sig own known ts origin stack start (Visit t) before fuel → Pays sig own known ts origin stack start (Answer u) before fuel
  pays_for_stored store t u fuel all e s =
      pays_on (Visit t) (Answer u) fuel (λ m a. comes (data_meant sig) own known (Some (term_at sig ts u)) a (is_known (all t u e))) s

  pub pays_for_an_atom : (t : TermId) (h : Head) (us : List Tree) (fuel : ℕ) → ((f : FunId) → h ≡ Fun f → ⊥) → tree_at ts t ≡ written_tree h us → Pays sig own known ts origin stack start (Visit t) before fuel → Pays sig own known ts origin stack start (Answer t) before fuel
  pays_for_an_atom t h us fuel other e s =
      pays_on (Visit t) (Answer t) fuel (λ m a. comes (data_meant sig) own known (Some (term_at sig ts t)) a (stays_itself (no_application sig (tree_at ts t) h us other e))) s

  pub pays_for_a_constant : IsTable sig → (t : TermId) (f : FunId) (ids : List TermId) (fuel : ℕ) → ids ≡ [] → tree_at ts t ≡ written_tree (Fun f) (trees_at ts ids) → Pays sig own known ts origin stack start (Visit t) before fuel → Pays sig own known ts origin stack start (Root t 0) before fuel
  pays_for_a_constant table t f ids fuel empty e s =
      let y = symbol_under sig f in
      let e' : term_at sig ts t ≡ application y terms.none = application_at sig ts t f [] (e ∙ ap (λ l. written_tree (Fun f) (trees_at ts l)) empty) in
      let same : apply y terms.none ≡ application y terms.none = sym (merging_trees_merges_terms sig table f none) in
      let root : Advances (data_meant sig) own known (whole (application y terms.none)) (from_equation 0 (application y terms.none)) 0 = to_the_root (data_meant sig) own known y y terms.none terms.none terms.none tt (λ d. d) same in
      let here : Advances (data_meant sig) own known (whole (term_at sig ts t)) (from_equation 0 (term_at sig ts t)) 0 = subst (λ (x : Term). Advances (data_meant sig) own known (whole x) (from_equation 0 x) 0) (sym e') root in
      pays_on (Visit t) (Root t 0) fuel (λ m l. (omega arith, then_advances (data_meant sig) own known l here)) s

  pays_for_an_application : (t : TermId) (f : FunId) (ids : List TermId) (d : TermId) (fuel : ℕ) → 0 < length ids → tree_at ts t ≡ written_tree (Fun f) (trees_at ts ids) → Pays sig own known ts origin stack start (Visit t) before fuel → Pays sig own known ts origin (applies start f ids 0 ∷ stack) (get_or ids 0 d) (Visit (get_or ids 0 d)) before fuel
  pays_for_an_application t f [] d fuel less e s = absurd (omega (arith, less))
  pays_for_an_application t f (id ∷ ids) d fuel less e s =
      let same = application_at sig ts t f (id ∷ ids) e in
      let moved : Advances (data_meant sig) own known (whole (term_at sig ts start)) (whole (application (symbol_under sig f) (terms_of ([] ++ term_at sig ts id ∷ listed_at sig ts ids)))) s.here = subst (λ (x : Term). Advances (data_meant sig) own known (whole (term_at sig ts start)) (whole x) s.here) same s.paid in
      record {
        behind = s.behind + s.here;
        here = 0;
        pending = record { before = s.behind; moved = s.here; olds = []; below = s.pending; advances = moved; arguments = tt; undecided = λ h. h; uses_are = refl };
        paid = stands (data_meant sig) own known (whole (term_at sig ts id));
        fuel = omega (arith, s.fuel);
      }

  -- the same, as a push leaves it
  pub pays_for_arguments : (t : TermId) (f : FunId) (h : Head) (ids copy : List TermId) (first d : TermId) (stack' : List Plain) (fuel : ℕ) → stack' ≡ applies start f copy 0 ∷ stack → copy ≡ ids → first ≡ get_or ids 0 d → 0 < length ids → h ≡ Fun f → tree_at ts t ≡ written_tree h (trees_at ts ids) → Pays sig own known ts origin stack start (Visit t) before fuel → Pays sig own known ts origin stack' first (Visit first) before fuel
  pays_for_arguments t f h ids copy first d stack' fuel pushed same at_first some is e s =
      let e' : tree_at ts t ≡ written_tree (Fun f) (trees_at ts ids) = e ∙ ap (λ (x : Head). written_tree x (trees_at ts ids)) is in
      let a = pays_for_an_application t f ids d fuel some e' s in
      let b : Pays sig own known ts origin (applies start f ids 0 ∷ stack) first (Visit first) before fuel = subst (λ (x : TermId). Pays sig own known ts origin (applies start f ids 0 ∷ stack) x (Visit x) before fuel) (sym at_first) a in
      let p : applies start f ids 0 ∷ stack ≡ stack' = ap (λ (l : List TermId). applies start f l 0 ∷ stack) (sym same) ∙ sym pushed in
      subst (λ (st : List Plain). Pays sig own known ts origin st first (Visit first) before fuel) p b

-- ---- pools that grow
hand_kept : (sig : Sig) (own : List Equation) (known : Known) (old new : List Tree) (e : Extends old new) (start : TermId) (hand : Hand) (m : ℕ) → IsIn old start → IsHandIn old hand → HandHasPaid (data_meant sig) own known (term_at sig old start) (term_at sig old) hand m → HandHasPaid (data_meant sig) own known (term_at sig new start) (term_at sig new) hand m
hand_kept sig own known old new e start (Visit t) m a b h =
    let p : term_at sig old start ≡ term_at sig new start = sym (term_kept sig old new start e a) in
    let q : term_at sig old t ≡ term_at sig new t = sym (term_kept sig old new t e b) in
    subst (λ (x : Term). Advances (data_meant sig) own known (whole x) (whole (term_at sig new t)) m) p (subst (λ (x : Term). Advances (data_meant sig) own known (whole (term_at sig old start)) (whole x) m) q h)
hand_kept sig own known old new e start (Root t k) m a b h =
    let p : term_at sig old start ≡ term_at sig new start = sym (term_kept sig old new start e a) in
    let q : term_at sig old t ≡ term_at sig new t = sym (term_kept sig old new t e b.0) in
    (h.0, subst (λ (x : Term). Advances (data_meant sig) own known (whole x) (from_equation k (term_at sig new t)) m) p (subst (λ (x : Term). Advances (data_meant sig) own known (whole (term_at sig old start)) (from_equation k x) m) q h.1))
hand_kept sig own known old new e start (Answer t) m a b h =
    let p : term_at sig old start ≡ term_at sig new start = sym (term_kept sig old new start e a) in
    let q : term_at sig old t ≡ term_at sig new t = sym (term_kept sig old new t e b) in
    subst (λ (x : Term). ComesTo (data_meant sig) own known (whole x) (Some (term_at sig new t)) m) p (subst (λ (x : Term). ComesTo (data_meant sig) own known (whole (term_at sig old start)) (Some x) m) q h)
hand_kept sig own known old new e start Spent m a b h = subst (λ (x : Term). ComesTo (data_meant sig) own known (whole x) None m) (sym (term_kept sig old new start e a)) h

pub pays_kept : (sig : Sig) (own : List Equation) (known : Known) (old new : List Tree) (e : Extends old new) (origin : Term) (stack : List Plain) (start : TermId) (hand : Hand) (before fuel : ℕ) → AreIdsIn old stack start hand → Pays sig own known old origin stack start hand before fuel → Pays sig own known new origin stack start hand before fuel
pays_kept sig own known old new e origin stack start hand before fuel ids s = record {
  behind = s.behind;
  here = s.here;
  pending = subst (λ (x : Term). HavePaid (data_meant sig) own known origin (map (pending_at sig new) stack) x s.behind) (sym (term_kept sig old new start e ids.begin)) (subst (λ (st : List Pending). HavePaid (data_meant sig) own known origin st (term_at sig old start) s.behind) (sym (pending_kept sig old new stack e ids.frames)) s.pending);
  paid = hand_kept sig own known old new e start hand s.here ids.begin ids.held s.paid;
  fuel = s.fuel;
}

pub known_store_kept : {S : Type 0} (sig : Sig) (old new : List Tree) (e : Extends old new) (store : HashMap TermId TermId S) (known : Known) → StartsIn old store → IsKnownStore sig old store known → IsKnownStore sig new store known
known_store_kept sig old new e store known inside all t u is =
    let i = inside t u is in
    let p : term_at sig old t ≡ term_at sig new t = sym (term_kept sig old new t e i.0) in
    let q : term_at sig old u ≡ term_at sig new u = sym (term_kept sig old new u e i.1) in
    subst (λ (x : Term). Contains known (x, term_at sig new u)) p (subst (λ (x : Term). Contains known (term_at sig old t, x)) q (all t u is))

-- ---- more is known
pub pending_later : (g : Data) (own : List Equation) (known later : Known) → Keeps known later → (origin : Term) (stack : List Pending) (hand : Term) (n : ℕ) → HavePaid g own known origin stack hand n → HavePaid g own later origin stack hand n
pending_later g own known later k origin [] hand n h = h
pending_later g own known later k origin (applying start f news waiting ∷ below) hand n h = record {
  before = h.before;
  moved = h.moved;
  olds = h.olds;
  below = pending_later g own known later k origin below start h.before h.below;
  advances = advances_later g own known later k h.advances;
  arguments = known_stay known later k (terms_of h.olds) (terms_of news) h.arguments;
  undecided = h.undecided;
  uses_are = h.uses_are;
}
pending_later g own known later k origin (deciding start e t r ∷ below) hand n h = record {
  before = h.before;
  moved = h.moved;
  charge = h.charge;
  below = pending_later g own known later k origin below start h.before h.below;
  advances = advances_later g own known later k h.advances;
  is_inside = h.is_inside;
  applies_there = h.applies_there;
  not_true = h.not_true;
  uses_are = h.uses_are;
}
