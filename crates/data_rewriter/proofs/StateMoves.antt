-- The moves of a machine on what it has shown.
use Rattle.std.proofs.Common.{◌≡◌, ℕ, zero, suc, ◌+◌, ◌<◌, ◌≤◌, List, [], ◌∷◌, ◌++◌, refl, sym, ap, ◌∙◌, subst, arith, length, map, take, drop, get_or, Some, None, Bool, true, false, cond}
use Rattle.std.proofs.lemmas.Bool.Decides.{Decides-eqb}
use Rattle.std.specs.Prelude.{◌==◌, slice_get}
use Rattle.std.specs.List.{All}
use Rattle.std.specs.HashMap.{HashMap}
use Rattle.std.specs.Map.{lookup}
use Rattle.std.proofs.lemmas.List.Elements.{All-nil, All-cons, All-head, All-tail, All-weaker, All-take, All-drop}
use Rattle.data_theory.specs.declared.ids.TermId.{TermId}
use Rattle.data_theory.specs.declared.ids.FunId.{FunId}
use Rattle.data_theory.specs.Terms as terms
use Rattle.data_theory.specs.Terms.{Symbol, Term, Terms, application, apply}
use Rattle.data_theory.specs.Provable.{Equation}
use Rattle.data_theory.specs.Rewriting.{Chain, GoesTo, a_variable, a_numeral, no_arguments}
use Rattle.data_theory.specs.Signature.{Sig}
use Rattle.data_theory.specs.IdTables.{IsTable}
use Rattle.data_theory.specs.IdData.{data_meant}
use Rattle.data_theory.specs.IdTrees.{Tree, none}
use Rattle.data_theory.specs.IdTerms.{IsTreeWithin, term_under, symbol_under}
use Rattle.data_theory.proofs.IdTermLemmas.{merging_trees_merges_terms}
use Rattle.term_pool.specs.declared.terms.Head.{Head}
use Rattle.term_pool.specs.declared.terms.Head.TheVariants.{Var, Num as Number, Fun}
use Rattle.term_pool.specs.HeadTrees.{written_tree, tree_at, trees_at, IsIn, AreIn}
use Rattle.term_pool.specs.Pools.{Extends}
use Rattle.term_pool.specs.Bindings.{result_of}
use Rattle.data_rewriter.specs.declared.tables.Rule.{Rule}
use Rattle.data_rewriter.specs.declared.tables.Tables.{Tables}
use Rattle.data_rewriter.specs.declared.machine.Hand.{Hand}
use Rattle.data_rewriter.specs.declared.machine.Hand.TheVariants.{Visit, Root, Answer, Spent}
use Rattle.data_rewriter.specs.Places.{whole, from_equation, Leads, Pending, applying, deciding, Waits, in_a_place}
use Rattle.data_rewriter.specs.Frames.{Plain, applies, decides}
use Rattle.data_rewriter.specs.Written.{IsRule, IsLeft, AreEquationsOf}
use Rattle.data_rewriter.specs.States.{HasHead, IsFrameWithin, AreWithin, AreIdsIn, IsHandIn, AreTablesOf, IsFrameIn, pending_at, HandShows, Shows, AreStored}
use Rattle.term_pool.proofs.NodeTrees.{stays_in, stay_in, tree_kept}
use Rattle.data_rewriter.proofs.Standings.{call_at, term_stays, application_at, term_kept}
use Rattle.data_rewriter.proofs.Leading.{then_leads, to_the_root, stands_still}
use Rattle.data_rewriter.specs.Standing.{IsTerm, terms_of, term_at, listed_at}

module _ (sig : Sig) (own : List Equation) where
  atom_goes : (t : Tree) (h : Head) (us : List Tree) → ((f : FunId) → h ≡ Fun f → ⊥) → t ≡ written_tree h us → GoesTo (data_meant sig) own (term_under sig t) (term_under sig t) 0
  atom_goes t (Var v) us other e = subst (λ x. GoesTo (data_meant sig) own (term_under sig x) (term_under sig x) 0) (sym e) a_variable
  atom_goes t (Number s n) us other e = subst (λ x. GoesTo (data_meant sig) own (term_under sig x) (term_under sig x) 0) (sym e) a_numeral
  atom_goes t (Fun f) us other e = absurd (other f refl)

  module _ (ts : List Tree) (origin : Term) (stack : List Plain) (start : TermId) (before : ℕ) where
    -- the place in hand goes on by k uses
    pub shows_on : (hand hand' : Hand) (fuel fuel' k : ℕ) → fuel ≤ k + fuel' → ((m : ℕ) → HandShows (data_meant sig) own (term_at sig ts start) (term_at sig ts) hand m → HandShows (data_meant sig) own (term_at sig ts start) (term_at sig ts) hand' (m + k)) → Shows sig own ts origin stack start hand before fuel → Shows sig own ts origin stack start hand' before fuel'
    shows_on hand hand' fuel fuel' k less on s = record { behind = s.behind; here = s.here + k; waits = s.waits; shown = on s.here s.shown; fuel = omega (arith, s.fuel, less) }

    pub visits_stored : {S : Type 0} (store : HashMap TermId TermId S) (t u : TermId) (fuel : ℕ) → AreStored sig own ts store → result_of store t ≡ Some u → Shows sig own ts origin stack start (Visit t) before fuel → Shows sig own ts origin stack start (Answer u) before fuel
    visits_stored store t u fuel all e s =
        let is = all t u e in
        shows_on (Visit t) (Answer u) fuel fuel is.2.0 (omega arith) (λ m l. l.goes (term_at sig ts u) is.2.0 is.2.1) s

    pub visits_an_atom : (t : TermId) (h : Head) (us : List Tree) (fuel : ℕ) → ((f : FunId) → h ≡ Fun f → ⊥) → tree_at ts t ≡ written_tree h us → Shows sig own ts origin stack start (Visit t) before fuel → Shows sig own ts origin stack start (Answer t) before fuel
    visits_an_atom t h us fuel other e s =
        shows_on (Visit t) (Answer t) fuel fuel 0 (omega arith) (λ m l. l.goes (term_at sig ts t) 0 (atom_goes (tree_at ts t) h us other e)) s

    pub visits_a_constant : IsTable sig → (t : TermId) (f : FunId) (ids : List TermId) (fuel : ℕ) → ids ≡ [] → tree_at ts t ≡ written_tree (Fun f) (trees_at ts ids) → Shows sig own ts origin stack start (Visit t) before fuel → Shows sig own ts origin stack start (Root t 0) before fuel
    visits_a_constant table t f ids fuel empty e s =
        let y = symbol_under sig f in
        let e' : term_at sig ts t ≡ application y terms.none = application_at sig ts t f [] (e ∙ ap (λ l. written_tree (Fun f) (trees_at ts l)) empty) in
        let same : apply y terms.none ≡ application y terms.none = sym (merging_trees_merges_terms sig table f none) in
        let root : Leads (data_meant sig) own (whole (application y terms.none)) (from_equation 0 (application y terms.none)) 0 = to_the_root (data_meant sig) own y y terms.none terms.none terms.none 0 no_arguments (λ d. d) same in
        let here : Leads (data_meant sig) own (whole (term_at sig ts t)) (from_equation 0 (term_at sig ts t)) 0 = subst (λ (x : Term). Leads (data_meant sig) own (whole x) (from_equation 0 x) 0) (sym e') root in
        shows_on (Visit t) (Root t 0) fuel fuel 0 (omega arith) (λ m l. (omega arith, then_leads (data_meant sig) own l here)) s

    pub visits_an_application : (t : TermId) (f : FunId) (ids : List TermId) (d : TermId) (fuel : ℕ) → 0 < length ids → tree_at ts t ≡ written_tree (Fun f) (trees_at ts ids) → Shows sig own ts origin stack start (Visit t) before fuel → Shows sig own ts origin (applies start f ids 0 ∷ stack) (get_or ids 0 d) (Visit (get_or ids 0 d)) before fuel
    visits_an_application t f [] d fuel less e s = absurd (omega (arith, less))
    visits_an_application t f (id ∷ ids) d fuel less e s =
        let same = application_at sig ts t f (id ∷ ids) e in
        let leads : Leads (data_meant sig) own (whole (term_at sig ts start)) (whole (application (symbol_under sig f) (terms_of ([] ++ term_at sig ts id ∷ listed_at sig ts ids)))) s.here = subst (λ (x : Term). Leads (data_meant sig) own (whole (term_at sig ts start)) (whole x) s.here) same s.shown in
        record {
          behind = s.behind + (s.here + 0);
          here = 0;
          waits = in_a_place [] s.waits leads no_arguments (λ h. h);
          shown = stand (term_at sig ts id);
          fuel = omega (arith, s.fuel);
        }
      where
        stand : (x : Term) → Leads (data_meant sig) own (whole x) (whole x) 0
        stand x = stands_still (data_meant sig) own (whole x)

    -- the same, as a push leaves it
    pub enters_arguments : (t : TermId) (f : FunId) (h : Head) (ids copy : List TermId) (first d : TermId) (stack' : List Plain) (fuel : ℕ) → stack' ≡ applies start f copy 0 ∷ stack → copy ≡ ids → first ≡ get_or ids 0 d → 0 < length ids → h ≡ Fun f → tree_at ts t ≡ written_tree h (trees_at ts ids) → Shows sig own ts origin stack start (Visit t) before fuel → Shows sig own ts origin stack' first (Visit first) before fuel
    enters_arguments t f h ids copy first d stack' fuel pushed same at_first some is e s =
        let e' : tree_at ts t ≡ written_tree (Fun f) (trees_at ts ids) = e ∙ ap (λ (x : Head). written_tree x (trees_at ts ids)) is in
        let a = visits_an_application t f ids d fuel some e' s in
        let b : Shows sig own ts origin (applies start f ids 0 ∷ stack) first (Visit first) before fuel = subst (λ (x : TermId). Shows sig own ts origin (applies start f ids 0 ∷ stack) x (Visit x) before fuel) (sym at_first) a in
        let p : applies start f ids 0 ∷ stack ≡ stack' = ap (λ (l : List TermId). applies start f l 0 ∷ stack) (sym same) ∙ sym pushed in
        subst (λ (st : List Plain). Shows sig own ts origin st first (Visit first) before fuel) p b

-- ---- pools that grow
terms_kept : (sig : Sig) (old new : List Tree) (ids : List TermId) → Extends old new → AreIn old ids → listed_at sig new ids ≡ listed_at sig old ids
terms_kept sig old new [] e h = refl
terms_kept sig old new (id ∷ ids) e h =
    let a = term_kept sig old new id e (All-head (IsIn old) id ids h) in
    let b = terms_kept sig old new ids e (All-tail (IsIn old) id ids h) in
    λ i. a i ∷ b i

frame_kept : (sig : Sig) (old new : List Tree) (p : Plain) → Extends old new → IsFrameIn old p → pending_at sig new p ≡ pending_at sig old p
frame_kept sig old new (applies start f ids done) e h =
    let a = term_kept sig old new start e h.0 in
    let b = terms_kept sig old new (take done ids) e (All-take (IsIn old) done ids h.1) in
    let d = terms_kept sig old new (drop (suc done) ids) e (All-drop (IsIn old) (suc done) ids h.1) in
    λ i. applying (a i) (symbol_under sig f) (b i) (d i)
frame_kept sig old new (decides start root number right) e h =
    let a = term_kept sig old new start e h.0 in
    let b = term_kept sig old new root e h.1 in
    let d = term_kept sig old new right e h.2 in
    λ i. deciding (a i) number (b i) (d i)

pub pending_kept : (sig : Sig) (old new : List Tree) (stack : List Plain) → Extends old new → All (IsFrameIn old) stack → map (pending_at sig new) stack ≡ map (pending_at sig old) stack
pending_kept sig old new [] e h = refl
pending_kept sig old new (p ∷ stack) e h =
    let a = frame_kept sig old new p e (All-head (IsFrameIn old) p stack h) in
    let b = pending_kept sig old new stack e (All-tail (IsFrameIn old) p stack h) in
    λ i. a i ∷ b i

frame_stays : (old new : List Tree) (p : Plain) → Extends old new → IsFrameIn old p → IsFrameIn new p
frame_stays old new (applies start f ids done) e h = (stays_in old new start e h.0, stay_in old new ids e h.1, h.2)
frame_stays old new (decides start root number right) e h = (stays_in old new start e h.0, stays_in old new root e h.1, stays_in old new right e h.2)

pub frames_stay : (old new : List Tree) (stack : List Plain) → Extends old new → All (IsFrameIn old) stack → All (IsFrameIn new) stack
frames_stay old new stack e h = All-weaker (IsFrameIn old) (IsFrameIn new) (λ p. frame_stays old new p e) stack h

-- ---- what was shown stays so
hand_kept : (sig : Sig) (own : List Equation) (old new : List Tree) (e : Extends old new) (start : TermId) (hand : Hand) (m : ℕ) → IsIn old start → IsHandIn old hand → HandShows (data_meant sig) own (term_at sig old start) (term_at sig old) hand m → HandShows (data_meant sig) own (term_at sig new start) (term_at sig new) hand m
hand_kept sig own old new e start (Visit t) m a b h =
    let p : term_at sig old start ≡ term_at sig new start = sym (term_kept sig old new start e a) in
    let q : term_at sig old t ≡ term_at sig new t = sym (term_kept sig old new t e b) in
    subst (λ (x : Term). Leads (data_meant sig) own (whole x) (whole (term_at sig new t)) m) p (subst (λ (x : Term). Leads (data_meant sig) own (whole (term_at sig old start)) (whole x) m) q h)
hand_kept sig own old new e start (Root t k) m a b h =
    let p : term_at sig old start ≡ term_at sig new start = sym (term_kept sig old new start e a) in
    let q : term_at sig old t ≡ term_at sig new t = sym (term_kept sig old new t e b.0) in
    (h.0, subst (λ (x : Term). Leads (data_meant sig) own (whole x) (from_equation k (term_at sig new t)) m) p (subst (λ (x : Term). Leads (data_meant sig) own (whole (term_at sig old start)) (from_equation k x) m) q h.1))
hand_kept sig own old new e start (Answer t) m a b h =
    let p : term_at sig old start ≡ term_at sig new start = sym (term_kept sig old new start e a) in
    let q : term_at sig old t ≡ term_at sig new t = sym (term_kept sig old new t e b) in
    subst (λ (x : Term). GoesTo (data_meant sig) own x (term_at sig new t) m) p (subst (λ (x : Term). GoesTo (data_meant sig) own (term_at sig old start) x m) q h)
hand_kept sig own old new e start Spent m a b h = subst (λ (x : Term). Chain (data_meant sig) own x (suc m)) (sym (term_kept sig old new start e a)) h

pub shows_kept : (sig : Sig) (own : List Equation) (old new : List Tree) (e : Extends old new) (origin : Term) (stack : List Plain) (start : TermId) (hand : Hand) (before fuel : ℕ) → AreIdsIn old stack start hand → Shows sig own old origin stack start hand before fuel → Shows sig own new origin stack start hand before fuel
shows_kept sig own old new e origin stack start hand before fuel ids s = record {
  behind = s.behind;
  here = s.here;
  waits = subst (λ (x : Term). Waits (data_meant sig) own origin (map (pending_at sig new) stack) x s.behind) (sym (term_kept sig old new start e ids.begin)) (subst (λ (st : List Pending). Waits (data_meant sig) own origin st (term_at sig old start) s.behind) (sym (pending_kept sig old new stack e ids.frames)) s.waits);
  shown = hand_kept sig own old new e start hand s.here ids.begin ids.held s.shown;
  fuel = s.fuel;
}

pub stored_kept : {S : Type 0} (sig : Sig) (own : List Equation) (old new : List Tree) (e : Extends old new) (store : HashMap TermId TermId S) → AreStored sig own old store → AreStored sig own new store
stored_kept sig own old new e store all t u is =
    let a = all t u is in
    let p : term_at sig old t ≡ term_at sig new t = sym (term_kept sig old new t e a.0) in
    let q : term_at sig old u ≡ term_at sig new u = sym (term_kept sig old new u e a.1) in
    (stays_in old new t e a.0, stays_in old new u e a.1, (a.2.0, subst (λ (x : Term). GoesTo (data_meant sig) own x (term_at sig new u) a.2.0) p (subst (λ (x : Term). GoesTo (data_meant sig) own (term_at sig old t) x a.2.0) q a.2.1)), subst (IsTreeWithin sig) (sym (tree_kept old new t e a.0)) a.3, subst (IsTreeWithin sig) (sym (tree_kept old new u e a.1)) a.4)

equations_kept : (sig : Sig) (old new : List Tree) (rs : List Rule) (qs : List Equation) → Extends old new → All (IsRule sig old) rs → AreEquationsOf sig old rs qs → AreEquationsOf sig new rs qs
equations_kept sig old new [] [] e h are = tt
equations_kept sig old new [] (q ∷ qs) e h are = absurd are
equations_kept sig old new (r ∷ rs) [] e h are = absurd are
equations_kept sig old new (r ∷ rs) (q ∷ qs) e h are =
    let i = All-head (IsRule sig old) r rs h in (
      record {
        condition = are.0.condition ∙ sym (term_kept sig old new r.cond e i.condition.inside);
        left = are.0.left ∙ sym (term_kept sig old new r.left e i.left.inside);
        right = are.0.right ∙ sym (term_kept sig old new r.right e i.right.inside);
      },
      equations_kept sig old new rs qs e (All-tail (IsRule sig old) r rs h) are.1,
    )

rule_kept : (sig : Sig) (old new : List Tree) → Extends old new → (r : Rule) → IsRule sig old r → IsRule sig new r
rule_kept sig old new e r i = record {
  condition = term_stays sig old new e r.cond i.condition;
  left = term_stays sig old new e r.left i.left;
  right = term_stays sig old new e r.right i.right;
  no_variable = subst IsLeft (sym (tree_kept old new r.left e i.left.inside)) i.no_variable;
}

pub at_rule : (sig : Sig) (ts : List Tree) (rs : List Rule) (n : ℕ) (r : Rule) → All (IsRule sig ts) rs → slice_get rs n ≡ Some r → IsRule sig ts r
at_rule sig ts [] n r h e = absurd cc
at_rule sig ts (x ∷ rs) zero r h e = let same : x ≡ r = cc in subst (IsRule sig ts) same (All-head (IsRule sig ts) x rs h)
at_rule sig ts (x ∷ rs) (suc n) r h e = at_rule sig ts rs n r (All-tail (IsRule sig ts) x rs h) e

pub tables_kept : (tables : Tables) (sig : Sig) (own : List Equation) (old new : List Tree) → Extends old new → AreTablesOf tables sig own old → AreTablesOf tables sig own new
tables_kept tables sig own old new e a = record {
  signs = a.signs;
  equations = equations_kept sig old new tables.rules.items own e a.rules a.equations;
  rules = All-weaker (IsRule sig old) (IsRule sig new) (rule_kept sig old new e) tables.rules.items a.rules;
  heads = λ f inside. let h = a.heads f inside in record {
    rise = h.rise;
    inside = h.inside;
    all = λ n r at head. h.all n r at (subst (HasHead f) (tree_kept old new r.left e (at_rule sig old tables.rules.items n r a.rules at).left.inside) head);
  };
}

hand_stays : (old new : List Tree) → Extends old new → (hand : Hand) → IsHandIn old hand → IsHandIn new hand
hand_stays old new e (Visit t) h = stays_in old new t e h
hand_stays old new e (Root t k) h = (stays_in old new t e h.0, h.1)
hand_stays old new e (Answer t) h = stays_in old new t e h
hand_stays old new e Spent h = h

pub ids_kept : (old new : List Tree) (stack : List Plain) (start : TermId) (hand : Hand) → Extends old new → AreIdsIn old stack start hand → AreIdsIn new stack start hand
ids_kept old new stack start hand e ids = record { frames = frames_stay old new stack e ids.frames; begin = stays_in old new start e ids.begin; held = hand_stays old new e hand ids.held }

-- one more pair is stored
pub pairs_more : {S : Type 0} (P : TermId → TermId → Type 0) (old new : HashMap TermId TermId S) (start normal : TermId) → ((id : TermId) → result_of new id ≡ cond (start.0 == id.0) (Some normal) (result_of old id)) → ((t u : TermId) → result_of old t ≡ Some u → P t u) → P start normal → (t u : TermId) → result_of new t ≡ Some u → P t u
pairs_more P old new start normal updated all is t u e = at_test (start.0 == t.0) refl
  where
    at_test : (b : Bool) → (start.0 == t.0) ≡ b → P t u
    at_test true same =
        let id_same : start ≡ t = let n : start.0 ≡ t.0 = (Decides-eqb start.0 t.0).0 same in λ i. record { 0 = n i } in
        let both : Some normal ≡ Some u = ap (λ b. cond b (Some normal) (result_of old t)) (sym same) ∙ (sym (updated t) ∙ e) in
        let normal_same : normal ≡ u = cc in
        subst (λ (x : TermId). P x u) id_same (subst (λ (x : TermId). P start x) normal_same is)
    at_test false other = all t u (ap (λ b. cond b (Some normal) (result_of old t)) (sym other) ∙ (sym (updated t) ∙ e))

-- ---- terms over the signature stay so
frame_within : (sig : Sig) (old new : List Tree) → Extends old new → (p : Plain) → IsFrameIn old p → IsFrameWithin sig old p → IsFrameWithin sig new p
frame_within sig old new e (applies start f ids done) i w =
    (subst (IsTreeWithin sig) (sym (tree_kept old new start e i.0)) w.0, w.1, args_within ids i.1 w.2)
  where
    args_within : (ids : List TermId) → AreIn old ids → All (λ (a : TermId). IsTreeWithin sig (tree_at old a)) ids → All (λ (a : TermId). IsTreeWithin sig (tree_at new a)) ids
    args_within [] i w = All-nil (λ (a : TermId). IsTreeWithin sig (tree_at new a))
    args_within (id ∷ ids) i w = All-cons (λ (a : TermId). IsTreeWithin sig (tree_at new a)) id ids (subst (IsTreeWithin sig) (sym (tree_kept old new id e (All-head (IsIn old) id ids i))) (All-head (λ (a : TermId). IsTreeWithin sig (tree_at old a)) id ids w)) (args_within ids (All-tail (IsIn old) id ids i) (All-tail (λ (a : TermId). IsTreeWithin sig (tree_at old a)) id ids w))
frame_within sig old new e (decides start root number right) i w =
    (subst (IsTreeWithin sig) (sym (tree_kept old new start e i.0)) w.0, subst (IsTreeWithin sig) (sym (tree_kept old new root e i.1)) w.1, subst (IsTreeWithin sig) (sym (tree_kept old new right e i.2)) w.2)

pub frames_within : (sig : Sig) (old new : List Tree) → Extends old new → (stack : List Plain) → All (IsFrameIn old) stack → All (IsFrameWithin sig old) stack → All (IsFrameWithin sig new) stack
frames_within sig old new e [] i w = All-nil (IsFrameWithin sig new)
frames_within sig old new e (p ∷ stack) i w = All-cons (IsFrameWithin sig new) p stack (frame_within sig old new e p (All-head (IsFrameIn old) p stack i) (All-head (IsFrameWithin sig old) p stack w)) (frames_within sig old new e stack (All-tail (IsFrameIn old) p stack i) (All-tail (IsFrameWithin sig old) p stack w))

pub tree_within : (sig : Sig) (old new : List Tree) → Extends old new → (id : TermId) → IsIn old id → IsTreeWithin sig (tree_at old id) → IsTreeWithin sig (tree_at new id)
tree_within sig old new e id i w = subst (IsTreeWithin sig) (sym (tree_kept old new id e i)) w

-- an application whose first argument is visited
pub enters_within : (sig : Sig) (ts : List Tree) (start : TermId) (stack : List Plain) (t : TermId) (f : FunId) (h : Head) (ids copy : List TermId) (first d : TermId) (stack' : List Plain) → stack' ≡ applies start f copy 0 ∷ stack → copy ≡ ids → first ≡ get_or ids 0 d → 0 < length ids → h ≡ Fun f → tree_at ts t ≡ written_tree h (trees_at ts ids) → All (λ (a : TermId). a.0 < t.0) ids → IsIn ts t → AreWithin sig ts stack start (Visit t) → AreWithin sig ts stack' first (Visit first)
enters_within sig ts start stack t f h ids copy first d stack' pushed same at_first some is e below inside w =
    let call = call_at sig ts t f h ids is e below (record { inside = inside; within = w.held }) in
    let all : All (λ (a : TermId). IsTreeWithin sig (tree_at ts a)) ids = All-weaker (IsTerm sig ts) (λ (a : TermId). IsTreeWithin sig (tree_at ts a)) (λ a k. k.within) ids call.arguments in
    let frame : IsFrameWithin sig ts (applies start f copy 0) = (w.begin, call.inside, subst (All (λ (a : TermId). IsTreeWithin sig (tree_at ts a))) (sym same) all) in
    let one = first_within ids d some all in
    let here : IsTreeWithin sig (tree_at ts first) = subst (λ (a : TermId). IsTreeWithin sig (tree_at ts a)) (sym at_first) one in
    record {
      frames = subst (All (IsFrameWithin sig ts)) (sym pushed) (All-cons (IsFrameWithin sig ts) (applies start f copy 0) stack frame w.frames);
      begin = here;
      held = here;
    }
  where
    first_within : (ids : List TermId) (d : TermId) → 0 < length ids → All (λ (a : TermId). IsTreeWithin sig (tree_at ts a)) ids → IsTreeWithin sig (tree_at ts (get_or ids 0 d))
    first_within [] d l h = absurd (omega (arith, l))
    first_within (a ∷ ids) d l h = All-head (λ (a : TermId). IsTreeWithin sig (tree_at ts a)) a ids h

pub within_kept : (sig : Sig) (old new : List Tree) → Extends old new → (stack : List Plain) (start root : TermId) (from : ℕ) → AreIdsIn old stack start (Root root from) → AreWithin sig old stack start (Root root from) → AreWithin sig new stack start (Root root from)
within_kept sig old new e stack start root from ids w = record {
  frames = frames_within sig old new e stack ids.frames w.frames;
  begin = tree_within sig old new e start ids.begin w.begin;
  held = tree_within sig old new e root ids.held.0 w.held;
}

pub nothing_stored : {S : Type 0} (sig : Sig) (own : List Equation) (ts : List Tree) (store : HashMap TermId TermId S) → store.entries ≡ [] → AreStored sig own ts store
nothing_stored {S} sig own ts store empty t u e =
    absurd (let n : None ≡ Some u = sym (ap (λ (es : List (TermId × TermId)). lookup (λ (x : TermId). t.0 == x.0) es) empty) ∙ e in cc)
