-- What the loop of a machine has paid.
use Rattle.std.proofs.Common.{◌≡◌, ℕ, ◌+◌, List, [], ◌∷◌, refl, sym, ap, ◌∙◌, subst, arith, map, Bool, true, false, cond}
use Rattle.std.specs.Prelude.{Contains, Some, None, ◌==◌}
use Rattle.std.specs.HashMap.{HashMap}
use Rattle.std.specs.Map.{lookup}
use Rattle.std.proofs.lemmas.Bool.Decides.{Decides-eqb}
use Rattle.std.proofs.lemmas.List.Elements.{Contains-append_left, Contains-append_right, Contains-push}
use Rattle.data_theory.specs.declared.ids.TermId.{TermId}
use Rattle.data_theory.specs.Terms.{Term}
use Rattle.data_theory.specs.Declarations.{Data}
use Rattle.data_theory.specs.Provable.{Equation}
use Rattle.data_theory.specs.Signature.{Sig}
use Rattle.data_theory.specs.IdData.{data_meant}
use Rattle.data_theory.specs.IdTrees.{Tree}
use Rattle.data_theory.specs.IdTerms.{IsTreeWithin}
use Rattle.term_pool.specs.Bindings.{result_of}
use Rattle.term_pool.specs.HeadTrees.{tree_at}
use Rattle.term_pool.specs.Pools.{Extends}
use Rattle.data_rewriter.specs.declared.tables.Tables.{Tables}
use Rattle.data_rewriter.specs.declared.machine.Hand.{Hand}
use Rattle.data_rewriter.specs.declared.machine.Hand.TheVariants.{Visit, Answer, Spent}
use Rattle.data_rewriter.specs.declared.machine.Normal.TheVariants.{Done, Spent as SpentAt}
use Rattle.data_rewriter.specs.Charges.{Known, ComesTo, is_left, begins_a_condition, Found, nothing_yet, one_more, AreBegun, none_begun, one_begun, pairs_of, AnswerCosts}
use Rattle.data_rewriter.specs.Frames.{Plain}
use Rattle.data_rewriter.specs.Paying.{Keeps, HavePaid, Pays, IsKnownStore}
use Rattle.data_rewriter.specs.Places.{whole, Pending, applying, deciding}
use Rattle.data_rewriter.specs.Standing.{term_at}
use Rattle.data_rewriter.specs.States.{AreTablesOf, AreStored, AreWithin, StartsIn, pending_at}
use Rattle.data_rewriter.proofs.Advancing.{stands, comes}
use Rattle.data_rewriter.proofs.PaidVisits.{known_store_kept, pending_later}
use Rattle.data_rewriter.proofs.Running.{IsRunning}
use Rattle.data_rewriter.proofs.StateMoves.{tables_kept}

-- ---- what is known
at_head : (known : Known) (p : Term × Term) → Contains (p ∷ known) p
at_head known p = Contains-append_left (p ∷ []) known p (Contains-push [] p)

further_in : (known : Known) (p q : Term × Term) → Contains known q → Contains (p ∷ known) q
further_in known p q = Contains-append_right (p ∷ []) known q

-- a pair that is stored is known
stored_among : (sig : Sig) (ts : List Tree) (es : List (TermId × TermId)) (t u : TermId) → lookup (λ (x : TermId). t.0 == x.0) es ≡ Some u → Contains {X = Term × Term} (map (λ p. (term_at sig ts p.0, term_at sig ts p.1)) es) (term_at sig ts t, term_at sig ts u)
stored_among sig ts [] t u e = absurd cc
stored_among sig ts (p ∷ es) t u e = by_test (stored_among sig ts es t u) (t.0 == p.0.0) refl
  where
    here : Term × Term
    here = (term_at sig ts p.0, term_at sig ts p.1)

    rest : Known
    rest = map (λ q. (term_at sig ts q.0, term_at sig ts q.1)) es

    by_test : (lookup (λ (x : TermId). t.0 == x.0) es ≡ Some u → Contains rest (term_at sig ts t, term_at sig ts u)) → (b : Bool) → (t.0 == p.0.0) ≡ b → Contains (here ∷ rest) (term_at sig ts t, term_at sig ts u)
    by_test later true same =
        let n : t.0 ≡ p.0.0 = (Decides-eqb t.0 p.0.0).0 same in
        let id_same : p.0 ≡ t = λ i. record { 0 = sym n i } in
        let both : Some p.1 ≡ Some u = ap (λ b. cond b (Some p.1) (lookup (λ (x : TermId). t.0 == x.0) es)) (sym same) ∙ e in
        let normal_same : p.1 ≡ u = cc in
        subst (λ (x : TermId). Contains (here ∷ rest) (term_at sig ts t, term_at sig ts x)) normal_same (subst (λ (x : TermId). Contains (here ∷ rest) (term_at sig ts x, term_at sig ts p.1)) id_same (at_head rest here))
    by_test later false other = further_in rest here (term_at sig ts t, term_at sig ts u) (later (ap (λ b. cond b (Some p.1) (lookup (λ (x : TermId). t.0 == x.0) es)) (sym other) ∙ e))

pub stored_is_known : {S : Type 0} (sig : Sig) (ts : List Tree) (store : HashMap TermId TermId S) → IsKnownStore sig ts store (pairs_of sig ts store)
stored_is_known sig ts store t u e = stored_among sig ts store.entries t u e

pub stored_costs_nothing : {S : Type 0} (sig : Sig) (own : List Equation) (ts : List Tree) (store : HashMap TermId TermId S) (t u : TermId) (fuel : ℕ) → result_of store t ≡ Some u → AnswerCosts sig own ts ts store t fuel fuel (Done u)
stored_costs_nothing sig own ts store t u fuel e = record { known = pairs_of sig ts store; uses = 0; found = nothing_yet; is_among = stored_is_known sig ts store t u e; all_fuel = omega arith }

-- ---- what was begun
begun_below : (g : Data) (own : List Equation) (known : Known) (origin : Term) (stack : List Pending) (hand : Term) (n m : ℕ) → HavePaid g own known origin stack hand n → ComesTo g own known (whole hand) None m → (ts : List Term) × AreBegun g own known ts (n + m) × Contains ts origin
begun_below g own known origin [] hand n m h y =
    let e = h.1 in
    (hand ∷ [], subst (AreBegun g own known (hand ∷ [])) (omega (arith, e)) (one_begun none_begun y), subst (Contains (hand ∷ [])) h.0 (Contains-push [] hand))
begun_below g own known origin (applying start f news later ∷ below) hand n m h y =
    let rest = begun_below g own known origin below start h.before (h.moved + 0) h.below (comes g own known None h.advances is_left) in
    let e = h.uses_are in
    (hand ∷ rest.0, subst (AreBegun g own known (hand ∷ rest.0)) (omega (arith, e)) (one_begun rest.1 y), Contains-append_right (hand ∷ []) rest.0 origin rest.2)
begun_below g own known origin (deciding start k t r ∷ below) hand n m h y =
    let rest = begun_below g own known origin below start h.before (h.moved + h.charge) h.below (comes g own known None h.advances (begins_a_condition h.is_inside h.applies_there h.not_true)) in
    let e = h.uses_are in
    (hand ∷ rest.0, subst (AreBegun g own known (hand ∷ rest.0)) (omega (arith, e)) (one_begun rest.1 y), Contains-append_right (hand ∷ []) rest.0 origin rest.2)

-- ---- the loop
-- what was found up to now, what was paid for it, and what was paid since
pub record HasPaid {S : Type 0} (sig : Sig) (own : List Equation) (old new : List Tree) (at_first store : HashMap TermId TermId S) (term : TermId) (stack : List Plain) (start : TermId) (hand : Hand) (fuel fuel' : ℕ) : Type 0 where
  pub known : Known
  pub uses : ℕ
  pub last : ℕ
  pub found : Found (data_meant sig) own (pairs_of sig old at_first) known uses
  pub is_stored : IsKnownStore sig new store known
  pub pays : Pays sig own known new (term_at sig old term) stack start hand last fuel'
  pub all_fuel : fuel ≡ uses + last

abbrev pub IsPaying : {S : Type 0} → Tables → List Tree → List Tree → HashMap TermId TermId S → HashMap TermId TermId S → TermId → List Plain → TermId → Hand → ℕ → ℕ → Type 0
IsPaying tables old new at_first store term stack start hand fuel fuel' =
    (sig : Sig) (own : List Equation) → AreTablesOf tables sig own old → AreStored sig own old at_first → IsTreeWithin sig (tree_at old term)
    → HasPaid sig own old new at_first store term stack start hand fuel fuel'

pub begins_paying : {S : Type 0} (tables : Tables) (ts : List Tree) (store : HashMap TermId TermId S) (term : TermId) (fuel : ℕ) → IsPaying tables ts ts store store term [] term (Visit term) fuel fuel
begins_paying tables ts store term fuel sig own all s w =
    let known = pairs_of sig ts store in
    record {
      known = known;
      uses = 0;
      last = fuel;
      found = nothing_yet;
      is_stored = stored_is_known sig ts store;
      pays = record { behind = 0; here = 0; pending = (refl, refl); paid = stands (data_meant sig) own known (whole (term_at sig ts term)); fuel = omega arith };
      all_fuel = omega arith;
    }

module _ {S : Type 0} (tables : Tables) (old mid : List Tree) (at_first store : HashMap TermId TermId S) (term : TermId) (stack : List Plain) (start : TermId) (hand : Hand) (fuel fuel' : ℕ) (is : IsRunning tables old mid at_first store term stack start hand fuel fuel') (p : IsPaying tables old mid at_first store term stack start hand fuel fuel') where
  -- a step that stores nothing
  pub pays_a_step : (new : List Tree) (stack' : List Plain) (start' : TermId) (hand' : Hand) (fuel'' : ℕ) → Extends mid new
      → ((sig : Sig) (own : List Equation) (known : Known) → AreTablesOf tables sig own mid → IsKnownStore sig mid store known → AreWithin sig mid stack start hand → (origin : Term) (before : ℕ) → Pays sig own known mid origin stack start hand before fuel' → Pays sig own known new origin stack' start' hand' before fuel'')
      → IsPaying tables old new at_first store term stack' start' hand' fuel fuel''
  pays_a_step new stack' start' hand' fuel'' e on sig own all s w =
      let h = p sig own all s w in
      record {
        known = h.known;
        uses = h.uses;
        last = h.last;
        found = h.found;
        is_stored = known_store_kept sig mid new e store h.known is.stored_in h.is_stored;
        pays = on sig own h.known (tables_kept tables sig own old mid is.kept all) h.is_stored (is.over sig own all s w) (term_at sig old term) h.last h.pays;
        all_fuel = h.all_fuel;
      }

  -- the fuel is spent
  pub costs_all : hand ≡ Spent → (sig : Sig) (own : List Equation) → AreTablesOf tables sig own old → AreStored sig own old at_first → IsTreeWithin sig (tree_at old term) → AnswerCosts sig own old mid at_first term fuel fuel' (SpentAt term)
  costs_all e sig own all s w =
      let h = p sig own all s w in
      let y : Pays sig own h.known mid (term_at sig old term) stack start Spent h.last fuel' = subst (λ (x : Hand). Pays sig own h.known mid (term_at sig old term) stack start x h.last fuel') e h.pays in
      let b = begun_below (data_meant sig) own h.known (term_at sig old term) (map (pending_at sig mid) stack) (term_at sig mid start) y.behind y.here y.pending y.paid in
      let none : fuel' ≡ 0 = is.empty e in
      let sum : fuel ≡ h.uses + (y.behind + y.here) = let a = h.all_fuel in let d = y.fuel in omega (arith, a, d, none) in
      record { known = h.known; begun = b.0; uses = h.uses; further = y.behind + y.here; found = h.found; are_begun = b.1; is_among = b.2; all_fuel = (sum, none) }

  module _ (u : TermId) (e : hand ≡ Answer u) where
    -- what is found with the place in hand
    at_answer : (sig : Sig) (own : List Equation) (h : HasPaid sig own old mid at_first store term stack start hand fuel fuel') → Pays sig own h.known mid (term_at sig old term) stack start (Answer u) h.last fuel'
    at_answer sig own h = subst (λ (x : Hand). Pays sig own h.known mid (term_at sig old term) stack start x h.last fuel') e h.pays

    -- the bottom place has its answer
    pub costs_its_uses : stack ≡ [] → (sig : Sig) (own : List Equation) → AreTablesOf tables sig own old → AreStored sig own old at_first → IsTreeWithin sig (tree_at old term) → AnswerCosts sig own old mid at_first term fuel fuel' (Done u)
    costs_its_uses bottom sig own all s w =
        let h = p sig own all s w in
        let y = at_answer sig own h in
        let pair : Term × Term = (term_at sig mid start, term_at sig mid u) in
        let itself : Term × Term = (term_at sig mid u, term_at sig mid u) in
        let at : (term_at sig mid start ≡ term_at sig old term) × (y.behind ≡ 0) = subst (λ (st : List Plain). HavePaid (data_meant sig) own h.known (term_at sig old term) (map (pending_at sig mid) st) (term_at sig mid start) y.behind) bottom y.pending in
        record {
          known = pair ∷ itself ∷ h.known;
          uses = h.uses + y.here;
          found = one_more h.found y.paid;
          is_among = subst (λ (x : Term). Contains (pair ∷ itself ∷ h.known) (x, term_at sig mid u)) at.0 (at_head (itself ∷ h.known) pair);
          all_fuel = let a = h.all_fuel in let b = y.fuel in let z = at.1 in omega (arith, a, b, z);
        }

    -- a place has its answer, which is stored, and what waits for it goes on
    pub pays_behind_an_answer : (later : HashMap TermId TermId S) (new : List Tree) (stack' : List Plain) (start' : TermId) (hand' : Hand) (fuel'' : ℕ) → Extends mid new → StartsIn mid later
        → ((sig : Sig) (known : Known) → IsKnownStore sig mid store known → Contains known (term_at sig mid start, term_at sig mid u) → Contains known (term_at sig mid u, term_at sig mid u) → IsKnownStore sig mid later known)
        → ((sig : Sig) (own : List Equation) (known : Known) → AreTablesOf tables sig own mid → AreWithin sig mid stack start (Answer u) → Contains known (term_at sig mid start, term_at sig mid u) → (origin : Term) (behind : ℕ) → HavePaid (data_meant sig) own known origin (map (pending_at sig mid) stack) (term_at sig mid start) behind → Pays sig own known new origin stack' start' hand' (behind + fuel') fuel'')
        → IsPaying tables old new at_first later term stack' start' hand' fuel fuel''
    pays_behind_an_answer later new stack' start' hand' fuel'' grows inside put on sig own all s w =
        let h = p sig own all s w in
        let y = at_answer sig own h in
        let pair : Term × Term = (term_at sig mid start, term_at sig mid u) in
        let itself : Term × Term = (term_at sig mid u, term_at sig mid u) in
        let known : Known = pair ∷ itself ∷ h.known in
        let keeps : Keeps h.known known = λ q c. further_in (itself ∷ h.known) pair q (further_in h.known itself q c) in
        let first : Contains known pair = at_head (itself ∷ h.known) pair in
        let second : Contains known itself = further_in (itself ∷ h.known) pair itself (at_head h.known itself) in
        let waits = pending_later (data_meant sig) own h.known known keeps (term_at sig old term) (map (pending_at sig mid) stack) (term_at sig mid start) y.behind y.pending in
        let over : AreWithin sig mid stack start (Answer u) = subst (AreWithin sig mid stack start) e (is.over sig own all s w) in
        record {
          known = known;
          uses = h.uses + y.here;
          last = y.behind + fuel';
          found = one_more h.found y.paid;
          is_stored = known_store_kept sig mid new grows later known inside (put sig known (λ a b c. keeps (term_at sig mid a, term_at sig mid b) (h.is_stored a b c)) first second);
          pays = on sig own known (tables_kept tables sig own old mid is.kept all) over first (term_at sig old term) y.behind waits;
          all_fuel = let a = h.all_fuel in let b = y.fuel in omega (arith, a, b);
        }

-- the same at equal values
pub pays_as : {S : Type 0} (tables : Tables) (old : List Tree) (at_first : HashMap TermId TermId S) (term : TermId) (fuel : ℕ) (mid mid' : List Tree) (store store' : HashMap TermId TermId S) (stack stack' : List Plain) (start start' : TermId) (hand hand' : Hand) (fuel' fuel'' : ℕ) → mid' ≡ mid → store' ≡ store → stack' ≡ stack → start' ≡ start → hand' ≡ hand → fuel'' ≡ fuel' → IsPaying tables old mid at_first store term stack start hand fuel fuel' → IsPaying tables old mid' at_first store' term stack' start' hand' fuel fuel''
pays_as {S} tables old at_first term fuel mid mid' store store' stack stack' start start' hand hand' fuel' fuel'' a b d e f h is =
    let r1 = subst (λ (x : List Tree). IsPaying tables old x at_first store term stack start hand fuel fuel') (sym a) is in
    let r2 = subst (λ (x : HashMap TermId TermId S). IsPaying tables old mid' at_first x term stack start hand fuel fuel') (sym b) r1 in
    let r3 = subst (λ (x : List Plain). IsPaying tables old mid' at_first store' term x start hand fuel fuel') (sym d) r2 in
    let r4 = subst (λ (x : TermId). IsPaying tables old mid' at_first store' term stack' x hand fuel fuel') (sym e) r3 in
    let r5 = subst (λ (x : Hand). IsPaying tables old mid' at_first store' term stack' start' x fuel fuel') (sym f) r4 in
    subst (λ (x : ℕ). IsPaying tables old mid' at_first store' term stack' start' hand' fuel x) (sym h) r5
