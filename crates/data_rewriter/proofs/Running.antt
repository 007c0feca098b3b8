-- What the loop of a machine keeps.
use Rattle.std.proofs.Common.{◌≡◌, ℕ, suc, ◌+◌, ◌<◌, List, [], refl, sym, ap, ◌∙◌, subst, arith, append_assoc, append-nil, ◌++◌}
use Rattle.std.specs.HashMap.{HashMap}
use Rattle.std.proofs.lemmas.List.Elements.{All-nil}
use Rattle.data_theory.specs.declared.ids.TermId.{TermId}
use Rattle.data_theory.specs.Terms.{Term}
use Rattle.data_theory.specs.Provable.{Equation}
use Rattle.data_theory.specs.Rewriting.{GoesTo}
use Rattle.data_theory.proofs.NormalForms.{what_it_goes_to_is_normal}
use Rattle.data_theory.specs.Signature.{Sig}
use Rattle.data_theory.specs.IdData.{data_meant}
use Rattle.data_theory.specs.IdTrees.{Tree}
use Rattle.data_theory.specs.IdTerms.{IsTreeWithin}
use Rattle.term_pool.specs.HeadTrees.{IsIn, tree_at}
use Rattle.term_pool.specs.Pools.{Extends}
use Rattle.data_rewriter.specs.declared.tables.Tables.{Tables}
use Rattle.data_rewriter.specs.declared.machine.Hand.{Hand}
use Rattle.data_rewriter.specs.declared.machine.Hand.TheVariants.{Visit, Answer, Spent}
use Rattle.data_rewriter.specs.declared.machine.Normal.TheVariants.{Done, Spent as SpentAt}
use Rattle.data_theory.specs.IdTables.{IsTable}
use Rattle.data_rewriter.specs.Stored.{AreCovered, KeepsStored}
use Rattle.data_rewriter.proofs.Keeping.{then_keeps}
use Rattle.data_rewriter.specs.Places.{whole, at_the_origin}
use Rattle.data_rewriter.specs.Frames.{Plain}
use Rattle.data_rewriter.specs.States.{AreWithin, IsFrameWithin, AreTablesOf, AreStored, IsStored, AreIdsIn, IsFrameIn, Shows, Says, StartsIn}
use Rattle.data_rewriter.proofs.Leading.{stands_still}
use Rattle.data_rewriter.proofs.Waiting.{chain_from_the_origin}
use Rattle.data_rewriter.proofs.Moving.{inverted}
use Rattle.term_pool.proofs.NodeTrees.{stays_in}
use Rattle.data_rewriter.proofs.StateMoves.{tables_kept, stored_kept}
use Rattle.data_rewriter.specs.Standing.{term_at}

-- over all data of the tables, where the pairs were stored at first, they are still, and the term has come to what is in hand
pub record IsRunning {S : Type 0} (tables : Tables) (old new : List Tree) (at_first store : HashMap TermId TermId S) (term : TermId) (stack : List Plain) (start : TermId) (hand : Hand) (fuel fuel' : ℕ) : Type 0 where
  pub kept : Extends old new
  pub ids : AreIdsIn new stack start hand
  pub stored_in : StartsIn new store
  pub empty : hand ≡ Spent → fuel' ≡ 0
  pub stored : (sig : Sig) (own : List Equation) → AreTablesOf tables sig own old → AreStored sig own old at_first → IsTreeWithin sig (tree_at old term) → AreStored sig own new store
  pub over : (sig : Sig) (own : List Equation) → AreTablesOf tables sig own old → AreStored sig own old at_first → IsTreeWithin sig (tree_at old term) → AreWithin sig new stack start hand
  pub shows : (sig : Sig) (own : List Equation) → AreTablesOf tables sig own old → AreStored sig own old at_first → IsTreeWithin sig (tree_at old term) → Shows sig own new (term_at sig old term) stack start hand fuel fuel'

pub begins : {S : Type 0} (tables : Tables) (ts : List Tree) (store : HashMap TermId TermId S) (term : TermId) (fuel : ℕ) → IsIn ts term → StartsIn ts store → IsRunning tables ts ts store store term [] term (Visit term) fuel fuel
begins tables ts store term fuel within stored = record {
  kept = ([], sym (append-nil ts));
  ids = record { frames = All-nil (IsFrameIn ts); begin = within; held = within };
  stored_in = stored;
  empty = λ e. absurd cc;
  stored = λ sig own all s w. s;
  over = λ sig own all s w. record { frames = All-nil (IsFrameWithin sig ts); begin = w; held = w };
  shows = λ sig own all s w. record { behind = 0; here = 0; waits = at_the_origin; shown = stands_still (data_meant sig) own (whole (term_at sig ts term)); fuel = omega arith };
}

module _ {S : Type 0} (tables : Tables) (old mid : List Tree) (at_first store : HashMap TermId TermId S) (term : TermId) (stack : List Plain) (start : TermId) (hand : Hand) (fuel fuel' : ℕ) (is : IsRunning tables old mid at_first store term stack start hand fuel fuel') where
  -- a step that stores nothing
  pub steps : (new : List Tree) (stack' : List Plain) (start' : TermId) (hand' : Hand) (fuel'' : ℕ) → Extends mid new → AreIdsIn new stack' start' hand' → (hand' ≡ Spent → fuel'' ≡ 0)
      → ((sig : Sig) (own : List Equation) → AreTablesOf tables sig own mid → AreStored sig own mid store → AreWithin sig mid stack start hand → AreWithin sig new stack' start' hand' × ((origin : Term) (before : ℕ) → Shows sig own mid origin stack start hand before fuel' → Shows sig own new origin stack' start' hand' before fuel''))
      → IsRunning tables old new at_first store term stack' start' hand' fuel fuel''
  steps new stack' start' hand' fuel'' e ids empty on = record {
    kept = (is.kept.0 ++ e.0, e.1 ∙ (ap (λ l. l ++ e.0) is.kept.1 ∙ append_assoc old is.kept.0 e.0));
    ids = ids;
    stored_in = λ t u h. let a = is.stored_in t u h in (stays_in mid new t e a.0, stays_in mid new u e a.1);
    empty = empty;
    stored = λ sig own all s w. stored_kept sig own mid new e store (is.stored sig own all s w);
    over = λ sig own all s w. (on sig own (tables_kept tables sig own old mid is.kept all) (is.stored sig own all s w) (is.over sig own all s w)).0;
    shows = λ sig own all s w. (on sig own (tables_kept tables sig own old mid is.kept all) (is.stored sig own all s w) (is.over sig own all s w)).1 (term_at sig old term) fuel (is.shows sig own all s w);
  }

  -- the fuel is spent
  pub says_spent : hand ≡ Spent → (sig : Sig) (own : List Equation) → AreTablesOf tables sig own old → AreStored sig own old at_first → IsTreeWithin sig (tree_at old term) → Says sig own old mid term fuel fuel' (SpentAt term)
  says_spent e sig own all s w =
      let sh : Shows sig own mid (term_at sig old term) stack start Spent fuel fuel' = subst (λ (h : Hand). Shows sig own mid (term_at sig old term) stack start h fuel fuel') e (is.shows sig own all s w) in
      let none : fuel' ≡ 0 = is.empty e in
      let less : fuel < sh.behind + suc sh.here = let f = sh.fuel in omega (arith, none, f) in
      (refl, none, (sh.behind + suc sh.here, less, chain_from_the_origin (data_meant sig) own sh.waits (suc sh.here) sh.shown))

  -- the pairs of an answer may be stored
  pub answer_is_stored : (u : TermId) → hand ≡ Answer u → (sig : Sig) (own : List Equation) → AreTablesOf tables sig own old → AreStored sig own old at_first → IsTreeWithin sig (tree_at old term) → IsStored sig own mid start u × IsStored sig own mid u u
  answer_is_stored u e sig own all s w =
      let sh : Shows sig own mid (term_at sig old term) stack start (Answer u) fuel fuel' = subst (λ (h : Hand). Shows sig own mid (term_at sig old term) stack start h fuel fuel') e (is.shows sig own all s w) in
      let ids : AreIdsIn mid stack start (Answer u) = subst (AreIdsIn mid stack start) e is.ids in
      let over : AreWithin sig mid stack start (Answer u) = subst (AreWithin sig mid stack start) e (is.over sig own all s w) in
      ((ids.begin, ids.held, (sh.here, sh.shown), over.begin, over.held), (ids.held, ids.held, what_it_goes_to_is_normal (data_meant sig) own (term_at sig mid start) (term_at sig mid u) sh.here sh.shown, over.held, over.held))

  -- the bottom place has its answer
  pub says_done : (u : TermId) → hand ≡ Answer u → stack ≡ [] → (sig : Sig) (own : List Equation) → AreTablesOf tables sig own old → AreStored sig own old at_first → IsTreeWithin sig (tree_at old term) → Says sig own old mid term fuel fuel' (Done u)
  says_done u e bottom sig own all s w =
      let sh : Shows sig own mid (term_at sig old term) stack start (Answer u) fuel fuel' = subst (λ (h : Hand). Shows sig own mid (term_at sig old term) stack start h fuel fuel') e (is.shows sig own all s w) in
      let sh' : Shows sig own mid (term_at sig old term) [] start (Answer u) fuel fuel' = subst (λ (st : List Plain). Shows sig own mid (term_at sig old term) st start (Answer u) fuel fuel') bottom sh in
      let at = inverted (data_meant sig) own (term_at sig old term) sh'.waits in
      let ids : AreIdsIn mid stack start (Answer u) = subst (AreIdsIn mid stack start) e is.ids in
      let over : AreWithin sig mid stack start (Answer u) = subst (AreWithin sig mid stack start) e (is.over sig own all s w) in
      (record { inside = ids.held; within = over.held }, (sh'.here, (let f = sh'.fuel in let z = at.1 in omega (arith, f, z)), subst (λ (x : Term). GoesTo (data_meant sig) own x (term_at sig mid u) sh'.here) at.0 sh'.shown))

  -- the pairs of an answer were stored
  pub keeps : (u : TermId) (later : HashMap TermId TermId S) (hand' : Hand) → hand ≡ Answer u → hand' ≡ Answer u → ((ts : List Tree) → StartsIn ts store → IsIn ts start → IsIn ts u → StartsIn ts later) → ((sig : Sig) (own : List Equation) (ts : List Tree) → AreStored sig own ts store → IsStored sig own ts start u → IsStored sig own ts u u → AreStored sig own ts later) → IsRunning tables old mid at_first later term stack start hand' fuel fuel'
  keeps u later hand' e e' within all =
      let ids : AreIdsIn mid stack start (Answer u) = subst (AreIdsIn mid stack start) e is.ids in
      subst (λ (h : Hand). IsRunning tables old mid at_first later term stack start h fuel fuel') (e ∙ sym e') (record {
        kept = is.kept;
        ids = is.ids;
        stored_in = within mid is.stored_in ids.begin ids.held;
        empty = is.empty;
        stored = λ sig own t s w. let pairs = answer_is_stored u e sig own t s w in all sig own mid (is.stored sig own t s w) pairs.0 pairs.1;
        over = is.over;
        shows = is.shows;
      })

-- ---- pairs that were stored stay
abbrev pub KeepsAll : {S : Type 0} → Tables → List Tree → HashMap TermId TermId S → HashMap TermId TermId S → TermId → Type 0
KeepsAll tables old at_first store term = (sig : Sig) (own : List Equation) → AreTablesOf tables sig own old → AreStored sig own old at_first → IsTreeWithin sig (tree_at old term) → AreCovered own → KeepsStored at_first store

pub keeps_as : {S : Type 0} (tables : Tables) (old : List Tree) (at_first store store' : HashMap TermId TermId S) (term : TermId) → store' ≡ store → KeepsAll tables old at_first store term → KeepsAll tables old at_first store' term
keeps_as {S} tables old at_first store store' term e h = subst (λ (x : HashMap TermId TermId S). KeepsAll tables old at_first x term) (sym e) h

-- behind an answer that was stored, as far as there was memory
pub keeps_on : {S : Type 0} (tables : Tables) (old mid : List Tree) (at_first store later : HashMap TermId TermId S) (term : TermId) (stack : List Plain) (start : TermId) (hand : Hand) (fuel fuel' : ℕ) → IsRunning tables old mid at_first store term stack start hand fuel fuel' → (u : TermId) → hand ≡ Answer u
    → ((sig : Sig) (own : List Equation) → IsTable sig → AreCovered own → AreStored sig own mid store → IsStored sig own mid start u → IsStored sig own mid u u → KeepsStored store later) → KeepsAll tables old at_first store term → KeepsAll tables old at_first later term
keeps_on tables old mid at_first store later term stack start hand fuel fuel' is u e kept h sig own all s w covered =
    let pairs = answer_is_stored tables old mid at_first store term stack start hand fuel fuel' is u e sig own all s w in
    then_keeps at_first store later (h sig own all s w covered) (kept sig own all.signs.signature.table covered (is.stored sig own all s w) pairs.0 pairs.1)

-- the same at equal values
pub runs_as : {S : Type 0} (tables : Tables) (old : List Tree) (at_first : HashMap TermId TermId S) (term : TermId) (fuel : ℕ) (mid mid' : List Tree) (store store' : HashMap TermId TermId S) (stack stack' : List Plain) (start start' : TermId) (hand hand' : Hand) (fuel' fuel'' : ℕ) → mid' ≡ mid → store' ≡ store → stack' ≡ stack → start' ≡ start → hand' ≡ hand → fuel'' ≡ fuel' → IsRunning tables old mid at_first store term stack start hand fuel fuel' → IsRunning tables old mid' at_first store' term stack' start' hand' fuel fuel''
runs_as {S} tables old at_first term fuel mid mid' store store' stack stack' start start' hand hand' fuel' fuel'' a b d e f h is =
    let r1 = subst (λ (x : List Tree). IsRunning tables old x at_first store term stack start hand fuel fuel') (sym a) is in
    let r2 = subst (λ (x : HashMap TermId TermId S). IsRunning tables old mid' at_first x term stack start hand fuel fuel') (sym b) r1 in
    let r3 = subst (λ (x : List Plain). IsRunning tables old mid' at_first store' term x start hand fuel fuel') (sym d) r2 in
    let r4 = subst (λ (x : TermId). IsRunning tables old mid' at_first store' term stack' x hand fuel fuel') (sym e) r3 in
    let r5 = subst (λ (x : Hand). IsRunning tables old mid' at_first store' term stack' start' x fuel fuel') (sym f) r4 in
    subst (λ (x : ℕ). IsRunning tables old mid' at_first store' term stack' start' hand' fuel x) (sym h) r5

pub runs_at : {S : Type 0} (tables : Tables) (old mid : List Tree) (at_first store : HashMap TermId TermId S) (term : TermId) (stack : List Plain) (start : TermId) (hand hand' : Hand) (fuel fuel' : ℕ) → hand ≡ hand' → IsRunning tables old mid at_first store term stack start hand fuel fuel' → IsRunning tables old mid at_first store term stack start hand' fuel fuel'
runs_at tables old mid at_first store term stack start hand hand' fuel fuel' e is = subst (λ (x : Hand). IsRunning tables old mid at_first store term stack start x fuel fuel') e is
