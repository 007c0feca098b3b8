-- How a state comes out that hasn't ended, in code.
use Rattle.std.specs.Prelude.{◌≡◌, ◌≢◌, ◌==◌, ◌<◌, ℕ, Bool, true, false, List, [], ◌∷◌, map, length, get_or, Option, Some, None, IfSome, slice_get, Contains, Vec}
use Rattle.std.specs.Global.{Global}
use Rattle.std.specs.List.{All}
use Rattle.std.proofs.Common.{refl, sym, subst, ap, ◌∙◌, zero, suc, arith}
use Rattle.data_theory.specs.IdTrees.{Tree}
use Rattle.data_theory.specs.Provable.{Equation}
use Rattle.data_theory.specs.Signature.{Sig}
use Rattle.data_theory.specs.Terms.{Sort}
use Rattle.data_theory.specs.WholeSignatures.{IsSignature}
use Rattle.data_theory.specs.declared.ids.TermId.{TermId}
use Rattle.data_theory.specs.declared.ids.VarId.{VarId}
use Rattle.term_pool.specs.Pools.{Extends}
use Rattle.bisim_laws.specs.LinearProcesses.{Linear, sorts}
use Rattle.lps_core.specs.Fitting.{Fits}
use Rattle.lps_core.specs.PlainLinears.{PlainLinear, plain_next}
use Rattle.lps_core.proofs.Members.{all_at, all_from}
use Rattle.lps_simulator.specs.Options.{TermMove}
use Rattle.lps_simulator.specs.OptionsInCode.{PlainOptions, AreOptions, IsMove, IsState, meant_move}
use Rattle.aut_check.specs.declared.verdicts.StateVerdict.{StateVerdict}
use Rattle.aut_check.specs.Comparing.{setting, state_answer, AreEdgesFrom, AreMoveRows, EdgeComesWith, EdgesAreStates, EdgesCome, MovesCome}
use Rattle.aut_check.specs.Tables.{answers_of, tables_of, IsVerdictOn}
use Rattle.trace_replay.specs.declared.deciding.Answer.{Answer as CodeAnswer}
use Rattle.trace_replay.specs.DecidedConditions.{answer_of}
use Rattle.aut_check.proofs.TableLaws.{zip_long}
use Rattle.std.proofs.lemmas.List.{length-map}
use Rattle.std.proofs.lemmas.List.Elements.{All-nil, All-cons}
use Rattle.std.proofs.lemmas.Option.{slice_get_within}
use Rattle.trace_replay.specs.Decidings.{Answer}
use Rattle.aut_check.proofs.MoveRows.{edges_come, moves_come}
use Rattle.aut_check.specs.declared.systems.Edge.{Edge as CodeEdge}
use Rattle.aut_check.specs.PlainSystems.{plain_edge, PlainSystem, IsEdge, IsSystem}
use Rattle.trace_replay.specs.Settings.{Setting}
use Rattle.aut_check.specs.Systems.{System}
use Rattle.aut_check.specs.Verdicts.{options, options_open, StateComes, StateIs, is_good, is_undecided, mismatches, sorts_in, system_in}
use Rattle.bisim_laws.proofs.Firing.{contains_first}
use Rattle.aut_check.proofs.ComparedStates.{come_both_ways, ended_with_edges, ended_without_edges}
use Rattle.aut_check.proofs.SettledStates.{linear_means, system_means}

pub not_empty : {A : Type 0} (xs : List A) (b : Bool) → b ≡ (length xs == 0) → b ≡ false → xs ≢ []
not_empty [] b e f q = cc
not_empty (x ∷ xs) b e f q = cc

pub empty : {A : Type 0} (xs : List A) (b : Bool) → b ≡ (length xs == 0) → b ≡ true → xs ≡ []
empty [] b e f = refl
empty (x ∷ xs) b e f = absurd (let never : ⊥ = grind (arith, e, f) in never)

pub edges_are_states : (g : Sig) (ts : List Tree) (ps : List VarId) (f : PlainSystem) → IsSystem g ts ps f → EdgesAreStates f
edges_are_states g ts ps f h k e at = (all_at (IsEdge g ts (length f.states)) f.edges k e h.edges at).to

module _ (g : Sig) (stands : IsSignature g) (own : List Equation) (fuel : ℕ) (ts us : List Tree) (grows : Extends ts us) (l : PlainLinear) (f : PlainSystem) (fits : Fits g ts l) (system : IsSystem g ts l.params f) (i : ℕ) (state : List TermId) (found : PlainOptions)
    (are : AreOptions g own fuel 0 ts us l state found) (closed : All (IsMove g us l.params) found.moves) where
  pub running_open : found.undecided ≢ [] → StateIs (setting g own fuel) ts l f i (Some state) is_undecided
  running_open some = record { moves = map (meant_move g us) found.moves; opens = found.undecided; can_do = options us found are closed; comes = options_open some }

  sorts_mean : sorts_in (setting g own fuel) us l ≡ sorts_in (setting g own fuel) ts l
  sorts_mean = ap (λ (z : Linear). sorts z.params) (linear_means g stands ts us grows l fits)

  -- by the table over the pool of the options
  pub running_by : found.undecided ≡ [] → (numbers : List ℕ) → AreEdgesFrom f i numbers → (rows : List (List Answer)) (count : ℕ) (v : StateVerdict) → count ≡ length numbers
      → AreMoveRows (setting g own fuel) (sorts_in (setting g own fuel) us l) us f numbers (map (meant_move g us) found.moves) rows → IsVerdictOn rows count v → StateIs (setting g own fuel) ts l f i (Some state) (state_answer v)
  running_by none numbers from rows count v many h verdict =
      let s : Setting = setting g own fuel in
      let moves : List TermMove = map (meant_move g us) found.moves in
      let within : EdgesAreStates f = edges_are_states g ts l.params f system in
      let by_rows : MovesCome s (sorts_in s ts l) (system_in s ts f) i moves verdict.by_rows =
      subst (λ (z : List Sort). MovesCome s z (system_in s ts f) i moves verdict.by_rows) sorts_mean
      (subst (λ (z : System). MovesCome s (sorts_in s us l) z i moves verdict.by_rows) (system_means g stands ts us grows l.params f system)
      (moves_come s us f i numbers from within (sorts_in s us l) moves rows h verdict.row_bests verdict.are_row_bests verdict.by_rows verdict.are_by_rows)) in
      let by_columns : EdgesCome s (sorts_in s ts l) (system_in s ts f) i moves verdict.by_columns =
      subst (λ (z : List Sort). EdgesCome s z (system_in s ts f) i moves verdict.by_columns) sorts_mean
      (subst (λ (z : System). EdgesCome s (sorts_in s us l) z i moves verdict.by_columns) (system_means g stands ts us grows l.params f system)
      (edges_come s us f i numbers from within (sorts_in s us l) moves rows h verdict.column_bests (verdict.long ∙ many) (λ place k. verdict.are_column_bests place (subst (λ (z : ℕ). place < z) (sym many) k)) verdict.by_columns verdict.are_by_columns)) in
      record {
        moves = moves;
        opens = found.undecided;
        can_do = options us found are closed;
        comes = subst (λ (z : StateVerdict). StateComes s (sorts_in s ts l) (system_in s ts f) i moves found.undecided (state_answer z)) (sym verdict.is)
            (come_both_ways s (sorts_in s ts l) (system_in s ts f) i moves found.undecided none verdict.by_rows verdict.by_columns by_rows by_columns);
      }

-- ---- the states in code
-- what stands at a place is what is read there
pub state_read : (items : List (Option (Vec TermId Global))) (i : ℕ) (x : Option (Vec TermId Global)) → i < length items → x ≡ get_or items i x → slice_get (map plain_next items) i ≡ Some (plain_next x)
state_read [] i x l e = absurd (omega (arith, l))
state_read (y ∷ items) zero x l e = ap (λ (z : Option (Vec TermId Global)). Some (plain_next z)) (sym e)
state_read (y ∷ items) (suc i) x l e = state_read items i x (omega (arith, l)) e

pub same_state : {A : Type 0} {x y : A} (o : Option A) → o ≡ Some x → o ≡ Some y → x ≡ y
same_state o e q = cc

-- in the terms of the code
terms_read : (state : Option (Vec TermId Global)) (terms : Vec TermId Global) (ids : List TermId) → state ≡ Some terms → ids ≡ terms.items → plain_next state ≡ Some ids
terms_read state terms ids e q = ap plain_next e ∙ ap (λ (z : List TermId). Some z) (sym q)

pub terms_there : (g : Sig) (ts : List Tree) (ps : List VarId) (items : List (Option (Vec TermId Global))) (i : ℕ) (state : Option (Vec TermId Global)) (terms : Vec TermId Global) (ids : List TermId) → i < length items → state ≡ get_or items i state → state ≡ Some terms → ids ≡ terms.items
    → All (λ (o : Option (List TermId)). IfSome o (IsState g ts ps)) (map plain_next items) → IsState g ts ps ids
terms_there g ts ps items i state terms ids l is e q all =
    subst (λ (o : Option (List TermId)). IfSome o (IsState g ts ps)) (terms_read state terms ids e q) (all_at (λ (o : Option (List TermId)). IfSome o (IsState g ts ps)) (map plain_next items) i (plain_next state) all (state_read items i state l is))

pub state_is_there : (items : List (Option (Vec TermId Global))) (i : ℕ) (state : Option (Vec TermId Global)) (terms : Vec TermId Global) (ids : List TermId) → i < length items → state ≡ get_or items i state → state ≡ Some terms → ids ≡ terms.items
    → (o : Option (List TermId)) → slice_get (map plain_next items) i ≡ Some o → Some ids ≡ o
state_is_there items i state terms ids l is e q o at = sym (terms_read state terms ids e q) ∙ same_state (slice_get (map plain_next items) i) (state_read items i state l is) at

pub end_is_there : (items : List (Option (Vec TermId Global))) (i : ℕ) (state : Option (Vec TermId Global)) → i < length items → state ≡ get_or items i state → state ≡ None → (o : Option (List TermId)) → slice_get (map plain_next items) i ≡ Some o → None ≡ o
end_is_there items i state l is e o at = sym (ap plain_next e) ∙ same_state (slice_get (map plain_next items) i) (state_read items i state l is) at

pub empty_good : (s : Setting) (ts : List Tree) (l : PlainLinear) (f : PlainSystem) (i : ℕ) (numbers : List ℕ) (b : Bool) → AreEdgesFrom f i numbers → EdgesAreStates f → b ≡ (length numbers == 0) → b ≡ true → StateIs s ts l f i None is_good
empty_good s ts l f i numbers b from within e q = ended_without_edges s ts l f i numbers from (empty numbers b e q)

pub some_differ : (s : Setting) (ts : List Tree) (l : PlainLinear) (f : PlainSystem) (i : ℕ) (numbers : List ℕ) (b : Bool) → AreEdgesFrom f i numbers → EdgesAreStates f → b ≡ (length numbers == 0) → b ≡ false → StateIs s ts l f i None mismatches
some_differ s ts l f i numbers b from within e q = by_numbers numbers refl
  where
    by_numbers : (xs : List ℕ) → numbers ≡ xs → StateIs s ts l f i None mismatches
    by_numbers [] is = absurd (not_empty numbers b e q is)
    by_numbers (k ∷ ks) is = ended_with_edges s ts l f i numbers from within k (subst (λ (z : List ℕ). Contains z k) (sym is) (contains_first k ks))

-- ---- tables in code
pub edges_long : (edges : List CodeEdge) → length (map plain_edge edges) ≡ length edges
edges_long edges = length-map edges plain_edge

pub numbers_within : (f : PlainSystem) (i : ℕ) (numbers : List ℕ) (count : ℕ) → length f.edges ≡ count → AreEdgesFrom f i numbers → All (λ (k : ℕ). k < count) numbers
numbers_within f i numbers count long from = all_from (λ (k : ℕ). k < count) numbers (λ k c. let e = from.within k c in subst (λ (z : ℕ). k < z) long (slice_get_within f.edges k e.0 e.1.0))

pub rows_even : (s : Setting) (ss : List Sort) (ts : List Tree) (f : PlainSystem) (numbers : List ℕ) (moves : List TermMove) (rows : List (Vec CodeAnswer Global)) → AreMoveRows s ss ts f numbers moves (tables_of rows) → All (λ (row : Vec CodeAnswer Global). length row.items ≡ length numbers) rows
rows_even s ss ts f numbers moves [] h = All-nil (λ (row : Vec CodeAnswer Global). length row.items ≡ length numbers)
rows_even s ss ts f numbers [] (row ∷ rows) h = absurd h
rows_even s ss ts f numbers (m ∷ moves) (row ∷ rows) h = All-cons (λ (row : Vec CodeAnswer Global). length row.items ≡ length numbers) row rows (sym (length-map row.items answer_of) ∙ sym (zip_long (EdgeComesWith s ss ts f m) numbers (answers_of row.items) h.0)) (rows_even s ss ts f numbers moves rows h.1)
