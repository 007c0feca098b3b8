-- Moves and edges in code, one after another.
use Rattle.std.specs.Prelude.{◌≡◌, ◌<◌, ◌+◌, ◌++◌, ℕ, List, [], ◌∷◌, length, map, take, option_map, Option, Some, None, IfSome, Vec, slice_get, slice_index_or}
use Rattle.std.specs.Global.{Global}
use Rattle.std.proofs.Common.{sym, subst, ap, ◌∙◌}
use Rattle.std.specs.List.{All, Contains}
use Rattle.std.proofs.lemmas.List.{map-append}
use Rattle.std.proofs.lemmas.List.Elements.{All-nil, All-cons, All-contains, Contains-get_or}
use Rattle.data_theory.specs.IdTerms.{sort_under}
use Rattle.data_theory.specs.IdTrees.{Tree}
use Rattle.data_theory.specs.Provable.{Equation}
use Rattle.data_theory.specs.Signature.{Sig}
use Rattle.data_theory.specs.Terms.{Sort, Term}
use Rattle.data_theory.specs.WholeSignatures.{IsSignature}
use Rattle.data_theory.specs.declared.ids.SortId.{SortId}
use Rattle.data_theory.specs.declared.ids.TermId.{TermId}
use Rattle.data_theory.specs.declared.ids.VarId.{VarId}
use Rattle.term_pool.specs.Pools.{Extends}
use Rattle.data_rewriter.specs.Standing.{term_at}
use Rattle.process_terms.specs.Communication.{equalities}
use Rattle.process_terms.specs.Labels.{Label}
use Rattle.process_terms.specs.Meanings.{label_of}
use Rattle.process_terms.specs.SignatureEntries.{entries_of}
use Rattle.bisim_laws.specs.LinearProcesses.{Linear, sorts}
use Rattle.lps_core.specs.Fitting.{sort_of_variable, Fits}
use Rattle.lps_core.specs.PlainLinears.{PlainLinear, plain_next}
use Rattle.lps_core.proofs.Members.{all_at, map_contains}
use Rattle.lps_core.proofs.Staying.{sorts_of_variables}
use Rattle.lps_simulator.specs.declared.options.Move.{Move}
use Rattle.lps_simulator.specs.Options.{TermMove}
use Rattle.lps_simulator.specs.OptionsInCode.{PlainMove, IsMove, IsState, meant_move, plain_move, terms_at}
use Rattle.lps_simulator.proofs.FittingSummands.{label_stays, moves_mean}
use Rattle.trace_replay.specs.declared.deciding.Answer.{Answer as CodeAnswer}
use Rattle.trace_replay.specs.DecidedConditions.{answer_of}
use Rattle.trace_replay.specs.Decidings.{Answer, hold, fail, ComeOut, all_hold}
use Rattle.trace_replay.specs.Settings.{Setting}
use Rattle.trace_replay.proofs.EqualityTerms.{terms_meant}
use Rattle.aut_check.specs.Comparing.{setting, AreClosed, AreMoveRows, EdgeComesWith, IsMoveRow, NextComes, end_alike, one_ended, PairComes}
use Rattle.aut_check.specs.Matching.{EndAlike, both_ended, neither_ended}
use Rattle.aut_check.specs.PlainSystems.{PlainEdge, PlainSystem, IsEdge, IsSystem, meant_state}
use Rattle.aut_check.specs.Systems.{FileState}
use Rattle.aut_check.specs.Tables.{answers_of, tables_of}
use Rattle.aut_check.specs.Verdicts.{sorts_in}
use Rattle.aut_check.proofs.ClosedTerms.{state_closed}
use Rattle.aut_check.proofs.RunningStates.{same_state}
use Rattle.aut_check.proofs.SettledStates.{linear_means, state_means}
use Rattle.aut_check.proofs.TableLaws.{taken, zip_push}

pub move_in : (g : Sig) (ts : List Tree) (ps : List VarId) (moves : List Move) (k : ℕ) (m : Move) → k < length moves → m ≡ slice_index_or moves k m → All (IsMove g ts ps) (map plain_move moves) → IsMove g ts ps (plain_move m)
move_in g ts ps moves k m l e h = All-contains (IsMove g ts ps) (map plain_move moves) (plain_move m) h (map_contains plain_move moves m (subst (λ (z : Move). Contains moves z) (sym e) (Contains-get_or moves k m l)))

-- ---- next states in code
module _ (s : Setting) (ts : List Tree) (ss : List Sort) (next state : Option (Vec TermId Global)) where
  abbrev next_terms : Option (List Term)
  next_terms = option_map (terms_at s.signature ts) (plain_next next)

  abbrev state_terms : FileState
  state_terms = meant_state s.signature ts (plain_next state)

  pub next_ended : next ≡ None → state ≡ None → NextComes s ss next_terms state_terms hold
  next_ended e f =
      subst (λ (z : Option (Vec TermId Global)). NextComes s ss (option_map (terms_at s.signature ts) (plain_next z)) state_terms hold) (sym e)
      (subst (λ (z : Option (Vec TermId Global)). NextComes s ss None (meant_state s.signature ts (plain_next z)) hold) (sym f) (end_alike both_ended (all_hold tt)))

  pub state_goes_on : (us : Vec TermId Global) → next ≡ None → state ≡ Some us → NextComes s ss next_terms state_terms fail
  state_goes_on us e f =
      subst (λ (z : Option (Vec TermId Global)). NextComes s ss (option_map (terms_at s.signature ts) (plain_next z)) state_terms fail) (sym e)
      (subst (λ (z : Option (Vec TermId Global)). NextComes s ss None (meant_state s.signature ts (plain_next z)) fail) (sym f) (one_ended never))
    where
      never : EndAlike None (Some (terms_at s.signature ts us.items)) → ⊥
      never h = elim h [ ]

  pub next_goes_on : (us : Vec TermId Global) → next ≡ Some us → state ≡ None → NextComes s ss next_terms state_terms fail
  next_goes_on us e f =
      subst (λ (z : Option (Vec TermId Global)). NextComes s ss (option_map (terms_at s.signature ts) (plain_next z)) state_terms fail) (sym e)
      (subst (λ (z : Option (Vec TermId Global)). NextComes s ss (Some (terms_at s.signature ts us.items)) (meant_state s.signature ts (plain_next z)) fail) (sym f) (one_ended never))
    where
      never : EndAlike (Some (terms_at s.signature ts us.items)) None → ⊥
      never h = elim h [ ]

  pub both_go_on : (us vs : Vec TermId Global) → next ≡ Some us → state ≡ Some vs → (a : Answer) → ComeOut s (equalities ss (terms_at s.signature ts us.items) (terms_at s.signature ts vs.items)) a → NextComes s ss next_terms state_terms a
  both_go_on us vs e f a c =
      subst (λ (z : Option (Vec TermId Global)). NextComes s ss (option_map (terms_at s.signature ts) (plain_next z)) state_terms a) (sym e)
      (subst (λ (z : Option (Vec TermId Global)). NextComes s ss (Some (terms_at s.signature ts us.items)) (meant_state s.signature ts (plain_next z)) a) (sym f) (end_alike neither_ended c))

-- the terms of states, as they are decided
pub states_decided : (s : Setting) (ts : List Tree) (l : PlainLinear) → Fits s.signature ts l → (ss : List SortId) (xs ys : List TermId) → ss ≡ map (sort_of_variable s.signature) l.params → AreClosed s.signature ts ss xs → AreClosed s.signature ts ss ys → (a : Answer)
    → ComeOut s (equalities (map (sort_under s.signature) ss) (map (term_at s.signature ts) xs) (map (term_at s.signature ts) ys)) a → ComeOut s (equalities (sorts_in s ts l) (terms_at s.signature ts xs) (terms_at s.signature ts ys)) a
states_decided s ts l fits ss xs ys e h k a c =
    subst (λ (z : List Term). ComeOut s (equalities (sorts_in s ts l) (terms_at s.signature ts xs) z) a) (terms_meant s.signature ts ys k.over)
    (subst (λ (z : List Term). ComeOut s (equalities (sorts_in s ts l) z (map (term_at s.signature ts) ys)) a) (terms_meant s.signature ts xs h.over)
    (subst (λ (z : List Sort). ComeOut s (equalities z (map (term_at s.signature ts) xs) (map (term_at s.signature ts) ys)) a) (ap (map (sort_under s.signature)) e ∙ sym (sorts_of_variables s.signature ts l.params fits.params)) c))

-- of slices in code
pub terms_decided : (s : Setting) → IsSignature s.signature → (ts : List Tree) (l : PlainLinear) → Fits s.signature ts l → (ss : List SortId) (xs ys us vs : List TermId) → ss ≡ map (sort_of_variable s.signature) l.params → xs ≡ us → ys ≡ vs → IsState s.signature ts l.params us → IsState s.signature ts l.params vs → (a : Answer)
    → ComeOut s (equalities (map (sort_under s.signature) ss) (map (term_at s.signature ts) xs) (map (term_at s.signature ts) ys)) a → ComeOut s (equalities (sorts_in s ts l) (terms_at s.signature ts us) (terms_at s.signature ts vs)) a
terms_decided s stands ts l fits ss xs ys us vs e f q h k a c =
    states_decided s ts l fits ss us vs e (state_closed s.signature stands ts l.params ss us fits.params e h) (state_closed s.signature stands ts l.params ss vs fits.params e k) a
    (subst (λ (z : List TermId). ComeOut s (equalities (map (sort_under s.signature) ss) (map (term_at s.signature ts) us) (map (term_at s.signature ts) z)) a) q
    (subst (λ (z : List TermId). ComeOut s (equalities (map (sort_under s.signature) ss) (map (term_at s.signature ts) z) (map (term_at s.signature ts) ys)) a) f c))

-- ---- as the pool grows
module _ (g : Sig) (stands : IsSignature g) (own : List Equation) (fuel : ℕ) (ts us : List Tree) (grows : Extends ts us) (l : PlainLinear) (fits : Fits g ts l) where
  sorts_mean : sorts_in (setting g own fuel) us l ≡ sorts_in (setting g own fuel) ts l
  sorts_mean = ap (λ (z : Linear). sorts z.params) (linear_means g stands ts us grows l fits)

  pub next_settled : (next state : Option (List TermId)) → IfSome next (IsState g ts l.params) → IfSome state (IsState g ts l.params) → (a : Answer)
      → NextComes (setting g own fuel) (sorts_in (setting g own fuel) us l) (option_map (terms_at g us) next) (meant_state g us state) a → NextComes (setting g own fuel) (sorts_in (setting g own fuel) ts l) (option_map (terms_at g ts) next) (meant_state g ts state) a
  next_settled next state h k a c =
      let s : Setting = setting g own fuel in
      subst (λ (z : FileState). NextComes s (sorts_in s ts l) (option_map (terms_at g ts) next) z a) (state_means g stands ts us grows l.params state k)
      (subst (λ (z : Option (List Term)). NextComes s (sorts_in s ts l) z (meant_state g us state) a) (state_means g stands ts us grows l.params next h)
      (subst (λ (z : List Sort). NextComes s z (option_map (terms_at g us) next) (meant_state g us state) a) sorts_mean c))

  move_means : (m : PlainMove) → IsMove g ts l.params m → meant_move g us m ≡ meant_move g ts m
  move_means m st = head_of (moves_mean g ts us grows l.params (m ∷ []) (All-cons (IsMove g ts l.params) m [] st (All-nil (IsMove g ts l.params))))
    where
      head_of : {x y : TermMove} → x ∷ [] ≡ y ∷ [] → x ≡ y
      head_of q = cc

  pair_settled : (count : ℕ) (m : PlainMove) (e : PlainEdge) (o : Option (List TermId)) → IsMove g ts l.params m → IsEdge g ts count e → IfSome o (IsState g ts l.params) → (a : Answer)
      → PairComes (setting g own fuel) (sorts_in (setting g own fuel) us l) (meant_move g us m) (label_of (entries_of g us) e.label) (meant_state g us o) a
      → PairComes (setting g own fuel) (sorts_in (setting g own fuel) ts l) (meant_move g ts m) (label_of (entries_of g ts) e.label) (meant_state g ts o) a
  pair_settled count m e o h k st a c =
      let s : Setting = setting g own fuel in
      subst (λ (z : FileState). PairComes s (sorts_in s ts l) (meant_move g ts m) (label_of (entries_of g ts) e.label) z a) (state_means g stands ts us grows l.params o st)
      (subst (λ (z : Label). PairComes s (sorts_in s ts l) (meant_move g ts m) z (meant_state g us o) a) (label_stays g ts us grows e.label k.label)
      (subst (λ (z : TermMove). PairComes s (sorts_in s ts l) z (label_of (entries_of g us) e.label) (meant_state g us o) a) (move_means m h)
      (subst (λ (z : List Sort). PairComes s z (meant_move g us m) (label_of (entries_of g us) e.label) (meant_state g us o) a) sorts_mean c)))

  module _ (f : PlainSystem) (system : IsSystem g ts l.params f) where
    state_at : (k : ℕ) (o : Option (List TermId)) → slice_get f.states k ≡ Some o → IfSome o (IsState g ts l.params)
    state_at k o at = all_at (λ (q : Option (List TermId)). IfSome q (IsState g ts l.params)) f.states k o system.states at

    edge_at : (k : ℕ) (e : PlainEdge) → slice_get f.edges k ≡ Some e → IsEdge g ts (length f.states) e
    edge_at k e at = all_at (IsEdge g ts (length f.states)) f.edges k e system.edges at

    -- one edge more
    pub edge_turn : (m : PlainMove) → IsMove g ts l.params m → (numbers later : List ℕ) (k : ℕ) → later ≡ numbers ++ k ∷ [] → (e : PlainEdge) (o : Option (List TermId)) → slice_get f.edges k ≡ Some e → slice_get f.states e.to ≡ Some o → (row new : List CodeAnswer) (a : CodeAnswer) → new ≡ row ++ a ∷ []
        → IsMoveRow (setting g own fuel) (sorts_in (setting g own fuel) ts l) ts f numbers (meant_move g ts m) (answers_of row)
        → PairComes (setting g own fuel) (sorts_in (setting g own fuel) us l) (meant_move g us m) (label_of (entries_of g us) e.label) (meant_state g us o) (answer_of a)
        → IsMoveRow (setting g own fuel) (sorts_in (setting g own fuel) ts l) ts f later (meant_move g ts m) (answers_of new)
    edge_turn m h numbers later k longer e o at there row new a pushed so_far c =
        let s : Setting = setting g own fuel in
        subst (λ (z : List Answer). IsMoveRow s (sorts_in s ts l) ts f later (meant_move g ts m) z) (sym (ap answers_of pushed ∙ map-append answer_of row (a ∷ [])))
        (subst (λ (z : List ℕ). IsMoveRow s (sorts_in s ts l) ts f z (meant_move g ts m) (answers_of row ++ answer_of a ∷ [])) (sym longer)
        (zip_push (EdgeComesWith s (sorts_in s ts l) ts f (meant_move g ts m)) numbers (answers_of row) k (answer_of a) so_far (λ d q d_at q_there. one d q d_at q_there)))
      where
        here : PairComes (setting g own fuel) (sorts_in (setting g own fuel) ts l) (meant_move g ts m) (label_of (entries_of g ts) e.label) (meant_state g ts o) (answer_of a)
        here = pair_settled (length f.states) m e o h (edge_at k e at) (state_at e.to o there) (answer_of a) c

        one : (d : PlainEdge) (q : Option (List TermId)) → slice_get f.edges k ≡ Some d → slice_get f.states d.to ≡ Some q
            → PairComes (setting g own fuel) (sorts_in (setting g own fuel) ts l) (meant_move g ts m) (label_of (entries_of g ts) d.label) (meant_state g ts q) (answer_of a)
        one d q d_at q_there =
            let s : Setting = setting g own fuel in
            let same : e ≡ d = same_state (slice_get f.edges k) at d_at in
            let same_to : o ≡ q = same_state (slice_get f.states d.to) (subst (λ (z : PlainEdge). slice_get f.states z.to ≡ Some o) same there) q_there in
            subst (λ (z : Option (List TermId)). PairComes s (sorts_in s ts l) (meant_move g ts m) (label_of (entries_of g ts) d.label) (meant_state g ts z) (answer_of a)) same_to
            (subst (λ (z : PlainEdge). PairComes s (sorts_in s ts l) (meant_move g ts m) (label_of (entries_of g ts) z.label) (meant_state g ts o) (answer_of a)) same here)

    row_settled : (m : PlainMove) → IsMove g ts l.params m → (numbers : List ℕ) (row : List Answer) → IsMoveRow (setting g own fuel) (sorts_in (setting g own fuel) us l) us f numbers (meant_move g us m) row
        → IsMoveRow (setting g own fuel) (sorts_in (setting g own fuel) ts l) ts f numbers (meant_move g ts m) row
    row_settled m h [] [] c = tt
    row_settled m h [] (a ∷ row) c = absurd c
    row_settled m h (k ∷ numbers) [] c = absurd c
    row_settled m h (k ∷ numbers) (a ∷ row) c = (λ e o at there. pair_settled (length f.states) m e o h (edge_at k e at) (state_at e.to o there) a (c.0 e o at there), row_settled m h numbers row c.1)

    -- one move more
    pub move_turn : (numbers : List ℕ) (moves : List Move) (i : ℕ) (m : Move) → i < length moves → m ≡ slice_index_or moves i m → IsMove g ts l.params (plain_move m) → (rows new : List (Vec CodeAnswer Global)) (row : Vec CodeAnswer Global) → new ≡ rows ++ row ∷ []
        → AreMoveRows (setting g own fuel) (sorts_in (setting g own fuel) ts l) ts f numbers (map (meant_move g ts) (map plain_move (take i moves))) (tables_of rows)
        → IsMoveRow (setting g own fuel) (sorts_in (setting g own fuel) us l) us f numbers (meant_move g us (plain_move m)) (answers_of row.items)
        → AreMoveRows (setting g own fuel) (sorts_in (setting g own fuel) ts l) ts f numbers (map (meant_move g ts) (map plain_move (take (i + 1) moves))) (tables_of new)
    move_turn numbers moves i m inside is h rows new row pushed so_far c =
        let s : Setting = setting g own fuel in
        subst (λ (z : List (List Answer)). AreMoveRows s (sorts_in s ts l) ts f numbers (map (meant_move g ts) (map plain_move (take (i + 1) moves))) z) (sym (ap tables_of pushed ∙ map-append (λ (v : Vec CodeAnswer Global). answers_of v.items) rows (row ∷ [])))
        (subst (λ (z : List TermMove). AreMoveRows s (sorts_in s ts l) ts f numbers z (tables_of rows ++ answers_of row.items ∷ [])) (sym (ap (map (meant_move g ts)) (taken plain_move moves i m inside is) ∙ map-append (meant_move g ts) (map plain_move (take i moves)) (plain_move m ∷ [])))
        (zip_push (IsMoveRow s (sorts_in s ts l) ts f numbers) (map (meant_move g ts) (map plain_move (take i moves))) (tables_of rows) (meant_move g ts (plain_move m)) (answers_of row.items) so_far (row_settled (plain_move m) h numbers (answers_of row.items) c)))
