-- One way after another, and one state after another.
use Rattle.std.specs.Prelude.{◌≡◌, ◌<◌, ◌≤◌, ◌+◌, ◌⊎◌, ◌↔◌, ◌||◌, ◌++◌, ℕ, Bool, true, false, List, [], ◌∷◌, map, length, take, get_or, cond, Option, Some, None, Vec, slice_get}
use Rattle.std.specs.Global.{Global}
use Rattle.std.proofs.Common.{refl, sym, subst, ap, ap₂, ◌∙◌, inl, inr, ⊎_elim, arith}
use Rattle.std.specs.List.{All, Contains}
use Rattle.std.proofs.lemmas.List.{map-append, take_more, take_all, get_or_default, length-map}
use Rattle.std.proofs.lemmas.List.Elements.{All-contains, All-get_or, Contains-append_cases, Contains-append_left, Contains-push_cases, Contains-push, Contains-get_or}
use Rattle.std.proofs.lemmas.Option.{slice_get_within, get_or_from_slice_get, slice_get-get_or}
use Rattle.bisim_laws.proofs.Firing.{contains_first, contains_cases, contains_none}
use Rattle.data_theory.specs.declared.ids.TermId.{TermId}
use Rattle.data_theory.specs.IdData.{data_meant}
use Rattle.data_theory.specs.IdTrees.{Tree}
use Rattle.data_theory.specs.Provable.{Equation}
use Rattle.data_theory.specs.Signature.{Sig}
use Rattle.data_theory.specs.Terms.{Term}
use Rattle.data_theory.specs.WholeSignatures.{IsSignature}
use Rattle.term_pool.specs.Pools.{Extends}
use Rattle.data_rewriter.specs.Standing.{IsTerm, term_at}
use Rattle.process_terms.specs.Labels.{Label}
use Rattle.process_terms.specs.SignatureEntries.{entries_of}
use Rattle.bisim_laws.specs.LinearProcesses.{Summand, Linear}
use Rattle.lps_core.specs.declared.linears.Summand.{Summand as CodeSummand}
use Rattle.lps_core.specs.Fitting.{Fits, SummandFits}
use Rattle.lps_core.specs.PlainLinears.{PlainSummand, PlainLinear, plain_summand, linear_of, summand_of}
use Rattle.lps_core.proofs.Members.{all_from, map_contains, contains_map}
use Rattle.lps_core.proofs.Staying.{read_mapped, what_fits_stays, summand_stays}
use Rattle.lps_core.proofs.PoolTrees.{extends_on}
use Rattle.lps_simulator.specs.Combinations.{combinations}
use Rattle.lps_simulator.specs.SumValues.{AreSumValues}
use Rattle.lps_simulator.proofs.Bindings.{terms_stay}
use Rattle.lps_simulator.proofs.TriedSummands.{both_grow}
use Rattle.trace_replay.specs.declared.states.States.{States}
use Rattle.trace_replay.specs.declared.ways.Way.{Way}
use Rattle.trace_replay.specs.Settings.{Setting}
use Rattle.trace_replay.specs.Pairings.{IsClosedLabel}
use Rattle.trace_replay.specs.Replays.{State, LeadTo}
use Rattle.trace_replay.specs.Attempts.{Attempt, OfCombinations, OfSummand, AreTried}
use Rattle.trace_replay.specs.DecidedConditions.{setting}
use Rattle.trace_replay.specs.States.{running, ended_state, plain_states, meant_state, meant_states, StateStands, StatesStand}
use Rattle.trace_replay.specs.Ways.{PlainWay, plain_way, no_summand, summand_at, AreWays, OfWays, InStates, WayStands}
use Rattle.trace_replay.proofs.Attempted.{tried_none, tried_both, tried_as}
use Rattle.trace_replay.proofs.LabelLeads.{label_leads}
use Rattle.trace_replay.proofs.ListedCombinations.{summand_tried}
use Rattle.trace_replay.proofs.StateLemmas.{states_kept, terms_kept}

-- ---- as the pool grows
pub linear_kept : (g : Sig) → IsSignature g → (ts us : List Tree) (l : PlainLinear) → Extends ts us → Fits g ts l → linear_of (entries_of g us) l ≡ linear_of (entries_of g ts) l
linear_kept g stands ts us l e fits = (what_fits_stays g g ts us l stands.table stands.complete (both_grow g ts us e) fits).0

pub summand_kept : (g : Sig) → IsSignature g → (ts us : List Tree) (l : PlainLinear) (s : PlainSummand) → Extends ts us → Fits g ts l → Contains l.summands s → summand_of (entries_of g us) s ≡ summand_of (entries_of g ts) s
summand_kept g stands ts us l s e fits among = summand_stays g g ts us stands.table stands.complete (both_grow g ts us e) l.params s (All-contains (SummandFits g ts l.params) l.summands s fits.summands among)

pub summand_as : (s : Setting) (l k : Linear) (a b : Summand) (ts us cs ds : List Term) (old new : List State) (d : Bool) → l ≡ k → a ≡ b → ts ≡ us → cs ≡ ds → AreTried s (OfSummand s l a ts cs) old new d → AreTried s (OfSummand s k b us ds) old new d
summand_as s l k a b ts us cs ds old new d e q r t h =
    subst (λ (z : Linear). AreTried s (OfSummand s z b us ds) old new d) e
    (subst (λ (z : Summand). AreTried s (OfSummand s l z us ds) old new d) q
    (subst (λ (z : List Term). AreTried s (OfSummand s l a z ds) old new d) r
    (subst (λ (z : List Term). AreTried s (OfSummand s l a ts z) old new d) t h)))

-- ---- ways
pub ways_none : (g : Sig) (ts : List Tree) (s : Setting) (l : Linear) (state : List Term) (os : List State) → AreTried s (OfWays g ts s l state []) os os false
ways_none g ts s l state os = tried_none s (OfWays g ts s l state []) os (λ a c. contains_none c.0 c.1.0)

pub ways_one_more : (g : Sig) (ts : List Tree) (s : Setting) (l : Linear) (state : List Term) (ws : List PlainWay) (w : PlainWay) (old mid new : List State) (c d : Bool) → AreTried s (OfWays g ts s l state ws) old mid c
    → AreTried s (OfSummand s l (summand_at l w.summand) state (map (term_at g ts) w.conditions)) mid new d → AreTried s (OfWays g ts s l state (ws ++ w ∷ [])) old new (c || d)
ways_one_more g ts s l state ws w old mid new c d h k =
    tried_both s (OfWays g ts s l state (ws ++ w ∷ [])) (OfWays g ts s l state ws) (OfSummand s l (summand_at l w.summand) state (map (term_at g ts) w.conditions)) old mid new c d
    (λ a i. ⊎_elim (λ j. inl (i.0, (j, i.1.1))) (λ e. inr (subst (λ (z : PlainWay). OfSummand s l (summand_at l z.summand) state (map (term_at g ts) z.conditions) a) (sym e) i.1.1)) (Contains-push_cases ws w i.0 i.1.0))
    (λ a i. (i.0, (Contains-append_left ws (w ∷ []) i.0 i.1.0, i.1.1)))
    (λ a i. (w, (Contains-push ws w, i)))
    h k

pub ways_as : (g : Sig) (ts us : List Tree) (s : Setting) (l k : Linear) (state other : List Term) (ws : List PlainWay) (old new : List State) (d : Bool) → Extends ts us → ((w : PlainWay) → Contains ws w → All (IsTerm g ts) w.conditions) → k ≡ l → other ≡ state
    → AreTried s (OfWays g us s k other ws) old new d → AreTried s (OfWays g ts s l state ws) old new d
ways_as g ts us s l k state other ws old new d grows over e q h =
    tried_as s (OfWays g us s l state ws) (OfWays g ts s l state ws) old new d
    (λ a i. (i.0, (i.1.0, subst (λ (cs : List Term). OfSummand s l (summand_at l i.0.summand) state cs a) (terms_kept g ts us grows i.0.conditions (over i.0 i.1.0)) i.1.1)))
    (λ a i. (i.0, (i.1.0, subst (λ (cs : List Term). OfSummand s l (summand_at l i.0.summand) state cs a) (sym (terms_kept g ts us grows i.0.conditions (over i.0 i.1.0))) i.1.1)))
    (subst (λ (z : Linear). AreTried s (OfWays g us s z state ws) old new d) e
    (subst (λ (z : List Term). AreTried s (OfWays g us s k z ws) old new d) q h))

-- the summand of a way in code
pub summand_in : (g : Sig) (ts : List Tree) (l : PlainLinear) (summands : List CodeSummand) (i : ℕ) (a : CodeSummand) → l.summands ≡ map plain_summand summands → i < length summands → a ≡ get_or summands i a → summand_of (entries_of g ts) (plain_summand a) ≡ summand_at (linear_of (entries_of g ts) l) i
summand_in g ts l summands i a e inside is =
    sym
    (ap (λ (xs : List PlainSummand). get_or (map (summand_of (entries_of g ts)) xs) i no_summand) e
    ∙ read_mapped (summand_of (entries_of g ts)) (map plain_summand summands) i no_summand (plain_summand a) (subst (λ (n : ℕ). i < n) (sym (length-map summands plain_summand)) inside)
    ∙ ap (summand_of (entries_of g ts)) (read_mapped plain_summand summands i (plain_summand a) a inside ∙ ap plain_summand (sym is)))

-- ---- states
-- the states that go on
abbrev pub InRunning : Sig → List Tree → Setting → Linear → List (List Term) → List PlainWay → Attempt → Type 0
InRunning g ts s l states ws t = (state : List Term) × (Contains states state × OfWays g ts s l state ws t)

pub running_none : (g : Sig) (ts : List Tree) (s : Setting) (l : Linear) (ws : List PlainWay) (os : List State) → AreTried s (InRunning g ts s l [] ws) os os false
running_none g ts s l ws os = tried_none s (InRunning g ts s l [] ws) os (λ a c. contains_none c.0 c.1.0)

pub running_more : (g : Sig) (ts : List Tree) (s : Setting) (l : Linear) (states : List (List Term)) (state : List Term) (ws : List PlainWay) (old mid new : List State) (c d : Bool) → AreTried s (InRunning g ts s l states ws) old mid c
    → AreTried s (OfWays g ts s l state ws) mid new d → AreTried s (InRunning g ts s l (states ++ state ∷ []) ws) old new (c || d)
running_more g ts s l states state ws old mid new c d h k =
    tried_both s (InRunning g ts s l (states ++ state ∷ []) ws) (InRunning g ts s l states ws) (OfWays g ts s l state ws) old mid new c d
    (λ a i. ⊎_elim (λ j. inl (i.0, (j, i.1.1))) (λ e. inr (subst (λ (z : List Term). OfWays g ts s l z ws a) (sym e) i.1.1)) (Contains-push_cases states state i.0 i.1.0))
    (λ a i. (i.0, (Contains-append_left states (state ∷ []) i.0 i.1.0, i.1.1)))
    (λ a i. (state, (Contains-push states state, i)))
    h k

same_some : {A : Type 0} {x y : A} → Some x ≡ Some y → x ≡ y
same_some e = cc e

end_is_none : (ended : Bool) (ids : List TermId) → Contains (ended_state ended) (Some ids) → ⊥
end_is_none true ids c = ⊎_elim (λ e. let q : None ≡ Some ids = e in absurd (cc q)) (λ i. contains_none (Some ids) i) (contains_cases None (Some ids) [] c)
end_is_none false ids c = contains_none (Some ids) c

goes_on : (states : States) (ids : List TermId) → Contains (plain_states states) (Some ids) → Contains (running states) ids
goes_on states ids c = ⊎_elim
    (λ i. let r = contains_map (λ (z : List TermId). Some z) (running states) (Some ids) i in subst (Contains (running states)) (sym (same_some r.1.1)) r.1.0)
    (λ i. absurd (end_is_none states.ended ids i))
    (Contains-append_cases (map (λ (z : List TermId). Some z) (running states)) (ended_state states.ended) (Some ids) c)

state_goes_on : (g : Sig) (ts : List Tree) (states : States) (state : List Term) (o : Option (List TermId)) → Contains (plain_states states) o → Some state ≡ meant_state g ts o → Contains (map (map (term_at g ts)) (running states)) state
state_goes_on g ts states state None c e = absurd (cc e)
state_goes_on g ts states state (Some ids) c e = subst (Contains (map (map (term_at g ts)) (running states))) (sym (same_some e)) (map_contains (map (term_at g ts)) (running states) ids (goes_on states ids c))

pub all_states_tried : (g : Sig) (ts us : List Tree) (s : Setting) (l : Linear) (states : States) (ws : List PlainWay) (old new : List State) (d : Bool) → AreTried s (InRunning g us s l (map (map (term_at g ts)) (running states)) ws) old new d
    → AreTried s (InStates g us s l (meant_states g ts states) ws) old new d
all_states_tried g ts us s l states ws old new d h =
    tried_as s (InRunning g us s l (map (map (term_at g ts)) (running states)) ws) (InStates g us s l (meant_states g ts states) ws) old new d
    (λ a i.
    let r = contains_map (map (term_at g ts)) (running states) i.0 i.1.0 in (
      i.0,
      (
        subst (λ (z : List Term). Contains (meant_states g ts states) (Some z)) (sym r.1.1)
            (map_contains (meant_state g ts) (plain_states states) (Some r.0)
            (Contains-append_left (map (λ (z : List TermId). Some z) (running states)) (ended_state states.ended) (Some r.0) (map_contains (λ (z : List TermId). Some z) (running states) r.0 r.1.0))),
        i.1.1,
      ),
    ))
    (λ a i. let r = contains_map (meant_state g ts) (plain_states states) (Some i.0) i.1.0 in (i.0, (state_goes_on g ts states i.0 r.0 r.1.0 r.1.1, i.1.1)))
    h

-- the state at an index
pub state_stands : (g : Sig) (ts : List Tree) (states : States) (i : ℕ) (k : Vec TermId Global) → slice_get states.running.keys i ≡ Some k → StatesStand g ts states → All (IsTerm g ts) k.items
state_stands g ts states i k e h =
    All-contains (StateStands g ts) (plain_states states) (Some k.items) h
    (Contains-append_left (map (λ (z : List TermId). Some z) (running states)) (ended_state states.ended) (Some k.items)
    (map_contains (λ (z : List TermId). Some z) (running states) k.items
    (map_contains (λ (v : Vec TermId Global). v.items) states.running.keys k (i, slice_get_within states.running.keys i k e, get_or_from_slice_get states.running.keys i k k e))))

pub running_taken : (states : States) (i : ℕ) (k : Vec TermId Global) → slice_get states.running.keys i ≡ Some k → take i (running states) ++ k.items ∷ [] ≡ take (i + 1) (running states)
running_taken states i k e =
    let inside : i < length states.running.keys = slice_get_within states.running.keys i k e in
    let here : get_or (running states) i k.items ≡ k.items = read_mapped (λ (v : Vec TermId Global). v.items) states.running.keys i k.items k inside ∙ ap (λ (v : Vec TermId Global). v.items) (get_or_from_slice_get states.running.keys i k k e) in
    ap (λ (z : List TermId). take i (running states) ++ z ∷ []) (sym here)
    ∙ sym (take_more (running states) i k.items (subst (λ (n : ℕ). i < n) (sym (length-map states.running.keys (λ (v : Vec TermId Global). v.items))) inside))

-- ---- in code
-- the way at an index
pub way_stands : (g : Sig) (ts : List Tree) (summands : List CodeSummand) (ways : List Way) (i : ℕ) (w : Way) → i < length ways → w ≡ get_or ways i w → All (WayStands g ts (length summands)) (map plain_way ways) → WayStands g ts (length summands) (plain_way w)
way_stands g ts summands ways i w inside is stand =
    All-contains (WayStands g ts (length summands)) (map plain_way ways) (plain_way w) stand (map_contains plain_way ways w (subst (λ (z : Way). Contains ways z) (sym is) (Contains-get_or ways i w inside)))

ways_taken : (ways : List Way) (i : ℕ) (w : Way) → i < length ways → w ≡ get_or ways i w → map plain_way (take i ways) ++ plain_way w ∷ [] ≡ map plain_way (take (i + 1) ways)
ways_taken ways i w inside is =
    sym (map-append plain_way (take i ways) (w ∷ []))
    ∙ ap (map plain_way) (ap (λ (z : Way). take i ways ++ z ∷ []) is ∙ sym (take_more ways i w inside))

-- a summand, whose sums are listed first
pub summand_turn : (g : Sig) → IsSignature g → (own : List Equation) (fuel bound : ℕ) (ts us : List Tree) → Extends ts us → (l : PlainLinear) → Fits g ts l → (s : PlainSummand) → Contains l.summands s → (conditions : List TermId) → All (IsTerm g ts) conditions → (state : List TermId) → All (IsTerm g ts) state
    → (lists : List (List TermId)) (cut : Bool) → AreSumValues g bound us s.sums lists cut → (to : States) → StatesStand g ts to → (new : List State) (unsure after : Bool) → after ≡ (cut || unsure)
    → AreTried (setting g own fuel bound) (OfCombinations (linear_of (entries_of g us) l) (summand_of (entries_of g us) s) (map (term_at g us) state) (map (term_at g us) conditions) (map (map (term_at g us)) (combinations lists))) (meant_states g us to) new unsure
    → AreTried (setting g own fuel bound) (OfSummand (setting g own fuel bound) (linear_of (entries_of g ts) l) (summand_of (entries_of g ts) s) (map (term_at g ts) state) (map (term_at g ts) conditions)) (meant_states g ts to) new after
summand_turn g stands own fuel bound ts us grows l fits s among conditions over state state_over lists cut values to stand new unsure after is h =
    let q : Setting = setting g own fuel bound in
    let all : AreTried q (OfSummand q (linear_of (entries_of g us) l) (summand_of (entries_of g us) s) (map (term_at g us) state) (map (term_at g us) conditions)) (meant_states g us to) new (cut || unsure) =
    summand_tried g own fuel bound (entries_of g us) s.sums us lists cut values (linear_of (entries_of g us) l) (summand_of (entries_of g us) s) (map (term_at g us) state) (map (term_at g us) conditions) refl (meant_states g us to) new unsure h in
    summand_as q (linear_of (entries_of g us) l) (linear_of (entries_of g ts) l) (summand_of (entries_of g us) s) (summand_of (entries_of g ts) s) (map (term_at g us) state) (map (term_at g ts) state) (map (term_at g us) conditions) (map (term_at g ts) conditions) (meant_states g ts to) new after
    (linear_kept g stands ts us l grows fits)
    (summand_kept g stands ts us l s grows fits among)
    (terms_kept g ts us grows state state_over)
    (terms_kept g ts us grows conditions over)
    (subst (λ (d : Bool). AreTried q (OfSummand q (linear_of (entries_of g us) l) (summand_of (entries_of g us) s) (map (term_at g us) state) (map (term_at g us) conditions)) (meant_states g ts to) new d) (sym is)
    (subst (λ (os : List State). AreTried q (OfSummand q (linear_of (entries_of g us) l) (summand_of (entries_of g us) s) (map (term_at g us) state) (map (term_at g us) conditions)) os new (cut || unsure)) (states_kept g ts us grows to stand) all))

-- one way more: it is tried over a later pool
pub way_turn : (g : Sig) → IsSignature g → (own : List Equation) (fuel bound : ℕ) (ts us : List Tree) → Extends ts us → (l : PlainLinear) → Fits g ts l → (summands : List CodeSummand) → l.summands ≡ map plain_summand summands → (state : List TermId) → All (IsTerm g ts) state → (ways : List Way) (i : ℕ) (w : Way) → i < length ways → w ≡ get_or ways i w
    → All (WayStands g ts (length summands)) (map plain_way ways) → (a : CodeSummand) → a ≡ get_or summands w.summand a → (old mid new : List State) (before unsure after : Bool) → after ≡ (before || unsure)
    → AreTried (setting g own fuel bound) (OfWays g ts (setting g own fuel bound) (linear_of (entries_of g ts) l) (map (term_at g ts) state) (map plain_way (take i ways))) old mid before
    → AreTried (setting g own fuel bound) (OfSummand (setting g own fuel bound) (linear_of (entries_of g us) l) (summand_of (entries_of g us) (plain_summand a)) (map (term_at g us) state) (map (term_at g us) w.conditions.items)) mid new unsure
    → AreTried (setting g own fuel bound) (OfWays g ts (setting g own fuel bound) (linear_of (entries_of g ts) l) (map (term_at g ts) state) (map plain_way (take (i + 1) ways))) old new after
way_turn g stands own fuel bound ts us grows l fits summands same state state_over ways i w inside is stand a at old mid new before unsure after d h k =
    let q : Setting = setting g own fuel bound in
    let L : Linear = linear_of (entries_of g ts) l in
    let ok : WayStands g ts (length summands) (plain_way w) = way_stands g ts summands ways i w inside is stand in
    let here : summand_of (entries_of g us) (plain_summand a) ≡ summand_at L w.summand =
    summand_in g us l summands w.summand a same ok.number at ∙ ap (λ (z : Linear). summand_at z w.summand) (linear_kept g stands ts us l grows fits) in
    let one : AreTried q (OfSummand q L (summand_at L w.summand) (map (term_at g ts) state) (map (term_at g ts) w.conditions.items)) mid new unsure =
    summand_as q (linear_of (entries_of g us) l) L (summand_of (entries_of g us) (plain_summand a)) (summand_at L w.summand) (map (term_at g us) state) (map (term_at g ts) state) (map (term_at g us) w.conditions.items) (map (term_at g ts) w.conditions.items) mid new unsure
    (linear_kept g stands ts us l grows fits) here (terms_kept g ts us grows state state_over) (terms_kept g ts us grows w.conditions.items ok.over) k in
    subst (λ (b : Bool). AreTried q (OfWays g ts q L (map (term_at g ts) state) (map plain_way (take (i + 1) ways))) old new b) (sym d)
    (subst (λ (ws : List PlainWay). AreTried q (OfWays g ts q L (map (term_at g ts) state) ws) old new (before || unsure)) (ways_taken ways i w inside is)
    (ways_one_more g ts q L (map (term_at g ts) state) (map plain_way (take i ways)) (plain_way w) old mid new before unsure h one))

-- one state more: its ways are tried over a later pool
pub state_turn : (g : Sig) → IsSignature g → (own : List Equation) (fuel bound : ℕ) (ts us vs : List Tree) → Extends ts us → Extends us vs → (l : PlainLinear) → Fits g ts l → (states : States) (i : ℕ) (key : Vec TermId Global) → slice_get states.running.keys i ≡ Some key → StatesStand g ts states → (ids : List TermId) → ids ≡ key.items
    → (ws : List PlainWay) → ((w : PlainWay) → Contains ws w → All (IsTerm g us) w.conditions) → (old mid new : List State) (before unsure after : Bool) → after ≡ (before || unsure)
    → AreTried (setting g own fuel bound) (InRunning g us (setting g own fuel bound) (linear_of (entries_of g ts) l) (map (map (term_at g ts)) (take i (running states))) ws) old mid before
    → AreTried (setting g own fuel bound) (OfWays g vs (setting g own fuel bound) (linear_of (entries_of g vs) l) (map (term_at g vs) ids) ws) mid new unsure
    → AreTried (setting g own fuel bound) (InRunning g us (setting g own fuel bound) (linear_of (entries_of g ts) l) (map (map (term_at g ts)) (take (i + 1) (running states))) ws) old new after
state_turn g stands own fuel bound ts us vs grows later l fits states i key at stand ids is ws over old mid new before unsure after d h k =
    let q : Setting = setting g own fuel bound in
    let L : Linear = linear_of (entries_of g ts) l in
    let all : Extends ts vs = extends_on ts us vs grows later in
    let state : List Term = map (term_at g ts) key.items in
    let one : AreTried q (OfWays g us q L state ws) mid new unsure =
    ways_as g us vs q L (linear_of (entries_of g vs) l) state (map (term_at g vs) ids) ws mid new unsure later over (linear_kept g stands ts vs l all fits)
    (ap (map (term_at g vs)) is ∙ terms_kept g ts vs all key.items (state_stands g ts states i key at stand)) k in
    subst (λ (b : Bool). AreTried q (InRunning g us q L (map (map (term_at g ts)) (take (i + 1) (running states))) ws) old new b) (sym d)
    (subst (λ (z : List (List Term)). AreTried q (InRunning g us q L z ws) old new (before || unsure)) (sym (map-append (map (term_at g ts)) (take i (running states)) (key.items ∷ [])) ∙ ap (map (map (term_at g ts))) (running_taken states i key at))
    (running_more g us q L (map (map (term_at g ts)) (take i (running states))) state ws old mid new before unsure h one))

-- the summand at an index is one of the process
pub summand_among : (l : PlainLinear) (summands : List CodeSummand) (i : ℕ) (a : CodeSummand) → l.summands ≡ map plain_summand summands → i < length summands → a ≡ get_or summands i a → Contains l.summands (plain_summand a)
summand_among l summands i a same inside is =
    subst (λ (xs : List PlainSummand). Contains xs (plain_summand a)) (sym same) (map_contains plain_summand summands a (subst (λ (z : CodeSummand). Contains summands z) (sym is) (Contains-get_or summands i a inside)))

pub ways_stand : (g : Sig) (ts us : List Tree) → Extends ts us → (l : Linear) (m : Label) (count : ℕ) (ws : List PlainWay) → AreWays g ts l m count ws → All (WayStands g us count) ws
ways_stand g ts us grows l m count ws h = all_from (WayStands g us count) ws (λ w c. record { number = h.number w c; over = terms_stay g ts us w.conditions grows (h.over w c) })

-- what was tried in all states says where the label leads
pub label_done : (g : Sig) (own : List Equation) (fuel bound : ℕ) (ts us : List Tree) (l : PlainLinear) (summands : List CodeSummand) → l.summands ≡ map plain_summand summands → (m : Label) → IsClosedLabel (data_meant g) m → (states : States) (ws : List PlainWay)
    → AreWays g us (linear_of (entries_of g ts) l) m (length summands) ws → (to : List State) (doubt : Bool)
    → AreTried (setting g own fuel bound) (InRunning g us (setting g own fuel bound) (linear_of (entries_of g ts) l) (map (map (term_at g ts)) (running states)) ws) [] to doubt
    → LeadTo (setting g own fuel bound) (linear_of (entries_of g ts) l) m (meant_states g ts states) to doubt
label_done g own fuel bound ts us l summands same m closed states ws ways to doubt h =
    let L : Linear = linear_of (entries_of g ts) l in
    let many : length summands ≡ length L.summands = sym (length-map summands plain_summand) ∙ ap length (sym same) ∙ sym (length-map l.summands (summand_of (entries_of g ts))) in
    label_leads g us (setting g own fuel bound) L m (meant_states g ts states) to doubt ws closed (subst (λ (n : ℕ). AreWays g us L m n ws) many ways) (all_states_tried g ts us (setting g own fuel bound) L states ws [] to doubt h)
