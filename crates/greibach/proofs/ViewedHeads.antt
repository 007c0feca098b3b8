-- What is added at a place are the heads of what stands there.
use Rattle.std.proofs.Common.{◌≡◌, ◌⊎◌, inl, inr, ⊎_elim, ℕ, suc, true, false, List, [], ◌∷◌, ◌++◌, map, get_or, Option, None, Some, refl, sym, ap, ap₂, ◌∙◌, subst, append_assoc, append-nil}
use Rattle.std.specs.Prelude.{slice_get, cond as cond_of, if◌then◌else◌}
use Rattle.std.specs.List.{AllZip, AllByRecursion, Contains}
use Rattle.std.proofs.lemmas.List.{map-append, reverse-append}
use Rattle.std.proofs.lemmas.List.Elements.{All-contains, Contains-append_left, Contains-append_right, Contains-append_cases}
use Rattle.std.proofs.lemmas.Option.{get_or_from_slice_get}
use Rattle.data_theory.specs.declared.ids.ProcId.{ProcId}
use Rattle.data_theory.specs.declared.ids.VarId.{VarId}
use Rattle.data_theory.specs.declared.ids.TermId.{TermId}
use Rattle.data_theory.specs.Terms.{Term, put}
use Rattle.data_theory.specs.Equations.{ !ᵗ◌}
use Rattle.data_theory.specs.Declarations.{Data}
use Rattle.data_theory.specs.Environments.{Environment, term_in, bound, bound_variables}
use Rattle.data_theory.proofs.EnvironmentLemmas.{contains_first, contains_later, contains_cases, contains_nothing}
use Rattle.term_pool.proofs.Lists.{contains_none, contains_cons, contains_head}
use Rattle.lps_core.proofs.Members.{contains_map, map_contains}
use Rattle.greibach.proofs.ViewPaths.{all_both}
use Rattle.process_terms.specs.PlainProcesses.{PlainAction}
use Rattle.process_terms.specs.Labels.{put_label}
use Rattle.process_terms.specs.Communication.{conjunction_of}
use Rattle.process_terms.specs.Processes.{Bound, Body, written_delta, written_act, written_choice, written_seq, written_cond, written_sum, written_call, written_merge, written_starting, written_around, seq_of}
use Rattle.process_terms.specs.Meanings.{Entries, bound_at, term_at, label_of}
use Rattle.bisim_laws.specs.LinearProcesses.{variables, reading}
use Rattle.bisim_laws.specs.BaseStates.{Piece}
use Rattle.bisim_laws.specs.LinearProcesses.{is_true}
use Rattle.lps_core.specs.Conditions.{parts as parts_of_condition, all_parts, without_true, joined}
use Rattle.lps_core.specs.TreeSummands.{numbers_of}
use Rattle.greibach.specs.PlainForms.{PlainFormSummand}
use Rattle.greibach.specs.Places.{Path, Place, whole as whole_place, Factor, factors, bodies, Text, body_of_owner, follow, factors_from, factors_at}
use Rattle.greibach.specs.Unfolding.{PlaceCall, Head, summed, guarded, followed, rest_call, onward_call, onward, HasPiece, no_rest, has_piece, HasOnwardPiece, HasPieces, Unfolds, un_delta, un_act, un_choice, un_seq, un_cond, un_sum, un_call}
use Rattle.greibach.specs.ComponentForms.{piece_from, free_in, scope_at, params_of_owner}
use Rattle.greibach.specs.MeetingOrder.{IsNumberOf, Meets, none_met, places_of, places_called}
use Rattle.greibach.specs.PlacesInCode.{PlainPart, delta, act, choice, cond, sum, call, whole, PlainPlace, PlainEntry, PlainPlaces}
use Rattle.greibach.specs.ListedVariables.{listed_variables, paired}
use Rattle.greibach.specs.OnwardCalls.{part_at, rest_at, params_of_place, entry_place, RestIsListed}
use Rattle.greibach.specs.Surroundings.{PlainAround}
use Rattle.greibach.specs.AddedHeads.{environment_of, put_in, rest_terms, first_terms, onward_terms, waiting_terms, IsCallAt, FirstIsCovered, OnwardIsCovered, IsLabelSummand, with_parts, with_sum, with_terms, AreGuarding, IsEntering, Adds, AddsEach, adds_nothing, adds_label, adds_operands, adds_branches, adds_summed, adds_entered, adds_called, adds_whole, adds_none, adds_more}
use Rattle.greibach.proofs.AddedArms.{part_is, rest_is, params_is}
use Rattle.greibach.proofs.NumberedOneByOne.{meets_then, number_stays}
use Rattle.greibach.proofs.Views.{View, IsAt, view_at, first_owner, place_of, first_factor, first_view}
use Rattle.greibach.proofs.ViewedTables.{params_of_view, RestIs, OperandsAt, last_at, more_at, PartIs, Viewed}

-- ---- a composition has the heads of its first factor
pub first_unfolds : (t : Text) (o : ℕ) (xs : List Bound) (path : Path) (b : Body) (fs : List Factor) {over : List ℕ} {env : Environment} {hs : List Head} → Unfolds t over o env (first_view o xs path b fs).path (first_view o xs path b fs).body (first_view o xs path b fs).others hs → Unfolds t over o env path b fs hs
first_unfolds t o xs path (written_seq p q) fs u = un_seq (first_unfolds t o xs (path ++ false ∷ []) p (factors (path ++ true ∷ []) q ++ fs) u)
first_unfolds t o xs path written_delta fs u = u
first_unfolds t o xs path (written_act m) fs u = u
first_unfolds t o xs path (written_choice p q) fs u = u
first_unfolds t o xs path (written_cond c p q) fs u = u
first_unfolds t o xs path (written_sum x p) fs u = u
first_unfolds t o xs path (written_call x ts) fs u = u
first_unfolds t o xs path (written_merge p q) fs u = u
first_unfolds t o xs path (written_starting start p q) fs u = u
first_unfolds t o xs path (written_around a p) fs u = u

same_some : {A : Type 0} {x y : A} → Some x ≡ Some y → x ≡ y
same_some q = cc

abbrev pub no_view : View
no_view = record { all = false; owner = 0; path = []; body = written_delta; others = []; scope = [] }

-- the place of a number
abbrev pub spot : List View → ℕ → Place
spot views n = place_of (get_or views n no_view)

pub spot_is : (views : List View) (n : ℕ) (v : View) → slice_get views n ≡ Some v → spot views n ≡ place_of v
spot_is views n v e = ap place_of (get_or_from_slice_get views n v no_view e)

abbrev pub place_call : List View → ℕ × List Term → PlaceCall
place_call views w = record { place = spot views w.0; args = w.1 }

-- an equation begins there: all of a body, or a rest
pub record BeginsEquation (views : List View) (n : ℕ) : Type 0 where
  pub view : View
  pub at : slice_get views n ≡ Some view
  pub is : (view.all ≡ true) ⊎ ((view.all ≡ false) × (view.path ≡ [] → ⊥))

-- ---- conditions
without_both : (cs ds : List Term) → without_true (cs ++ ds) ≡ without_true cs ++ without_true ds
without_both [] ds = refl
without_both (c ∷ cs) ds = elim (is_true c) as (λ b. if b then without_true (cs ++ ds) else c ∷ without_true (cs ++ ds) ≡ (if b then without_true cs else c ∷ without_true cs) ++ without_true ds) [ true ↦ without_both cs ds | false ↦ ap (λ l. c ∷ l) (without_both cs ds) ]

parts_both : (cs ds : List Term) → all_parts (cs ++ ds) ≡ all_parts cs ++ all_parts ds
parts_both [] ds = refl
parts_both (c ∷ cs) ds = ap (λ l. parts_of_condition c ++ l) (parts_both cs ds) ∙ sym (append_assoc (parts_of_condition c) (all_parts cs) (all_parts ds))

more_parts : (cs : List Term) (c : Term) → without_true (all_parts (cs ++ c ∷ [])) ≡ without_true (all_parts cs) ++ without_true (parts_of_condition c)
more_parts cs c = ap without_true (parts_both cs (c ∷ [])) ∙ without_both (all_parts cs) (all_parts (c ∷ [])) ∙ ap (λ l. without_true (all_parts cs) ++ without_true l) (append-nil (parts_of_condition c))

-- ---- zips
zip_pair : {A B : Type 0} (R : A → B → Type 0) (xs ys : List A) (us vs : List B) → AllZip R xs us → AllZip R ys vs → AllZip R (xs ++ ys) (us ++ vs)
zip_pair R [] ys [] vs h k = k
zip_pair R [] ys (u ∷ us) vs h k = absurd h
zip_pair R (x ∷ xs) ys [] vs h k = absurd h
zip_pair R (x ∷ xs) ys (u ∷ us) vs h k = (h.0, zip_pair R xs ys us vs h.1 k)

zip_weaker : {A B C : Type 0} (R : A → B → Type 0) (S : C → B → Type 0) (f : A → C) → ((x : A) (y : B) → R x y → S (f x) y) → (xs : List A) (us : List B) → AllZip R xs us → AllZip S (map f xs) us
zip_weaker R S f w [] [] h = tt
zip_weaker R S f w [] (u ∷ us) h = absurd h
zip_weaker R S f w (x ∷ xs) [] h = absurd h
zip_weaker R S f w (x ∷ xs) (u ∷ us) h = (w x u h.0, zip_weaker R S f w xs us h.1)

zip_later : {A B : Type 0} (R S : A → B → Type 0) → ((x : A) (y : B) → R x y → S x y) → (xs : List A) (us : List B) → AllZip R xs us → AllZip S xs us
zip_later R S w [] [] h = tt
zip_later R S w [] (u ∷ us) h = absurd h
zip_later R S w (x ∷ xs) [] h = absurd h
zip_later R S w (x ∷ xs) (u ∷ us) h = (w x u h.0, zip_later R S w xs us h.1)

module _ (e : Entries) (reached : List ProcId) (views : List View) (g : Data) (t : Text) (table : PlainPlaces) where
  -- ---- what is known of the table
  -- the place of all of a reached definition
  pub record EntryIs (k : ℕ) (entry : PlainEntry) : Type 0 where
    pub process : slice_get reached k ≡ Some entry.process
    pub view : View
    pub at : slice_get views entry.place ≡ Some view
    pub all : view.all ≡ true
    pub owner : view.owner ≡ suc entry.process.0
    pub path : view.path ≡ []
    pub others : view.others ≡ []
    pub scope : view.scope ≡ map (bound_at e) entry.params
    pub piece : Piece
    pub stands : slice_get t.definitions entry.process.0 ≡ Some piece
    pub params : piece.params ≡ view.scope
    pub body : piece.body ≡ view.body

  pub record IsViewed : Type 0 where
    pub places : (k : ℕ) (p : PlainPlace) → slice_get table.places k ≡ Some p → Viewed e reached views g t table.places k
    pub entries : (k : ℕ) (entry : PlainEntry) → slice_get table.entries k ≡ Some entry → EntryIs k entry
    pub called : (k : ℕ) (x : ProcId) → slice_get reached k ≡ Some x → (entry : PlainEntry) × (slice_get table.entries k ≡ Some entry)
    pub pieces : (place : Place) → t.piece place ≡ piece_from t place.owner place.path
    pub long : (k : ℕ) (v : View) → slice_get views k ≡ Some v → (p : PlainPlace) × (slice_get table.places k ≡ Some p)

  -- a call of a place with its number
  pub record CallIs (met : List ℕ) (p : PlaceCall) (c : ℕ × List TermId) : Type 0 where
    pub place : ℕ
    pub is : spot views place ≡ p.place
    pub number : IsNumberOf met place c.0
    pub args : map (term_at e) c.1 ≡ p.args

  abbrev pub waiting_calls : List (ℕ × List TermId) → List PlaceCall
  waiting_calls w = map (place_call views) (waiting_terms e w)

  -- a summand is a head inside of what is around
  pub record IsSummandOf (met : List ℕ) (a : PlainAround) (conditions : List Term) (w : List (ℕ × List TermId)) (h : Head) (s : PlainFormSummand) : Type 0 where
    pub sums : map (bound_at e) s.sums ≡ map (bound_at e) a.sums ++ h.sums
    pub condition : term_at e s.condition ≡ joined (conditions ++ h.conditions)
    pub label : label_of e s.label ≡ h.label
    pub next : AllZip (CallIs met) (h.next ++ waiting_calls w) s.next

  pub record HeadsAre (v : View) (over : List ℕ) (a : PlainAround) (conditions : List Term) (w : List (ℕ × List TermId)) (old new : List ℕ) (ss : List PlainFormSummand) : Type 0 where
    pub heads : List Head
    pub unfolds : Unfolds t over v.owner (environment_of e a.by) v.path v.body v.others heads
    pub are : AllZip (IsSummandOf new a conditions w) heads ss
    pub called : List ℕ
    pub met : Meets old called new
    pub calls : map (spot views) called ≡ places_called (map (followed (waiting_calls w)) heads)
    pub begin : AllByRecursion (BeginsEquation views) called

  -- what is around fits the place
  pub record IsAround (v : View) (over : List ℕ) (a : PlainAround) (conditions : List Term) (w : List (ℕ × List TermId)) : Type 0 where
    pub over_few : (y : ℕ) → Contains over y → Contains (numbers_of (a.sums ++ a.params)) y
    pub scope : (y : ℕ) → Contains (bound_variables (environment_of e a.by)) y → Contains (variables v.scope) y
    pub parts : map (term_at e) a.parts ≡ without_true (all_parts conditions)
    pub waiting : AllByRecursion (BeginsEquation views) (map (λ (z : ℕ × List Term). z.0) (waiting_terms e w))

  -- ---- equations of places
  piece_at : (o : ℕ) (path : Path) (fs : List Factor) (xs : List Bound) → (path ≡ [] → ⊥) → follow [] (body_of_owner t o) [] path ≡ fs → scope_at (params_of_owner t o) (body_of_owner t o) path ≡ xs
      → (piece_from t o path ≡ record { params = free_in fs xs; body = seq_of (bodies fs) }) × (factors_from t o path ≡ fs)
  piece_at o [] fs xs n f s = absurd (n refl)
  piece_at o (step ∷ down) fs xs n f s = (ap₂ (λ z w. record { params = free_in z w; body = seq_of (bodies z) }) f s, f)

  pub record RestPiece (w : View) (m : ℕ) : Type 0 where
    pub piece : t.piece (place_of w) ≡ record { params = map (bound_at e) (params_of_place table m); body = seq_of (bodies (first_factor w ∷ w.others)) }
    pub at : factors_at t (place_of w) ≡ first_factor w ∷ w.others

  module _ (known : IsViewed) where
    -- what stands at a number
    record IsHere (n : ℕ) (v : View) : Type 0 where
      viewed : Viewed e reached views g t table.places n
      same : viewed.view ≡ v

    here : (n : ℕ) (v : View) → slice_get views n ≡ Some v → IsHere n v
    here n v at = let p = known.long n v at in let k = known.places n p.0 p.1 in record { viewed = k; same = same_some (sym k.at ∙ at) }

    here_part : (n : ℕ) (v : View) → slice_get views n ≡ Some v → (p : PlainPart) → part_at table n ≡ p → PartIs e reached views v p
    here_part n v at p is =
        let h = here n v at in
        subst (λ z. PartIs e reached views z p) h.same (subst (PartIs e reached views h.viewed.view) (sym (part_is table n h.viewed.place h.viewed.stands) ∙ is) h.viewed.part)

    here_rest : (n : ℕ) (v : View) → slice_get views n ≡ Some v → RestIs views v (rest_at table n)
    here_rest n v at =
        let h = here n v at in
        subst (λ z. RestIs views z (rest_at table n)) h.same (subst (RestIs views h.viewed.view) (sym (rest_is table n h.viewed.place h.viewed.stands)) h.viewed.rest)

    pub rest_piece : (m : ℕ) (w : View) → slice_get views m ≡ Some w → w.all ≡ false → (w.path ≡ [] → ⊥) → RestPiece w m
    rest_piece m w at part ne =
        let h = here m w at in
        let k = h.viewed in
        let position : IsAt t w = subst (IsAt t) h.same k.position in
        let own : map (bound_at e) (params_of_place table m) ≡ params_of_view w = ap (map (bound_at e)) (params_is table m k.place k.stands) ∙ k.params ∙ ap params_of_view h.same in
        let free : params_of_view w ≡ free_in (first_factor w ∷ w.others) w.scope = ap (λ b. cond_of b w.scope (free_in (first_factor w ∷ w.others) w.scope)) part in
        let one : factors w.path w.body ≡ first_factor w ∷ [] = subst (λ z. z.all ≡ false → factors z.path z.body ≡ first_factor z ∷ []) h.same k.one part in
        let follows : follow [] (body_of_owner t w.owner) [] w.path ≡ first_factor w ∷ w.others = ap (follow [] (body_of_owner t w.owner) []) (sym (append-nil w.path)) ∙ position.follows [] ∙ ap (λ l. l ++ w.others) one in
        let scopes : scope_at (params_of_owner t w.owner) (body_of_owner t w.owner) w.path ≡ w.scope = ap (scope_at (params_of_owner t w.owner) (body_of_owner t w.owner)) (sym (append-nil w.path)) ∙ position.scopes [] in
        let r = piece_at w.owner w.path (first_factor w ∷ w.others) w.scope ne follows scopes in
        record { piece = known.pieces (place_of w) ∙ r.0 ∙ ap (λ z. record { params = z; body = seq_of (bodies (first_factor w ∷ w.others)) }) (sym (own ∙ free)); at = r.1 }

    -- ---- calls of rests
    numbers_are : (xs : List VarId) → variables (map (bound_at e) xs) ≡ numbers_of xs
    numbers_are [] = refl
    numbers_are (x ∷ xs) = ap (λ l. x.0 ∷ l) (numbers_are xs)

    read_numbers : (env : Environment) (xs : List VarId) → map (λ (x : VarId). term_in env x.0) xs ≡ reading env (numbers_of xs)
    read_numbers env [] = refl
    read_numbers env (x ∷ xs) = ap (λ l. term_in env x.0 ∷ l) (read_numbers env xs)

    rest_matches : (by : List (VarId × TermId)) (v : View) (rest : Option ℕ) → RestIs views v rest → map (place_call views) (rest_terms e table by rest) ≡ rest_call t v.owner (environment_of e by) v.others
    rest_matches by v None h = ap (rest_call t v.owner (environment_of e by)) (sym h)
    rest_matches by v (Some m) h =
        let w = h.0 in
        let env = environment_of e by in
        let r = rest_piece m w h.1 h.3 h.4 in
        let place : spot views m ≡ record { owner = v.owner; path = w.path } = spot_is views m w h.1 ∙ ap (λ o. record { owner = o; path = w.path }) h.2 in
        let args : map (λ (x : VarId). term_in env x.0) (params_of_place table m) ≡ reading env (variables (t.piece (record { owner = v.owner; path = w.path })).params) =
        read_numbers env (params_of_place table m) ∙ ap (reading env) (sym (numbers_are (params_of_place table m)) ∙ ap (λ (z : Piece). variables z.params) (sym r.piece) ∙ ap (λ o. variables (t.piece (record { owner = o; path = w.path })).params) h.2) in
        ap₂ (λ (p : Place) (us : List Term). record { place = p; args = us } ∷ []) place args ∙ ap (rest_call t v.owner env) (sym h.5)

    first_matches : (by : List (VarId × TermId)) (v w : View) (m : ℕ) → slice_get views m ≡ Some w → RestIs views v (Some m) → (others : v.others ≡ first_factor w ∷ w.others) → w.owner ≡ v.owner → w.all ≡ false → (p : PlainPart) → PartIs e reached views w p
        → map (place_call views) (first_terms e table by m p) ≡ onward_call t v.owner (environment_of e by) (first_factor w) w.body w.others
    first_matches by v w m at h others own part delta k = rest_matches by v (Some m) h ∙ ap (rest_call t v.owner (environment_of e by)) others ∙ ap (λ b. onward_call t v.owner (environment_of e by) (first_factor w) b w.others) (sym k)
    first_matches by v w m at h others own part (act l) k = rest_matches by v (Some m) h ∙ ap (rest_call t v.owner (environment_of e by)) others ∙ ap (λ b. onward_call t v.owner (environment_of e by) (first_factor w) b w.others) (sym k)
    first_matches by v w m at h others own part (choice []) k = rest_matches by v (Some m) h ∙ ap (rest_call t v.owner (environment_of e by)) others ∙ ap (λ b. onward_call t v.owner (environment_of e by) (first_factor w) b w.others) (sym k)
    first_matches by v w m at h others own part (choice (n ∷ ns)) k = rest_matches by v (Some m) h ∙ ap (rest_call t v.owner (environment_of e by)) others ∙ ap (λ b. onward_call t v.owner (environment_of e by) (first_factor w) b w.others) (sym k.2)
    first_matches by v w m at h others own part (cond c i j) k = rest_matches by v (Some m) h ∙ ap (rest_call t v.owner (environment_of e by)) others ∙ ap (λ b. onward_call t v.owner (environment_of e by) (first_factor w) b w.others) (sym k.2)
    first_matches by v w m at h others own part (sum x i) k = rest_matches by v (Some m) h ∙ ap (rest_call t v.owner (environment_of e by)) others ∙ ap (λ b. onward_call t v.owner (environment_of e by) (first_factor w) b w.others) (sym k.1)
    first_matches by v w m at h others own part (whole i) k = absurd (differ (sym part ∙ k.2))
      where
        differ : false ≡ true → ⊥
        differ q = cc
    first_matches by v w m at h others own part (call i ids) k =
        let env = environment_of e by in
        let x = k.0 in
        let place : spot views (entry_place table i) ≡ whole_place x.0 = called_place i x k.1 in
        let behind : map (place_call views) (rest_terms e table by (rest_at table m)) ≡ rest_call t v.owner env w.others = rest_matches by w (rest_at table m) (here_rest m w at) ∙ ap (λ o. rest_call t o env w.others) own in
        ap₂ (λ (p : Place) (cs : List PlaceCall). record { place = p; args = map (put_in e by) (map (term_at e) ids) } ∷ cs) place behind ∙ ap (λ b. onward_call t v.owner env (first_factor w) b w.others) (sym k.2)
      where
        called_place : (i : ℕ) (x : ProcId) → slice_get reached i ≡ Some x → spot views (entry_place table i) ≡ whole_place x.0
        called_place i x at_i =
            let c = known.called i x at_i in
            let y = known.entries i c.0 c.1 in
            let same : x ≡ c.0.process = same_some (sym at_i ∙ y.process) in
            ap (spot views) (ap (λ (z : PlainEntry). z.place) (get_or_from_slice_get table.entries i c.0 _ c.1))
            ∙ spot_is views c.0.place y.view y.at
            ∙ ap₂ (λ o p. record { owner = o; path = p }) (y.owner ∙ ap (λ (z : ProcId). suc z.0) (sym same)) y.path

    onward_matches : (by : List (VarId × TermId)) (v : View) (rest : Option ℕ) → RestIs views v rest → map (place_call views) (onward_terms e table by rest) ≡ onward t v.owner (environment_of e by) v.others
    onward_matches by v None h = ap (onward t v.owner (environment_of e by)) (sym h)
    onward_matches by v (Some m) h = first_matches by v h.0 m h.1 h h.5 h.2 h.3 (part_at table m) (here_part m h.0 h.1 (part_at table m) refl) ∙ ap (onward t v.owner (environment_of e by)) (sym h.5)

    -- ---- where equations begin
    rest_begins : (by : List (VarId × TermId)) (v : View) (rest : Option ℕ) → RestIs views v rest → AllByRecursion (BeginsEquation views) (map (λ (w : ℕ × List Term). w.0) (rest_terms e table by rest))
    rest_begins by v None h = tt
    rest_begins by v (Some m) h = (record { view = h.0; at = h.1; is = inr (h.3, h.4) }, tt)

    first_begins : (by : List (VarId × TermId)) (v w : View) (m : ℕ) → slice_get views m ≡ Some w → RestIs views v (Some m) → (p : PlainPart) → PartIs e reached views w p → AllByRecursion (BeginsEquation views) (map (λ (z : ℕ × List Term). z.0) (first_terms e table by m p))
    first_begins by v w m at h delta k = rest_begins by v (Some m) h
    first_begins by v w m at h (act l) k = rest_begins by v (Some m) h
    first_begins by v w m at h (choice ns) k = rest_begins by v (Some m) h
    first_begins by v w m at h (cond c i j) k = rest_begins by v (Some m) h
    first_begins by v w m at h (sum x i) k = rest_begins by v (Some m) h
    first_begins by v w m at h (whole i) k = rest_begins by v (Some m) h
    first_begins by v w m at h (call i ids) k =
        let c = known.called i k.0 k.1 in
        let y = known.entries i c.0 c.1 in
        (record { view = y.view; at = ap (slice_get views) (ap (λ (z : PlainEntry). z.place) (get_or_from_slice_get table.entries i c.0 _ c.1)) ∙ y.at; is = inl y.all }, rest_begins by w (rest_at table m) (here_rest m w at))

    onward_begins : (by : List (VarId × TermId)) (v : View) (rest : Option ℕ) → RestIs views v rest → AllByRecursion (BeginsEquation views) (map (λ (z : ℕ × List Term). z.0) (onward_terms e table by rest))
    onward_begins by v None h = tt
    onward_begins by v (Some m) h = first_begins by v h.0 m h.1 h (part_at table m) (here_part m h.0 h.1 (part_at table m) refl)

    -- ---- pieces of rests
    listed_bound : (by : List (VarId × TermId)) (x : VarId) → Contains (listed_variables by) x → Contains (bound_variables (environment_of e by)) x.0
    listed_bound [] x i = absurd (contains_none x i)
    listed_bound (p ∷ by) x i = ⊎_elim (λ q. subst (λ (z : VarId). Contains (bound_variables (environment_of e (p ∷ by))) z.0) q (contains_first p.0.0 (bound_variables (environment_of e by)))) (λ j. contains_later p.0.0 x.0 (bound_variables (environment_of e by)) (listed_bound by x j)) (contains_cons p.0 x (listed_variables by) i)

    rest_has_piece : (by : List (VarId × TermId)) (v : View) (rest : Option ℕ) → RestIs views v rest → RestIsListed table by rest → HasPiece t v.owner (bound_variables (environment_of e by)) v.others
    rest_has_piece by v None h l = subst (HasPiece t v.owner (bound_variables (environment_of e by))) (sym h) no_rest
    rest_has_piece by v (Some m) h l =
        let w = h.0 in
        let r = rest_piece m w h.1 h.3 h.4 in
        let piece : t.piece (record { owner = v.owner; path = w.path }) ≡ record { params = map (bound_at e) (params_of_place table m); body = seq_of (bodies (first_factor w ∷ w.others)) } = ap (λ o. t.piece (record { owner = o; path = w.path })) (sym h.2) ∙ r.piece in
        subst (HasPiece t v.owner (bound_variables (environment_of e by))) (sym h.5)
        (has_piece (first_factor w) w.others (ap (λ (z : Piece). z.body) piece) (λ y i.
        let j = contains_map (λ (x : VarId). x.0) (params_of_place table m) y (subst (λ l. Contains l y) (ap (λ (z : Piece). variables z.params) piece ∙ numbers_are (params_of_place table m)) i) in
        subst (Contains (bound_variables (environment_of e by))) (sym j.1.1) (listed_bound by j.0 (All-contains (λ (x : VarId). Contains (listed_variables by) x) (params_of_place table m) j.0 l.1 j.1.0))))

    first_has_piece : (by : List (VarId × TermId)) (v w : View) (m : ℕ) → slice_get views m ≡ Some w → RestIs views v (Some m) → v.others ≡ first_factor w ∷ w.others → w.owner ≡ v.owner → w.all ≡ false → (p : PlainPart) → PartIs e reached views w p → FirstIsCovered table by m p
        → HasOnwardPiece t v.owner (bound_variables (environment_of e by)) (first_factor w) w.body w.others
    first_has_piece by v w m at h others own part delta k l = subst (λ b. HasOnwardPiece t v.owner (bound_variables (environment_of e by)) (first_factor w) b w.others) (sym k) (subst (HasPiece t v.owner (bound_variables (environment_of e by))) others (rest_has_piece by v (Some m) h l))
    first_has_piece by v w m at h others own part (act n) k l = subst (λ b. HasOnwardPiece t v.owner (bound_variables (environment_of e by)) (first_factor w) b w.others) (sym k) (subst (HasPiece t v.owner (bound_variables (environment_of e by))) others (rest_has_piece by v (Some m) h l))
    first_has_piece by v w m at h others own part (choice []) k l = subst (λ b. HasOnwardPiece t v.owner (bound_variables (environment_of e by)) (first_factor w) b w.others) (sym k) (subst (HasPiece t v.owner (bound_variables (environment_of e by))) others (rest_has_piece by v (Some m) h l))
    first_has_piece by v w m at h others own part (choice (n ∷ ns)) k l = subst (λ b. HasOnwardPiece t v.owner (bound_variables (environment_of e by)) (first_factor w) b w.others) (sym k.2) (subst (HasPiece t v.owner (bound_variables (environment_of e by))) others (rest_has_piece by v (Some m) h l))
    first_has_piece by v w m at h others own part (cond c i j) k l = subst (λ b. HasOnwardPiece t v.owner (bound_variables (environment_of e by)) (first_factor w) b w.others) (sym k.2) (subst (HasPiece t v.owner (bound_variables (environment_of e by))) others (rest_has_piece by v (Some m) h l))
    first_has_piece by v w m at h others own part (sum x i) k l = subst (λ b. HasOnwardPiece t v.owner (bound_variables (environment_of e by)) (first_factor w) b w.others) (sym k.1) (subst (HasPiece t v.owner (bound_variables (environment_of e by))) others (rest_has_piece by v (Some m) h l))
    first_has_piece by v w m at h others own part (whole i) k l = absurd (differ (sym part ∙ k.2))
      where
        differ : false ≡ true → ⊥
        differ q = cc
    first_has_piece by v w m at h others own part (call i ids) k l =
        subst (λ b. HasOnwardPiece t v.owner (bound_variables (environment_of e by)) (first_factor w) b w.others) (sym k.2) (subst (λ o. HasPiece t o (bound_variables (environment_of e by)) w.others) own (rest_has_piece by w (rest_at table m) (here_rest m w at) l))

    onward_has_pieces : (by : List (VarId × TermId)) (v : View) (rest : Option ℕ) → RestIs views v rest → OnwardIsCovered table by rest → HasPieces t v.owner (bound_variables (environment_of e by)) v.others
    onward_has_pieces by v None h l = subst (HasPieces t v.owner (bound_variables (environment_of e by))) (sym h) tt
    onward_has_pieces by v (Some m) h l = subst (HasPieces t v.owner (bound_variables (environment_of e by))) (sym h.5) (first_has_piece by v h.0 m h.1 h h.5 h.2 h.3 (part_at table m) (here_part m h.0 h.1 (part_at table m) refl) l)

    -- ---- lists of calls
    spots_mapped : (ws : List (ℕ × List Term)) → map (spot views) (map (λ (w : ℕ × List Term). w.0) ws) ≡ map (λ (c : PlaceCall). c.place) (map (place_call views) ws)
    spots_mapped [] = refl
    spots_mapped (w ∷ ws) = ap (λ l. spot views w.0 ∷ l) (spots_mapped ws)

    called_both : (extra : List PlaceCall) (hs ks : List Head) → places_called (map (followed extra) (hs ++ ks)) ≡ places_called (map (followed extra) hs) ++ places_called (map (followed extra) ks)
    called_both extra [] ks = refl
    called_both extra (h ∷ hs) ks = ap (λ l. places_of (followed extra h) ++ l) (called_both extra hs ks) ∙ sym (append_assoc (places_of (followed extra h)) (places_called (map (followed extra) hs)) (places_called (map (followed extra) ks)))

    called_guarded : (extra : List PlaceCall) (c : Term) (hs : List Head) → places_called (map (followed extra) (map (guarded c) hs)) ≡ places_called (map (followed extra) hs)
    called_guarded extra c [] = refl
    called_guarded extra c (h ∷ hs) = ap (λ l. places_of (followed extra h) ++ l) (called_guarded extra c hs)

    called_summed : (extra : List PlaceCall) (x : Bound) (hs : List Head) → places_called (map (followed extra) (map (summed x) hs)) ≡ places_called (map (followed extra) hs)
    called_summed extra x [] = refl
    called_summed extra x (h ∷ hs) = ap (λ l. places_of (followed extra h) ++ l) (called_summed extra x hs)

    called_followed : (extra more : List PlaceCall) (hs : List Head) → places_called (map (followed (more ++ extra)) hs) ≡ places_called (map (followed extra) (map (followed more) hs))
    called_followed extra more [] = refl
    called_followed extra more (h ∷ hs) = ap₂ (λ cs l. map (λ (c : PlaceCall). c.place) cs ++ l) (sym (append_assoc h.next more extra)) (called_followed extra more hs)

    numbers_later : (mid new ps : List ℕ) → Meets mid ps new → (p : PlaceCall) (c : ℕ × List TermId) → CallIs mid p c → CallIs new p c
    numbers_later mid new ps m p c k = record { place = k.place; is = k.is; number = number_stays m k.place c.0 k.number; args = k.args }

    summand_later : (mid new ps : List ℕ) → Meets mid ps new → (a : PlainAround) (conditions : List Term) (w : List (ℕ × List TermId)) (h : Head) (s : PlainFormSummand) → IsSummandOf mid a conditions w h s → IsSummandOf new a conditions w h s
    summand_later mid new ps m a conditions w h s k = record { sums = k.sums; condition = k.condition; label = k.label; next = zip_later (CallIs mid) (CallIs new) (λ p c j. numbers_later mid new ps m p c j) (h.next ++ waiting_calls w) s.next k.next }

    -- heads of two parts, one after the other
    record Pair (v : View) (over : List ℕ) (a : PlainAround) (conditions : List Term) (w : List (ℕ × List TermId)) (old new : List ℕ) (hs ks : List Head) (ss us : List PlainFormSummand) : Type 0 where
      are : AllZip (IsSummandOf new a conditions w) (hs ++ ks) (ss ++ us)
      called : List ℕ
      met : Meets old called new
      calls : map (spot views) called ≡ places_called (map (followed (waiting_calls w)) (hs ++ ks))
      begin : AllByRecursion (BeginsEquation views) called

    pair : (v : View) (over : List ℕ) (a : PlainAround) (conditions : List Term) (w : List (ℕ × List TermId)) (old mid new : List ℕ) (hs ks : List Head) (ss us : List PlainFormSummand) (c d : List ℕ) → AllZip (IsSummandOf mid a conditions w) hs ss → AllZip (IsSummandOf new a conditions w) ks us → Meets old c mid → Meets mid d new
        → map (spot views) c ≡ places_called (map (followed (waiting_calls w)) hs) → map (spot views) d ≡ places_called (map (followed (waiting_calls w)) ks) → AllByRecursion (BeginsEquation views) c → AllByRecursion (BeginsEquation views) d → Pair v over a conditions w old new hs ks ss us
    pair v over a conditions w old mid new hs ks ss us c d h k m n p q f s = record {
      are = zip_pair (IsSummandOf new a conditions w) hs ks ss us (zip_later (IsSummandOf mid a conditions w) (IsSummandOf new a conditions w) (λ x y j. summand_later mid new d n a conditions w x y j) hs ss h) k;
      called = c ++ d;
      met = meets_then m n;
      calls = map-append (spot views) c d ∙ ap₂ (λ xs ys. xs ++ ys) p q ∙ sym (called_both (waiting_calls w) hs ks);
      begin = all_both (BeginsEquation views) c d f s;
    }

    -- the first factor of a part stands for the part
    to_part : (o : ℕ) (xs : List Bound) (path : Path) (b : Body) (fs : List Factor) (over : List ℕ) (a : PlainAround) (conditions : List Term) (w : List (ℕ × List TermId)) (old new : List ℕ) (ss : List PlainFormSummand) → HeadsAre (first_view o xs path b fs) over a conditions w old new ss → HeadsAre (view_at o xs path b fs) over a conditions w old new ss
    to_part o xs path b fs over a conditions w old new ss h = record {
      heads = h.heads;
      unfolds = first_unfolds t o xs path b fs (subst (λ z. Unfolds t over z (environment_of e a.by) (first_view o xs path b fs).path (first_view o xs path b fs).body (first_view o xs path b fs).others h.heads) (first_owner o xs path b fs).0 h.unfolds);
      are = h.are;
      called = h.called;
      met = h.met;
      calls = h.calls;
      begin = h.begin;
    }

    to_first : (o : ℕ) (xs : List Bound) (path : Path) (b : Body) (fs : List Factor) (over : List ℕ) (a : PlainAround) (conditions : List Term) (w : List (ℕ × List TermId)) → IsAround (view_at o xs path b fs) over a conditions w → IsAround (first_view o xs path b fs) over a conditions w
    to_first o xs path b fs over a conditions w h = record { over_few = h.over_few; scope = λ y i. subst (λ l. Contains (variables l) y) (sym (first_owner o xs path b fs).2) (h.scope y i); parts = h.parts; waiting = h.waiting }

    -- with the same variables in scope
    scope_same : (v u : View) (over : List ℕ) (a : PlainAround) (conditions : List Term) (w : List (ℕ × List TermId)) → u.scope ≡ v.scope → IsAround v over a conditions w → IsAround u over a conditions w
    scope_same v u over a conditions w same h = record { over_few = h.over_few; scope = λ y i. subst (λ l. Contains (variables l) y) (sym same) (h.scope y i); parts = h.parts; waiting = h.waiting }

    -- nothing is added
    nothing : (v : View) (over : List ℕ) (a : PlainAround) (conditions : List Term) (w : List (ℕ × List TermId)) (met : List ℕ) → v.body ≡ written_delta → HeadsAre v over a conditions w met met []
    nothing v over a conditions w met is = record { heads = []; unfolds = subst (λ b. Unfolds t over v.owner (environment_of e a.by) v.path b v.others []) (sym is) un_delta; are = tt; called = []; met = none_met; calls = refl; begin = tt }

    -- a label
    label : (v : View) (over : List ℕ) (a : PlainAround) (conditions : List Term) (w : List (ℕ × List TermId)) (n : ℕ) (m : List PlainAction) (old new : List ℕ) (s : PlainFormSummand) → slice_get views n ≡ Some v → v.body ≡ written_act (label_of e m) → IsAround v over a conditions w → IsLabelSummand e table a w m (rest_at table n) old new s
        → HeadsAre v over a conditions w old new (s ∷ [])
    label v over a conditions w n m old new s at is around k =
        let env = environment_of e a.by in
        let rest = rest_at table n in
        let behind = here_rest n v at in
        let wanted = onward_terms e table a.by rest ++ waiting_terms e w in
        let next = onward t v.owner env v.others in
        let calls : map (place_call views) wanted ≡ next ++ waiting_calls w = map-append (place_call views) (onward_terms e table a.by rest) (waiting_terms e w) ∙ ap (λ l. l ++ waiting_calls w) (onward_matches a.by v rest behind) in
        let h : Head = record { sums = []; conditions = []; label = put_label env (label_of e m); next = next } in
        record {
          heads = h ∷ [];
          unfolds = subst (λ b. Unfolds t over v.owner env v.path b v.others (h ∷ [])) (sym is) (un_act (onward_has_pieces a.by v rest behind k.covered));
          are = (
            record {
              sums = ap (map (bound_at e)) k.sums ∙ sym (append-nil (map (bound_at e) a.sums));
              condition = k.condition ∙ ap conjunction_of around.parts ∙ ap (λ cs. conjunction_of (without_true (all_parts cs))) (sym (append-nil conditions));
              label = k.label;
              next = subst (λ l. AllZip (CallIs new) l s.next) calls (zip_weaker (IsCallAt e new) (CallIs new) (place_call views) (λ x y j. record { place = x.0; is = refl; number = j.number; args = j.args }) wanted s.next k.next);
            },
            tt,
          );
          called = map (λ (z : ℕ × List Term). z.0) wanted;
          met = k.met;
          calls = spots_mapped wanted ∙ ap (map (λ (c : PlaceCall). c.place)) calls ∙ sym (append-nil (map (λ (c : PlaceCall). c.place) (next ++ waiting_calls w)));
          begin = subst (AllByRecursion (BeginsEquation views)) (sym (map-append (λ (z : ℕ × List Term). z.0) (onward_terms e table a.by rest) (waiting_terms e w)))
              (all_both (BeginsEquation views) (map (λ (z : ℕ × List Term). z.0) (onward_terms e table a.by rest)) (map (λ (z : ℕ × List Term). z.0) (waiting_terms e w)) (onward_begins a.by v rest behind) around.waiting);
        }

    -- under a further condition
    guarded_zip : (new : List ℕ) (a : PlainAround) (parts : List TermId) (conditions : List Term) (c : Term) (w : List (ℕ × List TermId)) (hs : List Head) (ss : List PlainFormSummand) → AllZip (IsSummandOf new (with_parts a parts) (conditions ++ c ∷ []) w) hs ss → AllZip (IsSummandOf new a conditions w) (map (guarded c) hs) ss
    guarded_zip new a parts conditions c w hs ss h = zip_weaker (IsSummandOf new (with_parts a parts) (conditions ++ c ∷ []) w) (IsSummandOf new a conditions w) (guarded c)
        (λ x s k. record { sums = k.sums; condition = k.condition ∙ ap joined (append_assoc conditions (c ∷ []) x.conditions); label = k.label; next = k.next }) hs ss h

    guarded_around : (v : View) (over : List ℕ) (a : PlainAround) (parts : List TermId) (conditions : List Term) (c : Term) (w : List (ℕ × List TermId)) → IsAround v over a conditions w → AreGuarding e a c parts → IsAround v over (with_parts a parts) (conditions ++ c ∷ []) w
    guarded_around v over a parts conditions c w h k = record { over_few = h.over_few; scope = h.scope; parts = k ∙ ap (λ l. l ++ without_true (parts_of_condition c)) h.parts ∙ sym (more_parts conditions c); waiting = h.waiting }

    -- under a sum
    summed_zip : (new : List ℕ) (a : PlainAround) (conditions : List Term) (w : List (ℕ × List TermId)) (x y : VarId) (id : TermId) (hs : List Head) (ss : List PlainFormSummand) → (bound_at e y).sort ≡ (bound_at e x).sort → AllZip (IsSummandOf new (with_sum a x y id) conditions w) hs ss
        → AllZip (IsSummandOf new a conditions w) (map (summed (record { var = y.0; sort = (bound_at e x).sort })) hs) ss
    summed_zip new a conditions w x y id hs ss same h = zip_weaker (IsSummandOf new (with_sum a x y id) conditions w) (IsSummandOf new a conditions w) (summed (record { var = y.0; sort = (bound_at e x).sort }))
        (λ z s k. record {
          sums = k.sums
              ∙ ap (λ l. l ++ z.sums) (map-append (bound_at e) a.sums (y ∷ []))
              ∙ append_assoc (map (bound_at e) a.sums) (bound_at e y ∷ []) z.sums
              ∙ ap (λ r. map (bound_at e) a.sums ++ record { var = y.0; sort = r } ∷ z.sums) same;
          condition = k.condition;
          label = k.label;
          next = k.next;
        }) hs ss h

    summed_around : (v u : View) (over : List ℕ) (a : PlainAround) (conditions : List Term) (w : List (ℕ × List TermId)) (x y : VarId) (id : TermId) → u.scope ≡ v.scope ++ bound_at e x ∷ [] → IsAround v over a conditions w → IsAround u (y.0 ∷ over) (with_sum a x y id) conditions w
    summed_around v u over a conditions w x y id is h = record {
      over_few = λ z i. wider z (⊎_elim (λ q. inl q) (λ j. inr (h.over_few z j)) (contains_cases y.0 z over i));
      scope = λ z i. subst (λ l. Contains (variables l) z) (sym is) (subst (λ l. Contains l z) (sym (map-append (λ (q : Bound). q.var) v.scope (bound_at e x ∷ [])))
          (⊎_elim (λ q. Contains-append_right (variables v.scope) (x.0 ∷ []) z (subst (Contains (x.0 ∷ [])) q (contains_first x.0 []))) (λ j. Contains-append_left (variables v.scope) (x.0 ∷ []) z (h.scope z j)) (contains_cases x.0 z (bound_variables (environment_of e a.by)) i)));
      parts = h.parts;
      waiting = h.waiting;
    }
      where
        wider : (z : ℕ) → (y.0 ≡ z) ⊎ Contains (numbers_of (a.sums ++ a.params)) z → Contains (numbers_of ((a.sums ++ y ∷ []) ++ a.params)) z
        wider z (inl q) = subst (Contains (numbers_of ((a.sums ++ y ∷ []) ++ a.params))) q (map_contains (λ (q : VarId). q.0) ((a.sums ++ y ∷ []) ++ a.params) y (Contains-append_left (a.sums ++ y ∷ []) a.params y (Contains-append_right a.sums (y ∷ []) y (contains_head y []))))
        wider z (inr i) =
            let r = contains_map (λ (q : VarId). q.0) (a.sums ++ a.params) z i in
            subst (Contains (numbers_of ((a.sums ++ y ∷ []) ++ a.params))) (sym r.1.1) (map_contains (λ (q : VarId). q.0) ((a.sums ++ y ∷ []) ++ a.params) r.0 (⊎_elim (λ j. Contains-append_left (a.sums ++ y ∷ []) a.params r.0 (Contains-append_left a.sums (y ∷ []) r.0 j)) (λ j. Contains-append_right (a.sums ++ y ∷ []) a.params r.0 j) (Contains-append_cases a.sums a.params r.0 r.1.0)))

    -- behind a call
    entered_zip : (new : List ℕ) (a : PlainAround) (by : List (VarId × TermId)) (conditions : List Term) (w u : List (ℕ × List TermId)) (extra : List PlaceCall) (hs : List Head) (ss : List PlainFormSummand) → waiting_calls u ≡ extra ++ waiting_calls w → AllZip (IsSummandOf new (with_terms a by) conditions u) hs ss
        → AllZip (IsSummandOf new a conditions w) (map (followed extra) hs) ss
    entered_zip new a by conditions w u extra hs ss is h = zip_weaker (IsSummandOf new (with_terms a by) conditions u) (IsSummandOf new a conditions w) (followed extra)
        (λ x s k. record { sums = k.sums; condition = k.condition; label = k.label; next = subst (λ l. AllZip (CallIs new) l s.next) (ap (λ l. x.next ++ l) is ∙ sym (append_assoc x.next extra (waiting_calls w))) k.next }) hs ss h

    paired_bound : (xs : List VarId) (ids : List TermId) → environment_of e (paired xs ids) ≡ bound (numbers_of xs) (map (term_at e) ids)
    paired_bound [] ids = refl
    paired_bound (x ∷ xs) [] = refl
    paired_bound (x ∷ xs) (id ∷ ids) = ap (λ l. record { var = x.0; term = term_at e id } ∷ l) (paired_bound xs ids)

    bound_are_among : (xs : List ℕ) (us : List Term) (y : ℕ) → Contains (bound_variables (bound xs us)) y → Contains xs y
    bound_are_among [] us y i = i
    bound_are_among (x ∷ xs) [] y i = absurd (contains_nothing y i)
    bound_are_among (x ∷ xs) (u ∷ us) y i = ⊎_elim (λ q. subst (Contains (x ∷ xs)) q (contains_first x xs)) (λ j. contains_later x y xs (bound_are_among xs us y j)) (contains_cases x y (bound_variables (bound xs us)) i)

    entered : (v : View) (over : List ℕ) (a : PlainAround) (conditions : List Term) (w u : List (ℕ × List TermId)) (k : ℕ) (x : ProcId) (ids made : List TermId) (entry : PlainEntry) (old new : List ℕ) (ss : List PlainFormSummand) → slice_get reached k ≡ Some x → v.body ≡ written_call x.0 (map (term_at e) ids) → IsEntering e table a k ids entry made
        → HasPiece t v.owner (bound_variables (environment_of e a.by)) v.others → waiting_calls u ≡ rest_call t v.owner (environment_of e a.by) v.others ++ waiting_calls w → (i : EntryIs k entry) → HeadsAre i.view over (with_terms a (paired entry.params made)) conditions u old new ss → HeadsAre v over a conditions w old new ss
    entered v over a conditions w u k x ids made entry old new ss at is into piece waits i h =
        let env = environment_of e a.by in
        let extra = rest_call t v.owner env v.others in
        let same : entry.process ≡ x = same_some (sym i.process ∙ at) in
        let here : environment_of e (paired entry.params made) ≡ bound (variables i.piece.params) (map (put (term_in env)) (map (term_at e) ids)) = paired_bound entry.params made ∙ ap₂ bound (sym (ap variables (i.params ∙ i.scope) ∙ numbers_are entry.params)) into.args in
        let one : Unfolds t over (suc x.0) (bound (variables i.piece.params) (map (put (term_in env)) (map (term_at e) ids))) [] i.piece.body [] h.heads =
        subst (λ z. Unfolds t over z (bound (variables i.piece.params) (map (put (term_in env)) (map (term_at e) ids))) [] i.piece.body [] h.heads) (i.owner ∙ ap (λ (z : ProcId). suc z.0) same)
        (subst (λ z. Unfolds t over i.view.owner (bound (variables i.piece.params) (map (put (term_in env)) (map (term_at e) ids))) [] z [] h.heads) (sym i.body)
        (subst (λ z. Unfolds t over i.view.owner (bound (variables i.piece.params) (map (put (term_in env)) (map (term_at e) ids))) [] i.view.body z h.heads) i.others
        (subst (λ z. Unfolds t over i.view.owner (bound (variables i.piece.params) (map (put (term_in env)) (map (term_at e) ids))) z i.view.body i.view.others h.heads) i.path
        (subst (λ z. Unfolds t over i.view.owner z i.view.path i.view.body i.view.others h.heads) here h.unfolds)))) in
        record {
          heads = map (followed extra) h.heads;
          unfolds = subst (λ b. Unfolds t over v.owner env v.path b v.others (map (followed extra) h.heads)) (sym is) (un_call i.piece (ap (λ (z : ProcId). slice_get t.definitions z.0) (sym same) ∙ i.stands) piece one);
          are = entered_zip new a (paired entry.params made) conditions w u extra h.heads ss waits h.are;
          called = h.called;
          met = h.met;
          calls = h.calls ∙ ap (λ l. places_called (map (followed l) h.heads)) waits ∙ called_followed (waiting_calls w) extra h.heads;
          begin = h.begin;
        }

    entered_around : (v : View) (over : List ℕ) (a : PlainAround) (conditions : List Term) (w u : List (ℕ × List TermId)) (k : ℕ) (made : List TermId) (entry : PlainEntry) (i : EntryIs k entry) → IsAround v over a conditions w → AllByRecursion (BeginsEquation views) (map (λ (z : ℕ × List Term). z.0) (waiting_terms e u)) → IsAround i.view over (with_terms a (paired entry.params made)) conditions u
    entered_around v over a conditions w u k made entry i h b = record {
      over_few = h.over_few;
      scope = λ y j. subst (λ l. Contains l y) (sym (ap variables i.scope ∙ numbers_are entry.params)) (bound_are_among (numbers_of entry.params) (map (term_at e) made) y (subst (λ z. Contains (bound_variables z) y) (paired_bound entry.params made) j));
      parts = h.parts;
      waiting = b;
    }

    waits_more : (w : List (ℕ × List TermId)) (z : ℕ × List TermId) → waiting_terms e (w ++ z ∷ []) ≡ (z.0, map (term_at e) z.1) ∷ waiting_terms e w
    waits_more w z = ap (map (λ (q : ℕ × List TermId). (q.0, map (term_at e) q.1))) (reverse-append w (z ∷ []))

    mutual
      pub heads_are : {a : PlainAround} {w : List (ℕ × List TermId)} {n : ℕ} {old new : List ℕ} {ss : List PlainFormSummand} → Adds e table a w n old new ss → (v : View) (over : List ℕ) (conditions : List Term) → slice_get views n ≡ Some v → IsAround v over a conditions w → HeadsAre v over a conditions w old new ss
      heads_are {a} {w} {n} (adds_nothing {met = met} part) v over conditions at around = nothing v over a conditions w met (here_part n v at delta part)
      heads_are {a} {w} {n} {old} {new} (adds_label {s = s} m part k) v over conditions at around = label v over a conditions w n m old new s at (here_part n v at (act m) part) around k
      heads_are {a} {w} {n} (adds_operands [] part adds_none) v over conditions at around = nothing v over a conditions w _ (here_part n v at (choice []) part)
      heads_are {a} {w} {n} {old} {new} (adds_operands (m ∷ ns) part (adds_more {mid = mid} {ss = ss} {us = us} one others)) v over conditions at around =
          let k = here_part n v at (choice (m ∷ ns)) part in
          let p = k.0 in
          let q = k.1 in
          let first = to_part v.owner v.scope (v.path ++ false ∷ []) p v.others over a conditions w old mid ss (heads_are one (first_view v.owner v.scope (v.path ++ false ∷ []) p v.others) over conditions k.3 (to_first v.owner v.scope (v.path ++ false ∷ []) p v.others over a conditions w (scope_same v (view_at v.owner v.scope (v.path ++ false ∷ []) p v.others) over a conditions w refl around))) in
          let second = each_are others v.owner v.scope v.others (v.path ++ true ∷ []) q over conditions k.4 (scope_same v (view_at v.owner v.scope (v.path ++ true ∷ []) q v.others) over a conditions w refl around) in
          let both = pair v over a conditions w old mid new first.heads second.heads ss us first.called second.called first.are second.are first.met second.met first.calls second.calls first.begin second.begin in
          record { heads = first.heads ++ second.heads; unfolds = subst (λ b. Unfolds t over v.owner (environment_of e a.by) v.path b v.others (first.heads ++ second.heads)) (sym k.2) (un_choice first.unfolds second.unfolds); are = both.are; called = both.called; met = both.met; calls = both.calls; begin = both.begin }
      heads_are {a} {w} {n} {old} {new} (adds_branches {mid = mid} {ss = ss} {us = us} c i j first second part f one s two) v over conditions at around =
          let k = here_part n v at (cond c i j) part in
          let p = k.0 in
          let q = k.1 in
          let holds = put_in e a.by (term_at e c) in
          let fails = !ᵗ put_in e a.by (term_at e c) in
          let x = to_part v.owner v.scope (v.path ++ false ∷ []) p v.others over (with_parts a first) (conditions ++ holds ∷ []) w old mid ss (heads_are one (first_view v.owner v.scope (v.path ++ false ∷ []) p v.others) over (conditions ++ holds ∷ []) k.3
          (to_first v.owner v.scope (v.path ++ false ∷ []) p v.others over (with_parts a first) (conditions ++ holds ∷ []) w (scope_same v (view_at v.owner v.scope (v.path ++ false ∷ []) p v.others) over (with_parts a first) (conditions ++ holds ∷ []) w refl (guarded_around v over a first conditions holds w around f)))) in
          let y = to_part v.owner v.scope (v.path ++ true ∷ []) q v.others over (with_parts a second) (conditions ++ fails ∷ []) w mid new us (heads_are two (first_view v.owner v.scope (v.path ++ true ∷ []) q v.others) over (conditions ++ fails ∷ []) k.4
          (to_first v.owner v.scope (v.path ++ true ∷ []) q v.others over (with_parts a second) (conditions ++ fails ∷ []) w (scope_same v (view_at v.owner v.scope (v.path ++ true ∷ []) q v.others) over (with_parts a second) (conditions ++ fails ∷ []) w refl (guarded_around v over a second conditions fails w around s)))) in
          let both = pair v over a conditions w old mid new (map (guarded holds) x.heads) (map (guarded fails) y.heads) ss us x.called y.called (guarded_zip mid a first conditions holds w x.heads ss x.are) (guarded_zip new a second conditions fails w y.heads us y.are) x.met y.met
          (x.calls ∙ sym (called_guarded (waiting_calls w) holds x.heads)) (y.calls ∙ sym (called_guarded (waiting_calls w) fails y.heads)) x.begin y.begin in
          record { heads = map (guarded holds) x.heads ++ map (guarded fails) y.heads; unfolds = subst (λ b. Unfolds t over v.owner (environment_of e a.by) v.path b v.others (map (guarded holds) x.heads ++ map (guarded fails) y.heads)) (sym k.2) (un_cond x.unfolds y.unfolds); are = both.are; called = both.called; met = both.met; calls = both.calls; begin = both.begin }
      heads_are {a} {w} {n} {old} {new} {ss} (adds_summed x y id i part k one) v over conditions at around =
          let h = here_part n v at (sum x i) part in
          let p = h.0 in
          let inner = v.scope ++ bound_at e x ∷ [] in
          let z = to_part v.owner inner (v.path ++ false ∷ []) p v.others (y.0 ∷ over) (with_sum a x y id) conditions w old new ss (heads_are one (first_view v.owner inner (v.path ++ false ∷ []) p v.others) (y.0 ∷ over) conditions h.3
          (to_first v.owner inner (v.path ++ false ∷ []) p v.others (y.0 ∷ over) (with_sum a x y id) conditions w (summed_around v (view_at v.owner inner (v.path ++ false ∷ []) p v.others) over a conditions w x y id refl around))) in
          let made : Bound = record { var = y.0; sort = (bound_at e x).sort } in
          record {
            heads = map (summed made) z.heads;
            unfolds = subst (λ b. Unfolds t over v.owner (environment_of e a.by) v.path b v.others (map (summed made) z.heads)) (sym h.1)
                (un_sum y.0 (λ q. k.new (around.over_few y.0 q)) (λ q. h.2 (around.scope x.0 q)) (subst (λ u. Unfolds t (y.0 ∷ over) v.owner (record { var = x.0; term = u } ∷ environment_of e a.by) (v.path ++ false ∷ []) p v.others z.heads) k.itself z.unfolds));
            are = summed_zip new a conditions w x y id z.heads ss k.sort z.are;
            called = z.called;
            met = z.met;
            calls = z.calls ∙ sym (called_summed (waiting_calls w) made z.heads);
            begin = z.begin;
          }
      heads_are {a} {w} {n} {old} {new} {ss} (adds_entered k ids entry made part none into one) v over conditions at around =
          let h = here_part n v at (call k ids) part in
          let r = subst (RestIs views v) none (here_rest n v at) in
          let i = known.entries k entry into.stands in
          let env = environment_of e a.by in
          entered v over a conditions w w k h.0 ids made entry old new ss h.1 h.2 into (rest_has_piece a.by v None r tt) (ap (λ l. l ++ waiting_calls w) (rest_matches a.by v None r)) i (heads_are one i.view over conditions i.at (entered_around v over a conditions w w k made entry i around around.waiting))
      heads_are {a} {w} {n} {old} {new} {ss} (adds_called k ids entry made m behind part some waits into one) v over conditions at around =
          let h = here_part n v at (call k ids) part in
          let r = subst (RestIs views v) some (here_rest n v at) in
          let i = known.entries k entry into.stands in
          let u = w ++ (m, behind) ∷ [] in
          let terms : waiting_terms e u ≡ rest_terms e table a.by (Some m) ++ waiting_terms e w = waits_more w (m, behind) ∙ ap (λ l. (m, l) ∷ waiting_terms e w) waits.args in
          let calls : waiting_calls u ≡ rest_call t v.owner (environment_of e a.by) v.others ++ waiting_calls w = ap (map (place_call views)) terms ∙ map-append (place_call views) (rest_terms e table a.by (Some m)) (waiting_terms e w) ∙ ap (λ l. l ++ waiting_calls w) (rest_matches a.by v (Some m) r) in
          let begin = subst (λ l. AllByRecursion (BeginsEquation views) (map (λ (z : ℕ × List Term). z.0) l)) (sym terms) ((rest_begins a.by v (Some m) r).0, around.waiting) in
          entered v over a conditions w u k h.0 ids made entry old new ss h.1 h.2 into (rest_has_piece a.by v (Some m) r waits.covered) calls i (heads_are one i.view over conditions i.at (entered_around v over a conditions w u k made entry i around begin))
      heads_are {a} {w} {n} {old} {new} {ss} (adds_whole i part one) v over conditions at around =
          let h = here_part n v at (whole i) part in
          let z = to_part v.owner v.scope [] v.body [] over a conditions w old new ss (heads_are one (first_view v.owner v.scope [] v.body []) over conditions h.3 (to_first v.owner v.scope [] v.body [] over a conditions w (scope_same v (view_at v.owner v.scope [] v.body []) over a conditions w refl around))) in
          record { heads = z.heads; unfolds = subst (λ p. Unfolds t over v.owner (environment_of e a.by) p v.body v.others z.heads) (sym h.0) (subst (λ l. Unfolds t over v.owner (environment_of e a.by) [] v.body l z.heads) (sym h.1) z.unfolds); are = z.are; called = z.called; met = z.met; calls = z.calls; begin = z.begin }

      each_are : {a : PlainAround} {w : List (ℕ × List TermId)} {ns : List ℕ} {old new : List ℕ} {ss : List PlainFormSummand} → AddsEach e table a w ns old new ss → (o : ℕ) (xs : List Bound) (fs : List Factor) (path : Path) (b : Body) (over : List ℕ) (conditions : List Term) → OperandsAt views o xs fs path b ns → IsAround (view_at o xs path b fs) over a conditions w
          → HeadsAre (view_at o xs path b fs) over a conditions w old new ss
      each_are adds_none o xs fs path b over conditions h around = elim h [ ]
      each_are {a} {w} {old = old} {new = new} (adds_more {mid = mid} {ss = ss} one adds_none) o xs fs path b over conditions (last_at at) around =
          subst (HeadsAre (view_at o xs path b fs) over a conditions w old new) (sym (append-nil ss)) (to_part o xs path b fs over a conditions w old new ss (heads_are one (first_view o xs path b fs) over conditions at (to_first o xs path b fs over a conditions w around)))
      each_are {a} {w} {old = old} {new = new} (adds_more {mid = mid} {ss = ss} {us = us} one others) o xs fs path _ over conditions (more_at {p = p} {q = q} at each) around =
          let v = view_at o xs path (written_choice p q) fs in
          let first = to_part o xs (path ++ false ∷ []) p fs over a conditions w old mid ss (heads_are one (first_view o xs (path ++ false ∷ []) p fs) over conditions at (to_first o xs (path ++ false ∷ []) p fs over a conditions w (scope_same v (view_at o xs (path ++ false ∷ []) p fs) over a conditions w refl around))) in
          let second = each_are others o xs fs (path ++ true ∷ []) q over conditions each (scope_same v (view_at o xs (path ++ true ∷ []) q fs) over a conditions w refl around) in
          let both = pair v over a conditions w old mid new first.heads second.heads ss us first.called second.called first.are second.are first.met second.met first.calls second.calls first.begin second.begin in
          record { heads = first.heads ++ second.heads; unfolds = un_choice first.unfolds second.unfolds; are = both.are; called = both.called; met = both.met; calls = both.calls; begin = both.begin }
