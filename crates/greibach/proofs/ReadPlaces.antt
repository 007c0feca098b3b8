-- Places that are read fit.
use Rattle.std.proofs.Common.{◌≡◌, ◌<◌, ◌+◌, ◌⊎◌, inl, inr, ⊎_elim, ℕ, List, [], ◌∷◌, ◌++◌, map, length, get_or, take, refl, sym, ap, ◌∙◌, subst, arith, append_assoc, append-nil, Option, None, Some}
use Rattle.std.specs.Prelude.{◌↔◌, IfSome, IfOk, OnOk, Result, Ok, Err, slice_get}
use Rattle.std.proofs.lemmas.List.{length-map, map-append, take_more}
use Rattle.std.specs.List.{All, Contains}
use Rattle.std.proofs.lemmas.List.Elements.{All-nil, All-cons, All-head, All-tail, All-push, All-append, All-weaker, All-filter, All-contains, Contains-append_left, Contains-append_right}
use Rattle.std.proofs.lemmas.Option.{slice_get_within, get_or_from_slice_get}
use Rattle.data_theory.specs.declared.ids.ProcId.{ProcId}
use Rattle.data_theory.specs.declared.ids.SortId.{SortId}
use Rattle.data_theory.specs.declared.ids.VarId.{VarId}
use Rattle.data_theory.specs.declared.ids.TermId.{TermId}
use Rattle.data_theory.specs.Complete.{BeginsWith}
use Rattle.data_theory.specs.Environments.{IsOver, AreOver}
use Rattle.data_theory.specs.Signature.{Sig}
use Rattle.data_theory.specs.IdTrees.{Tree, Trees, variable, numeral, function, none, more}
use Rattle.data_theory.specs.IdTerms.{term_under, terms_under}
use Rattle.data_theory.proofs.PlaceLemmas.{read_front, read_last}
use Rattle.term_pool.specs.HeadTrees.{tree_at, IsIn, AreIn}
use Rattle.term_pool.proofs.Lists.{contains_none, contains_head}
use Rattle.process_terms.specs.PlainProcesses.{PlainAction, PlainDefinition, plain_action}
use Rattle.process_terms.specs.declared.labels.Action.{Action}
use Rattle.process_terms.specs.Meanings.{ReadsOnly}
use Rattle.process_terms.specs.SignatureEntries.{entries_of}
use Rattle.lps_core.specs.Fitting.{IsVariable}
use Rattle.lps_core.specs.TreeSummands.{numbers_of}
use Rattle.lps_core.proofs.Members.{map_contains, contains_map, all_from}
use Rattle.lps_core.proofs.Staying.{term_is}
use Rattle.proc_unfold.specs.FittingModels.{TermFits, TermsFit, ActionFits, CallFits}
use Rattle.greibach.specs.PlacesInCode.{PlainPart, delta, act, choice, cond, sum, call, whole, PlainPlace, plain_place}
use Rattle.greibach.specs.declared.places.Place.{Place}
use Rattle.greibach.specs.OccurringVariables.{Occurs, OccursAmong, OccursIn, label_terms, those_among, params_at, rest_params}
use Rattle.greibach.specs.FittingPlaces.{AreAmong, IsThere, PartFits, PlaceFits, ReadsFittingly, HasRead}
use Rattle.greibach.specs.Readings.{IsPushed, AreNeeded}
use Rattle.greibach.proofs.AddedVariables.{kept_among, among_is_there}

-- ---- lists that begin with others
pub begins_itself : {A : Type 0} (xs : List A) → BeginsWith xs xs
begins_itself xs = ([], sym (append-nil xs))

pub begins_then : {A : Type 0} (xs ys zs : List A) → BeginsWith xs ys → BeginsWith ys zs → BeginsWith xs zs
begins_then xs ys zs f h = (f.0 ++ h.0, h.1 ∙ ap (λ l. l ++ h.0) f.1 ∙ append_assoc xs f.0 h.0)

pub begins_pushed : {A : Type 0} (xs ys : List A) (x : A) → ys ≡ xs ++ x ∷ [] → BeginsWith xs ys
begins_pushed xs ys x e = (x ∷ [], e)

pub still_read : {A : Type 0} (xs ys : List A) (k : ℕ) (x : A) → BeginsWith xs ys → slice_get xs k ≡ Some x → slice_get ys k ≡ Some x
still_read xs ys k x b e = subst (λ l. slice_get l k ≡ Some x) (sym b.1) (read_front xs b.0 k x e)

-- ---- lists of variables
pub from_members : (xs ys : List VarId) → ((x : VarId) → Contains xs x → Contains ys x) → AreAmong xs ys
from_members xs ys h v i = let r = contains_map (λ (x : VarId). x.0) xs v i in subst (Contains (numbers_of ys)) (sym r.1.1) (map_contains (λ (x : VarId). x.0) ys r.0 (h r.0 r.1.0))

pub to_members : (xs ys : List VarId) → AreAmong xs ys → (x : VarId) → Contains xs x → Contains ys x
to_members xs ys h x i =
    let r = contains_map (λ (z : VarId). z.0) ys x.0 (h x.0 (map_contains (λ (z : VarId). z.0) xs x i)) in
    let same : r.0 ≡ x = ap (λ n. record { 0 = n }) (sym r.1.1) in
    subst (Contains ys) same r.1.0

pub among_then : (xs ys zs : List VarId) → AreAmong xs ys → AreAmong ys zs → AreAmong xs zs
among_then xs ys zs f h v i = h v (f v i)

pub among_front : (xs ys : List VarId) → AreAmong xs (xs ++ ys)
among_front xs ys = from_members xs (xs ++ ys) (λ x i. Contains-append_left xs ys x i)

-- ---- terms over the variables that occur
mutual
  over_from : (g : Sig) (xs : List ℕ) (t : Tree) → ((v : VarId) → Occurs v t → Contains xs v.0) → IsOver xs (term_under g t)
  over_from g xs (variable x) h = h x refl
  over_from g xs (numeral a z) h = tt
  over_from g xs (function f ts) h = all_over_from g xs ts h

  all_over_from : (g : Sig) (xs : List ℕ) (ts : Trees) → ((v : VarId) → OccursAmong v ts → Contains xs v.0) → AreOver xs (terms_under g ts)
  all_over_from g xs none h = tt
  all_over_from g xs (more t ts) h = (over_from g xs t (λ v k. h v (inl k)), all_over_from g xs ts (λ v k. h v (inr k)))

mutual
  over_occurs : (g : Sig) (xs : List ℕ) (t : Tree) → IsOver xs (term_under g t) → (v : VarId) → Occurs v t → Contains xs v.0
  over_occurs g xs (variable x) h v k = subst (λ (z : VarId). Contains xs z.0) k h
  over_occurs g xs (numeral a z) h v k = absurd k
  over_occurs g xs (function f ts) h v k = all_over_occurs g xs ts h v k

  all_over_occurs : (g : Sig) (xs : List ℕ) (ts : Trees) → AreOver xs (terms_under g ts) → (v : VarId) → OccursAmong v ts → Contains xs v.0
  all_over_occurs g xs none h v k = absurd k
  all_over_occurs g xs (more t ts) h v k = ⊎_elim (λ j. over_occurs g xs t h.0 v j) (λ j. all_over_occurs g xs ts h.1 v j) k

-- those in scope that are needed
module _ (g : Sig) (ts : List Tree) (vars scope keys : List VarId) (among : AreAmong vars scope) where
  reads_narrowed : (id : TermId) → IsIn ts id → ((v : VarId) → Occurs v (tree_at ts id) → Contains keys v) → ReadsOnly (entries_of g ts) vars id → ReadsOnly (entries_of g ts) (those_among scope keys) id
  reads_narrowed id within needed reads =
      subst (IsOver (numbers_of (those_among scope keys))) (sym (term_is g ts id within))
      (over_from g (numbers_of (those_among scope keys)) (tree_at ts id) (λ v k.
      let old = over_occurs g (numbers_of vars) (tree_at ts id) (subst (IsOver (numbers_of vars)) (term_is g ts id within) reads) v k in
      let r = contains_map (λ (z : VarId). z.0) scope v.0 (among v.0 old) in
      let same : r.0 ≡ v = ap (λ n. record { 0 = n }) (sym r.1.1) in
      map_contains (λ (z : VarId). z.0) (those_among scope keys) v (kept_among scope keys v (subst (Contains scope) same r.1.0) (needed v k))))

  pub term_narrowed : (s : SortId) (id : TermId) → ((v : VarId) → OccursIn ts (id ∷ []) v → Contains keys v) → TermFits g ts vars s id → TermFits g ts (those_among scope keys) s id
  term_narrowed s id needed h = record { term = h.term; over = reads_narrowed id h.term.within (λ v k. needed v (id, contains_head id [], k)) h.over }

  pub terms_narrowed : (ss : List SortId) (ids : List TermId) → ((v : VarId) → OccursIn ts ids v → Contains keys v) → TermsFit g ts vars ss ids → TermsFit g ts (those_among scope keys) ss ids
  terms_narrowed ss ids needed h = record {
    terms = h.terms;
    over = all_from (ReadsOnly (entries_of g ts) (those_among scope keys)) ids (λ id i. reads_narrowed id (All-contains (IsIn ts) ids id h.terms.within i) (λ v k. needed v (id, i, k)) (All-contains (ReadsOnly (entries_of g ts) vars) ids id h.over i));
  }

  action_narrowed : (a : PlainAction) → ((v : VarId) → OccursIn ts a.args v → Contains keys v) → ActionFits g ts vars a → ActionFits g ts (those_among scope keys) a
  action_narrowed a needed h =
      let args = terms_narrowed h.action.key.sorts a.args needed (record { terms = h.action.args; over = h.over }) in
      record { action = h.action; over = args.over }

  pub label_narrowed : (m : List PlainAction) → ((v : VarId) → OccursIn ts (label_terms m) v → Contains keys v) → All (ActionFits g ts vars) m → All (ActionFits g ts (those_among scope keys)) m
  label_narrowed [] needed h = All-nil (ActionFits g ts (those_among scope keys))
  label_narrowed (a ∷ m) needed h =
      All-cons (ActionFits g ts (those_among scope keys)) a m
      (action_narrowed a (λ v k. needed v (k.0, Contains-append_left a.args (label_terms m) k.0 k.1, k.2)) (All-head (ActionFits g ts vars) a m h))
      (label_narrowed m (λ v k. needed v (k.0, Contains-append_right a.args (label_terms m) k.0 k.1, k.2)) (All-tail (ActionFits g ts vars) a m h))

pub label_within : (g : Sig) (ts : List Tree) (vars : List VarId) (m : List PlainAction) → All (ActionFits g ts vars) m → AreIn ts (label_terms m)
label_within g ts vars [] h = All-nil (IsIn ts)
label_within g ts vars (a ∷ m) h = All-append (IsIn ts) a.args (label_terms m) (All-head (ActionFits g ts vars) a m h).action.args.within (label_within g ts vars m (All-tail (ActionFits g ts vars) a m h))

-- ---- places among places
abbrev pub there_grown : (ps qs : List PlainPlace) (xs : List VarId) (n : ℕ) → BeginsWith ps qs → IsThere ps xs n → IsThere qs xs n
there_grown ps qs xs n b h = record { place = h.place; stands = still_read ps qs n h.place b h.stands; among = h.among }

abbrev pub there_wider : (ps : List PlainPlace) (xs ys : List VarId) (n : ℕ) → AreAmong xs ys → IsThere ps xs n → IsThere ps ys n
there_wider ps xs ys n w h = record { place = h.place; stands = h.stands; among = among_then h.place.params xs ys h.among w }

abbrev pub there_narrowed : (ps : List PlainPlace) (scope keys : List VarId) (n : ℕ) (h : IsThere ps scope n) → ((v : VarId) → Contains h.place.params v → Contains keys v) → IsThere ps (those_among scope keys) n
there_narrowed ps scope keys n h needed = record {
  place = h.place;
  stands = h.stands;
  among = from_members h.place.params (those_among scope keys) (λ x i. kept_among scope keys x (to_members h.place.params scope h.among x i) (needed x i));
}

pub there_within : (ps : List PlainPlace) (xs : List VarId) (n : ℕ) → IsThere ps xs n → n < length ps
there_within ps xs n h = slice_get_within ps n h.place h.stands

pub params_are : (ps : List PlainPlace) (xs : List VarId) (n : ℕ) (h : IsThere ps xs n) → params_at ps n ≡ h.place.params
params_are ps xs n h = ap (λ (p : PlainPlace). p.params) (get_or_from_slice_get ps n h.place _ h.stands)

pub rest_wider : (ps qs : List PlainPlace) (xs ys : List VarId) (rest : Option ℕ) → BeginsWith ps qs → AreAmong xs ys → IfSome rest (IsThere ps xs) → IfSome rest (IsThere qs ys)
rest_wider ps qs xs ys None b w h = tt
rest_wider ps qs xs ys (Some n) b w h = there_wider qs xs ys n w (there_grown ps qs xs n b h)

pub rest_within : (ps : List PlainPlace) (xs : List VarId) (rest : Option ℕ) → IfSome rest (IsThere ps xs) → IfSome rest (λ n. n < length ps)
rest_within ps xs None h = tt
rest_within ps xs (Some n) h = there_within ps xs n h

pub rest_narrowed : (ps : List PlainPlace) (scope keys : List VarId) (rest : Option ℕ) → ((v : VarId) → Contains (rest_params ps rest) v → Contains keys v) → IfSome rest (IsThere ps scope) → IfSome rest (IsThere ps (those_among scope keys))
rest_narrowed ps scope keys None needed h = tt
rest_narrowed ps scope keys (Some n) needed h = there_narrowed ps scope keys n h (λ v i. needed v (subst (λ l. Contains l v) (sym (params_are ps scope n h)) i))

-- ---- growth
module _ (g : Sig) (ts : List Tree) (ds : List PlainDefinition) (old reached : List ProcId) (more_reached : BeginsWith old reached) (ps qs : List PlainPlace) (more_places : BeginsWith ps qs) where
  part_grown : (xs : List VarId) (p : PlainPart) → PartFits g ts ds old ps xs p → PartFits g ts ds reached qs xs p
  part_grown xs delta h = tt
  part_grown xs (act m) h = h
  part_grown xs (choice ns) h = All-weaker (IsThere ps xs) (IsThere qs xs) (λ n k. there_grown ps qs xs n more_places k) ns h
  part_grown xs (cond c i j) h = (h.0, there_grown ps qs xs i more_places h.1, there_grown ps qs xs j more_places h.2)
  part_grown xs (sum x i) h = (h.0, there_grown ps qs (x ∷ xs) i more_places h.1)
  part_grown xs (call k ids) h = record { process = h.process; stands = still_read old reached k h.process more_reached h.stands; fits = h.fits }
  part_grown xs (whole i) h = there_grown ps qs xs i more_places h

  pub place_grown : (p : PlainPlace) → PlaceFits g ts ds old ps p → PlaceFits g ts ds reached qs p
  place_grown p h = record { params = h.params; part = part_grown p.params p.part h.part; rest = rest_wider ps qs p.params p.params p.rest more_places (λ v i. i) h.rest }

module _ (g : Sig) (ts : List Tree) (ds : List PlainDefinition) where
  -- a place that fits is read
  pub read_pushed : (ps : List PlainPlace) (old reached : List ProcId) (scope : List VarId) (p : PlainPlace) (new : List PlainPlace) (n : ℕ) → ReadsFittingly g ts ds ps old scope → BeginsWith old reached → All (λ (x : ProcId). x.0 < length ds) reached
      → PlaceFits g ts ds reached ps p → AreAmong p.params scope → new ≡ ps ++ p ∷ [] → n ≡ length ps → HasRead g ts ds ps new old reached scope n
  read_pushed ps old reached scope p new n so_far b known fits among e is =
      let begins : BeginsWith ps new = begins_pushed ps new p e in
      record {
        places_begin = begins;
        reached_begin = b;
        fits = record {
          places = subst (All (PlaceFits g ts ds reached new)) (sym e) (All-push (PlaceFits g ts ds reached new) ps p
              (All-weaker (PlaceFits g ts ds old ps) (PlaceFits g ts ds reached new) (λ q k. place_grown g ts ds old reached b ps new begins q k) ps so_far.places)
              (place_grown g ts ds reached reached (begins_itself reached) ps new begins p fits));
          variables = so_far.variables;
          known = known;
        };
        there = record { place = p; stands = subst (λ l. slice_get l n ≡ Some p) (sym e) (subst (λ k. slice_get (ps ++ p ∷ []) k ≡ Some p) (sym is) (read_last ps p)); among = among };
      }

  -- with the parameters that are needed
  pub read_needed : (ps : List PlainPlace) (old reached : List ProcId) (scope keys : List VarId) (part : PlainPart) (rest : Option ℕ) (new : List PlainPlace) (n : ℕ) → ReadsFittingly g ts ds ps old scope → BeginsWith old reached → All (λ (x : ProcId). x.0 < length ds) reached
      → IfSome rest (IsThere ps scope) → ((v : VarId) → Contains (rest_params ps rest) v → Contains keys v) → PartFits g ts ds reached ps (those_among scope keys) part → IsPushed ps part rest (those_among scope keys) new n → HasRead g ts ds ps new old reached scope n
  read_needed ps old reached scope keys part rest new n so_far b known rest_there needed fits pushed =
      read_pushed ps old reached scope (record { part = part; rest = rest; params = those_among scope keys }) new n so_far b known
      (record { params = All-filter _ (IsVariable g) scope so_far.variables; part = fits; rest = rest_narrowed ps scope keys rest needed rest_there })
      (from_members (those_among scope keys) scope (λ x i. (among_is_there scope keys x i).0)) pushed.0 pushed.1

  pub read_then : (ps qs us : List PlainPlace) (old mid reached : List ProcId) (scope other : List VarId) (n m : ℕ) → HasRead g ts ds ps qs old mid scope n → HasRead g ts ds qs us mid reached other m → HasRead g ts ds ps us old reached other m
  read_then ps qs us old mid reached scope other n m h k = record {
    places_begin = begins_then ps qs us h.places_begin k.places_begin;
    reached_begin = begins_then old mid reached h.reached_begin k.reached_begin;
    fits = k.fits;
    there = k.there;
  }

  -- what holds in a larger scope
  pub fewer_variables : (ps : List PlainPlace) (reached : List ProcId) (scope fewer : List VarId) → ((x : VarId) → Contains fewer x → Contains scope x) → ReadsFittingly g ts ds ps reached scope → ReadsFittingly g ts ds ps reached fewer
  fewer_variables ps reached scope fewer w h = record { places = h.places; variables = all_from (IsVariable g) fewer (λ x i. All-contains (IsVariable g) scope x h.variables (w x i)); known = h.known }

-- ---- the arguments of a label
pub terms_behind : (m n : List PlainAction) → label_terms (m ++ n) ≡ label_terms m ++ label_terms n
terms_behind [] n = refl
terms_behind (a ∷ m) n = ap (λ l. a.args ++ l) (terms_behind m n) ∙ sym (append_assoc a.args (label_terms m) (label_terms n))

-- ---- what a push gives
begins_same : {A : Type 0} (xs ys : List A) → ys ≡ xs → BeginsWith xs ys
begins_same xs ys e = ([], e ∙ sym (append-nil xs))

module _ (g : Sig) (ts : List Tree) (ds : List PlainDefinition) {E : Type 0} (ps : List PlainPlace) where
  -- nothing else was reached
  pub placed : (r : Result ℕ E) (old reached : List ProcId) (scope keys : List VarId) (part : PlainPart) (rest : Option ℕ) (terms : List TermId) (new : List PlainPlace) → ReadsFittingly g ts ds ps old scope → OnOk r (reached ≡ old)
      → IfSome rest (IsThere ps scope) → AreNeeded ts terms ps rest keys → PartFits g ts ds reached ps (those_among scope keys) part → IfOk r (λ n. IsPushed ps part rest (those_among scope keys) new n) → IfOk r (λ n. HasRead g ts ds ps new old reached scope n)
  placed (Err e) old reached scope keys part rest terms new so_far same there needed fits pushed = tt
  placed (Ok n) old reached scope keys part rest terms new so_far same there needed fits pushed =
      read_needed g ts ds ps old reached scope keys part rest new n so_far (begins_same old reached same) (subst (All (λ (x : ProcId). x.0 < length ds)) (sym same) so_far.known) there (λ v i. (needed v).1 (inr i)) fits pushed

  -- and where a process may have been reached
  pub called : (r : Result ℕ E) (old mid reached : List ProcId) (scope keys vars : List VarId) (k : ℕ) (x : ProcId) (ids : List TermId) (rest : Option ℕ) (new : List PlainPlace) → ReadsFittingly g ts ds ps old scope → BeginsWith old mid
      → slice_get mid k ≡ Some x → ((y : ProcId) → Contains mid y → Contains old y ⊎ (x ≡ y)) → OnOk r (reached ≡ mid) → IfSome rest (IsThere ps scope) → AreNeeded ts ids ps rest keys → AreAmong vars scope → CallFits g ts ds vars x ids
      → IfOk r (λ n. IsPushed ps (call k ids) rest (those_among scope keys) new n) → IfOk r (λ n. HasRead g ts ds ps new old reached scope n)
  called (Err e) old mid reached scope keys vars k x ids rest new so_far b at only same there needed among fits pushed = tt
  called (Ok n) old mid reached scope keys vars k x ids rest new so_far b at only same there needed among fits pushed =
      let known : All (λ (y : ProcId). y.0 < length ds) mid = all_from (λ (y : ProcId). y.0 < length ds) mid (λ y i. ⊎_elim
      (λ j. All-contains (λ (z : ProcId). z.0 < length ds) old y so_far.known j)
      (λ e. subst (λ (z : ProcId). z.0 < length ds) e (slice_get_within ds x.0 fits.definition fits.stands))
      (only y i)) in
      subst (λ l. HasRead g ts ds ps new old l scope n) (sym same)
      (read_needed g ts ds ps old mid scope keys (call k ids) rest new n so_far b known there (λ v i. (needed v).1 (inr i))
      (record {
        process = x;
        stands = at;
        fits = record { definition = fits.definition; stands = fits.stands; args = terms_narrowed g ts vars scope keys among _ ids (λ v i. (needed v).1 (inl i)) fits.args };
      }) pushed)

pub rest_in_items : (items l : List Place) (xs : List VarId) (rest : Option ℕ) → IfSome rest (IsThere (map plain_place items) xs) → l ≡ items → IfSome rest (λ n. n < length l)
rest_in_items items l xs None h e = tt
rest_in_items items l xs (Some n) h e =
    let w = there_within (map plain_place items) xs n h in
    let m = length-map items plain_place in
    let k = ap length e in
    omega (arith, w, m, k)

pub needed_items : (ts : List Tree) (terms : List TermId) (items l : List Place) (rest : Option ℕ) (keys : List VarId) → l ≡ items → AreNeeded ts terms (map plain_place l) rest keys → AreNeeded ts terms (map plain_place items) rest keys
needed_items ts terms items l rest keys e h = subst (λ z. AreNeeded ts terms (map plain_place z) rest keys) e h

-- the variables of terms, and then those of a rest
pub needed_both : (ts : List Tree) (terms : List TermId) (ps : List PlainPlace) (rest : Option ℕ) (old mid keys : List VarId) → old ≡ [] → ((v : VarId) → Contains mid v ↔ (Contains old v ⊎ OccursIn ts terms v)) → ((v : VarId) → Contains keys v ↔ (Contains mid v ⊎ Contains (rest_params ps rest) v))
    → AreNeeded ts terms ps rest keys
needed_both ts terms ps rest old mid keys e h k v = (
  λ i. ⊎_elim (λ j. ⊎_elim (λ m. absurd (contains_none v (subst (λ l. Contains l v) e m))) (λ m. inl m) ((h v).0 j)) (λ j. inr j) ((k v).0 i),
  λ u. ⊎_elim (λ j. (k v).1 (inl ((h v).1 (inr j)))) (λ j. (k v).1 (inr j)) u,
)

pub one_more_action : (items : List Action) (i : ℕ) (a : Action) (terms new : List TermId) → terms ≡ label_terms (map plain_action (take i items)) → i < length items → a ≡ get_or items i a → new ≡ terms ++ a.args.items → new ≡ label_terms (map plain_action (take (i + 1) items))
one_more_action items i a terms new h l e n =
    n
    ∙ ap (λ z. z ++ a.args.items) h
    ∙ sym (ap (λ z. label_terms (map plain_action z)) (take_more items i a l ∙ ap (λ z. take i items ++ z ∷ []) (sym e))
    ∙ ap label_terms (map-append plain_action (take i items) (a ∷ []))
    ∙ terms_behind (map plain_action (take i items)) (plain_action a ∷ [])
    ∙ ap (λ z. label_terms (map plain_action (take i items)) ++ z) (append-nil a.args.items))

pub params_items : (items l : List Place) (n : ℕ) (keys later : List VarId) → l ≡ items → ((v : VarId) → Contains later v ↔ (Contains keys v ⊎ Contains (params_at (map plain_place l) n) v)) → (v : VarId) → Contains later v ↔ (Contains keys v ⊎ Contains (params_at (map plain_place items) n) v)
params_items items l n keys later e h = subst (λ z. (v : VarId) → Contains later v ↔ (Contains keys v ⊎ Contains (params_at (map plain_place z) n) v)) e h
