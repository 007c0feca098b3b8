-- Names that open, and what they say of labels that communicate.
use Rattle.std.proofs.Common.{◌≡◌, List, [], ◌∷◌, ◌++◌, refl, sym, subst, inl, inr, append_assoc}
use Rattle.std.proofs.lemmas.List.{append-nil}
use Rattle.process_terms.specs.Names.{Name}
use Rattle.process_terms.specs.Theories.{Theory}
use Rattle.process_terms.specs.Labels.{Label, names, Inserted, at_front, further, Permuted, nothing_left, one_placed}
use Rattle.process_terms.specs.Communication.{Rule, Split, all_split, to_first, to_second, Grouped, all_grouped, stays, joins}
use Rattle.process_terms.specs.Processes.{allow}
use Rattle.process_terms.specs.Steps.{Passes, silent_allowed, named_allowed, communicated}
use Rattle.process_terms.proofs.PermutedLists.{permuted_refl, permuted_trans, permuted_append, permuted_either_way}
use Rattle.bisim_laws.specs.Completable.{OpensTo, stays_closed, opens, Opened, nothing_to_open, one_opened, IsCompletable, AreAllowed}
use Rattle.bisim_laws.specs.WithinLaws.{ComesFromOpened, CommunicationComesFromOpened, CompletableGoesToParts, AllowedMatterUnderAllow, CompletableMatterUnderAllow, CompletableMatterUnderComm}

-- ---- lists in some order
pub same_order : {A : Type 0} {xs ys : List A} → xs ≡ ys → Permuted xs ys
same_order {xs = xs} e = subst (λ z. Permuted xs z) e (permuted_refl xs)

nothing_appended : {A : Type 0} (xs ys : List A) → xs ++ ys ≡ [] → xs ≡ []
nothing_appended [] ys e = refl
nothing_appended (x ∷ xs) ys e = cc

nothing_behind : {A : Type 0} (xs ys : List A) → xs ++ ys ≡ [] → ys ≡ []
nothing_behind [] ys e = e
nothing_behind (x ∷ xs) ys e = cc

-- the middle of three lists first
pub middle_first : {A : Type 0} (xs ys zs : List A) → Permuted (xs ++ (ys ++ zs)) (ys ++ (xs ++ zs))
middle_first xs ys zs =
    permuted_trans (same_order (sym (append_assoc xs ys zs)))
    (permuted_trans (permuted_append (permuted_either_way xs ys) (permuted_refl zs)) (same_order (append_assoc ys xs zs)))

-- a split is a permutation
pub split_permuted : {A : Type 0} {xs ys zs : List A} → Split xs ys zs → Permuted zs (xs ++ ys)
split_permuted all_split = nothing_left
split_permuted (to_first s) = one_placed (split_permuted s) at_front
split_permuted {A} (to_second {y = y} {xs = xs} {ys = ys} s) = one_placed (split_permuted s) (behind xs ys)
  where
    behind : (us vs : List A) → Inserted y (us ++ vs) (us ++ y ∷ vs)
    behind [] vs = at_front
    behind (u ∷ us) vs = further (behind us vs)

pub split_names : {xs ys zs : Label} → Split xs ys zs → Split (names xs) (names ys) (names zs)
split_names all_split = all_split
split_names (to_first s) = to_first (split_names s)
split_names (to_second s) = to_second (split_names s)

-- ---- the first law
came_from : {th : Theory} (rules : List Rule) {m n rest : Label} → Grouped th rules m n rest → ComesFromOpened rules m n
came_from rules all_grouped = record { opened = []; opens = nothing_to_open; same = nothing_left }
came_from rules (stays {a = a} g) =
    let r = came_from rules g in
    record { opened = a.name ∷ r.opened; opens = one_opened stays_closed r.opens; same = one_placed r.same at_front }
came_from rules (joins {c = c} {a = a} {others = others} {behind = behind} {m = m} i s g e more) =
    let r = came_from rules more in
    record {
      opened = c.left ++ r.opened;
      opens = one_opened (opens i) r.opens;
      same = permuted_trans (one_placed (split_permuted (split_names s)) at_front) (permuted_append g.named r.same);
    }

pub comes_from_opened : CommunicationComesFromOpened
comes_from_opened th rules m n (communicated c) = came_from rules c.grouped

-- ---- in another order
-- what opens with a name put in
pub record OpensWith (rules : List Rule) (piece os vs : List Name) : Type 0 where
  pub opened : List Name
  pub is_opened : Opened rules vs opened
  pub same : Permuted (piece ++ os) opened

put_in : {rules : List Rule} {n : Name} {ns vs piece os : List Name} → OpensTo rules n piece → Inserted n ns vs → Opened rules ns os → OpensWith rules piece os vs
put_in {piece = piece} {os = os} o at_front h = record { opened = piece ++ os; is_opened = one_opened o h; same = permuted_refl (piece ++ os) }
put_in {piece = piece} o (further i) (one_opened {piece = first} {os = os} p h) =
    let r = put_in o i h in
    record { opened = first ++ r.opened; is_opened = one_opened p r.is_opened; same = permuted_trans (middle_first piece first os) (permuted_append (permuted_refl first) r.same) }

pub opened_along : {rules : List Rule} {ns vs os : List Name} → Permuted ns vs → Opened rules ns os → OpensWith rules [] os vs
opened_along nothing_left nothing_to_open = record { opened = []; is_opened = nothing_to_open; same = nothing_left }
opened_along (one_placed p i) (one_opened {piece = piece} {os = os} o h) =
    let r = opened_along p h in
    let k = put_in o i r.is_opened in
    record { opened = k.opened; is_opened = k.is_opened; same = permuted_trans (permuted_append (permuted_refl piece) r.same) k.same }

-- names as they are
stay_closed : (rules : List Rule) (ns : List Name) → Opened rules ns ns
stay_closed rules [] = nothing_to_open
stay_closed rules (n ∷ ns) = one_opened stays_closed (stay_closed rules ns)

-- nothing opens to nothing alone
opened_nothing : {rules : List Rule} {os : List Name} → Opened rules [] os → os ≡ []
opened_nothing nothing_to_open = refl

permuted_to_nothing : {A : Type 0} {xs : List A} → Permuted xs [] → xs ≡ []
permuted_to_nothing nothing_left = refl
permuted_to_nothing (one_placed p i) = elim i [ ]

-- ---- which labels matter below
pub completed : (rules : List Rule) (sets : List (List Name)) (m n : Label) → ComesFromOpened rules m n → AreAllowed sets (names n) → IsCompletable rules sets (names m)
completed rules sets m n h (inl e) = inl (permuted_to_nothing (subst (λ z. Permuted (names m) z) (opened_nothing (subst (λ z. Opened rules z h.opened) e h.opens)) h.same))
completed rules sets m n h (inr v) =
    let r = opened_along v.same h.opens in
    inr (record { set = v.set; among = v.among; opened = r.opened; opens = r.is_opened; others = []; contained = subst (λ z. Permuted z r.opened) (sym (append-nil (names m))) (permuted_trans h.same r.same) })

pub under_comm : CompletableMatterUnderComm
under_comm th rules sets m n p a = completed rules sets m n (comes_from_opened th rules m n p) a

pub allow_keeps : (th : Theory) (sets : List (List Name)) (m n : Label) → Passes th (allow sets) m n → AreAllowed sets (names m)
allow_keeps th sets m n silent_allowed = inl refl
allow_keeps th sets m n (named_allowed v i p) = inr (record { set = v; among = i; same = p })

pub under_allow : AllowedMatterUnderAllow
under_allow th sets m n p a = allow_keeps th sets m n p

pub allowed_completable : (rules : List Rule) (sets : List (List Name)) (ns : List Name) → AreAllowed sets ns → IsCompletable rules sets ns
allowed_completable rules sets ns (inl e) = inl e
allowed_completable rules sets ns (inr v) = inr (record { set = v.set; among = v.among; opened = v.set; opens = stay_closed rules v.set; others = []; contained = subst (λ z. Permuted z v.set) (sym (append-nil ns)) v.same })

pub under_allow_alone : CompletableMatterUnderAllow
under_allow_alone th sets m n p a = allowed_completable [] sets (names m) (allow_keeps th sets m n p)

-- ---- parts
first_part : (rules : List Rule) (sets : List (List Name)) (ms ns : List Name) → IsCompletable rules sets (ms ++ ns) → IsCompletable rules sets ms
first_part rules sets ms ns (inl e) = inl (nothing_appended ms ns e)
first_part rules sets ms ns (inr h) = inr (record { set = h.set; among = h.among; opened = h.opened; opens = h.opens; others = ns ++ h.others; contained = subst (λ z. Permuted z h.opened) (append_assoc ms ns h.others) h.contained })

second_part : (rules : List Rule) (sets : List (List Name)) (ms ns : List Name) → IsCompletable rules sets (ms ++ ns) → IsCompletable rules sets ns
second_part rules sets ms ns (inl e) = inl (nothing_behind ms ns e)
second_part rules sets ms ns (inr h) = inr (record {
  set = h.set;
  among = h.among;
  opened = h.opened;
  opens = h.opens;
  others = ms ++ h.others;
  contained = permuted_trans (middle_first ns ms h.others) (subst (λ z. Permuted z h.opened) (append_assoc ms ns h.others) h.contained);
})

pub goes_to_parts : CompletableGoesToParts
goes_to_parts rules sets = record { first = first_part rules sets; second = second_part rules sets }
