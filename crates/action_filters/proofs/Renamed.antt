-- What `rename` over numbers means over texts.
use Rattle.std.proofs.Common.{◌≡◌, ◌<◌, ◌&&◌, ◌⊎◌, inl, inr, ⊎_elim, ℕ, zero, suc, Bool, true, false, List, [], ◌∷◌, map, length, get_or, refl, sym, ap, ap₂, ◌∙◌, subst, Some, arith, if◌then◌else◌, true≢false}
use Rattle.std.specs.Prelude.{Contains, slice_get}
use Rattle.std.specs.List.{All}
use Rattle.std.specs.Bool.{Decides}
use Rattle.std.specs.Str.{bytes_eq}
use Rattle.std.proofs.lemmas.Bool.{eqb-true, eq-eqb}
use Rattle.std.proofs.lemmas.List.Elements.{All-nil, All-cons, All-head, All-tail}
use Rattle.std.proofs.lemmas.Slice.Eq.{bytes_eq-Decides}
use Rattle.data_theory.specs.declared.ids.NameId.{NameId}
use Rattle.data_theory.specs.declared.ids.SortId.{SortId}
use Rattle.data_theory.specs.Keys.{Key, key}
use Rattle.data_theory.specs.Places.{HaveOnePlace}
use Rattle.data_theory.specs.declared.actions.ActEntry.{ActEntry}
use Rattle.data_theory.specs.Actions.{actions_of}
use Rattle.data_theory.specs.Signature.{Sig}
use Rattle.data_theory.specs.WholeSignatures.{IsSignature}
use Rattle.data_theory.specs.IdTrees.{Tree}
use Rattle.process_terms.specs.Names.{Name}
use Rattle.process_terms.specs.Processes.{Renaming}
use Rattle.process_terms.specs.PlainProcesses.{PlainAction}
use Rattle.process_terms.specs.Meanings.{ActionEntry, name_at, term_at, action_of, label_of, renaming_of}
use Rattle.process_terms.specs.SignatureEntries.{entries_of}
use Rattle.bisim_laws.proofs.Firing.{contains_first, contains_later}
use Rattle.lps_core.specs.Fitting.{IsActionOf}
use Rattle.lps_core.proofs.Members.{In, here, there as behind, in_contains, contains_in, contains_map}
use Rattle.lps_core.proofs.Staying.{action_is}
use Rattle.action_filters.specs.LabelFilters.{new_name}
use Rattle.action_filters.specs.Filtering as meant
use Rattle.action_filters.specs.Filtering.{texts, pairs_of}
use Rattle.action_filters.specs.Filters.{same_name, sort_numbers, same_key, key_of_action, naming, place_of_key, renamed_key, renamed_action, renamed_label, IsNameIn, RenamesOnce, HaveTargets}
use Rattle.action_filters.proofs.Along.{new_name_along}
use Rattle.action_filters.proofs.Meant.{IsMeant, there, key_is, name_within, names_alike, names_along}
use Rattle.action_filters.proofs.TheoryLabels as theory
use Rattle.action_filters.proofs.TheoryLabels.{AreFunctional}

-- ---- the place of a key
sorts_differ : (ss rs : List SortId) → sort_numbers ss ≡ sort_numbers rs → ss ≡ rs
sorts_differ [] [] e = refl
sorts_differ [] (r ∷ rs) e = cc
sorts_differ (s ∷ ss) [] e = cc
sorts_differ (s ∷ ss) (r ∷ rs) e =
    let first : s.0 ≡ r.0 = cc in
    let rest : sort_numbers ss ≡ sort_numbers rs = cc in
    ap₂ (λ (i : ℕ) (l : List SortId). record { 0 = i } ∷ l) first (sorts_differ ss rs rest)

pub same_name_decides : (x y : NameId) → Decides (same_name x y) (x ≡ y)
same_name_decides x y = (λ e. ap (λ (i : ℕ). record { 0 = i }) (eqb-true x.0 y.0 e), λ e. eq-eqb x.0 y.0 (ap (λ (z : NameId). z.0) e))

same_key_true : (k j : Key) → same_key k j ≡ true → k ≡ j
same_key_true k j e = by (same_name k.name j.name) refl (bytes_eq (sort_numbers k.sorts) (sort_numbers j.sorts)) refl e
  where
    by : (b : Bool) → same_name k.name j.name ≡ b → (c : Bool) → bytes_eq (sort_numbers k.sorts) (sort_numbers j.sorts) ≡ c → (b && c) ≡ true → k ≡ j
    by true p true q e =
        ap₂ (λ (n : NameId) (ss : List SortId). key n ss) ((same_name_decides k.name j.name).0 p)
        (sorts_differ k.sorts j.sorts ((bytes_eq-Decides (sort_numbers k.sorts) (sort_numbers j.sorts)).0 q))
    by true p false q e = absurd (true≢false (sym e))
    by false p c q e = absurd (true≢false (sym e))

same_key_itself : (k : Key) → same_key k k ≡ true
same_key_itself k = ap₂ (λ b c. b && c) ((same_name_decides k.name k.name).1 refl) ((bytes_eq-Decides (sort_numbers k.sorts) (sort_numbers k.sorts)).1 refl)

-- the key stands at its place
pub place_reads : (ks : List Key) (k : Key) → In k ks → slice_get ks (place_of_key ks k) ≡ Some k
place_reads [] k i = elim i [ ]
place_reads (j ∷ js) _ here = subst (λ b. slice_get (j ∷ js) (if b then 0 else suc (place_of_key js j)) ≡ Some j) (sym (same_key_itself j)) refl
place_reads (j ∷ js) k (behind i) = by (same_key j k) refl (place_reads js k i)
  where
    by : (b : Bool) → same_key j k ≡ b → slice_get js (place_of_key js k) ≡ Some k → slice_get (j ∷ js) (if b then 0 else suc (place_of_key js k)) ≡ Some k
    by true e h = ap (λ z. Some z) (same_key_true j k e)
    by false e h = h

pub at_in : {A : Type 0} (xs : List A) (i : ℕ) (x : A) → slice_get xs i ≡ Some x → In x xs
at_in [] i x e = cc
at_in (y ∷ ys) zero x e = let q : y ≡ x = cc in subst (λ z. In z (y ∷ ys)) q here
at_in (y ∷ ys) (suc i) x e = behind (at_in ys i x e)

-- and nowhere else
pub place_is : (ks : List Key) (k : Key) (i : ℕ) → HaveOnePlace ks → slice_get ks i ≡ Some k → i ≡ place_of_key ks k
place_is ks k i once e = once i (place_of_key ks k) k e (place_reads ks k (at_in ks i k e))

-- ---- new names
pub new_name_of : (pairs : List (NameId × NameId)) (x : NameId) → Contains pairs (x, new_name same_name pairs x) ⊎ (new_name same_name pairs x ≡ x)
new_name_of [] x = inr refl
new_name_of (r ∷ rs) x = by (same_name r.0 x) refl (new_name_of rs x)
  where
    by : (b : Bool) → same_name r.0 x ≡ b → Contains rs (x, new_name same_name rs x) ⊎ (new_name same_name rs x ≡ x)
        → Contains (r ∷ rs) (x, if b then r.1 else new_name same_name rs x) ⊎ ((if b then r.1 else new_name same_name rs x) ≡ x)
    by true e h = inl (subst (λ (z : NameId). Contains (r ∷ rs) (z, r.1)) ((same_name_decides r.0 x).0 e) (contains_first r rs))
    by false e h = ⊎_elim (λ i. inl (contains_later r (x, new_name same_name rs x) rs i)) (λ q. inr q) h

-- the new action is there
pub target_stands : (g : Sig) (pairs : List (NameId × NameId)) → HaveTargets g pairs → (k : Key) → Contains g.actions k → Contains g.actions (renamed_key pairs k)
target_stands g pairs targets k i = ⊎_elim
    (λ j. targets k.name (new_name same_name pairs k.name) k.sorts j i)
    (λ q. subst (λ (n : NameId). Contains g.actions (key n k.sorts)) (sym q) i)
    (new_name_of pairs k.name)

module _ (g : Sig) (ts : List Tree) (stands : IsSignature g) (pairs : List (NameId × NameId)) (named : All (λ (r : NameId × NameId). IsNameIn g r.0 × IsNameIn g r.1) pairs) where
  abbrev text : NameId → Name
  text n = name_at (entries_of g ts) n

  abbrev renamings : List Renaming
  renamings = map (renaming_of (entries_of g ts)) pairs

  pairs_are : (rs : List (NameId × NameId)) → pairs_of (map (renaming_of (entries_of g ts)) rs) ≡ map (λ (r : NameId × NameId). (text r.0, text r.1)) rs
  pairs_are [] = refl
  pairs_are (r ∷ rs) = ap (λ l. (text r.0, text r.1) ∷ l) (pairs_are rs)

  pub renamings_functional : RenamesOnce pairs → AreFunctional renamings
  renamings_functional once x y z i j =
      let r = contains_map (renaming_of (entries_of g ts)) pairs (record { from = x; to = y }) i in
      let q = contains_map (renaming_of (entries_of g ts)) pairs (record { from = x; to = z }) j in
      let rn = each r.0 r.1.0 in
      let qn = each q.0 q.1.0 in
      let same : text r.0.0 ≡ text q.0.0 = sym (ap (λ (k : Renaming). k.from) r.1.1) ∙ ap (λ (k : Renaming). k.from) q.1.1 in
      let ids : q.0.0 ≡ r.0.0 = sym ((same_name_decides r.0.0 q.0.0).0 (sym (names_alike g ts stands.table stands.complete r.0.0 q.0.0 rn.0 qn.0) ∙ (bytes_eq-Decides (text r.0.0) (text q.0.0)).1 same)) in
      let news : r.0.1 ≡ q.0.1 = once r.0.0 r.0.1 q.0.1 r.1.0 (subst (λ (n : NameId). Contains pairs (n, q.0.1)) ids q.1.0) in
      ap (λ (k : Renaming). k.to) r.1.1 ∙ ap text news ∙ sym (ap (λ (k : Renaming). k.to) q.1.1)
    where
      at : (rs : List (NameId × NameId)) → All (λ (r : NameId × NameId). IsNameIn g r.0 × IsNameIn g r.1) rs → (r : NameId × NameId) → In r rs → IsNameIn g r.0 × IsNameIn g r.1
      at [] h r i = elim i [ ]
      at (s ∷ rs) h _ here = All-head (λ (r : NameId × NameId). IsNameIn g r.0 × IsNameIn g r.1) s rs h
      at (s ∷ rs) h r (behind i) = at rs (All-tail (λ (r : NameId × NameId). IsNameIn g r.0 × IsNameIn g r.1) s rs h) r i

      each : (r : NameId × NameId) → Contains pairs r → IsNameIn g r.0 × IsNameIn g r.1
      each r i = at pairs named r (contains_in pairs i)

  module _ (targets : HaveTargets g pairs) where
    -- the action with the new name
    new_action : (a : PlainAction) → IsActionOf g ts a → IsActionOf g ts (renamed_action g pairs a)
    new_action a h = record {
      key = renamed_key pairs h.key;
      stands = subst (λ (k : Key). slice_get g.actions (place_of_key g.actions (renamed_key pairs k)) ≡ Some (renamed_key pairs h.key)) (sym (key_is g ts stands.table stands.complete a h))
          (place_reads g.actions (renamed_key pairs h.key) (contains_in g.actions (target_stands g pairs targets h.key (in_contains (at_in g.actions a.act.0 h.key h.stands)))));
      args = h.args;
    }

    new_actions : (m : List PlainAction) → All (IsActionOf g ts) m → All (IsActionOf g ts) (map (renamed_action g pairs) m)
    new_actions [] h = All-nil (IsActionOf g ts)
    new_actions (a ∷ m) h = All-cons (IsActionOf g ts) (renamed_action g pairs a) (map (renamed_action g pairs) m) (new_action a (All-head (IsActionOf g ts) a m h)) (new_actions m (All-tail (IsActionOf g ts) a m h))

    action_meant : (a : PlainAction) → IsActionOf g ts a → meant.renamed_action (pairs_of renamings) (action_of (entries_of g ts) a) ≡ action_of (entries_of g ts) (renamed_action g pairs a)
    unfolding new_action
    action_meant a h =
        let old = action_is g ts a h in
        let new = action_is g ts (renamed_action g pairs a) (new_action a h) in
        let along = new_name_along (naming g) texts (action_of (entries_of g ts)) text (IsActionOf g ts) (IsNameIn g) (names_along g ts stands.table stands.complete) pairs h.key.name named (name_within g ts stands.table stands.complete a h) in
        ap₂ (λ (n : Name) (e : ActionEntry). record { name = n; sorts = e.sorts; args = map (term_at (entries_of g ts)) a.args })
        (ap₂ (λ (ps : List (Name × Name)) (e : ActionEntry). new_name bytes_eq ps e.name) (pairs_are pairs) old ∙ along.0) old
        ∙ ap (λ (e : ActionEntry). record { name = e.name; sorts = e.sorts; args = map (term_at (entries_of g ts)) a.args }) (sym new)

    label_meant : (m : List PlainAction) → All (IsActionOf g ts) m → map (λ a. meant.renamed_action (pairs_of renamings) a) (label_of (entries_of g ts) m) ≡ label_of (entries_of g ts) (map (renamed_action g pairs) m)
    label_meant [] h = refl
    label_meant (a ∷ m) h = ap₂ (λ x l. x ∷ l) (action_meant a (All-head (IsActionOf g ts) a m h)) (label_meant m (All-tail (IsActionOf g ts) a m h))

    pub rename_meant : IsMeant g ts (renamed_label g pairs) (theory.renamed_label (pairs_of renamings))
    rename_meant = record {
      meant = λ m h. ap (λ z. Some z) (label_meant m h);
      keeps = λ m n h e. subst (λ z. All (IsActionOf g ts) z) (some_same e) (new_actions m h);
    }
      where
        some_same : {A : Type 0} {x y : A} → Some x ≡ Some y → x ≡ y
        some_same e = cc

-- ---- the code's key
pub key_read : (es : List ActEntry) (ks : List Key) (i : ℕ) (e d : ActEntry) (k : Key) → actions_of es ≡ ks → i < length ks → e ≡ get_or es i d → get_or ks i k ≡ key e.name e.sorts.items
key_read es ks i e d k q l h = sym (ap (λ z. get_or z i k) q) ∙ by es i (subst (λ z. i < length z) (sym q) l) h
  where
    by : (es : List ActEntry) (i : ℕ) → i < length (actions_of es) → e ≡ get_or es i d → get_or (actions_of es) i k ≡ key e.name e.sorts.items
    by [] i l h = absurd (omega (arith, l))
    by (x ∷ es) zero l h = ap (λ (z : ActEntry). key z.name z.sorts.items) (sym h)
    by (x ∷ es) (suc i) l h = by es i (omega (arith, l)) h

pub key_within : (g : Sig) (a : PlainAction) → a.act.0 < length g.actions → Contains g.actions (key_of_action g a)
key_within g a l = in_contains (at_in g.actions a.act.0 (key_of_action g a) (there (key (record { 0 = 0 }) []) g.actions a.act.0 l))
