-- `allow`, `block`, `hide` and `rename` change labels alone.
use Rattle.std.proofs.Common.{◌≡◌, ℕ, Bool, true, false, List, [], ◌∷◌, ◌++◌, map, refl, sym, ap, ap₂, ◌∙◌, subst, Option, Some, None, if◌then◌else◌, ⊎_elim}
use Rattle.std.specs.Prelude.{Contains}
use Rattle.std.specs.List.{list_any}
use Rattle.std.specs.Str.{bytes_eq}
use Rattle.std.proofs.lemmas.Slice.Eq.{bytes_eq-Decides}
use Rattle.data_theory.specs.Terms.{Sort}
use Rattle.data_theory.specs.Declarations.{Data}
use Rattle.data_theory.specs.Environments.{Environment}
use Rattle.process_terms.specs.Names.{Name}
use Rattle.process_terms.specs.Theories.{Theory}
use Rattle.process_terms.specs.Labels.{Label, names, put_action, put_label, Permuted}
use Rattle.process_terms.specs.Processes.{Bound, Renaming, Around, allow, block, hide, rename}
use Rattle.process_terms.specs.Steps.{Passes, silent_allowed, named_allowed, not_blocked, nothing_hidden, one_hidden, one_shown, nothing_renamed, one_renamed, Renames, replaced, unchanged}
use Rattle.bisim_laws.specs.LinearProcesses.{Summand, variables, Does, LabelIsOver, no_action_left, action_over, LabelIsSorted, no_action_to_sort, action_sorted}
use Rattle.bisim_laws.proofs.Firing.{contains_first, contains_later, contains_cases, contains_none}
use Rattle.bisim_laws.proofs.SomeSummands.{names_put}
use Rattle.lps_core.proofs.Members.{In, here, there}
use Rattle.lps_core.proofs.Shapes.{IsSortedSummand}
use Rattle.action_filters.specs.NameTests.{is_among, is_permuted}
use Rattle.action_filters.specs.LabelFilters.{allowed_label, unblocked_label, shown, shown_label, new_name}
use Rattle.action_filters.specs.Filtering.{texts, pairs_of, renamed_action}
use Rattle.action_filters.proofs.NamesTold.{Told, yes, no, told, some_told, among_told, permuted_told}
use Rattle.action_filters.proofs.Filtered.{IsFilter}

-- ---- summands with another label
abbrev pub labelled : Summand → Option Label → List Summand
labelled s None = []
labelled s (Some m) = record { sums = s.sums; condition = s.condition; label = m; next = s.next } ∷ []

abbrev pub by_label : (Label → Option Label) → Summand → List Summand
by_label f s = labelled s (f s.label)

abbrev pub renamed_label : List (Name × Name) → Label → Option Label
renamed_label ps m = Some (map (λ a. renamed_action ps a) m)

-- no name is replaced by two
abbrev pub AreFunctional : List Renaming → Type 0
AreFunctional rs = (x y z : Name) → Contains rs (record { from = x; to = y }) → Contains rs (record { from = x; to = z }) → y ≡ z

pub same_name_told : (x y : Name) → Told (x ≡ y) (bytes_eq x y)
same_name_told x y = told (bytes_eq x y) (bytes_eq-Decides x y)

abbrev put_option : Environment → Option Label → Option Label
put_option e None = None
put_option e (Some m) = Some (put_label e m)

-- the label that comes out doesn't depend on the arguments
pub record IsLabelFilter (th : Theory) (o : Around) (f : Label → Option Label) : Type 0 where
  pub passes : (m n : Label) → Passes th o m n → f m ≡ Some n
  pub passed : (m n : Label) → f m ≡ Some n → Passes th o m n
  pub along : (e : Environment) (m : Label) → f (put_label e m) ≡ put_option e (f m)
  pub over : (xs : List ℕ) (m n : Label) → f m ≡ Some n → LabelIsOver xs m → LabelIsOver xs n
  pub sorted : (g : Data) (vs : List Sort) (m n : Label) → f m ≡ Some n → LabelIsSorted g vs m → LabelIsSorted g vs n

none_some : {A : Type 0} {x : A} → None ≡ Some x → ⊥
none_some e = cc

same_some : {A : Type 0} {x y : A} → Some x ≡ Some y → x ≡ y
same_some e = cc

unput : (e : Environment) (o : Option Label) (n : Label) → put_option e o ≡ Some n → (k : Label) × ((o ≡ Some k) × (n ≡ put_label e k))
unput e None n q = absurd (none_some q)
unput e (Some k) n q = (k, (refl, sym (same_some q)))

in_labelled : (s t : Summand) (o : Option Label) → In t (labelled s o) → (k : Label) × ((o ≡ Some k) × (t ≡ record { sums = s.sums; condition = s.condition; label = k; next = s.next }))
in_labelled s t None i = elim i [ ]
in_labelled s t (Some k) here = (k, (refl, refl))
in_labelled s t (Some k) (there i) = elim i [ ]

module _ (th : Theory) (vs : List Sort) (params : List Bound) (o : Around) (f : Label → Option Label) (is : IsLabelFilter th o f) where
  pub label_filter : IsFilter th vs params o (by_label f)
  label_filter = record {
    forth = λ s e m n q fit has d p.
        let k = unput e (f s.label) n (sym (is.along e s.label) ∙ subst (λ z. f z ≡ Some n) d.label (is.passes m n p)) in
        let t : Summand = record { sums = s.sums; condition = s.condition; label = k.0; next = s.next } in
        (t, (subst (λ z. In t (labelled s z)) (sym k.1.0) here, record { holds = d.holds; label = k.1.1; onward = d.onward }));
    back = λ s t e n q fit has i d.
        let k = in_labelled s t (f s.label) i in
        let g = subst (λ z. Does th z e n q) k.1.1 d in
        (put_label e s.label, (record { holds = g.holds; label = refl; onward = g.onward }, is.passed (put_label e s.label) n (is.along e s.label ∙ ap (λ z. put_option e z) k.1.0 ∙ ap (λ z. Some z) (sym g.label))));
    sums = λ s t i. let k = in_labelled s t (f s.label) i in ap (λ z. z.sums) k.1.1;
    fits = λ s t fit i.
        let k = in_labelled s t (f s.label) i in
        subst (λ z. IsSortedSummand th.declared vs params z) (sym k.1.1) (record {
          declared = fit.declared;
          sorts_of_data = fit.sorts_of_data;
          condition = fit.condition;
          label = is.over (variables s.sums ++ variables params) s.label k.0 k.1.0 fit.label;
          label_sorted = is.sorted th.declared vs s.label k.0 k.1.0 fit.label_sorted;
          next = fit.next;
          apart = fit.apart;
          distinct = fit.distinct;
        });
  }

-- ---- a label that stays as it is, or none
kept_over : (xs : List ℕ) (b : Bool) (m n : Label) → (if b then Some m else None) ≡ Some n → LabelIsOver xs m → LabelIsOver xs n
kept_over xs true m n q h = subst (λ z. LabelIsOver xs z) (same_some q) h
kept_over xs false m n q h = absurd (none_some q)

kept_sorted : (g : Data) (vs : List Sort) (b : Bool) (m n : Label) → (if b then Some m else None) ≡ Some n → LabelIsSorted g vs m → LabelIsSorted g vs n
kept_sorted g vs true m n q h = subst (λ z. LabelIsSorted g vs z) (same_some q) h
kept_sorted g vs false m n q h = absurd (none_some q)

dropped_over : (xs : List ℕ) (b : Bool) (m n : Label) → (if b then None else Some m) ≡ Some n → LabelIsOver xs m → LabelIsOver xs n
dropped_over xs false m n q h = subst (λ z. LabelIsOver xs z) (same_some q) h
dropped_over xs true m n q h = absurd (none_some q)

dropped_sorted : (g : Data) (vs : List Sort) (b : Bool) (m n : Label) → (if b then None else Some m) ≡ Some n → LabelIsSorted g vs m → LabelIsSorted g vs n
dropped_sorted g vs false m n q h = subst (λ z. LabelIsSorted g vs z) (same_some q) h
dropped_sorted g vs true m n q h = absurd (none_some q)

-- ---- allow
abbrev is_allowed : List (List Name) → List Name → Bool
is_allowed sets ns = list_any (λ v. is_permuted bytes_eq ns v) sets

allowed_told : (sets : List (List Name)) (ns : List Name) → Told ((v : List Name) × (Contains sets v × Permuted ns v)) (is_allowed sets ns)
allowed_told sets ns = some_told (λ v. Permuted ns v) (λ v. is_permuted bytes_eq ns v) (λ v. permuted_told bytes_eq same_name_told ns v) sets

allow_passes : (th : Theory) (sets : List (List Name)) (m n : Label) → Passes th (allow sets) m n → allowed_label texts sets m ≡ Some n
allow_passes th sets [] n silent_allowed = refl
allow_passes th sets [] n (named_allowed v i p) = refl
allow_passes th sets (a ∷ m) n (named_allowed v i p) = by (is_allowed sets (names (a ∷ m))) (allowed_told sets (names (a ∷ m)))
  where
    by : (b : Bool) → Told ((v : List Name) × (Contains sets v × Permuted (names (a ∷ m)) v)) b → (if b then Some (a ∷ m) else None) ≡ Some (a ∷ m)
    by true k = refl
    by false (no f) = absurd (f (v, (i, p)))

allow_passed : (th : Theory) (sets : List (List Name)) (m n : Label) → allowed_label texts sets m ≡ Some n → Passes th (allow sets) m n
allow_passed th sets [] n q = subst (λ z. Passes th (allow sets) [] z) (same_some q) silent_allowed
allow_passed th sets (a ∷ m) n q = by (is_allowed sets (names (a ∷ m))) (allowed_told sets (names (a ∷ m))) q
  where
    by : (b : Bool) → Told ((v : List Name) × (Contains sets v × Permuted (names (a ∷ m)) v)) b → (if b then Some (a ∷ m) else None) ≡ Some n → Passes th (allow sets) (a ∷ m) n
    by true (yes k) q = subst (λ z. Passes th (allow sets) (a ∷ m) z) (same_some q) (named_allowed k.0 k.1.0 k.1.1)
    by false k q = absurd (none_some q)

put_if : (e : Environment) (b c : Bool) (m : Label) → b ≡ c → (if b then Some (put_label e m) else None) ≡ put_option e (if c then Some m else None)
put_if e b c m q = ap (λ z. if z then Some (put_label e m) else None) q ∙ by c
  where
    by : (c : Bool) → (if c then Some (put_label e m) else None) ≡ put_option e (if c then Some m else None)
    by true = refl
    by false = refl

allow_along : (sets : List (List Name)) (e : Environment) (m : Label) → allowed_label texts sets (put_label e m) ≡ put_option e (allowed_label texts sets m)
allow_along sets e [] = refl
allow_along sets e (a ∷ m) = put_if e (is_allowed sets (names (put_label e (a ∷ m)))) (is_allowed sets (names (a ∷ m))) (a ∷ m) (ap (λ ns. is_allowed sets ns) (names_put e (a ∷ m)))

allow_over : (sets : List (List Name)) (xs : List ℕ) (m n : Label) → allowed_label texts sets m ≡ Some n → LabelIsOver xs m → LabelIsOver xs n
allow_over sets xs [] n q h = subst (λ z. LabelIsOver xs z) (same_some q) h
allow_over sets xs (a ∷ m) n q h = kept_over xs (is_allowed sets (names (a ∷ m))) (a ∷ m) n q h

allow_sorted : (sets : List (List Name)) (g : Data) (vs : List Sort) (m n : Label) → allowed_label texts sets m ≡ Some n → LabelIsSorted g vs m → LabelIsSorted g vs n
allow_sorted sets g vs [] n q h = subst (λ z. LabelIsSorted g vs z) (same_some q) h
allow_sorted sets g vs (a ∷ m) n q h = kept_sorted g vs (is_allowed sets (names (a ∷ m))) (a ∷ m) n q h

pub allow_filters : (th : Theory) (sets : List (List Name)) → IsLabelFilter th (allow sets) (allowed_label texts sets)
allow_filters th sets = record { passes = allow_passes th sets; passed = allow_passed th sets; along = allow_along sets; over = allow_over sets; sorted = allow_sorted sets }

-- ---- block
abbrev is_blocked : List Name → List Name → Bool
is_blocked blocked ns = list_any (λ x. is_among bytes_eq blocked x) ns

blocked_told : (blocked ns : List Name) → Told ((x : Name) × (Contains ns x × Contains blocked x)) (is_blocked blocked ns)
blocked_told blocked ns = some_told (λ x. Contains blocked x) (λ x. is_among bytes_eq blocked x) (λ x. among_told bytes_eq same_name_told blocked x) ns

block_passes : (th : Theory) (blocked : List Name) (m n : Label) → Passes th (block blocked) m n → unblocked_label texts blocked m ≡ Some n
block_passes th blocked m n (not_blocked f) = by (is_blocked blocked (names m)) (blocked_told blocked (names m))
  where
    by : (b : Bool) → Told ((x : Name) × (Contains (names m) x × Contains blocked x)) b → (if b then None else Some m) ≡ Some m
    by true (yes k) = absurd (f k.0 k.1.0 k.1.1)
    by false k = refl

block_passed : (th : Theory) (blocked : List Name) (m n : Label) → unblocked_label texts blocked m ≡ Some n → Passes th (block blocked) m n
block_passed th blocked m n q = by (is_blocked blocked (names m)) (blocked_told blocked (names m)) q
  where
    by : (b : Bool) → Told ((x : Name) × (Contains (names m) x × Contains blocked x)) b → (if b then None else Some m) ≡ Some n → Passes th (block blocked) m n
    by true k q = absurd (none_some q)
    by false (no f) q = subst (λ z. Passes th (block blocked) m z) (same_some q) (not_blocked (λ x i j. f (x, (i, j))))

drop_if : (e : Environment) (b c : Bool) (m : Label) → b ≡ c → (if b then None else Some (put_label e m)) ≡ put_option e (if c then None else Some m)
drop_if e b c m q = ap (λ z. if z then None else Some (put_label e m)) q ∙ by c
  where
    by : (c : Bool) → (if c then None else Some (put_label e m)) ≡ put_option e (if c then None else Some m)
    by true = refl
    by false = refl

pub block_filters : (th : Theory) (blocked : List Name) → IsLabelFilter th (block blocked) (unblocked_label texts blocked)
block_filters th blocked = record {
  passes = block_passes th blocked;
  passed = block_passed th blocked;
  along = λ e m. drop_if e (is_blocked blocked (names (put_label e m))) (is_blocked blocked (names m)) m (ap (λ ns. is_blocked blocked ns) (names_put e m));
  over = λ xs m n q h. dropped_over xs (is_blocked blocked (names m)) m n q h;
  sorted = λ g vs m n q h. dropped_sorted g vs (is_blocked blocked (names m)) m n q h;
}

-- ---- hide
shown_is : (th : Theory) (hidden : List Name) {m n : Label} → Passes th (hide hidden) m n → shown texts hidden m ≡ n
shown_is th hidden nothing_hidden = refl
shown_is th hidden (one_hidden {a = a} {m = m} {n = n} i p) = by (is_among bytes_eq hidden a.name) (among_told bytes_eq same_name_told hidden a.name) (shown_is th hidden p)
  where
    by : (b : Bool) → Told (Contains hidden a.name) b → shown texts hidden m ≡ n → (if b then shown texts hidden m else (a ∷ shown texts hidden m)) ≡ n
    by true k q = q
    by false (no f) q = absurd (f i)
shown_is th hidden (one_shown {a = a} {m = m} {n = n} i p) = by (is_among bytes_eq hidden a.name) (among_told bytes_eq same_name_told hidden a.name) (shown_is th hidden p)
  where
    by : (b : Bool) → Told (Contains hidden a.name) b → shown texts hidden m ≡ n → (if b then shown texts hidden m else (a ∷ shown texts hidden m)) ≡ (a ∷ n)
    by true (yes k) q = absurd (i k)
    by false k q = ap (λ l. a ∷ l) q

hide_passed : (th : Theory) (hidden : List Name) (m : Label) → Passes th (hide hidden) m (shown texts hidden m)
hide_passed th hidden [] = nothing_hidden
hide_passed th hidden (a ∷ m) = by (is_among bytes_eq hidden a.name) (among_told bytes_eq same_name_told hidden a.name) (hide_passed th hidden m)
  where
    by : (b : Bool) → Told (Contains hidden a.name) b → Passes th (hide hidden) m (shown texts hidden m) → Passes th (hide hidden) (a ∷ m) (if b then shown texts hidden m else (a ∷ shown texts hidden m))
    by true (yes k) p = one_hidden k p
    by false (no f) p = one_shown f p

shown_put : (hidden : List Name) (e : Environment) (m : Label) → shown texts hidden (put_label e m) ≡ put_label e (shown texts hidden m)
shown_put hidden e [] = refl
shown_put hidden e (a ∷ m) = by (is_among bytes_eq hidden a.name) (shown_put hidden e m)
  where
    by : (b : Bool) → shown texts hidden (put_label e m) ≡ put_label e (shown texts hidden m) → (if b then shown texts hidden (put_label e m) else (put_action e a ∷ shown texts hidden (put_label e m))) ≡ put_label e (if b then shown texts hidden m else (a ∷ shown texts hidden m))
    by true q = q
    by false q = ap (λ l. put_action e a ∷ l) q

shown_over : (hidden : List Name) {xs : List ℕ} {m : Label} → LabelIsOver xs m → LabelIsOver xs (shown texts hidden m)
shown_over hidden no_action_left = no_action_left
shown_over hidden {xs} (action_over {a = a} {m = m} h k) = elim (is_among bytes_eq hidden a.name) as (λ b. LabelIsOver xs (if b then shown texts hidden m else (a ∷ shown texts hidden m))) [ true ↦ shown_over hidden k | false ↦ action_over h (shown_over hidden k) ]

shown_sorted : (hidden : List Name) {g : Data} {vs : List Sort} {m : Label} → LabelIsSorted g vs m → LabelIsSorted g vs (shown texts hidden m)
shown_sorted hidden no_action_to_sort = no_action_to_sort
shown_sorted hidden {g} {vs} (action_sorted {a = a} {m = m} h k) = elim (is_among bytes_eq hidden a.name) as (λ b. LabelIsSorted g vs (if b then shown texts hidden m else (a ∷ shown texts hidden m))) [ true ↦ shown_sorted hidden k | false ↦ action_sorted h (shown_sorted hidden k) ]

pub hide_filters : (th : Theory) (hidden : List Name) → IsLabelFilter th (hide hidden) (shown_label texts hidden)
hide_filters th hidden = record {
  passes = λ m n p. ap (λ z. Some z) (shown_is th hidden p);
  passed = λ m n q. subst (λ z. Passes th (hide hidden) m z) (same_some q) (hide_passed th hidden m);
  along = λ e m. ap (λ z. Some z) (shown_put hidden e m);
  over = λ xs m n q h. subst (λ z. LabelIsOver xs z) (same_some q) (shown_over hidden h);
  sorted = λ g vs m n q h. subst (λ z. LabelIsSorted g vs z) (same_some q) (shown_sorted hidden h);
}

-- ---- rename
data NewName (rs : List Renaming) (x y : Name) : Type 0 where
  found : Contains rs (record { from = x; to = y }) → NewName rs x y
  not_found : ((z : Name) → Contains rs (record { from = x; to = z }) → ⊥) → y ≡ x → NewName rs x y

new_name_is : (rs : List Renaming) (x : Name) → NewName rs x (new_name bytes_eq (pairs_of rs) x)
new_name_is [] x = not_found (λ z i. contains_none (record { from = x; to = z }) i) refl
new_name_is (r ∷ rs) x = by (bytes_eq r.from x) (same_name_told r.from x) (new_name_is rs x)
  where
    behind : (y : Name) → (r.from ≡ x → ⊥) → NewName rs x y → NewName (r ∷ rs) x y
    behind y n (found i) = found (contains_later r (record { from = x; to = y }) rs i)
    behind y n (not_found f q) = not_found (λ z i. ⊎_elim (λ w. n (ap (λ (k : Renaming). k.from) w)) (λ j. f z j) (contains_cases r (record { from = x; to = z }) rs i)) q

    by : (b : Bool) → Told (r.from ≡ x) b → NewName rs x (new_name bytes_eq (pairs_of rs) x) → NewName (r ∷ rs) x (if b then r.to else new_name bytes_eq (pairs_of rs) x)
    by true (yes q) k = found (subst (λ z. Contains (r ∷ rs) (record { from = z; to = r.to })) q (contains_first r rs))
    by false (no n) k = behind (new_name bytes_eq (pairs_of rs) x) n k

renames_is : (rs : List Renaming) → AreFunctional rs → (x y : Name) → Renames rs x y → y ≡ new_name bytes_eq (pairs_of rs) x
renames_is rs ok x y (replaced i) = by (new_name_is rs x)
  where
    by : {z : Name} → NewName rs x z → y ≡ z
    by {z} (found j) = ok x y z i j
    by (not_found f q) = absurd (f y i)
renames_is rs ok x y (unchanged f) = by (new_name_is rs x)
  where
    by : {z : Name} → NewName rs x z → x ≡ z
    by {z} (found j) = absurd (f z j)
    by (not_found g q) = sym q

new_name_renames : (rs : List Renaming) (x : Name) → Renames rs x (new_name bytes_eq (pairs_of rs) x)
new_name_renames rs x = by (new_name_is rs x)
  where
    by : {y : Name} → NewName rs x y → Renames rs x y
    by (found i) = replaced i
    by (not_found f q) = subst (λ z. Renames rs x z) (sym q) (unchanged f)

rename_is : (th : Theory) (rs : List Renaming) → AreFunctional rs → {m n : Label} → Passes th (rename rs) m n → map (λ a. renamed_action (pairs_of rs) a) m ≡ n
rename_is th rs ok nothing_renamed = refl
rename_is th rs ok (one_renamed {a = a} x h p) = ap₂ (λ (y : Name) (l : Label). record { name = y; sorts = a.sorts; args = a.args } ∷ l) (sym (renames_is rs ok a.name x h)) (rename_is th rs ok p)

rename_passed : (th : Theory) (rs : List Renaming) (m : Label) → Passes th (rename rs) m (map (λ a. renamed_action (pairs_of rs) a) m)
rename_passed th rs [] = nothing_renamed
rename_passed th rs (a ∷ m) = one_renamed (new_name bytes_eq (pairs_of rs) a.name) (new_name_renames rs a.name) (rename_passed th rs m)

renamed_put : (rs : List Renaming) (e : Environment) (m : Label) → map (λ a. renamed_action (pairs_of rs) a) (put_label e m) ≡ put_label e (map (λ a. renamed_action (pairs_of rs) a) m)
renamed_put rs e [] = refl
renamed_put rs e (a ∷ m) = ap (λ l. put_action e (renamed_action (pairs_of rs) a) ∷ l) (renamed_put rs e m)

renamed_over : (rs : List Renaming) {xs : List ℕ} {m : Label} → LabelIsOver xs m → LabelIsOver xs (map (λ a. renamed_action (pairs_of rs) a) m)
renamed_over rs no_action_left = no_action_left
renamed_over rs (action_over h k) = action_over h (renamed_over rs k)

renamed_sorted : (rs : List Renaming) {g : Data} {vs : List Sort} {m : Label} → LabelIsSorted g vs m → LabelIsSorted g vs (map (λ a. renamed_action (pairs_of rs) a) m)
renamed_sorted rs no_action_to_sort = no_action_to_sort
renamed_sorted rs (action_sorted h k) = action_sorted h (renamed_sorted rs k)

pub rename_filters : (th : Theory) (rs : List Renaming) → AreFunctional rs → IsLabelFilter th (rename rs) (renamed_label (pairs_of rs))
rename_filters th rs ok = record {
  passes = λ m n p. ap (λ z. Some z) (rename_is th rs ok p);
  passed = λ m n q. subst (λ z. Passes th (rename rs) m z) (same_some q) (rename_passed th rs m);
  along = λ e m. ap (λ z. Some z) (renamed_put rs e m);
  over = λ xs m n q h. subst (λ z. LabelIsOver xs z) (same_some q) (renamed_over rs h);
  sorted = λ g vs m n q h. subst (λ z. LabelIsSorted g vs z) (same_some q) (renamed_sorted rs h);
}
