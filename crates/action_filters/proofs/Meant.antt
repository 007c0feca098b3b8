-- What the filters over numbers mean over terms and texts.
use Rattle.std.proofs.Common.{◌≡◌, ◌<◌, ℕ, zero, suc, Bool, true, false, List, [], ◌∷◌, ◌++◌, map, length, get_or, refl, sym, ap, ◌∙◌, subst, Option, Some, None, arith, ⊎_elim}
use Rattle.std.specs.Prelude.{flat_map, slice_get, option_map, if◌then◌else◌}
use Rattle.std.specs.List.{All}
use Rattle.std.specs.Str.{bytes_eq}
use Rattle.std.proofs.lemmas.Bool.Decides.{eqb_tells}
use Rattle.std.proofs.lemmas.List.Elements.{All-nil, All-cons, All-head, All-tail, All-append}
use Rattle.std.proofs.lemmas.Option.{get_or_from_slice_get}
use Rattle.std.proofs.lemmas.Slice.Eq.{bytes_eq-Decides}
use Rattle.data_theory.specs.declared.ids.NameId.{NameId}
use Rattle.data_theory.specs.declared.ids.VarId.{VarId}
use Rattle.data_theory.specs.Keys.{Key, key}
use Rattle.data_theory.specs.Signature.{Sig}
use Rattle.data_theory.specs.Complete.{IsComplete, IsActionWithin}
use Rattle.data_theory.specs.IdTables.{IsTable}
use Rattle.data_theory.specs.IdTrees.{Tree}
use Rattle.process_terms.specs.Labels.{Label}
use Rattle.process_terms.specs.PlainProcesses.{PlainAction}
use Rattle.process_terms.specs.Meanings.{name_at, action_of, label_of}
use Rattle.process_terms.specs.SignatureEntries.{entries_of}
use Rattle.bisim_laws.specs.LinearProcesses.{Summand}
use Rattle.lps_core.specs.PlainLinears.{PlainSummand, summand_of}
use Rattle.lps_core.specs.Fitting.{IsActionOf, SummandFits}
use Rattle.lps_core.proofs.Members.{all_at}
use Rattle.lps_core.proofs.Staying.{action_is}
use Rattle.action_filters.specs.NameTests.{is_among}
use Rattle.action_filters.specs.LabelFilters.{allowed_label, unblocked_label, shown, shown_label}
use Rattle.action_filters.specs.Filtering.{texts}
use Rattle.action_filters.specs.Filters.{same_name, key_of_action, naming, labelled, by_label, IsNameIn}
use Rattle.action_filters.proofs.Along.{IsAlong, allowed_along, unblocked_along, shown_along}
use Rattle.action_filters.proofs.TheoryLabels as theory

-- ---- summands
-- f' does over terms what f does over numbers, and f keeps the actions of the signature
pub record IsMeant (g : Sig) (ts : List Tree) (f : List PlainAction → Option (List PlainAction)) (f' : Label → Option Label) : Type 0 where
  pub meant : (m : List PlainAction) → All (IsActionOf g ts) m → f' (label_of (entries_of g ts) m) ≡ option_map (label_of (entries_of g ts)) (f m)
  pub keeps : (m n : List PlainAction) → All (IsActionOf g ts) m → f m ≡ Some n → All (IsActionOf g ts) n

module _ (g : Sig) (ts : List Tree) (f : List PlainAction → Option (List PlainAction)) (f' : Label → Option Label) (is : IsMeant g ts f f') where
  labelled_meant : (s : PlainSummand) (o : Option (List PlainAction)) (ss : List PlainSummand) (ts' : List Summand) → map (summand_of (entries_of g ts)) ss ≡ ts'
      → map (summand_of (entries_of g ts)) (labelled s o ++ ss) ≡ theory.labelled (summand_of (entries_of g ts) s) (option_map (label_of (entries_of g ts)) o) ++ ts'
  labelled_meant s None ss ts' e = e
  labelled_meant s (Some m) ss ts' e = ap (λ l. summand_of (entries_of g ts) (record { sums = s.sums; condition = s.condition; label = m; next = s.next }) ∷ l) e

  pub summands_meant : (params : List VarId) (ss : List PlainSummand) → All (SummandFits g ts params) ss
      → map (summand_of (entries_of g ts)) (flat_map (by_label f) ss) ≡ flat_map (theory.by_label f') (map (summand_of (entries_of g ts)) ss)
  summands_meant params [] h = refl
  summands_meant params (s ∷ ss) h =
      let first = All-head (SummandFits g ts params) s ss h in
      let rest = summands_meant params ss (All-tail (SummandFits g ts params) s ss h) in
      labelled_meant s (f s.label) (flat_map (by_label f) ss) (flat_map (theory.by_label f') (map (summand_of (entries_of g ts)) ss)) rest
      ∙ ap (λ o. theory.labelled (summand_of (entries_of g ts) s) o ++ flat_map (theory.by_label f') (map (summand_of (entries_of g ts)) ss)) (sym (is.meant s.label first.label))

-- what holds of summands, and stays with the labels that come out
pub all_labelled : (f : List PlainAction → Option (List PlainAction)) (R : PlainSummand → Type 0)
    → ((s : PlainSummand) (m : List PlainAction) → R s → f s.label ≡ Some m → R (record { sums = s.sums; condition = s.condition; label = m; next = s.next }))
    → (ss : List PlainSummand) → All R ss → All R (flat_map (by_label f) ss)
all_labelled f R w [] h = All-nil R
all_labelled f R w (s ∷ ss) h =
    All-append R (labelled s (f s.label)) (flat_map (by_label f) ss) (one (f s.label) refl) (all_labelled f R w ss (All-tail R s ss h))
  where
    one : (o : Option (List PlainAction)) → f s.label ≡ o → All R (labelled s o)
    one None e = All-nil R
    one (Some m) e = All-cons R (record { sums = s.sums; condition = s.condition; label = m; next = s.next }) [] (w s m (All-head R s ss h) e) (All-nil R)

-- what stands at a place of a list
pub there : {A : Type 0} (d : A) (xs : List A) (i : ℕ) → i < length xs → slice_get xs i ≡ Some (get_or xs i d)
there d [] i h = absurd (omega (arith, h))
there d (x ∷ xs) zero h = refl
there d (x ∷ xs) (suc i) h = there d xs i (omega (arith, h))

-- ---- names
module _ (g : Sig) (ts : List Tree) (table : IsTable g) (complete : IsComplete g) where
  pub key_is : (a : PlainAction) (h : IsActionOf g ts a) → key_of_action g a ≡ h.key
  key_is a h = get_or_from_slice_get g.actions a.act.0 h.key (key (record { 0 = 0 }) []) h.stands

  pub name_within : (a : PlainAction) (h : IsActionOf g ts a) → IsNameIn g h.key.name
  name_within a h = (all_at (IsActionWithin (length g.texts) (length g.sorts)) g.actions a.act.0 h.key complete.within.actions h.stands).named

  text_at : (n : NameId) → IsNameIn g n → slice_get g.texts n.0 ≡ Some (name_at (entries_of g ts) n)
  text_at n h = there [] g.texts n.0 h

  pub names_alike : (x y : NameId) → IsNameIn g x → IsNameIn g y → bytes_eq (name_at (entries_of g ts) x) (name_at (entries_of g ts) y) ≡ same_name x y
  names_alike x y h k = ⊎_elim
      (λ e. (bytes_eq-Decides (name_at (entries_of g ts) x) (name_at (entries_of g ts) y)).1 (ap (λ i. get_or g.texts i []) e.1) ∙ sym e.0)
      (λ e. differ (bytes_eq (name_at (entries_of g ts) x) (name_at (entries_of g ts) y)) refl e.1 ∙ sym e.0)
      (eqb_tells x.0 y.0)
    where
      differ : (b : Bool) → bytes_eq (name_at (entries_of g ts) x) (name_at (entries_of g ts) y) ≡ b → (x.0 ≡ y.0 → ⊥) → b ≡ false
      differ false e n = refl
      differ true e n =
          absurd (n (table.different x.0 y.0 (name_at (entries_of g ts) x) (text_at x h) (text_at y k ∙ ap Some (sym ((bytes_eq-Decides (name_at (entries_of g ts) x) (name_at (entries_of g ts) y)).0 e)))))

  abbrev pub HasAction : PlainAction → Type 0
  HasAction a = IsActionOf g ts a

  pub names_along : IsAlong (naming g) texts (action_of (entries_of g ts)) (name_at (entries_of g ts)) HasAction (IsNameIn g)
  names_along = record {
    named = λ a h. (
      ap (λ z. z.name) (action_is g ts a h) ∙ sym (ap (λ (k : Key). name_at (entries_of g ts) k.name) (key_is a h)),
      subst (λ (k : Key). IsNameIn g k.name) (sym (key_is a h)) (name_within a h),
    );
    same = names_alike;
  }

  -- ---- allow, block and hide
  some_same : {A : Type 0} {x y : A} → Some x ≡ Some y → x ≡ y
  some_same e = cc

  pub allow_meant : (sets : List (List NameId)) → All (All (IsNameIn g)) sets → IsMeant g ts (allowed_label (naming g) sets) (allowed_label texts (map (map (name_at (entries_of g ts))) sets))
  allow_meant sets h = record {
    meant = λ m k. allowed_along (naming g) texts (action_of (entries_of g ts)) (name_at (entries_of g ts)) HasAction (IsNameIn g) names_along sets m h k;
    keeps = keeps;
  }
    where
      kept : (b : Bool) (m n : List PlainAction) → All (IsActionOf g ts) m → (if b then Some m else None) ≡ Some n → All (IsActionOf g ts) n
      kept true m n k e = subst (λ z. All (IsActionOf g ts) z) (some_same e) k
      kept false m n k e = cc

      keeps : (m n : List PlainAction) → All (IsActionOf g ts) m → allowed_label (naming g) sets m ≡ Some n → All (IsActionOf g ts) n
      keeps [] n k e = subst (λ z. All (IsActionOf g ts) z) (some_same e) k
      keeps (a ∷ m) n k e = kept _ (a ∷ m) n k e

  pub block_meant : (names : List NameId) → All (IsNameIn g) names → IsMeant g ts (unblocked_label (naming g) names) (unblocked_label texts (map (name_at (entries_of g ts)) names))
  block_meant names h = record {
    meant = λ m k. unblocked_along (naming g) texts (action_of (entries_of g ts)) (name_at (entries_of g ts)) HasAction (IsNameIn g) names_along names m h k;
    keeps = λ m n k e. kept _ m n k e;
  }
    where
      kept : (b : Bool) (m n : List PlainAction) → All (IsActionOf g ts) m → (if b then None else Some m) ≡ Some n → All (IsActionOf g ts) n
      kept false m n k e = subst (λ z. All (IsActionOf g ts) z) (some_same e) k
      kept true m n k e = cc

  pub hide_meant : (names : List NameId) → All (IsNameIn g) names → IsMeant g ts (shown_label (naming g) names) (shown_label texts (map (name_at (entries_of g ts)) names))
  hide_meant names h = record {
    meant = λ m k. ap (λ z. Some z) (shown_along (naming g) texts (action_of (entries_of g ts)) (name_at (entries_of g ts)) HasAction (IsNameIn g) names_along names m h k);
    keeps = λ m n k e. subst (λ z. All (IsActionOf g ts) z) (some_same e) (kept m k);
  }
    where
      kept : (m : List PlainAction) → All (IsActionOf g ts) m → All (IsActionOf g ts) (shown (naming g) names m)
      kept [] k = All-nil (IsActionOf g ts)
      kept (a ∷ m) k =
          let i = kept m (All-tail (IsActionOf g ts) a m k) in
          elim (is_among same_name names (key_of_action g a).name) as (λ b. All (IsActionOf g ts) (if b then shown (naming g) names m else a ∷ shown (naming g) names m)) [ true ↦ i | false ↦ All-cons (IsActionOf g ts) a (shown (naming g) names m) (All-head (IsActionOf g ts) a m k) i ]
