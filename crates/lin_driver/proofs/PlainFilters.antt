-- Under `allow`, `block`, `hide` and `rename` a linear process stays plainly conditioned.
use Rattle.std.proofs.Common.{◌≡◌, Bool, true, false, if◌then◌else◌, List, [], ◌∷◌, ◌++◌, map, refl, sym, subst, ⊎_elim, Option, Some, None}
use Rattle.std.specs.Prelude.{Contains, flat_map}
use Rattle.data_theory.specs.declared.ids.NameId.{NameId}
use Rattle.data_theory.specs.Signature.{Sig}
use Rattle.term_pool.specs.Pools.{PoolContents}
use Rattle.process_terms.specs.Meanings.{Entries, label_of, bound_at}
use Rattle.process_terms.specs.PlainProcesses.{PlainAction}
use Rattle.process_terms.specs.Processes.{Bound}
use Rattle.process_terms.specs.SignatureEntries.{entries_of}
use Rattle.bisim_laws.specs.LinearProcesses.{Summand}
use Rattle.bisim_laws.proofs.Firing.{contains_cases, contains_none}
use Rattle.lps_core.specs.Fitting.{Fits}
use Rattle.lps_core.specs.MadeTerms.{Written, Origin, origin_of, HasActionArguments, SummandIsPlain}
use Rattle.lps_core.specs.PlainLinears.{PlainSummand, PlainLinear, summand_of}
use Rattle.lps_core.proofs.Members.{contains_map, map_contains, contains_in, in_contains, in_each}
use Rattle.action_filters.specs.Filters.{by_label, labelled, with_labels, renamed_action, renamed_label}
use Rattle.action_filters.specs.LabelFilters.{Naming, are_allowed, allowed_label, are_blocked, unblocked_label, shown, shown_label}
use Rattle.action_filters.specs.NameTests.{is_among}
use Rattle.lin_driver.specs.PlainlyMade.{IsPlainFor}

-- what comes out of a label has arguments of actions where the label has
abbrev pub KeepsArguments : Entries → (List PlainAction → Option (List PlainAction)) → Type 1
KeepsArguments e f = (o : Origin) (ps xs : List Bound) (m n : List PlainAction) → f m ≡ Some n → HasActionArguments o ps xs (label_of e m) → HasActionArguments o ps xs (label_of e n)

-- ---- the four filters
same_some : {A : Type 0} {x y : A} → Some x ≡ Some y → x ≡ y
same_some q = cc

the_same : {A : Type 0} (b : Bool) (m n : A) → (if b then Some m else None) ≡ Some n → m ≡ n
the_same true m n e = same_some e
the_same false m n e = cc

not_same : {A : Type 0} (b : Bool) (m n : A) → (if b then None else Some m) ≡ Some n → m ≡ n
not_same true m n e = cc
not_same false m n e = same_some e

pub allowed_keeps : (e : Entries) (w : Naming PlainAction NameId) (sets : List (List NameId)) → KeepsArguments e (allowed_label w sets)
allowed_keeps e w sets o ps xs m n is h = subst (λ z. HasActionArguments o ps xs (label_of e z)) (the_same (are_allowed w.same sets (map w.name m)) m n is) h

pub unblocked_keeps : (e : Entries) (w : Naming PlainAction NameId) (names : List NameId) → KeepsArguments e (unblocked_label w names)
unblocked_keeps e w names o ps xs m n is h = subst (λ z. HasActionArguments o ps xs (label_of e z)) (not_same (are_blocked w.same names (map w.name m)) m n is) h

pub shown_keeps : (e : Entries) (w : Naming PlainAction NameId) (names : List NameId) → KeepsArguments e (shown_label w names)
shown_keeps e w names o ps xs m n is h = subst (λ z. HasActionArguments o ps xs (label_of e z)) (same_some is) (fewer m h)
  where
    fewer : (m : List PlainAction) → HasActionArguments o ps xs (label_of e m) → HasActionArguments o ps xs (label_of e (shown w names m))
    fewer [] h = tt
    fewer (a ∷ m) h = elim (is_among w.same names (w.name a)) as (λ b. HasActionArguments o ps xs (label_of e (if b then shown w names m else a ∷ shown w names m))) [ true ↦ fewer m h.1 | false ↦ (h.0, fewer m h.1) ]

pub renamed_keeps : (e : Entries) (g : Sig) (pairs : List (NameId × NameId)) → KeepsArguments e (renamed_label g pairs)
renamed_keeps e g pairs o ps xs m n is h = subst (λ z. HasActionArguments o ps xs (label_of e z)) (same_some is) (each m h)
  where
    each : (m : List PlainAction) → HasActionArguments o ps xs (label_of e m) → HasActionArguments o ps xs (label_of e (map (renamed_action g pairs) m))
    each [] h = tt
    each (a ∷ m) h = (h.0, each m h.1)

-- ---- summands
module _ (e : Entries) (o : Origin) (added params : List Bound) (f : List PlainAction → Option (List PlainAction)) (keeps : KeepsArguments e f) where
  labelled_plain : (s t : PlainSummand) (m : Option (List PlainAction)) → f s.label ≡ m → SummandIsPlain o added params (summand_of e s) → Contains (labelled s m) t → SummandIsPlain o added params (summand_of e t)
  labelled_plain s t None is plain i = absurd (contains_none t i)
  labelled_plain s t (Some m) is plain i = subst (λ z. SummandIsPlain o added params (summand_of e z)) (the_one (record { sums = s.sums; condition = s.condition; label = m; next = s.next }) t i) (record {
    sums = plain.sums;
    condition = plain.condition;
    label = keeps o params (map (bound_at e) s.sums ++ params) s.label m is plain.label;
    next = plain.next;
  })
    where
      the_one : (x y : PlainSummand) → Contains (x ∷ []) y → x ≡ y
      the_one x y i = ⊎_elim (λ q. q) (λ n. absurd (contains_none y n)) (contains_cases x y [] i)

  filtered_plain : (ss : List PlainSummand) → ((s : Summand) → Contains (map (summand_of e) ss) s → SummandIsPlain o added params s) → (y : Summand) → Contains (map (summand_of e) (flat_map (by_label f) ss)) y → SummandIsPlain o added params y
  filtered_plain ss plain y i =
      let t = contains_map (summand_of e) (flat_map (by_label f) ss) y i in
      let s = in_each (by_label f) ss (contains_in (flat_map (by_label f) ss) t.1.0) in
      subst (λ z. SummandIsPlain o added params z) (sym t.1.1)
      (labelled_plain s.0 t.0 (f s.0.label) refl (plain (summand_of e s.0) (map_contains (summand_of e) ss s.0 (in_contains s.1))) (in_contains s.2))

-- ---- the whole process
pub filter_is_plain : (s g : Sig) (q : PoolContents) (w : Written) (l : PlainLinear) (f : List PlainAction → Option (List PlainAction)) → KeepsArguments (entries_of g q.trees) f → Fits g q.trees (with_labels f l) → IsPlainFor s g q w l
    → IsPlainFor s g q w (with_labels f l)
filter_is_plain s g q w l f keeps fits k =
    let e = entries_of g q.trees in
    record {
      fits = fits;
      stacks = k.stacks;
      stacks_added = k.stacks_added;
      added = k.added;
      are_added = k.are_added;
      are_parameters = k.are_parameters;
      plain = record { starts = k.plain.starts; summands = filtered_plain e (origin_of g q w k.stacks) (map (bound_at e) k.added) (map (bound_at e) l.params) f keeps l.summands k.plain.summands };
    }
