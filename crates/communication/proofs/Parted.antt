-- The labels and the conditions of ways are over the variables of the summand, and have their sorts.
use Rattle.std.proofs.Common.{◌≡◌, ℕ, zero, suc, List, [], ◌∷◌, map, refl, sym, subst}
use Rattle.std.specs.Prelude.{Contains}
use Rattle.data_theory.specs.Terms.{Sort, Term, variable, numeral, unknown, application}
use Rattle.data_theory.specs.Declarations.{Data, IsSort, Declares, HasSort, HaveSorts, IsData}
use Rattle.data_theory.specs.Environments.{terms_of, IsOver, AreOver}
use Rattle.data_theory.proofs.WellSorted.{symbol_sort, numeral_sort}
use Rattle.process_terms.specs.Names.{Name}
use Rattle.process_terms.specs.Labels.{Action, Label}
use Rattle.process_terms.specs.Communication.{Rule, Split, all_split, to_first, to_second, HaveArgumentSorts, one_more_action, equalities, group_equalities, conjunction_of}
use Rattle.bisim_laws.specs.LinearProcesses.{LabelIsOver, no_action_left, action_over, LabelIsSorted, no_action_to_sort, action_sorted}
use Rattle.lps_core.specs.Conditions.{AreConditions, no_conditions, more_conditions}
use Rattle.lps_core.proofs.Members.{In, here, there}
use Rattle.lps_core.proofs.Chains.{conditions_append, chain_condition, not_condition}
use Rattle.communication.specs.Ways.{Start, joins, ways, rest}
use Rattle.communication.specs.Communicated.{texts, joining, ActionGroup, Way, way_label, equalities_of, further_groups, is_no_group, way_parts}
use Rattle.communication.proofs.Listed.{Begins, Made, made_group, made_stay, made, in_further, equal_parts}

-- ---- labels over variables of sorts
pub data LabelFits (g : Data) (vs : List Sort) (xs : List ℕ) : Label → Type 0 where
  no_action : LabelFits g vs xs []
  one_action : {a : Action} {m : Label} → AreOver xs (terms_of a.args) → HaveSorts g vs (terms_of a.args) a.sorts → LabelFits g vs xs m → LabelFits g vs xs (a ∷ m)

pub label_fits : {g : Data} {vs : List Sort} {xs : List ℕ} {m : Label} → LabelIsOver xs m → LabelIsSorted g vs m → LabelFits g vs xs m
label_fits no_action_left no_action_to_sort = no_action
label_fits (action_over h i) (action_sorted k j) = one_action h k (label_fits i j)

pub fits_over : {g : Data} {vs : List Sort} {xs : List ℕ} {m : Label} → LabelFits g vs xs m → LabelIsOver xs m
fits_over no_action = no_action_left
fits_over (one_action h k i) = action_over h (fits_over i)

pub fits_sorted : {g : Data} {vs : List Sort} {xs : List ℕ} {m : Label} → LabelFits g vs xs m → LabelIsSorted g vs m
fits_sorted no_action = no_action_to_sort
fits_sorted (one_action h k i) = action_sorted k (fits_sorted i)

parted : {g : Data} {vs : List Sort} {xs : List ℕ} {l o m : Label} → Split l o m → LabelFits g vs xs m → LabelFits g vs xs l × LabelFits g vs xs o
parted all_split h = (no_action, no_action)
parted (to_first s) (one_action h k i) = let r = parted s i in (one_action h k r.0, r.1)
parted (to_second s) (one_action h k i) = let r = parted s i in (r.0, one_action h k r.1)

-- the sorts of these variables are sorts of the data
abbrev pub Known : Data → List Sort → List ℕ → Type 0
Known g vs xs = (v : ℕ) (s : Sort) → Contains xs v → Declares vs v s → IsSort g s

module _ (g : Data) (ok : IsData g) (vs : List Sort) (xs : List ℕ) (known : Known g vs xs) where
  sort_known : (t : Term) (s : Sort) → IsOver xs t → HasSort g vs t s → IsSort g s
  sort_known (variable v) s o h = known v s o h
  sort_known (numeral a z) s o h = numeral_sort g s z h.1
  sort_known (unknown d i) s o h = subst (λ r. IsSort g r) (sym h.0) h.1
  sort_known (application f ts) s o h = subst (λ r. IsSort g r) h.2 (symbol_sort g ok f h.0)

  equalities_are : (ss : List Sort) (ts us : List Term) → AreOver xs (terms_of ts) → AreOver xs (terms_of us) → HaveSorts g vs (terms_of ts) ss → HaveSorts g vs (terms_of us) ss → AreConditions g vs xs (equalities ss ts us)
  equalities_are [] ts us o p h k = no_conditions
  equalities_are (s ∷ ss) [] us o p h k = no_conditions
  equalities_are (s ∷ ss) (t ∷ ts) [] o p h k = no_conditions
  equalities_are (s ∷ ss) (t ∷ ts) (u ∷ us) o p h k = more_conditions (record { over = (o.0, (p.0, tt)); sorted = (sort_known t s o.0 h.0, (h.0, (k.0, tt)), refl, refl) }) (equalities_are ss ts us o.1 p.1 h.1 k.1)

  group_are : (a : Action) (m : Label) → AreOver xs (terms_of a.args) → HaveSorts g vs (terms_of a.args) a.sorts → LabelFits g vs xs m → HaveArgumentSorts a.sorts m → AreConditions g vs xs (group_equalities a m)
  group_are a [] o h k i = no_conditions
  group_are a (b ∷ m) o h (one_action p j k) (one_more_action q i) =
      conditions_append g vs xs (equalities a.sorts a.args b.args) (group_equalities a m) (equalities_are a.sorts a.args b.args o p h (subst (λ ss. HaveSorts g vs (terms_of b.args) ss) q j)) (group_are a m o h k i)

  pub record WayFits (w : Way) : Type 0 where
    pub label : LabelFits g vs xs (way_label w)
    pub equal : AreConditions g vs xs (equal_parts w)
    pub rest_fits : LabelFits g vs xs (rest w)

  start_fits : (rules : List Rule) (a : Action) (m : Label) (s : Start Action Name) (w : Way) → AreOver xs (terms_of a.args) → HaveSorts g vs (terms_of a.args) a.sorts → LabelFits g vs xs m → Begins rules a m s
      → (LabelFits g vs xs s.behind → WayFits w) → s.group.first ≡ a → WayFits (joins s.group ∷ w)
  start_fits rules a m s w h k j b f q =
      let p = parted b.split j in
      let r = f p.1 in
      record {
        label = one_action (subst (λ z. AreOver xs (terms_of z.args)) (sym q) h) (subst (λ z. HaveSorts g vs (terms_of z.args) z.sorts) (sym q) k) r.label;
        equal = conditions_append g vs xs (equalities_of s.group) (equal_parts w) (subst (λ z. AreConditions g vs xs (group_equalities z s.group.others)) (sym q) (group_are a s.group.others h k p.0 b.group.sorted)) r.equal;
        rest_fits = r.rest_fits;
      }

  made_fits : (rules : List Rule) (n : ℕ) (a : Action) (m : Label) {w : Way} → AreOver xs (terms_of a.args) → HaveSorts g vs (terms_of a.args) a.sorts → LabelFits g vs xs m
      → ((o : Label) (v : Way) → LabelFits g vs xs o → In v (ways texts (map joining rules) n o) → WayFits v) → Made rules n a m w → WayFits w
  made_fits rules n a m h k j f (made_group {w = v} s b d) = start_fits rules a m s v h k j b (λ l. f s.behind v l d) b.first
  made_fits rules n a m h k j f (made_stay {w = v} d) = let r = f m v j d in record { label = one_action h k r.label; equal = r.equal; rest_fits = one_action h k r.rest_fits }

  pub way_fits : (rules : List Rule) (n : ℕ) (m : Label) (w : Way) → LabelFits g vs xs m → In w (ways texts (map joining rules) n m) → WayFits w
  way_fits rules zero m w h here = record { label = no_action; equal = no_conditions; rest_fits = no_action }
  way_fits rules zero m w h (there i) = elim i [ ]
  way_fits rules (suc n) [] w h here = record { label = no_action; equal = no_conditions; rest_fits = no_action }
  way_fits rules (suc n) [] w h (there i) = elim i [ ]
  way_fits rules (suc n) (a ∷ m) w (one_action h k j) i = made_fits rules n a m h k j (λ o v f d. way_fits rules n o v f d) (made rules n a m w i)

  pub further_are : (rules : List Rule) (m : Label) → LabelFits g vs xs m → (z : ActionGroup) → In z (further_groups rules m) → AreConditions g vs xs (equalities_of z)
  further_are rules m h z i =
      let r = in_further rules m z i in
      first_are z.first z.others (parted r.split h).0 r.group.sorted
    where
      first_are : (a : Action) (l : Label) → LabelFits g vs xs (a ∷ l) → HaveArgumentSorts a.sorts l → AreConditions g vs xs (group_equalities a l)
      first_are a l (one_action o k j) q = group_are a l o k j q

  nots_are : (zs : List ActionGroup) → ((z : ActionGroup) → In z zs → AreConditions g vs xs (equalities_of z)) → AreConditions g vs xs (map is_no_group zs)
  nots_are [] f = no_conditions
  nots_are (z ∷ zs) f = more_conditions (not_condition g vs xs (conjunction_of (equalities_of z)) (chain_condition g vs xs (equalities_of z) (f z here))) (nots_are zs (λ y i. f y (there i)))

  pub parts_are : (rules : List Rule) (n : ℕ) (m : Label) (w : Way) → LabelFits g vs xs m → In w (ways texts (map joining rules) n m) → AreConditions g vs xs (way_parts rules w)
  parts_are rules n m w h i =
      let f = way_fits rules n m w h i in
      conditions_append g vs xs (equal_parts w) (map is_no_group (further_groups rules (rest w))) f.equal (nots_are (further_groups rules (rest w)) (further_are rules (rest w) f.rest_fits))
