-- Communication and the operators treat labels that agree in order alike.
use Rattle.std.proofs.Common.{◌≡◌, List, [], ◌∷◌, ◌++◌, refl, sym, ◌∙◌, subst}
use Rattle.std.specs.Prelude.{Contains}
use Rattle.data_theory.specs.Terms.{Sort, Term, equality, conjunction}
use Rattle.data_theory.specs.Provable.{reflexive, symmetric, transitive, congruent, place, no_places}
use Rattle.process_terms.specs.Names.{Name}
use Rattle.process_terms.specs.Theories.{Theory, Equal, IsFalse, Equals, no_terms, more_terms, AllTrue, none_left, true_and_more}
use Rattle.process_terms.specs.Labels.{Action, Label, Permuted, AgreeAction, equal_args, AgreeInOrder, both_silent, next_agree}
use Rattle.process_terms.specs.Communication.{Rule, Split, all_split, to_first, to_second, HaveArgumentSorts, no_more_actions, one_more_action, IsGroup, equalities, group_equalities, conjunction_of, Grouped, all_grouped, stays, joins, NoneFurther}
use Rattle.process_terms.specs.Processes.{Around}
use Rattle.process_terms.specs.Steps.{Passes, silent_allowed, named_allowed, not_blocked, nothing_hidden, one_hidden, one_shown, nothing_renamed, one_renamed, communicated}
use Rattle.process_terms.specs.AgreementLaws.{CommunicationRespectsAgreement, OperatorsRespectAgreement}
use Rattle.process_terms.proofs.AgreeingLabels.{agree_sym, agree_names}

-- ---- equalities
-- the equalities of the same sorts over provably equal terms
equalities_equal : {th : Theory} (ss : List Sort) {ts ts' us us' : List Term} → Equals th ts ts' → Equals th us us' → Equals th (equalities ss ts us) (equalities ss ts' us')
equalities_equal [] h k = no_terms
equalities_equal (s ∷ ss) no_terms k = no_terms
equalities_equal (s ∷ ss) (more_terms h i) no_terms = no_terms
equalities_equal (s ∷ ss) (more_terms h i) (more_terms j k) = more_terms (congruent (equality s) (place h (place j no_places))) (equalities_equal ss i k)

equals_append : {th : Theory} {ts ts' us us' : List Term} → Equals th ts ts' → Equals th us us' → Equals th (ts ++ us) (ts' ++ us')
equals_append no_terms k = k
equals_append (more_terms h i) k = more_terms h (equals_append i k)

pair_equal : {th : Theory} {a a' : Action} {us us' : List Term} → AgreeAction th a a' → Equals th us us' → Equals th (equalities a.sorts a.args us) (equalities a'.sorts a'.args us')
pair_equal (equal_args {ss = ss} h) k = equalities_equal ss h k

group_equal : {th : Theory} {a a' : Action} {m m' : Label} → AgreeAction th a a' → AgreeInOrder th m m' → Equals th (group_equalities a m) (group_equalities a' m')
group_equal h both_silent = no_terms
group_equal h (next_agree (equal_args i) k) = equals_append (pair_equal h i) (group_equal h k)

conjunction_equal : {th : Theory} {ts us : List Term} → Equals th ts us → Equal th (conjunction_of ts) (conjunction_of us)
conjunction_equal no_terms = reflexive
conjunction_equal (more_terms h no_terms) = h
conjunction_equal (more_terms h (more_terms i k)) = congruent conjunction (place h (place (conjunction_equal (more_terms i k)) no_places))

all_true_along : {th : Theory} {ts us : List Term} → Equals th ts us → AllTrue th ts → AllTrue th us
all_true_along no_terms h = none_left
all_true_along (more_terms h k) (true_and_more i j) = true_and_more (transitive (symmetric h) i) (all_true_along k j)

-- ---- groups
record SplitAlong (th : Theory) (g o m : Label) : Type 0 where
  first : Label
  second : Label
  split : Split first second m
  agree_first : AgreeInOrder th g first
  agree_second : AgreeInOrder th o second

split_along : {th : Theory} {g o m m' : Label} → Split g o m → AgreeInOrder th m m' → SplitAlong th g o m'
split_along all_split both_silent = record { first = []; second = []; split = all_split; agree_first = both_silent; agree_second = both_silent }
split_along (to_first s) (next_agree {b = b} h k) =
    let r = split_along s k in
    record { first = b ∷ r.first; second = r.second; split = to_first r.split; agree_first = next_agree h r.agree_first; agree_second = r.agree_second }
split_along (to_second s) (next_agree {b = b} h k) =
    let r = split_along s k in
    record { first = r.first; second = b ∷ r.second; split = to_second r.split; agree_first = r.agree_first; agree_second = next_agree h r.agree_second }

action_sorts : {th : Theory} {a b : Action} → AgreeAction th a b → a.sorts ≡ b.sorts
action_sorts (equal_args h) = refl

sorts_along : {th : Theory} {ss : List Sort} {m m' : Label} → AgreeInOrder th m m' → HaveArgumentSorts ss m → HaveArgumentSorts ss m'
sorts_along both_silent h = no_more_actions
sorts_along (next_agree h k) (one_more_action e i) = one_more_action (sym (action_sorts h) ∙ e) (sorts_along k i)

group_along : {th : Theory} {c : Rule} {a a' : Action} {m m' : Label} → AgreeAction th a a' → AgreeInOrder th m m' → IsGroup c a m → IsGroup c a' m'
group_along {c = c} {m' = m'} h k g = record {
  named = subst (λ l. Permuted l c.left) (agree_names (next_agree h k)) g.named;
  sorted = subst (λ ss. HaveArgumentSorts ss m') (action_sorts h) (sorts_along k g.sorted);
}

result_along : {th : Theory} (c : Rule) {a b : Action} → AgreeAction th a b → AgreeAction th (record { name = c.result; sorts = a.sorts; args = a.args }) (record { name = c.result; sorts = b.sorts; args = b.args })
result_along c (equal_args h) = equal_args h

record GroupedAlong (th : Theory) (rules : List Rule) (n rest m : Label) : Type 0 where
  label : Label
  left : Label
  grouped : Grouped th rules m label left
  agree : AgreeInOrder th n label
  agree_left : AgreeInOrder th rest left

grouped_along : {th : Theory} {rules : List Rule} {m n rest m' : Label} → Grouped th rules m n rest → AgreeInOrder th m m' → GroupedAlong th rules n rest m'
grouped_along all_grouped both_silent = record { label = []; left = []; grouped = all_grouped; agree = both_silent; agree_left = both_silent }
grouped_along (stays s) (next_agree {b = b} h k) =
    let r = grouped_along s k in
    record { label = b ∷ r.label; left = b ∷ r.left; grouped = stays r.grouped; agree = next_agree h r.agree; agree_left = next_agree h r.agree_left }
grouped_along (joins {c = c} i s g e more) (next_agree {b = b} h k) =
    let t = split_along s k in
    let r = grouped_along more t.agree_second in
    record {
      label = record { name = c.result; sorts = b.sorts; args = b.args } ∷ r.label;
      left = r.left;
      grouped = joins i t.split (group_along h t.agree_first g) (all_true_along (group_equal h t.agree_first) e) r.grouped;
      agree = next_agree (result_along c h) r.agree;
      agree_left = r.agree_left;
    }

false_along : {th : Theory} (rules : List Rule) {rest : Label} (c : Rule) {a : Action} {others first behind : Label} → NoneFurther th rules rest → Contains rules c → IsGroup c a others
    → Split first behind rest → AgreeInOrder th (a ∷ others) first → IsFalse th (conjunction_of (group_equalities a others))
false_along rules c {behind = behind} f i g s (next_agree {b = b} {n = n} h k) =
    transitive (conjunction_equal (group_equal h k)) (f c b n behind i s (group_along h k g))

none_along : {th : Theory} (rules : List Rule) {rest rest' : Label} → AgreeInOrder th rest rest' → NoneFurther th rules rest → NoneFurther th rules rest'
none_along rules h f c a others behind i s g = let r = split_along s (agree_sym h) in false_along rules c f i g r.split r.agree_first

pub communicates_along : CommunicationRespectsAgreement
communicates_along th rules m m' n c h =
    let r = grouped_along c.grouped h in
    (r.label, (record { rest = r.left; grouped = r.grouped; none_further = none_along rules r.agree_left c.none_further }, r.agree))

-- ---- operators
pub passes_along : {th : Theory} {o : Around} {m n m' : Label} → Passes th o m n → AgreeInOrder th m m' → (n' : Label) × (Passes th o m' n' × AgreeInOrder th n n')
passes_along silent_allowed both_silent = ([], (silent_allowed, both_silent))
passes_along (named_allowed v i p) a = (_, (named_allowed v i (subst (λ l. Permuted l v) (agree_names a) p), a))
passes_along (not_blocked {blocked = bs} f) a = (_, (not_blocked (subst (λ l. (x : Name) → Contains l x → Contains bs x → ⊥) (agree_names a) f), a))
passes_along nothing_hidden both_silent = ([], (nothing_hidden, both_silent))
passes_along (one_hidden i p) (next_agree (equal_args h) a) = let r = passes_along p a in (r.0, (one_hidden i r.1.0, r.1.1))
passes_along (one_shown i p) (next_agree {b = b} (equal_args h) a) = let r = passes_along p a in (_ ∷ r.0, (one_shown i r.1.0, next_agree (equal_args h) r.1.1))
passes_along nothing_renamed both_silent = ([], (nothing_renamed, both_silent))
passes_along (one_renamed x i p) (next_agree (equal_args h) a) = let r = passes_along p a in (_ ∷ r.0, (one_renamed x i r.1.0, next_agree (equal_args h) r.1.1))
passes_along {th} (communicated {rules = rules} {m = m} {n = n} c) a = let r = communicates_along th rules m _ n c a in (r.0, (communicated r.1.0, r.1.1))

pub operators_along : OperatorsRespectAgreement
operators_along th o m m' n p a = passes_along p a
