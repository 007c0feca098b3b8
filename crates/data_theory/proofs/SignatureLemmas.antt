-- Functions by name, and taken texts.
use Rattle.std.proofs.Common.{◌≡◌, ℕ, zero, suc, ◌↔◌, List, [], ◌∷◌, ◌++◌, Bool, true, false, ◌||◌, ◌==◌, IsTrue, Option, Some, None, refl, sym, ap, ◌∙◌, subst, arith}
use Rattle.std.specs.Prelude.{slice_get, MatchOption}
use Rattle.std.specs.List.{Contains, list_any}
use Rattle.data_theory.specs.declared.ids.NameId.{NameId}
use Rattle.data_theory.specs.declared.ids.SortId.{SortId}
use Rattle.data_theory.specs.declared.ids.FunId.{FunId}
use Rattle.data_theory.specs.declared.signature.Variable.{Variable}
use Rattle.data_theory.specs.declared.rows.Row.{Row}
use Rattle.data_theory.specs.Names.{AreDifferent, place_in, places_in, with_text, with_texts}
use Rattle.data_theory.specs.Taken.{with_name, with_names, Takes}
use Rattle.data_theory.specs.Sorts.{SortInfo, first_sorts}
use Rattle.data_theory.specs.Rows.{built_ins}
use Rattle.data_theory.specs.Table.{first_table}
use Rattle.data_theory.specs.FirstNames.{first_names}
use Rattle.data_theory.specs.Keys.{Key, key}
use Rattle.data_theory.specs.Functions.{Function, HasKey}
use Rattle.data_theory.specs.Signature.{Sig, first_signature, with_taken, IsFunAmong, IsTakenAmong}
use Rattle.data_theory.proofs.PlaceLemmas.{contains_read}
use Rattle.data_theory.proofs.IdLemmas.{name_ids_agree}

same_place : (a b : NameId) → a.0 ≡ b.0 → a ≡ b
same_place a b e = ap (λ (n : ℕ). record { 0 = n }) e

pub has_key_is_fun : (fs : List Function) (texts : List (List ℕ)) (t : List ℕ) (ss : List SortId) (n : NameId) → slice_get texts n.0 ≡ Some t → (k : ℕ) → HasKey fs (key n ss) k → IsFunAmong fs texts t ss k
has_key_is_fun fs texts t ss n at k h =
    (h.0, h.1, ap (λ (q : Key). slice_get texts q.name.0) h.2 ∙ at, ap (λ (q : Key). q.sorts) h.2)

pub fun_has_key : (fs : List Function) (texts : List (List ℕ)) (t : List ℕ) (ss : List SortId) (n : NameId) → AreDifferent texts → slice_get texts n.0 ≡ Some t → (k : ℕ) → IsFunAmong fs texts t ss k → HasKey fs (key n ss) k
fun_has_key fs texts t ss n d at k h =
    let name : h.0.name ≡ n = same_place h.0.name n (d h.0.name.0 n.0 t h.2 at) in
    (h.0, h.1, (λ i. key (name i) (h.3 i)))

pub as_fun : (fs : List Function) (texts : List (List ℕ)) (t : List ℕ) (ss : List SortId) (n : NameId) → AreDifferent texts → slice_get texts n.0 ≡ Some t → (r : Option FunId)
    → MatchOption r ((k : ℕ) → HasKey fs (key n ss) k → ⊥) (λ f. HasKey fs (key n ss) f.0)
    → MatchOption r ((k : ℕ) → IsFunAmong fs texts t ss k → ⊥) (λ f. IsFunAmong fs texts t ss f.0)
as_fun fs texts t ss n d at None h = λ k f. h k (fun_has_key fs texts t ss n d at k f)
as_fun fs texts t ss n d at (Some f) h = has_key_is_fun fs texts t ss n at f.0 h

-- ---- taken texts
or_true : (b : Bool) → (b || true) ≡ true
or_true true = refl
or_true false = refl

pub name_among : (ns : List NameId) (n : NameId) → list_any (λ (m : NameId). n.0 == m.0) ns ≡ true → Contains ns n
name_among [] n e = absurd (let z : false ≡ true = e in cc)
name_among (m ∷ ns) n e = by_test (name_among ns n) (n.0 == m.0) refl e
  where
    by_test : (list_any (λ (m : NameId). n.0 == m.0) ns ≡ true → Contains ns n) → (b : Bool) → (n.0 == m.0) ≡ b → (b || list_any (λ (m : NameId). n.0 == m.0) ns) ≡ true → Contains (m ∷ ns) n
    by_test later true t f = (zero, omega arith, sym ((name_ids_agree n m).0 t))
    by_test later false t f = let c = later f in (suc c.0, omega (arith, c.1), c.2)

pub among_names : (ns : List NameId) (n : NameId) → Contains ns n → list_any (λ (m : NameId). n.0 == m.0) ns ≡ true
among_names [] n c = absurd (omega (arith, c.1))
among_names (m ∷ ns) n (zero, l, e) = rw ((name_ids_agree n m).1 (sym e)) refl
among_names (m ∷ ns) n (suc k, l, e) = rw (among_names ns n (k, omega (arith, l), e)) (or_true (n.0 == m.0))

pub taken_by_name : (texts : List (List ℕ)) (taken : List NameId) (t : List ℕ) (n : NameId) (r : Bool) → AreDifferent texts → slice_get texts n.0 ≡ Some t → r ≡ list_any (λ (m : NameId). n.0 == m.0) taken → IsTrue r ↔ IsTakenAmong texts taken t
taken_by_name texts taken t n r d at e = (
  λ h. (n, at, name_among taken n (sym e ∙ h)),
  λ h. let name : h.0 ≡ n = same_place h.0 n (d h.0.0 n.0 t h.1 at) in e ∙ among_names taken n (subst (Contains taken) name h.2),
)

pub no_name_no_taken : (texts : List (List ℕ)) (taken : List NameId) (t : List ℕ) → (Contains texts t → ⊥) → IsTrue false ↔ IsTakenAmong texts taken t
no_name_no_taken texts taken t none = (λ e. absurd (let z : false ≡ true = e in cc), λ h. absurd (none (contains_read texts h.0.0 t h.1)))

-- ---- how a signature begins
pub first_signature_is : (given texts : List (List ℕ)) (taken none : List NameId) (sorts : List SortInfo) (names : List (NameId × SortId)) (functions no_functions : List Function) (declared : List FunId) (actions : List Key) (variables : List Variable) (rows : List Row)
    → Takes given none first_names texts taken → none ≡ [] → sorts ≡ first_sorts → names ≡ [] → functions ≡ no_functions ++ built_ins texts rows → no_functions ≡ [] → rows ≡ first_table → declared ≡ [] → actions ≡ [] → variables ≡ []
    → record { texts = texts; taken = taken; sorts = sorts; sort_names = names; functions = functions; declared = declared; actions = actions; variables = variables } ≡ first_signature given
unfolding first_signature
first_signature_is given texts taken none sorts names functions no_functions declared actions variables rows t e f g h n r d a v =
    let texts' : texts ≡ with_texts given first_names = t.entered in
    let taken' : taken ≡ with_names [] (places_in (with_texts given first_names) first_names) = t.named ∙ (λ i. with_names (e i) (places_in (texts' i) first_names)) in
    let functions' : functions ≡ built_ins (with_texts given first_names) first_table = h ∙ (λ i. n i ++ built_ins (texts' i) (r i)) in
    (λ i. record { texts = texts' i; taken = taken' i; sorts = f i; sort_names = g i; functions = functions' i; declared = d i; actions = a i; variables = v i })

-- ---- a text is taken
pub name_taken : (s : Sig) (t : List ℕ) (texts : List (List ℕ)) (taken : List NameId) (name : NameId) → texts ≡ with_text s.texts t → taken ≡ with_name s.taken name → name ≡ place_in texts t → record s { texts = texts; taken = taken } ≡ with_taken s t
name_taken s t texts taken name e f g =
    let named : taken ≡ with_name s.taken (place_in (with_text s.texts t) t) = f ∙ ap (with_name s.taken) g ∙ ap (λ ts. with_name s.taken (place_in ts t)) e in
    (λ i. record s { texts = e i; taken = named i })
