-- Names of variables are taken one after the other.
use Rattle.std.proofs.Common.{◌≡◌, ◌+◌, ◌<◌, ◌⊎◌, inl, inr, ⊎_elim, ℕ, zero, suc, List, length, get_or, refl, sym, ap, subst, ◌∙◌, Some, arith}
use Rattle.std.specs.Prelude.{[], ◌∷◌, ◌++◌, slice_get, IfSome, IfOk, OnOk, Result, Ok, Err}
use Rattle.std.proofs.lemmas.List.{length-append}
use Rattle.std.specs.List.{Contains}
use Rattle.std.proofs.lemmas.Option.{slice_get_within, slice_get-get_or, get_or_from_slice_get}
use Rattle.data_theory.specs.declared.ids.NameId.{NameId}
use Rattle.data_theory.specs.declared.ids.VarId.{VarId}
use Rattle.data_theory.specs.declared.signature.Variable.{Variable}
use Rattle.data_theory.specs.Complete.{BeginsWith}
use Rattle.data_theory.specs.Names.{place_in, with_text}
use Rattle.data_theory.specs.Signature.{Sig, with_taken, with_variable}
use Rattle.data_theory.specs.WholeSignatures.{IsSignature}
use Rattle.data_theory.proofs.NameLemmas.{place_is}
use Rattle.process_terms.proofs.MeaningLemmas.{entry_stays}
use Rattle.lps_core.specs.Fitting.{IsVariable, HasTakenName}
use Rattle.lps_core.specs.Naming.{name_of, GrowsByNames}
use Rattle.lps_core.proofs.NamedSums.{names_text, name_taken, taken_name, with_name_has}
use Rattle.lps_core.proofs.NamingLoops.{name_is}
use Rattle.lin_driver.specs.TakenNames.{HaveTakenNames}

entry_kept : {A : Type 0} (xs ys : List A) (k : ℕ) (x : A) → BeginsWith xs ys → slice_get xs k ≡ Some x → slice_get ys k ≡ Some x
entry_kept xs ys k x w e =
    let s = entry_stays xs ys x k w (slice_get_within xs k x e) in
    slice_get-get_or ys k x s.1 ∙ ap (λ z. Some z) (s.0 ∙ get_or_from_slice_get xs k x x e)

pub its_name_is_taken : (g : Sig) (x : VarId) (n : NameId) (t : List ℕ) → IsSignature g → IsVariable g x → IfSome (slice_get g.variables x.0) (λ (v : Variable). v.name ≡ n) → slice_get g.texts n.0 ≡ Some t → HasTakenName (with_taken g t) x
its_name_is_taken g x n t s l named e =
    let w = names_text g t s in
    let there : slice_get (with_text g.texts t) n.0 ≡ Some t = entry_kept g.texts (with_text g.texts t) n.0 t (w.grown.new_texts, w.grown.texts) e in
    let place : n ≡ place_in (with_text g.texts t) t = place_is (with_text g.texts t) t n.0 w.stands.table.different there in
    name_taken (with_taken g t) x l (subst (λ m. Contains (with_taken g t).taken m) (sym (name_is g x n l named ∙ place)) (with_name_has g.taken (place_in (with_text g.texts t) t)))

-- where the variables stay
pub taken_still : (g h : Sig) (x : VarId) → IsVariable g x → GrowsByNames g h → h.variables ≡ g.variables → HasTakenName g x → HasTakenName h x
taken_still g h x l w same k =
    name_taken h x (subst (λ vs. x.0 < length vs) (sym same) l)
    (subst (λ n. Contains h.taken n) (sym (ap (λ (vs : List Variable). (get_or vs x.0 (record { name = record { 0 = 0 }; sort = record { 0 = 0 } })).name) same)) (w.taken (name_of g x) (taken_name g x l k)))

below_or_last : (n k : ℕ) → k < suc n → (k < n) ⊎ (k ≡ n)
below_or_last zero zero l = inr refl
below_or_last zero (suc k) l = absurd (omega (arith, l))
below_or_last (suc n) zero l = inl (omega (arith))
below_or_last (suc n) (suc k) l = ⊎_elim (λ m. inl (omega (arith, m))) (λ e. inr (ap suc e)) (below_or_last n k (omega (arith, l)))

pub none_taken : (g : Sig) → HaveTakenNames g 0
none_taken g x l = let never : ⊥ = omega (arith, l) in absurd never

pub one_more_taken : (g h : Sig) (n : ℕ) → n < length g.variables → GrowsByNames g h → h.variables ≡ g.variables → HaveTakenNames g n → HasTakenName h (record { 0 = n }) → HaveTakenNames h (n + 1)
one_more_taken g h n l w same k last x m = ⊎_elim
    (λ i. taken_still g h x (omega (arith, i, l)) w same (k x i))
    (λ e. subst (λ i. HasTakenName h (record { 0 = i })) (sym e) last)
    (below_or_last n x.0 (omega (arith, m)))

-- with a further variable at the end
pub all_taken : (g i j h : Sig) (x : Variable) (n : ℕ) → n ≡ length g.variables → i ≡ with_variable g x → j.variables ≡ i.variables → GrowsByNames j h → h.variables ≡ j.variables → HaveTakenNames j n → HasTakenName h (record { 0 = n }) → HaveTakenNames h (length h.variables)
all_taken g i j h x n count added stays w same k last =
    let e : j.variables ≡ g.variables ++ x ∷ [] = stays ∙ ap (λ (z : Sig). z.variables) added in
    let long : length j.variables ≡ length g.variables + 1 = ap length e ∙ length-append g.variables (x ∷ []) in
    let below : n < length j.variables = omega (arith, long, count) in
    let all : n + 1 ≡ length h.variables = omega (arith, long, count, ap length same) in
    subst (HaveTakenNames h) all (one_more_taken j h n below w same k last)

pub on_ok : {T E : Type 0} (r : Result T E) (A B : Type 0) → (A → B) → OnOk r A → OnOk r B
on_ok (Ok x) A B f h = f h
on_ok (Err x) A B f h = h

pub if_ok : {T E : Type 0} (r : Result T E) (P Q : T → Type 0) → ((x : T) → P x → Q x) → IfOk r P → IfOk r Q
if_ok (Ok x) P Q f h = f x h
if_ok (Err x) P Q f h = h

pub on_any : {T E : Type 0} (r : Result T E) (A : Type 0) → A → OnOk r A
on_any (Ok x) A a = a
on_any (Err x) A a = tt
