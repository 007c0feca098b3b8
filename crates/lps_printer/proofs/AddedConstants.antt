-- Constants that are added for empty lists.
use Rattle.std.proofs.Common.{◌≡◌, ℕ, suc, ◌+◌, ◌<◌, List, [], ◌∷◌, length, map, drop, get_or, codes, Option, Some, Result, Ok, Err, sym, ap, ◌∙◌, subst, arith, drop-cons, add-one, length-append}
use Rattle.std.specs.Prelude.{slice_get, IfSome, IfOk, OnErr}
use Rattle.std.proofs.Math.ListN.{set}
use Rattle.data_theory.specs.declared.ids.FunId.{FunId}
use Rattle.data_theory.specs.declared.ids.SortId.{SortId}
use Rattle.data_theory.specs.Functions.{Function, declared_function}
use Rattle.data_theory.specs.Signature.{Sig, with_taken, with_function}
use Rattle.data_theory.specs.IdTerms.{IsGrown}
use Rattle.data_theory.proofs.IdSortLemmas.{read_within}
use Rattle.data_theory.proofs.IdGrowthLemmas.{with_a_function_it_is_grown, growth_after_growth_is_growth}
use Rattle.term_pool.proofs.DeclaredConstants.{grown_as, grown_itself, fresh_grows, still_read}
use Rattle.lps_printer.specs.AddedConstants.{result_or, result_in, AddsConstant, AddsEach, adds, AddsConstants, with_constants}
use Rattle.lps_printer.proofs.CodeForms.{at_entry}

pub result_told : (g : Sig) (f : FunId) (s : SortId) → f.0 < length g.functions → IfSome (slice_get g.functions f.0) (λ (e : Function). e.result ≡ s) → s ≡ result_in g f
result_told g f s l h =
    let x = read_within g.functions f.0 l in
    sym (ap result_or x.1 ∙ at_entry (λ (e : Function). e.result ≡ s) (slice_get g.functions f.0) x.0 x.1 h)

-- in a signature that has grown, an old function has the sort that it had
pub result_kept : (g h : Sig) → IsGrown g h → (f : FunId) → f.0 < length g.functions → result_in h f ≡ result_in g f
result_kept g h w f l =
    let x = read_within g.functions f.0 l in
    ap result_or (still_read g.functions h.functions w.new_functions w.functions f.0 x.0 x.1) ∙ sym (ap result_or x.1)

pub functions_longer : (g h : Sig) (f : FunId) → IsGrown g h → f.0 < length g.functions → f.0 < length h.functions
functions_longer g h f w l = let e = ap length w.functions ∙ length-append g.functions w.new_functions in omega (arith, e, l)

pub constant_grows : (g h : Sig) (s : SortId) → AddsConstant g s h → IsGrown g h
constant_grows g h s one =
    growth_after_growth_is_growth g one.between h (fresh_grows g (codes "nil") one.name one.between one.fresh) (grown_as one.between h _ one.declared (with_a_function_it_is_grown one.between (declared_function one.name [] s)))

pub one_function_more : (g h : Sig) (s : SortId) → AddsConstant g s h → length h.functions ≡ suc (length g.functions)
one_function_more g h s one =
    let same : length one.between.functions ≡ length g.functions = ap (λ (k : Sig). length k.functions) one.fresh.taken in
    let more = ap (λ (k : Sig). length k.functions) one.declared ∙ length-append one.between.functions (declared_function one.name [] s ∷ []) in
    omega (arith, same, more)

-- after either answer
pub grown_by_one : {T E : Type 0} (r : Result T E) (g h : Sig) (f : Function) → IfOk r (λ _. h ≡ with_function g f) → OnErr r (h ≡ g) → IsGrown g h
grown_by_one (Ok x) g h f added kept = grown_as g h (with_function g f) added (with_a_function_it_is_grown g f)
grown_by_one (Err e) g h f added kept = grown_as g h g kept (grown_itself g)

-- ---- one after the other
pub next_constant : (g h k : Sig) (nils : List FunId) (i : ℕ) (x : FunId) (final : Sig) → i < length nils → x ≡ get_or nils i x → IsGrown g h → x.0 < length g.functions → AddsConstant h (result_in h x) k
    → AddsEach k (map (result_in g) (drop (i + 1) nils)) final → AddsEach h (map (result_in g) (drop i nils)) final
next_constant g h k nils i x final l e w within one rest =
    let cut : x ∷ drop (i + 1) nils ≡ drop i nils = ap (λ y. y ∷ drop (i + 1) nils) e ∙ sym (drop-cons nils i x l ∙ ap (λ n. get_or nils i x ∷ drop n nils) (sym (add-one i))) in
    subst (λ xs. AddsEach h (map (result_in g) xs) final) cut (adds (subst (λ s. AddsConstant h s k) (result_kept g h w x within) one) rest)

pub constants_begun : (g h : Sig) (ss : List SortId) → 0 < length ss → AddsEach (with_taken g (codes "nil")) ss h → AddsConstants g ss h
constants_begun g h [] l run = absurd (omega (arith, l))
constants_begun g h (s ∷ ss) l run = run

-- ---- the table
pub next_entry : (n : ℕ) (nils : List FunId) (i : ℕ) (x c : FunId) (table : List (Option FunId)) → i < length nils → x ≡ get_or nils i x → c.0 ≡ n
    → with_constants (suc n) (drop (i + 1) nils) (set table x.0 (Some c)) ≡ with_constants n (drop i nils) table
next_entry n nils i x c table l e q =
    let cut : x ∷ drop (i + 1) nils ≡ drop i nils = ap (λ y. y ∷ drop (i + 1) nils) e ∙ sym (drop-cons nils i x l ∙ ap (λ k. get_or nils i x ∷ drop k nils) (sym (add-one i))) in
    ap (λ (k : ℕ). with_constants (suc n) (drop (i + 1) nils) (set table x.0 (Some (record { 0 = k })))) q ∙ ap (λ xs. with_constants n xs table) cut
