-- The declared functions of a signature by their places.
use Rattle.std.proofs.Common.{◌≡◌, ◌<◌, ◌+◌, ℕ, List, length, map, ap, sym, ◌∙◌, arith}
use Rattle.std.specs.Prelude.{Some, None, slice_get}
use Rattle.std.proofs.lemmas.List.{length-map}
use Rattle.std.proofs.lemmas.Option.{slice_get_within}
use Rattle.data_theory.specs.declared.ids.FunId.{FunId}
use Rattle.data_theory.specs.Terms.{function}
use Rattle.data_theory.specs.Declarations.{function_at}
use Rattle.data_theory.specs.Functions.{Function}
use Rattle.data_theory.specs.Signature.{Sig}
use Rattle.data_theory.specs.IdSymbols.{declared_from}
use Rattle.data_theory.specs.IdTables.{IsTable}
use Rattle.data_theory.specs.IdTerms.{sort_under}
use Rattle.data_theory.specs.IdData.{role_meant, function_meant, data_meant}
use Rattle.data_theory.specs.IdRoles.{declared_number}
use Rattle.data_theory.proofs.IdSymbolLemmas.{declared_functions_stand_in_the_data, listed_functions_mean_their_places}
use Rattle.sort_table.proofs.NewFunctions.{declared_place}

same_function : (a b : ℕ) → function a ≡ function b → a ≡ b
same_function a b e = cc

pub place_of_listed : (g : Sig) → IsTable g → (k : ℕ) (i : FunId) (x : Function) → slice_get g.declared k ≡ Some i → slice_get g.functions i.0 ≡ Some x → x.word ≡ None → declared_number g.functions i ≡ k
place_of_listed g table k i x at there none =
    same_function (declared_number g.functions i) k (sym (declared_functions_stand_in_the_data g i x there none).0 ∙ listed_functions_mean_their_places g table k i at)

pub one_listed : (g : Sig) → IsTable g → (p q : ℕ) (i : FunId) → slice_get g.declared p ≡ Some i → slice_get g.declared q ≡ Some i → p ≡ q
one_listed g table p q i a b = same_function p q (sym (listed_functions_mean_their_places g table p i a) ∙ listed_functions_mean_their_places g table q i b)

-- a declared function stands among the listed ones
pub listed_place : (g : Sig) → IsTable g → (i : FunId) (x : Function) → slice_get g.functions i.0 ≡ Some x → x.word ≡ None → (p : ℕ) × (slice_get g.declared p ≡ Some i)
listed_place g table i x at none =
    let p = declared_place g.functions 0 i.0 x at none in
    (p.0, ap (λ (is : List FunId). slice_get is p.0) table.listed ∙ (p.1 ∙ (let same : 0 + i.0 ≡ i.0 = omega arith in ap (λ (k : ℕ). Some (record { 0 = k })) same)))

pub within_listed : (h : Sig) → IsTable h → (p : ℕ) (i : FunId) → slice_get h.declared p ≡ Some i → p < length (data_meant h).functions
within_listed h table p i at =
    let low = slice_get_within h.declared p i at in
    let listed = ap length table.listed in
    let many = length-map (declared_from 0 h.functions) (function_meant h) in
    omega (arith, low, listed, many)

pub listed_within : (h : Sig) → IsTable h → (p : ℕ) → p < length (data_meant h).functions → p < length h.declared
listed_within h table p low =
    let listed = ap length table.listed in
    let many = length-map (declared_from 0 h.functions) (function_meant h) in
    omega (arith, low, listed, many)

-- what stands at the place of a listed function
pub listed_meant : (h : Sig) → IsTable h → (p : ℕ) (i : FunId) (x : Function) → slice_get h.declared p ≡ Some i → slice_get h.functions i.0 ≡ Some x → x.word ≡ None
    → function_at (data_meant h) p ≡ record { arguments = map (sort_under h) x.sorts; result = sort_under h x.result; role = role_meant h i }
listed_meant h table p i x at there none =
    ap (function_at (data_meant h)) (sym (place_of_listed h table p i x at there none)) ∙ (declared_functions_stand_in_the_data h i x there none).1
