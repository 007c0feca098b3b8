-- The sortings of nodes tell what their typings do.
use Rattle.std.proofs.Common.{◌≡◌, ◌<◌, ℕ, zero, suc, List, [], ◌∷◌, ◌++◌, length, map, get_or, refl, subst, ap, arith, false}
use Rattle.std.specs.Prelude.{Option, Some, None, option_map, pos}
use Rattle.data_theory.specs.declared.ids.FunId.{FunId}
use Rattle.data_theory.specs.Terms.{Symbol, variable}
use Rattle.data_theory.specs.Terms as terms
use Rattle.data_typing.specs.declared.nodes.Overload as code
use Rattle.data_typing.specs.declared.nodes.AnyOverload as code_any
use Rattle.data_typing.specs.declared.nodes.Kind.{Kind}
use Rattle.data_typing.specs.declared.nodes.Kind.TheVariants as kinds
use Rattle.data_typing.specs.declared.nodes.Node.{Node}
use Rattle.data_typing.specs.Typings.{Typing, untyped, least_sort, word_typing}
use Rattle.data_typing.specs.FlatSorts.{flat_sort}
use Rattle.data_typing.specs.Sortings.{Sorting, no_sorting, profile, any_profile, call_sorting, Tells}
use Rattle.data_typing.specs.Plans.{TellAll}
use Rattle.data_typing.specs.Nodes.{profile_of, any_profile_of, kind_sorting, sorting_at, sortings_at, sortings, values_at, values_behind, AreNodes}
use Rattle.data_typing.specs.NodeTypings.{signature_of, scheme_of, meaning_of_functions, kind_typing, node_typings, typing_at}
use Rattle.data_typing.specs.CodeSteps.{typings_at, kind_weight, weights, parts_limit}
use Rattle.data_typing.proofs.SortsFirst.{flexible_told, list_told, by_meaning}
use Rattle.data_typing.proofs.NodeLemmas.{value_from}

pub profiles_are : (y : FunId → Symbol) (fs : List code.Overload) → map profile (map (signature_of y) fs) ≡ map profile_of fs
profiles_are y [] = refl
profiles_are y (f ∷ fs) = ap (λ ps. profile_of f ∷ ps) (profiles_are y fs)

pub any_profile_is : (c : Option code_any.AnyOverload) → option_map any_profile (option_map scheme_of c) ≡ option_map any_profile_of c
any_profile_is None = refl
any_profile_is (Some c) = refl

kinds_tell : (y : FunId → Symbol) (k : Kind) (ss : List Sorting) (ts : List Typing) → TellAll ss ts → Tells (kind_sorting k ss) (kind_typing y k ts)
kinds_tell y (kinds.Variable v s) ss ts h = flexible_told (λ r. false) (Some (flat_sort s)) (λ r. None) (Some (record { term = variable v.0; sort = flat_sort s })) (λ r. refl) refl
kinds_tell y (kinds.Numeral n) ss ts h = flexible_told (λ s. false) (Some (least_sort n)) (λ s. None) (Some (record { term = terms.numeral (least_sort n) (pos n); sort = least_sort n })) (λ s. refl) refl
kinds_tell y (kinds.Call fs) ss ts h =
    let os : List code.Overload = fs.value.signatures.items in
    let c : Option code_any.AnyOverload = fs.value.any in
    let T : Typing = word_typing (meaning_of_functions y fs.value) ts in
    subst (λ ps. Tells (call_sorting ps (option_map any_profile_of c) ss) T) (profiles_are y os)
    (subst (λ p. Tells (call_sorting (map profile (map (signature_of y) os)) p ss) T) (any_profile_is c) (by_meaning (meaning_of_functions y fs.value) ss ts h))
kinds_tell y kinds.List ss ts h = list_told ss ts h

-- ---- values of nodes
tell_behind : (xs : List Sorting) (zs : List Typing) → TellAll xs zs → (s : Sorting) (t : Typing) → Tells s t → TellAll (xs ++ s ∷ []) (zs ++ t ∷ [])
tell_behind [] [] h s t k = (k, tt)
tell_behind (x ∷ xs) (z ∷ zs) h s t k = (h.0, tell_behind xs zs h.1 s t k)
tell_behind [] (z ∷ zs) h s t k = absurd h
tell_behind (x ∷ xs) [] h s t k = absurd h

tells_at : (xs : List Sorting) (zs : List Typing) → TellAll xs zs → (k : ℕ) → Tells (sorting_at xs k) (typing_at zs k)
tells_at [] [] h k = record { infers = refl; checks = λ r. refl }
tells_at (x ∷ xs) (z ∷ zs) h zero = h.0
tells_at (x ∷ xs) (z ∷ zs) h (suc k) = tells_at xs zs h.1 k
tells_at [] (z ∷ zs) h k = absurd h
tells_at (x ∷ xs) [] h k = absurd h

tell_all_at : (xs : List Sorting) (zs : List Typing) → TellAll xs zs → (ks : List ℕ) → TellAll (map (sorting_at xs) ks) (map (typing_at zs) ks)
tell_all_at xs zs h [] = tt
tell_all_at xs zs h (k ∷ ks) = (tells_at xs zs h k, tell_all_at xs zs h ks)

values_tell : (y : FunId → Symbol) (ns : List Node) (xs : List Sorting) (zs : List Typing) → TellAll xs zs → TellAll (values_behind no_sorting kind_sorting xs ns) (values_behind untyped (kind_typing y) zs ns)
values_tell y [] xs zs h = h
values_tell y (n ∷ ns) xs zs h =
    values_tell y ns (xs ++ kind_sorting n.kind (values_at no_sorting xs n.arguments.items) ∷ []) (zs ++ kind_typing y n.kind (values_at untyped zs n.arguments.items) ∷ [])
    (tell_behind xs zs h (kind_sorting n.kind (values_at no_sorting xs n.arguments.items)) (kind_typing y n.kind (values_at untyped zs n.arguments.items))
    (kinds_tell y n.kind (values_at no_sorting xs n.arguments.items) (values_at untyped zs n.arguments.items) (tell_all_at xs zs h n.arguments.items)))

pub node_tells : (y : FunId → Symbol) (ns : List Node) (k : ℕ) → Tells (sorting_at (sortings ns) k) (typing_at (node_typings y ns) k)
unfolding sortings node_typings
node_tells y ns k = tells_at (values_behind no_sorting kind_sorting [] ns) (values_behind untyped (kind_typing y) [] ns) (values_tell y ns [] [] tt) k

pub parts_tell : (y : FunId → Symbol) (ns : List Node) (ks : List ℕ) → TellAll (sortings_at (sortings ns) ks) (typings_at y ns ks)
unfolding sortings node_typings
parts_tell y ns ks = tell_all_at (values_behind no_sorting kind_sorting [] ns) (values_behind untyped (kind_typing y) [] ns) (values_tell y ns [] [] tt) ks

pub typing_there : (y : FunId → Symbol) (ns : List Node) → AreNodes ns → (i : ℕ) (n : Node) → i < length ns → n ≡ get_or ns i n → typing_at (node_typings y ns) i ≡ kind_typing y n.kind (typings_at y ns n.arguments.items)
unfolding node_typings AreNodes
typing_there y ns are i n h is = value_from untyped (kind_typing y) [] 0 ns are refl i i n (omega arith) h is

pub weight_there : (ns : List Node) → AreNodes ns → (i : ℕ) (n : Node) → i < length ns → n ≡ get_or ns i n → get_or (weights ns) i 0 ≡ parts_limit ns n.arguments.items
unfolding weights AreNodes
weight_there ns are i n h is = value_from 0 kind_weight [] 0 ns are refl i i n (omega arith) h is
