-- Equations that are encoded one after another.
use Rattle.std.proofs.Common.{◌≡◌, ◌<◌, ◌≤◌, ◌+◌, ℕ, suc, List, [], ◌∷◌, ◌++◌, map, take, length, get_or, refl, sym, ap, ap₂, ◌∙◌, arith}
use Rattle.std.specs.Prelude.{option_map}
use Rattle.std.specs.List.{All}
use Rattle.std.proofs.lemmas.List.{append-nil, append_assoc, map-append, length-map, length-take-le, take_more, take_all}
use Rattle.std.proofs.lemmas.List.Elements.{All-nil, All-head, All-tail}
use Rattle.std.proofs.lemmas.Option.{slice_get-map, slice_get_read}
use Rattle.data_theory.specs.declared.ids.VarId.{VarId}
use Rattle.data_theory.specs.IdTrees.{Tree}
use Rattle.term_pool.specs.Pools.{Extends}
use Rattle.lps_core.specs.declared.linears.Summand.{Summand}
use Rattle.lps_core.specs.PlainLinears.{plain_summand}
use Rattle.lps_core.specs.TreeSummands.{IsSummandIn}
use Rattle.lps_core.proofs.PoolTrees.{extends_itself, extends_on}
use Rattle.greibach.specs.declared.forms.GreibachEquation.{GreibachEquation}
use Rattle.greibach.specs.PlainForms.{PlainFormSummand, PlainEquation, plain_equation}
use Rattle.regular_encoder.specs.TreeEncoding.{PlainLayout, tree_encoded, IsFormSummandIn}
use Rattle.regular_encoder.specs.WholeEncoding.{moves_of, equation_encoded, trees_of_summands, trees_encoded_from}
use Rattle.regular_encoder.specs.EncodedForms.{IsEquationIn, AreEquationsFor}
use Rattle.regular_encoder.proofs.EncodedSummands.{encoded_along, form_summand_in_kept}

-- ---- pools that are extended
summands_along : (l : PlainLayout) (i : ℕ) (e : VarId → Tree) (ts us : List Tree) (ss : List PlainFormSummand) → Extends ts us → All (IsFormSummandIn ts l) ss → map (tree_encoded l i e us) ss ≡ map (tree_encoded l i e ts) ss
summands_along l i e ts us [] x h = refl
summands_along l i e ts us (s ∷ ss) x h = ap₂ (λ y ys. y ∷ ys) (encoded_along l i e e ts us s x (λ v. refl) (All-head (IsFormSummandIn ts l) s ss h)) (summands_along l i e ts us ss x (All-tail (IsFormSummandIn ts l) s ss h))

pub equation_along : (l : PlainLayout) (i : ℕ) (ts us : List Tree) (q : PlainEquation) → Extends ts us → All (IsFormSummandIn ts l) q.summands → equation_encoded l i us q ≡ equation_encoded l i ts q
equation_along l i ts us q x h = summands_along l i (moves_of l i q) ts us q.summands x h

-- ---- one more equation
trees_encoded_more : (l : PlainLayout) (i : ℕ) (ts : List Tree) (qs : List PlainEquation) (q : PlainEquation) → trees_encoded_from l i ts (qs ++ q ∷ []) ≡ trees_encoded_from l i ts qs ++ equation_encoded l (length qs + i) ts q
trees_encoded_more l i ts [] q = append-nil (equation_encoded l i ts q) ∙ ap (λ n. equation_encoded l n ts q) (let n : i ≡ 0 + i = omega arith in n)
trees_encoded_more l i ts (p ∷ qs) q =
    ap (λ z. equation_encoded l i ts p ++ z) (trees_encoded_more l (suc i) ts qs q ∙ ap (λ n. trees_encoded_from l (suc i) ts qs ++ equation_encoded l n ts q) (let n : length qs + suc i ≡ suc (length qs) + i = omega arith in n))
    ∙ sym (append_assoc (equation_encoded l i ts p) (trees_encoded_from l (suc i) ts qs) (equation_encoded l (suc (length qs) + i) ts q))

pub equation_there : (ts : List Tree) (l : PlainLayout) (eqs : List GreibachEquation) (k : ℕ) (q : GreibachEquation) → k < length eqs → q ≡ get_or eqs k q → AreEquationsFor ts l (map plain_equation eqs) → IsEquationIn ts l (k + 1) (plain_equation q)
equation_there ts l eqs k q w read h = h k (plain_equation q) (slice_get-map plain_equation eqs k ∙ ap (option_map plain_equation) (slice_get_read eqs (length eqs) k q refl w read))

pub record IsEncodingForm (l : PlainLayout) (ts : List Tree) (eqs : List GreibachEquation) (k : ℕ) (us : List Tree) (made : List Summand) : Type 0 where
  pub kept : Extends ts us
  pub within : All (IsSummandIn us) (map plain_summand made)
  pub trees : trees_of_summands us made ≡ trees_encoded_from l 1 ts (map plain_equation (take k eqs))

pub no_equation_encoded : (l : PlainLayout) (ts : List Tree) (eqs : List GreibachEquation) → IsEncodingForm l ts eqs 0 ts []
no_equation_encoded l ts eqs = record { kept = extends_itself ts; within = All-nil (IsSummandIn ts); trees = refl }

pub one_equation_encoded : (l : PlainLayout) (ts : List Tree) (eqs : List GreibachEquation) (k : ℕ) (us : List Tree) (made : List Summand) (q : GreibachEquation) → IsEncodingForm l ts eqs k us made → k < length eqs → q ≡ get_or eqs k q
    → AreEquationsFor ts l (map plain_equation eqs) → (vs : List Tree) (new : List Summand) → Extends us vs → All (IsSummandIn vs) (map plain_summand new)
    → trees_of_summands vs new ≡ trees_of_summands us made ++ equation_encoded l (k + 1) us (plain_equation q) → IsEncodingForm l ts eqs (k + 1) vs new
one_equation_encoded l ts eqs k us made q e w read there vs new x new_in t =
    let own = equation_there ts l eqs k q w read there in
    let long = length-map (take k eqs) plain_equation ∙ length-take-le k eqs (omega (arith, w)) in
    record {
      kept = extends_on ts us vs e.kept x;
      within = new_in;
      trees =
          t ∙ ap₂ (λ a b. a ++ b) e.trees (equation_along l (k + 1) ts us (plain_equation q) e.kept own.summands)
          ∙ ap (λ n. trees_encoded_from l 1 ts (map plain_equation (take k eqs)) ++ equation_encoded l n ts (plain_equation q)) (let n : k + 1 ≡ length (map plain_equation (take k eqs)) + 1 = omega (arith, long) in n)
          ∙ sym (trees_encoded_more l 1 ts (map plain_equation (take k eqs)) (plain_equation q))
          ∙ ap (trees_encoded_from l 1 ts) (sym (ap (map plain_equation) (take_more eqs k q w ∙ ap (λ z. take k eqs ++ z ∷ []) (sym read)) ∙ map-append plain_equation (take k eqs) (q ∷ [])));
    }

pub summands_in_kept : (ts us : List Tree) (l : PlainLayout) (ss : List PlainFormSummand) → Extends ts us → All (IsFormSummandIn ts l) ss → All (IsFormSummandIn us l) ss
summands_in_kept ts us l ss x h = λ k d w. form_summand_in_kept ts us l (get_or ss k d) x (h k d w)

pub all_equations_encoded : (l : PlainLayout) (ts : List Tree) (eqs : List GreibachEquation) (k : ℕ) (us : List Tree) (made : List Summand) → IsEncodingForm l ts eqs k us made → length eqs ≤ k
    → trees_of_summands us made ≡ trees_encoded_from l 1 ts (map plain_equation eqs)
all_equations_encoded l ts eqs k us made e w = e.trees ∙ ap (λ z. trees_encoded_from l 1 ts (map plain_equation z)) (take_all k eqs w)
