use Rattle.std.proofs.Common.{◌≡◌, ◌+◌, ◌++◌, ◌∷◌, ℕ, zero, suc, List, [], length, get_or, refl, ap, ◌∙◌, arith}
use Rattle.value_enum.proofs.RowLemmas.{rows_length}
use Rattle.value_enum.proofs.enumerating.no_weights.Goals as goal

nothing_read : (ns : List ℕ) → ns ≡ [] → (k : ℕ) → get_or ns k 0 ≡ 0
nothing_read [] e zero = refl
nothing_read [] e (suc k) = refl
nothing_read (n ∷ ns) e k = cc

one_more : (ns : List ℕ) → ((k : ℕ) → get_or ns k 0 ≡ 0) → (k : ℕ) → get_or (ns ++ 0 ∷ []) k 0 ≡ 0
one_more [] none zero = refl
one_more [] none (suc k) = nothing_read [] refl k
one_more (n ∷ ns) none zero = none zero
one_more (n ∷ ns) none (suc k) = one_more ns (λ j. none (suc j)) k

pub loop-init : goal.loop-init
loop-init c = record { count = ap length c.new-weights.ensures.items; none = nothing_read c.new-weights.result.items c.new-weights.ensures.items }

pub loop-preserved : goal.loop-preserved
loop-preserved c = record {
  count = ap length c.in_ok-push.ensures.items ∙ (rows_length c.loop.weights.items 0 ∙ ap (λ n. n + 1) c.loop.invariant.count);
  none = λ k. ap (λ ns. get_or ns k 0) c.in_ok-push.ensures.items ∙ one_more c.loop.weights.items c.loop.invariant.none k;
}

pub returns-clause-count : goal.returns-clause-count
returns-clause-count c = let e : length c.loop.weights.items ≡ c.loop.counter = c.loop.invariant.count in omega (arith, e)
