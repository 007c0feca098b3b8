use Rattle.std.proofs.Common.{◌≡◌, ◌∙◌, ◌++◌, List, [], ◌∷◌, length, map, refl, sym, ap, subst, arith, append-nil}
use Rattle.std.specs.Prelude.{MatchOption}
use Rattle.std.specs.List.{zip}
use Rattle.data_theory.specs.declared.ids.TermId.{TermId}
use Rattle.data_rewriter.specs.Standing.{term_at}
use Rattle.process_terms.specs.SignatureEntries.{entries_of}
use Rattle.lps_core.specs.PlainLinears.{plain_linear, plain_next, plain_summand, linear_of, summand_of}
use Rattle.lps_simulator.specs.Combinations.{combinations, rows}
use Rattle.lps_simulator.proofs.Bindings.{next_stays_over, terms_stay}
use Rattle.lps_simulator.proofs.TriedSteps.{by_along, ended, one_of_all}
use Rattle.trace_replay.specs.Attempts.{AreTried, OfCombinations}
use Rattle.trace_replay.specs.DecidedConditions.{setting}
use Rattle.trace_replay.specs.States.{meant_states}
use Rattle.trace_replay.proofs.Keepings.{keeps_itself, keeps_then, known_on}
use Rattle.trace_replay.proofs.TriedCombinations.{all_done, combination_turn, combinations_first, listed_over, split_on}
use Rattle.trace_replay.proofs.leading.try_combinations.Goals as goal

pub loop-combinations-init : goal.loop-combinations-init
loop-combinations-init g c = record {
  kept = keeps_itself c.args.sig.now c.args.pool.now.trees c.args.rewriter.now;
  states = c.requires.states;
  done = [];
  left = sym c.new-combinations.ensures;
  tried = λ own bound h.
      combinations_first (setting c.args.sig.now own c.args.fuel bound) (linear_of (entries_of c.args.sig.now c.args.pool.now.trees) (plain_linear c.args.lin.now)) (summand_of (entries_of c.args.sig.now c.args.pool.now.trees) (plain_summand c.args.summand.now))
      (map (term_at c.args.sig.now c.args.pool.now.trees) c.args.state.now) (map (term_at c.args.sig.now c.args.pool.now.trees) c.args.conditions.now) (meant_states c.args.sig.now c.args.pool.now.trees c.args.to.now);
}

pub try_with-requires-clause-known : goal.try_with-requires-clause-known
try_with-requires-clause-known g c = known_on c.args.sig.now c.args.pool.now.trees c.loop-combinations.pool.trees c.args.rewriter.now c.loop-combinations.rewriter c.loop-combinations.invariant.kept c.requires.known

pub try_with-requires-clause-rules : goal.try_with-requires-clause-rules
try_with-requires-clause-rules g c = rw c.loop-combinations.invariant.kept.rules c.requires.rules

pub try_with-requires-clause-conditions : goal.try_with-requires-clause-conditions
try_with-requires-clause-conditions g c = terms_stay c.args.sig.now c.args.pool.now.trees c.loop-combinations.pool.trees c.args.conditions.now c.loop-combinations.invariant.kept.pool c.requires.conditions

pub try_with-requires-clause-next : goal.try_with-requires-clause-next
try_with-requires-clause-next g c = next_stays_over c.args.sig.now c.args.pool.now.trees c.loop-combinations.pool.trees (plain_next c.args.summand.now.next) c.loop-combinations.invariant.kept.pool c.requires.next

pub try_with-requires-clause-listed : goal.try_with-requires-clause-listed
try_with-requires-clause-listed g c =
    let next = (subst (λ z. MatchOption z (c.loop-combinations.combinations ≡ []) (λ values. c.loop-combinations.combinations ≡ values.items ∷ c.next.new.self)) c.in-Some.is c.in_ok-combination.ensures.next) in
    terms_stay c.args.sig.now c.args.pool.now.trees c.loop-combinations.pool.trees _ c.loop-combinations.invariant.kept.pool
    (listed_over c.args.sig.now c.signature_stands.ensures c.args.pool.now.trees c.args.summand.now.sums.items c.args.lin.now.params.items (rows c.args.lists.items) c.requires.lists c.args.state.now c.requires.state c.in-Some.combination.items
    (one_of_all (combinations (rows c.args.lists.items)) c.loop-combinations.invariant.done c.loop-combinations.combinations c.next.new.self c.in-Some.combination.items c.loop-combinations.invariant.left next)
    c.as_slice-in-Some.result.now (c.as_slice-in-Some.ensures.value ∙ by_along c.in_ok-by.by.items c.as_slice-sums.result.now c.args.summand.now.sums.items c.as_slice.result.now c.in-Some.combination.items c.as_slice-params.result.now c.args.lin.now.params.items c.args.state.now c.in_ok-by.ensures c.as_slice-sums.ensures.value c.as_slice.ensures.value c.as_slice-params.ensures.value))

pub try_with-requires-clause-states : goal.try_with-requires-clause-states
try_with-requires-clause-states g c = c.loop-combinations.invariant.states

pub returns-in_err-is_open-clause-kept : goal.returns-in_err-is_open-clause-kept
returns-in_err-is_open-clause-kept g c = keeps_then c.args.sig.now c.args.pool.now.trees c.loop-combinations.pool.trees c.try_with.new.pool.trees c.args.rewriter.now c.loop-combinations.rewriter c.try_with.new.rewriter c.loop-combinations.invariant.kept c.try_with.ensures.kept

pub same-combinations : goal.same-combinations
same-combinations g c = refl

pub loop-combinations-smaller : goal.loop-combinations-smaller
loop-combinations-smaller g c = let e = ap length (subst (λ z. MatchOption z (c.loop-combinations.combinations ≡ []) (λ values. c.loop-combinations.combinations ≡ values.items ∷ c.next.new.self)) c.in-Some.is c.in_ok-combination.ensures.next) in omega (arith, e)

pub loop-combinations-preserved : goal.loop-combinations-preserved
loop-combinations-preserved g c =
    let next = (subst (λ z. MatchOption z (c.loop-combinations.combinations ≡ []) (λ values. c.loop-combinations.combinations ≡ values.items ∷ c.next.new.self)) c.in-Some.is c.in_ok-combination.ensures.next) in
    record {
      kept = keeps_then c.args.sig.now c.args.pool.now.trees c.loop-combinations.pool.trees c.try_with.new.pool.trees c.args.rewriter.now c.loop-combinations.rewriter c.try_with.new.rewriter c.loop-combinations.invariant.kept c.try_with.ensures.kept;
      states = c.in_ok-is_open.ensures.states;
      done = c.loop-combinations.invariant.done ++ c.in-Some.combination.items ∷ [];
      left = split_on (combinations (rows c.args.lists.items)) c.loop-combinations.invariant.done c.loop-combinations.combinations c.next.new.self c.in-Some.combination.items c.loop-combinations.invariant.left next;
      tried = λ own bound h.
          combination_turn c.args.sig.now c.signature_stands.ensures own c.args.fuel bound c.args.pool.now.trees c.loop-combinations.pool.trees c.loop-combinations.invariant.kept.pool (plain_linear c.args.lin.now) (plain_summand c.args.summand.now) c.args.conditions.now c.requires.conditions c.requires.next c.args.state.now c.requires.state
          (rows c.args.lists.items) c.requires.lists c.loop-combinations.invariant.done c.loop-combinations.combinations c.next.new.self c.in-Some.combination.items c.as_slice-in-Some.result.now c.loop-combinations.invariant.left next
          (c.as_slice-in-Some.ensures.value ∙ by_along c.in_ok-by.by.items c.as_slice-sums.result.now c.args.summand.now.sums.items c.as_slice.result.now c.in-Some.combination.items c.as_slice-params.result.now c.args.lin.now.params.items c.args.state.now c.in_ok-by.ensures c.as_slice-sums.ensures.value c.as_slice.ensures.value c.as_slice-params.ensures.value)
          (meant_states c.args.sig.now c.args.pool.now.trees c.args.to.now) (meant_states c.args.sig.now c.loop-combinations.pool.trees c.loop-combinations.to) (meant_states c.args.sig.now c.try_with.new.pool.trees c.try_with.new.to) c.loop-combinations.doubt c.in_ok-is_open.is_open c.either-doubt.result c.either-doubt.ensures
          (c.loop-combinations.invariant.tried own bound h) (c.in_ok-is_open.ensures.tried own bound (c.loop-combinations.invariant.kept.fits own h));
    }

pub returns-clause-tried : goal.returns-clause-tried
returns-clause-tried g c = λ own bound h.
    let none : c.loop-combinations.combinations ≡ [] = ended c.loop-combinations.combinations c.next.new.self c.in_ok-combination.field-0 c.in_default.not-Some c.in_ok-combination.ensures.next in
    subst (λ (z : List (List TermId)). AreTried (setting c.args.sig.now own c.args.fuel bound) (OfCombinations (linear_of (entries_of c.args.sig.now c.args.pool.now.trees) (plain_linear c.args.lin.now)) (summand_of (entries_of c.args.sig.now c.args.pool.now.trees) (plain_summand c.args.summand.now)) (map (term_at c.args.sig.now c.args.pool.now.trees) c.args.state.now) (map (term_at c.args.sig.now c.args.pool.now.trees) c.args.conditions.now) (map (map (term_at c.args.sig.now c.args.pool.now.trees)) z)) (meant_states c.args.sig.now c.args.pool.now.trees c.args.to.now) (meant_states c.args.sig.now c.loop-combinations.pool.trees c.loop-combinations.to) c.loop-combinations.doubt)
    (all_done (combinations (rows c.args.lists.items)) c.loop-combinations.invariant.done c.loop-combinations.combinations c.loop-combinations.invariant.left none)
    (c.loop-combinations.invariant.tried own bound h)
