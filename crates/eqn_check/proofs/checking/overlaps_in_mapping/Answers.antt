use Rattle.std.proofs.Common.{List, ℕ, length, sym, ap, ◌∙◌, subst}
use Rattle.std.specs.Prelude.{Option}
use Rattle.eqn_check.specs.Earlier.{IsOpenOf, ArePrevious, Key, TellsAlong}
use Rattle.eqn_check.proofs.JudgedLemmas.{as_long}
use Rattle.eqn_check.proofs.checking.overlaps_in_mapping.Goals as goal

pub overlaps_along-requires-clause-keys : goal.overlaps_along-requires-clause-keys
overlaps_along-requires-clause-keys c =
    ap length c.as_slice-opens.ensures.value ∙ sym (as_long (IsOpenOf c.args.pool.now.trees c.args.earlier.now.count) c.args.theory.now.equations.items c.args.earlier.now.opens.items c.requires.earlier.opens_are)

pub overlaps_along-requires-clause-chain : goal.overlaps_along-requires-clause-chain
overlaps_along-requires-clause-chain c i k key a b = a

pub overlaps_along-requires-clause-previous : goal.overlaps_along-requires-clause-previous
overlaps_along-requires-clause-previous c =
    subst (λ (z : List (Option Key)). ArePrevious z z c.as_slice-previous.result.now) (sym c.as_slice-opens.ensures.value)
    (subst (λ (z : List (Option ℕ)). ArePrevious c.args.earlier.now.opens.items c.args.earlier.now.opens.items z) (sym c.as_slice-previous.ensures.value) c.requires.earlier.mapping_are)

pub returns : goal.returns
returns c = subst (λ (z : List (Option Key)). TellsAlong c.args.sig.now c.args.pool.now.trees c.args.theory.now.equations.items z z c.args.number c.in_ok-found.found) c.as_slice-opens.ensures.value c.in_ok-found.ensures
