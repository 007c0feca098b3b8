use Rattle.std.proofs.Common.{List, ℕ, length, sym, ap, ◌∙◌, subst}
use Rattle.std.specs.Prelude.{Option}
use Rattle.eqn_check.specs.Earlier.{IsStartOf, ArePrevious, IsChain, Key, TellsAlong}
use Rattle.eqn_check.proofs.JudgedLemmas.{as_long}
use Rattle.eqn_check.proofs.EarlierLemmas.{mixed_chain}
use Rattle.eqn_check.proofs.checking.overlaps_with_open.Goals as goal

pub overlaps_along-requires-clause-keys : goal.overlaps_along-requires-clause-keys
overlaps_along-requires-clause-keys c =
    ap length c.as_slice-starts.ensures.value ∙ sym (as_long (IsStartOf c.args.pool.now.trees c.args.earlier.now.count) c.args.theory.now.equations.items c.args.earlier.now.starts.items c.requires.earlier.starts_are)

pub overlaps_along-requires-clause-chain : goal.overlaps_along-requires-clause-chain
overlaps_along-requires-clause-chain c =
    subst (λ (z : List (Option Key)). IsChain z c.as_slice-opens.result.now) (sym c.as_slice-starts.ensures.value)
    (subst (λ (z : List (Option Key)). IsChain c.args.earlier.now.starts.items z) (sym c.as_slice-opens.ensures.value)
    (mixed_chain c.args.pool.now.trees c.args.theory.now.equations.items c.args.earlier.now.count c.args.earlier.now.starts.items c.args.earlier.now.opens.items c.requires.earlier.starts_are c.requires.earlier.opens_are))

pub overlaps_along-requires-clause-previous : goal.overlaps_along-requires-clause-previous
overlaps_along-requires-clause-previous c =
    subst (λ (z : List (Option Key)). ArePrevious z c.as_slice-opens.result.now c.as_slice-previous.result.now) (sym c.as_slice-starts.ensures.value)
    (subst (λ (z : List (Option Key)). ArePrevious c.args.earlier.now.starts.items z c.as_slice-previous.result.now) (sym c.as_slice-opens.ensures.value)
    (subst (λ (z : List (Option ℕ)). ArePrevious c.args.earlier.now.starts.items c.args.earlier.now.opens.items z) (sym c.as_slice-previous.ensures.value) c.requires.earlier.open_are))

pub returns : goal.returns
returns c =
    subst (λ (z : List (Option Key)). TellsAlong c.args.sig.now c.args.pool.now.trees c.args.theory.now.equations.items c.args.earlier.now.starts.items z c.args.number c.in_ok-found.found) c.as_slice-opens.ensures.value
    (subst (λ (z : List (Option Key)). TellsAlong c.args.sig.now c.args.pool.now.trees c.args.theory.now.equations.items z c.as_slice-opens.result.now c.args.number c.in_ok-found.found) c.as_slice-starts.ensures.value c.in_ok-found.ensures)
