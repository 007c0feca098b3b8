use Rattle.std.proofs.Common.{rules, ◌<◌, ℕ, Bool, List, false, length, map, get_or, sym, ap, ◌∙◌, arith}
use Rattle.std.specs.Prelude.{Option, Some, None, is_some, cond, option_map}
use Rattle.data_typing.specs.FlatSorts.{flat_sort}
use Rattle.data_typing.specs.Nodes.{profile_of, any_profile_of, checks_by, sortings_at, sortings}
use Rattle.data_typing.specs.Sortings.{first_exact_sort, may_check}
use Rattle.data_typing.proofs.NodeLemmas.{check_lengths, below_at, parts_below, checks_by_wanted, checks_by_inferred, ok_along}
use Rattle.data_typing.specs.declared.nodes.Overload as code
use Rattle.data_typing.specs.declared.nodes.AnyOverload.{AnyOverload}
use Rattle.data_typing.specs.declared.nodes.WordFunctions.{WordFunctions}
use Rattle.data_typing.specs.declared.nodes.Kind.{Kind}
use Rattle.data_typing.proofs.nodes.+checking.Goals as goal

pub all_check_at-returns-then-arguments-places : goal.all_check_at-returns-then-arguments-places
all_check_at-returns-then-arguments-places t c = check_lengths (sortings c.args.nodes.now) (flat_sort c.args.sort) c.args.places.now c.args.arguments.now (search rules)

pub all_check_at-checks-requires : goal.all_check_at-checks-requires
all_check_at-checks-requires t c =
    let below : get_or c.args.arguments.now c.loop-k.k 0 < c.args.bound = below_at c.args.bound c.args.arguments.now c.loop-k.k c.requires.there (omega arith) in
    (omega (arith, below), (c.requires.known, omega (arith, below, c.requires.bound)))

pub each_checks_at-checks-requires : goal.each_checks_at-checks-requires
each_checks_at-checks-requires t c =
    let below : get_or c.args.arguments.now c.loop-at.at-index 0 < c.args.bound = below_at c.args.bound c.args.arguments.now c.loop-at.at-index c.requires.there (omega arith) in
    (omega (arith, below), (c.requires.known, omega (arith, below, c.requires.bound)))

pub checks-checks_by_sort-requires : goal.checks-checks_by_sort-requires
checks-checks_by_sort-requires t c =
    let within : c.args.at < length c.args.nodes.now = omega (arith, c.requires.there, c.requires.known.within) in
    (omega arith, (c.requires.known, (omega (arith, c.requires.there), parts_below c.args.nodes.now c.requires.known.nodes c.args.at c.index-nodes-at.result within c.index-nodes-at.is)))

pub checks-returns-then-branch : goal.checks-returns-then-branch
checks-returns-then-branch t c =
    let within : c.args.at < length c.args.nodes.now = omega (arith, c.requires.there, c.requires.known.within) in
    checks_by_wanted c.args.nodes.now c.requires.known.nodes c.args.at c.index-nodes-at.result within c.index-nodes-at.is (flat_sort c.args.sort) c.in_ok-checks_by_sort.field-0 c.in_ok-checks_by_sort.ensures c.if-branch.true

pub checks-returns-in-Some : goal.checks-returns-in-Some
checks-returns-in-Some t c =
    let within : c.args.at < length c.args.nodes.now = omega (arith, c.requires.there, c.requires.known.within) in
    c.fits.ensures ∙ checks_by_inferred c.args.nodes.now c.requires.known.nodes c.args.at c.index-nodes-at.result within c.index-nodes-at.is (flat_sort c.args.sort) c.in_ok-checks_by_sort.field-0 c.in_ok-checks_by_sort.ensures c.if-branch.false (Some c.in-Some.inferred) (ap (option_map flat_sort) (sym c.in-Some.is) ∙ c.requires.known.told c.args.at c.requires.there)

pub checks-returns-in-None : goal.checks-returns-in-None
checks-returns-in-None t c =
    let within : c.args.at < length c.args.nodes.now = omega (arith, c.requires.there, c.requires.known.within) in
    checks_by_inferred c.args.nodes.now c.requires.known.nodes c.args.at c.index-nodes-at.result within c.index-nodes-at.is (flat_sort c.args.sort) c.in_ok-checks_by_sort.field-0 c.in_ok-checks_by_sort.ensures c.if-branch.false None (ap (option_map flat_sort) (sym c.in-None.is) ∙ c.requires.known.told c.args.at c.requires.there)

pub checks_by_sort-returns-in-Call : goal.checks_by_sort-returns-in-Call
checks_by_sort-returns-in-Call t c =
    let w = c.in-Call in
    let parts : List ℕ = c.args.node.now.arguments.items in
    let from : List ℕ → List code.Overload → Option AnyOverload → Bool = λ js gs a. cond (is_some (first_exact_sort (sortings_at (sortings c.args.nodes.now) js) (map profile_of gs))) false (may_check (sortings_at (sortings c.args.nodes.now) js) (option_map any_profile_of a) (flat_sort c.args.sort)) in
    ok_along c.call_checks_by_sort.result _ _
    (ap (λ js. from js c.deref-in-Call-2.result.now c.deref-in-Call-3.result.now.any) c.deref.ensures.value
    ∙ ap (λ gs. from parts gs c.deref-in-Call-3.result.now.any) (c.deref-in-Call-2.ensures.value ∙ ap (λ (them : WordFunctions). them.signatures.items) c.deref-in-Call.ensures)
    ∙ ap (λ (them : WordFunctions). from parts w.functions.value.signatures.items them.any) c.deref-in-Call-3.ensures
    ∙ sym (ap (λ (k : Kind). checks_by k (sortings_at (sortings c.args.nodes.now) parts) (flat_sort c.args.sort)) w.is))
    c.call_checks_by_sort.ensures
