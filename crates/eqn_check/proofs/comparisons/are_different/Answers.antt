use Rattle.std.proofs.Common.{◌≡◌, rules, ap, ◌∙◌}
use Rattle.data_theory.specs.declared.ids.FunId.{FunId}
use Rattle.data_theory.specs.IdTerms.{symbol_under}
use Rattle.data_theory.proofs.IdSymbolLemmas.{different_functions_mean_different_symbols}
use Rattle.eqn_check.specs.Comparisons.{are_of_lists}
use Rattle.eqn_check.proofs.Deciding.{decides_no, decides_yes}
use Rattle.eqn_check.proofs.ComparisonLemmas.{never_different, different_so}
use Rattle.eqn_check.proofs.comparisons.are_different.Goals as goal

pub returns-then-are_one_of_lists : goal.returns-then-are_one_of_lists
returns-then-are_one_of_lists c =
    never_different (symbol_under c.args.sig.now c.args.one) (symbol_under c.args.sig.now c.args.other) c.are_one_of_lists.result
    (c.are_one_of_lists.ensures ∙ (λ i. are_of_lists (c.sign_of_function.ensures i) (c.sign_of_function-2.ensures i))) c.if-are_one_of_lists.true

pub returns-then-eq : goal.returns-then-eq
returns-then-eq c =
    different_so (symbol_under c.args.sig.now c.args.one) (symbol_under c.args.sig.now c.args.other) c.are_one_of_lists.result _
    (c.are_one_of_lists.ensures ∙ (λ i. are_of_lists (c.sign_of_function.ensures i) (c.sign_of_function-2.ensures i))) c.if-are_one_of_lists.false
    (decides_no (λ n. n (ap (symbol_under c.args.sig.now) (let k : c.args.one.0 ≡ c.args.other.0 = let d = c.if-eq.ensures in search (rules, d) in λ i. record { 0 = k i }))))

pub returns : goal.returns
returns c =
    different_so (symbol_under c.args.sig.now c.args.one) (symbol_under c.args.sig.now c.args.other) c.are_one_of_lists.result _
    (c.are_one_of_lists.ensures ∙ (λ i. are_of_lists (c.sign_of_function.ensures i) (c.sign_of_function-2.ensures i))) c.if-are_one_of_lists.false
    (decides_yes (λ e. let s = different_functions_mean_different_symbols c.args.sig.now c.next_sort.ensures.stands.table c.args.one c.args.other c.requires.one c.requires.other e in
    let k : c.args.one.0 ≡ c.args.other.0 = ap (λ (z : FunId). z.0) s in let d = c.if-eq.ensures in search (rules, d, k)))
