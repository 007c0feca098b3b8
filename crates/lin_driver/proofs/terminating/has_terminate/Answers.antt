use Rattle.std.proofs.Common.{◌≡◌, ◌≢◌, ℕ, Bool, true, List, map, take, length, refl, sym, ap, ◌∙◌, subst, arith}
use Rattle.std.specs.List.{AllByRecursion, Contains}
use Rattle.std.specs.Prelude.{bytes_eq}
use Rattle.std.proofs.lemmas.List.{take_all}
use Rattle.std.proofs.lemmas.Simd.{map-map}
use Rattle.std.proofs.lemmas.Slice.Eq.{bytes_eq-Decides}
use Rattle.mcrl2_syntax.specs.declared.word.Word.{Word}
use Rattle.mcrl2_syntax.specs.Words.{word_of}
use Rattle.bisim_laws.specs.Terminations.{terminate_name}
use Rattle.sort_table.specs.BareProcesses.{bare_name, bare_names}
use Rattle.sort_table.specs.Expressions.{Name}
use Rattle.lps_core.proofs.Members.{map_contains}
use Rattle.sort_table.proofs.AddedStructs.{all_contained}
use Rattle.sort_table.proofs.Searches.{all_more}
use Rattle.lin_driver.proofs.terminating.has_terminate.Goals as goal

abbrev name : Word → Name
name w = bare_name (word_of w)

abbrev Other : Name → Type 0
Other n = n ≢ terminate_name

names_are : (ws : List Word) → bare_names (map word_of ws) ≡ map name ws
names_are ws = map-map bare_name word_of ws

pub loop-word-init : goal.loop-word-init
loop-word-init c = tt

pub returns-then-eq : goal.returns-then-eq
returns-then-eq c =
    let ws : List Word = c.args.words.now in
    let same : bytes_eq c.as_slice.result.now c.as_slice-in-loop-word.result.now ≡ true = sym c.eq.ensures ∙ c.if-eq.true in
    let is : name c.word-item.result ≡ terminate_name = sym c.as_slice.ensures.value ∙ (bytes_eq-Decides c.as_slice.result.now c.as_slice-in-loop-word.result.now).0 same ∙ c.as_slice-in-loop-word.ensures in
    let there : Contains (map name ws) (name c.word-item.result) = map_contains name ws c.word-item.result (c.loop-word.word-index, c.loop-word-test.true, sym c.word-item.is) in
    record { named = λ e. subst (Contains (bare_names (map word_of ws))) is (subst (λ (ns : List Name). Contains ns (name c.word-item.result)) (sym (names_are ws)) there); none = λ e. absurd cc }

pub loop-word-preserved : goal.loop-word-preserved
loop-word-preserved c =
    all_more name Other c.args.words.now c.loop-word.word-index c.word-item.result c.loop-word-test.true c.word-item.is c.loop-word.invariant
    (λ is. (let same : c.eq.result ≡ true = c.eq.ensures ∙ (bytes_eq-Decides c.as_slice.result.now c.as_slice-in-loop-word.result.now).1 (c.as_slice.ensures.value ∙ is ∙ sym c.as_slice-in-loop-word.ensures) in
    let never = sym same ∙ c.if-eq.false in absurd cc))

pub returns : goal.returns
returns c =
    let ws : List Word = c.args.words.now in
    let all : AllByRecursion Other (map name ws) = subst (λ (vs : List Word). AllByRecursion Other (map name vs)) (take_all c.loop-word.word-index ws (omega (arith, c.loop-word-test.false))) c.loop-word.invariant in
    record { named = λ e. absurd cc; none = λ e there. all_contained Other (map name ws) terminate_name all (subst (λ (ns : List Name). Contains ns terminate_name) (names_are ws) there) refl }
