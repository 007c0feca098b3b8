use Rattle.std.proofs.Common.{◌≡◌, ◌<◌, ◌+◌, ◌∙◌, ◌⊎◌, ⊎_elim, ℕ, true, false, Some, refl, sym, subst, arith}
use Rattle.std.specs.Prelude.{slice_get}
use Rattle.std.proofs.lemmas.Option.{slice_get_within}
use Rattle.data_theory.specs.Sorts.{IsBare}
use Rattle.data_theory.proofs.PlaceLemmas.{contains_read, read_contained}
use Rattle.value_enum.proofs.enumerating.has_bare.Goals as goal

pub loop-number-init : goal.loop-number-init
loop-number-init c = λ k s l. absurd (omega (arith, l))

pub is_bare-requires : goal.is_bare-requires
is_bare-requires c = c.requires c.index-sort.result.now (contains_read c.args.sorts.now.keys c.loop-number.number c.index-sort.result.now c.index-sort.ensures)

pub returns-then-is_bare : goal.returns-then-is_bare
returns-then-is_bare c = (λ t. (c.index-sort.result.now, contains_read c.args.sorts.now.keys c.loop-number.number c.index-sort.result.now c.index-sort.ensures, c.is_bare.ensures.0 c.if-is_bare.true), λ h. refl)

before_or_last : (k n : ℕ) → k < n + 1 → (k < n) ⊎ (k ≡ n)
before_or_last k n l = grind arith

pub loop-number-preserved : goal.loop-number-preserved
loop-number-preserved c =
    λ k s l at bare. ⊎_elim
    (λ less. c.loop-number.invariant k s less at bare)
    (λ last. (
    let both : Some s ≡ Some c.index-sort.result.now = sym (subst (λ n. slice_get c.args.sorts.now.keys n ≡ Some s) last at) ∙ c.index-sort.ensures in
    let same : s ≡ c.index-sort.result.now = cc in
    let told = c.is_bare.ensures.1 (subst (IsBare c.args.sig.now.sorts) same bare) in
    let wrong : true ≡ false = sym told ∙ c.if-is_bare.false in
    cc
    ))
    (before_or_last k c.loop-number.number l)

pub returns : goal.returns
returns c = (
  λ t. absurd (let wrong : false ≡ true = t in cc),
  λ h. absurd (let at = read_contained c.args.sorts.now.keys h.0 h.1 in let m = slice_get_within c.args.sorts.now.keys at.0 h.0 at.1 in c.loop-number.invariant at.0 h.0 (omega (arith, m, c.len-number-end.ensures.len, c.loop-number-test.false)) at.1 h.2),
)
