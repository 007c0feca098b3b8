use Rattle.std.proofs.Common.{◌≡◌, ◌∙◌, ◌++◌, None, sym, ap, arith}
use Rattle.data_theory.specs.NamedFunctions.{list_at, if_named}
use Rattle.data_theory.proofs.NamedLemmas.{no_word, list_popped}
use Rattle.data_theory.proofs.named_functions.NamedFunctions.forget.Goals as goal

pub returns-then-name-len : goal.returns-then-name-len
returns-then-name-len c n front k was =
    let none : c.args.word ≡ None = no_word c.args.word (sym c.is_some.ensures ∙ c.if-is_some.false) in
    list_popped c.self.inside.lists.items c.args.name c.index_mut.result.now c.pop.new.self _ (omega (arith, c.if-name-len.true, c.len.ensures, c.self.inside.lists.ok.0)) c.index_mut.ensures.value (omega (arith, c.index_mut.result.now.ok.0)) c.pop.ensures.rest n front k
    (ap (λ l. list_at l n) c.self.view_is ∙ was ∙ ap (λ w. front ++ if_named n c.args.name k w) none)
