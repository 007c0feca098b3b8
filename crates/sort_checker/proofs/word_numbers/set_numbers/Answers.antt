use Rattle.std.proofs.Common.{[], ◌∷◌, map, sym, subst, ap, ◌∙◌}
use Rattle.std.specs.Prelude.{Vec}
use Rattle.std.specs.Global.{Global}
use Rattle.std.proofs.lemmas.List.{map-append}
use Rattle.data_theory.specs.declared.ids.NameId.{NameId}
use Rattle.mcrl2_syntax.specs.Words.{word_of}
use Rattle.mcrl2_syntax.specs.ProcessParts.{name_set_of}
use Rattle.mcrl2_syntax.specs.TreeWords.{AreNames, IsNameSetOfWords}
use Rattle.process_terms.specs.PlainProcesses.{items_of_each}
use Rattle.sort_table.specs.BareProcesses.{bare_names}
use Rattle.sort_table.proofs.KeptFunctions.{nothing_yet}
use Rattle.sort_checker.specs.NumberedWords.{set_names, StandIn, AreNumbersOf}
use Rattle.sort_checker.proofs.ReadLists.{at_one, at_mapped, next_one}
use Rattle.sort_checker.proofs.word_numbers.set_numbers.Goals as goal

pub loop-set-init : goal.loop-set-init
loop-set-init c = nothing_yet (AreNumbersOf c.args.sig.now) (items_of_each c.new-numbers.result.items) (ap items_of_each c.new-numbers.ensures.items)

pub word_numbers-requires-clause-names : goal.word_numbers-requires-clause-names
word_numbers-requires-clause-names c =
    subst (λ ws. AreNames (map word_of ws)) (sym c.as_slice.ensures.value) (at_mapped IsNameSetOfWords name_set_of c.args.sets.now c.loop-set.set-index c.set-item.result c.loop-set-test.true c.set-item.is c.requires.names)

pub word_numbers-requires-clause-there : goal.word_numbers-requires-clause-there
word_numbers-requires-clause-there c =
    subst (λ ws. StandIn c.args.sig.now (bare_names (map word_of ws))) (sym c.as_slice.ensures.value) (at_one (λ s. StandIn c.args.sig.now (set_names s)) c.args.sets.now c.loop-set.set-index c.set-item.result c.loop-set-test.true c.set-item.is c.requires.there)

pub loop-set-preserved : goal.loop-set-preserved
loop-set-preserved c =
    next_one (AreNumbersOf c.args.sig.now) set_names c.args.sets.now c.loop-set.set-index c.set-item.result (items_of_each c.loop-set.numbers.items) (items_of_each c.push.new.self.items) c.in_ok-word_numbers.field-0.items c.loop-set-test.true c.set-item.is c.loop-set.invariant
    (subst (λ ws. AreNumbersOf c.args.sig.now (bare_names (map word_of ws)) c.in_ok-word_numbers.field-0.items) c.as_slice.ensures.value c.in_ok-word_numbers.ensures)
    (ap items_of_each c.in_ok-push.ensures.items ∙ map-append (λ (v : Vec NameId Global). v.items) c.loop-set.numbers.items (c.in_ok-word_numbers.field-0 ∷ []))
