use Rattle.std.proofs.Common.{◌≡◌, take}
use Rattle.std.specs.Prelude.{Some}
use Rattle.data_theory.specs.IdTerms.{sort_under}
use Rattle.sort_table.specs.BareSorts.{SortExpression}
use Rattle.sort_table.specs.NamedSorts.{sort_names_of}
use Rattle.sort_table.specs.Vocabularies.{sort_in}
use Rattle.sort_checker.specs.Additions.{GoesOn}
use Rattle.sort_checker.specs.CodeContexts.{words_at, IsReady, EnterBehind}
use Rattle.sort_checker.proofs.binders.enter_words.Given as goal

abbrev pub invariant-loop-word : goal.invariant-loop-word
invariant-loop-word l = record {
  kept : GoesOn l.fn.sig l.pool l.sig l.pool;
  ready : IsReady l.sig l.pool l.tables l.scope;
  bound : (e : SortExpression) → sort_in (sort_names_of l.fn.sig) e ≡ Some (sort_under l.fn.sig l.sort) → EnterBehind l.fn.sig l.fn.scope l.fn.variables.items (words_at e (take l.word-index l.words)) l.sig l.scope l.variables.items;
}
