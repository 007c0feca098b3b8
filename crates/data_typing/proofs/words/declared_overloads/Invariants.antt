use Rattle.std.proofs.Common.{◌≡◌, ◌++◌, map, take, length}
use Rattle.std.specs.List.{AllByRecursion}
use Rattle.data_theory.specs.IdTerms.{symbol_under}
use Rattle.sort_table.specs.NamedSorts.{sort_count}
use Rattle.data_typing.specs.NodeTypings.{signature_of}
use Rattle.data_typing.specs.CodeWords.{fun_signature}
use Rattle.data_typing.specs.Within.{IsOverloadWithin}
use Rattle.data_typing.proofs.words.declared_overloads.Given as goal

abbrev pub invariant-loop-fun : goal.invariant-loop-fun
invariant-loop-fun l = record {
  mean : map (signature_of (symbol_under l.sig)) l.all.items ≡ map (signature_of (symbol_under l.sig)) l.fn.overloads.items ++ map (fun_signature l.sig) (take l.fun-index l.funs);
  within : AllByRecursion (IsOverloadWithin (sort_count l.sig) (length l.sig.functions)) l.all.items;
}
