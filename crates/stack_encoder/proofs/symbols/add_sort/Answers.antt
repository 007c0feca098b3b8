use Rattle.std.proofs.Common.{◌≡◌, ◌+◌, length, sym, subst, ap, ◌∙◌}
use Rattle.std.specs.List.{All}
use Rattle.data_theory.specs.Structs.{cons_of, IsConWithin}
use Rattle.data_theory.specs.Signature.{with_struct_sort, IsNewStruct}
use Rattle.data_theory.specs.IdTerms.{IsGrown}
use Rattle.data_theory.proofs.IdGrowthLemmas.{growth_after_growth_is_growth}
use Rattle.stack_encoder.specs.AddedSort.{constructors_declared, in_order}
use Rattle.stack_encoder.specs.Frames.{plain_words}
use Rattle.stack_encoder.proofs.FreshWords.{WordsStand, words_stand, sort_word_within, sort_absent, constructors_within, stack_is_new, fields_within, adds_sort_grown}
use Rattle.stack_encoder.proofs.symbols.add_sort.Goals as goal

stand : (c : goal.After-add_struct-arg-2-1) → WordsStand c.args.sig.now c.new_words.new.sig (in_order (plain_words c.in_ok-words.words))
stand c = words_stand c.args.sig.now c.signature_stands.ensures _ c.new_words.new.sig _ c.in_ok-words.ensures.words.fresh

same : (c : goal.After-add_struct-arg-2-1) → cons_of c.in_ok-cons.cons.items ≡ constructors_declared (plain_words c.in_ok-words.words) (record { 0 = length c.new_words.new.sig.sorts })
same c = c.in_ok-cons.ensures ∙ ap (λ n. constructors_declared (plain_words c.in_ok-words.words) (record { 0 = n })) c.next_sort.ensures.number

pub add_struct-requires-clause-name : goal.add_struct-requires-clause-name
add_struct-requires-clause-name c = sort_word_within c.args.sig.now c.new_words.new.sig c.signature_stands.ensures (plain_words c.in_ok-words.words) (stand c)

pub add_struct-requires-clause-absent : goal.add_struct-requires-clause-absent
add_struct-requires-clause-absent c = sort_absent c.args.sig.now c.new_words.new.sig c.signature_stands.ensures (plain_words c.in_ok-words.words) (stand c)

pub add_struct-requires-clause-within : goal.add_struct-requires-clause-within
add_struct-requires-clause-within c =
    subst (All (IsConWithin (length c.new_words.new.sig.texts) (length c.new_words.new.sig.sorts + 1))) (sym (same c))
    (constructors_within c.args.sig.now c.new_words.new.sig c.signature_stands.ensures (plain_words c.in_ok-words.words) (stand c) (fields_within c.args.sig.now c.new_words.new.sig c.args.kinds.now.keys (plain_words c.in_ok-words.words) c.in_ok-words.ensures.words c.new_words.ensures.grown c.requires))

pub add_struct-requires-clause-new : goal.add_struct-requires-clause-new
add_struct-requires-clause-new c =
    subst (IsNewStruct c.new_words.new.sig c.in_ok-words.words.sort) (sym (same c)) (stack_is_new c.args.sig.now c.new_words.new.sig c.signature_stands.ensures (plain_words c.in_ok-words.words) (stand c))

same_at_end : (c : goal.After-drop-words-2) → cons_of c.in_ok-cons.cons.items ≡ constructors_declared (plain_words c.in_ok-words.words) (record { 0 = length c.new_words.new.sig.sorts })
same_at_end c = c.in_ok-cons.ensures ∙ ap (λ n. constructors_declared (plain_words c.in_ok-words.words) (record { 0 = n })) c.next_sort.ensures.number

pub returns-clause-added : goal.returns-clause-added
returns-clause-added c = record {
  words = plain_words c.in_ok-words.words;
  named = c.new_words.new.sig;
  are_words = c.in_ok-words.ensures.words;
  is = c.in_ok-add_struct.ensures.added ∙ ap (with_struct_sort c.new_words.new.sig c.in_ok-words.words.sort) (same_at_end c);
  number = c.in_ok-add_struct.ensures.number;
}

pub returns-clause-grown : goal.returns-clause-grown
returns-clause-grown c =
    growth_after_growth_is_growth c.args.sig.now c.new_words.new.sig c.add_struct.new.self c.new_words.ensures.grown.grown
    (subst (IsGrown c.new_words.new.sig) (sym (c.in_ok-add_struct.ensures.added ∙ ap (with_struct_sort c.new_words.new.sig c.in_ok-words.words.sort) (same_at_end c))) (adds_sort_grown c.new_words.new.sig (plain_words c.in_ok-words.words)))
