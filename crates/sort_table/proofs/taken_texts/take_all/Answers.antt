use Rattle.std.proofs.Common.{◌∙◌, [], ◌∷◌, get_or, take, ap, sym, subst}
use Rattle.std.specs.Str.{IsUtf8}
use denote.Ref.{Bor}
use Rattle.data_theory.specs.Signature.{with_taken}
use Rattle.sort_table.specs.Expressions.{Name}
use Rattle.sort_table.specs.LentTexts.{texts_of}
use Rattle.sort_table.specs.TakenTexts.{TakesTexts}
use Rattle.sort_table.proofs.EnteredNames.{name_at, own_default}
use Rattle.sort_table.proofs.TakenTextLemmas.{takes_none, takes_one, takes_then, more_texts, text_among, still_has}
use Rattle.sort_table.proofs.taken_texts.take_all.Goals as goal

abbrev none : Bor Name
none = record { ref_ptr = (0, 0); now = [] }

pub loop-bytes-init : goal.loop-bytes-init
loop-bytes-init c = takes_none c.args.signature.now

pub unreachable-requires : goal.unreachable-requires
unreachable-requires c =
    let x : Bor Name = get_or c.args.texts.now c.loop-bytes.bytes-index none in
    c.in_default.ensures.cases.0 (name_at IsUtf8 c.args.texts.now c.loop-bytes.bytes-index x c.loop-bytes-test.true (own_default c.args.texts.now c.loop-bytes.bytes-index none x c.loop-bytes-test.true) c.requires.text)

pub loop-bytes-preserved : goal.loop-bytes-preserved
loop-bytes-preserved c =
    let g = c.args.signature.now in
    let h = c.loop-bytes.signature in
    let k = c.take_name.new.self in
    let x : Bor Name = get_or c.args.texts.now c.loop-bytes.bytes-index none in
    let own = own_default c.args.texts.now c.loop-bytes.bytes-index none x c.loop-bytes-test.true in
    let there = still_has g h (texts_of (take c.loop-bytes.bytes-index c.args.texts.now)) x.now c.loop-bytes.invariant (c.requires.there x.now (text_among c.args.texts.now c.loop-bytes.bytes-index x c.loop-bytes-test.true own)) in
    subst (λ ts. TakesTexts ts g k) (sym (more_texts c.args.texts.now c.loop-bytes.bytes-index x c.loop-bytes-test.true own))
    (takes_then g h k (texts_of (take c.loop-bytes.bytes-index c.args.texts.now)) (x.now ∷ []) c.loop-bytes.invariant (takes_one h k x.now there (c.in_ok-take_name.ensures.taken ∙ ap (with_taken h) c.in-Ok.ensures.cases.0)))
