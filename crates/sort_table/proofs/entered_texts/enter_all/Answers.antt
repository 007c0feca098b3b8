use Rattle.std.proofs.Common.{get_or, []}
use Rattle.std.specs.Str.{IsUtf8}
use denote.Ref.{Bor}
use Rattle.sort_table.specs.Expressions.{Name}
use Rattle.sort_table.proofs.EnteredNames.{next_name, next_text, name_at, own_default}
use Rattle.sort_table.proofs.entered_texts.enter_all.Goals as goal

abbrev none : Bor Name
none = record { ref_ptr = (0, 0); now = [] }

pub enter_bytes-requires : goal.enter_bytes-requires
enter_bytes-requires c =
    let x : Bor Name = get_or c.args.texts.now c.loop-text.text-index none in
    name_at IsUtf8 c.args.texts.now c.loop-text.text-index x c.loop-text-test.true (own_default c.args.texts.now c.loop-text.text-index none x c.loop-text-test.true) c.requires

pub loop-text-preserved : goal.loop-text-preserved
loop-text-preserved c =
    let x : Bor Name = get_or c.args.texts.now c.loop-text.text-index none in
    let its = own_default c.args.texts.now c.loop-text.text-index none x c.loop-text-test.true in (
      next_name c.args.texts.now c.loop-text.text-index x c.loop-text.names c.enter_bytes.new.names c.loop-text.ids.items c.push.new.self.items c.in_ok-enter_bytes.field-0 c.loop-text-test.true its c.loop-text.invariant.0 c.in_ok-enter_bytes.ensures.entered
          c.in_ok-enter_bytes.ensures.place c.in_ok-push.ensures.items,
      next_text c.args.texts.now c.loop-text.text-index x c.args.names.now c.loop-text.names c.enter_bytes.new.names c.loop-text-test.true its c.loop-text.invariant.1 c.in_ok-enter_bytes.ensures.entered,
    )
