use Rattle.std.proofs.Common.{◌≡◌, ◌||◌, Bool, List, map, sym, subst, ap, ap₂, ◌∙◌}
use Rattle.std.specs.List.{AllByRecursion}
use Rattle.mcrl2_syntax.specs.declared.data_tree.DataTree.{DataTree}
use Rattle.mcrl2_syntax.specs.declared.process_tree.ActionTree.{ActionTree}
use Rattle.mcrl2_syntax.specs.DataTrees.{plain_data}
use Rattle.mcrl2_syntax.specs.ProcessParts.{plain_action}
use Rattle.mcrl2_syntax.specs.TreeWords.{IsDataOfWords}
use Rattle.sort_table.specs.Expressions.{Name}
use Rattle.data_typing.specs.declared.nodes.Reading.{Reading}
use Rattle.data_typing.specs.Typings.{Typing}
use Rattle.sort_checker.specs.ReadyTrees.{an_expression, IsReadyLeaf, AreReadyLeaves, leaves_of_action}
use Rattle.sort_checker.specs.TypedTrees.{typings_of, AreReadings, is_action, is_call, is_step}
use Rattle.sort_checker.proofs.Firsts.{ok_then}
use Rattle.sort_checker.proofs.ReadyLeaves.{mapped_all}
use Rattle.sort_checker.proofs.typed_parts.is_step.Goals as goal

pub read_all-requires-clause-words : goal.read_all-requires-clause-words
read_all-requires-clause-words c =
    let texts = c.args.context.now.sig.now.texts in
    subst (λ (ts : List DataTree). AllByRecursion IsDataOfWords (map plain_data ts)) (sym c.as_slice.ensures.value)
    (mapped_all an_expression (IsReadyLeaf texts) (map plain_data c.in-Named.arguments.items) (subst (λ (a : ActionTree). AreReadyLeaves texts (leaves_of_action (plain_action a))) c.in-Named.is c.requires.ready))

pub returns-then-branch : goal.returns-then-branch
returns-then-branch c =
    let ctx = c.args.context.now in
    let scope = c.args.scope.now in
    let x : Name = c.as_slice-name.result.now in
    let ts : List Typing = typings_of ctx scope c.as_slice.result.now in
    let whole : (is_action ctx x ts || is_call ctx x ts) ≡ is_step ctx scope (plain_action c.args.action.now)
    = ap₂ (λ (n : Name) (ds : List DataTree). is_action ctx n (typings_of ctx scope ds) || is_call ctx n (typings_of ctx scope ds)) c.as_slice-name.ensures.value c.as_slice.ensures.value ∙ ap (λ (a : ActionTree). is_step ctx scope (plain_action a)) (sym c.in-Named.is) in
    let read : AreReadings ctx.sig.now c.as_slice-2.result.now ts = subst (λ (rs : List Reading). AreReadings ctx.sig.now rs ts) (sym c.as_slice-2.ensures.value) c.in_ok-readings.ensures.typings in
    ap (λ (b : Bool). b || is_call ctx x ts) (sym c.if-branch.true ∙ c.in_ok-is_action.ensures ts read) ∙ whole

pub returns : goal.returns
returns c =
    let ctx = c.args.context.now in
    let scope = c.args.scope.now in
    let x : Name = c.as_slice-name.result.now in
    let ts : List Typing = typings_of ctx scope c.as_slice.result.now in
    let whole : (is_action ctx x ts || is_call ctx x ts) ≡ is_step ctx scope (plain_action c.args.action.now)
    = ap₂ (λ (n : Name) (ds : List DataTree). is_action ctx n (typings_of ctx scope ds) || is_call ctx n (typings_of ctx scope ds)) c.as_slice-name.ensures.value c.as_slice.ensures.value ∙ ap (λ (a : ActionTree). is_step ctx scope (plain_action a)) (sym c.in-Named.is) in
    let read : AreReadings ctx.sig.now c.as_slice-2.result.now ts = subst (λ (rs : List Reading). AreReadings ctx.sig.now rs ts) (sym c.as_slice-2.ensures.value) c.in_ok-readings.ensures.typings in
    let again : AreReadings ctx.sig.now c.as_slice-3.result.now ts = subst (λ (rs : List Reading). AreReadings ctx.sig.now rs ts) (sym c.as_slice-3.ensures.value) c.in_ok-readings.ensures.typings in
    ok_then c.is_call.result c.is_call.ensures (λ b told. told ts again ∙ (ap (λ (p : Bool). p || is_call ctx x ts) (sym c.if-branch.false ∙ c.in_ok-is_action.ensures ts read) ∙ whole))
