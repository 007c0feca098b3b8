use Rattle.std.proofs.Common.{◌≡◌, ◌++◌, ◌∷◌, [], ◌∙◌, sym, ap, subst, arith, rules}
use Rattle.data_theory.specs.Keys.{key}
use Rattle.data_theory.specs.Functions.{HasKey, function_of, key_of}
use Rattle.data_theory.proofs.FunctionLemmas.{absent_key}
use Rattle.data_theory.proofs.NamedLemmas.{indexed_pushed}
use Rattle.data_theory.proofs.StructWithin.{if_not_err}
use Rattle.data_theory.proofs.functions.Functions.push.Goals as goal

pub push-requires : goal.push-requires
push-requires c =
    rw c.as_slice.ensures.value (absent_key _ _ _ c.self.invariant.keyed (λ n h. c.requires n (subst (λ fs. HasKey fs (key_of (function_of c.args.entry)) n) c.self.view_is h)))

pub invariant_of-self-2 : goal.invariant_of-self-2
invariant_of-self-2 c =
    let pushed : c.push-2.new.self.items ≡ c.self.inside.entries.items ++ c.args.entry ∷ [] = search rules in
    indexed_pushed c.self.inside.entries.items c.push-2.new.self.items c.args.entry c.self.inside.keys c.push.new.self c.self.inside.named c.enter.new.self c.len.result
    c.self.invariant pushed (c.in_ok-push.ensures.pushed ∙ ap (λ ss. c.self.inside.keys ++ key c.args.entry.name ss ∷ []) c.as_slice.ensures.value)
    (omega (arith, c.len.ensures, c.self.inside.entries.ok.0)) (if_not_err c.enter.result (sym c.is_err.ensures.value ∙ c.if-is_err.false) c.enter.ensures.entered)
