use Rattle.std.proofs.Common.{◌∷◌, ◌∙◌, OnOk, subst}
use Rattle.mcrl2_lexer.specs.declared.kind.Kind.{Kind}
use Rattle.lps_printer.specs.Adding.{Adds}
use Rattle.lps_printer.specs.DataLayout.{piece}
use Rattle.lps_printer.proofs.tokens.push_digits.Goals as goal

pub returns : goal.returns
returns c = subst (λ t. OnOk c.push_token.result ((kind : Kind) → Adds c.args.out.now.items c.push_token.new.out.items (λ rest. piece c.args.gap.now kind t ∷ rest))) (c.as_bytes.ensures.value ∙ c.format.ensures.text) c.push_token.ensures
