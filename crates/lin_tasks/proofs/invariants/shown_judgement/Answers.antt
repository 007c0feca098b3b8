use Rattle.std.proofs.Common.{ℕ, List, sym, subst, ap}
use Rattle.std.specs.Prelude.{Vec}
use Rattle.std.specs.Global.{Global}
use Rattle.mcrl2_syntax.specs.Declarations.{spec_of}
use Rattle.lps_core.specs.PlainLinears.{plain_linear}
use Rattle.lps_invariant.specs.declared.judging.Judged.{Judged}
use Rattle.lps_printer.specs.PrintedLinears.{IsPrinted}
use Rattle.lin_tasks.specs.JudgedConditions.{IsShownAs}
use Rattle.lin_tasks.proofs.invariants.shown_judgement.Goals as goal

pub returns-in-Holds : goal.returns-in-Holds
returns-in-Holds c =
    subst (λ (j : Judged). IsShownAs (spec_of c.args.spec.now) c.args.sig.now c.args.pool.now.trees c.args.name j c.done.result.status c.done.result.text.items) (sym c.in-Holds.is) (
      c.done.ensures.status,
      record {
        signature = c.print.new.sig;
        stands = c.signature_stands.ensures;
        is_printed = subst (λ (t : List ℕ). IsPrinted (spec_of c.args.spec.now) c.args.sig.now c.print.new.sig c.args.pool.now.trees c.args.name (plain_linear c.in-Holds.lin) t) (sym (ap (λ (v : Vec ℕ Global). v.items) c.done.ensures.text)) c.in_ok-text-in-Holds.ensures.written;
      },
    )
