use Rattle.std.proofs.Common.{[], sym, ◌∙◌, subst}
use Rattle.std.specs.List.{All}
use Rattle.lps_core.specs.Fitting.{SummandFits}
use Rattle.lps_core.specs.PlainLinears.{plain_linear}
use Rattle.lps_printer.specs.CodeWordings.{IsTermBy}
use Rattle.lps_printer.proofs.CodeActions.{terms_fit}
use Rattle.lps_printer.proofs.PrintedTexts.{IsWriter, same_summands_fit, same_terms, all_found}
use Rattle.lps_printer.proofs.printing.needed_nils.Goals as goal

pub summands_nils-requires : goal.summands_nils-requires
summands_nils-requires c =
    let l = plain_linear c.args.lin.now in
    let w : IsWriter c.new-writer.result c.args.sig.now c.args.pool.now [] [] l.params = record {
      sig = c.new-writer.ensures.sig;
      pool = c.new-writer.ensures.pool;
      functions = c.new-writer.ensures.functions ∙ c.as_slice.ensures.value ∙ c.in_ok-functions.ensures;
      constants = c.new-writer.ensures.constants;
      actions = c.new-writer.ensures.actions ∙ c.as_slice-2.ensures.value ∙ c.in_ok-actions.ensures;
      process = c.new-writer.ensures.process;
      params = c.new-writer.ensures.params ∙ c.params.ensures;
    } in
    same_summands_fit w c.summands.result.now c.requires.params (subst (λ xs. All (SummandFits c.args.sig.now c.args.pool.now.trees l.params) xs) (sym c.summands.ensures) c.requires.summands)

pub initial_nils-requires : goal.initial_nils-requires
initial_nils-requires c =
    let l = plain_linear c.args.lin.now in
    let w : IsWriter c.new-writer.result c.args.sig.now c.args.pool.now [] [] l.params = record {
      sig = c.new-writer.ensures.sig;
      pool = c.new-writer.ensures.pool;
      functions = c.new-writer.ensures.functions ∙ c.as_slice.ensures.value ∙ c.in_ok-functions.ensures;
      constants = c.new-writer.ensures.constants;
      actions = c.new-writer.ensures.actions ∙ c.as_slice-2.ensures.value ∙ c.in_ok-actions.ensures;
      process = c.new-writer.ensures.process;
      params = c.new-writer.ensures.params ∙ c.params.ensures;
    } in
    subst (All (IsTermBy c.new-writer.result.terms)) (sym c.init.ensures) (same_terms w l.init (terms_fit c.args.sig.now c.args.pool.now.trees _ l.init c.requires.init.within c.requires.init.sorted))

pub returns-clause-nils : goal.returns-clause-nils
returns-clause-nils c =
    let l = plain_linear c.args.lin.now in
    let w : IsWriter c.new-writer.result c.args.sig.now c.args.pool.now [] [] l.params = record {
      sig = c.new-writer.ensures.sig;
      pool = c.new-writer.ensures.pool;
      functions = c.new-writer.ensures.functions ∙ c.as_slice.ensures.value ∙ c.in_ok-functions.ensures;
      constants = c.new-writer.ensures.constants;
      actions = c.new-writer.ensures.actions ∙ c.as_slice-2.ensures.value ∙ c.in_ok-actions.ensures;
      process = c.new-writer.ensures.process;
      params = c.new-writer.ensures.params ∙ c.params.ensures;
    } in
    (all_found c.names.ensures.stands w l c.summands.result.now c.init.result.now c.new-found.result.keys c.summands_nils.new.found.keys c.initial_nils.new.found.keys c.summands.ensures c.init.ensures c.new-found.ensures.empty c.in_ok-summands_nils.ensures c.in_ok-initial_nils.ensures).0

pub returns-clause-needed : goal.returns-clause-needed
returns-clause-needed c =
    let l = plain_linear c.args.lin.now in
    let w : IsWriter c.new-writer.result c.args.sig.now c.args.pool.now [] [] l.params = record {
      sig = c.new-writer.ensures.sig;
      pool = c.new-writer.ensures.pool;
      functions = c.new-writer.ensures.functions ∙ c.as_slice.ensures.value ∙ c.in_ok-functions.ensures;
      constants = c.new-writer.ensures.constants;
      actions = c.new-writer.ensures.actions ∙ c.as_slice-2.ensures.value ∙ c.in_ok-actions.ensures;
      process = c.new-writer.ensures.process;
      params = c.new-writer.ensures.params ∙ c.params.ensures;
    } in
    (all_found c.names.ensures.stands w l c.summands.result.now c.init.result.now c.new-found.result.keys c.summands_nils.new.found.keys c.initial_nils.new.found.keys c.summands.ensures c.init.ensures c.new-found.ensures.empty c.in_ok-summands_nils.ensures c.in_ok-initial_nils.ensures).1
