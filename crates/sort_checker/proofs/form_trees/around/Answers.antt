use Rattle.std.proofs.Common.{map, refl, subst, ap}
use Rattle.mcrl2_syntax.specs.Words.{word_of}
use Rattle.mcrl2_syntax.specs.TreeWords.{IsProcessOfWords}
use Rattle.process_terms.specs.PlainProcesses as code
use Rattle.process_terms.specs.PlainProcesses.{items_of_each, plain_rules}
use Rattle.process_terms.specs.Processes as written
use Rattle.sort_table.specs.BareProcesses.{bare_names}
use Rattle.sort_checker.specs.Operators.{renaming_of, rule_of}
use Rattle.sort_checker.specs.NumberedWords.{StandIn, set_names, renaming_pair, rule_pair}
use Rattle.sort_checker.specs.FormTrees.{operator_of, operator_names}
use Rattle.sort_checker.proofs.CodeForms.{allow_step, block_step, hide_step, rename_step, comm_step}
use Rattle.sort_checker.proofs.OperatorNumbers.{sets_stand, renamings_stand, rules_stand, allow_is, block_is, hide_is, rename_is, comm_is}
use Rattle.sort_checker.proofs.ProcessTreeForms.{bare_one, allow_plain, block_plain, hide_plain, rename_plain, comm_plain, allow_same, block_same, hide_same, rename_same, comm_same}
use Rattle.sort_checker.proofs.PartsOfTrees.{under_this}
use Rattle.sort_checker.proofs.form_trees.around.Goals as goal

pub set_numbers-requires-clause-names : goal.set_numbers-requires-clause-names
set_numbers-requires-clause-names c =
    (subst IsProcessOfWords (allow_plain c.args.tree.now c.in-Allow.field-0 c.in-Allow.sets c.in-Allow.field-2 c.as_slice.result.now c.in-Allow.field-2.value c.in-Allow.is c.as_slice.ensures.value refl) c.requires.words).0

pub set_numbers-requires-clause-there : goal.set_numbers-requires-clause-there
set_numbers-requires-clause-there c =
    sets_stand c.args.sig.now c.as_slice.result.now (subst (λ o. StandIn c.args.sig.now (operator_names o)) (ap operator_of (allow_same c.args.tree.now c.in-Allow.field-0 c.in-Allow.sets c.in-Allow.field-2 c.as_slice.result.now c.in-Allow.field-2.value c.in-Allow.is c.as_slice.ensures.value refl)) c.requires.there)

pub returns-in_ok-sets-in-Allow : goal.returns-in_ok-sets-in-Allow
returns-in_ok-sets-in-Allow c =
    under_this c.args.sig.now (operator_of (bare_one c.args.tree.now)) (written.allow (map set_names c.as_slice.result.now)) (ap operator_of (allow_same c.args.tree.now c.in-Allow.field-0 c.in-Allow.sets c.in-Allow.field-2 c.as_slice.result.now c.in-Allow.field-2.value c.in-Allow.is c.as_slice.ensures.value refl)) (code.allow (items_of_each c.in_ok-sets-in-Allow.sets.items)) (code.plain_process c.args.inner.value) _
    (allow_is c.args.sig.now c.requires.signature (map set_names c.as_slice.result.now) (items_of_each c.in_ok-sets-in-Allow.sets.items) c.in_ok-sets-in-Allow.ensures) (allow_step c.in_ok-sets-in-Allow.sets c.args.inner)

pub word_numbers-requires-clause-names : goal.word_numbers-requires-clause-names
word_numbers-requires-clause-names c =
    (subst IsProcessOfWords (block_plain c.args.tree.now c.in-Block.field-0 c.in-Block.names c.in-Block.field-2 c.as_slice-in-Block.result.now c.in-Block.field-2.value c.in-Block.is c.as_slice-in-Block.ensures.value refl) c.requires.words).0

pub word_numbers-requires-clause-there : goal.word_numbers-requires-clause-there
word_numbers-requires-clause-there c =
    subst (λ o. StandIn c.args.sig.now (operator_names o)) (ap operator_of (block_same c.args.tree.now c.in-Block.field-0 c.in-Block.names c.in-Block.field-2 c.as_slice-in-Block.result.now c.in-Block.field-2.value c.in-Block.is c.as_slice-in-Block.ensures.value refl)) c.requires.there

pub returns-in_ok-names-in-Block : goal.returns-in_ok-names-in-Block
returns-in_ok-names-in-Block c =
    under_this c.args.sig.now (operator_of (bare_one c.args.tree.now)) (written.block (bare_names (map word_of c.as_slice-in-Block.result.now))) (ap operator_of (block_same c.args.tree.now c.in-Block.field-0 c.in-Block.names c.in-Block.field-2 c.as_slice-in-Block.result.now c.in-Block.field-2.value c.in-Block.is c.as_slice-in-Block.ensures.value refl)) (code.block c.in_ok-names-in-Block.names.items) (code.plain_process c.args.inner.value) _
    (block_is c.args.sig.now c.requires.signature (bare_names (map word_of c.as_slice-in-Block.result.now)) c.in_ok-names-in-Block.names.items c.in_ok-names-in-Block.ensures) (block_step c.in_ok-names-in-Block.names c.args.inner)

pub word_numbers-requires-in-Hide-clause-names : goal.word_numbers-requires-in-Hide-clause-names
word_numbers-requires-in-Hide-clause-names c =
    (subst IsProcessOfWords (hide_plain c.args.tree.now c.in-Hide.field-0 c.in-Hide.names c.in-Hide.field-2 c.as_slice-in-Hide.result.now c.in-Hide.field-2.value c.in-Hide.is c.as_slice-in-Hide.ensures.value refl) c.requires.words).0

pub word_numbers-requires-in-Hide-clause-there : goal.word_numbers-requires-in-Hide-clause-there
word_numbers-requires-in-Hide-clause-there c =
    subst (λ o. StandIn c.args.sig.now (operator_names o)) (ap operator_of (hide_same c.args.tree.now c.in-Hide.field-0 c.in-Hide.names c.in-Hide.field-2 c.as_slice-in-Hide.result.now c.in-Hide.field-2.value c.in-Hide.is c.as_slice-in-Hide.ensures.value refl)) c.requires.there

pub returns-in_ok-names-in-Hide : goal.returns-in_ok-names-in-Hide
returns-in_ok-names-in-Hide c =
    under_this c.args.sig.now (operator_of (bare_one c.args.tree.now)) (written.hide (bare_names (map word_of c.as_slice-in-Hide.result.now))) (ap operator_of (hide_same c.args.tree.now c.in-Hide.field-0 c.in-Hide.names c.in-Hide.field-2 c.as_slice-in-Hide.result.now c.in-Hide.field-2.value c.in-Hide.is c.as_slice-in-Hide.ensures.value refl)) (code.hide c.in_ok-names-in-Hide.names.items) (code.plain_process c.args.inner.value) _
    (hide_is c.args.sig.now c.requires.signature (bare_names (map word_of c.as_slice-in-Hide.result.now)) c.in_ok-names-in-Hide.names.items c.in_ok-names-in-Hide.ensures) (hide_step c.in_ok-names-in-Hide.names c.args.inner)

pub renaming_numbers-requires-clause-names : goal.renaming_numbers-requires-clause-names
renaming_numbers-requires-clause-names c =
    (subst IsProcessOfWords (rename_plain c.args.tree.now c.in-Rename.field-0 c.in-Rename.renamings c.in-Rename.field-2 c.as_slice-in-Rename.result.now c.in-Rename.field-2.value c.in-Rename.is c.as_slice-in-Rename.ensures.value refl) c.requires.words).0

pub renaming_numbers-requires-clause-there : goal.renaming_numbers-requires-clause-there
renaming_numbers-requires-clause-there c =
    renamings_stand c.args.sig.now c.as_slice-in-Rename.result.now (subst (λ o. StandIn c.args.sig.now (operator_names o)) (ap operator_of (rename_same c.args.tree.now c.in-Rename.field-0 c.in-Rename.renamings c.in-Rename.field-2 c.as_slice-in-Rename.result.now c.in-Rename.field-2.value c.in-Rename.is c.as_slice-in-Rename.ensures.value refl)) c.requires.there)

pub returns-in_ok-renamings-in-Rename : goal.returns-in_ok-renamings-in-Rename
returns-in_ok-renamings-in-Rename c =
    under_this c.args.sig.now (operator_of (bare_one c.args.tree.now)) (written.rename (map renaming_of (map renaming_pair c.as_slice-in-Rename.result.now))) (ap operator_of (rename_same c.args.tree.now c.in-Rename.field-0 c.in-Rename.renamings c.in-Rename.field-2 c.as_slice-in-Rename.result.now c.in-Rename.field-2.value c.in-Rename.is c.as_slice-in-Rename.ensures.value refl)) (code.rename c.in_ok-renamings-in-Rename.renamings.items) (code.plain_process c.args.inner.value) _
    (rename_is c.args.sig.now c.requires.signature c.as_slice-in-Rename.result.now c.in_ok-renamings-in-Rename.renamings.items c.in_ok-renamings-in-Rename.ensures) (rename_step c.in_ok-renamings-in-Rename.renamings c.args.inner)

pub rule_numbers-requires-clause-names : goal.rule_numbers-requires-clause-names
rule_numbers-requires-clause-names c =
    (subst IsProcessOfWords (comm_plain c.args.tree.now c.in-Comm.field-0 c.in-Comm.rules c.in-Comm.field-2 c.as_slice-in-Comm.result.now c.in-Comm.field-2.value c.in-Comm.is c.as_slice-in-Comm.ensures.value refl) c.requires.words).0

pub rule_numbers-requires-clause-there : goal.rule_numbers-requires-clause-there
rule_numbers-requires-clause-there c =
    rules_stand c.args.sig.now c.as_slice-in-Comm.result.now (subst (λ o. StandIn c.args.sig.now (operator_names o)) (ap operator_of (comm_same c.args.tree.now c.in-Comm.field-0 c.in-Comm.rules c.in-Comm.field-2 c.as_slice-in-Comm.result.now c.in-Comm.field-2.value c.in-Comm.is c.as_slice-in-Comm.ensures.value refl)) c.requires.there)

pub returns-in_ok-rules-in-Comm : goal.returns-in_ok-rules-in-Comm
returns-in_ok-rules-in-Comm c =
    under_this c.args.sig.now (operator_of (bare_one c.args.tree.now)) (written.comm (map rule_of (map rule_pair c.as_slice-in-Comm.result.now))) (ap operator_of (comm_same c.args.tree.now c.in-Comm.field-0 c.in-Comm.rules c.in-Comm.field-2 c.as_slice-in-Comm.result.now c.in-Comm.field-2.value c.in-Comm.is c.as_slice-in-Comm.ensures.value refl)) (code.comm (plain_rules c.in_ok-rules-in-Comm.rules)) (code.plain_process c.args.inner.value) _
    (comm_is c.args.sig.now c.requires.signature c.as_slice-in-Comm.result.now (plain_rules c.in_ok-rules-in-Comm.rules) c.in_ok-rules-in-Comm.ensures) (comm_step c.in_ok-rules-in-Comm.rules c.args.inner)
