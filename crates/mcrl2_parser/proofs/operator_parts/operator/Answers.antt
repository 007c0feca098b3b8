use Rattle.std.proofs.Common.{◌∙◌}
use Rattle.std.proofs.lemmas.Result.{err_from_is_err_and}
use Rattle.mcrl2_syntax.proofs.LabelsOnce.{operation_once}
use Rattle.mcrl2_parser.proofs.Operations.{name_set_begins, by_allow, by_block, by_hide, by_rename, by_comm, allowed, blocked, hidden, renamed, ruled}
use Rattle.mcrl2_parser.proofs.operator_parts.operator.Goals as goal

pub opened-requires-clause-begins : goal.opened-requires-clause-begins
opened-requires-clause-begins c = name_set_begins c.args.text.now

pub returns-in_err-sets-in-Allow-clause-only : goal.returns-in_err-sets-in-Allow-clause-only
returns-in_err-sets-in-Allow-clause-only c = λ o r d. let e = err_from_is_err_and c.from_residual-in_err-sets-in-Allow.result c.from_residual-in_err-sets-in-Allow.ensures.1 in
    let a = allowed c.in_ok-token.ensures.found c.in-Allow.is d in
    rw e.1 (e.2 ∙ c.in_err-sets-in-Allow.ensures.only a.0 r a.1)

pub returns-in_ok-sets-in-Allow-clause-found : goal.returns-in_ok-sets-in-Allow-clause-found
returns-in_ok-sets-in-Allow-clause-found c = by_allow c.in_ok-token.ensures.found c.in-Allow.is c.in_ok-sets-in-Allow.ensures.found

pub returns-in_ok-sets-in-Allow-clause-only : goal.returns-in_ok-sets-in-Allow-clause-only
returns-in_ok-sets-in-Allow-clause-only c = λ o r d. operation_once (by_allow c.in_ok-token.ensures.found c.in-Allow.is c.in_ok-sets-in-Allow.ensures.found) d

pub returns-in_err-names-in-Block-clause-only : goal.returns-in_err-names-in-Block-clause-only
returns-in_err-names-in-Block-clause-only c = λ o r d. let e = err_from_is_err_and c.from_residual-in_err-names-in-Block.result c.from_residual-in_err-names-in-Block.ensures.1 in
    let a = blocked c.in_ok-token.ensures.found c.in-Block.is d in
    rw e.1 (e.2 ∙ c.in_err-names-in-Block.ensures.only a.0 r a.1)

pub returns-in_ok-names-in-Block-clause-found : goal.returns-in_ok-names-in-Block-clause-found
returns-in_ok-names-in-Block-clause-found c = by_block c.in_ok-token.ensures.found c.in-Block.is c.in_ok-names-in-Block.ensures.found

pub returns-in_ok-names-in-Block-clause-only : goal.returns-in_ok-names-in-Block-clause-only
returns-in_ok-names-in-Block-clause-only c = λ o r d. operation_once (by_block c.in_ok-token.ensures.found c.in-Block.is c.in_ok-names-in-Block.ensures.found) d

pub returns-in_err-names-in-Hide-clause-only : goal.returns-in_err-names-in-Hide-clause-only
returns-in_err-names-in-Hide-clause-only c = λ o r d. let e = err_from_is_err_and c.from_residual-in_err-names-in-Hide.result c.from_residual-in_err-names-in-Hide.ensures.1 in
    let a = hidden c.in_ok-token.ensures.found c.in-Hide.is d in
    rw e.1 (e.2 ∙ c.in_err-names-in-Hide.ensures.only a.0 r a.1)

pub returns-in_ok-names-in-Hide-clause-found : goal.returns-in_ok-names-in-Hide-clause-found
returns-in_ok-names-in-Hide-clause-found c = by_hide c.in_ok-token.ensures.found c.in-Hide.is c.in_ok-names-in-Hide.ensures.found

pub returns-in_ok-names-in-Hide-clause-only : goal.returns-in_ok-names-in-Hide-clause-only
returns-in_ok-names-in-Hide-clause-only c = λ o r d. operation_once (by_hide c.in_ok-token.ensures.found c.in-Hide.is c.in_ok-names-in-Hide.ensures.found) d

pub returns-in_err-renamings-in-Rename-clause-only : goal.returns-in_err-renamings-in-Rename-clause-only
returns-in_err-renamings-in-Rename-clause-only c = λ o r d. let e = err_from_is_err_and c.from_residual-in_err-renamings-in-Rename.result c.from_residual-in_err-renamings-in-Rename.ensures.1 in
    let a = renamed c.in_ok-token.ensures.found c.in-Rename.is d in
    rw e.1 (e.2 ∙ c.in_err-renamings-in-Rename.ensures.only a.0 r a.1)

pub returns-in_ok-renamings-in-Rename-clause-found : goal.returns-in_ok-renamings-in-Rename-clause-found
returns-in_ok-renamings-in-Rename-clause-found c = by_rename c.in_ok-token.ensures.found c.in-Rename.is c.in_ok-renamings-in-Rename.ensures.found

pub returns-in_ok-renamings-in-Rename-clause-only : goal.returns-in_ok-renamings-in-Rename-clause-only
returns-in_ok-renamings-in-Rename-clause-only c = λ o r d. operation_once (by_rename c.in_ok-token.ensures.found c.in-Rename.is c.in_ok-renamings-in-Rename.ensures.found) d

pub returns-in_err-rules-in-Comm-clause-only : goal.returns-in_err-rules-in-Comm-clause-only
returns-in_err-rules-in-Comm-clause-only c = λ o r d. let e = err_from_is_err_and c.from_residual-in_err-rules-in-Comm.result c.from_residual-in_err-rules-in-Comm.ensures.1 in
    let a = ruled c.in_ok-token.ensures.found c.in-Comm.is d in
    rw e.1 (e.2 ∙ c.in_err-rules-in-Comm.ensures.only a.0 r a.1)

pub returns-in_ok-rules-in-Comm-clause-found : goal.returns-in_ok-rules-in-Comm-clause-found
returns-in_ok-rules-in-Comm-clause-found c = by_comm c.in_ok-token.ensures.found c.in-Comm.is c.in_ok-rules-in-Comm.ensures.found

pub returns-in_ok-rules-in-Comm-clause-only : goal.returns-in_ok-rules-in-Comm-clause-only
returns-in_ok-rules-in-Comm-clause-only c = λ o r d. operation_once (by_comm c.in_ok-token.ensures.found c.in-Comm.is c.in_ok-rules-in-Comm.ensures.found) d
