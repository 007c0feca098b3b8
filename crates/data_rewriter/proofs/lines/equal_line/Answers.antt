use Rattle.std.proofs.Common.{sym, subst}
use Rattle.data_theory.specs.Terms.{equality}
use Rattle.data_theory.specs.Equations.{equals}
use Rattle.data_rewriter.specs.Standing.{IsSymbolOf, IsSortOf}
use Rattle.data_rewriter.specs.Signs.{LooksAt}
use Rattle.data_rewriter.specs.FirstLines.{IsFirstLine}
use Rattle.data_rewriter.proofs.Deciding.{told, denied}
use Rattle.data_rewriter.proofs.EqualClauses.{same_decided}
use Rattle.data_rewriter.proofs.lines.equal_line.Goals as goal

pub returns-then-same : goal.returns-then-same
returns-then-same c = λ sig ts a t u table so look fun sx sy vx vy same.
    same_decided sig ts a t u (told same c.if-same.true) _ c.line.ensures

pub returns-in-Bool : goal.returns-in-Bool
returns-in-Bool c = λ sig ts a t u table so look fun sx sy vx vy same.
    let is = subst (λ l. LooksAt sig l a) c.in-Bool.is look in
    subst (λ b. IsFirstLine sig ts (equals b t u) c.bool_line.result) (sym is) (c.bool_line.ensures sig ts t u table (subst (IsSortOf sig c.args.sort) is so) sx sy vx vy (denied same c.if-same.false))

pub returns-in-List : goal.returns-in-List
returns-in-List c = λ sig ts a t u table so look fun sx sy vx vy same.
    let is = subst (λ l. LooksAt sig l a) c.in-List.is look in
    subst (λ b. IsFirstLine sig ts (equals b t u) c.list_line.result) (sym is.2) (c.list_line.ensures sig ts is.0 t u table (subst (IsSortOf sig c.args.sort) is.2 so) is.1 is.3 (subst (λ b. IsSymbolOf sig c.args.fun (equality b)) is.2 fun) vx vy (denied same c.if-same.false))

pub returns-in-Struct : goal.returns-in-Struct
returns-in-Struct c = λ sig ts a t u table so look fun sx sy vx vy same.
    let is = subst (λ l. LooksAt sig l a) c.in-Struct.is look in
    subst (λ b. IsFirstLine sig ts (equals b t u) c.struct_line.result) (sym is.1) (c.struct_line.ensures sig ts is.0 t u table (subst (IsSortOf sig c.args.sort) is.1 so) is.2 sx sy vx vy (denied same c.if-same.false))

pub returns-in-Other : goal.returns-in-Other
returns-in-Other c = λ sig ts a t u table so look fun sx sy vx vy same.
    c.other_line.ensures sig ts a t u table so (subst (λ l. LooksAt sig l a) c.in-Other.is look) vx vy (denied same c.if-same.false)
