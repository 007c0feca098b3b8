-- What declarations of other forms don't have.
use Rattle.std.proofs.Common.{◌≡◌, List, [], refl}
use Rattle.std.specs.Prelude.{Vec}
use Rattle.std.specs.Global.{Box, Global}
use Rattle.mcrl2_syntax.specs.declared.word.Span.{Span}
use Rattle.mcrl2_syntax.specs.declared.word.Word.{Word}
use Rattle.mcrl2_syntax.specs.declared.process_tree.ProcTree.{ProcTree}
use Rattle.mcrl2_syntax.specs.declared.process_tree.VarGroup.{VarGroup}
use Rattle.mcrl2_syntax.specs.declared.declaration.Decl.{Decl}
use Rattle.mcrl2_syntax.specs.declared.declaration.Decl.TheVariants as decl
use Rattle.mcrl2_syntax.specs.declared.declaration.EquationTree.{EquationTree}
use Rattle.sort_table.specs.BareProcesses.{Variables}
use Rattle.sort_table.specs.DeclarationTrees.{declaration_of}
use Rattle.sort_checker.specs.FullVocabularies.{process_by}
use Rattle.sort_checker.specs.Parts.{variables_by}
use Rattle.sort_checker.specs.Systems.{equation_under}

pub no_variables : (d : Decl) → ((span : Span) (gs : Vec VarGroup Global) → d ≡ decl.Vars span gs → ⊥) → variables_by (declaration_of d) ≡ []
no_variables (decl.Sorts span ns) h = refl
no_variables (decl.Alias span n s) h = refl
no_variables (decl.Struct span n cs) h = refl
no_variables (decl.Cons span ns ss to) h = refl
no_variables (decl.Map span ns ss to) h = refl
no_variables (decl.Vars span gs) h = absurd (h span gs refl)
no_variables (decl.Equation span e) h = refl
no_variables (decl.Act span ns ss) h = refl
no_variables (decl.Proc span n gs p) h = refl
no_variables (decl.Init span p) h = refl

pub no_equation : (xs : Variables) (d : Decl) → ((span : Span) (e : EquationTree) → d ≡ decl.Equation span e → ⊥) → equation_under xs (declaration_of d) ≡ []
no_equation xs (decl.Sorts span ns) h = refl
no_equation xs (decl.Alias span n s) h = refl
no_equation xs (decl.Struct span n cs) h = refl
no_equation xs (decl.Cons span ns ss to) h = refl
no_equation xs (decl.Map span ns ss to) h = refl
no_equation xs (decl.Vars span gs) h = refl
no_equation xs (decl.Equation span e) h = absurd (h span e refl)
no_equation xs (decl.Act span ns ss) h = refl
no_equation xs (decl.Proc span n gs p) h = refl
no_equation xs (decl.Init span p) h = refl

pub no_process : (d : Decl) → ((span : Span) (n : Word) (gs : Vec VarGroup Global) (p : Box ProcTree) → d ≡ decl.Proc span n gs p → ⊥) → process_by (declaration_of d) ≡ []
no_process (decl.Sorts span ns) h = refl
no_process (decl.Alias span n s) h = refl
no_process (decl.Struct span n cs) h = refl
no_process (decl.Cons span ns ss to) h = refl
no_process (decl.Map span ns ss to) h = refl
no_process (decl.Vars span gs) h = refl
no_process (decl.Equation span e) h = refl
no_process (decl.Act span ns ss) h = refl
no_process (decl.Proc span n gs p) h = absurd (h span n gs p refl)
no_process (decl.Init span p) h = refl
