use Rattle.std.proofs.Common.{rules, ◌≡◌}
use Rattle.std.specs.Prelude.{codes}
use Rattle.std.proofs.lemmas.Slice.Eq.{text_from_reads}
use Rattle.data_theory.proofs.row_names.names_by_seven.Goals as goal

pub returns-in-Pos2Nat : goal.returns-in-Pos2Nat
returns-in-Pos2Nat c = let is : c.args.name.now ≡ codes "Pos2Nat" = text_from_reads c.args.name.now (codes "Pos2Nat") (search rules) (search rules) in rw is

pub returns-in-Nat2Int : goal.returns-in-Nat2Int
returns-in-Nat2Int c = let is : c.args.name.now ≡ codes "Nat2Int" = text_from_reads c.args.name.now (codes "Nat2Int") (search rules) (search rules) in rw is

pub returns-in-Pos2Int : goal.returns-in-Pos2Int
returns-in-Pos2Int c = let is : c.args.name.now ≡ codes "Pos2Int" = text_from_reads c.args.name.now (codes "Pos2Int") (search rules) (search rules) in rw is

pub returns-in-Nat2Pos : goal.returns-in-Nat2Pos
returns-in-Nat2Pos c = let is : c.args.name.now ≡ codes "Nat2Pos" = text_from_reads c.args.name.now (codes "Nat2Pos") (search rules) (search rules) in rw is

pub returns-in-Int2Nat : goal.returns-in-Int2Nat
returns-in-Int2Nat c = let is : c.args.name.now ≡ codes "Int2Nat" = text_from_reads c.args.name.now (codes "Int2Nat") (search rules) (search rules) in rw is

pub returns-in-Int2Pos : goal.returns-in-Int2Pos
returns-in-Int2Pos c = let is : c.args.name.now ≡ codes "Int2Pos" = text_from_reads c.args.name.now (codes "Int2Pos") (search rules) (search rules) in rw is
