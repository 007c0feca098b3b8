use Rattle.std.proofs.Common.{rules, ◌≡◌}
use Rattle.std.specs.Prelude.{codes}
use Rattle.std.proofs.lemmas.Slice.Eq.{text_from_reads}
use Rattle.mcrl2_lexer.proofs.words.word_of_six.Goals as goal

pub returns-in-struct : goal.returns-in-struct
returns-in-struct c = let is : c.args.word.now ≡ codes "struct" = text_from_reads c.args.word.now (codes "struct") (search rules) (search rules) in rw is

pub returns-in-rename : goal.returns-in-rename
returns-in-rename c = let is : c.args.word.now ≡ codes "rename" = text_from_reads c.args.word.now (codes "rename") (search rules) (search rules) in rw is

pub returns-in-lambda : goal.returns-in-lambda
returns-in-lambda c = let is : c.args.word.now ≡ codes "lambda" = text_from_reads c.args.word.now (codes "lambda") (search rules) (search rules) in rw is

pub returns-in-forall : goal.returns-in-forall
returns-in-forall c = let is : c.args.word.now ≡ codes "forall" = text_from_reads c.args.word.now (codes "forall") (search rules) (search rules) in rw is

pub returns-in-exists : goal.returns-in-exists
returns-in-exists c = let is : c.args.word.now ≡ codes "exists" = text_from_reads c.args.word.now (codes "exists") (search rules) (search rules) in rw is
