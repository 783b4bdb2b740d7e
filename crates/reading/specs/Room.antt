-- The room that a draft of each part of a script takes at most, in words.
use Rattle.std.specs.Prelude.{ℕ, ◌+◌}
use Rattle.meaning.specs.Tree.{Expr, Args, Stmt}
use Rattle.meaning.specs.Tree

abbrev mutual
  pub expr_room : Expr → ℕ
  expr_room (Tree.constant n v) = 2
  expr_room (Tree.local n k) = 5
  expr_room (Tree.global n g) = 3
  expr_room (Tree.element n g e) = expr_room e + 19
  expr_room (Tree.set_local n k e) = expr_room e + 5
  expr_room (Tree.set_global n g e) = expr_room e + 3
  expr_room (Tree.set_element n g e f) = expr_room e + expr_room f + 19
  expr_room (Tree.negation n e) = expr_room e + 2
  expr_room (Tree.print n e) = expr_room e + 1
  expr_room (Tree.binary n o e f) = expr_room e + expr_room f + 4
  expr_room (Tree.both n e f) = expr_room e + expr_room f + 6
  expr_room (Tree.either n e f) = expr_room e + expr_room f + 6
  expr_room (Tree.call n f l) = args_room l + 3

  pub args_room : Args → ℕ
  args_room (Tree.none n) = 0
  args_room (Tree.also n e l) = expr_room e + args_room l

abbrev pub stmt_room : Stmt → ℕ
stmt_room (Tree.nothing n) = 0
stmt_room (Tree.chain n a b) = stmt_room a + stmt_room b
stmt_room (Tree.discard n e) = expr_room e + 2
stmt_room (Tree.if n e a b) = expr_room e + stmt_room a + stmt_room b + 4
stmt_room (Tree.while n e b) = expr_room e + stmt_room b + 4
stmt_room (Tree.return n e) = expr_room e + 2
stmt_room (Tree.replace n m f l) = args_room l + 4
