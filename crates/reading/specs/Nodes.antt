-- What a node is read as: its part of the tree, by the parts of its children, and what its numbers can be relied on for.
use Rattle.std.specs.Prelude.{◌≡◌, ℕ, ◌+◌, ◌<◌, max, true, List, length, ℤ, pos, slice_index, unsigned_abs}
use Rattle.script.specs.declared.Function.{Function}
use Rattle.script.specs.declared.Node.{Node}
use Rattle.script.specs.declared.kinds.Sort.{Sort}
use Rattle.script.specs.declared.kinds.Sort.TheVariants.{Expression as AnExpression, Arguments as AList, Statement as AStatement}
use Rattle.script.specs.Kinds.{kind_at, is_of}
use Rattle.meaning.specs.Words
use Rattle.meaning.specs.Tree.{Expr, Args, Stmt}
use Rattle.meaning.specs.Tree
use Rattle.meaning.specs.Tables.{expr_at, args_at, stmt_at}
use Rattle.scheme.specs.Scheme.{count}
use Rattle.reading.specs.declared.Operator.{Operator}
use Rattle.reading.specs.declared.Operator.TheVariants.{Add, Sub, Mul, Div, Rem, Equal, Unequal, Less, NotLess, Greater, NotGreater}
use Rattle.reading.specs.declared.Expression.{Expression}
use Rattle.reading.specs.declared.Expression.TheVariants.{Constant, Local, Global, Element, SetLocal, SetGlobal, SetElement, Not, Print, Binary, And, Or, Call}
use Rattle.reading.specs.declared.Arguments.{Arguments}
use Rattle.reading.specs.declared.Arguments.TheVariants.{Empty, Also}
use Rattle.reading.specs.declared.Statement.{Statement}
use Rattle.reading.specs.declared.Statement.TheVariants.{Nothing, Then, Evaluate, If, While, Return, Replace}

-- the sort of the node n
abbrev pub IsExpression : List Node → ℕ → Type 0
IsExpression xs n = is_of AnExpression (kind_at xs n) ≡ true

abbrev pub IsList : List Node → ℕ → Type 0
IsList xs n = is_of AList (kind_at xs n) ≡ true

abbrev pub IsStatement : List Node → ℕ → Type 0
IsStatement xs n = is_of AStatement (kind_at xs n) ≡ true

abbrev pub operator_read : Operator → Words.Operator
operator_read Add = Words.add
operator_read Sub = Words.sub
operator_read Mul = Words.mul
operator_read Div = Words.div
operator_read Rem = Words.rem
operator_read Equal = Words.eq
operator_read Unequal = Words.ne
operator_read Less = Words.lt
operator_read NotLess = Words.ge
operator_read Greater = Words.gt
operator_read NotGreater = Words.le

-- the part of the tree at the node n
abbrev pub expr_read : List Node → ℕ → Expression → Expr
expr_read xs n (Constant v) = Tree.constant n v
expr_read xs n (Local k) = Tree.local n (unsigned_abs k)
expr_read xs n (Global g) = Tree.global n g
expr_read xs n (Element g l b) = Tree.element n g (expr_at xs b)
expr_read xs n (SetLocal k b) = Tree.set_local n (unsigned_abs k) (expr_at xs b)
expr_read xs n (SetGlobal g b) = Tree.set_global n g (expr_at xs b)
expr_read xs n (SetElement g l b c) = Tree.set_element n g (expr_at xs b) (expr_at xs c)
expr_read xs n (Not a) = Tree.negation n (expr_at xs a)
expr_read xs n (Print a) = Tree.print n (expr_at xs a)
expr_read xs n (Binary o a b) = Tree.binary n (operator_read o) (expr_at xs a) (expr_at xs b)
expr_read xs n (And a b) = Tree.both n (expr_at xs a) (expr_at xs b)
expr_read xs n (Or a b) = Tree.either n (expr_at xs a) (expr_at xs b)
expr_read xs n (Call f k l) = Tree.call n f (args_at xs l)

abbrev pub args_read : List Node → ℕ → Arguments → Args
args_read xs n Empty = Tree.none n
args_read xs n (Also a b) = Tree.also n (expr_at xs a) (args_at xs b)

abbrev pub stmt_read : List Node → ℕ → Statement → Stmt
stmt_read xs n Nothing = Tree.nothing n
stmt_read xs n (Then a b) = Tree.chain n (stmt_at xs a) (stmt_at xs b)
stmt_read xs n (Evaluate a) = Tree.discard n (expr_at xs a)
stmt_read xs n (If a b c) = Tree.if n (expr_at xs a) (stmt_at xs b) (stmt_at xs c)
stmt_read xs n (While a b) = Tree.while n (expr_at xs a) (stmt_at xs b)
stmt_read xs n (Return a) = Tree.return n (expr_at xs a)
stmt_read xs n (Replace m f k l) = Tree.replace n m f (args_at xs l)

-- the node m is a child of n, of that sort
abbrev pub Kid : List Node → ℕ → Sort → ℕ → Type 0
Kid xs n s m = (m < n) × (is_of s (kind_at xs m) ≡ true)

abbrev pub Natural : ℤ → Type 0
Natural k = k ≡ pos (unsigned_abs k)

-- a call of the function f, with k arguments in the list l
abbrev pub CallParts : List Function → List Node → ℕ → ℕ → ℕ → ℕ → Type 0
CallParts fs xs n f k l = (f < length fs) × (k ≡ count (args_at xs l)) × Kid xs n AList l

abbrev pub ExprParts : List Function → List ℕ → List Node → ℕ → Expression → Type 0
ExprParts fs gs xs n (Constant v) = Unit {0}
ExprParts fs gs xs n (Local k) = Natural k
ExprParts fs gs xs n (Global g) = g < length gs
ExprParts fs gs xs n (Element g l b) = (g < length gs) × (l ≡ slice_index gs g) × Kid xs n AnExpression b
ExprParts fs gs xs n (SetLocal k b) = Natural k × Kid xs n AnExpression b
ExprParts fs gs xs n (SetGlobal g b) = (g < length gs) × Kid xs n AnExpression b
ExprParts fs gs xs n (SetElement g l b c) = (g < length gs) × (l ≡ slice_index gs g) × Kid xs n AnExpression b × Kid xs n AnExpression c
ExprParts fs gs xs n (Not a) = Kid xs n AnExpression a
ExprParts fs gs xs n (Print a) = Kid xs n AnExpression a
ExprParts fs gs xs n (Binary o a b) = Kid xs n AnExpression a × Kid xs n AnExpression b
ExprParts fs gs xs n (And a b) = Kid xs n AnExpression a × Kid xs n AnExpression b
ExprParts fs gs xs n (Or a b) = Kid xs n AnExpression a × Kid xs n AnExpression b
ExprParts fs gs xs n (Call f k l) = CallParts fs xs n f k l

abbrev pub ArgsParts : List Node → ℕ → Arguments → Type 0
ArgsParts xs n Empty = Unit {0}
ArgsParts xs n (Also a b) = Kid xs n AnExpression a × Kid xs n AList b

abbrev pub StmtParts : List Function → List Node → ℕ → Statement → Type 0
StmtParts fs xs n Nothing = Unit {0}
StmtParts fs xs n (Then a b) = Kid xs n AStatement a × Kid xs n AStatement b
StmtParts fs xs n (Evaluate a) = Kid xs n AnExpression a
StmtParts fs xs n (If a b c) = Kid xs n AnExpression a × Kid xs n AStatement b × Kid xs n AStatement c
StmtParts fs xs n (While a b) = Kid xs n AnExpression a × Kid xs n AStatement b
StmtParts fs xs n (Return a) = Kid xs n AnExpression a
StmtParts fs xs n (Replace m f k l) = Kid xs n AnExpression m × CallParts fs xs n f k l

-- how deep whiles nest: so many can be open at once
abbrev pub whiles : Stmt → ℕ
whiles (Tree.nothing n) = 0
whiles (Tree.chain n a b) = max (whiles a) (whiles b)
whiles (Tree.discard n e) = 0
whiles (Tree.if n e a b) = max (whiles a) (whiles b)
whiles (Tree.while n e b) = whiles b + 1
whiles (Tree.return n e) = 0
whiles (Tree.replace n m f l) = 0
