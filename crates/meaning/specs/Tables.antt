-- The script that tables hold. Only accepted tables count: of others the script is some default.
use Rattle.std.specs.Prelude.{ℕ, ◌-◌, cond, List, [], ◌∷◌, ◌++◌, map, length, get_or, ℤ, pos, negsuc, ◌==◌, slice_index_or, unsigned_abs}
use Rattle.script.specs.declared.Node.{Node}
use Rattle.script.specs.declared.Function.{Function as Row}
use Rattle.meaning.specs.Words.{Operator, add, sub, mul, div, rem, eq, ne, lt, ge, gt, le}
use Rattle.meaning.specs.Tree.{Expr, Args, Stmt, Script, Function}
use Rattle.meaning.specs.Tree

-- what a node is, read as each of the three sorts, and what its return is: a call that is returned replaces its caller
pub record Part : Type 0 where
  pub expr : Expr
  pub args : Args
  pub stmt : Stmt
  pub returned : ℕ → Stmt

abbrev pub no_part : Part
no_part = record { expr = Tree.constant 0 (pos 0); args = Tree.none 0; stmt = Tree.nothing 0; returned = λ n. Tree.nothing n }

abbrev pub no_node : Node
no_node = record { kind = 0; a = pos 0; b = pos 0; c = pos 0 }

-- the part that a field names, among those before the node
abbrev pub child : List Part → ℤ → Part
child before (pos m) = slice_index_or before m no_part
child before (negsuc m) = no_part

-- operators by number
abbrev pub operator : ℤ → Operator
operator c = slice_index_or (add ∷ sub ∷ mul ∷ div ∷ rem ∷ eq ∷ ne ∷ lt ∷ ge ∷ gt ∷ le ∷ []) (unsigned_abs c) add

-- expressions by kind, from 0
abbrev pub expr_of : ℕ → Node → Part → Part → Part → Expr
expr_of n x a b c =
    get_or
    (Tree.constant n x.a
    ∷ Tree.local n (unsigned_abs x.a)
    ∷ Tree.global n (unsigned_abs x.a)
    ∷ Tree.element n (unsigned_abs x.a) b.expr
    ∷ Tree.set_local n (unsigned_abs x.a) b.expr
    ∷ Tree.set_global n (unsigned_abs x.a) b.expr
    ∷ Tree.set_element n (unsigned_abs x.a) b.expr c.expr
    ∷ Tree.negation n a.expr
    ∷ Tree.print n a.expr
    ∷ Tree.binary n (operator x.c) a.expr b.expr
    ∷ Tree.both n a.expr b.expr
    ∷ Tree.either n a.expr b.expr
    ∷ Tree.call n (unsigned_abs x.a) b.args
    ∷ [])
    x.kind
    (Tree.constant n (pos 0))

-- lists are the kinds 13 and 14
abbrev pub args_of : ℕ → Node → Part → Part → Args
args_of n x a b = cond (x.kind == 14) (Tree.also n a.expr b.args) (Tree.none n)

-- statements by kind, from 15
abbrev pub stmt_of : ℕ → Node → Part → Part → Part → Stmt
stmt_of n x a b c =
    get_or
    (Tree.nothing n
    ∷ Tree.chain n a.stmt b.stmt
    ∷ Tree.discard n a.expr
    ∷ Tree.if n a.expr b.stmt c.stmt
    ∷ Tree.while n a.expr b.stmt
    ∷ a.returned n
    ∷ [])
    (x.kind - 15)
    (Tree.nothing n)

-- the node m, as it is returned by n
abbrev pub return_of : ℕ → Node → Expr → Part → ℕ → Stmt
return_of m x e b n = cond (x.kind == 12) (Tree.replace n m (unsigned_abs x.a) b.args) (Tree.return n e)

abbrev pub part_of : ℕ → Node → Part → Part → Part → Part
part_of n x a b c = record { expr = expr_of n x a b c; args = args_of n x a b; stmt = stmt_of n x a b c; returned = return_of n x (expr_of n x a b c) b }

-- the next node's part, from those before it
abbrev pub part_after : List Part → Node → Part
part_after before x = part_of (length before) x (child before x.a) (child before x.b) (child before x.c)

-- the parts of all nodes, in order, each from those before it
unfoldable pub parts_after : List Part → List Node → List Part
parts_after before [] = before
parts_after before (x ∷ xs) = parts_after (before ++ (part_after before x ∷ [])) xs

abbrev pub parts : List Node → List Part
parts xs = parts_after [] xs

-- the part whose top is the node n
abbrev pub part_at : List Node → ℕ → Part
part_at xs n = slice_index_or (parts xs) n no_part

-- the tables' own trees, by node
abbrev pub expr_at : List Node → ℕ → Expr
expr_at xs n = (part_at xs n).expr

abbrev pub args_at : List Node → ℕ → Args
args_at xs n = (part_at xs n).args

abbrev pub stmt_at : List Node → ℕ → Stmt
stmt_at xs n = (part_at xs n).stmt

abbrev pub function_of : List Part → Row → Function
function_of ps f = record { parameters = f.parameters; locals = f.locals; body = (get_or ps f.body no_part).stmt }

-- the script in tables of functions, global lengths and nodes
abbrev pub script_of : List Row → List ℕ → List Node → Script
script_of fs lengths xs = record { functions = map (function_of (parts xs)) fs; lengths = lengths }
