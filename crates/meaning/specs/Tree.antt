-- A script as a tree. Each part carries first the number of its node.
use Rattle.std.specs.Prelude.{ℕ, List, ℤ}
use Rattle.meaning.specs.Words.{Operator}

mutual
  -- locals, globals and functions go by their numbers
  pub data Expr : Type 0 where
    constant : ℕ → ℤ → Expr
    local : ℕ → ℕ → Expr
    global : ℕ → ℕ → Expr
    element : ℕ → ℕ → Expr → Expr
    set_local : ℕ → ℕ → Expr → Expr
    set_global : ℕ → ℕ → Expr → Expr
    set_element : ℕ → ℕ → Expr → Expr → Expr
    negation : ℕ → Expr → Expr
    print : ℕ → Expr → Expr
    binary : ℕ → Operator → Expr → Expr → Expr
    both : ℕ → Expr → Expr → Expr
    either : ℕ → Expr → Expr → Expr
    call : ℕ → ℕ → Args → Expr

  pub data Args : Type 0 where
    none : ℕ → Args
    also : ℕ → Expr → Args → Args

-- `replace n m f l` is the return n of the call m: that call replaces its caller. `return` returns anything else.
pub data Stmt : Type 0 where
  nothing : ℕ → Stmt
  chain : ℕ → Stmt → Stmt → Stmt
  discard : ℕ → Expr → Stmt
  if : ℕ → Expr → Stmt → Stmt → Stmt
  while : ℕ → Expr → Stmt → Stmt
  return : ℕ → Expr → Stmt
  replace : ℕ → ℕ → ℕ → Args → Stmt

-- `locals` are those besides the parameters
pub record Function : Type 0 where
  pub parameters : ℕ
  pub locals : ℕ
  pub body : Stmt

-- function 0 is main; `lengths` are the globals', in words
pub record Script : Type 0 where
  pub functions : List Function
  pub lengths : List ℕ
