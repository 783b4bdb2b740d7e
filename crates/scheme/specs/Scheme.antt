-- The code of a script, part by part: each is written in front of the code C that follows it, and marked with its node.
use Rattle.std.specs.Prelude.{ℕ, zero, suc, ◌+◌, List, [], ◌∷◌, pos, negsuc, slice_index, slice_index_or}
use Rattle.answer.specs.Numbers.{no_place}
use Rattle.meaning.specs.Words.{Operator}
use Rattle.meaning.specs.Words
use Rattle.meaning.specs.Tree.{Expr, Args, Stmt, Function, Script}
use Rattle.meaning.specs.Tree
use Rattle.meaning.specs.Meaning.{first_word, no_function}
use Rattle.scheme.specs.Code.{Code, size}
use Rattle.scheme.specs.Code
use Rattle.scheme.specs.Writing.{dead, add_cst, add_not, add_goto, target, labelled, left_jump, add_jump, and_way, or_way}

-- an operator, its operands on the stack
abbrev pub operator_code : Operator → ℕ → Code → Code
operator_code Words.add n C = Code.plain Code.add n ∷ C
operator_code Words.sub n C = Code.plain Code.sub n ∷ C
operator_code Words.mul n C = Code.plain Code.mul n ∷ C
operator_code Words.div n C = Code.plain Code.div n ∷ C
operator_code Words.rem n C = Code.plain Code.rem n ∷ C
operator_code Words.eq n C = Code.plain Code.eq n ∷ C
operator_code Words.ne n C = Code.plain Code.eq n ∷ add_not n C
operator_code Words.lt n C = Code.plain Code.lt n ∷ C
operator_code Words.ge n C = Code.plain Code.lt n ∷ add_not n C
operator_code Words.gt n C = Code.plain Code.swap n ∷ Code.plain Code.lt n ∷ C
operator_code Words.le n C = Code.plain Code.swap n ∷ Code.plain Code.lt n ∷ add_not n C

-- the address of the local k
abbrev pub local_code : ℕ → ℕ → Code → Code
local_code n k C = Code.plain Code.getbp n ∷ add_cst (pos k) n (Code.plain Code.add n ∷ C)

-- the address of an element, its index on the stack, for a global of `len` words from word w on. An index below 0 goes to T, where -1 is read
-- as an address; one below `len` goes on to O; any other falls to T.
abbrev pub element_code : ℕ → ℕ → ℕ → Code → Code
element_code n len w C =
    let O = add_cst (pos w) n (Code.plain Code.add n ∷ C) in
    let T = Code.csti (negsuc 0) n ∷ Code.plain Code.ldi n ∷ Code.label ∷ O in
    Code.plain Code.dup n ∷ Code.csti (pos 0) n ∷ Code.plain Code.lt n ∷ Code.ifnzro (Code.behind (size T)) n
    ∷ Code.plain Code.dup n ∷ Code.csti (pos len) n ∷ Code.plain Code.lt n ∷ Code.ifnzro (Code.behind (size O)) n
    ∷ Code.label ∷ T

-- how many arguments a list has
abbrev pub count : Args → ℕ
count (Tree.none n) = 0
count (Tree.also n e l) = suc (count l)

module _ (lengths : List ℕ) where
  unfoldable mutual
    -- an expression leaves its value on the stack
    pub expr_code : Expr → Code → Code
    expr_code (Tree.constant n v) C = add_cst v n C
    expr_code (Tree.local n k) C = local_code n k (Code.plain Code.ldi n ∷ C)
    expr_code (Tree.global n g) C = add_cst (pos (first_word lengths g)) n (Code.plain Code.ldi n ∷ C)
    expr_code (Tree.element n g i) C = expr_code i (element_code n (slice_index lengths g) (first_word lengths g) (Code.plain Code.ldi n ∷ C))
    expr_code (Tree.set_local n k e) C = local_code n k (expr_code e (Code.plain Code.sti n ∷ C))
    expr_code (Tree.set_global n g e) C = add_cst (pos (first_word lengths g)) n (expr_code e (Code.plain Code.sti n ∷ C))
    expr_code (Tree.set_element n g i e) C =
        expr_code i (element_code n (slice_index lengths g) (first_word lengths g) (expr_code e (Code.plain Code.sti n ∷ C)))
    expr_code (Tree.negation n e) C = expr_code e (add_not n C)
    expr_code (Tree.print n e) C = expr_code e (Code.plain Code.printi n ∷ C)
    expr_code (Tree.binary n o e f) C = expr_code e (expr_code f (operator_code o n C))
    expr_code (Tree.both n e f) C = expr_code e (Code.ifzero (and_way n C).to (and_way n C).mark ∷ expr_code f (and_way n C).rest)
    expr_code (Tree.either n e f) C = expr_code e (Code.ifnzro (or_way n C).to (or_way n C).mark ∷ expr_code f (or_way n C).rest)
    expr_code (Tree.call n f l) C = args_code l (Code.call (count l) f n ∷ C)

    -- a list leaves its values, the last on top
    pub args_code : Args → Code → Code
    args_code (Tree.none n) C = C
    args_code (Tree.also n e l) C = expr_code e (args_code l C)

-- statements of a function that has `total` parameters and locals
module _ (lengths : List ℕ) (total : ℕ) where
  unfoldable pub stmt_code : Stmt → Code → Code
  stmt_code (Tree.nothing n) C = C
  stmt_code (Tree.chain n a b) C = stmt_code a (stmt_code b C)
  stmt_code (Tree.discard n e) C = expr_code lengths e (Code.pop n ∷ C)
  stmt_code (Tree.if n e a b) C =
      let D = stmt_code b (left_jump C) in
      expr_code lengths e (Code.ifzero (target D) n ∷ stmt_code a (add_jump C n (labelled D)))
  stmt_code (Tree.while n e b) C =
      Code.loop_at n ∷ expr_code lengths e (Code.ifzero (target C) n ∷ stmt_code b (add_goto (Code.loop n) n (labelled C)))
  stmt_code (Tree.return n e) C = expr_code lengths e (Code.ret total n ∷ dead C)
  stmt_code (Tree.replace n m f l) C = args_code lengths l (Code.tcall (count l) total f m ∷ dead C)

-- a 0 for each further local
unfoldable pub zeros_code : ℕ → Code → Code
zeros_code zero C = C
zeros_code (suc k) C = add_cst (pos 0) no_place (zeros_code k C)

-- a function behind its entry; if its body runs off its end it returns 0
abbrev pub body_code : List ℕ → Function → Code → Code
body_code lengths f C =
    let total = f.parameters + f.locals in
    zeros_code f.locals (stmt_code lengths total f.body (add_cst (pos 0) no_place (Code.ret total no_place ∷ dead C)))

-- the functions from number f on
unfoldable pub functions_code : List ℕ → ℕ → List Function → Code
functions_code lengths f [] = []
functions_code lengths f (fn ∷ fns) = Code.entry f ∷ body_code lengths fn (functions_code lengths (suc f) fns)

-- the whole code: the opening, which calls main on the inputs, and the functions by number
unfoldable pub script_code : Script → Code
script_code s =
    Code.ldargs ∷ Code.call (slice_index_or s.functions 0 no_function).parameters 0 no_place ∷ Code.stop ∷ functions_code s.lengths 0 s.functions
