-- Examples of what scripts mean, as a table: what the definition computes from tables of nodes, and what it should.
use Rattle.std.specs.Prelude.{◌≡◌, ℕ, ◌-◌, List, [], ◌∷◌, ◌++◌, map, length, replicate, ℤ, pos, negsuc}
use Rattle.answer.specs.Numbers.{ending_number}
use Rattle.answer.specs.declared.Answer.{Answer}
use Rattle.script.specs.declared.Node.{Node}
use Rattle.board.specs.Meaning.{Means}
use Rattle.meaning.specs.Tree.{Script}
use Rattle.meaning.specs.Tables.{script_of}
use Rattle.meaning.specs.Run.{Record, run, Free}

-- a row, whatever it is about, is two lists of numbers; other parts add rows of their own
pub record Example : Type 0 where
  pub computed : List ℤ
  pub expected : List ℤ

-- the two columns of a table are equal
abbrev pub Hold : List Example → Type 0
Hold rows = map (λ x. x.computed) rows ≡ map (λ x. x.expected) rows

-- ending, node, value, turns, depth
abbrev pub told : Answer → List ℤ
told a = pos (ending_number a.ending) ∷ a.place ∷ a.value ∷ pos a.turns ∷ pos a.depth ∷ []

abbrev pub node : ℕ → ℤ → ℤ → ℤ → Node
node kind a b c = record { kind = kind; a = a; b = b; c = c }

abbrev pub constant : ℤ → Node
constant v = node 0 v (pos 0) (pos 0)

abbrev pub operation : ℕ → ℕ → ℕ → Node
operation o a b = node 9 (pos a) (pos b) (pos o)

-- main alone, with some parameters and further locals, its body the last node, and one global of 4 words that are 0
abbrev pub main : ℕ → ℕ → List Node → List ℤ → ℕ → ℕ → Answer
main parameters locals nodes inputs turns depth =
    (run
    (script_of (record { parameters = parameters; locals = locals; body = length nodes - 1; entry = 0 } ∷ []) (4 ∷ []) nodes)
    (replicate 4 (pos 0))
    (record { inputs = inputs; readings = []; page = 0 })
    turns
    depth
    ).answer

-- main returns the expression that is the last of the nodes
abbrev pub gives : List Node → List ℤ → Example
gives nodes answer = record { computed = told (main 0 0 (nodes ++ (node 20 (pos (length nodes - 1)) (pos 0) (pos 0) ∷ [])) [] 1 1); expected = answer }

-- it finishes on its one turn with a value
abbrev pub finished : ℤ → List ℤ
finished v = pos 0 ∷ pos 65535 ∷ v ∷ pos 1 ∷ pos 1 ∷ []

-- it ends on its one turn, at a node
abbrev pub stopped : ℕ → ℕ → List ℤ
stopped ending n = pos ending ∷ pos n ∷ pos 0 ∷ pos 1 ∷ pos 1 ∷ []

-- the element with that index, of a global of 4 words
abbrev pub element : ℤ → List Node
element i = constant i ∷ node 3 (pos 0) (pos 0) (pos 0) ∷ []

-- that element is set to print(7), on a page without room
abbrev pub setting : ℤ → List Node
setting i = constant i ∷ constant (pos 7) ∷ node 8 (pos 1) (pos 0) (pos 0) ∷ node 6 (pos 0) (pos 0) (pos 2) ∷ []

-- main() { int i; while (i < 3) i = i + 1; }
abbrev pub counting : List Node
counting =
    node 1 (pos 0) (pos 0) (pos 0) ∷ constant (pos 3) ∷ operation 7 0 1
    ∷ node 1 (pos 0) (pos 0) (pos 0) ∷ constant (pos 1) ∷ operation 0 3 4 ∷ node 4 (pos 0) (pos 5) (pos 0) ∷ node 17 (pos 6) (pos 0) (pos 0)
    ∷ node 19 (pos 2) (pos 7) (pos 0) ∷ []

-- main(n - 1)
abbrev pub once_more : List Node
once_more =
    node 1 (pos 0) (pos 0) (pos 0) ∷ node 1 (pos 0) (pos 0) (pos 0) ∷ constant (pos 1) ∷ operation 1 1 2
    ∷ node 13 (pos 0) (pos 0) (pos 0) ∷ node 14 (pos 3) (pos 4) (pos 0) ∷ node 12 (pos 0) (pos 5) (pos 0) ∷ []

-- main(n) { if (n) return main(n - 1); else return 17; }
abbrev pub replacing : List Node
replacing = once_more ++ (node 20 (pos 6) (pos 0) (pos 0) ∷ constant (pos 17) ∷ node 20 (pos 8) (pos 0) (pos 0) ∷ node 18 (pos 0) (pos 7) (pos 9) ∷ [])

-- main(n) { if (n) return main(n - 1) + 0; else return 17; }
abbrev pub nesting : List Node
nesting =
    once_more
    ++ (constant (pos 0) ∷ operation 0 6 7 ∷ node 20 (pos 8) (pos 0) (pos 0) ∷ constant (pos 17) ∷ node 20 (pos 10) (pos 0) (pos 0) ∷ node 18 (pos 0) (pos 9) (pos 11) ∷ [])

abbrev pub examples : List Example
examples =
    -- -7 / 2 and -7 % 2
    gives (constant (negsuc 6) ∷ constant (pos 2) ∷ operation 3 0 1 ∷ []) (finished (negsuc 2))
    ∷ gives (constant (negsuc 6) ∷ constant (pos 2) ∷ operation 4 0 1 ∷ []) (finished (negsuc 0))
    -- the smallest number by -1, and 1 / 0
    ∷ gives (constant (negsuc 2147483647) ∷ constant (negsuc 0) ∷ operation 3 0 1 ∷ []) (finished (negsuc 2147483647))
    ∷ gives (constant (negsuc 2147483647) ∷ constant (negsuc 0) ∷ operation 4 0 1 ∷ []) (finished (pos 0))
    ∷ gives (constant (pos 1) ∷ constant (pos 0) ∷ operation 3 0 1 ∷ []) (stopped 1 2)
    -- 2147483647 + 1
    ∷ gives (constant (pos 2147483647) ∷ constant (pos 1) ∷ operation 0 0 1 ∷ []) (finished (negsuc 2147483647))
    -- !!5
    ∷ gives (constant (pos 5) ∷ node 7 (pos 0) (pos 0) (pos 0) ∷ node 7 (pos 1) (pos 0) (pos 0) ∷ []) (finished (pos 1))
    -- (5 == 0) == 0
    ∷ gives (constant (pos 5) ∷ constant (pos 0) ∷ operation 5 0 1 ∷ constant (pos 0) ∷ operation 5 2 3 ∷ []) (finished (pos 1))
    -- 2 && 5 and 2 || 5
    ∷ gives (constant (pos 2) ∷ constant (pos 5) ∷ node 10 (pos 0) (pos 1) (pos 0) ∷ []) (finished (pos 5))
    ∷ gives (constant (pos 2) ∷ constant (pos 5) ∷ node 11 (pos 0) (pos 1) (pos 0) ∷ []) (finished (pos 1))
    -- the indices 3, 4 and -1
    ∷ gives (element (pos 3)) (finished (pos 0))
    ∷ gives (element (pos 4)) (stopped 2 1)
    ∷ gives (element (negsuc 0)) (stopped 2 1)
    -- an index is tested before the value to be set is worked out: 4 ends at the element, 3 at the print
    ∷ gives (setting (pos 4)) (stopped 2 3)
    ∷ gives (setting (pos 3)) (stopped 3 2)
    -- the while, on 4 turns and on 3
    ∷ record { computed = told (main 0 1 counting [] 4 1); expected = pos 0 ∷ pos 65535 ∷ pos 0 ∷ pos 4 ∷ pos 1 ∷ [] }
    ∷ record { computed = told (main 0 1 counting [] 3 1); expected = pos 4 ∷ pos 8 ∷ pos 0 ∷ pos 3 ∷ pos 1 ∷ [] }
    -- a replacing call: 4 turns and depth 1 do for 3, 3 turns do not
    ∷ record { computed = told (main 1 0 replacing (pos 3 ∷ []) 4 1); expected = pos 0 ∷ pos 65535 ∷ pos 17 ∷ pos 4 ∷ pos 1 ∷ [] }
    ∷ record { computed = told (main 1 0 replacing (pos 3 ∷ []) 3 1); expected = pos 4 ∷ pos 6 ∷ pos 0 ∷ pos 3 ∷ pos 1 ∷ [] }
    -- a nesting call: it takes depth 4
    ∷ record { computed = told (main 1 0 nesting (pos 3 ∷ []) 4 4); expected = pos 0 ∷ pos 65535 ∷ pos 17 ∷ pos 4 ∷ pos 4 ∷ [] }
    ∷ record { computed = told (main 1 0 nesting (pos 3 ∷ []) 4 3); expected = pos 5 ∷ pos 6 ∷ pos 0 ∷ pos 3 ∷ pos 3 ∷ [] }
    -- turns are tested before depth, and a call that is too deep spends nothing
    ∷ record { computed = told (main 1 0 nesting (pos 3 ∷ []) 1 1); expected = stopped 4 6 }
    ∷ record { computed = told (main 1 0 nesting (pos 3 ∷ []) 2 1); expected = stopped 5 6 }
    ∷ []

abbrev pub Examples : Type 0
Examples = Hold examples

-- main() { while (1) ; }
abbrev pub endless : Script
endless =
    script_of
    (record { parameters = 0; locals = 0; body = 2; entry = 0 } ∷ [])
    []
    (constant (pos 1) ∷ node 15 (pos 0) (pos 0) (pos 0) ∷ node 19 (pos 0) (pos 1) (pos 0) ∷ [])

-- it has no free run
abbrev pub Endless : Type 0
Endless = (globals : List ℤ) (board : Means) (r : Record) → Free endless globals board r → ⊥
