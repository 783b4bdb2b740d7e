-- An example of code, as a row of the table of examples.
use Rattle.std.specs.Prelude.{List, [], ◌∷◌, pos}
use Rattle.meaning.specs.Examples.{Example, Hold, replacing}
use Rattle.meaning.specs.Tables.{script_of}
use Rattle.meaning.specs.Tree.{Script}
use Rattle.scheme.specs.Written.{written}

-- main(n) { if (n) return main(n - 1); else return 17; }
abbrev pub downward : Script
downward = script_of (record { parameters = 1; locals = 0; body = 10; entry = 0 } ∷ []) [] replacing

abbrev pub examples : List Example
examples =
    record {
      computed = (written downward).words;
      expected =
          -- LDARGS; CALL 1 5; STOP
          pos 24 ∷ pos 19 ∷ pos 1 ∷ pos 5 ∷ pos 25
          -- GETBP, LDI; IFZERO 18
          ∷ pos 13 ∷ pos 11 ∷ pos 17 ∷ pos 18
          -- GETBP, LDI; CSTI 1; SUB; TCALL 1 1 5
          ∷ pos 13 ∷ pos 11 ∷ pos 0 ∷ pos 1 ∷ pos 2 ∷ pos 20 ∷ pos 1 ∷ pos 1 ∷ pos 5
          -- CSTI 17; RET 1
          ∷ pos 0 ∷ pos 17 ∷ pos 21 ∷ pos 1
          -- CSTI 0; RET 1
          ∷ pos 0 ∷ pos 0 ∷ pos 21 ∷ pos 1
          ∷ [];
    }
    ∷ []

abbrev pub Examples : Type 0
Examples = Hold examples
