-- The words of a draft's cells, given for each loop and each function how many words there are from there to the end.
use Rattle.std.specs.Prelude.{ℕ, ◌-◌, List, ℤ, pos, slice_index}
use Rattle.scheme.specs.Written.{number}
use Rattle.draft.specs.declared.cells.Place.{Place}
use Rattle.draft.specs.declared.cells.Place.TheVariants.{Behind, Loop}
use Rattle.draft.specs.declared.cells.Word.{Word}
use Rattle.draft.specs.declared.cells.Word.TheVariants.{Opcode, Number, Count, To, Entry}
use Rattle.draft.specs.declared.cells.Cell.{Cell}

abbrev pub length_to : List ℕ → Place → ℕ
length_to starts (Behind n) = n
length_to starts (Loop w) = slice_index starts w

-- in code of `whole` words
abbrev pub word_of : List ℕ → List ℕ → ℕ → Word → ℤ
word_of starts entries whole (Opcode o) = pos (number o)
word_of starts entries whole (Number v) = v
word_of starts entries whole (Count n) = pos n
word_of starts entries whole (To p) = pos (whole - length_to starts p)
word_of starts entries whole (Entry f) = pos (whole - slice_index entries f)

abbrev pub cell_word : List ℕ → List ℕ → ℕ → Cell → ℤ
cell_word starts entries whole c = word_of starts entries whole c.word

abbrev pub cell_mark : Cell → ℕ
cell_mark c = c.mark
