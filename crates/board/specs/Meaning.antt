-- What a board means: its inputs, its readings and its page.
use Rattle.std.specs.Prelude.{◌≡◌, ℕ, ◌≤◌, Bool, List, [], ◌∷◌, ◌++◌, length, take, ℤ, nat_lt}

-- `page` is how many readings there is room for
pub record Means : Type 0 where
  pub inputs : List ℤ
  pub readings : List ℤ
  pub page : ℕ

-- whether one more reading is taken
abbrev pub has_room : Means → Bool
has_room m = nat_lt (length m.readings) m.page

-- one more reading, last; the inputs and the page stay
abbrev pub printed : ℤ → Means → Means
printed v m = record { inputs = m.inputs; readings = m.readings ++ (v ∷ []); page = m.page }

-- a board over two tables, of which the first `used` words of the second are its readings
abbrev pub tabled : List ℤ → List ℤ → ℕ → Means
tabled inputs page used = record { inputs = inputs; readings = take used page; page = length page }

-- what code that only prints leaves of a board, whose memory beside the first k readings was `was k` and is `is k`: readings are only added, and
-- what lies beside them stays
pub record Framed (before after : List ℤ) (was is : ℕ → List ℤ) : Type 0 where
  pub grows : length before ≤ length after
  pub stays : (k : ℕ) → length after ≤ k → is k ≡ was k
