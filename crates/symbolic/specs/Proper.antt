-- What a script must be like for its code to run: names in range, room by nesting, and each while numbered once.
use Rattle.std.specs.Prelude.{ℕ, ◌+◌, ◌≤◌, ◌<◌, pred, ◌≡◌, List, [], ◌∷◌, length, get_or, ℤ}
use Rattle.meaning.specs.Tree.{Expr, Args, Stmt, Function}
use Rattle.meaning.specs.Tree
use Rattle.meaning.specs.Steps.{Out, fine, ended}
use Rattle.meaning.specs.Meaning.{first_word, no_function}
use Rattle.scheme.specs.Scheme.{count}
pub use Rattle.scheme.specs.Laws.{plus, whiles, all_whiles, Distinct}
use Rattle.symbolic.specs.Symbolic.{Fits, Finish, finished, failed, onto}

-- how symbolic code ends that does what the script means
abbrev pub finish_of : Out ℤ → Finish
finish_of (fine v s) = finished v s.left s.deepest s.readings (onto s.globals [])
finish_of (ended e n s) = failed e n s.left s.deepest s.readings

abbrev pub Fit : List ℤ → Type 0
Fit [] = Unit {0}
Fit (x ∷ xs) = Fits x × Fit xs

module _ (lengths : List ℕ) (nl gl : ℕ) (Known : ℕ → ℕ → Type 0) where
  abbrev mutual
    pub OkE : Expr → ℕ → Type 0
    OkE (Tree.constant n v) r = Fits v × (1 ≤ r)
    OkE (Tree.local n k) r = (k < nl) × (2 ≤ r)
    OkE (Tree.global n g) r = (first_word lengths g < gl) × (1 ≤ r)
    OkE (Tree.element n g e) r = (first_word lengths g + get_or lengths g 0 ≤ gl) × (3 ≤ r) × OkE e r
    OkE (Tree.set_global n g e) r = (first_word lengths g < gl) × (1 ≤ r) × OkE e (pred r)
    OkE (Tree.set_element n g e f) r = (first_word lengths g + get_or lengths g 0 ≤ gl) × (3 ≤ r) × OkE e r × OkE f (pred r)
    OkE (Tree.print n e) r = OkE e r
    OkE (Tree.either n e f) r = OkE e r × OkE f r × (1 ≤ r)
    OkE (Tree.set_local n k e) r = (k < nl) × (2 ≤ r) × OkE e (pred r)
    OkE (Tree.negation n e) r = OkE e r
    OkE (Tree.binary n o e f) r = OkE e r × OkE f (pred r) × (1 ≤ r)
    OkE (Tree.both n e f) r = OkE e r × OkE f r × (1 ≤ r)
    OkE (Tree.call n f l) r = OkA l r × Known f (count l)

    pub OkA : Args → ℕ → Type 0
    OkA (Tree.none n) r = Unit {0}
    OkA (Tree.also n e l) r = OkE e r × OkA l (pred r) × (1 ≤ r)

module _ (lengths : List ℕ) (nl gl spare : ℕ) (Known : ℕ → ℕ → Type 0) where
  abbrev pub OkS : Stmt → Type 0
  OkS (Tree.nothing n) = Unit {0}
  OkS (Tree.chain n a b) = OkS a × OkS b
  OkS (Tree.discard n e) = OkE lengths nl gl Known e spare
  OkS (Tree.if n e a b) = OkE lengths nl gl Known e spare × OkS a × OkS b
  OkS (Tree.while n e b) = OkE lengths nl gl Known e spare × OkS b
  OkS (Tree.return n e) = OkE lengths nl gl Known e spare
  OkS (Tree.replace n m f l) = OkA lengths nl gl Known l spare × Known f (count l)

-- how many words a call takes at most: its parameters and locals, what its expressions need, and two words to return by
abbrev pub frame_limit : ℕ
frame_limit = 60

-- function f exists and has m parameters
abbrev pub Known : List Function → ℕ → ℕ → Type 0
Known fns f m = (f < length fns) × ((get_or fns f no_function).parameters ≡ m)

abbrev pub Proper : List ℕ → List Function → ℕ → ℕ → Type 0
Proper lengths fns gl spare = (f : ℕ) → f < length fns → OkS lengths ((get_or fns f no_function).parameters + (get_or fns f no_function).locals) gl spare (Known fns) (get_or fns f no_function).body
    × ((get_or fns f no_function).parameters + (get_or fns f no_function).locals + spare + 2 ≤ frame_limit)
