-- Nesting bounds the words that an expression needs on its frame: nested n deep, it needs no more than n + 1.
use Rattle.std.specs.Prelude.{ℕ, suc, ◌+◌, ◌<◌, ◌≤◌, max, List, slice_index}
use Rattle.meaning.specs.Tree.{Expr, Args, Function}
use Rattle.meaning.specs.Tree
use Rattle.meaning.specs.Meaning.{first_word}
use Rattle.scheme.specs.Scheme.{count}
use Rattle.symbolic.specs.Symbolic.{Fits}
use Rattle.symbolic.specs.Proper.{OkE, OkA, Known}

-- how deep an expression nests, and a list of arguments
abbrev mutual
  pub nest_e : Expr → ℕ
  nest_e (Tree.constant n v) = 1
  nest_e (Tree.local n k) = 1
  nest_e (Tree.global n g) = 1
  nest_e (Tree.element n g e) = suc (nest_e e)
  nest_e (Tree.set_local n k e) = suc (nest_e e)
  nest_e (Tree.set_global n g e) = suc (nest_e e)
  nest_e (Tree.set_element n g e f) = suc (max (nest_e e) (nest_e f))
  nest_e (Tree.negation n e) = suc (nest_e e)
  nest_e (Tree.print n e) = suc (nest_e e)
  nest_e (Tree.binary n o e f) = suc (max (nest_e e) (nest_e f))
  nest_e (Tree.both n e f) = suc (max (nest_e e) (nest_e f))
  nest_e (Tree.either n e f) = suc (max (nest_e e) (nest_e f))
  nest_e (Tree.call n f l) = suc (nest_a l)

  pub nest_a : Args → ℕ
  nest_a (Tree.none n) = 1
  nest_a (Tree.also n e l) = suc (max (nest_e e) (nest_a l))

-- every name is in range, and every constant fits
module _ (lengths : List ℕ) (nl gl : ℕ) (IsKnown : ℕ → ℕ → Type 0) where
  abbrev mutual
    pub NamedE : Expr → Type 0
    NamedE (Tree.constant n v) = Fits v
    NamedE (Tree.local n k) = k < nl
    NamedE (Tree.global n g) = first_word lengths g < gl
    NamedE (Tree.element n g e) = (first_word lengths g + slice_index lengths g ≤ gl) × NamedE e
    NamedE (Tree.set_local n k e) = (k < nl) × NamedE e
    NamedE (Tree.set_global n g e) = (first_word lengths g < gl) × NamedE e
    NamedE (Tree.set_element n g e f) = (first_word lengths g + slice_index lengths g ≤ gl) × NamedE e × NamedE f
    NamedE (Tree.negation n e) = NamedE e
    NamedE (Tree.print n e) = NamedE e
    NamedE (Tree.binary n o e f) = NamedE e × NamedE f
    NamedE (Tree.both n e f) = NamedE e × NamedE f
    NamedE (Tree.either n e f) = NamedE e × NamedE f
    NamedE (Tree.call n f l) = NamedA l × IsKnown f (count l)

    pub NamedA : Args → Type 0
    NamedA (Tree.none n) = Unit {0}
    NamedA (Tree.also n e l) = NamedE e × NamedA l

-- what nests less than r deep, and names what there is, is proper where r words are free
abbrev pub Roomy : Type 0
Roomy =
    (lengths : List ℕ) (fns : List Function) (nl gl : ℕ)
    → ((e : Expr) (r : ℕ) → NamedE lengths nl gl (Known fns) e → nest_e e < r → OkE lengths nl gl (Known fns) e r)
    × ((l : Args) (r : ℕ) → NamedA lengths nl gl (Known fns) l → nest_a l < r → OkA lengths nl gl (Known fns) l r)
