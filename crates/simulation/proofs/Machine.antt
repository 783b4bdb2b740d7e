-- The machine for symbolic code, with all that a run leaves unchanged under one name; and ends of the whole code that are as long as each other
-- run alike.
use Rattle.std.proofs.Common.{◌≡◌, ℕ, zero, suc, ◌≤◌, ◌⊎◌, ◌↔◌, List, ◌∷◌, ℤ, pos, sym, inl, inr, arith}
use Rattle.board.specs.Meaning.{Means}
use Rattle.meaning.specs.Tree.{Expr, Stmt}
use Rattle.scheme.specs.Code.{Code, Target, Item, width, size, view}
use Rattle.scheme.specs.Code
use Rattle.scheme.specs.Scheme.{local_code, expr_code, stmt_code}
use Rattle.symbolic.specs.Symbolic.{Suffix, same, more, Rest, Finish, EndsIn, Ends, ends, Goes, goes}
use Rattle.scheme.specs.Laws.{Keeps}
use Rattle.scheme.proofs.Keep.{keeps_trans, keeps_same, keeps_more, keeps_cst, keeps_expr, keeps_stmt}

-- the address of a local keeps the labelled ends of what follows it
keeps_local : (n k : ℕ) (C : Code) → Keeps (local_code n k C) C
keeps_local n k C = keeps_more _ (keeps_trans {B = Code.plain Code.add n ∷ C} (keeps_cst (pos k) n (view _)) (keeps_more _ (keeps_same C)))

-- the whole code, the words that there are, the depth that is allowed, and the board
pub record Machine : Type 0 where
  pub code : Code
  pub cap : ℕ
  pub limit : ℕ
  pub board : Means

module _ (μ : Machine) where
  abbrev pub In : ℕ → Code → List ℤ → Rest → Finish → Type 0
  In = EndsIn μ.code μ.cap μ.limit μ.board

  abbrev pub Run : Code → List ℤ → Rest → Finish → Type 0
  Run = Ends μ.code μ.cap μ.limit μ.board

  -- from where a jump goes
  abbrev pub Lands : Target → Rest → Finish → (Code → Rest → Type 0) → Type 0
  Lands = goes μ.code μ.cap μ.limit μ.board

  abbrev pub To : Target → List ℤ → Rest → Finish → Type 0
  To = Goes μ.code μ.cap μ.limit μ.board

  -- the whole code has the labelled ends of C
  abbrev pub Hosts : Code → Type 0
  Hosts C = Keeps μ.code C

pub hosts_tail : (μ : Machine) (i : Item) (C : Code) → Hosts μ (i ∷ C) → Hosts μ C
hosts_tail μ i C hosted D l u = hosted D l (more u)

pub hosts_local : (μ : Machine) (n k : ℕ) (C : Code) → Hosts μ (local_code n k C) → Hosts μ C
hosts_local μ n k C hosted = keeps_trans {B = local_code n k C} hosted (keeps_local n k C)

pub hosts_expr : (μ : Machine) (lengths : List ℕ) (e : Expr) (C : Code) → Hosts μ (expr_code lengths e C) → Hosts μ C
hosts_expr μ lengths e C hosted = keeps_trans {B = expr_code lengths e C} hosted (keeps_expr lengths e C)

pub hosts_stmt : (μ : Machine) (lengths : List ℕ) (total : ℕ) (st : Stmt) (C : Code) → Hosts μ (stmt_code lengths total st C) → Hosts μ C
hosts_stmt μ lengths total st C hosted = keeps_trans {B = stmt_code lengths total st C} hosted (keeps_stmt lengths total st C)

pub suffix_size : {D C : Code} → Suffix D C → size D ≤ size C
suffix_size same = omega arith
suffix_size (more s) = let h = suffix_size s in omega arith

total : {D E C : Code} → Suffix D C → Suffix E C → Suffix D E ⊎ Suffix E D
total same t = inr t
total (more s) same = inl (more s)
total (more s) (more t) = total s t

module _ (μ : Machine) where
  pass : (i : Item) (C : Code) (S : List ℤ) (ρ : Rest) (o : Finish) (k : ℕ) → width i ≡ 0
      → In μ (suc k) (i ∷ C) S ρ o ↔ In μ k C S ρ o
  unfolding EndsIn
  pass (Code.csti i m) C S ρ o k e = absurd (omega arith)
  pass (Code.plain p m) C S ρ o k e = absurd (omega arith)
  pass (Code.pop m) C S ρ o k e = absurd (omega arith)
  pass (Code.goto t m) C S ρ o k e = absurd (omega arith)
  pass (Code.ifzero t m) C S ρ o k e = absurd (omega arith)
  pass (Code.ifnzro t m) C S ρ o k e = absurd (omega arith)
  pass (Code.call m f n) C S ρ o k e = absurd (omega arith)
  pass (Code.tcall m j f n) C S ρ o k e = absurd (omega arith)
  pass (Code.ret j n) C S ρ o k e = absurd (omega arith)
  pass Code.ldargs C S ρ o k e = absurd (omega arith)
  pass Code.stop C S ρ o k e = absurd (omega arith)
  pass Code.label C S ρ o k e = ((λ h. h), (λ h. h))
  pass (Code.loop_at w) C S ρ o k e = ((λ h. h), (λ h. h))
  pass (Code.entry f) C S ρ o k e = ((λ h. h), (λ h. h))

  -- two ends of one code that are as long differ in labels alone
  down : {D E : Code} {S : List ℤ} {ρ : Rest} {o : Finish} → Suffix D E → size E ≡ size D → Run μ E S ρ o → Run μ D S ρ o
  unfolding EndsIn
  down same e h = h
  down (more s) e (ends zero h) = absurd h
  down (more {i} {C} s) e (ends (suc k) h) =
      let b = suffix_size s in
      down s (omega arith) (ends k ((pass i C _ _ _ k (omega arith)).0 h))

  up : {D E : Code} {S : List ℤ} {ρ : Rest} {o : Finish} → Suffix D E → size E ≡ size D → Run μ D S ρ o → Run μ E S ρ o
  up same e h = h
  up {S = S} {ρ} {o} (more {i} {C} s) e h = let b = suffix_size s in go (omega arith) (up s (omega arith) h)
    where
      go : width i ≡ 0 → Run μ C S ρ o → Run μ (i ∷ C) S ρ o
      go z (ends k r) = ends (suc k) ((pass i C _ _ _ k z).1 r)

  pub level : {D E : Code} {S : List ℤ} {ρ : Rest} {o : Finish} → Suffix D μ.code → Suffix E μ.code → size D ≡ size E → Run μ D S ρ o → Run μ E S ρ o
  level {D} {E} {S} {ρ} {o} s t e h = go (total s t)
    where
      go : Suffix D E ⊎ Suffix E D → Run μ E S ρ o
      go (inl u) = up u (sym e) h
      go (inr u) = down u e h
