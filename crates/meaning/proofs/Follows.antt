-- One part of a script run twice, the second time with more turns and depth allowed: the second does the same as the
-- first, or goes on where the first ends with turns or depth.
use Rattle.std.proofs.Common.{◌≡◌, ℕ, ◌+◌, ◌<◌, ◌≤◌, Bool, true, false, ◌⊎◌, List, ◌++◌, ℤ, refl, ap, ◌∙◌, inl, inr, append_assoc, arith}
use Rattle.answer.specs.declared.Ending.{Ending}
use Rattle.answer.specs.declared.Ending.TheVariants.{PageFull}
use Rattle.board.specs.Meaning.{Means, has_room}
use Rattle.meaning.specs.Steps.{State, Out, fine, ended, ◌then◌, guard, branch, restoring, Flow, falls, returns, replaces, next, with_left, with_reading}
use Rattle.meaning.specs.Meaning.{showing}
use Rattle.meaning.specs.Run.{Starved}
use Rattle.meaning.proofs.Onward.{final, Short, quietly, stay, Grows, grows_then, grows_print, grows_restoring}

-- what the second run is allowed above the first: turns, and a depth that is no less
pub record Wider : Type 0 where
  pub extra : ℕ
  pub low : ℕ
  pub high : ℕ
  pub up : low ≤ high

module _ (w : Wider) where
  -- where the first run ends short in s, the second comes to m: it was allowed more, and it has used that, or is short itself
  pub record Past {A : Type 0} (s : State) (m : Out A) : Type 0 where
    pub roomier : (0 < w.extra) ⊎ (w.low < w.high)
    pub later : List ℤ
    pub readings : (final m).readings ≡ s.readings ++ later
    pub used : ((final m).left < w.extra) ⊎ ((w.low < (final m).deepest) ⊎ Short m)

  pub data Follows {A : Type 0} : Out A → Out A → Type 0 where
    goes : {a : A} {s : State} (l : ℕ) → l ≡ s.left + w.extra → Follows (fine a s) (fine a (with_left s l))
    stops : {e : Ending} {n : ℕ} {s : State} (l : ℕ) → l ≡ s.left + w.extra → Follows (ended e n s) (ended e n (with_left s l))
    short : {e : Ending} {n : ℕ} {s : State} {m : Out A} → Starved e → Past s m → Follows (ended e n s) m

  -- a part run twice, from any state with fewer than b turns left
  pub record Keeps {A : Type 0} (b : ℕ) (f f' : State → Out A) : Type 0 where
    pub first : Grows w.low f
    pub second : Grows w.high f'
    pub pair : (s : State) (l : ℕ) → s.left < b → l ≡ s.left + w.extra → Follows (f s) (f' (with_left s l))

module _ {w : Wider} where
  past_then : {A B : Type 0} (s : State) (m : Out A) (g : A → State → Out B) → Past w s m → ((a : A) → Grows w.high (g a)) → Past w s (m then g)
  past_then s (ended e n t) g p grow = record { roomier = p.roomier; later = p.later; readings = p.readings; used = p.used }
  past_then s (fine a t) g p grow =
      let q = grow a t in
      record {
        roomier = p.roomier;
        later = p.later ++ q.later;
        readings = q.readings ∙ ap (λ (rs : List ℤ). rs ++ q.later) p.readings ∙ append_assoc s.readings p.later q.later;
        used = go p.used q.turns q.depth;
      }
    where
      go : (t.left < w.extra) ⊎ ((w.low < t.deepest) ⊎ ⊥) → (final (g a t)).left ≤ t.left → t.deepest ≤ (final (g a t)).deepest
          → ((final (g a t)).left < w.extra) ⊎ ((w.low < (final (g a t)).deepest) ⊎ Short (g a t))
      go (inl h) a b = inl (omega arith)
      go (inr (inl h)) a b = inr (inl (omega arith))
      go (inr (inr h)) a b = absurd h

  pub follows_then : {A B : Type 0} (b : ℕ) (m m' : Out A) (g g' : A → State → Out B) → Follows w m m' → (final m).left < b
      → ((a : A) (s : State) (l : ℕ) → s.left < b → l ≡ s.left + w.extra → Follows w (g a s) (g' a (with_left s l)))
      → ((a : A) → Grows w.high (g' a)) → Follows w (m then g) (m' then g')
  follows_then b m m' g g' (goes {a = a} {s = s} l e) lt pairs grow = pairs a s l lt e
  follows_then b m m' g g' (stops l e) lt pairs grow = stops l e
  follows_then b m m' g g' (short {s = s} {m = m₁} h p) lt pairs grow = short h (past_then s m₁ g' p grow)

  pub fewer : {A : Type 0} {f f' : State → Out A} (b c : ℕ) → c ≤ b → Keeps w b f f' → Keeps w c f f'
  fewer b c h p = record { first = p.first; second = p.second; pair = λ s l lt e. p.pair s l (omega arith) e }

  pub bind : {A B : Type 0} {b : ℕ} {f f' : State → Out A} {g g' : A → State → Out B} → Keeps w b f f' → ((a : A) → Keeps w b (g a) (g' a)) → Keeps w b (λ s. f s then g) (λ s. f' s then g')
  bind {b = b} {f = f} {f' = f'} {g = g} {g' = g'} p q =
      record {
        first = λ s. grows_then w.low s (f s) g (p.first s) (λ a. (q a).first);
        second = λ s. grows_then w.high s (f' s) g' (p.second s) (λ a. (q a).second);
        pair = λ s l lt e.
            let down = (p.first s).turns in
            follows_then b (f s) (f' (with_left s l)) g g' (p.pair s l lt e) (omega arith) (λ a. (q a).pair) (λ a. (q a).second);
      }

  -- a part that neither prints nor spends: its result and the globals and locals that it leaves go by those before
  pub changes : {A : Type 0} {b : ℕ} (h : List ℤ → List ℤ → A) (G L : List ℤ → List ℤ → List ℤ)
      → Keeps w b
      (λ s. fine (h s.globals s.locals) (record { globals = G s.globals s.locals; locals = L s.globals s.locals; readings = s.readings; left = s.left; deepest = s.deepest }))
      (λ s. fine (h s.globals s.locals) (record { globals = G s.globals s.locals; locals = L s.globals s.locals; readings = s.readings; left = s.left; deepest = s.deepest }))
  changes h G L =
      record {
        first = λ s. quietly (omega arith) (omega arith) (λ q. q) refl;
        second = λ s. quietly (omega arith) (omega arith) (λ q. q) refl;
        pair = λ s l lt e. goes l e;
      }

  -- a part that changes nothing
  pub reads : {A : Type 0} {b : ℕ} (h : List ℤ → List ℤ → A) → Keeps w b (λ s. fine (h s.globals s.locals) s) (λ s. fine (h s.globals s.locals) s)
  reads h = changes h (λ g l. g) (λ g l. l)

  pub gives : {A : Type 0} {b : ℕ} (a : A) → Keeps w b (fine a) (fine a)
  gives a = reads (λ g l. a)

  pub guards : {b : ℕ} (t : Bool) (e : Ending) (n : ℕ) → Keeps w b (guard t e n) (guard t e n)
  guards true e n = gives tt
  guards false e n = record { first = λ s. stay; second = λ s. stay; pair = λ s l lt q. stops l q }

  pub branches : {A : Type 0} {b : ℕ} {f f' g g' : State → Out A} (t : Bool) → Keeps w b f f' → Keeps w b g g' → Keeps w b (branch t f g) (branch t f' g')
  branches true p q = record { first = p.first; second = p.second; pair = p.pair }
  branches false p q = record { first = q.first; second = q.second; pair = q.pair }

  pub nexts : {b : ℕ} {g g' : State → Out Flow} → Keeps w b g g' → (fl : Flow) → Keeps w b (next g fl) (next g' fl)
  nexts p falls = record { first = p.first; second = p.second; pair = p.pair }
  nexts p (returns v) = gives (returns v)
  nexts p (replaces n f vs) = gives (replaces n f vs)

  follows_print : (n : ℕ) (v : ℤ) (s : State) (l : ℕ) (t : Bool) → l ≡ s.left + w.extra
      → Follows w (guard t PageFull n s then λ _ s₁. fine v (with_reading s₁ v)) (guard t PageFull n (with_left s l) then λ _ s₁. fine v (with_reading s₁ v))
  follows_print n v s l true e = goes l e
  follows_print n v s l false e = stops l e

  pub prints : {b : ℕ} (board : Means) (n : ℕ) (v : ℤ)
      → Keeps w b (λ s. guard (has_room (showing board s.readings)) PageFull n s then λ _ s₁. fine v (with_reading s₁ v))
      (λ s. guard (has_room (showing board s.readings)) PageFull n s then λ _ s₁. fine v (with_reading s₁ v))
  prints board n v =
      record {
        first = λ s. grows_print w.low n v s (has_room (showing board s.readings));
        second = λ s. grows_print w.high n v s (has_room (showing board s.readings));
        pair = λ s l lt e. follows_print n v s l (has_room (showing board s.readings)) e;
      }

  pub restores : {b : ℕ} {f f' : State → Out ℤ} → Keeps w b f f' → Keeps w b (restoring f) (restoring f')
  restores {b} {f} {f'} p =
      record {
        first = λ s. grows_restoring w.low s (f s) s.locals (p.first s);
        second = λ s. grows_restoring w.high s (f' s) s.locals (p.second s);
        pair = λ s l lt e.
            let down = (p.first s).turns in
            follows_then b (f s) (f' (with_left s l)) _ _ (p.pair s l lt e) (omega arith) (λ v t l₁ lt₁ e₁. goes l₁ e₁)
            (λ v t. grows_restoring w.high t (fine v t) s.locals stay);
      }
