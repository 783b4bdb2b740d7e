-- Parts of a run that keep the number of globals, and how they are put together.
use Rattle.std.proofs.Common.{◌≡◌, ℕ, suc, ◌-◌, Bool, true, false, ltb, length, ℤ, refl, ◌∙◌}
use Rattle.answer.specs.declared.Ending.{Ending}
use Rattle.answer.specs.declared.Ending.TheVariants.{NoTurnLeft, TooDeep}
use Rattle.meaning.specs.Steps.{State, Out, fine, ended, ◌then◌, guard, branch, spend, descend, restoring, Flow, falls, returns, replaces, next, with_locals, with_left, with_depth}
use Rattle.meaning.proofs.Onward.{final}

pub record Stays {A : Type 0} (f : State → Out A) : Type 0 where
  pub stays : (s : State) → length (final (f s)).globals ≡ length s.globals

stays_then : {A B : Type 0} (s : State) (m : Out A) (g : A → State → Out B) → length (final m).globals ≡ length s.globals → ((a : A) → Stays (g a)) → length (final (m then g)).globals ≡ length s.globals
stays_then s (fine a t) g h p = (p a).stays t ∙ h
stays_then s (ended e n t) g h p = h

pub bind : {A B : Type 0} {f : State → Out A} {g : A → State → Out B} → Stays f → ((a : A) → Stays (g a)) → Stays (λ s. f s then g)
bind {f = f} {g = g} p q = record { stays = λ s. stays_then s (f s) g (p.stays s) q }

pub changes : {A : Type 0} (h : State → A) (to : State → State) → ((s : State) → length (to s).globals ≡ length s.globals) → Stays (λ s. fine (h s) (to s))
changes h to e = record { stays = e }

pub reads : {A : Type 0} (h : State → A) → Stays (λ s. fine (h s) s)
reads h = changes h (λ s. s) (λ s. refl)

pub gives : {A : Type 0} (a : A) → Stays (fine a)
gives a = reads (λ s. a)

pub ends : {A : Type 0} (e : Ending) (n : ℕ) → Stays {A = A} (λ s. ended e n s)
ends e n = record { stays = λ s. refl }

-- a test that may look at the state
pub guards : (t : State → Bool) (e : Ending) (n : ℕ) → Stays (λ s. guard (t s) e n s)
guards t e n = record { stays = λ s. go (t s) s }
  where
    go : (b : Bool) (s : State) → length (final (guard b e n s)).globals ≡ length s.globals
    go true s = refl
    go false s = refl

pub branches : {A : Type 0} {f g : State → Out A} (t : Bool) → Stays f → Stays g → Stays (branch t f g)
branches true p q = record { stays = p.stays }
branches false p q = record { stays = q.stays }

pub nexts : {g : State → Out Flow} → Stays g → (fl : Flow) → Stays (next g fl)
nexts p falls = record { stays = p.stays }
nexts p (returns v) = gives (returns v)
nexts p (replaces n f vs) = gives (replaces n f vs)

pub restores : {f : State → Out ℤ} → Stays f → Stays (restoring f)
restores {f = f} p = record { stays = λ s. stays_then s (f s) _ (p.stays s) (λ v. changes (λ t. v) (λ t. with_locals t s.locals) (λ t. refl)) }

pub spends : {A : Type 0} (n : ℕ) {g : State → Out A} → Stays g → Stays (λ s. spend n s then λ _ s₁. g s₁)
spends n p =
    bind (bind (guards (λ s. ltb 0 s.left) NoTurnLeft n) λ _. changes (λ s. tt {0}) (λ s. with_left s (s.left - 1)) (λ s. refl)) λ _. p

pub descends : {A : Type 0} (limit d n : ℕ) {g : State → Out A} → Stays g → Stays (λ s. descend limit d n s then λ _ s₁. g s₁)
descends limit d n p =
    bind
    (bind (guards (λ s. ltb 0 s.left) NoTurnLeft n) λ _. bind (guards (λ s. ltb d limit) TooDeep n) λ _.
    changes (λ s. tt {0}) (λ s. with_depth (with_left s (s.left - 1)) (suc d)) (λ s. refl))
    λ _. p
