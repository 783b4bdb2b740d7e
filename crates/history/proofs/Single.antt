-- A list of calls has one history.
use Rattle.std.proofs.Common.{◌≡◌, ℕ, List, [], ◌∷◌, Some, None, Option, refl, arith}
use Rattle.answer.specs.declared.Refusal.{Refusal}
use Rattle.meaning.specs.Run.{Record}
use Rattle.meaning.proofs.Runs.{free_once}
use Rattle.history.specs.Calls.{Tables, Pass, Call, load, pass, clear, load_refusal}
use Rattle.history.specs.History.{State, Entry, start, refusal, loaded_in, FreeRun, Makes, accepts, rejects, declines, runs, clears, Told, told_end, told_more, told_off}
use Rattle.history.specs.Promises.{OneHistory}
use Rattle.history.proofs.Keeping.{before}

clash : (o : Option Refusal) (why : Refusal) → o ≡ None → o ≡ Some why → ⊥
clash o why p q = let z : ◌≡◌ {A = ℕ} 0 1 = cc in omega arith

same-refusal : (o : Option Refusal) (why why' : Refusal) → o ≡ Some why → o ≡ Some why' → why ≡ why'
same-refusal o why why' p q = cc

one_step : {σ σ' σ'' : State} {c : Call} {h h' : Entry} → Makes σ c h σ' → Makes σ c h' σ'' → (h ≡ h') × (σ' ≡ σ'')
one_step (accepts f) (accepts g) = (refl, refl)
one_step (accepts f) (rejects g) = absurd (clash _ _ f g)
one_step (rejects f) (accepts g) = absurd (clash _ _ g f)
one_step (rejects f) (rejects g) = (rw (same-refusal _ _ _ f g) refl, refl)
one_step (declines f) (declines g) = (rw (same-refusal _ _ _ f g) refl, refl)
one_step (declines f) (runs g b) = absurd (clash _ _ g f)
one_step (runs f a) (declines g) = absurd (clash _ _ f g)
one_step (runs {σ = σ} {p = p} {r = r} f a) (runs {r = r'} g b) =
    let q = free_once (loaded_in σ) σ.globals p.board r' r b a in
    (rw q refl, rw q refl)
one_step clears clears = (refl, refl)

unique : {σ : State} {cs : List Call} {hs hs' : List Entry} → Told σ cs hs → Told σ cs hs' → hs ≡ hs'
unique told_end told_end = refl
unique (told_more a x) (told_more b y) = let q = one_step a b in before q.0 (unique x (rw q.1 y))
unique (told_more (declines f) x) (told_off g none) = absurd (clash _ _ g f)
unique (told_more (runs {r = r} f a) x) (told_off g none) = absurd (none r a)
unique (told_off g none) (told_more (declines f) x) = absurd (clash _ _ g f)
unique (told_off g none) (told_more (runs {r = r} f a) x) = absurd (none r a)
unique (told_off f none) (told_off g none') = refl

some_load : (σ : State) (t : Tables) (o : Option Refusal) → load_refusal t ≡ o → ((h : Entry) (σ' : State) → Makes σ (load t) h σ' → ⊥) → ⊥
some_load σ t None e never = never _ _ (accepts e)
some_load σ t (Some why) e never = never _ _ (rejects e)

-- a pass makes a step, or has no free run
some_pass : (σ : State) (p : Pass) (o : Option Refusal) → refusal σ p ≡ o
    → ((h : Entry) (σ' : State) → Makes σ (pass p) h σ' → ⊥) → (refusal σ p ≡ None → ((r : Record) → FreeRun σ p r → ⊥) → ⊥) → ⊥
some_pass σ p None e never off = off e (λ r a. never _ _ (runs e a))
some_pass σ p (Some why) e never off = never _ _ (declines e)

exists : (σ : State) (cs : List Call) → ((hs : List Entry) → Told σ cs hs → ⊥) → ⊥
exists σ [] never = never [] told_end
exists σ (load t ∷ cs) never = some_load σ t (load_refusal t) refl (λ h σ' made. exists σ' cs (λ hs told. never (h ∷ hs) (told_more made told)))
exists σ (pass p ∷ cs) never =
    some_pass σ p (refusal σ p) refl (λ h σ' made. exists σ' cs (λ hs told. never (h ∷ hs) (told_more made told))) (λ e none. never [] (told_off e none))
exists σ (clear ∷ cs) never = exists _ cs (λ hs told. never (_ ∷ hs) (told_more clears told))

pub once : (cs : List Call) → OneHistory cs
once cs = (exists start cs, λ hs hs' a b. unique a b)
