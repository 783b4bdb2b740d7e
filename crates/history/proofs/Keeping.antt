-- Entries of runs under the calls' own allowances, beside the definition's history. Of runs only their laws of allowances are used.
use Rattle.std.proofs.Common.{◌≡◌, ℕ, ◌⊎◌, List, [], ◌∷◌, ◌++◌, sym, refl, ap, ◌∙◌, inl, inr, arith}
use Rattle.std.proofs.lemmas.Bool.{cases_lt}
use Rattle.meaning.specs.Run.{Record, Starved, Covers}
use Rattle.meaning.proofs.Runs.{cases_starved, free_within, free_beyond, first_part}
use Rattle.history.specs.declared.Said.TheVariants.{Answered}
use Rattle.history.specs.Calls.{Pass, Call, pass}
use Rattle.history.specs.History.{State, Entry, start, after, loaded_in, FreeRun, entry, Makes, accepts, rejects, declines, runs, clears, Told, told_end, told_more, told_off}
use Rattle.history.specs.Promises.{Enough, Within, Comes, comes_here, comes_on, run_of, Short, Apart, Parted, Keeps, entry_of, stepped, played}

-- entries that are equal part by part
pub before : {x y : Entry} {xs ys : List Entry} → x ≡ y → xs ≡ ys → x ∷ xs ≡ y ∷ ys
before p q = cc

tail_of : {x y : Entry} {xs ys : List Entry} → x ∷ xs ≡ y ∷ ys → xs ≡ ys
tail_of e = cc

head_of : {x y : Entry} {xs ys : List Entry} → x ∷ xs ≡ y ∷ ys → x ≡ y
head_of e = cc

not_nil : {x : Entry} {xs : List Entry} → x ∷ xs ≡ [] → ⊥
not_nil e = let z : ◌≡◌ {A = ℕ} 0 1 = cc in omega arith

-- an allowance covers what a record carries, or it does not
cases_covers : (t d : ℕ) (r : Record) → Covers t d r ⊎ (Covers t d r → ⊥)
cases_covers t d r =
    elim (cases_lt t r.answer.turns) [
      | inl l ↦ inr (λ c. let k = c.0 in omega arith)
      | inr l ↦ elim (cases_lt d r.answer.depth) [
        | inl m ↦ inr (λ c. let k = c.1 in omega arith)
        | inr m ↦ inl (l, m)
      ]
    ]

-- the entry of a starved run is none of a free run's
short_differs : (σ : State) (r x : Record) → Starved x.answer.ending → (Starved r.answer.ending → ⊥)
    → entry (Answered x.answer) x.readings (after σ x) ≡ entry (Answered r.answer) r.readings (after σ r) → ⊥
short_differs σ r x s free e =
    let q = ap (λ (z : Entry). z.said) e in
    let a : r.answer ≡ x.answer = cc in
    free (rw a s)

abbrev own : State → Pass → Record
own σ p = run_of σ p p.allowed.turns p.allowed.depth

is_short : (σ : State) (p : Pass) → Starved (own σ p).answer.ending → Short σ p (entry (Answered (own σ p).answer) (own σ p).readings (after σ (own σ p)))
is_short σ p s =
    record {
      answer = (own σ p).answer;
      said = refl;
      starved = s;
      readings = λ t d lt ld. first_part (loaded_in σ) σ.globals p.board p.allowed.turns p.allowed.depth t d lt ld;
    }

-- a call's step beside the definition's: they are the same, or the call is a pass that is short
data Fork {σ σ' : State} {c : Call} {h : Entry} (made : Makes σ c h σ') : Type 0 where
  same : Enough made → entry_of (stepped σ c) ≡ h → (stepped σ c).state ≡ σ' → Fork made
  short : (p : Pass) → c ≡ pass p → (Enough made → ⊥) → (entry_of (stepped σ c) ≡ h → ⊥) → Short σ p (entry_of (stepped σ c)) → Fork made

fork : {σ σ' : State} {c : Call} {h : Entry} (made : Makes σ c h σ') → Fork made
fork (accepts f) = same tt (rw f refl) (rw f refl)
fork (rejects f) = same tt (rw f refl) (rw f refl)
fork (declines f) = same tt (rw f refl) (rw f refl)
fork (runs {σ = σ} {p = p} {r = r} f free) =
    elim (cases_covers p.allowed.turns p.allowed.depth r) [
      | inl c ↦
          let q : own σ p ≡ r = free_within (loaded_in σ) σ.globals p.board r free p.allowed.turns p.allowed.depth c in
          same c (rw (f, q) refl) (rw (f, q) refl)
      | inr c ↦
          let s = free_beyond (loaded_in σ) σ.globals p.board r free p.allowed.turns p.allowed.depth c in
          short p refl c (rw f (short_differs σ r (own σ p) s free.fed)) (rw f (is_short σ p s))
    ]
fork clears = same tt refl refl

-- a pass without a free run is starved
off_short : (σ : State) (p : Pass) → ((r : Record) → FreeRun σ p r → ⊥) → Starved (own σ p).answer.ending
off_short σ p none =
    elim (cases_starved (own σ p).answer.ending) [
      | inl s ↦ s
      | inr fed ↦ absurd (none (own σ p) (record { turns = p.allowed.turns; depth = p.allowed.depth; runs = refl; fed = fed }))
    ]

equal : {σ : State} {cs : List Call} {hs : List Entry} (told : Told σ cs hs) → Within told → played σ cs ≡ hs
equal told_end w = refl
equal (told_more made rest) w =
    elim (fork made) [
      | same e h s ↦ before h (rw s (equal rest w.1))
      | short p c ne d s ↦ absurd (ne w.0)
    ]
equal (told_off f none) w = absurd w

within : {σ : State} {cs : List Call} {hs : List Entry} (told : Told σ cs hs) → played σ cs ≡ hs → Within told
within told_end e = tt
within (told_more made rest) e =
    elim (fork made) [
      | same n h s ↦ (n, within rest (rw s at (tail_of e)))
      | short p c ne d s ↦ absurd (d (head_of e))
    ]
within (told_off f none) e = absurd (not_nil e)

-- the same as `Parted`, from any state
record From (σ : State) (cs : List Call) (same rest : List Entry) : Type 0 where
  state : State
  at : Pass
  later : List Call
  said : Entry
  others : List Entry
  comes : Comes σ cs same state (pass at ∷ later)
  has : rest ≡ said ∷ others
  short : Short state at said

onward : {σ σ' : State} {c : Call} {h x : Entry} {cs : List Call} {xs es' : List Entry} → Makes σ c h σ' → h ≡ x → From σ' cs xs es' → From σ (c ∷ cs) (x ∷ xs) es'
onward made e r =
    record { state = r.state; at = r.at; later = r.later; said = r.said; others = r.others; comes = rw (sym e) (comes_on made r.comes); has = r.has; short = r.short }

parts : {σ : State} {cs : List Call} {hs : List Entry} (told : Told σ cs hs) (same hs' es' : List Entry)
    → hs ≡ same ++ hs' → played σ cs ≡ same ++ es' → Apart hs' es' → From σ cs same es'
parts told_end [] hs' es' p q a = let z : ⊥ = rw (sym p, sym q) at a in absurd z
parts told_end (x ∷ xs) hs' es' p q a = absurd (not_nil (sym p))
parts (told_more {σ = σ} {c = c} {h = h} {cs = cs} made rest) [] hs' es' p q a =
    let z : (h ≡ entry_of (stepped σ c) → ⊥) = rw (sym p, sym q) at a in
    elim (fork made) [
      | same n k s ↦ absurd (z (sym k))
      | short p e ne d s ↦
          record { state = σ; at = p; later = cs; said = entry_of (stepped σ c); others = played (stepped σ c).state cs; comes = rw e comes_here; has = sym q; short = s }
    ]
parts (told_more {h = h} made rest) (x ∷ xs) hs' es' p q a =
    let hx : h ≡ x = head_of p in
    elim (fork made) [
      | same n k s ↦ onward made hx (parts rest xs hs' es' (tail_of p) (rw s at (tail_of q)) a)
      | short p e ne d s ↦ absurd (d (head_of q ∙ sym hx))
    ]
parts (told_off {σ = σ} {p = at} {cs = cs} f none) [] hs' es' p q a =
    record {
      state = σ;
      at = at;
      later = cs;
      said = entry_of (stepped σ (pass at));
      others = played (stepped σ (pass at)).state cs;
      comes = comes_here;
      has = sym q;
      short = rw f (is_short σ at (off_short σ at none));
    }
parts (told_off f none) (x ∷ xs) hs' es' p q a = absurd (not_nil (sym p))

parted : {cs : List Call} {same rest : List Entry} → From start cs same rest → Parted cs same rest
parted f = record { state = f.state; at = f.at; later = f.later; said = f.said; others = f.others; comes = f.comes; has = f.has; short = f.short }

pub promised : (cs : List Call) (es : List Entry) → es ≡ played start cs → Keeps cs es
promised cs es e hs told =
    rw e (record { equal = equal told; within = within told; parting = λ same hs' es' p q a. parted (parts told same hs' es' p q a) })
