-- The laws of runs: what a run under one allowance says of the run under another.
use Rattle.std.proofs.Common.{◌≡◌, ℕ, ◌+◌, ◌-◌, ◌<◌, ◌≤◌, max, ◌⊎◌, List, [], ◌++◌, ℤ, pos, sym, refl, ap, ◌∙◌, inl, inr, append-nil, arith}
use Rattle.answer.specs.Numbers.{ending_number, no_place}
use Rattle.answer.specs.declared.Ending.{Ending}
use Rattle.answer.specs.declared.Ending.TheVariants.{Finished, DivisorZero, IndexOutside, PageFull, NoTurnLeft, TooDeep, UnknownInstruction, OutsideCode, StackFull, TooFewWords, NoCaller, NegativeCount}
use Rattle.board.specs.Meaning.{Means}
use Rattle.meaning.specs.Tree.{Script}
use Rattle.meaning.specs.Steps.{State, Out, fine, ended}
use Rattle.meaning.specs.Run.{Record, recorded, record_of, starting, outcome, run, Starved, Free, Covers}
use Rattle.meaning.proofs.Onward.{final, Short, Onward}
use Rattle.meaning.proofs.Follows.{Wider, Past, Follows, goes, stops, short}
use Rattle.meaning.proofs.Paying.{descends}
use Rattle.meaning.proofs.Twice.{body_twice}

-- an ending with another number than these two is not starved
others : (e : Ending) → (ending_number e < 4) ⊎ (5 < ending_number e) → Starved e → ⊥
others e far (inl h) = let n = ap ending_number h in omega arith
others e far (inr h) = let n = ap ending_number h in omega arith

pub cases_starved : (e : Ending) → Starved e ⊎ (Starved e → ⊥)
cases_starved Finished = inr (others Finished (inl (omega arith)))
cases_starved DivisorZero = inr (others DivisorZero (inl (omega arith)))
cases_starved IndexOutside = inr (others IndexOutside (inl (omega arith)))
cases_starved PageFull = inr (others PageFull (inl (omega arith)))
cases_starved NoTurnLeft = inl (inl refl)
cases_starved TooDeep = inl (inr refl)
cases_starved UnknownInstruction = inr (others UnknownInstruction (inr (omega arith)))
cases_starved OutsideCode = inr (others OutsideCode (inr (omega arith)))
cases_starved StackFull = inr (others StackFull (inr (omega arith)))
cases_starved TooFewWords = inr (others TooFewWords (inr (omega arith)))
cases_starved NoCaller = inr (others NoCaller (inr (omega arith)))
cases_starved NegativeCount = inr (others NegativeCount (inr (omega arith)))

-- the record of what a part comes to
turns_of : (t : ℕ) (m : Out ℤ) → (record_of t m).answer.turns ≡ t - (final m).left
turns_of t (fine v s) = refl
turns_of t (ended e n s) = refl

depth_of : (t : ℕ) (m : Out ℤ) → (record_of t m).answer.depth ≡ (final m).deepest
depth_of t (fine v s) = refl
depth_of t (ended e n s) = refl

readings_of_lem : (t : ℕ) (m : Out ℤ) → (record_of t m).readings ≡ (final m).readings
readings_of_lem t (fine v s) = refl
readings_of_lem t (ended e n s) = refl

pub short_of : (t : ℕ) (m : Out ℤ) → Short m → Starved (record_of t m).answer.ending
short_of t (fine v s) h = absurd h
short_of t (ended e n s) h = h

module _ (script : Script) (globals : List ℤ) (board : Means) where
  abbrev wider : (t d t' d' : ℕ) → d ≤ d' → Wider
  wider t d t' d' le = record { extra = t' - t; low = d; high = d'; up = le }

  outcome_twice : (t d t' d' : ℕ) → t ≤ t' → (le : d ≤ d') → Follows (wider t d t' d' le) (outcome script globals board t d) (outcome script globals board t' d')
  unfolding outcome
  outcome_twice t d t' d' more le =
      (descends t no_place (body_twice script board (wider t d t' d' le) t t' (omega arith) 1 0 board.inputs) 0).pair (starting globals board t) t' (omega arith) (omega arith)

  outcome_onward : (t d : ℕ) → Onward d (starting globals board t) (final (outcome script globals board t d))
  unfolding outcome
  outcome_onward t d = (descends t no_place (body_twice script board (wider t d t d (omega arith)) t t (omega arith) 1 0 board.inputs) 0).first (starting globals board t)

  -- the same record, or the first is starved and the second has gone past it
  abbrev Beside : (t d t' d' : ℕ) → d ≤ d' → Type 0
  Beside t d t' d' le =
      (run script globals board t d ≡ run script globals board t' d')
      ⊎ (Starved (run script globals board t d).answer.ending × (s : State) × (s.readings ≡ (run script globals board t d).readings) × Past (wider t d t' d' le) s (outcome script globals board t' d'))

  spent : (t t' l l' : ℕ) → t ≤ t' → l' ≡ l + (t' - t) → t - l ≡ t' - l'
  spent t t' l l' more e = omega arith

  beside : (t d t' d' : ℕ) → t ≤ t' → (le : d ≤ d') → Beside t d t' d' le
  beside t d t' d' more le = go (outcome script globals board t d) (outcome script globals board t' d') (outcome_twice t d t' d' more le)
    where
      go : (m m' : Out ℤ) → Follows (wider t d t' d' le) m m'
          → (record_of t m ≡ record_of t' m') ⊎ (Starved (record_of t m).answer.ending × (s : State) × (s.readings ≡ (record_of t m).readings) × Past (wider t d t' d' le) s m')
      go m m' (goes {a = v} {s = s} l e) = inl (ap (λ (x : ℕ). recorded x Finished no_place v s) (spent t t' s.left l more e))
      go m m' (stops {e = c} {n = n} {s = s} l e) = inl (ap (λ (x : ℕ). recorded x c n (pos 0) s) (spent t t' s.left l more e))
      go m m' (short {s = s} h p) = inr (h, s, refl, p)

  -- a run that is not starved is the same under every larger allowance
  upwards : (t d t' d' : ℕ) → t ≤ t' → d ≤ d' → (Starved (run script globals board t d).answer.ending → ⊥) → run script globals board t d ≡ run script globals board t' d'
  upwards t d t' d' more le fed = go (beside t d t' d' more le)
    where
      go : Beside t d t' d' le → run script globals board t d ≡ run script globals board t' d'
      go (inl same) = same
      go (inr p) = absurd (fed p.0)

  -- a run that is not starved is the same under every smaller allowance that covers it
  downwards : (t d t' d' : ℕ) → t ≤ t' → d ≤ d' → (Starved (run script globals board t' d').answer.ending → ⊥) → Covers t d (run script globals board t' d') → run script globals board t d ≡ run script globals board t' d'
  downwards t d t' d' more le fed covers = go (beside t d t' d' more le)
    where
      m' : Out ℤ
      m' = outcome script globals board t' d'

      clash : ((final m').left < t' - t) ⊎ ((d < (final m').deepest) ⊎ Short m') → ⊥
      clash (inl u) = let a = turns_of t' m' in let c = covers.0 in omega arith
      clash (inr (inl u)) = let a = depth_of t' m' in let c = covers.1 in omega arith
      clash (inr (inr u)) = fed (short_of t' m' u)

      go : Beside t d t' d' le → run script globals board t d ≡ run script globals board t' d'
      go (inl same) = same
      go (inr p) = absurd (clash p.3.used)

  pub allowed : (t d : ℕ) → Covers t d (run script globals board t d)
  allowed t d =
      let m = outcome script globals board t d in
      let a = turns_of t m in
      let b = depth_of t m in
      let c = (outcome_onward t d).allowed (omega arith) in
      (omega arith, omega arith)

  -- a free run is the run under every allowance above the one that shows it
  raised : (r : Record) (free : Free script globals board r) (t d : ℕ) → free.turns ≤ t → free.depth ≤ d → run script globals board t d ≡ r
  raised r free t d more le = sym (upwards free.turns free.depth t d more le (λ h. free.fed (rw free.runs at h))) ∙ free.runs

  pub free_once : (r r' : Record) → Free script globals board r → Free script globals board r' → r' ≡ r
  free_once r r' free free' =
      let t = max free.turns free'.turns in
      let d = max free.depth free'.depth in
      sym (raised r' free' t d (omega arith) (omega arith)) ∙ raised r free t d (omega arith) (omega arith)

  pub free_within : (r : Record) → Free script globals board r → (t d : ℕ) → Covers t d r → run script globals board t d ≡ r
  free_within r free t d covers =
      let t₁ = max free.turns t in
      let d₁ = max free.depth d in
      let same = raised r free t₁ d₁ (omega arith) (omega arith) in
      downwards t d t₁ d₁ (omega arith) (omega arith) (λ h. free.fed (rw same at h)) (rw (← same) at covers) ∙ same

  pub free_beyond : (r : Record) → Free script globals board r → (t d : ℕ) → (Covers t d r → ⊥) → Starved (run script globals board t d).answer.ending
  free_beyond r free t d less =
      elim (cases_starved (run script globals board t d).answer.ending) [
        | inl h ↦ h
        | inr fed ↦ absurd (less (rw (free_once r (run script globals board t d) free (record { turns = t; depth = d; runs = refl; fed = fed })) at (allowed t d)))
      ]

  pub first_part : (t d t' d' : ℕ) → t ≤ t' → d ≤ d' → (later : List ℤ) × ((run script globals board t' d').readings ≡ (run script globals board t d).readings ++ later)
  first_part t d t' d' more le = go (beside t d t' d' more le)
    where
      go : Beside t d t' d' le → (later : List ℤ) × ((run script globals board t' d').readings ≡ (run script globals board t d).readings ++ later)
      go (inl same) = ([], sym (ap (λ (r : Record). r.readings) same) ∙ sym (append-nil (run script globals board t d).readings))
      go (inr p) = let q = p.3 in (q.later, readings_of_lem t' (outcome script globals board t' d') ∙ q.readings ∙ ap (λ (rs : List ℤ). rs ++ q.later) p.2)
