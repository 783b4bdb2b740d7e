-- The words and marks of a draft are those of the symbolic code.
use Rattle.std.proofs.Common.{◌≡◌, ℕ, ◌+◌, ◌-◌, ◌<◌, ◌≤◌, List, [], ◌∷◌, ◌++◌, map, length, get_or, take, set, ℤ, pos, negsuc, sym, refl, ap, ◌∙◌}
use Rattle.std.proofs.lemmas.List.{take_more_set, map_more, take_all}
use Rattle.answer.specs.Numbers.{no_place}
use Rattle.scheme.specs.Code as S
use Rattle.scheme.specs.Written as M
use Rattle.draft.specs.Cells.{flagged}
use Rattle.draft.specs.Operations.{place_mark}
use Rattle.draft.specs.Draft.{place_of, draft}
use Rattle.draft.specs.declared.cells.Cell.{Cell}
use Rattle.draft.proofs.DraftLaws.{length-draft}
use Rattle.resolving.specs.Resolved.{length_to, cell_word, cell_mark}

-- a loop that writes f of each element of xs into ys
pub map_set_more : {X Y : Type 0} (f : X → Y) (xs : List X) (ys : List Y) (i : ℕ) (d : X) (v : Y) → i < length xs → i < length ys → v ≡ f (get_or xs i d) → take i ys ≡ map f (take i xs) → take (i + 1) (set ys i v) ≡ map f (take (i + 1) xs)
map_set_more f xs ys i d v h k e t = take_more_set ys i v k ∙ ap (λ zs. zs ++ v ∷ []) t ∙ ap (λ z. map f (take i xs) ++ z ∷ []) e ∙ sym (map_more f xs i d h)

pub map_set_all : {X Y : Type 0} (f : X → Y) (xs : List X) (ys : List Y) (i : ℕ) → length xs ≤ i → length ys ≤ i → take i ys ≡ map f (take i xs) → ys ≡ map f xs
map_set_all f xs ys i h k t = sym (take_all i ys k) ∙ t ∙ ap (map f) (take_all i xs h)

pub ruleset written = (map_set_more, map_set_all)

module _ (starts entries : List ℕ) (whole : ℕ) where
  abbrev loops : ℕ → ℕ
  loops w = get_or starts w 0

  abbrev functions : ℕ → ℕ
  functions f = get_or entries f 0

  flagged-words : (D : List Cell) → map (cell_word starts entries whole) (flagged D) ≡ map (cell_word starts entries whole) D
  flagged-words [] = refl
  flagged-words (c ∷ D) = refl

  place_is : (t : S.Target) → pos (whole - length_to starts (place_of t)) ≡ M.position loops functions whole t
  place_is (S.behind n) = refl
  place_is (S.loop w) = refl

  abbrev words : S.Code → List ℤ
  words C = M.code_words loops functions whole C

  words-draft : (C : S.Code) → map (cell_word starts entries whole) (draft C) ≡ words C
  unfolding draft
  words-draft [] = refl
  words-draft (S.csti i m ∷ C) = ap (λ X. pos 0 ∷ (i ∷ X)) (words-draft C)
  words-draft (S.plain p m ∷ C) = ap (λ X. pos (M.number (M.instruction p)) ∷ X) (words-draft C)
  words-draft (S.pop m ∷ C) = ap (λ X. pos 15 ∷ (negsuc 0 ∷ X)) (words-draft C)
  words-draft (S.goto t m ∷ C) = ap (λ X. pos 16 ∷ (pos (whole - length_to starts (place_of t)) ∷ X)) (words-draft C) ∙ ap (λ x. pos 16 ∷ (x ∷ words C)) (place_is t)
  words-draft (S.ifzero t m ∷ C) = ap (λ X. pos 17 ∷ (pos (whole - length_to starts (place_of t)) ∷ X)) (words-draft C) ∙ ap (λ x. pos 17 ∷ (x ∷ words C)) (place_is t)
  words-draft (S.ifnzro t m ∷ C) = ap (λ X. pos 18 ∷ (pos (whole - length_to starts (place_of t)) ∷ X)) (words-draft C) ∙ ap (λ x. pos 18 ∷ (x ∷ words C)) (place_is t)
  words-draft (S.call k f m ∷ C) = ap (λ X. pos 19 ∷ (pos k ∷ (pos (whole - functions f) ∷ X))) (words-draft C)
  words-draft (S.tcall k l f m ∷ C) = ap (λ X. pos 20 ∷ (pos k ∷ (pos l ∷ (pos (whole - functions f) ∷ X)))) (words-draft C)
  words-draft (S.ret k m ∷ C) = ap (λ X. pos 21 ∷ (pos k ∷ X)) (words-draft C)
  words-draft (S.ldargs ∷ C) = ap (λ X. pos 24 ∷ X) (words-draft C)
  words-draft (S.stop ∷ C) = ap (λ X. pos 25 ∷ X) (words-draft C)
  words-draft (S.label ∷ C) = flagged-words (draft C) ∙ words-draft C
  words-draft (S.loop_at w ∷ C) = flagged-words (draft C) ∙ words-draft C
  words-draft (S.entry f ∷ C) = flagged-words (draft C) ∙ words-draft C

flagged_marks : (D : List Cell) → map cell_mark (flagged D) ≡ map cell_mark D
flagged_marks [] = refl
flagged_marks (c ∷ D) = refl

mark_is : (t : S.Target) (m : ℕ) → place_mark (place_of t) m ≡ M.jump_mark t m
mark_is (S.behind n) m = refl
mark_is (S.loop w) m = refl

marks_draft : (C : S.Code) → map cell_mark (draft C) ≡ M.code_marks C
unfolding draft
marks_draft [] = refl
marks_draft (S.csti i m ∷ C) = ap (λ X. m ∷ (m ∷ X)) (marks_draft C)
marks_draft (S.plain p m ∷ C) = ap (λ X. m ∷ X) (marks_draft C)
marks_draft (S.pop m ∷ C) = ap (λ X. m ∷ (m ∷ X)) (marks_draft C)
marks_draft (S.goto t m ∷ C) = ap (λ X. place_mark (place_of t) m ∷ (place_mark (place_of t) m ∷ X)) (marks_draft C) ∙ ap (λ x. x ∷ (x ∷ M.code_marks C)) (mark_is t m)
marks_draft (S.ifzero t m ∷ C) = ap (λ X. place_mark (place_of t) m ∷ (place_mark (place_of t) m ∷ X)) (marks_draft C) ∙ ap (λ x. x ∷ (x ∷ M.code_marks C)) (mark_is t m)
marks_draft (S.ifnzro t m ∷ C) = ap (λ X. place_mark (place_of t) m ∷ (place_mark (place_of t) m ∷ X)) (marks_draft C) ∙ ap (λ x. x ∷ (x ∷ M.code_marks C)) (mark_is t m)
marks_draft (S.call k f m ∷ C) = ap (λ X. m ∷ (m ∷ (m ∷ X))) (marks_draft C)
marks_draft (S.tcall k l f m ∷ C) = ap (λ X. m ∷ (m ∷ (m ∷ (m ∷ X)))) (marks_draft C)
marks_draft (S.ret k m ∷ C) = ap (λ X. m ∷ (m ∷ X)) (marks_draft C)
marks_draft (S.ldargs ∷ C) = ap (λ X. no_place ∷ X) (marks_draft C)
marks_draft (S.stop ∷ C) = ap (λ X. no_place ∷ X) (marks_draft C)
marks_draft (S.label ∷ C) = flagged_marks (draft C) ∙ marks_draft C
marks_draft (S.loop_at w ∷ C) = flagged_marks (draft C) ∙ marks_draft C
marks_draft (S.entry f ∷ C) = flagged_marks (draft C) ∙ marks_draft C

-- only what the two tables say matters
module _ (l l' e e' : ℕ → ℕ) (whole : ℕ) (loops : (w : ℕ) → l w ≡ l' w) (entries : (f : ℕ) → e f ≡ e' f) where
  same_place : (t : S.Target) → M.position l e whole t ≡ M.position l' e' whole t
  same_place (S.behind n) = refl
  same_place (S.loop w) = ap (λ x. pos (whole - x)) (loops w)

  same_item : (i : S.Item) → M.item_words l e whole i ≡ M.item_words l' e' whole i
  same_item (S.csti i m) = refl
  same_item (S.plain p m) = refl
  same_item (S.pop m) = refl
  same_item (S.goto t m) = ap (λ x. pos 16 ∷ (x ∷ [])) (same_place t)
  same_item (S.ifzero t m) = ap (λ x. pos 17 ∷ (x ∷ [])) (same_place t)
  same_item (S.ifnzro t m) = ap (λ x. pos 18 ∷ (x ∷ [])) (same_place t)
  same_item (S.call k f m) = ap (λ x. pos 19 ∷ (pos k ∷ (pos (whole - x) ∷ []))) (entries f)
  same_item (S.tcall k n f m) = ap (λ x. pos 20 ∷ (pos k ∷ (pos n ∷ (pos (whole - x) ∷ [])))) (entries f)
  same_item (S.ret k m) = refl
  same_item S.ldargs = refl
  same_item S.stop = refl
  same_item S.label = refl
  same_item (S.loop_at w) = refl
  same_item (S.entry f) = refl

  same-words : (C : S.Code) → M.code_words l e whole C ≡ M.code_words l' e' whole C
  same-words [] = refl
  same-words (i ∷ C) = ap (λ x. x ++ M.code_words l e whole C) (same_item i) ∙ ap (λ X. M.item_words l' e' whole i ++ X) (same-words C)

-- the finished code
pub words_all : (starts entries : List ℕ) (D : List Cell) (P : S.Code) → D ≡ draft P → ((w : ℕ) → get_or starts w 0 ≡ M.loop_end P w) → ((f : ℕ) → get_or entries f 0 ≡ M.entry_end P f) → map (cell_word starts entries (length D)) D ≡ M.whole_words P
words_all starts entries D P h k l =
    ap (λ X. map (cell_word starts entries (length X)) X) h
    ∙ ap (λ n. map (cell_word starts entries n) (draft P)) (length-draft P)
    ∙ words-draft starts entries (S.size P) P
    ∙ same-words (λ w. get_or starts w 0) (M.loop_end P) (λ f. get_or entries f 0) (M.entry_end P) (S.size P) k l P

pub marks_all : (D : List Cell) (P : S.Code) → D ≡ draft P → map cell_mark D ≡ M.code_marks P
marks_all D P h = ap (map cell_mark) h ∙ marks_draft P
