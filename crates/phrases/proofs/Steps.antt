-- What is written in front of a draft is the draft of what the scheme writes.
use Rattle.std.proofs.Common.{◌≡◌, [], ◌∷◌, refl}
use Rattle.scheme.specs.Code as S
use Rattle.draft.specs.Draft.{laid, draft}
use Rattle.draft.proofs.DraftLaws.{length-draft, draft-dead, draft-goto, draft_not, draft_cst, draft-labelled, draft-target, draft_left, draft_jump}

pub draft_cons : (i : S.Item) (C : S.Code) → draft (i ∷ C) ≡ laid i (draft C)
unfolding draft
draft_cons i C = refl

pub draft_nil : draft [] ≡ []
unfolding draft
draft_nil = refl

pub ruleset drafting = (draft_nil, draft_cons, length-draft, draft-dead, draft-goto, draft_not, draft_cst, draft-labelled, draft-target, draft_left, draft_jump)
