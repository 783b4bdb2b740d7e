use Rattle.std.proofs.Common.{◌<◌, vec_items, arith, rules}
use Rattle.std.proofs.lemmas.List.{take_more_set, length-take, length-set, drop-set-lt}
use Rattle.sheet.proofs.SheetBoard.print.Goals as goal

pub returns-then-self-len : goal.returns-then-self-len
returns-then-self-len c = search (rules, length-take)

pub returns : goal.returns
returns c =
    record {
      taken = search rules;
      after = search (rules, take_more_set);
      lent = search rules;
      beside = λ k h.
          let l = simp (length-take, length-set) at h in
          let past : c.args.self.now.used < k = omega arith in
          drop-set-lt k (vec_items c.args.self.now.page) c.args.self.now.used _ past;
    }
