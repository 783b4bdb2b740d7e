use Rattle.std.proofs.Common.{◌≡◌, ◌<◌, ◌≤◌, map, length, ap, ◌∙◌, arith, rules}
use Rattle.script.proofs.SoundLaws.{script_sound}
use Rattle.scheme.specs.Scheme.{script_code}
use Rattle.draft.specs.Draft.{draft}
use Rattle.draft.proofs.DraftLaws.{length-draft}
use Rattle.draft.specs.Drafted.{code_of}
use Rattle.phrases.proofs.Steps.{drafting}
use Rattle.resolving.specs.Resolved.{cell_word, cell_mark}
use Rattle.resolving.proofs.WordLaws.{words_all, marks_all}
use Rattle.writer.specs.Program.{tree_of}
use Rattle.writer.proofs.FunctionLaws.{codes, part_end, script_knows, script_enters}
use Rattle.writer.proofs.write_code.Goals as goal

pub bounds-script-0 : goal.bounds-script-0
bounds-script-0 c = let h : 0 < length c.args.script.functions.now = (script_sound c.args.script).limited.functions.0 in search rules

pub returns-clause-placed : goal.returns-clause-placed
returns-clause-placed c =
    let P = script_code (tree_of c.args.script) in
    let starts = c.put_functions.new.starts in
    let entries = c.put_functions.new.entries in
    let e : code_of c.put_one-2.new.self ≡ draft P = grind (arith, drafting, codes) in
    let s = c.len.ensures ∙ ap length e ∙ length-draft P in
    let u : c.in_ok-start.start ≤ length c.args.words.now = search rules in
    let v : c.in_ok-start.start ≤ length c.args.marks.now = omega (arith, c.requires.marks) in
    record {
      fits = search rules;
      code = part_end c.args.words.now _ _ u ∙ c.resolve.ensures.words ∙ ap (λ X. map (cell_word starts entries (length X)) X) c.code.ensures.code
          ∙ words_all starts entries _ P e (script_knows c.args.script starts c.put_functions.ensures.starts) (script_enters c.args.script entries c.put_functions.ensures.entries);
      nodes = part_end c.args.marks.now _ _ v ∙ c.resolve.ensures.marks ∙ ap (map cell_mark) c.code.ensures.code ∙ marks_all _ P e;
    }
