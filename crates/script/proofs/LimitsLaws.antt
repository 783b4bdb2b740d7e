-- What tables within their limits can be relied on for.
use Rattle.std.proofs.Common.{◌≡◌, ℕ, ◌<◌, ◌≤◌, true, ◌&&◌, ltb, leb, List, length, get_or}
use Rattle.std.proofs.lemmas.Bool.{and_parts, leb-true, ltb-true}
use Rattle.script.specs.declared.Function.{Function}
use Rattle.script.specs.declared.Node.{Node}
use Rattle.script.specs.Limits.{max_functions, max_globals, max_words, max_nodes, max_parameters, max_locals, counts, every, locals_of, function_fits, functions_fit, global_fits, globals_fit, counts_fit, within_limits}
use Rattle.script.specs.Scope.{no_function, function_at}
use Rattle.script.specs.Sound.{Limited}
use Rattle.script.proofs.EveryLaws.{every_at}

module _ (fs : List Function) (gs : List ℕ) (xs : List Node) (within : within_limits fs gs xs ≡ true) where
  counts_fit_lem : counts_fit (length fs) (length gs) (length xs) ≡ true
  unfolding within_limits
  counts_fit_lem = (and_parts (counts_fit (length fs) (length gs) (length xs)) _ within).0

  tables_fit : (functions_fit fs (length xs) && globals_fit gs) ≡ true
  unfolding within_limits
  tables_fit = (and_parts (counts_fit (length fs) (length gs) (length xs)) _ within).1

  functions_count : counts (length fs) max_functions ≡ true
  functions_count = (and_parts (counts (length fs) max_functions) _ counts_fit_lem).0

  others_count : (leb (length gs) max_globals && counts (length xs) max_nodes) ≡ true
  others_count = (and_parts (counts (length fs) max_functions) _ counts_fit_lem).1

  nodes_count : counts (length xs) max_nodes ≡ true
  nodes_count = (and_parts (leb (length gs) max_globals) _ others_count).1

  globals_fit_lem : globals_fit gs ≡ true
  globals_fit_lem = (and_parts (functions_fit fs (length xs)) _ tables_fit).1

  function_fits_lem : (f : ℕ) → f < length fs → function_fits (length xs) (function_at fs f) ≡ true
  function_fits_lem f h = every_at (function_fits (length xs)) fs (and_parts (functions_fit fs (length xs)) _ tables_fit).0 f no_function h

  frame_fits : (f : ℕ) → f < length fs → (leb (locals_of (function_at fs f)) max_locals && ltb (function_at fs f).body (length xs)) ≡ true
  frame_fits f h = (and_parts (leb (function_at fs f).parameters max_parameters) _ (function_fits_lem f h)).1

  global-fits : (g : ℕ) → g < length gs → counts (get_or gs g 0) max_words ≡ true
  global-fits g h = every_at global_fits gs (and_parts (every global_fits gs) _ globals_fit_lem).0 g 0 h

  counted : (n most : ℕ) → counts n most ≡ true → (0 < n) × (n ≤ most)
  counted n most e = let p = and_parts (ltb 0 n) _ e in (ltb-true 0 n p.0, leb-true n most p.1)

  pub limited : Limited fs gs xs
  limited = record {
    functions = counted (length fs) max_functions functions_count;
    globals = leb-true _ _ (and_parts (leb (length gs) max_globals) _ others_count).0;
    nodes = counted (length xs) max_nodes nodes_count;
    words = leb-true _ _ (and_parts (every global_fits gs) _ globals_fit_lem).1;
    global = λ g h. counted (get_or gs g 0) max_words (global-fits g h);
    parameters = λ f h. leb-true _ _ (and_parts (leb (function_at fs f).parameters max_parameters) _ (function_fits_lem f h)).0;
    locals = λ f h. leb-true _ _ (and_parts (leb (locals_of (function_at fs f)) max_locals) _ (frame_fits f h)).0;
    body = λ f h. ltb-true _ _ (and_parts (leb (locals_of (function_at fs f)) max_locals) _ (frame_fits f h)).1;
  }
