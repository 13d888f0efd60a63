use Rattle.std.proofs.Common.{◌≡◌, map, Option, Result, Ok, Err, IfOk, IfNone}
use Rattle.std.specs.Result.{result_err}
use Rattle.delta_tree.specs.Tree.{declaration_of, function_of}
use Rattle.delta_parse.specs.Terminals.{plains}
use Rattle.delta_parse.proofs.Firsts.{begins_whole}
use Rattle.delta_parse.proofs.checked_reader.stop_of.Goals as goal

-- where there is no error there is a value
none_left : {X E : Type 0} (B : Type 0) (P : X → Type 0) (r : Result X E) (o : Option E) → o ≡ result_err r → ((x : X) → P x → B) → IfOk r P → IfNone o B
none_left B P (Ok x) o e f h = rw e (f x h)
none_left B P (Err y) o e f h = rw e tt

pub returns-clause-none : goal.returns-clause-none
returns-clause-none c =
    none_left _ _ c.read_whole.result c.err.result c.err.ensures.value (λ x p. begins_whole (plains c.args.tokens.now) (map declaration_of x.0.items) (function_of x.1) p) c.read_whole.ensures.found
