-- What was laid out so far, and then the tokens that are left behind the last one.
use Rattle.std.proofs.Common.{◌≡◌, ◌++◌, drop, map}
use Rattle.std.specs.Prelude.{string_bytes}
use Rattle.delta_print.specs.Layout.{laid_out, laid_behind}
use Rattle.delta_print.proofs.layout.lay_out.Given as goal

abbrev pub invariant-loop-chunk : goal.invariant-loop-chunk
invariant-loop-chunk l =
    string_bytes l.text ++ laid_behind (map string_bytes l.names) l.before (drop l.chunk-index l.row)
    ≡ string_bytes l.fn.text ++ laid_out (map string_bytes l.names) l.row
