-- The lines so far, and then those of the declarations that are left.
use Rattle.std.proofs.Common.{◌≡◌, ◌++◌, drop, map}
use Rattle.std.specs.Prelude.{string_bytes}
use Rattle.delta_tree.specs.Tree.{declaration_of}
use Rattle.delta_print.specs.Canonical.{declaration_lines}
use Rattle.delta_print.proofs.printing.put_declarations.Given as goal

abbrev pub invariant-loop-declaration : goal.invariant-loop-declaration
invariant-loop-declaration l =
    string_bytes l.text ++ declaration_lines (map string_bytes l.names) (map declaration_of (drop l.declaration-index l.declarations))
    ≡ string_bytes l.fn.text ++ declaration_lines (map string_bytes l.names) (map declaration_of l.declarations)
