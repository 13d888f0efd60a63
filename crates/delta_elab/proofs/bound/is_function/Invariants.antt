-- The function is declared where one of the declarations left declares it.
use Rattle.std.proofs.Common.{◌≡◌, drop, map}
use Rattle.delta_tree.specs.Tree.{declaration_of}
use Rattle.delta_elab.specs.Bounds.{is_declared}
use Rattle.delta_elab.proofs.bound.is_function.Given as goal

abbrev pub invariant-loop-decl : goal.invariant-loop-decl
invariant-loop-decl l =
    is_declared (map declaration_of l.decls) l.f.0 ≡ is_declared (map declaration_of (drop l.decl-index l.decls)) l.f.0
