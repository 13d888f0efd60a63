-- The core of a program from its parts.
use Rattle.std.proofs.Common.{map, refl, string_bytes}
use Rattle.delta_tree.specs.Tree.{program_of}
use Rattle.core_term.specs.CoreTerm.{core_body_of}
use Rattle.delta_meaning.specs.SourceBody.{main_of}
use Rattle.delta_elab.specs.Numbering.{origins_of}
use Rattle.delta_elab.specs.Sources.{sources_of}
use Rattle.delta_elab.proofs.Whole.{core-made}
use Rattle.delta_elab.proofs.elaborating.core_of_program.Goals as goal

pub returns-clause-core : goal.returns-clause-core
returns-clause-core c =
    let p = program_of c.args.p.now in
    let bs = sources_of c.in_ok-functions.functions.items in
    rw (c.in_ok-new.ensures.ok, c.into_inner.ensures) (core-made p bs (main_of p) (origins_of c.bodies.new.origins.items) (origins_of c.main_body.new.origins.items)
    (map core_body_of c.in_ok-funs.funs.items) (core_body_of c.in_ok-main.main.value) (map string_bytes c.in_ok-texts.texts.items)
    (rw c.deref.ensures.value at c.in_ok-functions.ensures)
    refl
    (rw (c.new-origins.ensures.items, c.deref-2.ensures.value) at c.in_ok-funs.ensures.next)
    c.in_ok-main.ensures.next
    (rw (c.new-origins.ensures.items, c.deref-2.ensures.value) at c.in_ok-funs.ensures.bodies)
    (rw c.deref-3.ensures.value at c.in_ok-main.ensures.body)
    (rw (c.deref-4.ensures.value, c.deref-5.ensures.value) at c.in_ok-texts.ensures))
