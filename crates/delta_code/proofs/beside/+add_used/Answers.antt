-- The entries of both sides.
use Rattle.std.proofs.Common.{◌≡◌, ◌∙◌, ◌++◌, map, ap, ap₂, sym, append_assoc}
use Rattle.std.proofs.lemmas.Result.{IfOk-weaker}
use Rattle.stream_prefix.specs.declared.prefix.Prefix.{Prefix}
use Rattle.stream_prefix.specs.Tree.{prefix_of}
use Rattle.delta_state.specs.StateTree.{free_in_state}
use Rattle.machine_parts.specs.declared.awaited.Awaited.{Awaited}
use Rattle.machine_parts.specs.Entry.{entry_in}
use Rattle.machine_parts.specs.AwaitedTree.{awaited_in, entries_on}
use Rattle.template_state.specs.Readers.{state_in}
use Rattle.delta_code.specs.Beside.{used_of}
use Rattle.delta_code.proofs.SideBySide.{used_append}
use Rattle.delta_code.proofs.beside.+add_used.Goals as goal

pub returns-in-Ok : goal.returns-in-Ok
returns-in-Ok t c =
    let names = free_in_state (state_in c.args.state.now) in
    let first = entries_on (awaited_in c.deref.result.now) (prefix_of c.deref-in-Par.result.now) in
    let second = entries_on (awaited_in c.deref-in-Ok.result.now) (prefix_of c.deref-in-Ok-2.result.now) in
    let before = map entry_in c.args.found.now.items in
    let whole : entries_on (awaited_in c.args.awaited.now) (prefix_of c.args.next.now) ≡ first ++ second =
    ap₂ (λ (a : Awaited) (d : Prefix). entries_on (awaited_in a) (prefix_of d)) c.in-AtOnce.is c.in-Par.is
    ∙ ap₂ ◌++◌ (ap₂ (λ (a : Awaited) (d : Prefix). entries_on (awaited_in a) (prefix_of d)) (sym c.deref.ensures) (sym c.deref-in-Par.ensures))
    (ap₂ (λ (a : Awaited) (d : Prefix). entries_on (awaited_in a) (prefix_of d)) (sym c.deref-in-Ok.ensures) (sym c.deref-in-Ok-2.ensures)) in
    let both : (before ++ used_of names first) ++ used_of names second ≡ before ++ used_of names (entries_on (awaited_in c.args.awaited.now) (prefix_of c.args.next.now)) =
    append_assoc before (used_of names first) (used_of names second) ∙ ap (λ l. before ++ l) (sym (ap (used_of names) whole ∙ used_append names first second)) in
    IfOk-weaker c.add_used-in-Ok.result _ _ (λ u e. e ∙ (ap (λ l. l ++ used_of names second) c.in-Ok.ensures ∙ both)) c.add_used-in-Ok.ensures
