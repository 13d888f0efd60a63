-- What is held of a name isn't as it should be, or it is, as all are.
use Rattle.std.proofs.Common.{◌≡◌, true≢false, refl, sym}
use Rattle.std.proofs.lemmas.Bool.{iff_false}
use Rattle.std.specs.Prelude.{Some}
use Rattle.stream_prefix.specs.StreamPrefix.{der, IsPrefix}
use Rattle.core_term.specs.Typing.{Context}
use Rattle.delta_check.specs.Scopes.{context_in}
use Rattle.delta_state.specs.StateTree.{HeldName}
use Rattle.delta_keep.specs.KeptView.{held_of}
use Rattle.kept_check.proofs.Gathered.{all_next, all_fails, all_whole, all_mapped, all_unmapped, all_both, all_first, all_second}
use Rattle.kept_check.proofs.values.are_left.Goals as goal

abbrev Fits : HeldName → Type 0
Fits h = IsPrefix h.type h.prefix

abbrev Leaves : Context → HeldName → Type 0
Leaves c h = c.types h.name ≡ Some (der h.prefix h.type)

pub returns-then-not-branch : goal.returns-then-not-branch
returns-then-not-branch c =
    let d = context_in c.args.scope.now in
    let held = c.args.held.now in (
      λ t. absurd (true≢false (sym t)),
      λ a. absurd (all_fails (λ k. Fits (held_of k) × Leaves d (held_of k)) held c.loop-entry.entry-index c.entry-item.result c.loop-entry-test.true c.entry-item.is (iff_false c.in_ok-is_left.ensures c.if-not-branch.true)
          (all_both (λ k. Fits (held_of k)) (λ k. Leaves d (held_of k)) held (all_unmapped Fits held_of held a.0) (all_unmapped (Leaves d) held_of held a.1))),
    )

pub loop-entry-preserved : goal.loop-entry-preserved
loop-entry-preserved c =
    let d = context_in c.args.scope.now in
    all_next (λ k. Fits (held_of k) × Leaves d (held_of k)) c.args.held.now c.loop-entry.entry-index c.entry-item.result c.loop-entry-test.true c.entry-item.is c.loop-entry.invariant (c.in_ok-is_left.ensures.0 c.if-not-branch.false)

pub returns : goal.returns
returns c =
    let d = context_in c.args.scope.now in
    let held = c.args.held.now in
    let all = all_whole (λ k. Fits (held_of k) × Leaves d (held_of k)) held c.loop-entry.entry-index c.loop-entry-test.false c.loop-entry.invariant in (
      λ t. (
        all_mapped Fits held_of held (all_first (λ k. Fits (held_of k)) (λ k. Leaves d (held_of k)) held all),
        all_mapped (Leaves d) held_of held (all_second (λ k. Fits (held_of k)) (λ k. Leaves d (held_of k)) held all),
      ),
      λ a. refl,
    )
