-- A value isn't of its type, or it is, as all are.
use Rattle.std.proofs.Common.{true≢false, refl, sym}
use Rattle.std.proofs.lemmas.Bool.{iff_false}
use Rattle.hist_value.specs.HistType.{past}
use Rattle.hist_value.specs.HistValue.{HasType}
use Rattle.delta_state.specs.StateTree.{Known as KnownName}
use Rattle.delta_keep.specs.KeptView.{known_of}
use Rattle.kept_check.proofs.Gathered.{all_next, all_fails, all_whole, all_mapped, all_unmapped}
use Rattle.kept_check.proofs.values.have_types.Goals as goal

abbrev IsTyped : KnownName → Type 0
IsTyped e = HasType (past e.type) e.value

pub returns-then-not-branch : goal.returns-then-not-branch
returns-then-not-branch c = (
  λ t. absurd (true≢false (sym t)),
  λ a. absurd (all_fails (λ k. IsTyped (known_of k)) c.args.known.now c.loop-entry.entry-index c.entry-item.result c.loop-entry-test.true c.entry-item.is (iff_false c.in_ok-has_its_type.ensures c.if-not-branch.true) (all_unmapped IsTyped known_of c.args.known.now a)),
)

pub loop-entry-preserved : goal.loop-entry-preserved
loop-entry-preserved c =
    all_next (λ k. IsTyped (known_of k)) c.args.known.now c.loop-entry.entry-index c.entry-item.result c.loop-entry-test.true c.entry-item.is c.loop-entry.invariant (c.in_ok-has_its_type.ensures.0 c.if-not-branch.false)

pub returns : goal.returns
returns c = (
  λ t. all_mapped IsTyped known_of c.args.known.now (all_whole (λ k. IsTyped (known_of k)) c.args.known.now c.loop-entry.entry-index c.loop-entry-test.false c.loop-entry.invariant),
  λ a. refl,
)
