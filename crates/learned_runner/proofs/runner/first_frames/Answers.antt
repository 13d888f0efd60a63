-- A checked program that fits can run, and what it says before any event has no longer paths than its output.
use Rattle.std.proofs.Common.{◌≤◌, ◌∙◌, sym, ap, subst}
use Rattle.stream_type.specs.StreamType.{reach_of}
use Rattle.stream_prefix.specs.StreamPrefix.{IsPrefix}
use Rattle.stream_prefix.specs.Tree.{prefix_of}
use Rattle.core_term.specs.declared.program.Core.{Core}
use Rattle.core_term.specs.CoreTerm.{core_of}
use Rattle.core_term.specs.FreeNames.{IsCore}
use Rattle.core_term.specs.Typing.{IsTypedCore}
use Rattle.event_word.specs.Canon.{canon}
use Rattle.delta_session.specs.Programs.{one_shot}
use Rattle.delta_session.proofs.RunningPrograms.{fits_narrow, program_grows, starts_prefix}
use Rattle.delta_runner.proofs.Stepping.{first_within}
use Rattle.learned_runner.proofs.runner.first_frames.Goals as goal

pub canon-requires-clause-prefix : goal.canon-requires-clause-prefix
canon-requires-clause-prefix c =
    let same = c.core.ensures.program in
    subst (λ (k : Core). IsPrefix (core_of k).main.result (prefix_of c.args.said.now)) (sym same)
    (starts_prefix (core_of c.args.c.now) (subst (λ (k : Core). IsCore (core_of k)) same c.core.ensures.core) (subst (λ (k : Core). IsTypedCore (core_of k)) same c.core.ensures.typed) _ c.requires.said)

pub canon-requires-clause-reach : goal.canon-requires-clause-reach
canon-requires-clause-reach c =
    subst (λ (k : Core). reach_of (core_of k).main.result ≤ 63) (sym c.core.ensures.program) (fits_narrow (core_of c.args.c.now) c.requires.fits)

pub word_frames-requires : goal.word_frames-requires
word_frames-requires c =
    let same = c.core.ensures.program in
    first_within c.args.version (one_shot (core_of c.args.c.now))
    (program_grows (core_of c.args.c.now) record {
      core = subst (λ (k : Core). IsCore (core_of k)) same c.core.ensures.core;
      typed = subst (λ (k : Core). IsTypedCore (core_of k)) same c.core.ensures.typed;
      narrow = fits_narrow (core_of c.args.c.now) c.requires.fits;
    })
    c.requires.short c.deref.result.now (c.deref.ensures.value ∙ c.in_ok-word.ensures.canonical ∙ ap canon c.requires.said)
