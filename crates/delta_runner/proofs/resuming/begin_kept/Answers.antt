-- Nothing comes first.
use Rattle.std.proofs.Common.{◌≤◌, None, refl, sym, arith}
use Rattle.stream_type.specs.StreamType.{reach_of}
use Rattle.event_frame.specs.Frames.{longest}
use Rattle.core_term.specs.CoreTerm.{core_of}
use Rattle.delta_keep.specs.KeptView.{kept_of}
use Rattle.delta_runner.specs.SinceCourse.{course_since}
use Rattle.delta_runner.proofs.KeptGrowth.{first_is_nothing}
use Rattle.delta_runner.proofs.resuming.begin_kept.Goals as goal

pub returns-clause-begun : goal.returns-clause-begun
returns-clause-begun g c =
    let k = kept_of c.args.k.now in
    let less = c.requires.typed.is_placed.reaches in
    let short : reach_of k.out ≤ longest c.args.version = omega (arith, less, c.requires.short) in
    record {
      state = record {
        header = None;
        course = course_since (core_of c.args.c.now) k c.args.budget;
        means = refl;
        standing = c.in_ok-session.ensures.stands;
        short = short;
        kept = refl;
      };
      version = refl;
      bytes = sym (first_is_nothing c.args.version c.args.budget (core_of c.args.c.now) k c.requires.typed);
    }
