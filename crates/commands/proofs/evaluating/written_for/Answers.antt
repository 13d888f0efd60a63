-- What is said is a prefix of the output's type.
use Rattle.std.proofs.Common.{sym, subst}
use Rattle.stream_type.specs.StreamType.{StreamType}
use Rattle.stream_prefix.specs.StreamPrefix.{IsPrefix}
use Rattle.stream_prefix.specs.Tree.{prefix_of}
use Rattle.event_word.specs.Word.{pre}
use Rattle.stream_prefix.proofs.Derivations.{is_prefix}
use Rattle.event_word.proofs.Words.{word_derives}
use Rattle.delta_tree.specs.Tree.{program_of}
use Rattle.core_term.specs.CoreTerm.{core_of}
use Rattle.commands.specs.Evaluating.{input_of}
use Rattle.commands.proofs.Evaluated.{input_is, says_prefix}
use Rattle.commands.proofs.evaluating.written_for.Goals as goal

pub written-bytes-requires-clause-typed : goal.written-bytes-requires-clause-typed
written-bytes-requires-clause-typed c =
    let p = program_of c.args.accepted.now.program in
    let k = core_of c.args.accepted.now.checked in
    let word = pre (input_of p) c.args.word.now in
    let is = subst (λ (s : StreamType). IsPrefix s word) (sym (input_is p k c.requires.accepted)) (is_prefix (word_derives (input_of p) c.args.word.now c.requires.word)) in
    let says = says_prefix p k c.requires.accepted word is in
    subst (λ (s : StreamType). IsPrefix s (prefix_of c.in-Ok.said)) (sym c.output.ensures) (subst (IsPrefix k.main.result) (sym c.in-Ok.ensures.means) says)
