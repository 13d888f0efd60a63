-- The word stands for a prefix of the program's input, on which the program is evaluated.
use Rattle.std.proofs.Common.{◌≡◌, ◌≤◌, ◌∙◌, ap, sym, subst, IfOk}
use Rattle.stream_type.specs.StreamType.{StreamType}
use Rattle.stream_prefix.specs.StreamPrefix.{StreamPrefix}
use Rattle.stream_prefix.specs.Tree.{prefix_of}
use Rattle.event_word.specs.Word.{IsWord, pre}
use Rattle.delta_tree.specs.Tree.{program_of}
use Rattle.core_term.specs.CoreTerm.{core_of}
use Rattle.delta_meaning.specs.SourceMeaning.{mean, calls_of}
use Rattle.commands.proofs.Evaluated.{input_is, spent_on}
use Rattle.commands.proofs.evaluating.meaning_on.Goals as goal

pub prefix_of-requires : goal.prefix_of-requires
prefix_of-requires c =
    let same = c.input.ensures ∙ input_is (program_of c.args.accepted.now.program) (core_of c.args.accepted.now.checked) c.requires.accepted in
    subst (λ (s : StreamType). IsWord s c.args.word.now) (sym same) c.requires.word

pub returns-in-Ok-clause-means : goal.returns-in-Ok-clause-means
returns-in-Ok-clause-means c =
    let same = c.input.ensures ∙ input_is (program_of c.args.accepted.now.program) (core_of c.args.accepted.now.checked) c.requires.accepted in
    let stands = c.in-Ok.ensures.value ∙ ap (λ (s : StreamType). pre s c.args.word.now) same in
    subst (λ (q : StreamPrefix). IfOk c.eval.result (λ r. prefix_of r ≡ mean (program_of c.args.accepted.now.program) q)) stands c.eval.ensures.meaning

pub returns-in-Ok-clause-within : goal.returns-in-Ok-clause-within
returns-in-Ok-clause-within c =
    let same = c.input.ensures ∙ input_is (program_of c.args.accepted.now.program) (core_of c.args.accepted.now.checked) c.requires.accepted in
    let stands = c.in-Ok.ensures.value ∙ ap (λ (s : StreamType). pre s c.args.word.now) same in
    subst (λ (q : StreamPrefix). IfOk c.eval.result (λ r. calls_of (program_of c.args.accepted.now.program) q ≤ c.args.budget)) stands c.eval.ensures.counted

pub returns-in-Ok-clause-spent : goal.returns-in-Ok-clause-spent
returns-in-Ok-clause-spent c =
    let same = c.input.ensures ∙ input_is (program_of c.args.accepted.now.program) (core_of c.args.accepted.now.checked) c.requires.accepted in
    let stands = c.in-Ok.ensures.value ∙ ap (λ (s : StreamType). pre s c.args.word.now) same in
    spent_on (program_of c.args.accepted.now.program) c.args.budget _ _ stands c.eval.result c.eval.ensures.budget
