-- What an accepted program gives, over its syntax tree and over its core.
use Rattle.std.proofs.Common.{◌≡◌, ◌<◌, ◌^◌, pred, List, true, ap, sym, subst, refl, ◌∙◌}
use Rattle.stream_type.specs.StreamType.{StreamType, null_of}
use Rattle.stream_prefix.specs.StreamPrefix.{StreamPrefix, IsPrefix, IsPart, der, is_maximal}
use Rattle.stream_prefix.proofs.Derivations.{is_prefix}
use Rattle.stream_prefix.proofs.PrefixLaws.{maximal_leaves_null}
use Rattle.event_word.specs.StreamEvent.{StreamEvent}
use Rattle.event_word.specs.Word.{IsWord, pre, after_word}
use Rattle.event_word.proofs.Words.{word_derives, after_word-pre}
use Rattle.delta_tree.specs.SyntaxTree.{ProgramTree}
use Rattle.core_term.specs.CoreTerm.{CoreProgram}
use Rattle.core_term.specs.Run.{Run}
use Rattle.core_term.proofs.TypedRuns.{mean_is_typed}
use Rattle.delta_meaning.proofs.BoundOnce.{elaborated_is_core}
use Rattle.delta_meaning.proofs.WholePrograms.{core_keeps_meaning}
use Rattle.delta_meaning.proofs.KeptTypes.{elaborated_has_types}
use Rattle.delta_elab.specs.Accepted.{IsAccepted}
use Rattle.delta_elab.proofs.Accepting.{accepted_grows, accepted_is_whole}
use Rattle.delta_session.specs.OneShot.{OneShot, Grows}
use Rattle.delta_output.proofs.Speaking as speaking
use Rattle.delta_session.specs.Programs.{one_shot}
use Rattle.output_laws.specs.TreeOneShot.{one_shot_of}
use Rattle.output_laws.specs.Laws.{OutputIsSpoken, SpokenIsMeant, OrderDoesNotMatter, NothingIsRevised, WholeInWholeOut}

module _ (p : ProgramTree) (c : CoreProgram) (a : IsAccepted p c) where
  -- the core gives what the tree gives, with as many calls and the same level
  pub same_one_shot : one_shot c ≡ one_shot_of p
  same_one_shot =
      let types = elaborated_has_types p c a.elaborated in
      λ i. record {
        input = types.input i;
        result = types.result i;
        gives = λ q. (core_keeps_meaning p c a.elaborated a.typed q i).out;
        calls = λ q. (core_keeps_meaning p c a.elaborated a.typed q i).calls;
        level = λ q. pred (core_keeps_meaning p c a.elaborated a.typed q i).level;
      }

  -- the tree gives a prefix of its output's type, and on more input no less
  pub tree_grows : Grows (one_shot_of p)
  tree_grows = record {
    typed = subst (λ (P : OneShot). (q : StreamPrefix) → IsPrefix P.input q → IsPrefix P.result (P.gives q)) same_one_shot (mean_is_typed c (elaborated_is_core p c a.elaborated) a.typed);
    parts = λ q more typed part. (accepted_grows p c a q more typed part).0;
  }

pub output_is_spoken : OutputIsSpoken
output_is_spoken p = speaking.output_is_spoken (one_shot_of p)

pub spoken_is_meant : SpokenIsMeant
spoken_is_meant p c a = speaking.spoken_is_meant (one_shot_of p) (tree_grows p c a)

pub order_does_not_matter : OrderDoesNotMatter
order_does_not_matter p c a = speaking.order_does_not_matter (one_shot_of p) (tree_grows p c a)

pub nothing_is_revised : NothingIsRevised
nothing_is_revised p c a = speaking.nothing_is_revised (one_shot_of p) (tree_grows p c a)

pub whole_in_whole_out : WholeInWholeOut
whole_in_whole_out p c a word comes ended few =
    let s = (one_shot_of p).input in
    let typed : IsPrefix s (pre s word) = is_prefix (word_derives s word comes) in
    let whole : is_maximal (pre s word) ≡ true = sym (maximal_leaves_null s (pre s word) typed) ∙ ap null_of (sym (after_word-pre s word comes)) ∙ ended in
    accepted_is_whole p c a (pre s word) typed whole few
