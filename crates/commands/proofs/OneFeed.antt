-- What is told of a text and of tables is one.
use Rattle.std.proofs.Common.{◌≡◌, ◌∙◌, ℕ, List, Option, Some, None, ap, sym, refl, subst}
use Rattle.stream_type.specs.StreamType.{StreamType}
use Rattle.core_term.specs.CoreTerm.{CoreProgram}
use Rattle.delta_tree.specs.SyntaxTree.{ProgramTree}
use Rattle.delta_meaning.specs.SourceBody.{main_of}
use Rattle.delta_meaning.specs.SourceMeaning.{mean}
use Rattle.table_feed.specs.declared.fault.FeedFault.{FeedFault}
use Rattle.table_feed.specs.declared.fault.FeedFault.TheVariants as fault
use Rattle.table_feed.specs.Rows.{text_of}
use Rattle.table_feed.proofs.CanonicalWords.{canons_are_words}
use Rattle.table_feed.proofs.MixedWords.{mixed_spells}
use Rattle.stream_prefix.specs.StreamPrefix.{StreamPrefix}
use Rattle.delta_end.specs.declared.objection.Objection.{Objection}
use Rattle.delta_end.specs.declared.end.End.TheVariants.{Objected}
use Rattle.checked_program.specs.Acceptance.{IsAcceptedAs}
use Rattle.checked_program.proofs.OneAnswer.{accepted_is_one}
use Rattle.commands.specs.Tables.{Takes, IsWrong, told_as, given_text}
use Rattle.commands.specs.Feeding.{input_of}
use Rattle.commands.specs.FeedLaws.{FedIsOne, UnfedIsOne, FedIsNotRefused, EachOrderGivesIt}
use Rattle.commands.proofs.WholeTables.{are_prefixes, word_means}

-- the program of a text is one
same_program : (text : List ℕ) (p q : ProgramTree) (c d : CoreProgram) → IsAcceptedAs text p c → IsAcceptedAs text q d → p ≡ q
same_program text p q c d a b = (accepted_is_one text p q c d a b).0

pub fed_is_one : FedIsOne
fed_is_one text tables one other h k =
    h.is ∙ ap (λ (p : ProgramTree). given_text (input_of p) (mean p) tables) (same_program text h.program k.program h.core k.core h.accepted k.accepted) ∙ sym k.is

-- some fault isn't none, and a fault is one
not_none : (o : Option FeedFault) (why : FeedFault) → o ≡ None → o ≡ Some why → ⊥
not_none None why e h = cc
not_none (Some other) why e h = cc

one_fault : (o : Option FeedFault) (one other : FeedFault) → o ≡ Some one → o ≡ Some other → one ≡ other
one_fault None one other h k = cc
one_fault (Some why) one other h k = cc

module _ (input output : StreamType) (tables : List (List ℕ)) where
  taken_is_not_wrong : (why : FeedFault) → Takes input output tables → IsWrong input output tables why → ⊥
  taken_is_not_wrong fault.Memory takes wrong = wrong
  taken_is_not_wrong fault.Shape takes wrong = wrong takes.shape
  taken_is_not_wrong (fault.Long file) takes wrong = not_none _ _ takes.good wrong.1
  taken_is_not_wrong (fault.Ragged file row) takes wrong = not_none _ _ takes.good wrong.1
  taken_is_not_wrong (fault.BadNumber file row column) takes wrong = not_none _ _ takes.good wrong.1

  -- what is wrong with them is one
  one_wrong : (one other : FeedFault) → IsWrong input output tables one → IsWrong input output tables other → one ≡ other
  one_wrong fault.Memory other h k = absurd h
  one_wrong one fault.Memory h k = absurd k
  one_wrong fault.Shape fault.Shape h k = refl
  one_wrong fault.Shape (fault.Long file) h k = absurd (h k.0)
  one_wrong fault.Shape (fault.Ragged file row) h k = absurd (h k.0)
  one_wrong fault.Shape (fault.BadNumber file row column) h k = absurd (h k.0)
  one_wrong (fault.Long file) fault.Shape h k = absurd (k h.0)
  one_wrong (fault.Long file) (fault.Long f) h k = one_fault _ _ _ h.1 k.1
  one_wrong (fault.Long file) (fault.Ragged f r) h k = one_fault _ _ _ h.1 k.1
  one_wrong (fault.Long file) (fault.BadNumber f r c) h k = one_fault _ _ _ h.1 k.1
  one_wrong (fault.Ragged file row) fault.Shape h k = absurd (k h.0)
  one_wrong (fault.Ragged file row) (fault.Long f) h k = one_fault _ _ _ h.1 k.1
  one_wrong (fault.Ragged file row) (fault.Ragged f r) h k = one_fault _ _ _ h.1 k.1
  one_wrong (fault.Ragged file row) (fault.BadNumber f r c) h k = one_fault _ _ _ h.1 k.1
  one_wrong (fault.BadNumber file row column) fault.Shape h k = absurd (k h.0)
  one_wrong (fault.BadNumber file row column) (fault.Long f) h k = one_fault _ _ _ h.1 k.1
  one_wrong (fault.BadNumber file row column) (fault.Ragged f r) h k = one_fault _ _ _ h.1 k.1
  one_wrong (fault.BadNumber file row column) (fault.BadNumber f r c) h k = one_fault _ _ _ h.1 k.1

same_what : (one other : Objection) → Objected one ≡ Objected other → one ≡ other
same_what one other e = cc

pub unfed_is_one : UnfedIsOne
unfed_is_one text tables one other h k =
    let same = same_program text k.program h.program k.core h.core k.accepted h.accepted in
    let wrong = subst (λ (p : ProgramTree). IsWrong (input_of p) (main_of p).result tables k.why) same k.wrong in
    same_what one other (h.told ∙ ap told_as (one_wrong (input_of h.program) (main_of h.program).result tables h.why k.why h.wrong wrong) ∙ sym k.told)

pub fed_is_not_refused : FedIsNotRefused
fed_is_not_refused text tables out what h k =
    let same = same_program text k.program h.program k.core h.core k.accepted h.accepted in
    let wrong = subst (λ (p : ProgramTree). IsWrong (input_of p) (main_of p).result tables k.why) same k.wrong in
    taken_is_not_wrong (input_of h.program) (main_of h.program).result tables k.why h.takes wrong

pub each_order_gives_it : EachOrderGivesIt
each_order_gives_it text tables out fed schedule =
    let s = input_of fed.program in
    let shape = fed.takes.shape.1 in (
      (mixed_spells schedule s _ (canons_are_words s _ (are_prefixes s 0 tables shape fed.takes.good))).word,
      fed.is ∙ ap (λ (p : StreamPrefix). text_of (mean fed.program p)) (sym (word_means s schedule tables shape fed.takes.good)),
    )
