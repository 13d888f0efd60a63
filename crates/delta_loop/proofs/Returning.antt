-- From a run's end to what its caller may know.
use Rattle.std.proofs.Common.{◌≡◌, ℕ, List, [], Bool, Option, Some, ◌∙◌, ap, sym, subst, append-nil, length, arith}
use Rattle.port.specs.declared.link.Move.{Move}
use Rattle.port.specs.Moves.{bytes_read, bytes_written}
use Rattle.delta_end.specs.declared.end.End.{End}
use Rattle.delta_end.specs.declared.end.End.TheVariants.{Done, Usage, Refused, Input, Budget, Deep, Open, FileFailed, ReadFailed, WriteFailed, Memory, Long, Objected}
use Rattle.delta_loop.specs.Meaning.{Meaning}
use Rattle.delta_loop.specs.Output.{due}
use Rattle.delta_loop.specs.Prompt.{has_ended, IsPrompt}
use Rattle.delta_loop.specs.Return.{MayEnd, IsWithinLimit}
use Rattle.delta_loop.specs.Loop.{Ran}
use Rattle.delta_end.specs.End.{IsOfLoop}
use Rattle.delta_loop.specs.Answer.{Adds, AtReturn, ReadsWell}
use Rattle.delta_loop.specs.History.{History}
use Rattle.delta_loop.proofs.Limits.{within_limit}

-- a log that nothing was added to
pub adds_none : (old new : Option (List Move)) (Q : List Move → Type 0) → new ≡ old → Q [] → Adds old new Q
adds_none old new Q same none told is = ([], same ∙ is ∙ ap Some (sym (append-nil told)), none)

-- no move reads well
pub unread : (end : End) → ReadsWell end []
unread end = record { last = tt; limit = within_limit end 0 (omega arith) }

-- what a log shows of the reads
pub reads_well : (due : List ℕ → List ℕ) (old new : Option (List Move)) (input output : List ℕ) (ended : Bool) (end : End) (h : History due old new input output ended) → IsWithinLimit end (length input)
    → ReadsWell end h.moves
reads_well due old new input output ended end h limit = record { last = h.last; limit = subst (λ (bs : List ℕ). IsWithinLimit end (length bs)) (sym h.read) limit }

module _ (P : Meaning) (old new : Option (List Move)) (left0 left1 : Option (List ℕ)) where
  -- a run is prompt
  pub ran_prompt : (end : End) → Ran P old new left0 left1 end → Adds old new (IsPrompt (due P))
  ran_prompt end ran told is = (ran.at.history.moves, ran.at.history.logged told is, ran.at.history.prompt)

  -- it doesn't read after the end of its input, nor more than it may
  pub ran_reads : (end : End) → Ran P old new left0 left1 end → Adds old new (ReadsWell end)
  ran_reads end ran told is = (ran.at.history.moves, ran.at.history.logged told is, reads_well (due P) old new ran.input ran.at.written ran.ended end ran.at.history ran.limit)

  -- what holds of the bytes, said of the moves
  pub ran_may_end : (end : End) (ran : Ran P old new left0 left1 end)
      → MayEnd P (bytes_read ran.at.history.moves) (has_ended ran.at.history.moves) (bytes_written ran.at.history.moves) end
  ran_may_end end ran =
      let h = ran.at.history in
      let read = subst (λ (bs : List ℕ). MayEnd P bs ran.ended ran.at.written end) (sym h.read) ran.at.may in
      let at_end = subst (λ (b : Bool). MayEnd P (bytes_read h.moves) b ran.at.written end) (sym h.at_end) read in
      subst (λ (bs : List ℕ). MayEnd P (bytes_read h.moves) (has_ended h.moves) bs end) (sym h.written) at_end

  -- a run ended as the table says
  pub returned : (end : End) → IsOfLoop end → (ran : Ran P old new left0 left1 end) → AtReturn P end ran.at.history.moves
  returned Done loop ran = ran_may_end Done ran
  returned Usage loop ran = absurd loop
  returned (Refused why) loop ran = absurd loop
  returned (Input fault) loop ran = ran_may_end (Input fault) ran
  returned Open loop ran = ran_may_end Open ran
  returned (Budget at) loop ran = ran_may_end (Budget at) ran
  returned (Deep at) loop ran = ran_may_end (Deep at) ran
  returned FileFailed loop ran = absurd loop
  returned (Objected what) loop ran = absurd loop
  returned ReadFailed loop ran = ran_may_end ReadFailed ran
  returned WriteFailed loop ran = ran_may_end WriteFailed ran
  returned Memory loop ran = ran_may_end Memory ran
  returned Long loop ran = ran_may_end Long ran

  pub ran_return : (end : End) → IsOfLoop end → Ran P old new left0 left1 end → Adds old new (AtReturn P end)
  ran_return end loop ran told is = (ran.at.history.moves, ran.at.history.logged told is, returned end loop ran)
