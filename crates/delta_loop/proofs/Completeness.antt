-- A good input has no fault, and neither has a part of it; so a run over it ends well.
use Rattle.std.proofs.Common.{◌≡◌, ◌⊎◌, inl, inr, ℕ, List, [], ◌∷◌, ◌++◌, append_assoc, Bool, true, false, Option, Some, None, length, ◌∙◌, ap, sym, refl, subst, arith, length-append, Result, Ok, Err}
use Rattle.port.specs.declared.link.Move.{Move}
use Rattle.port.specs.declared.fault.IoFault.{IoFault}
use Rattle.port.specs.declared.fault.IoFault.TheVariants.{Memory as NoMemory, Failed}
use Rattle.port.specs.Faults.{HasCause}
use Rattle.event_word.specs.StreamEvent.{StreamEvent}
use Rattle.event_frame.specs.declared.version.Version.{Version}
use Rattle.event_frame.specs.Reading.{whole, ending, Ending, Whole, Inside, Bad, Reading}
use Rattle.event_frame.proofs.FrameLaws.{frames_are_read}
use Rattle.event_frame.proofs.MoreBytes.{more_bytes}
use Rattle.delta_end.specs.declared.end.End.{End}
use Rattle.delta_end.specs.declared.end.End.TheVariants.{Done, Usage, Refused, Input, Budget, Deep, Open, FileFailed, ReadFailed, WriteFailed, Memory, Long, Objected}
use Rattle.delta_loop.specs.Meaning.{Meaning, StartsCostly, StartsDeep, IsCostly, IsDeep}
use Rattle.delta_loop.specs.Output.{accepted, output, due}
use Rattle.delta_loop.specs.Finding.{finding, byte_finding}
use Rattle.delta_loop.specs.Return.{Begins, StopsFirst, StopsAt}
use Rattle.delta_loop.specs.Loop.{Ran}
use Rattle.delta_end.specs.End.{ReadCause, WriteCause, IsOfLoop, status_of}
use Rattle.delta_loop.specs.Answer.{Adds, IsGood, IsCheap, WroteAll}
use Rattle.delta_end.specs.Status.{AnswerOf, IsStill}
use Rattle.delta_loop.proofs.Outputs.{accepted_front}
use Rattle.delta_loop.proofs.Findings.{finding_all}
use Rattle.delta_end.proofs.Statuses.{not_rose}

module _ (P : Meaning) (v : Version) (all : List ℕ) (word : List StreamEvent) (good : IsGood P v all word) where
  -- the events of a good input are those of its word
  pub whole_good : whole all ≡ word
  whole_good = ap whole good.input ∙ ap (λ (r : Reading). r.word) (frames_are_read v word good.fit)

  -- and it ends behind the last of them
  pub ending_good : ending all ≡ Whole
  ending_good = ap ending good.input ∙ ap (λ (r : Reading). r.ending) (frames_are_read v word good.fit)

  -- all of its output is due for it
  pub due_good : due P all ≡ output P word
  due_good = ap (output P) (ap (accepted P) whole_good ∙ good.admitted)

  module _ (input rest : List ℕ) (split : all ≡ input ++ rest) where
    -- the events of its front are the first of its word
    pub part_begins : Begins (whole input) word
    part_begins = let more = (more_bytes input rest).0 in (more.0, sym whole_good ∙ ap whole split ∙ more.1)

    pub part_accepted : accepted P (whole input) ≡ whole input
    part_accepted = accepted_front P [] (whole input) part_begins.0 (subst (λ (w : List StreamEvent). accepted P w ≡ w) part_begins.1 good.admitted)

    -- nothing is found in its front
    pub part_good : (ended : Bool) → (ended ≡ true → all ≡ input) → finding P input ended ≡ None
    part_good ended used_up = finding_all P input (whole input) ended part_accepted refl ∙ by_end (ending input) ended refl used_up
      where
        by_end : (e : Ending) (ended : Bool) → ending input ≡ e → (ended ≡ true → all ≡ input) → byte_finding e ended (length input) ≡ None
        by_end Whole ended is used_up = refl
        by_end Inside false is used_up = refl
        by_end Inside true is used_up = let clash : Inside ≡ Whole = sym is ∙ ap ending (sym (used_up refl)) ∙ ending_good in cc
        by_end (Bad fault) ended is used_up = let clash : Bad fault ≡ Whole = sym ((more_bytes input rest).1 fault is).1 ∙ ap ending (sym split) ∙ ending_good in cc

    -- an event of its front is one of the word
    pub event_in : (before : List StreamEvent) (x : StreamEvent) (more : List StreamEvent) → whole input ≡ before ++ x ∷ more → (after : List StreamEvent) × (word ≡ before ++ x ∷ after)
    event_in before x more is =
        let begins = part_begins in
        (more ++ begins.0, begins.1 ∙ ap (λ (w : List StreamEvent). w ++ begins.0) is ∙ append_assoc before (x ∷ more) begins.0)

-- a good input whose word is cheap doesn't stop the program
module _ (P : Meaning) (v : Version) (all : List ℕ) (word : List StreamEvent) (good : IsGood P v all word) (cheap : IsCheap P word) (input rest : List ℕ) (split : all ≡ input ++ rest) (written : List ℕ) (at : ℕ) where
  pub not_costly : StopsFirst P (StartsCostly P) input written at ⊎ StopsAt P (IsCostly P) input written at → ⊥
  not_costly (inl stop) = omega (arith, stop.why, cheap.start_calls)
  not_costly (inr stop) =
      let there = event_in P v all word good input rest split stop.word stop.event stop.more stop.came in
      omega (arith, stop.why, cheap.calls stop.word there.0 stop.event there.1)

  pub not_deep : StopsFirst P (StartsDeep P) input written at ⊎ StopsAt P (IsDeep P) input written at → ⊥
  not_deep (inl stop) = omega (arith, stop.why, cheap.start_level)
  not_deep (inr stop) =
      let there = event_in P v all word good input rest split stop.word stop.event stop.more stop.came in
      omega (arith, stop.why, cheap.level stop.word there.0 stop.event there.1)

-- how a run over a good input ends: with all written, or for want of memory
pub data EndsWell (old new : Option (List Move)) (Q : List Move → Type 0) : End → Type 0 where
  is_done : Adds old new Q → EndsWell old new Q Done
  is_open : Adds old new Q → EndsWell old new Q Open
  is_wanting : EndsWell old new Q Memory

module _ (P : Meaning) (v : Version) (all : List ℕ) (word : List StreamEvent) (good : IsGood P v all word) (cheap : IsCheap P word) (old new : Option (List Move)) (left0 left1 : Option (List ℕ)) (tells : left0 ≡ Some all) where
  -- what was due was written, where the input ended
  pub wrote_all : (end : End) (ran : Ran P old new left0 left1 end) → ran.ended ≡ true → ran.at.written ≡ due P ran.input → Adds old new (WroteAll P word)
  wrote_all end ran ended written told is =
      let used_up : all ≡ ran.input = ran.used_up ended all tells in
      (ran.at.history.moves, ran.at.history.logged told is, ran.at.history.written ∙ written ∙ ap (due P) (sym used_up) ∙ due_good P v all word good)

  pub good_end : (end : End) → IsOfLoop end → Ran P old new left0 left1 end → (read0 read1 write0 write1 : ℕ) → IsStill read0 read1 → IsStill write0 write1
      → ReadCause end read0 read1 → WriteCause end write0 write1 → EndsWell old new (WroteAll P word) end
  good_end Done loop ran read0 read1 write0 write1 read_still write_still read write = is_done (wrote_all Done ran ran.at.may.0 ran.at.may.3)
  good_end Open loop ran read0 read1 write0 write1 read_still write_still read write = is_open (wrote_all Open ran ran.at.may.0 ran.at.may.3)
  good_end Memory loop ran read0 read1 write0 write1 read_still write_still read write = is_wanting
  good_end Usage loop ran read0 read1 write0 write1 read_still write_still read write = absurd loop
  good_end (Refused why) loop ran read0 read1 write0 write1 read_still write_still read write = absurd loop
  good_end (Budget at) loop ran read0 read1 write0 write1 read_still write_still read write = absurd (not_costly P v all word good cheap ran.input (ran.taken all tells).0 (ran.taken all tells).2 ran.at.written at ran.at.may)
  good_end (Deep at) loop ran read0 read1 write0 write1 read_still write_still read write = absurd (not_deep P v all word good cheap ran.input (ran.taken all tells).0 (ran.taken all tells).2 ran.at.written at ran.at.may)
  good_end FileFailed loop ran read0 read1 write0 write1 read_still write_still read write = absurd loop
  good_end (Objected what) loop ran read0 read1 write0 write1 read_still write_still read write = absurd loop
  good_end ReadFailed loop ran read0 read1 write0 write1 read_still write_still read write = absurd (not_rose read0 read1 read read_still)
  good_end WriteFailed loop ran read0 read1 write0 write1 read_still write_still read write = absurd (not_rose write0 write1 write write_still)
  good_end (Input fault) loop ran read0 read1 write0 write1 read_still write_still read write =
      let taken = ran.taken all tells in
      absurd (let clash : None ≡ Some fault = sym (part_good P v all word good ran.input taken.0 taken.2 ran.ended (λ is. ran.used_up is all tells)) ∙ ran.at.may.0 in let none : ⊥ = cc in none)
  good_end Long loop ran read0 read1 write0 write1 read_still write_still read write =
      let taken = ran.taken all tells in
      absurd (omega (arith, ran.at.may.0, good.short, ap length taken.2, length-append ran.input taken.0))

-- the status of a run that ended well
pub good_status : (end : End) (said : Result (Unit {0}) IoFault) (status before now : ℕ) (old new : Option (List Move)) (Q : List Move → Type 0) → AnswerOf end said status → HasCause said before now → IsStill before now
    → EndsWell old new Q end → (status ≡ 8) ⊎ (((status ≡ 0) ⊎ (status ≡ 6)) × Adds old new Q)
good_status end (Ok u) status before now old new Q is cause still ends = by_end end ends is
  where
    by_end : (end : End) → EndsWell old new Q end → status ≡ status_of end → (status ≡ 8) ⊎ (((status ≡ 0) ⊎ (status ≡ 6)) × Adds old new Q)
    by_end _ (is_done wrote) is = inr (inl is, wrote)
    by_end _ (is_open wrote) is = inr (inr is, wrote)
    by_end _ is_wanting is = inl is
good_status end (Err NoMemory) status before now old new Q is cause still ends = inl is
good_status end (Err Failed) status before now old new Q is cause still ends = absurd (not_rose before now cause still)
