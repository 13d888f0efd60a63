-- From a run that gathers an input to the evaluation of it.
use Rattle.std.proofs.Common.{◌≡◌, ◌∙◌, ◌⊎◌, inl, inr, ℕ, ◌<◌, ◌≤◌, List, [], ◌∷◌, ◌++◌, Bool, true, false, Option, Result, Ok, Err, length, take, ◌^◌, refl, sym, ap, subst, arith, append-nil}
use Rattle.std.specs.Prelude.{IfErr}
use Rattle.stream_type.specs.StreamType.{StreamType, null_of}
use Rattle.stream_prefix.specs.StreamPrefix.{StreamPrefix, IsPrefix}
use Rattle.stream_prefix.specs.declared.prefix.Prefix.{Prefix}
use Rattle.bunch.specs.BunchTree.{as_type}
use Rattle.port.specs.declared.link.Move.{Move}
use Rattle.port.specs.Moves.{bytes_read}
use Rattle.port.specs.Told.{Loses}
use Rattle.event_word.specs.StreamEvent.{StreamEvent}
use Rattle.event_word.specs.Word.{IsWord, after_word}
use Rattle.event_frame.specs.declared.version.Version.{Version}
use Rattle.event_frame.specs.Reading.{whole}
use Rattle.delta_tree.specs.SyntaxTree.{ProgramTree}
use Rattle.core_term.specs.CoreTerm.{CoreProgram}
use Rattle.core_term.specs.Run.{Run}
use Rattle.core_term.proofs.TypedRuns.{mean_is_typed}
use Rattle.delta_meaning.specs.SourceMeaning.{mean, calls_of}
use Rattle.delta_meaning.specs.declared.refusal.EvalRefusal.{EvalRefusal}
use Rattle.delta_meaning.specs.declared.refusal.EvalRefusal.TheVariants.{Memory as NoMemory, Budget as Budgeted}
use Rattle.delta_meaning.proofs.BoundOnce.{elaborated_is_core}
use Rattle.delta_meaning.proofs.WholePrograms.{core_keeps_meaning}
use Rattle.delta_meaning.proofs.KeptTypes.{elaborated_has_types}
use Rattle.delta_elab.specs.Accepted.{IsAccepted}
use Rattle.delta_end.specs.declared.end.End.{End}
use Rattle.delta_end.specs.declared.end.End.TheVariants.{Done, Usage, Refused, Input, Budget, Deep, Open, FileFailed, ReadFailed, WriteFailed, Memory, Long, Objected}
use Rattle.delta_loop.specs.Output.{due, accepted}
use Rattle.delta_loop.specs.History.{History, Writes}
use Rattle.delta_loop.specs.Return.{Begins, IsWithinLimit}
use Rattle.delta_loop.specs.Loop.{Ran, RanTo}
use Rattle.delta_loop.proofs.Opening.{fresh}
use Rattle.delta_loop.proofs.Lefts.{loses_nothing}
use Rattle.delta_loop.proofs.Limits.{within_limit, within_other}
use Rattle.commands.specs.Gathering.{gathering, Gathers}
use Rattle.commands.specs.Evaluating.{input_of, calls_on, evaluation, left, ends_well, end_of, IsWhole, MayEnd, Evaluates}
use Rattle.commands.specs.declared.gathering.Gathering.{Gathering}
use Rattle.delta_loop.proofs.Unstopped.{no_costly, no_deep}
use Rattle.commands.proofs.Gathered.{due_none, is_word, accepts_all, makes_no_calls}

-- what an accepted program says is a prefix of its result's type
pub says_prefix : (p : ProgramTree) (c : CoreProgram) → IsAccepted p c → (q : StreamPrefix) → IsPrefix (as_type c.main.params) q → IsPrefix c.main.result (mean p q)
says_prefix p c a q is = subst (IsPrefix c.main.result) (ap (λ (r : Run). r.out) (core_keeps_meaning p c a.elaborated a.typed q)) (mean_is_typed c (elaborated_is_core p c a.elaborated) a.typed q is)

-- its input's type is that of the core's parameters
pub input_is : (p : ProgramTree) (c : CoreProgram) → IsAccepted p c → as_type c.main.params ≡ input_of p
input_is p c a = (elaborated_has_types p c a.elaborated).input

-- the calls pass the budget, on the prefix by another name
pub spent_on : (p : ProgramTree) (budget : ℕ) (q word : StreamPrefix) → q ≡ word → (r : Result Prefix EvalRefusal)
    → IfErr r (λ f. (n : ℕ) → f ≡ Budgeted n → (n ≡ budget) × (n < calls_of p q)) → IfErr r (λ f. (n : ℕ) → f ≡ Budgeted n → budget < calls_of p word)
spent_on p budget q word same (Ok x) spent = tt
spent_on p budget q word same (Err f) spent = λ n e.
    let both = spent n e in
    let calls : calls_of p q ≡ calls_of p word = ap (calls_of p) same in omega (arith, both.0, both.1, calls)

nothing_begins : (written more : List ℕ) → [] ≡ written ++ more → written ≡ []
nothing_begins [] more e = refl
nothing_begins (b ∷ bs) more e = absurd (let none : ⊥ = cc e in none)

-- memory ran out before anything was read
pub wanting_first : (p : ProgramTree) (budget : ℕ) (v : Version) (log : Option (List Move)) (l : Option (List ℕ)) → Evaluates p budget v log log l l Memory
wanting_first p budget v log l = record {
  input = [];
  ended = false;
  written = [];
  history = fresh (λ bytes. []) log;
  may = inl refl;
  limit = within_limit Memory 0 (omega arith);
  taken = loses_nothing l l refl;
  used_up = λ never. cc;
}

module _ (p : ProgramTree) (budget : ℕ) (v : Version) (old mid : Option (List Move)) (left0 left1 : Option (List ℕ)) where
  abbrev s : StreamType
  s = input_of p

  nothing_written : (input written : List ℕ) → written ≡ due (gathering s) input → written ≡ []
  nothing_written input written e = e ∙ due_none s input

  -- before each read nothing was written
  late : (start now : Option (List Move)) (input written : List ℕ) (ended : Bool) → History (due (gathering s)) start now input written ended → History (λ bytes. []) start now input written ended
  late start now input written ended h = record {
    moves = h.moves;
    logged = h.logged;
    read = h.read;
    written = h.written;
    at_end = h.at_end;
    prompt = λ before after bytes split. h.prompt before after bytes split ∙ due_none s (bytes_read before);
    last = h.last;
  }

  -- a run that ended so ends the evaluation so, if it may
  as_evaluation : (end other : End) (ran : Ran (gathering s) old mid left0 left1 end) → IsWithinLimit other (length ran.input) → MayEnd p budget v ran.input ran.ended ran.at.written other
      → Evaluates p budget v old mid left0 left1 other
  as_evaluation end other ran limit may = record {
    input = ran.input;
    ended = ran.ended;
    written = ran.at.written;
    history = late old mid ran.input ran.at.written ran.ended ran.at.history;
    may = may;
    limit = limit;
    taken = ran.taken;
    used_up = ran.used_up;
  }

  begins_nothing : (input written : List ℕ) → Begins written (due (gathering s) input) → written ≡ []
  begins_nothing input written b = nothing_begins written b.0 (sym (due_none s input) ∙ b.1)

  -- a run whose input didn't end well
  pub ends_unwell : (end : End) → ends_well end ≡ false → (m : Gathering) → RanTo Gathers (gathering s) old mid left0 left1 m end → Evaluates p budget v old mid left0 left1 end
  ends_unwell Done unwell m to = absurd (let none : ⊥ = cc unwell in none)
  ends_unwell Open unwell m to = absurd (let none : ⊥ = cc unwell in none)
  ends_unwell (Input fault) unwell m to = as_evaluation (Input fault) (Input fault) to.ran to.ran.limit (to.ran.at.may.0, nothing_written to.ran.input to.ran.at.written to.ran.at.may.1)
  ends_unwell ReadFailed unwell m to = as_evaluation ReadFailed ReadFailed to.ran to.ran.limit (to.ran.at.may.0, nothing_written to.ran.input to.ran.at.written to.ran.at.may.1)
  ends_unwell WriteFailed unwell m to = as_evaluation WriteFailed WriteFailed to.ran to.ran.limit (inl (begins_nothing to.ran.input to.ran.at.written to.ran.at.may))
  ends_unwell Memory unwell m to = as_evaluation Memory Memory to.ran to.ran.limit (inl (begins_nothing to.ran.input to.ran.at.written to.ran.at.may))
  ends_unwell Long unwell m to = as_evaluation Long Long to.ran to.ran.limit (to.ran.at.may.0, to.ran.at.may.1, to.ran.at.may.2 ∙ due_none s (take (2 ^ 40) to.ran.input))
  ends_unwell Usage unwell m to = absurd to.ran.at.may
  ends_unwell (Refused why) unwell m to = absurd to.ran.at.may
  ends_unwell (Budget at) unwell m to = absurd (no_costly (gathering s) (makes_no_calls s) to.ran.input to.ran.at.written at to.ran.at.may)
  ends_unwell (Deep at) unwell m to = absurd (no_deep (gathering s) (makes_no_calls s) to.ran.input to.ran.at.written at to.ran.at.may)
  ends_unwell FileFailed unwell m to = absurd to.ran.at.may
  ends_unwell (Objected what) unwell m to = absurd to.ran.at.may

  -- a run whose input ended well: the input, and what is left of its type
  record Well (end : End) (ran : Ran (gathering s) old mid left0 left1 end) : Type 0 where
    pub at_end : IsWhole p ran.input ran.ended
    pub nothing : ran.at.written ≡ []
    pub may : (written : List ℕ) → calls_on p (whole ran.input) ≤ budget → written ≡ evaluation p v (whole ran.input) → MayEnd p budget v ran.input ran.ended written end

  accepts : (input : List ℕ) (ended : Bool) → IsWhole p input ended → accepted (gathering s) (whole input) ≡ whole input
  accepts input ended w = accepts_all s [] (whole input) (is_word s input ended w.sound)

  well_of : (end : End) → ends_well end ≡ true → (ran : Ran (gathering s) old mid left0 left1 end) → Well end ran
  well_of Done well ran =
      let w : IsWhole p ran.input ran.ended = record { at_end = ran.at.may.0; sound = ran.at.may.1 } in
      let rest : null_of (left p ran.input) ≡ true = ap (λ (x : List StreamEvent). null_of (after_word x s)) (sym (accepts ran.input ran.ended w)) ∙ ran.at.may.2 in
      record {
        at_end = w;
        nothing = nothing_written ran.input ran.at.written ran.at.may.3;
        may = λ written within is. (record { is_whole = w; within = within }, rest, is);
      }
  well_of Open well ran =
      let w : IsWhole p ran.input ran.ended = record { at_end = ran.at.may.0; sound = ran.at.may.1 } in
      let rest : null_of (left p ran.input) ≡ false = ap (λ (x : List StreamEvent). null_of (after_word x s)) (sym (accepts ran.input ran.ended w)) ∙ ran.at.may.2 in
      record {
        at_end = w;
        nothing = nothing_written ran.input ran.at.written ran.at.may.3;
        may = λ written within is. (record { is_whole = w; within = within }, rest, is);
      }
  well_of Usage well ran = absurd ran.at.may
  well_of (Refused why) well ran = absurd ran.at.may
  well_of (Budget at) well ran = absurd (no_costly (gathering s) (makes_no_calls s) ran.input ran.at.written at ran.at.may)
  well_of (Deep at) well ran = absurd (no_deep (gathering s) (makes_no_calls s) ran.input ran.at.written at ran.at.may)
  well_of FileFailed well ran = absurd ran.at.may
  well_of (Objected what) well ran = absurd ran.at.may
  well_of (Input fault) well ran = absurd (let none : ⊥ = cc well in none)
  well_of ReadFailed well ran = absurd (let none : ⊥ = cc well in none)
  well_of WriteFailed well ran = absurd (let none : ⊥ = cc well in none)
  well_of Memory well ran = absurd (let none : ⊥ = cc well in none)
  well_of Long well ran = absurd (let none : ⊥ = cc well in none)

  module _ (end : End) (well : ends_well end ≡ true) (m : Gathering) (to : RanTo Gathers (gathering s) old mid left0 left1 m end) where
    stands : (end : End) → ends_well end ≡ true → (to : RanTo Gathers (gathering s) old mid left0 left1 m end) → Gathers m (gathering s) (whole to.ran.input)
    stands Done well to = to.state tt
    stands Open well to = to.state tt
    stands Usage well to = absurd to.ran.at.may
    stands (Refused why) well to = absurd to.ran.at.may
    stands (Budget at) well to = absurd (no_costly (gathering s) (makes_no_calls s) to.ran.input to.ran.at.written at to.ran.at.may)
    stands (Deep at) well to = absurd (no_deep (gathering s) (makes_no_calls s) to.ran.input to.ran.at.written at to.ran.at.may)
    stands FileFailed well to = absurd to.ran.at.may
    stands (Objected what) well to = absurd to.ran.at.may
    stands (Input fault) well to = absurd (let none : ⊥ = cc well in none)
    stands ReadFailed well to = absurd (let none : ⊥ = cc well in none)
    stands WriteFailed well to = absurd (let none : ⊥ = cc well in none)
    stands Memory well to = absurd (let none : ⊥ = cc well in none)
    stands Long well to = absurd (let none : ⊥ = cc well in none)

    the_word : m.word.items ≡ whole to.ran.input
    the_word = (stands end well to).all

    -- the gathered events are a word of the input's type
    pub gathered_word : IsWord s m.word.items
    gathered_word = subst (IsWord s) (sym the_word) (is_word s to.ran.input to.ran.ended (well_of end well to.ran).at_end.sound)

    -- the input isn't too long, so the evaluation may end in another way
    ends_so : (other : End) → IsWithinLimit other (length to.ran.input)
    ends_so other = within_other end other (length to.ran.input) to.ran.limit (λ is. let clash : false ≡ true = ap ends_well (sym is) ∙ well in cc)

    -- the meaning makes too many calls
    spends : budget < calls_on p m.word.items → Evaluates p budget v old mid left0 left1 (Budget 0)
    spends more = as_evaluation end (Budget 0) to.ran (ends_so (Budget 0)) ((well_of end well to.ran).at_end, subst (λ (w : List StreamEvent). budget < calls_on p w) the_word more, (well_of end well to.ran).nothing, refl)

    -- memory ran out before anything was written
    wants : Evaluates p budget v old mid left0 left1 Memory
    wants = as_evaluation end Memory to.ran (ends_so Memory) (inl (well_of end well to.ran).nothing)

    -- the meaning was refused
    pub refuses : (f : EvalRefusal) → ((n : ℕ) → f ≡ Budgeted n → budget < calls_on p m.word.items) → Evaluates p budget v old mid left0 left1 (end_of f)
    refuses NoMemory more = wants
    refuses (Budgeted n) more = spends (more n refl)

    -- a part of what is to be written was, or all of it
    module _ (new : Option (List Move)) (left2 : Option (List ℕ)) (same : left2 ≡ left1) (sent rest : List ℕ) (writes : Writes mid new sent) (within : calls_on p m.word.items ≤ budget)
        (is : evaluation p v m.word.items ≡ sent ++ rest) where
      split : evaluation p v (whole to.ran.input) ≡ sent ++ rest
      split = ap (evaluation p v) (sym the_word) ∙ is

      here : calls_on p (whole to.ran.input) ≤ budget
      here = subst (λ (w : List StreamEvent). calls_on p w ≤ budget) the_word within

      wrote : (other : End) → MayEnd p budget v to.ran.input to.ran.ended sent other → Evaluates p budget v old new left0 left2 other
      wrote other may =
          let none : to.ran.at.written ≡ [] = (well_of end well to.ran).nothing in
          let before = late old mid to.ran.input to.ran.at.written to.ran.ended to.ran.at.history in
          record {
            input = to.ran.input;
            ended = to.ran.ended;
            written = sent;
            history = subst (λ (bs : List ℕ). History (λ bytes. []) old new to.ran.input (bs ++ sent) to.ran.ended) none (writes (λ bytes. []) old to.ran.input to.ran.at.written to.ran.ended before);
            may = may;
            limit = ends_so other;
            taken = subst (λ (l : Option (List ℕ)). Loses left0 l to.ran.input) (sym same) to.ran.taken;
            used_up = to.ran.used_up;
          }

      front : Begins sent (evaluation p v (whole to.ran.input))
      front = (rest, split)

      pub says : (other : End) → ((other ≡ end) × (rest ≡ [])) ⊎ ((other ≡ Memory) ⊎ (other ≡ WriteFailed)) → Evaluates p budget v old new left0 left2 other
      says other (inl all) =
          let whole_sent : sent ≡ evaluation p v (whole to.ran.input) = sym (split ∙ ap (λ (bs : List ℕ). sent ++ bs) all.1 ∙ append-nil sent) in
          wrote other (subst (λ (e : End). MayEnd p budget v to.ran.input to.ran.ended sent e) (sym all.0) ((well_of end well to.ran).may sent here whole_sent))
      says other (inr (inl is_memory)) =
          wrote other (subst (λ (e : End). MayEnd p budget v to.ran.input to.ran.ended sent e) (sym is_memory) (inr (record { is_whole = (well_of end well to.ran).at_end; within = here }, front)))
      says other (inr (inr is_failed)) =
          wrote other (subst (λ (e : End). MayEnd p budget v to.ran.input to.ran.ended sent e) (sym is_failed) (inr (record { is_whole = (well_of end well to.ran).at_end; within = here }, front)))
