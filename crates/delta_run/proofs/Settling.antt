-- The end and the bytes of a run that ended with 0, 4, 6 or 9 are those of its whole input.
use Rattle.std.proofs.Common.{◌≡◌, ◌⊎◌, inl, inr, ℕ, ◌+◌, ◌-◌, ◌<◌, ◌≤◌, ◌^◌, List, [], ◌∷◌, ◌++◌, Bool, true, false, Option, Some, None, length, take, ◌∙◌, ap, ap₂, sym, refl, subst, arith, length-append}
use Rattle.std.specs.Prelude.{nat_le}
use Rattle.std.proofs.Math.Seq.{take-append-add}
use Rattle.std.proofs.lemmas.Bool.{le-leb}
use Rattle.std.proofs.lemmas.Bool.Decides.{leb_tells}
use Rattle.std.proofs.lemmas.List.{take_all, take-append-le}
use Rattle.port.specs.declared.link.Move.{Move}
use Rattle.port.specs.Moves.{bytes_written}
use Rattle.event_word.specs.StreamEvent.{StreamEvent}
use Rattle.event_word.specs.declared.fault.EventFault.{EventFault}
use Rattle.event_frame.specs.declared.version.Version.{Version}
use Rattle.event_frame.specs.declared.version.Version.TheVariants.{V1, V2}
use Rattle.event_frame.specs.Frames.{header, frames}
use Rattle.event_frame.specs.Reading.{whole, ending, Ending, Whole, Inside, Bad}
use Rattle.event_frame.proofs.MoreBytes.{more_bytes}
use Rattle.event_frame.proofs.WholeLaws.{no_header_no_event}
use Rattle.delta_end.specs.declared.end.InputFault.{InputFault}
use Rattle.delta_end.specs.declared.end.InputFault.TheVariants.{Event}
use Rattle.delta_end.specs.declared.end.End.{End}
use Rattle.delta_end.specs.declared.end.End.TheVariants.{Done, Usage, Refused, Input, Budget, Deep, Open, FileFailed, ReadFailed, WriteFailed, Memory, Long, Objected}
use Rattle.delta_loop.specs.Meaning.{Meaning}
use Rattle.delta_loop.specs.Finding.{version_of, place_in, fault_or, event_finding, byte_finding, finding}
use Rattle.delta_loop.specs.Output.{up_to_fault, accepted, accepted_after, answers_after, opening, output, due}
use Rattle.delta_loop.specs.Loop.{Ran}
use Rattle.delta_loop.specs.Answer.{Adds}
use Rattle.delta_loop.proofs.Findings.{finding_all}
use Rattle.delta_loop.proofs.Limits.{few_read}
use Rattle.delta_run.specs.Settled.{counted, ends_there, end_by, end_after, end_over, IsSettled}

-- fewer than four bytes hold no event
short_unread : (bytes : List ℕ) → length bytes < 4 → whole bytes ≡ []
short_unread bytes short = no_header_no_event bytes too_long
  where
    too_long : (v : Version) (more : List ℕ) → bytes ≡ header v ++ more → ⊥
    too_long V1 more same = omega (arith, short, ap (λ (bs : List ℕ). length bs) same)
    too_long V2 more same = omega (arith, short, ap (λ (bs : List ℕ). length bs) same)

-- the version that the bytes tell stays where more come, once there is an event
version_stays : (bytes rest : List ℕ) → (whole bytes ≡ []) ⊎ (version_of (bytes ++ rest) ≡ version_of bytes)
version_stays [] rest = inl (short_unread [] (omega arith))
version_stays (a ∷ []) rest = inl (short_unread (a ∷ []) (omega arith))
version_stays (a ∷ b ∷ []) rest = inl (short_unread (a ∷ b ∷ []) (omega arith))
version_stays (a ∷ b ∷ c ∷ []) rest = inl (short_unread (a ∷ b ∷ c ∷ []) (omega arith))
version_stays (a ∷ b ∷ c ∷ d ∷ bytes) rest = inr refl

-- a fault that is found in a word, or behind it, is found there too where more events and bytes come
events_found : (P : Meaning) (bytes longer : List ℕ) (before word more : List StreamEvent) (behind now : Option InputFault) (fault : InputFault) → (word ≡ []) ⊎ (version_of longer ≡ version_of bytes)
    → event_finding P bytes before word behind ≡ Some fault
    → ((event_finding P longer before (word ++ more) now ≡ Some fault) × (accepted_after P before (word ++ more) ≡ accepted_after P before word)) ⊎ ((behind ≡ Some fault) × (accepted_after P before word ≡ word))
events_found P bytes longer before [] more behind now fault version found = inr (found, refl)
events_found P bytes longer before (x ∷ word) more behind now fault version found =
    by_fault (P.fault before x) (kept version) found (λ v f. events_found P bytes longer (before ++ x ∷ []) word more behind now fault (inr v) f)
  where
    kept : (x ∷ word ≡ []) ⊎ (version_of longer ≡ version_of bytes) → version_of longer ≡ version_of bytes
    kept (inl none) = cc
    kept (inr same) = same

    later : ((event_finding P longer (before ++ x ∷ []) (word ++ more) now ≡ Some fault) × (accepted_after P (before ++ x ∷ []) (word ++ more) ≡ accepted_after P (before ++ x ∷ []) word))
        ⊎ ((behind ≡ Some fault) × (accepted_after P (before ++ x ∷ []) word ≡ word))
        → ((event_finding P longer (before ++ x ∷ []) (word ++ more) now ≡ Some fault) × (x ∷ accepted_after P (before ++ x ∷ []) (word ++ more) ≡ x ∷ accepted_after P (before ++ x ∷ []) word))
        ⊎ ((behind ≡ Some fault) × (x ∷ accepted_after P (before ++ x ∷ []) word ≡ x ∷ word))
    later (inl there) = inl (there.0, ap (λ (w : List StreamEvent). x ∷ w) there.1)
    later (inr there) = inr (there.0, ap (λ (w : List StreamEvent). x ∷ w) there.1)

    by_fault : (o : Option EventFault) → version_of longer ≡ version_of bytes → fault_or o (place_in bytes before) (event_finding P bytes (before ++ x ∷ []) word behind) ≡ Some fault
        → (version_of longer ≡ version_of bytes → event_finding P bytes (before ++ x ∷ []) word behind ≡ Some fault
        → ((event_finding P longer (before ++ x ∷ []) (word ++ more) now ≡ Some fault) × (accepted_after P (before ++ x ∷ []) (word ++ more) ≡ accepted_after P (before ++ x ∷ []) word))
        ⊎ ((behind ≡ Some fault) × (accepted_after P (before ++ x ∷ []) word ≡ word)))
        → ((fault_or o (place_in longer before) (event_finding P longer (before ++ x ∷ []) (word ++ more) now) ≡ Some fault)
        × (up_to_fault o x (accepted_after P (before ++ x ∷ []) (word ++ more)) ≡ up_to_fault o x (accepted_after P (before ++ x ∷ []) word)))
        ⊎ ((behind ≡ Some fault) × (up_to_fault o x (accepted_after P (before ++ x ∷ []) word) ≡ x ∷ word))
    by_fault None same here rest = later (rest same here)
    by_fault (Some wrong) same here rest = inl (ap (λ (v : Version). Some (Event wrong (length (header v ++ frames v before)))) same ∙ here, refl)

-- a fault that is found before the input's end is that of the input with more of it, to its end or not, and what is due doesn't grow
found_early : (P : Meaning) (input rest : List ℕ) (ended : Bool) (fault : InputFault) → finding P input false ≡ Some fault
    → (finding P (input ++ rest) ended ≡ Some fault) × (due P (input ++ rest) ≡ due P input)
found_early P input rest ended fault found =
    by_found (events_found P input (input ++ rest) [] (whole input) (more_bytes input rest).0.0 (byte_finding (ending input) false (length input))
    (byte_finding (ending (input ++ rest)) ended (length (input ++ rest))) fault (version_stays input rest) found)
  where
    by_end : (e : Ending) → ending input ≡ e → byte_finding e false (length input) ≡ Some fault → accepted P (whole input) ≡ whole input
        → (finding P (input ++ rest) ended ≡ Some fault) × (due P (input ++ rest) ≡ due P input)
    by_end Whole is here all = absurd (let clash : ⊥ = cc in clash)
    by_end Inside is here all = absurd (let clash : ⊥ = cc in clash)
    by_end (Bad wrong) is here all =
        let same = (more_bytes input rest).1 wrong is in (
          finding_all P (input ++ rest) (whole input) ended all same.0 ∙ ap (λ (e : Ending). byte_finding e ended (length (input ++ rest))) same.1 ∙ here,
          ap (λ (w : List StreamEvent). output P (accepted P w)) same.0,
        )

    by_found : ((event_finding P (input ++ rest) [] (whole input ++ (more_bytes input rest).0.0) (byte_finding (ending (input ++ rest)) ended (length (input ++ rest))) ≡ Some fault)
        × (accepted P (whole input ++ (more_bytes input rest).0.0) ≡ accepted P (whole input)))
        ⊎ ((byte_finding (ending input) false (length input) ≡ Some fault) × (accepted P (whole input) ≡ whole input))
        → (finding P (input ++ rest) ended ≡ Some fault) × (due P (input ++ rest) ≡ due P input)
    by_found (inl there) = (
      ap (λ (w : List StreamEvent). event_finding P (input ++ rest) [] w (byte_finding (ending (input ++ rest)) ended (length (input ++ rest)))) (more_bytes input rest).0.1 ∙ there.0,
      ap (output P) (ap (accepted P) (more_bytes input rest).0.1 ∙ there.1),
    )
    by_found (inr there) = by_end (ending input) refl there.0 there.1

-- of an input that isn't too long all bytes count
pub all_count : (all : List ℕ) → length all ≤ 2 ^ 40 → (counted all ≡ all) × (ends_there all ≡ true)
all_count all few = (take_all (2 ^ 40) all few, le-leb (length all) (2 ^ 40) few)

-- a front that isn't too long counts whole
front_counts : (input rest : List ℕ) → length input ≤ 2 ^ 40 → counted (input ++ rest) ≡ input ++ take (2 ^ 40 - length input) rest
front_counts input rest few =
    let n : length input + (2 ^ 40 - length input) ≡ 2 ^ 40 = omega (arith, few) in
    subst (λ (m : ℕ). take m (input ++ rest) ≡ input ++ take (2 ^ 40 - length input) rest) n (take-append-add input rest (2 ^ 40 - length input))

-- where more than 2^40 bytes were read, no more of them count
more_counts : (input rest : List ℕ) → 2 ^ 40 < length input → (counted (input ++ rest) ≡ counted input) × (ends_there (input ++ rest) ≡ false)
more_counts input rest more = (take-append-le (2 ^ 40) input rest (omega (arith, more)), by_test (leb_tells (length (input ++ rest)) (2 ^ 40)))
  where
    by_test : ((nat_le (length (input ++ rest)) (2 ^ 40) ≡ true) × (length (input ++ rest) ≤ 2 ^ 40)) ⊎ ((nat_le (length (input ++ rest)) (2 ^ 40) ≡ false) × (2 ^ 40 < length (input ++ rest)))
        → nat_le (length (input ++ rest)) (2 ^ 40) ≡ false
    by_test (inl few) = absurd (omega (arith, few.1, more, length-append input rest))
    by_test (inr is) = is.0

module _ (P : Meaning) (old new : Option (List Move)) (left0 left1 : Option (List ℕ)) (all : List ℕ) (tells : left0 ≡ Some all) where
  abbrev Settles : End → Type 0
  Settles end = (end ≡ end_over P all) × Adds old new (λ moves. bytes_written moves ≡ due P (counted all))

  -- what was written is due for the bytes that count
  wrote : (end : End) (ran : Ran P old new left0 left1 end) → ran.at.written ≡ due P (counted all) → Adds old new (λ moves. bytes_written moves ≡ due P (counted all))
  wrote end ran written told is = (ran.at.history.moves, ran.at.history.logged told is, ran.at.history.written ∙ written)

  -- a run that read its input to the end
  over_all : (end : End) (ran : Ran P old new left0 left1 end) → (end ≡ Long → ⊥) → (o : Option InputFault) (b : Bool) → ran.ended ≡ true → finding P ran.input true ≡ o
      → P.finishes (accepted P (whole ran.input)) ≡ b → ran.at.written ≡ due P ran.input → Settles (end_by o true b)
  over_all end ran short o b ended found finishes written =
      let same : ran.input ≡ all = sym (ran.used_up ended all tells) in
      let few = few_read end (length ran.input) ran.limit short in
      let count = all_count all (subst (λ (bs : List ℕ). length bs ≤ 2 ^ 40) same few) in (
        sym (ap (λ (f : Option InputFault). end_by f true b) found) ∙ sym (ap (end_by (finding P ran.input true) true) finishes) ∙ ap (λ (bs : List ℕ). end_after P bs true) same
            ∙ sym (ap₂ (end_after P) count.0 count.1),
        wrote end ran (written ∙ ap (due P) (same ∙ sym count.0)),
      )

  -- a run that was refused in its input
  over_front : (fault : InputFault) (ran : Ran P old new left0 left1 (Input fault)) → finding P ran.input false ≡ Some fault → ran.at.written ≡ due P ran.input → Settles (Input fault)
  over_front fault ran found written =
      let rest = (ran.taken all tells).0 in
      let few = few_read (Input fault) (length ran.input) ran.limit (λ is. cc) in
      let split : counted all ≡ ran.input ++ take (2 ^ 40 - length ran.input) rest = ap counted (ran.taken all tells).2 ∙ front_counts ran.input rest few in
      let early = found_early P ran.input (take (2 ^ 40 - length ran.input) rest) (ends_there all) fault found in (
        sym (ap (λ (f : Option InputFault). end_by f (ends_there all) (P.finishes (accepted P (whole (counted all))))) (ap (λ (bs : List ℕ). finding P bs (ends_there all)) split ∙ early.0)),
        wrote (Input fault) ran (written ∙ sym early.1 ∙ sym (ap (due P) split)),
      )

  input_settles : (fault : InputFault) (ran : Ran P old new left0 left1 (Input fault)) (ended : Bool) → ran.ended ≡ ended → finding P ran.input ended ≡ Some fault → ran.at.written ≡ due P ran.input → Settles (Input fault)
  input_settles fault ran true is found written = over_all (Input fault) ran (λ same. cc) (Some fault) (P.finishes (accepted P (whole ran.input))) is found refl written
  input_settles fault ran false is found written = over_front fault ran found written

  -- a run that read a byte too many
  over_more : (ran : Ran P old new left0 left1 Long) → Settles Long
  over_more ran =
      let rest = (ran.taken all tells).0 in
      let split : all ≡ ran.input ++ rest = (ran.taken all tells).2 in
      let count = more_counts ran.input rest ran.at.may.0 in
      let front : counted all ≡ counted ran.input = ap counted split ∙ count.0 in (
        sym (ap₂ (end_after P) front (ap ends_there split ∙ count.1) ∙ ap (λ (f : Option InputFault). end_by f false (P.finishes (accepted P (whole (counted ran.input))))) ran.at.may.1),
        wrote Long ran (ran.at.may.2 ∙ sym (ap (due P) front)),
      )

  -- a run settles by the table of ends
  pub run_settles : (end : End) → Ran P old new left0 left1 end → IsSettled P all old new end
  run_settles Done ran over =
      let may = ran.at.may in
      over_all Done ran (λ is. cc) None true may.0 (subst (λ (b : Bool). finding P ran.input b ≡ None) may.0 may.1) may.2 may.3
  run_settles Open ran over =
      let may = ran.at.may in
      over_all Open ran (λ is. cc) None false may.0 (subst (λ (b : Bool). finding P ran.input b ≡ None) may.0 may.1) may.2 may.3
  run_settles (Input fault) ran over = input_settles fault ran ran.ended refl ran.at.may.0 ran.at.may.1
  run_settles Long ran over = over_more ran
  run_settles Usage ran over = absurd over
  run_settles (Objected what) ran over = absurd over
  run_settles (Refused why) ran over = absurd over
  run_settles (Budget at) ran over = absurd over
  run_settles (Deep at) ran over = absurd over
  run_settles FileFailed ran over = absurd over
  run_settles ReadFailed ran over = absurd over
  run_settles WriteFailed ran over = absurd over
  run_settles Memory ran over = absurd over

-- neither what is found in an input nor what is accepted, answered or due hangs on the budget
module _ (P : Meaning) (c : ℕ) where
  abbrev with_budget : Meaning
  with_budget = record P { budget = c }

  same_found : (bytes : List ℕ) (before word : List StreamEvent) (behind : Option InputFault) → event_finding P bytes before word behind ≡ event_finding with_budget bytes before word behind
  same_found bytes before [] behind = refl
  same_found bytes before (x ∷ word) behind = ap (λ (o : Option InputFault). fault_or (P.fault before x) (place_in bytes before) o) (same_found bytes (before ++ x ∷ []) word behind)

  same_accepted : (before word : List StreamEvent) → accepted_after P before word ≡ accepted_after with_budget before word
  same_accepted before [] = refl
  same_accepted before (x ∷ word) = ap (λ (w : List StreamEvent). up_to_fault (P.fault before x) x w) (same_accepted (before ++ x ∷ []) word)

  same_answers : (before word : List StreamEvent) → answers_after P before word ≡ answers_after with_budget before word
  same_answers before [] = refl
  same_answers before (x ∷ word) = ap (λ (bytes : List ℕ). P.answer before x ++ bytes) (same_answers (before ++ x ∷ []) word)

  pub same_due : (all : List ℕ) → due P all ≡ due with_budget all
  same_due all =
      ap (λ (bytes : List ℕ). (opening P.version ++ P.first) ++ bytes) (same_answers [] (accepted P (whole all))) ∙ ap (output with_budget) (same_accepted [] (whole all))

  same_end : (all : List ℕ) → end_over P all ≡ end_over with_budget all
  same_end all =
      let bytes = counted all in
      let ends = ends_there all in
      ap (λ (o : Option InputFault). end_by o ends (P.finishes (accepted P (whole bytes)))) (same_found bytes [] (whole bytes) (byte_finding (ending bytes) ends (length bytes)))
      ∙ ap (λ (w : List StreamEvent). end_by (finding with_budget bytes ends) ends (P.finishes w)) (same_accepted [] (whole bytes))

  -- so a run settles with any budget
  pub any_budget : (all : List ℕ) (old new : Option (List Move)) (end : End) → IsSettled P all old new end → IsSettled with_budget all old new end
  any_budget all old new end settles over =
      let settled = settles over in (
        settled.0 ∙ same_end all,
        λ told is. let adds = settled.1 told is in (adds.0, adds.1, adds.2 ∙ same_due (counted all)),
      )
