-- One piece of input, from what stood before it to what stands after it.
use Rattle.std.proofs.Common.{◌≡◌, ◌≢◌, ℕ, ◌+◌, ◌<◌, ◌≤◌, List, [], ◌∷◌, ◌++◌, Bool, true, false, Option, Some, None, length, take, ◌^◌, ◌∙◌, ap, sym, refl, subst, append-nil, arith, length-append}
use Rattle.std.proofs.lemmas.List.{take_at}
use Rattle.port.specs.declared.link.Move.{Move}
use Rattle.port.specs.Told.{Loses}
use Rattle.event_word.specs.StreamEvent.{StreamEvent}
use Rattle.event_frame.specs.declared.fault.FrameFault.{FrameFault}
use Rattle.event_frame.specs.FrameReader.{FrameReader}
use Rattle.event_frame.specs.Reading.{whole, ending, Ending, Whole, Inside, Bad}
use Rattle.event_frame.specs.Reads.{Reads, fault_of}
use Rattle.delta_end.specs.declared.end.InputFault.{InputFault}
use Rattle.delta_end.specs.declared.end.InputFault.TheVariants.{Frame}
use Rattle.delta_end.specs.declared.end.End.{End}
use Rattle.delta_end.specs.declared.end.End.TheVariants.{Done, Open, Input, ReadFailed, Memory, Long}
use Rattle.delta_loop.specs.Meaning.{Meaning}
use Rattle.delta_loop.specs.Output.{accepted, output, due}
use Rattle.delta_loop.specs.Finding.{byte_finding, finding}
use Rattle.delta_loop.specs.History.{History, is_empty}
use Rattle.delta_loop.specs.Return.{MayEnd}
use Rattle.delta_loop.specs.Loop.{Feeds, Settles, Goes, Pulls, PullEnds, Ended, Ran, RanTo}
use Rattle.delta_loop.proofs.Early.{ran_early}
use Rattle.delta_loop.proofs.Findings.{due_all, finding_all}
use Rattle.delta_loop.proofs.Lefts.{loses_more, read_all}
use Rattle.delta_loop.proofs.Limits.{within_limit}

pub not_empty : (xs : List ℕ) → 0 < length xs → is_empty xs ≡ false
not_empty [] some = absurd (let no_byte : ⊥ = omega arith in no_byte)
not_empty (x ∷ xs) some = refl

-- what is found in bytes that are no fault, where the input has not ended
sound_is_good : (e : Ending) (count : ℕ) → ((fault : FrameFault) → e ≢ Bad fault) → byte_finding e false count ≡ None
sound_is_good Whole count sound = refl
sound_is_good Inside count sound = refl
sound_is_good (Bad fault) count sound = absurd (sound fault refl)

-- the fault that a reader answers at the end of the input is what is found there
found_at_end : (e : Ending) (count : ℕ) (fault : FrameFault) → fault_of e count ≡ Some fault → byte_finding e true count ≡ Some (Frame fault)
found_at_end Whole count fault is = cc
found_at_end Inside count fault is = ap (λ (o : Option FrameFault). as_found o) is
  where
    as_found : Option FrameFault → Option InputFault
    as_found (Some fault) = Some (Frame fault)
    as_found None = None
found_at_end (Bad bad) count fault is = cc

none_at_end : (e : Ending) (count : ℕ) → fault_of e count ≡ None → byte_finding e true count ≡ None
none_at_end Whole count is = refl
none_at_end Inside count is = cc
none_at_end (Bad bad) count is = cc

module _ (P : Meaning) (input : List ℕ) (word : List StreamEvent) (accepts : accepted P word ≡ word) (all : whole input ≡ word) where
  -- the input ended inside the header or a frame
  pub ends_cut : (fault : FrameFault) → fault_of (ending input) (length input) ≡ Some fault → MayEnd P input true (output P word) (Input (Frame fault))
  ends_cut fault is = (finding_all P input word true accepts all ∙ found_at_end (ending input) (length input) fault is, due_all P input word accepts all)

  -- the input ended between frames, and may end there
  pub ends_done : fault_of (ending input) (length input) ≡ None → P.finishes word ≡ true → P.is_whole word ≡ true → MayEnd P input true (output P word) Done
  ends_done is finishes is_whole = (
    refl,
    finding_all P input word true accepts all ∙ none_at_end (ending input) (length input) is,
    ap P.finishes (ap (accepted P) all ∙ accepts) ∙ finishes,
    due_all P input word accepts all,
    ap P.is_whole (ap (accepted P) all ∙ accepts) ∙ is_whole,
  )

  -- or may not
  pub ends_open : fault_of (ending input) (length input) ≡ None → P.finishes word ≡ false → MayEnd P input true (output P word) Open
  ends_open is finishes = (
    refl,
    finding_all P input word true accepts all ∙ none_at_end (ending input) (length input) is,
    ap P.finishes (ap (accepted P) all ∙ accepts) ∙ finishes,
    due_all P input word accepts all,
  )

module _ {M : Type 0} (stands : M → Meaning → List StreamEvent → Type 0) (P : Meaning) (start log0 : Option (List Move)) (left left0 : Option (List ℕ)) (m : M) (r : FrameReader) (total : ℕ) (now : Goes stands P start log0 left left0 m r total) where
  -- all that is due was written
  pub met : output P now.settles.word ≡ due P now.input
  met = due_all P now.input now.settles.word now.settles.serves.accepts now.settles.all

  -- what was read so far is good
  pub good : finding P now.input false ≡ None
  good = finding_all P now.input now.settles.word false now.settles.serves.accepts now.settles.all ∙ sound_is_good (ending now.input) (length now.input) now.settles.sound

  -- the next piece has bytes
  pub feeds_more : (log1 : Option (List Move)) (left1 : Option (List ℕ)) (next : FrameReader) (bytes : List ℕ) → Pulls log0 log1 left0 left1 r next bytes → 0 < length bytes
      → Feeds stands P start log1 m next (now.input ++ bytes)
  feeds_more log1 left1 next bytes pulls some = record {
    word = now.settles.word;
    serves = record {
      history = subst (λ (ended : Bool). History (due P) start log1 (now.input ++ bytes) (output P now.settles.word) ended) (not_empty bytes some)
          (pulls.history (due P) start now.input (output P now.settles.word) now.settles.serves.history met);
      accepts = now.settles.serves.accepts;
      state = now.settles.serves.state;
    };
    reads = pulls.reads now.input now.settles.word now.settles.reads;
  }

  -- and its whole frames were answered
  pub goes_more : (log1 log2 : Option (List Move)) (left1 left2 : Option (List ℕ)) (next last : FrameReader) (n : M) (bytes : List ℕ) (count : ℕ) → Pulls log0 log1 left0 left1 r next bytes → left2 ≡ left1 → length bytes ≡ count
      → Settles stands P start log2 n last (now.input ++ bytes) → Goes stands P start log2 left left2 n last (total + count)
  goes_more log1 log2 left1 left2 next last n bytes count pulls same long settles = record {
    input = now.input ++ bytes;
    settles = settles;
    count = omega (arith, now.count, length-append now.input bytes);
    taken = subst (λ (l : Option (List ℕ)). Loses left l (now.input ++ bytes)) (sym same) (loses_more left left0 left1 now.input bytes now.taken pulls.taken);
  }

  -- or the run ended in it
  pub ended_in_piece : (log1 log2 : Option (List Move)) (left1 left2 : Option (List ℕ)) (next : FrameReader) (n : M) (bytes : List ℕ) (end : End) → Pulls log0 log1 left0 left1 r next bytes → left2 ≡ left1
      → total + length bytes ≤ 2 ^ 40 → Ended P start log2 (now.input ++ bytes) false end → RanTo stands P start log2 left left2 n end
  ended_in_piece log1 log2 left1 left2 next n bytes end pulls same within at = ran_early stands P start log2 left left2 n end record {
    input = now.input ++ bytes;
    ended = false;
    at = at;
    limit = within_limit end (length (now.input ++ bytes)) (omega (arith, now.count, within, length-append now.input bytes));
    taken = subst (λ (l : Option (List ℕ)). Loses left l (now.input ++ bytes)) (sym same) (loses_more left left0 left1 now.input bytes now.taken pulls.taken);
    used_up = λ never. cc;
  } refl

  -- a read that gave nothing ends the input
  pub ran_to_end : (log1 : Option (List Move)) (left1 : Option (List ℕ)) (next : FrameReader) (end : End) → total ≤ 2 ^ 40 → Pulls log0 log1 left0 left1 r next []
      → ((input : List ℕ) (word : List StreamEvent) → accepted P word ≡ word → stands m P word → Reads next input word → whole input ≡ word → ((fault : FrameFault) → ending input ≢ Bad fault) → MayEnd P input true (output P word) end)
      → RanTo stands P start log1 left left1 m end
  ran_to_end log1 left1 next end within pulls finished =
      let same : now.input ++ [] ≡ now.input = append-nil now.input in
      let reads = subst (λ (bs : List ℕ). Reads next bs now.settles.word) same (pulls.reads now.input now.settles.word now.settles.reads) in
      let ran : Ran P start log1 left left1 end = record {
        input = now.input;
        ended = true;
        at = record {
          written = output P now.settles.word;
          history = subst (λ (bs : List ℕ). History (due P) start log1 bs (output P now.settles.word) true) same (pulls.history (due P) start now.input (output P now.settles.word) now.settles.serves.history met);
          may = finished now.input now.settles.word now.settles.serves.accepts now.settles.serves.state reads now.settles.all now.settles.sound;
        };
        limit = within_limit end (length now.input) (omega (arith, now.count, within));
        taken = subst (λ (bs : List ℕ). Loses left left1 bs) same (loses_more left left0 left1 now.input [] now.taken pulls.taken);
        used_up = λ is. read_all left left0 now.input now.taken (pulls.used_up refl);
      } in record { ran = ran; state = λ well. subst (stands m P) (sym now.settles.all) now.settles.serves.state }

  -- a read that ended the run
  pub ended_in_pull : (log1 : Option (List Move)) (left1 : Option (List ℕ)) (end : End) → total ≤ 2 ^ 40 → PullEnds log0 log1 left0 left1 end → RanTo stands P start log1 left left1 m end
  ended_in_pull log1 left1 ReadFailed within same = ran_early stands P start log1 left left1 m ReadFailed record {
    input = now.input;
    ended = false;
    at = record {
      written = output P now.settles.word;
      history = subst (λ (log : Option (List Move)). History (due P) start log now.input (output P now.settles.word) false) (sym same.0) now.settles.serves.history;
      may = (good, met);
    };
    limit = within_limit ReadFailed (length now.input) (omega (arith, now.count, within));
    taken = subst (λ (l : Option (List ℕ)). Loses left l now.input) (sym same.1) now.taken;
    used_up = λ never. cc;
  } refl
  ended_in_pull log1 left1 Memory within same = ran_early stands P start log1 left left1 m Memory record {
    input = now.input;
    ended = false;
    at = record {
      written = output P now.settles.word;
      history = subst (λ (log : Option (List Move)). History (due P) start log now.input (output P now.settles.word) false) (sym same.0) now.settles.serves.history;
      may = ([], sym met ∙ sym (append-nil (output P now.settles.word)));
    };
    limit = within_limit Memory (length now.input) (omega (arith, now.count, within));
    taken = subst (λ (l : Option (List ℕ)). Loses left l now.input) (sym same.1) now.taken;
    used_up = λ never. cc;
  } refl
  ended_in_pull log1 left1 _ within never = absurd never

  -- one byte past the limit
  pub ran_too_long : (log1 : Option (List Move)) (left1 : Option (List ℕ)) (bytes : List ℕ) → total ≡ 2 ^ 40 → 0 < length bytes → length bytes ≤ 1
      → ((due : List ℕ → List ℕ) (input output : List ℕ) → History due start log0 input output false → output ≡ due input → History due start log1 (input ++ bytes) output (is_empty bytes))
      → Loses left0 left1 bytes → RanTo stands P start log1 left left1 m Long
  ran_too_long log1 left1 bytes limit some one history taken =
      let front : take (2 ^ 40) (now.input ++ bytes) ≡ now.input = take_at now.input bytes (2 ^ 40) (now.count ∙ limit) in
      let all : finding P now.input false ≡ None = good in ran_early stands P start log1 left left1 m Long record {
        input = now.input ++ bytes;
        ended = false;
        at = record {
          written = output P now.settles.word;
          history = subst (λ (ended : Bool). History (due P) start log1 (now.input ++ bytes) (output P now.settles.word) ended) (not_empty bytes some)
              (history (due P) now.input (output P now.settles.word) now.settles.serves.history met);
          may = (omega (arith, now.count, length-append now.input bytes), ap (λ (bs : List ℕ). finding P bs false) front ∙ all, met ∙ ap (due P) (sym front));
        };
        limit = record { most = omega (arith, now.count, limit, one, length-append now.input bytes); past = λ more. refl };
        taken = loses_more left left0 left1 now.input bytes now.taken taken;
        used_up = λ never. cc;
      } refl
