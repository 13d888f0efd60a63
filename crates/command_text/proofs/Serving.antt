-- One piece of input, from what stood before it to what stands after it.
use Rattle.std.proofs.Common.{◌≡◌, ℕ, ◌+◌, ◌<◌, ◌≤◌, ◌^◌, List, [], ◌++◌, Bool, true, false, Option, None, option_map, length, take, ◌∙◌, ap, sym, refl, subst, append-nil, arith, length-append}
use Rattle.std.proofs.lemmas.List.{take_at}
use Rattle.port.specs.declared.link.Move.{Move}
use Rattle.port.specs.Told.{Loses}
use Rattle.event_word.specs.StreamEvent.{StreamEvent}
use Rattle.event_frame.specs.declared.version.Version.{Version}
use Rattle.event_frame.specs.Frames.{header, frames}
use Rattle.delta_end.specs.declared.end.End.{End}
use Rattle.delta_end.specs.declared.end.End.TheVariants.{ReadFailed, Memory, Long}
use Rattle.command_text.specs.Fault.{line_fault}
use Rattle.command_text.specs.declared.fault.LineRefusal.{LineRefusal}
use Rattle.command_text.specs.LineState.{LineState}
use Rattle.delta_loop.specs.History.{History, Writes}
use Rattle.command_text.specs.Reading.{first_line, Taken, Within, taken, behind, stop, refused_in}
use Rattle.command_text.specs.Conversion.{frames_of_lines, Ended, Ran}
use Rattle.command_text.specs.Loop.{Feeds, Goes, Pulls}
use Rattle.delta_loop.specs.Loop.{PullEnds}
use Rattle.command_text.specs.Sending.{IsOfSending}
use Rattle.command_text.proofs.Feeding.{may_send}
use Rattle.delta_loop.proofs.Lefts.{loses_more, loses_nothing, read_all}
use Rattle.delta_loop.proofs.Limits.{within_limit}
use Rattle.delta_loop.proofs.Opening.{fresh}
use Rattle.delta_loop.proofs.Serving.{not_empty}

module _ (v : Version) (start log0 : Option (List Move)) (left left0 : Option (List ℕ)) (r : LineState) (total : ℕ) (now : Goes v start log0 left left0 r total) where
  whole_input : taken v now.input ≡ behind now.feeds.word (stop (Within r))
  whole_input = ap (taken v) (sym (append-nil now.input)) ∙ now.feeds.reads.all []

  -- all that is due was written
  pub met : header v ++ frames v now.feeds.word ≡ (frames_of_lines v).due now.input
  met = ap (λ (w : List StreamEvent). header v ++ frames v w) (sym (append-nil now.feeds.word)) ∙ sym (ap (λ (t : Taken). header v ++ frames v t.word) whole_input)

  -- what was read so far is good
  pub good : (frames_of_lines v).finding false now.input ≡ None
  good = ap (λ (t : Taken). option_map (λ (found : LineRefusal × ℕ). line_fault found.0 found.1) (refused_in t.ending)) whole_input

  -- the next piece has bytes
  pub feeds_more : (log1 : Option (List Move)) (left1 : Option (List ℕ)) (bytes : List ℕ) → Pulls log0 log1 left0 left1 bytes → 0 < length bytes
      → Feeds v start log1 r (now.input ++ bytes) now.input false
  feeds_more log1 left1 bytes pulls some = record {
    word = now.feeds.word;
    history = subst (λ (ended : Bool). History (frames_of_lines v).due start log1 (now.input ++ bytes) (header v ++ frames v now.feeds.word) ended) (not_empty bytes some)
        (pulls.history (frames_of_lines v).due start now.input (header v ++ frames v now.feeds.word) now.feeds.history met);
    reads = now.feeds.reads;
  }

  -- and it was read
  pub goes_more : (log1 log2 : Option (List Move)) (left1 left2 : Option (List ℕ)) (next : LineState) (bytes : List ℕ) (count : ℕ) → Pulls log0 log1 left0 left1 bytes → left2 ≡ left1
      → length bytes ≡ count → Feeds v start log2 next (now.input ++ bytes) (now.input ++ bytes) false → Goes v start log2 left left2 next (total + count)
  goes_more log1 log2 left1 left2 next bytes count pulls same long feeds = record {
    input = now.input ++ bytes;
    feeds = feeds;
    count = omega (arith, now.count, length-append now.input bytes);
    taken = subst (λ (l : Option (List ℕ)). Loses left l (now.input ++ bytes)) (sym same) (loses_more left left0 left1 now.input bytes now.taken pulls.taken);
  }

  -- or the run ended in it
  pub ended_in_piece : (log1 log2 : Option (List Move)) (left1 left2 : Option (List ℕ)) (bytes : List ℕ) (end : End) → Pulls log0 log1 left0 left1 bytes → left2 ≡ left1
      → total + length bytes ≤ 2 ^ 40 → Ended (frames_of_lines v) start log2 (now.input ++ bytes) false end → Ran (frames_of_lines v) start log2 left left2 end
  ended_in_piece log1 log2 left1 left2 bytes end pulls same within at = record {
    input = now.input ++ bytes;
    ended = false;
    at = at;
    limit = within_limit end (length (now.input ++ bytes)) (omega (arith, now.count, within, length-append now.input bytes));
    taken = subst (λ (l : Option (List ℕ)). Loses left l (now.input ++ bytes)) (sym same) (loses_more left left0 left1 now.input bytes now.taken pulls.taken);
    used_up = λ never. cc;
  }

  -- a read that gave nothing ends the input
  pub ran_to_end : (log1 log2 : Option (List Move)) (left1 left2 : Option (List ℕ)) (end : End) → total ≤ 2 ^ 40 → Pulls log0 log1 left0 left1 [] → left2 ≡ left1
      → (Feeds v start log1 r now.input now.input true → Ended (frames_of_lines v) start log2 now.input true end) → Ran (frames_of_lines v) start log2 left left2 end
  ran_to_end log1 log2 left1 left2 end within pulls same finished =
      let same_input : now.input ++ [] ≡ now.input = append-nil now.input in record {
        input = now.input;
        ended = true;
        at = finished (record {
          word = now.feeds.word;
          history = subst (λ (bs : List ℕ). History (frames_of_lines v).due start log1 bs (header v ++ frames v now.feeds.word) true) same_input
              (pulls.history (frames_of_lines v).due start now.input (header v ++ frames v now.feeds.word) now.feeds.history met);
          reads = now.feeds.reads;
        });
        limit = within_limit end (length now.input) (omega (arith, now.count, within));
        taken = subst (λ (l : Option (List ℕ)). Loses left l now.input) (sym same)
            (subst (λ (bs : List ℕ). Loses left left1 bs) same_input (loses_more left left0 left1 now.input [] now.taken pulls.taken));
        used_up = λ is. read_all left left0 now.input now.taken (pulls.used_up refl);
      }

  -- a read that ended the run
  pub ended_in_pull : (log1 : Option (List Move)) (left1 : Option (List ℕ)) (end : End) → total ≤ 2 ^ 40 → PullEnds log0 log1 left0 left1 end → Ran (frames_of_lines v) start log1 left left1 end
  ended_in_pull log1 left1 ReadFailed within same = record {
    input = now.input;
    ended = false;
    at = record {
      written = header v ++ frames v now.feeds.word;
      history = subst (λ (log : Option (List Move)). History (frames_of_lines v).due start log now.input (header v ++ frames v now.feeds.word) false) (sym same.0) now.feeds.history;
      may = (good, met);
    };
    limit = within_limit ReadFailed (length now.input) (omega (arith, now.count, within));
    taken = subst (λ (l : Option (List ℕ)). Loses left l now.input) (sym same.1) now.taken;
    used_up = λ never. cc;
  }
  ended_in_pull log1 left1 Memory within same = record {
    input = now.input;
    ended = false;
    at = record {
      written = header v ++ frames v now.feeds.word;
      history = subst (λ (log : Option (List Move)). History (frames_of_lines v).due start log now.input (header v ++ frames v now.feeds.word) false) (sym same.0) now.feeds.history;
      may = ([], sym met ∙ sym (append-nil (header v ++ frames v now.feeds.word)));
    };
    limit = within_limit Memory (length now.input) (omega (arith, now.count, within));
    taken = subst (λ (l : Option (List ℕ)). Loses left l now.input) (sym same.1) now.taken;
    used_up = λ never. cc;
  }
  ended_in_pull log1 left1 _ within never = absurd never

  -- one byte past the limit
  pub ran_too_long : (log1 : Option (List Move)) (left1 : Option (List ℕ)) (bytes : List ℕ) → total ≡ 2 ^ 40 → 0 < length bytes → length bytes ≤ 1
      → Pulls log0 log1 left0 left1 bytes → Ran (frames_of_lines v) start log1 left left1 Long
  ran_too_long log1 left1 bytes limit some one pulls =
      let front : take (2 ^ 40) (now.input ++ bytes) ≡ now.input = take_at now.input bytes (2 ^ 40) (now.count ∙ limit) in
      let all : (frames_of_lines v).finding false now.input ≡ None = good in record {
        input = now.input ++ bytes;
        ended = false;
        at = record {
          written = header v ++ frames v now.feeds.word;
          history = subst (λ (ended : Bool). History (frames_of_lines v).due start log1 (now.input ++ bytes) (header v ++ frames v now.feeds.word) ended) (not_empty bytes some)
              (pulls.history (frames_of_lines v).due start now.input (header v ++ frames v now.feeds.word) now.feeds.history met);
          may = (omega (arith, now.count, length-append now.input bytes), ap (λ (bs : List ℕ). (frames_of_lines v).finding false bs) front ∙ all, met ∙ ap (frames_of_lines v).due (sym front));
        };
        limit = record { most = omega (arith, now.count, limit, one, length-append now.input bytes); past = λ more. refl };
        taken = loses_more left left0 left1 now.input bytes now.taken pulls.taken;
        used_up = λ never. cc;
      }

-- the header was written
pub opens : (v : Version) (old new : Option (List Move)) (sent rest : List ℕ) → header v ≡ sent ++ rest → rest ≡ [] → Writes old new sent → Feeds v old new first_line [] [] false
opens v old new sent rest split none writes = record {
  word = [];
  history = subst (λ (out : List ℕ). History (frames_of_lines v).due old new [] out false)
      (sym (append-nil (header v) ∙ (split ∙ (ap (λ (bs : List ℕ). sent ++ bs) none ∙ append-nil sent))))
      (writes (frames_of_lines v).due old [] [] false (fresh (frames_of_lines v).due old));
  reads = record { all = λ more. refl };
}

-- the header was written in part
pub opens_in_part : (v : Version) (old new : Option (List Move)) (left new_left : Option (List ℕ)) (sent rest : List ℕ) (end : End) → header v ≡ sent ++ rest
    → Writes old new sent → new_left ≡ left → IsOfSending end → Ran (frames_of_lines v) old new left new_left end
opens_in_part v old new left new_left sent rest end split writes same of = record {
  input = [];
  ended = false;
  at = record {
    written = sent;
    history = writes (frames_of_lines v).due old [] [] false (fresh (frames_of_lines v).due old);
    may = may_send (frames_of_lines v) [] false sent end of (rest, append-nil (header v) ∙ split);
  };
  limit = within_limit end 0 (omega arith);
  taken = loses_nothing left new_left same;
  used_up = λ never. cc;
}
