-- The first bytes of a run.
use Rattle.std.proofs.Common.{◌≡◌, ℕ, ◌≤◌, List, [], ◌∷◌, ◌++◌, false, Option, Some, None, length, ◌∙◌, ap, ap₂, sym, refl, subst, append_assoc, append-nil, arith}
use Rattle.port.specs.declared.link.Move.{Move}
use Rattle.port.specs.declared.link.Move.TheVariants.{In}
use Rattle.event_word.specs.StreamEvent.{StreamEvent}
use Rattle.event_frame.specs.declared.version.Version.{Version}
use Rattle.event_frame.specs.FrameReader.{FrameReader}
use Rattle.event_frame.specs.Reads.{Reads, SameBytes, CanTake, taken_bytes}
use Rattle.delta_end.specs.declared.end.End.TheVariants.{WriteFailed, Memory}
use Rattle.delta_loop.specs.Meaning.{Meaning, HasBegun}
use Rattle.delta_loop.specs.Output.{opening, output, due}
use Rattle.delta_loop.specs.Prompt.{IsPrompt}
use Rattle.delta_loop.specs.History.{History, Writes}
use Rattle.delta_loop.specs.Return.{Begins}
use Rattle.delta_loop.specs.Loop.{Serves, RanTo, IsFresh}
use Rattle.delta_loop.proofs.Early.{ran_early}
use Rattle.delta_loop.proofs.Lefts.{loses_nothing}
use Rattle.delta_loop.proofs.Limits.{within_limit}

-- two pieces written one after the other
pub writes-append : (first mid last : Option (List Move)) (sent more : List ℕ) → Writes first mid sent → Writes mid last more → Writes first last (sent ++ more)
writes-append first mid last sent more before after due start input output ended h =
    subst (λ (bs : List ℕ). History due start last input bs ended) (append_assoc output sent more) (after due start input (output ++ sent) ended (before due start input output ended h))

no_read : (before after : List Move) (bytes : List ℕ) → [] ≡ before ++ In bytes ∷ after → ⊥
no_read [] after bytes split = cc
no_read (m ∷ before) after bytes split = cc

-- no move is prompt
pub prompt_none : (due : List ℕ → List ℕ) → IsPrompt due []
prompt_none due before after bytes split = absurd (no_read before after bytes split)

-- a log that nothing was added to
pub fresh : (due : List ℕ → List ℕ) (log : Option (List Move)) → History due log log [] [] false
fresh due log = record { moves = []; logged = λ told is. is ∙ ap Some (sym (append-nil told)); read = refl; written = refl; at_end = refl; prompt = prompt_none due; last = tt }

module _ {M : Type 0} (stands : M → Meaning → List StreamEvent → Type 0) (P : Meaning) (old new : Option (List Move)) (m : M) (v : Option Version) (first sent rest : List ℕ) (begun : HasBegun stands P m v first) (split : opening v ++ first ≡ sent ++ rest) (writes : Writes old new sent) where
  -- the header and all that comes first were written
  pub opened : rest ≡ [] → Serves stands P old new m [] []
  opened none =
      let all : sent ≡ output P [] = sym (append-nil sent) ∙ ap (λ (bs : List ℕ). sent ++ bs) (sym none) ∙ sym split ∙ ap₂ (λ (w : Option Version) (bs : List ℕ). opening w ++ bs) begun.version begun.bytes ∙ sym (append-nil (opening P.version ++ P.first)) in record {
        history = subst (λ (bs : List ℕ). History (due P) old new [] bs false) all (writes (due P) old [] [] false (fresh (due P) old));
        accepts = refl;
        state = begun.state;
      }

  part_opened : Begins sent (due P [])
  part_opened = (rest, append-nil (opening P.version ++ P.first) ∙ sym (ap₂ (λ (w : Option Version) (bs : List ℕ). opening w ++ bs) begun.version begun.bytes) ∙ split)

  -- a part of them, and then the link failed
  pub ran_failing : (left0 left1 : Option (List ℕ)) → left1 ≡ left0 → RanTo stands P old new left0 left1 m WriteFailed
  ran_failing left0 left1 same = ran_early stands P old new left0 left1 m WriteFailed record {
    input = [];
    ended = false;
    at = record { written = sent; history = writes (due P) old [] [] false (fresh (due P) old); may = part_opened };
    limit = within_limit WriteFailed 0 (omega arith);
    taken = loses_nothing left0 left1 same;
    used_up = λ never. cc;
  } refl

  -- or memory ran out in the link
  pub ran_wanting : (left0 left1 : Option (List ℕ)) → left1 ≡ left0 → RanTo stands P old new left0 left1 m Memory
  ran_wanting left0 left1 same = ran_early stands P old new left0 left1 m Memory record {
    input = [];
    ended = false;
    at = record { written = sent; history = writes (due P) old [] [] false (fresh (due P) old); may = part_opened };
    limit = within_limit Memory 0 (omega arith);
    taken = loses_nothing left0 left1 same;
    used_up = λ never. cc;
  } refl

-- memory ran out before anything was written
pub ran_nothing : {M : Type 0} (stands : M → Meaning → List StreamEvent → Type 0) (P : Meaning) (log : Option (List Move)) (left : Option (List ℕ)) (m : M) → RanTo stands P log log left left m Memory
ran_nothing stands P log left m = ran_early stands P log log left left m Memory record {
  input = [];
  ended = false;
  at = record { written = []; history = fresh (due P) log; may = (due P [], refl) };
  limit = within_limit Memory 0 (omega arith);
  taken = loses_nothing left left refl;
  used_up = λ never. cc;
} refl

-- a new reader is as new where only its room grew
pub still_fresh : (old new : FrameReader) → Reads old [] [] → old.version ≡ None → old.kept ≡ [] → SameBytes old new → 4137 ≤ new.spare → IsFresh new
still_fresh old new reads version kept same room =
    let now : new.version ≡ None = same.version ∙ version in
    let none : new.kept ≡ [] = same.kept ∙ kept in
    let taken : new.taken ≡ 0 = same.taken ∙ reads.place ∙ ap (λ (o : Option Version). vlength o) version in record {
      reads = record {
        split = sym (ap (λ (o : Option Version). taken_bytes o [] ++ new.kept) now ∙ none);
        place = taken ∙ sym (ap vlength now);
        events = subst (λ (o : Option Version). CanTake o []) (sym now) refl;
      };
      taken = taken;
      kept = none;
      room = room;
    }
  where
    vlength : Option Version → ℕ
    vlength o = length (taken_bytes o [])
