-- A log with one move more: what was read and written, whether it is prompt, and whether it reads after the end.
use Rattle.std.proofs.Common.{◌≡◌, ℕ, List, [], ◌∷◌, ◌++◌, true, false, Option, ◌∙◌, ap, sym, refl, subst, append_assoc, append-nil}
use Rattle.std.proofs.lemmas.List.{same_from_push}
use Rattle.port.specs.declared.link.Move.{Move}
use Rattle.port.specs.declared.link.Move.TheVariants.{In, Out}
use Rattle.port.specs.Moves.{bytes_read, bytes_written}
use Rattle.port.specs.Told.{Grows}
use Rattle.delta_end.proofs.Growing.{grows_more}
use Rattle.delta_loop.specs.Prompt.{has_ended, has_read, IsPrompt, EndsReading}
use Rattle.delta_loop.specs.History.{History, Writes, is_empty}

pub read-append : (moves more : List Move) → bytes_read (moves ++ more) ≡ bytes_read moves ++ bytes_read more
read-append [] more = refl
read-append (In bytes ∷ moves) more = ap (λ (bs : List ℕ). bytes ++ bs) (read-append moves more) ∙ sym (append_assoc bytes (bytes_read moves) (bytes_read more))
read-append (Out bytes ∷ moves) more = read-append moves more

pub written-append : (moves more : List Move) → bytes_written (moves ++ more) ≡ bytes_written moves ++ bytes_written more
written-append [] more = refl
written-append (In bytes ∷ moves) more = written-append moves more
written-append (Out bytes ∷ moves) more = ap (λ (bs : List ℕ). bytes ++ bs) (written-append moves more) ∙ sym (append_assoc bytes (bytes_written moves) (bytes_written more))

pub ended-append : (moves more : List Move) → has_ended moves ≡ false → has_ended (moves ++ more) ≡ has_ended more
ended-append [] more goes_on = refl
ended-append (In [] ∷ moves) more goes_on = cc
ended-append (In (b ∷ bytes) ∷ moves) more goes_on = ended-append moves more goes_on
ended-append (Out bytes ∷ moves) more goes_on = ended-append moves more goes_on

ended-append_out : (moves : List Move) (piece : List ℕ) → has_ended (moves ++ Out piece ∷ []) ≡ has_ended moves
ended-append_out [] piece = refl
ended-append_out (In [] ∷ moves) piece = refl
ended-append_out (In (b ∷ bytes) ∷ moves) piece = ended-append_out moves piece
ended-append_out (Out bytes ∷ moves) piece = ended-append_out moves piece

ended_one : (bytes : List ℕ) → has_ended (In bytes ∷ []) ≡ is_empty bytes
ended_one [] = refl
ended_one (b ∷ bytes) = refl

-- a write is no read
no_read-append_out : (moves : List Move) (piece : List ℕ) → has_read moves ≡ false → has_read (moves ++ Out piece ∷ []) ≡ false
no_read-append_out [] piece none = refl
no_read-append_out (In bytes ∷ moves) piece none = cc
no_read-append_out (Out bytes ∷ moves) piece none = no_read-append_out moves piece none

last-append_out : (moves : List Move) (piece : List ℕ) → EndsReading moves → EndsReading (moves ++ Out piece ∷ [])
last-append_out [] piece last = tt
last-append_out (In [] ∷ moves) piece last = no_read-append_out moves piece last
last-append_out (In (b ∷ bytes) ∷ moves) piece last = last-append_out moves piece last
last-append_out (Out bytes ∷ moves) piece last = last-append_out moves piece last

-- a read where the input hasn't ended comes after none that gave no byte
last_one : (bytes : List ℕ) → EndsReading (In bytes ∷ [])
last_one [] = refl
last_one (b ∷ bytes) = tt

last-append : (moves : List Move) (bytes : List ℕ) → has_ended moves ≡ false → EndsReading (moves ++ In bytes ∷ [])
last-append [] bytes goes_on = last_one bytes
last-append (In [] ∷ moves) bytes goes_on = absurd (let clash : true ≡ false = goes_on in cc)
last-append (In (b ∷ piece) ∷ moves) bytes goes_on = last-append moves bytes goes_on
last-append (Out piece ∷ moves) bytes goes_on = last-append moves bytes goes_on

-- a list is empty or ends in an element
data Ends {A : Type 0} : List A → Type 0 where
  nothing : Ends []
  last : (front : List A) (x : A) → Ends (front ++ x ∷ [])

ends_of : {A : Type 0} (xs : List A) → Ends xs
ends_of [] = nothing
ends_of (x ∷ xs) = ends_more x xs (ends_of xs)
  where
    ends_more : {A : Type 0} (x : A) (xs : List A) → Ends xs → Ends (x ∷ xs)
    ends_more x [] nothing = last [] x
    ends_more x _ (last front y) = last (x ∷ front) y

-- one more move keeps a log prompt, if it is no read, or what is due was written
pub prompt_more : (due : List ℕ → List ℕ) (moves : List Move) (m : Move) → IsPrompt due moves
    → ((bytes : List ℕ) → m ≡ In bytes → bytes_written moves ≡ due (bytes_read moves)) → IsPrompt due (moves ++ m ∷ [])
prompt_more due moves m prompt met before after bytes split = cases after (ends_of after) split
  where
    cases : (after : List Move) → Ends after → moves ++ m ∷ [] ≡ before ++ In bytes ∷ after → bytes_written before ≡ due (bytes_read before)
    cases _ nothing split =
        let same = same_from_push moves before m (In bytes) split in
        subst (λ (front : List Move). bytes_written front ≡ due (bytes_read front)) same.0 (met bytes same.1)
    cases _ (last front y) split =
        let same = same_from_push moves (before ++ In bytes ∷ front) m y (split ∙ sym (append_assoc before (In bytes ∷ front) (y ∷ []))) in
        prompt before front bytes same.0

-- a write that wrote nothing
pub writes_nothing : (log : Option (List Move)) → Writes log log []
writes_nothing log due start input output ended h = record {
  moves = h.moves;
  logged = h.logged;
  read = h.read;
  written = h.written ∙ sym (append-nil output);
  at_end = h.at_end;
  prompt = h.prompt;
  last = h.last;
}

pub writes_same : (old new : Option (List Move)) → new ≡ old → Writes old new []
writes_same old new same = subst (λ (log : Option (List Move)). Writes old log []) (sym same) (writes_nothing old)

-- one more call of write
pub writes_more : (first old new : Option (List Move)) (sent piece : List ℕ) → Writes first old sent → Grows old new (Out piece ∷ []) → Writes first new (sent ++ piece)
writes_more first old new sent piece so_far grows due start input output ended h0 =
    let h = so_far due start input output ended h0 in record {
      moves = h.moves ++ Out piece ∷ [];
      logged = grows_more start old new h.moves (Out piece ∷ []) h.logged grows;
      read = read-append h.moves (Out piece ∷ []) ∙ append-nil (bytes_read h.moves) ∙ h.read;
      written = written-append h.moves (Out piece ∷ []) ∙ ap (λ (bs : List ℕ). bytes_written h.moves ++ bs) (append-nil piece) ∙ ap (λ (bs : List ℕ). bs ++ piece) h.written ∙ append_assoc output sent piece;
      at_end = ended-append_out h.moves piece ∙ h.at_end;
      prompt = prompt_more due h.moves (Out piece) h.prompt (λ bytes is. absurd (let no : ⊥ = cc in no));
      last = last-append_out h.moves piece h.last;
    }

-- a read, once what is due was written
pub read_more : (due : List ℕ → List ℕ) (start old new : Option (List Move)) (input output bytes : List ℕ) → History due start old input output false
    → output ≡ due input → Grows old new (In bytes ∷ []) → History due start new (input ++ bytes) output (is_empty bytes)
read_more due start old new input output bytes h met grows = record {
  moves = h.moves ++ In bytes ∷ [];
  logged = grows_more start old new h.moves (In bytes ∷ []) h.logged grows;
  read = read-append h.moves (In bytes ∷ []) ∙ ap (λ (bs : List ℕ). bytes_read h.moves ++ bs) (append-nil bytes) ∙ ap (λ (bs : List ℕ). bs ++ bytes) h.read;
  written = written-append h.moves (In bytes ∷ []) ∙ append-nil (bytes_written h.moves) ∙ h.written;
  at_end = ended-append h.moves (In bytes ∷ []) h.at_end ∙ ended_one bytes;
  prompt = prompt_more due h.moves (In bytes) h.prompt (λ piece is. h.written ∙ met ∙ ap due (sym h.read));
  last = last-append h.moves bytes h.at_end;
}
