-- What passing over bytes of the first piece leaves.
use Rattle.std.proofs.Common.{◌≡◌, ◌≢◌, ℕ, ◌+◌, ◌≤◌, List, [], ◌∷◌, ◌++◌, length, take, drop, Some, refl, sym, ap, ◌∙◌, arith, length-drop, length-take, append_assoc}
use Rattle.std.proofs.lemmas.List.{drop-drop, take-append-drop, take_at}
use Rattle.port.specs.Told.{Loses}
use Rattle.port.specs.Pieces.{put_piece, first_piece, past, joined}

no_bytes : (bytes : List ℕ) → length bytes ≡ 0 → bytes ≡ []
no_bytes [] none = refl
no_bytes (byte ∷ bytes) none = absurd (omega (arith, none))

drop_none : (count : ℕ) → drop {A = ℕ} count [] ≡ []
drop_none count = no_bytes (drop {A = ℕ} count []) (omega (arith, length-drop {A = ℕ} count []))

take_none : (count : ℕ) → take {A = ℕ} count [] ≡ []
take_none count = no_bytes (take {A = ℕ} count []) (omega (arith, length-take {A = ℕ} count []))

-- a place at whose end nothing is left is the end
pub at_end : (piece : List ℕ) (at : ℕ) → at ≤ length piece → drop at piece ≡ [] → at ≡ length piece
at_end piece at low none = omega (arith, low, length-drop at piece, ap length none)

-- what is put before comes first, unless it is empty and nothing follows
pub first_of_put : (front : List ℕ) (pieces : List (List ℕ)) → (front ≡ [] → pieces ≡ []) → first_piece (put_piece front pieces) ≡ front
first_of_put [] pieces last = ap first_piece (last refl)
first_of_put (byte ∷ bytes) pieces last = refl

-- bytes are passed over in what comes first
pub past_put : (count : ℕ) (front : List ℕ) (pieces : List (List ℕ)) → (front ≡ [] → pieces ≡ []) → past count (put_piece front pieces) ≡ put_piece (drop count front) pieces
past_put count [] pieces last = ap (past count) (last refl) ∙ (sym (last refl) ∙ sym (ap (λ front. put_piece front pieces) (drop_none count)))
past_put count (byte ∷ bytes) pieces last = refl

-- a piece with bytes is put before as it is
pub put_whole : (piece : List ℕ) (pieces : List (List ℕ)) → piece ≢ [] → put_piece piece pieces ≡ piece ∷ pieces
put_whole [] pieces some = absurd (some refl)
put_whole (byte ∷ bytes) pieces some = refl

-- where something is put before, the first piece and the others are joined to it
pub joined_put : (front : List ℕ) (pieces : List (List ℕ)) → joined (put_piece front pieces) ≡ front ++ joined pieces
joined_put [] pieces = refl
joined_put (byte ∷ bytes) pieces = refl

-- the first piece's front, and what is left after it, are all that was left
pub joined_past : (count : ℕ) (pieces : List (List ℕ)) → joined pieces ≡ take count (first_piece pieces) ++ joined (past count pieces)
joined_past count [] = rw (take_none count) refl
joined_past count (piece ∷ pieces) = rw (joined_put (drop count piece) pieces, ← append_assoc (take count piece) (drop count piece) (joined pieces), take-append-drop count piece) refl

-- what is so of the fields of some pieces, of which the contract sees this view
pub record Stands (piece : List ℕ) (at : ℕ) (rest view : List (List ℕ)) : Type 0 where
  pub seen : put_piece (drop at piece) rest ≡ view
  pub within : at ≤ length piece
  pub last : at ≡ length piece → rest ≡ []

front_last : (piece : List ℕ) (at : ℕ) (rest view : List (List ℕ)) → Stands piece at rest view → drop at piece ≡ [] → rest ≡ []
front_last piece at rest view stands none = stands.last (at_end piece at stands.within none)

-- the rest of the piece at hand is the first piece
pub first_is : (piece : List ℕ) (at : ℕ) (rest view : List (List ℕ)) → Stands piece at rest view → drop at piece ≡ first_piece view
first_is piece at rest view stands =
    sym (first_of_put (drop at piece) rest (front_last piece at rest view stands)) ∙ ap first_piece stands.seen

-- the bytes passed over are within the piece
pub pass_fits : (piece : List ℕ) (at count : ℕ) (rest view : List (List ℕ)) → Stands piece at rest view → count ≤ length (first_piece view) → at + count ≤ length piece
pass_fits piece at count rest view stands few =
    omega (arith, few, stands.within, length-drop at piece, ap length (first_is piece at rest view stands))

-- what is left after passing over bytes is the rest of the piece, and the others
pub pass_leaves : (piece : List ℕ) (at count : ℕ) (rest view : List (List ℕ)) → Stands piece at rest view → put_piece (drop (at + count) piece) rest ≡ past count view
pass_leaves piece at count rest view stands =
    rw (← stands.seen, past_put count (drop at piece) rest (front_last piece at rest view stands), drop-drop count at piece) refl

-- at the end of a piece the next one that has bytes comes first
pub next_leaves : (piece next : List ℕ) (at count : ℕ) (rest later view : List (List ℕ)) → Stands piece at rest view → at + count ≡ length piece
    → next ≢ [] → rest ≡ next ∷ later → put_piece next later ≡ past count view
next_leaves piece next at count rest later view stands end some first =
    let spent : drop (at + count) piece ≡ [] = no_bytes (drop (at + count) piece) (omega (arith, end, length-drop (at + count) piece)) in
    put_whole next later some ∙ (sym first ∙ (sym (ap (λ front. put_piece front rest) spent) ∙ pass_leaves piece at count rest view stands))

-- a read took the front of what was left
pub takes_front : (view : List (List ℕ)) (given after : List ℕ) (count : ℕ) → given ≡ take count (first_piece view) → length given ≡ count
    → Loses (Some (joined view)) (Some (joined (past count view))) (take count (given ++ after))
takes_front view given after count front long told same =
    let left : told ≡ joined view = cc in
    (joined (past count view), refl, left ∙ (joined_past count view ∙ ap (λ front. front ++ joined (past count view)) (sym front ∙ sym (take_at given after count long))))
