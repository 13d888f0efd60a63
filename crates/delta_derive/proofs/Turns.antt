-- The turns of letters, one after another.
use Rattle.std.proofs.Common.{◌≡◌, ◌∙◌, ◌+◌, ◌<◌, ℕ, List, [], ◌∷◌, ◌++◌, length, map, drop, get_or, append_assoc, ap, refl, sym}
use Rattle.std.specs.Prelude.{Option, Some, None, option_map}
use Rattle.std.proofs.lemmas.List.{drop_more}
use Rattle.bunch_rules.specs.Rearranging.{Turn}
use Rattle.delta_derive.specs.declared.line.Turn.{Turn as ProgramTurn}
use Rattle.delta_derive.specs.LineText.{turn_of, turn_at, turns_in, add_turn}

next_turns : (bytes : List ℕ) (i : ℕ) → i < length bytes → turns_in (drop i bytes) ≡ add_turn (turn_at (get_or bytes i 0)) (turns_in (drop (i + 1) bytes))
next_turns bytes i lt = ap turns_in (drop_more bytes i 0 lt)

none_added : (o : Option (List Turn)) → add_turn None o ≡ None
none_added None = refl
none_added (Some ts) = refl

-- a letter that is no turn
pub no_turn : (bytes : List ℕ) (i : ℕ) (ts : List ProgramTurn) → i < length bytes → None ≡ turn_at (get_or bytes i 0) → turns_in bytes ≡ option_map (λ us. map turn_of ts ++ us) (turns_in (drop i bytes)) → None ≡ turns_in bytes
no_turn bytes i ts lt none h =
    sym (h ∙ ap (λ o. option_map (λ us. map turn_of ts ++ us) o) (next_turns bytes i lt ∙ ap (λ o. add_turn o (turns_in (drop (i + 1) bytes))) (sym none) ∙ none_added (turns_in (drop (i + 1) bytes))))

turns_joined : (ts : List ProgramTurn) (t : ProgramTurn) → map turn_of (ts ++ t ∷ []) ≡ map turn_of ts ++ turn_of t ∷ []
turns_joined [] t = refl
turns_joined (u ∷ ts) t = ap (λ l. turn_of u ∷ l) (turns_joined ts t)

turn_added : (ts : List ProgramTurn) (t : ProgramTurn) (o : Option (List Turn)) → option_map (λ us. map turn_of ts ++ us) (add_turn (Some (turn_of t)) o) ≡ option_map (λ us. map turn_of (ts ++ t ∷ []) ++ us) o
turn_added ts t None = refl
turn_added ts t (Some us) = ap Some (sym (ap (λ l. l ++ us) (turns_joined ts t) ∙ append_assoc (map turn_of ts) (turn_of t ∷ []) us))

-- one that is
pub turn_more : (bytes : List ℕ) (i : ℕ) (ts us : List ProgramTurn) (t : ProgramTurn) → i < length bytes → Some (turn_of t) ≡ turn_at (get_or bytes i 0) → us ≡ ts ++ t ∷ [] → turns_in bytes ≡ option_map (λ vs. map turn_of ts ++ vs) (turns_in (drop i bytes))
    → turns_in bytes ≡ option_map (λ vs. map turn_of us ++ vs) (turns_in (drop (i + 1) bytes))
turn_more bytes i ts us t lt is more h =
    let rest = turns_in (drop (i + 1) bytes) in
    h ∙ ap (λ o. option_map (λ vs. map turn_of ts ++ vs) o) (next_turns bytes i lt ∙ ap (λ o. add_turn o rest) (sym is)) ∙ turn_added ts t rest ∙ ap (λ l. option_map (λ vs. map turn_of l ++ vs) rest) (sym more)
