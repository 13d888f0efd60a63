-- From what a command tells to the moves that it made.
use Rattle.std.proofs.Common.{◌≡◌, ℕ, List, [], ◌∷◌, false, Option, sym, subst, refl}
use Rattle.port.specs.declared.link.Move.{Move}
use Rattle.port.specs.declared.link.Move.TheVariants.{In, Out}
use Rattle.port.specs.Moves.{bytes_read}
use Rattle.delta_end.specs.declared.end.End.{End}
use Rattle.delta_loop.specs.Prompt.{has_ended, has_read}
use Rattle.delta_loop.specs.Answer.{Adds}
use Rattle.delta_loop.specs.History.{Writes}
use Rattle.delta_loop.proofs.Opening.{fresh}
use Rattle.delta_run.specs.Told.{Told}

-- moves by which no byte was read and no end was met are writes alone
writes_alone : (moves : List Move) → bytes_read moves ≡ [] → has_ended moves ≡ false → has_read moves ≡ false
writes_alone [] read at_end = refl
writes_alone (In [] ∷ moves) read at_end = absurd (let clash : ⊥ = cc in clash)
writes_alone (In (b ∷ bytes) ∷ moves) read at_end = absurd (let clash : ⊥ = cc in clash)
writes_alone (Out bytes ∷ moves) read at_end = writes_alone moves read at_end

-- the moves of what was written
pub told_moves : (Q : List ℕ → End → Type 0) (old new : Option (List Move)) (end : End) (sent : List ℕ) → Writes old new sent → Q sent end → Adds old new (Told Q end)
told_moves Q old new end sent writes told tells is =
    let h = writes (λ bytes. []) old [] [] false (fresh (λ bytes. []) old) in
    (h.moves, h.logged tells is, record { writes = writes_alone h.moves h.read h.at_end; told = subst (λ (bs : List ℕ). Q bs end) (sym h.written) told })
