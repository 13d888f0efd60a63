-- Byte by byte.
use Rattle.std.proofs.Common.{[], ◌∷◌, ◌++◌}
use Rattle.std.proofs.lemmas.Result.{err_from_is_err_and}
use Rattle.std.specs.Prelude.{⊤}
use Rattle.kept_state.specs.KeptForm.{exactly}
use Rattle.delta_keep.proofs.Pieces.{then, stops_first, stops_second, then_reads}
use Rattle.delta_keep.proofs.reading.read_head.Goals as goal

pub returns-in_err-behind_d : goal.returns-in_err-behind_d
returns-in_err-behind_d c =
    let exit = err_from_is_err_and c.from_residual.result c.from_residual.ensures.1 in
    record { reads = rw (exit.1, exit.2) (stops_first (exactly 0x44 ∷ []) ((exactly 0x53 ∷ []) ++ (exactly 0x54 ∷ []) ++ (exactly 0x01 ∷ [])) c.args.bytes.now c.in_err-behind_d.field-0.0 c.in_err-behind_d.ensures.reads) }

pub returns-in_err-behind_s : goal.returns-in_err-behind_s
returns-in_err-behind_s c =
    let exit = err_from_is_err_and c.from_residual-in_err-behind_s.result c.from_residual-in_err-behind_s.ensures.1 in
    record { reads = rw (exit.1, exit.2) (stops_second ((exactly 0x53 ∷ []) ++ (exactly 0x54 ∷ []) ++ (exactly 0x01 ∷ [])) c.in_err-behind_s.field-0.0 c.in_ok-behind_d.ensures.reads (stops_first (exactly 0x53 ∷ []) ((exactly 0x54 ∷ []) ++ (exactly 0x01 ∷ [])) c.in_ok-behind_d.behind_d.now c.in_err-behind_s.field-0.0 c.in_err-behind_s.ensures.reads)) }

pub returns-in_err-behind_t : goal.returns-in_err-behind_t
returns-in_err-behind_t c =
    let exit = err_from_is_err_and c.from_residual-in_err-behind_t.result c.from_residual-in_err-behind_t.ensures.1 in
    record { reads = rw (exit.1, exit.2) (stops_second ((exactly 0x53 ∷ []) ++ (exactly 0x54 ∷ []) ++ (exactly 0x01 ∷ [])) c.in_err-behind_t.field-0.0 c.in_ok-behind_d.ensures.reads (stops_second ((exactly 0x54 ∷ []) ++ (exactly 0x01 ∷ [])) c.in_err-behind_t.field-0.0 c.in_ok-behind_s.ensures.reads (stops_first (exactly 0x54 ∷ []) ((exactly 0x01 ∷ [])) c.in_ok-behind_s.behind_s.now c.in_err-behind_t.field-0.0 c.in_err-behind_t.ensures.reads))) }

pub returns : goal.returns
returns c = record { reads = then_reads (exactly 0x01 ∷ []) (λ rest. 0x01 ∷ []) (λ rest. rest.now) (λ rest. ⊤) c.read_exactly-4.result (then c.in_ok-behind_d.ensures.reads (then c.in_ok-behind_s.ensures.reads c.in_ok-behind_t.ensures.reads)) c.read_exactly-4.ensures.reads }
