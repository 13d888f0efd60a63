-- Part by part.
use Rattle.std.proofs.Common.{[], ◌∷◌, ◌++◌, refl, drop}
use Rattle.std.proofs.lemmas.Result.{err_from_is_err_and}
use Rattle.kept_state.specs.KeptForm.{type_kind, state_kind, bool_item, type_item, any, form, list_part, exactly}
use Rattle.delta_keep.proofs.Pieces.{then, as_written, stops_first, stops_second}
use Rattle.delta_keep.proofs.Sizes.{kept_fits}
use Rattle.delta_keep.proofs.reading.read_parts.Goals as goal

pub returns-in_err-body : goal.returns-in_err-body
returns-in_err-body c =
    let exit = err_from_is_err_and c.from_residual.result c.from_residual.ensures.1 in
    record { reads = rw (exit.1, exit.2) (stops_first (exactly 0x44 ∷ exactly 0x53 ∷ exactly 0x54 ∷ exactly 0x01 ∷ []) ((any 8 ∷ []) ++ (list_part type_item ∷ []) ++ (list_part bool_item ∷ []) ++ (form type_kind ∷ []) ++ (form state_kind ∷ [])) c.args.bytes.now c.in_err-body.field-0.0 c.in_err-body.ensures.reads) }

pub returns-in_err-events : goal.returns-in_err-events
returns-in_err-events c =
    let exit = err_from_is_err_and c.from_residual-in_err-events.result c.from_residual-in_err-events.ensures.1 in
    record { reads = rw (exit.1, exit.2) (stops_second ((any 8 ∷ []) ++ (list_part type_item ∷ []) ++ (list_part bool_item ∷ []) ++ (form type_kind ∷ []) ++ (form state_kind ∷ [])) c.in_err-events.field-0.0 c.in_ok-body.ensures.reads (stops_first (any 8 ∷ []) ((list_part type_item ∷ []) ++ (list_part bool_item ∷ []) ++ (form type_kind ∷ []) ++ (form state_kind ∷ [])) (drop c.in_ok-body.body c.args.bytes.now) c.in_err-events.field-0.0 c.in_err-events.ensures.reads)) }

pub returns-in_err-ins : goal.returns-in_err-ins
returns-in_err-ins c =
    let exit = err_from_is_err_and c.from_residual-in_err-ins.result c.from_residual-in_err-ins.ensures.1 in
    record { reads = rw (exit.1, exit.2) (stops_second ((any 8 ∷ []) ++ (list_part type_item ∷ []) ++ (list_part bool_item ∷ []) ++ (form type_kind ∷ []) ++ (form state_kind ∷ [])) c.in_err-ins.field-0.0 c.in_ok-body.ensures.reads (stops_second ((list_part type_item ∷ []) ++ (list_part bool_item ∷ []) ++ (form type_kind ∷ []) ++ (form state_kind ∷ [])) c.in_err-ins.field-0.0 c.in_ok-events.ensures.reads (stops_first (list_part type_item ∷ []) ((list_part bool_item ∷ []) ++ (form type_kind ∷ []) ++ (form state_kind ∷ [])) (drop c.in_ok-events.next c.args.bytes.now) c.in_err-ins.field-0.0 c.in_err-ins.ensures.reads))) }

pub returns-in_err-cuts : goal.returns-in_err-cuts
returns-in_err-cuts c =
    let exit = err_from_is_err_and c.from_residual-in_err-cuts.result c.from_residual-in_err-cuts.ensures.1 in
    record { reads = rw (exit.1, exit.2) (stops_second ((any 8 ∷ []) ++ (list_part type_item ∷ []) ++ (list_part bool_item ∷ []) ++ (form type_kind ∷ []) ++ (form state_kind ∷ [])) c.in_err-cuts.field-0.0 c.in_ok-body.ensures.reads (stops_second ((list_part type_item ∷ []) ++ (list_part bool_item ∷ []) ++ (form type_kind ∷ []) ++ (form state_kind ∷ [])) c.in_err-cuts.field-0.0 c.in_ok-events.ensures.reads (stops_second ((list_part bool_item ∷ []) ++ (form type_kind ∷ []) ++ (form state_kind ∷ [])) c.in_err-cuts.field-0.0 c.in_ok-ins.ensures.reads (stops_first (list_part bool_item ∷ []) ((form type_kind ∷ []) ++ (form state_kind ∷ [])) (drop c.in_ok-ins.next c.args.bytes.now) c.in_err-cuts.field-0.0 c.in_err-cuts.ensures.reads)))) }

pub returns-in_err-out : goal.returns-in_err-out
returns-in_err-out c =
    let exit = err_from_is_err_and c.from_residual-in_err-out.result c.from_residual-in_err-out.ensures.1 in
    record { reads = rw (exit.1, exit.2) (stops_second ((any 8 ∷ []) ++ (list_part type_item ∷ []) ++ (list_part bool_item ∷ []) ++ (form type_kind ∷ []) ++ (form state_kind ∷ [])) c.in_err-out.field-0.0 c.in_ok-body.ensures.reads (stops_second ((list_part type_item ∷ []) ++ (list_part bool_item ∷ []) ++ (form type_kind ∷ []) ++ (form state_kind ∷ [])) c.in_err-out.field-0.0 c.in_ok-events.ensures.reads (stops_second ((list_part bool_item ∷ []) ++ (form type_kind ∷ []) ++ (form state_kind ∷ [])) c.in_err-out.field-0.0 c.in_ok-ins.ensures.reads (stops_second ((form type_kind ∷ []) ++ (form state_kind ∷ [])) c.in_err-out.field-0.0 c.in_ok-cuts.ensures.reads (stops_first (form type_kind ∷ []) ((form state_kind ∷ [])) (drop c.in_ok-cuts.next c.args.bytes.now) c.in_err-out.field-0.0 c.in_err-out.ensures.reads))))) }

pub returns-in_err-state : goal.returns-in_err-state
returns-in_err-state c =
    let exit = err_from_is_err_and c.from_residual-in_err-state.result c.from_residual-in_err-state.ensures.1 in
    record { reads = rw (exit.1, exit.2) (stops_second ((any 8 ∷ []) ++ (list_part type_item ∷ []) ++ (list_part bool_item ∷ []) ++ (form type_kind ∷ []) ++ (form state_kind ∷ [])) c.in_err-state.field-0.0 c.in_ok-body.ensures.reads (stops_second ((list_part type_item ∷ []) ++ (list_part bool_item ∷ []) ++ (form type_kind ∷ []) ++ (form state_kind ∷ [])) c.in_err-state.field-0.0 c.in_ok-events.ensures.reads (stops_second ((list_part bool_item ∷ []) ++ (form type_kind ∷ []) ++ (form state_kind ∷ [])) c.in_err-state.field-0.0 c.in_ok-ins.ensures.reads (stops_second ((form type_kind ∷ []) ++ (form state_kind ∷ [])) c.in_err-state.field-0.0 c.in_ok-cuts.ensures.reads (stops_second ((form state_kind ∷ [])) c.in_err-state.field-0.0 c.in_ok-out.ensures.reads (c.in_err-state.ensures.reads)))))) }

pub returns : goal.returns
returns c = record { reads = as_written refl (kept_fits (record { events = c.in_ok-events.events; ins = c.in_ok-ins.ins; cuts = c.in_ok-cuts.cuts; out = c.in_ok-out.out; state = c.in_ok-state.state })) (then c.in_ok-body.ensures.reads (then c.in_ok-events.ensures.reads (then c.in_ok-ins.ensures.reads (then c.in_ok-cuts.ensures.reads (then c.in_ok-out.ensures.reads c.in_ok-state.ensures.reads))))) }
