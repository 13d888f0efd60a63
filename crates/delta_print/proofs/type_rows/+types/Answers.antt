-- Each part of a type is less deep than the type.
use Rattle.std.proofs.Common.{arith}
use Rattle.delta_print.proofs.TypeDepths.{sum_parts, par_parts, cat_parts, star_parts}
use Rattle.delta_print.proofs.type_rows.+types.Goals as goal

pub put_form-put_type_at-requires : goal.put_form-put_type_at-requires
put_form-put_type_at-requires t c = let parts = sum_parts _ _ _ c.in-Sum.is in (omega arith, tt)

pub put_form-put_type-requires : goal.put_form-put_type-requires
put_form-put_type-requires t c = let parts = sum_parts _ _ _ c.in-Sum.is in (omega arith, tt)

pub put_form-put_type_at-requires-in-Par : goal.put_form-put_type_at-requires-in-Par
put_form-put_type_at-requires-in-Par t c = let parts = par_parts _ _ _ c.in-Par.is in (omega arith, tt)

pub put_form-put_type_at-requires-in-Par-2 : goal.put_form-put_type_at-requires-in-Par-2
put_form-put_type_at-requires-in-Par-2 t c = let parts = par_parts _ _ _ c.in-Par.is in (omega arith, tt)

pub put_form-put_type_at-requires-in-Cat : goal.put_form-put_type_at-requires-in-Cat
put_form-put_type_at-requires-in-Cat t c = let parts = cat_parts _ _ _ c.in-Cat.is in (omega arith, tt)

pub put_form-put_type_at-requires-in-Cat-2 : goal.put_form-put_type_at-requires-in-Cat-2
put_form-put_type_at-requires-in-Cat-2 t c = let parts = cat_parts _ _ _ c.in-Cat.is in (omega arith, tt)

pub put_form-put_type_at-requires-in-Star : goal.put_form-put_type_at-requires-in-Star
put_form-put_type_at-requires-in-Star t c = let parts = star_parts _ _ c.in-Star.is in (omega arith, tt)
