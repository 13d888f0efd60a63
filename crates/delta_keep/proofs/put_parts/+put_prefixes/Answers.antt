-- Prefixes by their forms: their bytes, and the sizes of their numbers.
use Rattle.std.proofs.Common.{ap, sym, map, ◌∙◌, subst}
use Rattle.stream_prefix.specs.Tree.{prefix_of, end_of}
use Rattle.kept_state.specs.KeptBytes.{prefix_bytes, list_bytes}
use Rattle.kept_state.specs.KeptSizes.{FitsPrefix}
use Rattle.delta_keep.proofs.PutInTurn.{puts_same, puts_2, puts_3}
use Rattle.delta_keep.proofs.Trees.{star_bytes}
use Rattle.delta_keep.proofs.PutSizes.{some_more, some_all, prefix_filled, both, fits_as}
use Rattle.delta_keep.proofs.Sizes.{star_fits}
use Rattle.delta_keep.proofs.put_parts.+put_prefixes.Goals as goal

pub put_prefixes-loop-item-preserved : goal.put_prefixes-loop-item-preserved
put_prefixes-loop-item-preserved t c = some_more prefix_bytes prefix_of FitsPrefix c.args.items.now c.loop-item.item-index c.item-item.result c.loop-item-test.true c.item-item.is c.loop-item.invariant c.put_prefix.ensures.puts c.put_prefix.ensures.sizes

pub put_prefix-returns-in-Star-clause-puts : goal.put_prefix-returns-in-Star-clause-puts
put_prefix-returns-in-Star-clause-puts t c =
    puts_same (sym (ap (λ q. prefix_bytes (prefix_of q)) c.in-Star.is ∙ star_bytes c.in-Star.items c.in-Star.end))
    (puts_3 c.put_byte-in-Star.ensures (puts_same (ap (λ ys. list_bytes prefix_bytes (map prefix_of ys)) c.deref-in-Star.ensures.value) c.put_prefixes.ensures.puts) c.put_end.ensures.puts)

pub put_prefixes-returns-clause-sizes : goal.put_prefixes-returns-clause-sizes
put_prefixes-returns-clause-sizes t c = some_all prefix_bytes prefix_of FitsPrefix c.args.items.now c.loop-item.item-index prefix_filled c.loop-item-test.false c.loop-item.invariant

pub put_prefix-returns-in-Star-clause-sizes : goal.put_prefix-returns-in-Star-clause-sizes
put_prefix-returns-in-Star-clause-sizes t c n =
    let items = rw c.deref-in-Star.ensures.value at c.put_prefixes.ensures.sizes in
    subst (λ q. FitsPrefix (prefix_of q)) (sym c.in-Star.is) (star_fits c.in-Star.items c.in-Star.end (both items c.put_end.ensures.puts c.put_end.ensures.sizes n))

pub put_one_prefix-returns-clause-puts : goal.put_one_prefix-returns-clause-puts
put_one_prefix-returns-clause-puts t c = puts_2 c.put_byte.ensures c.put_prefix.ensures.puts

pub put_one_prefix-returns-clause-sizes : goal.put_one_prefix-returns-clause-sizes
put_one_prefix-returns-clause-sizes t c = c.put_prefix.ensures.sizes

pub put_two_prefixes-returns-clause-puts : goal.put_two_prefixes-returns-clause-puts
put_two_prefixes-returns-clause-puts t c = puts_3 c.put_byte.ensures c.put_prefix.ensures.puts c.put_prefix-2.ensures.puts

pub put_two_prefixes-returns-clause-sizes : goal.put_two_prefixes-returns-clause-sizes
put_two_prefixes-returns-clause-sizes t c = both c.put_prefix.ensures.sizes c.put_prefix-2.ensures.puts c.put_prefix-2.ensures.sizes

pub put_prefix-returns-in-EpsEmp-clause-puts : goal.put_prefix-returns-in-EpsEmp-clause-puts
put_prefix-returns-in-EpsEmp-clause-puts t c = rw c.in-EpsEmp.is c.put_byte.ensures

pub put_prefix-returns-in-EpsEmp-clause-sizes : goal.put_prefix-returns-in-EpsEmp-clause-sizes
put_prefix-returns-in-EpsEmp-clause-sizes t c = fits_as (λ p. FitsPrefix (prefix_of p)) c.in-EpsEmp.is (λ n. tt)

pub put_prefix-returns-in-OneEmp-clause-puts : goal.put_prefix-returns-in-OneEmp-clause-puts
put_prefix-returns-in-OneEmp-clause-puts t c = rw c.in-OneEmp.is c.put_byte-in-OneEmp.ensures

pub put_prefix-returns-in-OneEmp-clause-sizes : goal.put_prefix-returns-in-OneEmp-clause-sizes
put_prefix-returns-in-OneEmp-clause-sizes t c = fits_as (λ p. FitsPrefix (prefix_of p)) c.in-OneEmp.is (λ n. tt)

pub put_prefix-returns-in-OneFull-clause-puts : goal.put_prefix-returns-in-OneFull-clause-puts
put_prefix-returns-in-OneFull-clause-puts t c = rw c.in-OneFull.is c.put_byte-in-OneFull.ensures

pub put_prefix-returns-in-OneFull-clause-sizes : goal.put_prefix-returns-in-OneFull-clause-sizes
put_prefix-returns-in-OneFull-clause-sizes t c = fits_as (λ p. FitsPrefix (prefix_of p)) c.in-OneFull.is (λ n. tt)

pub put_prefix-returns-in-IntEmp-clause-puts : goal.put_prefix-returns-in-IntEmp-clause-puts
put_prefix-returns-in-IntEmp-clause-puts t c = rw c.in-IntEmp.is c.put_byte-in-IntEmp.ensures

pub put_prefix-returns-in-IntEmp-clause-sizes : goal.put_prefix-returns-in-IntEmp-clause-sizes
put_prefix-returns-in-IntEmp-clause-sizes t c = fits_as (λ p. FitsPrefix (prefix_of p)) c.in-IntEmp.is (λ n. tt)

pub put_prefix-returns-in-SumEmp-clause-puts : goal.put_prefix-returns-in-SumEmp-clause-puts
put_prefix-returns-in-SumEmp-clause-puts t c = rw c.in-SumEmp.is c.put_byte-in-SumEmp.ensures

pub put_prefix-returns-in-SumEmp-clause-sizes : goal.put_prefix-returns-in-SumEmp-clause-sizes
put_prefix-returns-in-SumEmp-clause-sizes t c = fits_as (λ p. FitsPrefix (prefix_of p)) c.in-SumEmp.is (λ n. tt)

pub put_prefix-returns-in-Par-clause-puts : goal.put_prefix-returns-in-Par-clause-puts
put_prefix-returns-in-Par-clause-puts t c = rw c.in-Par.is (rw (c.deref.ensures, c.deref-in-Par.ensures) at c.put_two_prefixes.ensures.puts)

pub put_prefix-returns-in-Par-clause-sizes : goal.put_prefix-returns-in-Par-clause-sizes
put_prefix-returns-in-Par-clause-sizes t c = fits_as (λ p. FitsPrefix (prefix_of p)) c.in-Par.is (rw (c.deref.ensures, c.deref-in-Par.ensures) at c.put_two_prefixes.ensures.sizes)

pub put_prefix-returns-in-CatFst-clause-puts : goal.put_prefix-returns-in-CatFst-clause-puts
put_prefix-returns-in-CatFst-clause-puts t c = rw c.in-CatFst.is (rw c.deref-in-CatFst.ensures at c.put_one_prefix.ensures.puts)

pub put_prefix-returns-in-CatFst-clause-sizes : goal.put_prefix-returns-in-CatFst-clause-sizes
put_prefix-returns-in-CatFst-clause-sizes t c = fits_as (λ p. FitsPrefix (prefix_of p)) c.in-CatFst.is (rw c.deref-in-CatFst.ensures at c.put_one_prefix.ensures.sizes)

pub put_prefix-returns-in-CatBoth-clause-puts : goal.put_prefix-returns-in-CatBoth-clause-puts
put_prefix-returns-in-CatBoth-clause-puts t c = rw c.in-CatBoth.is (rw (c.deref-in-CatBoth.ensures, c.deref-in-CatBoth-2.ensures) at c.put_two_prefixes-in-CatBoth.ensures.puts)

pub put_prefix-returns-in-CatBoth-clause-sizes : goal.put_prefix-returns-in-CatBoth-clause-sizes
put_prefix-returns-in-CatBoth-clause-sizes t c = fits_as (λ p. FitsPrefix (prefix_of p)) c.in-CatBoth.is (rw (c.deref-in-CatBoth.ensures, c.deref-in-CatBoth-2.ensures) at c.put_two_prefixes-in-CatBoth.ensures.sizes)

pub put_prefix-returns-in-Inl-clause-puts : goal.put_prefix-returns-in-Inl-clause-puts
put_prefix-returns-in-Inl-clause-puts t c = rw c.in-Inl.is (rw c.deref-in-Inl.ensures at c.put_one_prefix-in-Inl.ensures.puts)

pub put_prefix-returns-in-Inl-clause-sizes : goal.put_prefix-returns-in-Inl-clause-sizes
put_prefix-returns-in-Inl-clause-sizes t c = fits_as (λ p. FitsPrefix (prefix_of p)) c.in-Inl.is (rw c.deref-in-Inl.ensures at c.put_one_prefix-in-Inl.ensures.sizes)

pub put_prefix-returns-in-Inr-clause-puts : goal.put_prefix-returns-in-Inr-clause-puts
put_prefix-returns-in-Inr-clause-puts t c = rw c.in-Inr.is (rw c.deref-in-Inr.ensures at c.put_one_prefix-in-Inr.ensures.puts)

pub put_prefix-returns-in-Inr-clause-sizes : goal.put_prefix-returns-in-Inr-clause-sizes
put_prefix-returns-in-Inr-clause-sizes t c = fits_as (λ p. FitsPrefix (prefix_of p)) c.in-Inr.is (rw c.deref-in-Inr.ensures at c.put_one_prefix-in-Inr.ensures.sizes)

pub put_end-returns-in-Emp-clause-puts : goal.put_end-returns-in-Emp-clause-puts
put_end-returns-in-Emp-clause-puts t c = rw c.in-Emp.is c.put_byte.ensures

pub put_end-returns-in-Emp-clause-sizes : goal.put_end-returns-in-Emp-clause-sizes
put_end-returns-in-Emp-clause-sizes t c = fits_as (λ e. FitsPrefix (end_of e)) c.in-Emp.is (λ n. tt)

pub put_end-returns-in-Done-clause-puts : goal.put_end-returns-in-Done-clause-puts
put_end-returns-in-Done-clause-puts t c = rw c.in-Done.is c.put_byte-in-Done.ensures

pub put_end-returns-in-Done-clause-sizes : goal.put_end-returns-in-Done-clause-sizes
put_end-returns-in-Done-clause-sizes t c = fits_as (λ e. FitsPrefix (end_of e)) c.in-Done.is (λ n. tt)

pub put_end-returns-in-First-clause-puts : goal.put_end-returns-in-First-clause-puts
put_end-returns-in-First-clause-puts t c = rw c.in-First.is (rw c.deref.ensures at c.put_one_prefix.ensures.puts)

pub put_end-returns-in-First-clause-sizes : goal.put_end-returns-in-First-clause-sizes
put_end-returns-in-First-clause-sizes t c = fits_as (λ e. FitsPrefix (end_of e)) c.in-First.is (rw c.deref.ensures at c.put_one_prefix.ensures.sizes)
