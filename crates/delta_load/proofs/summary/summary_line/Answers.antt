use Rattle.std.proofs.Common.{◌≡◌, string_bytes}
use Rattle.delta_load.specs.Summary.{totals_line}
use Rattle.delta_load.proofs.Lines.{told, if_ok}
use Rattle.delta_load.proofs.summary.summary_line.Goals as goal

pub returns : goal.returns
returns c = if_ok c.format.result c.format.ensures.ok (λ s e start.
    let whole : string_bytes s ≡ totals_line c.args.items (string_bytes c.in_ok-came.came) (string_bytes c.in_ok-said.said) (string_bytes c.in_ok-last.last) = e in
    told start c.args.items c.args.output (string_bytes s) (string_bytes c.in_ok-came.came) (string_bytes c.in_ok-said.said) (string_bytes c.in_ok-last.last) whole c.in_ok-came.ensures c.in_ok-said.ensures c.in_ok-last.ensures)
