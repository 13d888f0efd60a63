-- There are no more bytes than may be read.
use Rattle.delta_keep.specs.KeptView.{kept_of, places_kept}
use Rattle.kept_check.proofs.ReadSizes.{read_small}
use Rattle.kept_check.proofs.loading.read.Goals as goal

pub returns-in-Ok-clause-small : goal.returns-in-Ok-clause-small
returns-in-Ok-clause-small c = read_small (kept_of c.in-Ok.k) (places_kept c.in-Ok.k) c.args.bytes.now c.in-Ok.ensures.bytes c.in-Ok.ensures.fault
