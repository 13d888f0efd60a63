use Rattle.std.proofs.Common.{◌+◌, ◌≤◌, arith}
use Rattle.delta_load.proofs.Words.{all_fit}
use Rattle.delta_load.proofs.laws.load_fits.Goals as goal

pub returns : goal.returns
returns c = λ start items h. all_fit start 0 items (let same : 0 + items ≤ 10000000 = omega (arith, h) in same)
