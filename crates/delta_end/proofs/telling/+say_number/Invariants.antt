use Rattle.delta_end.proofs.telling.+say_number.Given as goal

abbrev pub decreases-say_number : goal.decreases-say_number
decreases-say_number g l = l.number
