-- What is asked in turn stands together behind what was found.
use Rattle.std.proofs.Common.{◌≡◌, ◌∙◌, List, [], ◌++◌, map, ap, sym, append_assoc}
use Rattle.std.proofs.lemmas.List.{append-nil}
use Rattle.other_numbers.specs.Asked.{Asked}
use Rattle.state_asks.specs.declared.ask.Ask.{Ask}
use Rattle.state_asks.specs.Asking.{asked_in, Asks}

-- where nothing is asked, all stays
pub asks_none : (found : List Ask) → Asks found found []
asks_none found = record { put = sym (append-nil (map asked_in found)) }

-- the same, said otherwise
pub asks_same : {old new : List Ask} {a b : List Asked} → a ≡ b → Asks old new a → Asks old new b
asks_same {old} e h = record { put = h.put ∙ ap (λ l. map asked_in old ++ l) e }

-- two lists that are asked in turn
pub asks_then : {old mid new : List Ask} {a b : List Asked} → Asks old mid a → Asks mid new b → Asks old new (a ++ b)
asks_then {old} {mid} {new} {a} {b} h k = record { put = k.put ∙ (ap (λ l. l ++ b) h.put ∙ append_assoc (map asked_in old) a b) }
