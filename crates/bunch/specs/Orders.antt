-- What an order of the program stands for.
use Rattle.bunch.specs.declared.order.Order.TheInside.{Inside}
use Rattle.bunch.specs.Names.{numbers_of}
use Rattle.bunch.specs.Table.{lists_of, IsSquare}
use Rattle.bunch.specs.NameOrder.{NameOrder}

-- the names and the rows
abbrev pub name_order_of : Inside → NameOrder
name_order_of o = record { names = numbers_of o.names.items; rows = lists_of o.rows.items }

-- each name has a row with a fact for each name
abbrev pub HasAllFacts : Inside → Type 0
HasAllFacts o = IsSquare (numbers_of o.names.items) (lists_of o.rows.items)
