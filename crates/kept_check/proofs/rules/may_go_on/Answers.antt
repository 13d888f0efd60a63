-- The code by which a state goes on is among that of the state.
use Rattle.std.proofs.Common.{◌<◌, ◌^◌, ◌∷◌, [], List}
use Rattle.std.specs.List.{All}
use Rattle.std.proofs.lemmas.List.Elements.{All-head, All-tail}
use Rattle.core_term.specs.CoreTerm.{node_count}
use Rattle.delta_state.specs.StateTree.{LaterTree}
use Rattle.delta_keep.specs.KeptView.{later_of}
use Rattle.kept_check.proofs.rules.may_go_on.Goals as goal

abbrev Fits : LaterTree → Type 0
Fits l = node_count l.term < 2 ^ 32

first_fits : (l : LaterTree) (ls : List LaterTree) → All Fits (l ∷ ls) → Fits l
first_fits l ls a = All-head Fits l ls a

second_fits : (l m : LaterTree) (ls : List LaterTree) → All Fits (l ∷ (m ∷ ls)) → Fits m
second_fits l m ls a = All-head Fits m ls (All-tail Fits l (m ∷ ls) a)

pub has_sides-requires-clause-left : goal.has_sides-requires-clause-left
has_sides-requires-clause-left c =
    let l = later_of c.in-CaseSum.l.value in
    let m = later_of c.in-CaseSum.m.value in
    let fit : All Fits (l ∷ (m ∷ [])) = rw c.in-CaseSum.is at c.requires.size in
    rw c.deref.ensures (first_fits l (m ∷ []) fit)

pub has_sides-requires-clause-right : goal.has_sides-requires-clause-right
has_sides-requires-clause-right c =
    let l = later_of c.in-CaseSum.l.value in
    let m = later_of c.in-CaseSum.m.value in
    let fit : All Fits (l ∷ (m ∷ [])) = rw c.in-CaseSum.is at c.requires.size in
    rw c.deref-in-CaseSum.ensures (second_fits l m [] fit)

pub has_items-requires-clause-left : goal.has_items-requires-clause-left
has_items-requires-clause-left c =
    let l = later_of c.in-CaseStar.l.value in
    let m = later_of c.in-CaseStar.m.value in
    let fit : All Fits (l ∷ (m ∷ [])) = rw c.in-CaseStar.is at c.requires.size in
    rw c.deref-in-CaseStar.ensures (first_fits l (m ∷ []) fit)

pub has_items-requires-clause-right : goal.has_items-requires-clause-right
has_items-requires-clause-right c =
    let l = later_of c.in-CaseStar.l.value in
    let m = later_of c.in-CaseStar.m.value in
    let fit : All Fits (l ∷ (m ∷ [])) = rw c.in-CaseStar.is at c.requires.size in
    rw c.deref-in-CaseStar-2.ensures (second_fits l m [] fit)

pub has_rest-requires-clause-size : goal.has_rest-requires-clause-size
has_rest-requires-clause-size c =
    let l = later_of c.in-Wait.l.value in
    let fit : All Fits (l ∷ []) = rw c.in-Wait.is at c.requires.size in
    rw c.deref-in-Wait.ensures (first_fits l [] fit)

pub returns-in-CaseSum : goal.returns-in-CaseSum
returns-in-CaseSum c = rw c.in-CaseSum.is (rw (c.deref.ensures, c.deref-in-CaseSum.ensures) at c.has_sides.ensures)

pub returns-in-CaseStar : goal.returns-in-CaseStar
returns-in-CaseStar c = rw c.in-CaseStar.is (rw (c.deref-in-CaseStar.ensures, c.deref-in-CaseStar-2.ensures) at c.has_items.ensures)

pub returns-in-Wait : goal.returns-in-Wait
returns-in-Wait c = rw c.in-Wait.is (rw c.deref-in-Wait.ensures at c.has_rest.ensures)
