-- The laws of the depths that a run leaves: where they come from, and that depths which suit calls enough suit them.
use Rattle.std.proofs.Common.{◌≡◌, ◌∙◌, ℕ, ◌+◌, ◌-◌, ◌≤◌, Bool, true, false, true≢false, ◌||◌, List, [], ◌∷◌, map, eqb, arith, ap, subst, sym, refl}
use Rattle.std.specs.List.{All}
use Rattle.std.proofs.lemmas.Bool.{eqb-true}
use Rattle.std.proofs.lemmas.List.Elements.{All-nil, All-cons, All-head, All-tail, All-weaker}
use Rattle.bunch.specs.Names.{holds}
use Rattle.core_term.proofs.Sides.{holds-head}
use Rattle.core_term.proofs.Without.{holds-tail}
use Rattle.delta_state.specs.StateTree.{LaterTree, laters_of}
use Rattle.delta_state.specs.StateMeaning.{run_state}
use Rattle.delta_state.specs.Rest.{rest_of}
use Rattle.other_depths.specs.Depths.{depths_of}
use Rattle.other_depths.specs.Suits.{SuitsAt, ComesFrom}
use Rattle.other_depths.specs.Laws.{DepthsAfter, SuitsAfter}
use Rattle.other_depths.proofs.StatesFrom.{IsThere, state_from}

-- the depths of code in a row
abbrev depths_in : List LaterTree → List ℕ
depths_in ls = map (λ l. l.depth) ls

-- the depth of each code is among the depths of all
all_there : (ls : List LaterTree) → All (IsThere (depths_in ls)) ls
all_there [] = All-nil (IsThere [])
all_there (l ∷ ls) =
    All-cons (IsThere (depths_in (l ∷ ls))) l ls (holds-head l.depth (depths_in ls))
    (All-weaker (IsThere (depths_in ls)) (IsThere (depths_in (l ∷ ls))) (λ i h. holds-tail i.depth l.depth (depths_in ls) h) ls (all_there ls))

pub depths_after : DepthsAfter
depths_after funs s types r env = state_from (depths_of s) funs s types r env (all_there (laters_of s))

-- what holds at the depth of each code holds at each depth that is there
at_depth : (P : ℕ → Type 0) (ls : List LaterTree) → All (λ l. P l.depth) ls → (k : ℕ) → holds k (depths_in ls) ≡ true → P k
at_depth P [] w k h = absurd (true≢false (sym h))
at_depth P (l ∷ ls) w k h = go (eqb k l.depth) refl (at_depth P ls (All-tail (λ l. P l.depth) l ls w) k) h
  where
    go : (b : Bool) → eqb k l.depth ≡ b → (holds k (depths_in ls) ≡ true → P k) → (b || holds k (depths_in ls)) ≡ true → P k
    go true e f h = subst P (sym (eqb-true k l.depth e)) (All-head (λ l. P l.depth) l ls w)
    go false e f h = f h

-- some steps down the other calls are suited
pub down_suits : (g : ℕ → ℕ) (n m k j : ℕ) → SuitsAt g n k → j + m ≤ n → SuitsAt g m (k - j)
down_suits g n m k j w h =
    let e : g (k - j) ≡ g k - j = w.keeps_steps j (omega (arith, h)) in
    record {
      is_deep = omega (arith, h, w.is_deep);
      other_is_deep = omega (arith, h, w.other_is_deep, e);
      keeps_steps = λ i le.
          let less : k - (j + i) ≡ k - j - i = omega arith in
          let f : g (k - (j + i)) ≡ g k - (j + i) = w.keeps_steps (j + i) (omega (arith, h, le)) in
          let o : g (k - j - i) ≡ g k - (j + i) = ap g (sym less) ∙ f in
          omega (arith, o, e);
    }

pub suits_after : SuitsAfter
suits_after g n m funs s types r env w h =
    let made = (run_state funs s types r env).calls in
    All-weaker (λ l. ComesFrom (depths_of s) made l.depth) (λ l. SuitsAt g m l.depth)
    (λ l c.
    let there = at_depth (SuitsAt g n) (laters_of s) w c.before c.is_there in
    subst (SuitsAt g m) (sym c.is_less) (down_suits g n m c.before c.steps there (omega (arith, h, c.in_calls)))) (laters_of (rest_of funs s types r env)) (depths_after funs s types r env)
