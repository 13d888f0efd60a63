-- Where the states of a learned step are shapes, making it again moves the registers.
use Rattle.std.proofs.Common.{◌≡◌, ◌∙◌, ◌≤◌, ℕ, ℤ, List, map, length, ap, sym, subst}
use Rattle.std.specs.List.{All}
use Rattle.event_word.specs.StreamEvent.{StreamEvent}
use Rattle.core_term.specs.CoreTerm.{CoreProgram}
use Rattle.delta_state.specs.StateTree.{StateTree, laters_of}
use Rattle.kept_state.specs.KeptTree.{KeptTree}
use Rattle.machine_kept.specs.Keeping.{KeepsTidy, KeepsSince}
use Rattle.other_numbers.specs.Commutes.{AllCommute}
use Rattle.other_depths.specs.Suits.{Suits}
use Rattle.filled_states.specs.Shifts.{shift}
use Rattle.filled_states.proofs.FilledStates.{filled_after}
use Rattle.filled_states.proofs.ShiftedDepths.{shifts_all, shift_suits}
use Rattle.learned_steps.specs.Learned.{GoesWith, asked_in, state_with}
use Rattle.filled_states.specs.Shape.{filled}
use Rattle.learned_steps.specs.Shapes.{LearnedShapes, LearnedApart}
use Rattle.learned_steps.specs.Laws.{Made, MadeSince, ShapesGo, ShapesGoSince, ShapesGoDeep, ShapesGoDeepSince}
use Rattle.learned_steps.proofs.LearnedGoes.{learned_goes, learned_goes_since}
use Rattle.learned_steps.proofs.DeepEnough.{deep_enough, deep_enough_since}

module _ (c : CoreProgram) (t : LearnedShapes c) (f : ℤ → ℤ) (g : ℕ → ℕ) where
  -- the states with f's numbers at g's depths
  before_with : state_with f g t.step.state ≡ filled t.before (map f t.numbers) (map g t.depths)
  before_with = ap (state_with f g) t.is_before ∙ filled_after f g t.before.numbers t.numbers t.before.depths t.depths t.before.state t.has_numbers t.has_depths

  after_with : state_with f g t.step.next ≡ filled t.after (map f t.numbers_left) (map g t.depths_left)
  after_with = ap (state_with f g) t.is_after ∙ filled_after f g t.after.numbers t.numbers_left t.after.depths t.depths_left t.after.state t.leaves_numbers t.leaves_depths

  module _ (budget events : ℕ) (word : List StreamEvent) where
    made_filled : Made c t.step f (state_with f g t.step.next) budget events word → Made c t.step f (filled t.after (map f t.numbers_left) (map g t.depths_left)) budget events word
    made_filled m = subst (λ (s : StateTree). Made c t.step f s budget events word) after_with m

    made_filled_since : (k : KeptTree) → MadeSince c t.step f (state_with f g t.step.next) budget events k word → MadeSince c t.step f (filled t.after (map f t.numbers_left) (map g t.depths_left)) budget events k word
    made_filled_since k m = subst (λ (s : StateTree). MadeSince c t.step f s budget events k word) after_with m

pub shapes_go : ShapesGo
shapes_go c t f g budget events spent word h few room k =
    made_filled c t f g budget events word
    (learned_goes c t.step f g budget events spent word h few room
    (subst (λ (s : StateTree). KeepsTidy c budget s t.step.awaited t.step.input t.step.output events spent word) (sym (before_with c t f g)) k))

pub shapes_go_since : ShapesGoSince
shapes_go_since c t f g budget events spent k word h few room keeps =
    made_filled_since c t f g budget events word k
    (learned_goes_since c t.step f g budget events spent k word h few room
    (subst (λ (s : StateTree). KeepsSince c budget s t.step.awaited t.step.input t.step.output events spent k word) (sym (before_with c t f g)) keeps))

module _ (c : CoreProgram) (t : LearnedShapes c) (m : ℕ) (f : ℤ → ℤ) (es : List ℕ) (apart : LearnedApart c t m) (commute : AllCommute f (asked_in c t.step)) (same : length t.depths ≡ length es) where
  -- the depths that are there now are those at which it was learned, moved
  now : map (shift t.depths es m) t.depths ≡ es
  now = shifts_all t.depths es m apart.are_spread same

  -- so where they are deep enough the step goes with them
  goes_with : All (λ l. t.step.calls ≤ l.depth) (laters_of (filled t.before (map f t.numbers) es)) → GoesWith c t.step f (shift t.depths es m)
  goes_with deep = record {
    commute = commute;
    suits = subst (λ (s : StateTree). Suits (shift t.depths es m) t.step.calls s) (sym t.is_before)
        (shift_suits t.before.numbers t.numbers (map f t.numbers) t.before.depths t.depths es m t.step.calls t.before.state apart.are_spread apart.are_deep t.has_depths same apart.in_reach deep);
  }

pub shapes_go_deep : ShapesGoDeep
shapes_go_deep c t m f es budget events spent word apart commute same few room k =
    shapes_go c t f (shift t.depths es m) budget events spent word
    (goes_with c t m f es apart commute same (deep_enough c budget (filled t.before (map f t.numbers) es) t.step.awaited t.step.input t.step.output events spent word t.step.calls k room few)) few room
    (subst (λ (ds : List ℕ). KeepsTidy c budget (filled t.before (map f t.numbers) ds) t.step.awaited t.step.input t.step.output events spent word) (sym (now c t m f es apart commute same)) k)

pub shapes_go_deep_since : ShapesGoDeepSince
shapes_go_deep_since c t m f es budget events spent k word apart commute same few room keeps =
    shapes_go_since c t f (shift t.depths es m) budget events spent k word
    (goes_with c t m f es apart commute same (deep_enough_since c budget (filled t.before (map f t.numbers) es) t.step.awaited t.step.input t.step.output events spent k word t.step.calls keeps room few)) few room
    (subst (λ (ds : List ℕ). KeepsSince c budget (filled t.before (map f t.numbers) ds) t.step.awaited t.step.input t.step.output events spent k word) (sym (now c t m f es apart commute same)) keeps)
