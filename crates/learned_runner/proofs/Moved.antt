-- What a runner stands by, told of equal parts.
use Rattle.std.proofs.Common.{◌≡◌, ℕ, Bool, List}
use Rattle.stream_type.specs.StreamType.{StreamType}
use Rattle.event_word.specs.StreamEvent.{StreamEvent}
use Rattle.event_frame.specs.declared.version.Version.{Version}
use Rattle.core_term.specs.CoreTerm.{CoreProgram}
use Rattle.delta_state.specs.StateTree.{StateTree}
use Rattle.machine_parts.specs.AwaitedTree.{AwaitedTree}
use Rattle.machine_kept.specs.Keeping.{KeepsTidy}
use Rattle.delta_loop.specs.Meaning.{Meaning}
use Rattle.learned_runner.specs.Standing.{Runs}
use Rattle.learned_runner.specs.declared.book.Book.{Book}

pub runs_moved : (c d : CoreProgram) (b e : ℕ) (v w : Version) (k l : Book) (x y : Bool) (P : Meaning) → d ≡ c → e ≡ b → w ≡ v → l ≡ k → y ≡ x → Runs c b v k x P → Runs d e w l y P
runs_moved c d b e v w k l x y P h1 h2 h3 h4 h5 r = rw (h1, h2, h3, h4, h5) r

pub keeps_moved : (c d : CoreProgram) (b e : ℕ) (s t : StateTree) (a z : AwaitedTree) (i j o q : StreamType) (n m p u : ℕ) (w : List StreamEvent)
    → d ≡ c → e ≡ b → t ≡ s → z ≡ a → j ≡ i → q ≡ o → m ≡ n → u ≡ p → KeepsTidy c b s a i o n p w → KeepsTidy d e t z j q m u w
keeps_moved c d b e s t a z i j o q n m p u w h1 h2 h3 h4 h5 h6 h7 h8 k = rw (h1, h2, h3, h4, h5, h6, h7, h8) k
