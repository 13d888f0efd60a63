-- Frames and readings, worked out.
use Rattle.std.proofs.Common.{◌≡◌, [], ◌∷◌, ◌++◌, refl}
use Rattle.std.specs.Prelude.{pos, negsuc}
use Rattle.event_word.specs.declared.event.Step.TheVariants.{Left, Right, First}
use Rattle.event_word.specs.declared.event.Leaf.TheVariants.{Int, Cut, End}
use Rattle.event_frame.specs.declared.version.Version.TheVariants.{V1, V2}
use Rattle.event_frame.specs.declared.fault.FrameFault.TheVariants.{BadMagic, LongPath, BadStep, BadLeaf}
use Rattle.event_frame.specs.Frames.{header, frame}
use Rattle.event_frame.specs.Reading.{event, Whole, Inside, Bad, reading, whole, ending}

end_1 : frame V1 (event [] End) ≡ 0x00 ∷ 0x16 ∷ []
end_1 = refl

steps_1 : frame V1 (event (Left ∷ Right ∷ First ∷ []) Cut) ≡ 3 ∷ 1 ∷ 2 ∷ 3 ∷ 0x14 ∷ []
steps_1 = refl

int_2 : frame V2 (event (Left ∷ First ∷ []) (Int (pos 7))) ≡ 0x02 ∷ 0x70 ∷ 0x11 ∷ 0 ∷ 0 ∷ 0 ∷ 0 ∷ 0 ∷ 0 ∷ 0 ∷ 7 ∷ []
int_2 = refl

-- -2 in two's complement
minus_two : frame V1 (event [] (Int (negsuc 1))) ≡ 0 ∷ 0x11 ∷ 255 ∷ 255 ∷ 255 ∷ 255 ∷ 255 ∷ 255 ∷ 255 ∷ 254 ∷ []
minus_two = refl

-- five steps are two bytes
five_2 : frame V2 (event (Left ∷ Left ∷ Right ∷ First ∷ Right ∷ []) End) ≡ 5 ∷ 0x5B ∷ 0x80 ∷ 0x16 ∷ []
five_2 = refl

read_1 : reading (header V1 ++ 0 ∷ 0x16 ∷ []) ≡ record { word = event [] End ∷ []; ending = Whole }
read_1 = refl

read_2 : whole (header V2 ++ 1 ∷ 0xC0 ∷ 0x11 ∷ 0 ∷ 0 ∷ 0 ∷ 0 ∷ 0 ∷ 0 ∷ 0 ∷ 1 ∷ 0 ∷ 0x14 ∷ 0 ∷ 0x11 ∷ 0 ∷ 0 ∷ 0 ∷ 0 ∷ 0 ∷ 0 ∷ 0 ∷ 2 ∷ [])
    ≡ event (First ∷ []) (Int (pos 1)) ∷ event [] Cut ∷ event [] (Int (pos 2)) ∷ []
read_2 = refl

-- nothing, and a part of a frame
nothing : ending [] ≡ Inside
nothing = refl

part : ending (header V1 ++ 1 ∷ 3 ∷ []) ≡ Inside
part = refl

magic : ending (0x44 ∷ 0x45 ∷ 0x56 ∷ 0x33 ∷ []) ≡ Bad (BadMagic 3)
magic = refl

long_1 : ending (header V1 ++ 0x20 ∷ []) ≡ Bad (LongPath 4 32)
long_1 = refl

step_1 : ending (header V1 ++ 1 ∷ 7 ∷ []) ≡ Bad (BadStep 5 7)
step_1 = refl

leaf_1 : ending (header V1 ++ 0 ∷ 0x20 ∷ []) ≡ Bad (BadLeaf 5 0x20)
leaf_1 = refl

-- a bit where no step is to come, and no step where one is to come
unused_2 : ending (header V2 ++ 1 ∷ 0xC1 ∷ []) ≡ Bad (BadStep 5 0xC1)
unused_2 = refl

no_step_2 : ending (header V2 ++ 1 ∷ 0 ∷ []) ≡ Bad (BadStep 5 0)
no_step_2 = refl

long_2 : ending (header V2 ++ 0x40 ∷ []) ≡ Bad (LongPath 4 64)
long_2 = refl
